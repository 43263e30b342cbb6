use Rattle.std.proofs.Common.{refl}
use Rattle.pitch_model.proofs.Results.{at_exit}
use Rattle.pitch_io.specs.declared.net.LinkEnd.TheVariants.{GrpClient, GrpServer, SpinClient, SpinServer}
use Rattle.net_edge.proofs.Emptying.{put_more}
use Rattle.net_edge.proofs.stage.Stage.put_all.Goals as goal

pub returns-in_err-put_waiting-clause-broke : goal.returns-in_err-put_waiting-clause-broke
returns-in_err-put_waiting-clause-broke g c = at_exit _ c.from_residual.result _ c.from_residual.ensures
    (λ s base now at. c.in_err-put_waiting.ensures.broke s base _ _ at.holds refl at.plays)

pub returns-in_err-put_waiting-2-clause-broke : goal.returns-in_err-put_waiting-2-clause-broke
returns-in_err-put_waiting-2-clause-broke g c = at_exit _ c.from_residual-in_err-put_waiting-2.result _ c.from_residual-in_err-put_waiting-2.ensures (λ s base now at.
    let at1 = put_more GrpServer c.in_ok-put_waiting.ensures.becomes c.in_ok-put_waiting.ensures.plays at in
    c.in_err-put_waiting-2.ensures.broke s base _ _ at1.holds refl at1.plays)

pub returns-in_err-put_waiting-3-clause-broke : goal.returns-in_err-put_waiting-3-clause-broke
returns-in_err-put_waiting-3-clause-broke g c = at_exit _ c.from_residual-in_err-put_waiting-3.result _ c.from_residual-in_err-put_waiting-3.ensures (λ s base now at.
    let at2 = put_more SpinServer c.in_ok-put_waiting-2.ensures.becomes c.in_ok-put_waiting-2.ensures.plays (put_more GrpServer c.in_ok-put_waiting.ensures.becomes c.in_ok-put_waiting.ensures.plays at) in
    c.in_err-put_waiting-3.ensures.broke s base _ _ at2.holds refl at2.plays)

pub returns-in_err-put_waiting-4-clause-broke : goal.returns-in_err-put_waiting-4-clause-broke
returns-in_err-put_waiting-4-clause-broke g c = at_exit _ c.from_residual-in_err-put_waiting-4.result _ c.from_residual-in_err-put_waiting-4.ensures (λ s base now at.
    let at2 = put_more SpinServer c.in_ok-put_waiting-2.ensures.becomes c.in_ok-put_waiting-2.ensures.plays (put_more GrpServer c.in_ok-put_waiting.ensures.becomes c.in_ok-put_waiting.ensures.plays at) in
    let at3 = put_more GrpClient c.in_ok-put_waiting-3.ensures.becomes c.in_ok-put_waiting-3.ensures.plays at2 in
    c.in_err-put_waiting-4.ensures.broke s base _ _ at3.holds refl at3.plays)

pub returns-clause-put : goal.returns-clause-put
returns-clause-put g c = λ s base now at.
    let at2 = put_more SpinServer c.in_ok-put_waiting-2.ensures.becomes c.in_ok-put_waiting-2.ensures.plays (put_more GrpServer c.in_ok-put_waiting.ensures.becomes c.in_ok-put_waiting.ensures.plays at) in
    put_more SpinClient c.in_ok-put_waiting-4.ensures.becomes c.in_ok-put_waiting-4.ensures.plays (put_more GrpClient c.in_ok-put_waiting-3.ensures.becomes c.in_ok-put_waiting-3.ensures.plays at2)
