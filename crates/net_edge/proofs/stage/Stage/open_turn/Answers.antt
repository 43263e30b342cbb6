use Rattle.pitch_model.proofs.Results.{at_exit}
use Rattle.std.proofs.lemmas.Result.{IfErr-weaker, on_ok_weaker}
use Rattle.net_edge.specs.Due.{Setting, setting}
use Rattle.net_edge.proofs.Breaking.{breaks_here}
use Rattle.net_edge.proofs.Publishing.{pieces_in, plays_a, sent_at, turn_goes}
use Rattle.net_edge.proofs.stage.Stage.open_turn.Goals as goal

pub returns-clause-opened : goal.returns-clause-opened
returns-clause-opened g c = on_ok_weaker c.beat_if_tenth.result (λ beats base now b.
    let s : Setting = setting c.args.number c.args.count in
    turn_goes g.V.Venue.is s base c.args.turn _ c.args.self.now now b c.in_ok-datagrams.datagrams.items c.in_ok-datagrams.ensures.datagrams
    _ c.lost-lost_on_a.result c.as_slice.result.now c.as_slice.ensures c.in_ok-send_unless.ensures.sent
    _ c.lost-lost_on_b.result c.as_slice-2.result.now c.as_slice-2.ensures c.in_ok-send_unless-2.ensures.sent
    c.accept_next.new.self c.in_ok-datagrams.ensures.becomes
    c.lost-lost_on_a.ensures c.lost-lost_on_b.ensures c.requires.some
    _ c.beat_if_tenth.new.self (beats s base)) c.beat_if_tenth.ensures.beaten

pub returns-clause-broke : goal.returns-clause-broke
returns-clause-broke g c = IfErr-weaker c.beat_if_tenth.result _ _ (λ error broke base now b.
    let s : Setting = setting c.args.number c.args.count in
    broke s base _ (sent_at g.V.Venue.is s base c.args.turn _ c.args.self.now now b c.in_ok-datagrams.datagrams.items c.in_ok-datagrams.ensures.datagrams
    _ c.lost-lost_on_a.result c.as_slice.result.now c.as_slice.ensures c.in_ok-send_unless.ensures.sent
    _ c.lost-lost_on_b.result c.as_slice-2.result.now c.as_slice-2.ensures c.in_ok-send_unless-2.ensures.sent
    c.accept_next.new.self c.in_ok-datagrams.ensures.becomes) b.turn_is) c.beat_if_tenth.ensures.broke

pub returns-in_err-datagrams-clause-broke : goal.returns-in_err-datagrams-clause-broke
returns-in_err-datagrams-clause-broke g c = at_exit _ c.from_residual.result _ c.from_residual.ensures
    (λ base now b. breaks_here (setting c.args.number c.args.count) base _ now b.plays)

pub returns-in_err-send_unless-clause-broke : goal.returns-in_err-send_unless-clause-broke
returns-in_err-send_unless-clause-broke g c = at_exit _ c.from_residual-in_err-send_unless.result _ c.from_residual-in_err-send_unless.ensures
    (λ base now b.
    let s : Setting = setting c.args.number c.args.count in
    c.in_err-send_unless.ensures.broke s base now b.plays
    (pieces_in g.V.Venue.is s base c.args.turn _ c.args.self.now now b c.in_ok-datagrams.datagrams.items c.in_ok-datagrams.ensures.datagrams
    c.as_slice.result.now c.as_slice.ensures))

pub returns-in_err-send_unless-2-clause-broke : goal.returns-in_err-send_unless-2-clause-broke
returns-in_err-send_unless-2-clause-broke g c = at_exit _ c.from_residual-in_err-send_unless-2.result _ c.from_residual-in_err-send_unless-2.ensures
    (λ base now b.
    let s : Setting = setting c.args.number c.args.count in
    c.in_err-send_unless-2.ensures.broke s base _
    (plays_a g.V.Venue.is s base c.args.turn _ c.args.self.now now b c.in_ok-datagrams.datagrams.items c.in_ok-datagrams.ensures.datagrams
    _ c.lost-lost_on_a.result c.as_slice.result.now c.as_slice.ensures c.in_ok-send_unless.ensures.sent)
    (pieces_in g.V.Venue.is s base c.args.turn _ c.args.self.now now b c.in_ok-datagrams.datagrams.items c.in_ok-datagrams.ensures.datagrams
    c.as_slice-2.result.now c.as_slice-2.ensures))
