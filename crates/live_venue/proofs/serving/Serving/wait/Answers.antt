use Rattle.std.proofs.Common.{refl, ◌∙◌, sym, ap, subst}
use Rattle.live_net.specs.declared.live.WaitEnd.TheVariants as wait_end
use Rattle.unit_commands.specs.Pieces.{read_through}
use Rattle.venue_net.specs.VenueCalls.{Wait}
use Rattle.venue_turns.specs.Turning.{Passes}
use Rattle.venue_turns.specs.declared.due.Due.TheVariants as to
use Rattle.venue_turns.specs.declared.turns.VenueTurns.{VenueTurns}
use Rattle.live_venue.specs.declared.serving.Serving.{Serving}
use Rattle.live_venue.proofs.Ending.{ends_failed, ends_over, ends_unheard, steps_same}
use Rattle.live_venue.proofs.Extending.{ext_none}
use Rattle.live_venue.proofs.Going.{calls_on, goes_quietly, goes_sending, run_is, second_reads}
use Rattle.live_venue.proofs.serving.Serving.wait.Goals as goal

pub returns-in-Ready-clause-steps : goal.returns-in-Ready-clause-steps
returns-in-Ready-clause-steps g c = λ start about.
    let s = c.args.setup.now in
    let calls = g.N.VenueNet.calls c.args.net.now in
    let call = Wait c.args.more wait_end.Ready in
    goes_quietly s start calls c.args.self.now (to.Wait c.args.more) about call refl (g.N.VenueNet.calls c.wait.new.self) c.in-Ready.ensures.calls
    (calls_on s start calls c.args.self.now (to.Wait c.args.more) about call refl about.now refl tt) tt refl c.woken.new.self (c.woken.ensures c.args.more)

pub returns-in_err-pass_second-in-Second-clause-steps : goal.returns-in_err-pass_second-in-Second-clause-steps
returns-in_err-pass_second-in-Second-clause-steps g c = λ start about.
    let s = c.args.setup.now in
    steps_same s c.from_residual.result _ start (g.N.VenueNet.calls c.wait.new.self) _ c.from_residual.ensures
    (ends_unheard s start (g.N.VenueNet.calls c.args.net.now) c.args.self.now (to.Wait c.args.more) about (Wait c.args.more wait_end.Second) (g.N.VenueNet.calls c.wait.new.self) c.in-Second.ensures.calls tt _)

pub returns-in_ok-pass_second-in-Second-clause-steps : goal.returns-in_ok-pass_second-in-Second-clause-steps
returns-in_ok-pass_second-in-Second-clause-steps g c = λ start about.
    let s = c.args.setup.now in
    let v : Serving = c.args.self.now in
    let calls = g.N.VenueNet.calls c.args.net.now in
    let calls' = g.N.VenueNet.calls c.wait.new.self in
    let calls'' = g.N.VenueNet.calls c.send.new.net in
    let call = Wait c.args.more wait_end.Second in
    let became = c.in_ok-pass_second-in-Second.ensures.passes about.now about.stands.serve about.stands.idle.sent in
    let reads = second_reads s about.now became.0 became.1.0 in
    goes_sending s start calls v (to.Wait c.args.more) about call refl calls' c.in-Second.ensures.calls became.0 (calls_on s start calls v (to.Wait c.args.more) about call refl became.0 became.1.0 tt) reads.extends tt
    (record c.pass_second.new.self { turns = c.second.new.self; outbox = c.send.new.self }) refl (subst (λ (t : VenueTurns). Passes t c.second.new.self call) c.pass_second.ensures.turns (c.second.ensures c.args.more)) calls'' _ c.send.ensures.sends became.1.1.queued.waiting became.1.1.queued.pieces
    (c.pass_second.ensures.reader ∙ about.stands.read ∙ ap read_through (sym reads.text)) (reads.fault ∙ about.stands.idle.good) became.1.1.stand c.send.ensures.none

pub returns-in-Over-clause-steps : goal.returns-in-Over-clause-steps
returns-in-Over-clause-steps g c = λ start about.
    let s = c.args.setup.now in
    let calls = g.N.VenueNet.calls c.args.net.now in
    let calls' = g.N.VenueNet.calls c.wait.new.self in
    let call = Wait c.args.more wait_end.Over in
    let on = calls_on s start calls c.args.self.now (to.Wait c.args.more) about call refl about.now refl tt in
    ends_over s start calls' _ about.now (run_is s start calls c.args.self.now (to.Wait c.args.more) about call refl calls' c.in-Over.ensures.calls about.now on (ext_none about.now.came) tt about.stands.is_run.feeds) _ tt about.stands.serve.stand

pub returns-in-Failed-clause-steps : goal.returns-in-Failed-clause-steps
returns-in-Failed-clause-steps g c = λ start about.
    let s = c.args.setup.now in
    let calls = g.N.VenueNet.calls c.args.net.now in
    let calls' = g.N.VenueNet.calls c.wait.new.self in
    let call = Wait c.args.more wait_end.Failed in
    let on = calls_on s start calls c.args.self.now (to.Wait c.args.more) about call refl about.now refl tt in
    ends_failed s start calls' _ about.now (run_is s start calls c.args.self.now (to.Wait c.args.more) about call refl calls' c.in-Failed.ensures.calls about.now on (ext_none about.now.came) tt about.stands.is_run.feeds) _ tt
