use Rattle.std.proofs.Common.{rules, arith, ◌≡◌, ◌≤◌, ℕ, List, [], ◌++◌, take, length, length-take, refl, sym, subst, Result, Bool}
use Rattle.venue_net.specs.VenueCalls.{Read}
use Rattle.venue_net.specs.declared.net.InputRead.TheVariants as input
use Rattle.venue_turns.specs.Turning.{Passes}
use Rattle.venue_turns.specs.declared.due.Due.TheVariants as to
use Rattle.venue_turns.specs.declared.turns.VenueTurns.{VenueTurns}
use Rattle.live_venue.specs.Input.{piece_heard, rest_heard}
use Rattle.live_venue.specs.Running.{with_heard}
use Rattle.live_venue.specs.Standing.{Steps}
use Rattle.live_venue.specs.declared.error.ServeError.{ServeError}
use Rattle.live_venue.specs.declared.serving.Serving.{Serving}
use Rattle.live_venue.proofs.Ending.{ends_failed, ends_unheard, steps_same}
use Rattle.live_venue.proofs.Extending.{ext_none, piece_extends, rest_extends}
use Rattle.live_venue.proofs.Going.{calls_on, goes_quietly, heard_extends, run_is, steps_heard}
use Rattle.live_venue.proofs.serving.Serving.read.Goals as goal

pub returns-in_err-fault-in-Got-clause-steps : goal.returns-in_err-fault-in-Got-clause-steps
returns-in_err-fault-in-Got-clause-steps g c = λ start about.
    let bytes : List ℕ = take c.in-Got.count c.read.new.into in
    steps_same c.args.setup.now c.from_residual.result _ start (g.N.VenueNet.calls c.read.new.self) _ c.from_residual.ensures
    (ends_unheard c.args.setup.now start (g.N.VenueNet.calls c.args.net.now) c.args.self.now to.Read about (Read (length c.args.into.now) bytes (input.Got c.in-Got.count)) (g.N.VenueNet.calls c.read.new.self) c.in-Got.ensures.calls tt _)

pub returns-in_err-fault-in-Ended-clause-steps : goal.returns-in_err-fault-in-Ended-clause-steps
returns-in_err-fault-in-Ended-clause-steps g c = λ start about.
    steps_same c.args.setup.now c.from_residual-in_err-fault-in-Ended.result _ start (g.N.VenueNet.calls c.read.new.self) _ c.from_residual-in_err-fault-in-Ended.ensures
    (ends_unheard c.args.setup.now start (g.N.VenueNet.calls c.args.net.now) c.args.self.now to.Read about (Read (length c.args.into.now) [] input.Ended) (g.N.VenueNet.calls c.read.new.self) c.in-Ended.ensures.calls tt _)

pub returns-in_ok-fault-in-Got-clause-steps : goal.returns-in_ok-fault-in-Got-clause-steps
returns-in_ok-fault-in-Got-clause-steps g c = λ start about.
    let s = c.args.setup.now in
    let v : Serving = c.args.self.now in
    let now = about.now in
    let room : ℕ = length c.args.into.now in
    let bytes : List ℕ = take c.in-Got.count c.read.new.into in
    let same : length c.read.new.into ≡ length c.args.into.now = search rules in
    let fits : length bytes ≤ room = omega (arith, same, length-take c.in-Got.count c.read.new.into) in
    let calls = g.N.VenueNet.calls c.args.net.now in
    let calls' = g.N.VenueNet.calls c.read.new.self in
    let calls'' = g.N.VenueNet.calls c.send.new.net in
    let call = Read room bytes (input.Got c.in-Got.count) in
    let heard = piece_heard s now.text bytes now.came in
    let now' = with_heard s heard (now.text ++ bytes) now in
    let has = c.in_ok-fault-in-Got.ensures.heard now about.stands.serve about.stands.read about.stands.idle in
    let v' : Serving = record c.hear_piece.new.self { turns = c.read-in-Got.new.self; outbox = c.send.new.self } in
    let passes = subst (λ (t : VenueTurns). Passes t c.read-in-Got.new.self call) c.in_ok-fault-in-Got.ensures.turns (c.read-in-Got.ensures room c.in-Got.count bytes) in
    subst (λ (r : Result Bool ServeError). Steps s r start calls'' v') (sym c.goes_on.ensures)
    (steps_heard s start calls v to.Read about call c.requires.room calls' c.in-Got.ensures.calls now' (calls_on s start calls v to.Read about call c.requires.room now' refl fits)
    (heard_extends s heard (now.text ++ bytes) now (piece_extends s now.text bytes now.came)) tt v' refl passes calls'' _ c.send.ensures.sends has.serve.queued.waiting has.serve.queued.pieces c.in_ok-fault-in-Got.fault has.fault_is has.read has.serve.stand c.send.ensures.none)

pub returns-in-Quiet-clause-steps : goal.returns-in-Quiet-clause-steps
returns-in-Quiet-clause-steps g c = λ start about.
    let calls = g.N.VenueNet.calls c.args.net.now in
    let room : ℕ = length c.args.into.now in
    let call = Read room [] input.Quiet in
    goes_quietly c.args.setup.now start calls c.args.self.now to.Read about call c.requires.room (g.N.VenueNet.calls c.read.new.self) c.in-Quiet.ensures.calls
    (calls_on c.args.setup.now start calls c.args.self.now to.Read about call c.requires.room about.now refl (omega arith)) tt refl c.input_is_quiet.new.self (c.input_is_quiet.ensures room)

pub returns-in_ok-fault-in-Ended-clause-steps : goal.returns-in_ok-fault-in-Ended-clause-steps
returns-in_ok-fault-in-Ended-clause-steps g c = λ start about.
    let s = c.args.setup.now in
    let v : Serving = c.args.self.now in
    let now = about.now in
    let room : ℕ = length c.args.into.now in
    let calls = g.N.VenueNet.calls c.args.net.now in
    let calls' = g.N.VenueNet.calls c.read.new.self in
    let calls'' = g.N.VenueNet.calls c.send-in-Ended.new.net in
    let call = Read room [] input.Ended in
    let heard = rest_heard s now.text now.came in
    let now' = with_heard s heard now.text now in
    let has = c.in_ok-fault-in-Ended.ensures.heard now about.stands.serve about.stands.read about.stands.idle in
    let v' : Serving = record c.hear_rest.new.self { turns = c.input_ended.new.self; outbox = c.send-in-Ended.new.self } in
    let passes = subst (λ (t : VenueTurns). Passes t c.input_ended.new.self call) c.in_ok-fault-in-Ended.ensures.turns (c.input_ended.ensures room) in
    subst (λ (r : Result Bool ServeError). Steps s r start calls'' v') (sym c.goes_on-in-Ended.ensures)
    (steps_heard s start calls v to.Read about call c.requires.room calls' c.in-Ended.ensures.calls now' (calls_on s start calls v to.Read about call c.requires.room now' refl (omega arith))
    (heard_extends s heard now.text now (rest_extends s now.text now.came)) tt v' refl passes calls'' _ c.send-in-Ended.ensures.sends has.serve.queued.waiting has.serve.queued.pieces c.in_ok-fault-in-Ended.fault has.fault_is has.read has.serve.stand c.send-in-Ended.ensures.none)

pub returns-in-Failed-clause-steps : goal.returns-in-Failed-clause-steps
returns-in-Failed-clause-steps g c = λ start about.
    let s = c.args.setup.now in
    let calls = g.N.VenueNet.calls c.args.net.now in
    let calls' = g.N.VenueNet.calls c.read.new.self in
    let call = Read (length c.args.into.now) [] input.Failed in
    let on = calls_on s start calls c.args.self.now to.Read about call c.requires.room about.now refl (omega arith) in
    ends_failed s start calls' _ about.now (run_is s start calls c.args.self.now to.Read about call c.requires.room calls' c.in-Failed.ensures.calls about.now on (ext_none about.now.came) tt about.stands.is_run.feeds) _ tt
