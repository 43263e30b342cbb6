use Rattle.std.proofs.Common.{rules, arith, ◌≡◌, ◌≤◌, ℕ, List, [], take, length, length-take, refl, ◌∙◌, sym, ap}
use Rattle.std.proofs.lemmas.Bool.{eq-eqb}
use Rattle.live_net.specs.declared.live.PeerTaken.TheVariants as taken
use Rattle.unit_commands.specs.Pieces.{read_through}
use Rattle.venue_net.specs.VenueCalls.{Take}
use Rattle.venue_turns.specs.declared.due.Due.TheVariants as to
use Rattle.live_venue.specs.declared.serving.Serving.{Serving}
use Rattle.live_venue.proofs.Ending.{ends_unheard, steps_same}
use Rattle.live_venue.proofs.Going.{calls_on, goes_keeping, goes_quietly, goes_sending, left_keeps, took_reads}
use Rattle.live_venue.proofs.serving.Serving.take.Goals as goal

pub returns-in_err-hear_client-in-Got-clause-steps : goal.returns-in_err-hear_client-in-Got-clause-steps
returns-in_err-hear_client-in-Got-clause-steps g c = λ s start about.
    let bytes : List ℕ = take c.in-Got.count c.take.new.into in
    steps_same s c.from_residual.result _ start (g.N.VenueNet.calls c.take.new.self) _ c.from_residual.ensures
    (ends_unheard s start (g.N.VenueNet.calls c.args.net.now) c.args.self.now (to.Take c.args.place) about (Take c.args.place (length c.args.into.now) bytes (taken.Got c.in-Got.count)) (g.N.VenueNet.calls c.take.new.self) c.in-Got.ensures.calls tt _)

pub returns-in_ok-hear_client-in-Got-clause-steps : goal.returns-in_ok-hear_client-in-Got-clause-steps
returns-in_ok-hear_client-in-Got-clause-steps g c = λ s start about.
    let v : Serving = c.args.self.now in
    let bytes : List ℕ = take c.in-Got.count c.take.new.into in
    let room : ℕ = length c.args.into.now in
    let calls = g.N.VenueNet.calls c.args.net.now in
    let calls' = g.N.VenueNet.calls c.take.new.self in
    let call = Take c.args.place room bytes (taken.Got c.in-Got.count) in
    let same : length c.take.new.into ≡ length c.args.into.now = search rules in
    let fits : length bytes ≤ room = omega (arith, same, length-take c.in-Got.count c.take.new.into) in
    let became = c.in_ok-hear_client-in-Got.ensures s about.now about.stands.serve about.stands.idle.sent in
    let reads = took_reads s c.args.place bytes about.now became.0 became.1.0 in
    goes_sending s start calls v (to.Take c.args.place) about call (refl, c.requires.room) calls' c.in-Got.ensures.calls became.0 (calls_on s start calls v (to.Take c.args.place) about call (refl, c.requires.room) became.0 became.1.0 fits) reads.extends tt
    (record v { turns = c.took.new.self; units = c.hear_client.new.units; outbox = c.send.new.self }) refl (c.took.ensures room c.in-Got.count bytes) (g.N.VenueNet.calls c.send.new.net) _ c.send.ensures.sends became.1.1.queued.waiting became.1.1.queued.pieces
    (about.stands.read ∙ ap read_through (sym reads.text)) (reads.fault ∙ about.stands.idle.good) became.1.1.stand c.send.ensures.none

pub returns-in-Quiet-clause-steps : goal.returns-in-Quiet-clause-steps
returns-in-Quiet-clause-steps g c = λ s start about.
    let calls = g.N.VenueNet.calls c.args.net.now in
    let room : ℕ = length c.args.into.now in
    let call = Take c.args.place room [] taken.Quiet in
    goes_quietly s start calls c.args.self.now (to.Take c.args.place) about call (refl, c.requires.room) (g.N.VenueNet.calls c.take.new.self) c.in-Quiet.ensures.calls
    (calls_on s start calls c.args.self.now (to.Take c.args.place) about call (refl, c.requires.room) about.now refl (omega arith)) tt refl c.place_is_quiet.new.self (c.place_is_quiet.ensures room)

pub returns-in-Ended-clause-steps : goal.returns-in-Ended-clause-steps
returns-in-Ended-clause-steps g c = λ s start about.
    let calls = g.N.VenueNet.calls c.args.net.now in
    let room : ℕ = length c.args.into.now in
    let call = Take c.args.place room [] taken.Ended in
    let became = c.end.ensures.goes s about.now about.stands.serve about.stands.idle.sent in
    goes_keeping s start calls c.args.self.now (to.Take c.args.place) about call (refl, c.requires.room) (g.N.VenueNet.calls c.take.new.self) c.in-Ended.ensures.calls became.0
    (calls_on s start calls c.args.self.now (to.Take c.args.place) about call (refl, c.requires.room) became.0 became.1.0 (omega arith)) tt refl c.end.new.self (c.end.ensures.turns call (eq-eqb c.args.place c.args.place refl))
    (left_keeps c.args.place about.now became.0 became.1.0) c.end.ensures.reader became.1.1
