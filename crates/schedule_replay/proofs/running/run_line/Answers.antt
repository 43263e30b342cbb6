use Rattle.std.proofs.Common.{arith, ◌≡◌, ◌<◌, ℕ, List, ◌∷◌, ◌++◌, Option, Some, length, refl, sym, subst}
use Rattle.std.proofs.Math.ListN.{set}
use Rattle.std.specs.List.{slice_get}
use Rattle.std.proofs.lemmas.Option.{slice_get_read}
use Rattle.pitch_text.specs.declared.verb.ScheduleEntry.{ScheduleEntry}
use Rattle.world_model.specs.declared.world.World.{World}
use Rattle.schedule_replay.specs.Replay.{replay_line}
use Rattle.schedule_replay.specs.layers.Places.{ArePlaces, IsPlace}
use Rattle.schedule_replay.proofs.Places.{places_more}
use Rattle.pitch_model.proofs.Results.{on_ok_map}
use Rattle.schedule_replay.proofs.running.run_line.Goals as goal

pub returns-clause-places : goal.returns-clause-places
returns-clause-places g c =
    let e : ScheduleEntry = c.args.entry.now in
    let places : List (Option World) = c.args.places.now.items in
    let within : e.unit < 65 = omega (arith, c.requires.given.in_range.1) in
    let at : slice_get places e.unit ≡ Some c.index_mut.result.now =
    subst (λ (u : ℕ). slice_get places u ≡ Some c.index_mut.result.now) c.from.ensures
    (slice_get_read places (length places) c.from.result c.index_mut.result.now refl (omega (arith, within, c.requires.many, c.from.ensures)) c.index_mut.ensures.value) in
    on_ok_map ((before : List ScheduleEntry) → IsPlace before e.unit c.index_mut.result.now → IsPlace (e ∷ before) e.unit c.run_in.new.place)
    ((before : List ScheduleEntry) → ArePlaces before places → ArePlaces (e ∷ before) (set places c.from.result c.run_in.new.place)) c.run_in.result c.run_in.ensures.world
    (λ world before are. subst (λ (u : ℕ). ArePlaces (e ∷ before) (set places u c.run_in.new.place)) (sym c.from.ensures)
    (places_more places e before c.run_in.new.place within are (world before (are.each e.unit c.index_mut.result.now at))))

pub returns-clause-text : goal.returns-clause-text
returns-clause-text g c =
    let e : ScheduleEntry = c.args.entry.now in
    let places : List (Option World) = c.args.places.now.items in
    let at : slice_get places e.unit ≡ Some c.index_mut.result.now =
    subst (λ (u : ℕ). slice_get places u ≡ Some c.index_mut.result.now) c.from.ensures
    (slice_get_read places (length places) c.from.result c.index_mut.result.now refl (omega (arith, c.requires.given.in_range.1, c.requires.many, c.from.ensures)) c.index_mut.ensures.value) in
    on_ok_map ((before : List ScheduleEntry) → IsPlace before e.unit c.index_mut.result.now → c.run_in.new.out.items ≡ c.args.out.now.items ++ replay_line before e)
    ((before : List ScheduleEntry) → ArePlaces before places → c.run_in.new.out.items ≡ c.args.out.now.items ++ replay_line before e) c.run_in.result c.run_in.ensures.text
    (λ text before are. text before (are.each e.unit c.index_mut.result.now at))
