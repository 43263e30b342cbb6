use Rattle.std.proofs.Common.{◌≡◌, ◌<◌, ◌+◌, ℕ, List, ◌++◌, length, refl, ap, ◌∙◌, subst, arith}
use Rattle.std.proofs.lemmas.Option.{slice_get_read}
use Rattle.std.specs.Prelude.{Some, slice_get}
use Rattle.world_model.specs.declared.world.World.{World}
use Rattle.storm_replay.specs.Summary.{ended_lines}
use Rattle.storm_replay.proofs.Lines.{lines_none, lines_next}
use Rattle.storm_replay.proofs.running.append_worlds.Goals as goal

pub units-init : goal.units-init
units-init c = λ before are. lines_none before c.args.out.now.items

pub units-preserved : goal.units-preserved
units-preserved c = λ before are.
    let worlds : List World = c.args.worlds.now in
    let within : c.units.index < length worlds = omega (arith, c.units-test.true, c.requires) in
    let at : slice_get worlds c.units.index ≡ Some c.index-worlds-from.result =
    subst (λ (i : ℕ). slice_get worlds i ≡ Some c.index-worlds-from.result) c.from.ensures
    (slice_get_read worlds (length worlds) c.from.result c.index-worlds-from.result refl (omega (arith, within, c.from.ensures)) c.index-worlds-from.is) in
    lines_next before c.units.index (c.units.index + 1) c.args.out.now.items c.units.out.items _ (omega arith) (c.units.invariant before are) (c.in_ok-append_world.ensures before (are c.units.index c.index-worlds-from.result at))

pub returns : goal.returns
returns c =
    let end : c.units.index ≡ c.args.units = omega (arith, c.units-test.false, c.units.auto.index-end) in
    λ before are. c.units.invariant before are ∙ ap (λ (n : ℕ). c.args.out.now.items ++ ended_lines before n) end
