use Rattle.std.proofs.Common.{◌≡◌, List, [], Vec, Global, sym, subst}
use Rattle.schedule_replay.specs.layers.Stretches.{list_at}
use Rattle.schedule_replay.specs.declared.stretches.Stretch.{Stretch}
use Rattle.schedule_replay.proofs.Cutting.{no_list_more}
use Rattle.schedule_replay.proofs.stretches.no_lists.Goals as goal

pub lists-preserved : goal.lists-preserved
lists-preserved c = λ unit.
    subst (λ (l : List (Vec Stretch Global)). list_at l unit ≡ []) (sym c.in_ok-push.ensures.items) (no_list_more c.lists.lists.items _ c.new.ensures.items c.lists.invariant unit)
