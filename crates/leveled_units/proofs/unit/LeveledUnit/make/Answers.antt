use Rattle.std.proofs.Common.{◌≡◌, ℕ, zero, suc, [], take, refl, ap, ◌∙◌}
use Rattle.pitch_model.specs.Book.{book_after}
use Rattle.pitch_model.specs.History.{Raw}
use Rattle.client_core.specs.Client.{current_book}
use Rattle.leveled_units.proofs.Starting.{starts_any}
use Rattle.leveled_units.proofs.unit.LeveledUnit.make.Goals as goal

nothing : (n : ℕ) → take {A = Raw} n [] ≡ []
nothing zero = refl
nothing (suc n) = refl

pub invariant_of-result : goal.invariant_of-result
invariant_of-result c =
    starts_any c.first_levels.result (current_book c.in_ok-client.client)
    ((c.in_ok-client.ensures.keeps []).book_is ∙ ap book_after (nothing c.in_ok-client.client.hold.floor)) c.first_levels.ensures
