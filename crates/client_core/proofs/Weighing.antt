-- A client that has heard nothing but that its Spin Server is up has nothing to pass on.
use Rattle.std.proofs.Common.{◌≡◌, ℕ, [], ◌∷◌, refl, ◌∙◌, arith}
use Rattle.pitch_model.specs.History.{SpinUp}
use Rattle.pitch_model.specs.History as model
use Rattle.pitch_model.specs.Reach.{reach_of, held_count, since_overflow}
use Rattle.client_core.specs.Spinning.{IsSpin}
use Rattle.client_core.specs.Tracks.{Tracks}
use Rattle.client_core.specs.Weight.{spin_weight, weight}
use Rattle.client_core.specs.declared.client.UnitClient.{UnitClient}
use Rattle.client_core.specs.declared.spinning.SpinState.{SpinState}
use Rattle.client_core.specs.declared.spinning.SpinState.TheVariants.{NoSpin, Asked, Running}
use Rattle.client_core.proofs.Tracking.{held_number_is}

no_spin : (spin : SpinState) → IsSpin spin model.NoSpin → spin_weight spin ≡ 0
no_spin NoSpin is = refl
no_spin (Asked sequence) is = absurd is
no_spin (Running image) is = absurd is

none_held : (H : ℕ) → held_count (since_overflow H (SpinUp ∷ [])) ≡ 0
unfolding held_count reach_of
none_held H = refl

pub first_weighs : (c : UnitClient) (H : ℕ) → Tracks c H (SpinUp ∷ []) → weight c ≡ 0
first_weighs c H T =
    let held = held_number_is c H (SpinUp ∷ []) T ∙ none_held H in
    let spin = no_spin c.spin T.spin_is in
    omega arith
