-- What a client that is behind asks for, against what it lacks.
use Rattle.std.specs.Prelude.{◌≡◌, ℕ, ◌+◌, ◌≤◌, ◌<◌, true, false, List, Some, unwrap_or}
use Rattle.pitch_model.specs.History.{Entry, spin_of}
use Rattle.pitch_model.specs.Reach.{reach, is_held}
use Rattle.pitch_model.specs.Status.{top_of}
use Rattle.pitch_model.specs.Asking.{is_grp_up, is_spin_up, owes, advertised_of, is_idle}

-- a gap request begins with the message after the reach, asks for at least one and at most 100
-- messages, for none that is held and for none above the top; and the proxy is up and owes no reply
pub record IsGapAsk (H : ℕ) (E : List Entry) (first count : ℕ) : Type 0 where
  pub first_is : first ≡ reach H E + 1
  pub some : 1 ≤ count
  pub most : count ≤ 100
  pub within : first + count ≤ unwrap_or (top_of E) 0 + 1
  pub lacking : (k : ℕ) → first ≤ k → k < first + count → is_held H E k ≡ false
  pub is_up : is_grp_up E ≡ true
  pub is_free : owes E ≡ false

-- a spin request names the greatest sequence that was advertised, which is above the reach; and the
-- Spin Server is up and no spin is under way
pub record IsSpinAsk (H : ℕ) (E : List Entry) (sequence : ℕ) : Type 0 where
  pub newest : advertised_of E ≡ Some sequence
  pub above : reach H E < sequence
  pub is_up : is_spin_up E ≡ true
  pub is_free : is_idle (spin_of E) ≡ true
