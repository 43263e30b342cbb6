-- What holds of every hold, and how it is stored.
use Rattle.std.specs.Prelude.{◌≡◌, ℕ, ◌≤◌, ◌<◌, refl, true}
use Rattle.std.specs.FinMap as map
use Rattle.std.specs.Coded.{Coded, code_by, coded×, coded_ℕ, coded_list}
use Rattle.pitch_fields.specs.Limits.{last_sequence, most_held}
use Rattle.hold_buffer.specs.HoldView.{Held, HoldView}

-- a hold is stored as its three parts
abbrev pub coded_hold : Coded HoldView
coded_hold =
    code_by
    (ℕ × (ℕ × Held)) (coded× coded_ℕ (coded× coded_ℕ (map.code coded_ℕ (coded_list coded_ℕ))))
    (λ h. (h.floor, (h.limit, h.held)))
    (λ p. record { floor = p.0; limit = p.1.0; held = p.1.1 }) (λ _. refl)

-- What holds of every hold: its limit is 1 to 65,536, it holds at most so many messages, each above
-- the floor, and sequences end at 4,294,967,294.
pub record IsHold (h : HoldView) : Type 0 where
  pub limited : (0 < h.limit) × (h.limit ≤ most_held)
  pub few : map.len h.held ≤ h.limit
  pub above : (k : ℕ) → map.contains_key h.held k ≡ true → h.floor < k
  pub fits : (k : ℕ) → map.contains_key h.held k ≡ true → k ≤ last_sequence
