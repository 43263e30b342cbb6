-- What one entry does to the reach and to what is held.
use Rattle.std.specs.Prelude.{◌≡◌, ℕ, ◌+◌, ◌<◌, ◌≤◌, Bool, true, false, ◌&&◌, nat_lt, List, ◌∷◌}
use Rattle.pitch_model.specs.History.{Entry}
use Rattle.pitch_model.specs.Reach.{SinceOverflow, reach_of, is_seen, since_overflow, reach}
use Rattle.pitch_model.specs.Reach.{is_held, is_overflow}

-- the reach and what is held are after E' what they were after E
pub record SameReach (H : ℕ) (E E' : List Entry) : Type 0 where
  pub reach_is : reach H E' ≡ reach H E
  pub held_are : (k : ℕ) → is_held H E' k ≡ is_held H E k

-- the hold overflows with the entry or does not, the reach is n then, and these sequences are held
pub record Leaves (H : ℕ)
    (E : List Entry) (entry : Entry) (overflow : Bool) (n : ℕ) (held : ℕ → Bool) : Type 0 where
  pub overflow_is : is_overflow H E entry ≡ overflow
  pub reach_is : reach H (entry ∷ E) ≡ n
  pub held_are : (k : ℕ) → is_held H (entry ∷ E) k ≡ held k

-- the reach is at least `from`; all that is between was held, and what follows was not;
-- those beyond are still held
pub record RunsOn (P : SinceOverflow) (from : ℕ) (held : ℕ → Bool) : Type 0 where
  pub up : from ≤ reach_of P
  pub run : (j : ℕ) → from < j → j ≤ reach_of P → held j ≡ true
  pub stop : held (reach_of P + 1) ≡ false
  pub rest : (k : ℕ) → (nat_lt (reach_of P) k && is_seen P k) ≡ (nat_lt (reach_of P) k && held k)

-- the hold does not overflow with the entry; the reach rises to `from`, and on through the messages
-- held that follow it without a break
pub record Drains (H : ℕ) (E : List Entry) (entry : Entry) (from : ℕ) : Type 0 where
  pub calm : is_overflow H E entry ≡ false
  pub runs : RunsOn (since_overflow H (entry ∷ E)) from (is_held H E)
