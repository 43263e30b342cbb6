-- How far what was heard reaches, and what is held beyond.
use Rattle.std.specs.Prelude.{◌≡◌, ℕ, zero, suc, ◌≤◌, ◌<◌, Bool, true, false, ◌&&◌, ◌||◌}
use Rattle.std.specs.Prelude.{List, [], ◌∷◌, ◌++◌, map, filter, nat_eq, nat_lt, ◌==◌, max}
use Rattle.std.specs.Prelude.{if◌then◌else◌}
use Rattle.std.specs.Set.{is_member, distinct_count}
use Rattle.pitch_model.specs.History.{Entry, images_at, messages_at, spin_of}

-- what was heard since the hold last overflowed: where the reach stood then, the sequences of the
-- images that were finished since, and those of the messages that came since, the one that
-- overflowed included
pub record SinceOverflow : Type 0 where
  pub base : ℕ
  pub images : List ℕ
  pub seen : List ℕ

-- an anchor is a place from which messages run on: the base, or a finished image
abbrev pub is_anchor : SinceOverflow → ℕ → Bool
is_anchor P k = k == P.base || is_member nat_eq P.images k

-- a message with this sequence came
abbrev pub is_seen : SinceOverflow → ℕ → Bool
is_seen P k = is_member nat_eq P.seen k

-- some anchor is at most k, and every message after it and up to k came
pub record Joined (P : SinceOverflow) (k : ℕ) : Type 0 where
  pub anchor : ℕ
  pub is_anchored : is_anchor P anchor ≡ true
  pub below : anchor ≤ k
  pub run : (j : ℕ) → anchor < j → j ≤ k → is_seen P j ≡ true

-- the reach: the greatest number that is joined to an anchor
pub record IsReach (P : SinceOverflow) (k : ℕ) : Type 0 where
  pub joined : Joined P k
  pub greatest : (m : ℕ) → Joined P m → m ≤ k

-- ---- The reach as a function
-- k is an anchor, or it came and k - 1 is joined
abbrev pub is_joined : SinceOverflow → ℕ → Bool
is_joined P zero = is_anchor P zero
is_joined P (suc k) = is_anchor P (suc k) || (is_seen P (suc k) && is_joined P k)

-- the greatest number at most n that passes a test, or 0
abbrev pub greatest : (ℕ → Bool) → ℕ → ℕ
greatest p zero = zero
greatest p (suc n) = if p (suc n) then suc n else greatest p n

abbrev pub largest : List ℕ → ℕ
largest [] = 0
largest (x ∷ xs) = max x (largest xs)

-- no number above this one is an anchor or came
abbrev pub top_since : SinceOverflow → ℕ
top_since P = max P.base (max (largest P.images) (largest P.seen))

-- the greatest number that is joined
unfoldable pub reach_of : SinceOverflow → ℕ
reach_of P = greatest (is_joined P) (top_since P)

-- ---- What is held
-- the messages that came and are above the reach
abbrev pub held_of : SinceOverflow → List ℕ
held_of P = filter (λ k. nat_lt (reach_of P) k) P.seen

-- how many sequences these have
unfoldable pub held_count : SinceOverflow → ℕ
held_count P = distinct_count nat_eq (held_of P)

-- ---- Along a history
-- what was heard, with one more entry's images and messages
abbrev pub grown : SinceOverflow → List ℕ → List ℕ → SinceOverflow
grown P images messages =
    record { base = P.base; images = images ++ P.images; seen = messages ++ P.seen }

-- an overflow: a message with which more than H are held
abbrev pub overflows : ℕ → SinceOverflow → List ℕ → Bool
overflows H P [] = false
overflows H P (k ∷ ks) = nat_lt H (held_count P)

-- at an overflow the reach becomes the base, and the message is all that came
abbrev pub settled : ℕ → SinceOverflow → List ℕ → SinceOverflow
settled H P messages =
    if overflows H P messages then record { base = reach_of P; images = []; seen = messages } else P

abbrev pub sequences : {X : Type 0} → List (ℕ × X) → List ℕ
sequences xs = map (λ x. x.0) xs

-- what was heard, with an entry that comes after a history
abbrev pub grown_at : SinceOverflow → List Entry → Entry → SinceOverflow
grown_at P E entry =
    grown P (sequences (images_at entry (spin_of E))) (sequences (messages_at entry))

-- what was heard since the last overflow of a history, where the hold has H places
abbrev pub since_overflow : ℕ → List Entry → SinceOverflow
since_overflow H [] = record { base = 0; images = []; seen = [] }
since_overflow H (entry ∷ E) =
    settled H (grown_at (since_overflow H E) E entry) (sequences (messages_at entry))

-- an entry with which the hold overflows
abbrev pub is_overflow : ℕ → List Entry → Entry → Bool
is_overflow H E entry =
    overflows H (grown_at (since_overflow H E) E entry) (sequences (messages_at entry))

-- the reach after a history
abbrev pub reach : ℕ → List Entry → ℕ
reach H E = reach_of (since_overflow H E)

-- the message k came and is above the reach
abbrev pub is_held : ℕ → List Entry → ℕ → Bool
is_held H E k = nat_lt (reach H E) k && is_seen (since_overflow H E) k
