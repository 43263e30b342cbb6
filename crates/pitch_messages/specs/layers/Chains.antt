-- Bytes as the longest chain of raw messages.
use Rattle.std.specs.Prelude.{◌≡◌, ℕ, ◌≤◌, ◌⊎◌, List, ◌++◌, length, drop}
use Rattle.std.specs.Borrow.{Bor}
use Rattle.std.specs.List.{concat, flat_map, AllByRecursion}
use Rattle.pitch_fields.specs.Fields.{AreBytes}
use Rattle.pitch_messages.specs.Raw.{IsRaw, raws_of}

-- no raw stands at the start
abbrev pub BeginsNoRaw : List ℕ → Type 0
BeginsNoRaw bytes = (raw rest : List ℕ) → bytes ≡ raw ++ rest → IsRaw raw → ⊥

-- the longest chain of at most so many raws at the start of the bytes, and what follows it
pub record IsLongestChain (most : ℕ) (bytes : List ℕ) (raws : List (List ℕ)) (rest : List ℕ) :
    Type 0 where
  pub each : AllByRecursion IsRaw raws
  pub whole : bytes ≡ concat raws ++ rest
  pub few : length raws ≤ most
  pub longest : (length raws ≡ most) ⊎ BeginsNoRaw rest

-- the bytes are a chain of just so many raws, with nothing after it
pub record IsChain (count : ℕ) (bytes : List ℕ) : Type 0 where
  pub many : length (raws_of count bytes) ≡ count
  pub whole : concat (raws_of count bytes) ≡ bytes
  pub raws : AllByRecursion IsRaw (raws_of count bytes)

-- what slices hold, end to end
abbrev pub joined : List (Bor (List ℕ)) → List ℕ
joined fields = flat_map (λ (field : Bor (List ℕ)). field.now) fields

-- ---- Laws
-- of bytes, the computed raws are the longest chain
abbrev pub RawsAreLongest : Type 0
RawsAreLongest = (most : ℕ) (bytes : List ℕ) → AreBytes bytes
    → IsLongestChain most bytes
    (raws_of most bytes) (drop (length (concat (raws_of most bytes))) bytes)

-- two longest chains of the same bytes are one
abbrev pub LongestChainIsOne : Type 0
LongestChainIsOne = (most : ℕ) (bytes : List ℕ) (raws others : List (List ℕ)) (rest left : List ℕ)
    → IsLongestChain most bytes raws rest
    → IsLongestChain most bytes others left → (raws ≡ others) × (rest ≡ left)
