-- The items of a stream by relations.
use Rattle.std.specs.Prelude.{◌≡◌, ℕ, ◌<◌, ◌≤◌, Bool, false, List, [], ◌∷◌, ◌++◌, length, take, Ok}
use Rattle.std.specs.Prelude.{Err}
use Rattle.pcap_feed.specs.Stream.{Front}

-- an item has a byte and stands in the bytes, and no judgement but that bytes are missing is
-- changed by more bytes
pub record IsFront {I E : Type 0} (is_cut_off : E → Bool) (front : Front I E) : Type 0 where
  pub fits : (bytes : List ℕ) (found : I × ℕ)
      → front bytes ≡ Ok found → (0 < found.1) × (found.1 ≤ length bytes)
  pub found : (bytes more : List ℕ) (found : I × ℕ)
      → front bytes ≡ Ok found → front (bytes ++ more) ≡ Ok found
  pub lasts : (bytes more : List ℕ) (e : E)
      → front bytes ≡ Err e → is_cut_off e ≡ false → front (bytes ++ more) ≡ Err e

-- ---- The same by a relation: what an item's bytes are
-- the bytes are these items, and then a rest
abbrev pub AreItems : {I : Type 0} → (List ℕ → I → Type 0) → List ℕ → List I → List ℕ → Type 0
AreItems IsItem bytes [] rest = bytes ≡ rest
AreItems IsItem bytes (item ∷ items) rest =
    (front : List ℕ) × (back : List ℕ)
    × (bytes ≡ front ++ back) × IsItem front item × AreItems IsItem back items rest

-- no item stands at the front
abbrev pub BeginsNoItem : {I : Type 0} → (List ℕ → I → Type 0) → List ℕ → Type 0
BeginsNoItem {I = I} IsItem rest =
    (front back : List ℕ) (item : I) → rest ≡ front ++ back → IsItem front item → ⊥

-- the longest list of items at the front of the bytes, and what follows it
pub record CutsItems {I : Type 0}
    (IsItem : List ℕ → I → Type 0) (bytes : List ℕ) (items : List I) (rest : List ℕ) : Type 0 where
  pub whole : AreItems IsItem bytes items rest
  pub longest : BeginsNoItem IsItem rest

-- what stands at the front is what the relation says
pub record JudgesItems {I E : Type 0} (IsItem : List ℕ → I → Type 0) (front : Front I E) :
    Type 0 where
  pub reads : (bytes back : List ℕ) (item : I)
      → IsItem bytes item → front (bytes ++ back) ≡ Ok (item, length bytes)
  pub stands : (bytes : List ℕ) (found : I × ℕ)
      → front bytes ≡ Ok found → IsItem (take found.1 bytes) found.0
