-- Facts of a source that may be lent to a call.
use Rattle.std.specs.Prelude.{Option, None, Some}
use Rattle.std.specs.Borrow.{MutBor}
use Rattle.std.proofs.Common.{◌⊎◌, inl, inr}

-- the fact of what is lent, if something is
abbrev pub OnLent : {X : Type 0} → Option (MutBor X) → (X → Type 0) → Type 0
OnLent None P = Unit {0}
OnLent (Some r) P = P r.now

-- the fact of what the reference was left with
abbrev pub Left : {X : Type 0} → Unit {0} ⊎ ((MutBor X × Unit {0}) ⊎ ⊥) → (X → Type 0) → Type 0
Left (inl none) P = Unit {0}
Left (inr (inl r)) P = P r.0.now
Left (inr (inr z)) P = Unit {0}

-- the fact where nothing is lent
abbrev pub OnNone : {X : Type 0} → Option (MutBor X) → Type 0 → Type 0
OnNone None P = P
OnNone (Some r) P = Unit {0}
