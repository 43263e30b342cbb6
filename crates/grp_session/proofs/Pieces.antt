-- Lists of pieces of a venue's feed.
use Rattle.std.proofs.Common.{◌≡◌, ℕ, zero, suc, List, [], ◌∷◌, ◌++◌, drop, sym, ◌∙◌, subst, arith, Option, Some, None}
use Rattle.std.specs.List.{AllByRecursion, slice_get, flat_map}
use Rattle.std.proofs.lemmas.Option.{slice_get_past}
use Rattle.unit_packets.specs.Cutting.{blocks_of}
use Rattle.pitch_model.specs.History.{Raw}
use Rattle.heard_items.specs.Datagrams.{IsPiece, IsVenueBlock}
use Rattle.heard_items.proofs.Datagrams.{piece_more}

all_append : {A : Type 0} (P : A → Type 0) (xs ys : List A) → AllByRecursion P xs → AllByRecursion P ys → AllByRecursion P (xs ++ ys)
all_append P [] ys a b = b
all_append P (x ∷ xs) ys a b = (a.0, all_append P xs ys a.1 b)

module _ (V : List Raw) (unit : ℕ) where
  abbrev pub Pieces : List (List ℕ) → Type 0
  Pieces datagrams = AllByRecursion (IsPiece V unit) datagrams

  pub pieces_append : (xs ys : List (List ℕ)) → Pieces xs → Pieces ys → Pieces (xs ++ ys)
  pieces_append xs ys a b = all_append (IsPiece V unit) xs ys a b

  pub pieces_after : (n : ℕ) (datagrams : List (List ℕ)) → Pieces datagrams → Pieces (drop n datagrams)
  pieces_after zero datagrams all = all
  pieces_after (suc n) [] all = tt
  pieces_after (suc n) (d ∷ datagrams) all = pieces_after n datagrams all.1

  pub piece_at : (n : ℕ) (datagrams : List (List ℕ)) (d : List ℕ) → Pieces datagrams → slice_get datagrams n ≡ Some d → IsPiece V unit d
  piece_at n [] d all at = absurd (none_some (sym (slice_get_past [] n (omega arith)) ∙ at))
    where
      none_some : ◌≡◌ {A = Option (List ℕ)} None (Some d) → ⊥
      none_some e = cc
  piece_at zero (x ∷ datagrams) d all at = subst (IsPiece V unit) (some_one x d at) all.0
    where
      some_one : (a b : List ℕ) → ◌≡◌ {A = Option (List ℕ)} (Some a) (Some b) → a ≡ b
      some_one a b e = cc
  piece_at (suc n) (x ∷ datagrams) d all at = piece_at n datagrams d all.1 at

  -- their blocks are the venue's
  pub blocks_of_pieces : (datagrams : List (List ℕ)) → Pieces datagrams → AllByRecursion (IsVenueBlock V unit) (flat_map blocks_of datagrams)
  blocks_of_pieces [] all = tt
  blocks_of_pieces (d ∷ datagrams) all = all_append (IsVenueBlock V unit) (blocks_of d) (flat_map blocks_of datagrams) (all.0).blocks (blocks_of_pieces datagrams all.1)

  -- the venue accepts more
  pub pieces_more : (more : List Raw) (datagrams : List (List ℕ)) → Pieces datagrams → AllByRecursion (IsPiece (V ++ more) unit) datagrams
  pieces_more more [] all = tt
  pieces_more more (d ∷ datagrams) all = (piece_more V more unit d all.0, pieces_more more datagrams all.1)
