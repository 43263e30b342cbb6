-- The messages of an image: raws that a link hands out, with few adds.
use Rattle.std.proofs.Common.{◌≡◌, ℕ, ◌≤◌, Bool, true, false, ◌||◌, ◌==◌, List, [], ◌∷◌, take, cond, sym, ap, ◌∙◌, subst, arith, length-take}
use Rattle.std.specs.List.{AllByRecursion}
use Rattle.std.proofs.lemmas.Bool.Decides.{nat_tests}
use Rattle.pitch_fields.proofs.Lists.{all_take}
use Rattle.pitch_fields.specs.Fields.{AreBytes}
use Rattle.pitch_messages.specs.Raw.{IsRaw, kind_of}
use Rattle.pitch_messages.specs.Session.{session_reads}
use Rattle.session_ends.specs.Saying.{is_read, said_by}
use Rattle.session_ends.specs.declared.role.Role.TheVariants.{SpinLink}
use Rattle.session_ends.specs.declared.role.Said.TheVariants.{Skipped}
use Rattle.pitch_model.specs.Book.{book_after}
use Rattle.pitch_model.specs.History.{adds}
use Rattle.pitch_model.specs.Image.{IsOfImage, image, image_of}
use Rattle.pitch_model.proofs.Books.{book_after_len}
use Rattle.pitch_model.proofs.ImageRaws.{adds_image, image_kinds, image_raws as book_raws}
use Rattle.pitch_model.proofs.Images.{image_is}
use Rattle.pitch_model.proofs.Widths.{book_after_fits}
use Rattle.spin_path.proofs.Pieces.{IsOther}

pub image_raws : (V : List (List ℕ)) (n : ℕ) → AllByRecursion AreBytes V → AllByRecursion IsRaw (image V n)
image_raws V n bytes =
    subst (λ (raws : List (List ℕ)). AllByRecursion IsRaw raws) (sym (image_is V n)) (book_raws (book_after (take n V)) (book_after_fits (take n V) (all_take AreBytes n V bytes)))

-- a link reads none of an image's types
not_read : (k : ℕ) → (k == 0x20 || (k == 0x31 || (k == 0x21 || k == 0x22 || k == 0x2f))) ≡ true → is_read SpinLink k ≡ false
not_read k is = grind (arith, nat_tests, is)

other_of_kind : (raw : List ℕ) → IsOfImage raw → IsOther raw
other_of_kind raw kind = ap (λ (b : Bool). cond b (said_by (session_reads raw)) Skipped) (not_read (kind_of raw) kind)

others_of_kinds : (raws : List (List ℕ)) → AllByRecursion IsOfImage raws → AllByRecursion IsOther raws
others_of_kinds [] all = tt
others_of_kinds (raw ∷ raws) all = (other_of_kind raw all.0, others_of_kinds raws all.1)

pub image_others : (V : List (List ℕ)) (n : ℕ) → AllByRecursion IsOther (image V n)
image_others V n = subst (λ (raws : List (List ℕ)). AllByRecursion IsOther raws) (sym (image_is V n)) (others_of_kinds (image_of (book_after (take n V))) (image_kinds (book_after (take n V))))

pub image_adds : (V : List (List ℕ)) (n : ℕ) → adds (image V n) ≤ n
image_adds V n =
    let some = ap adds (image_is V n) ∙ adds_image (book_after (take n V)) in
    let few = book_after_len (take n V) in
    omega (arith, some, few, length-take {A = List ℕ} n V)
