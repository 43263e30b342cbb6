-- Messages are appended one after another, and an image is found among those that are kept.
use Rattle.std.proofs.Common.{◌≡◌, ℕ, zero, suc, ◌+◌, ◌==◌, ◌||◌, Bool, true, false, List, [], ◌∷◌, ◌++◌, length, take, map, refl, sym, ap, ◌∙◌, subst, arith, append_assoc, Option, Some, slice_get}
use Rattle.std.proofs.lemmas.List.{append-nil, take-append-le, take_all}
use Rattle.std.proofs.lemmas.Bool.{cond-true, cond-false, eq-eqb, or_parts, or_from, or_right}
use Rattle.std.proofs.lemmas.Option.{same_Some}
use Rattle.std.specs.List.{AllByRecursion, list_any}
use Rattle.std.specs.Option.{IfSome}
use Rattle.pitch_fields.proofs.Lists.{all_get}
use Rattle.pitch_model.specs.Advertising.{last_ten}
use Rattle.pitch_model.specs.History.{adds}
use Rattle.pitch_model.specs.Image.{image}
use Rattle.spin_server.specs.Served.{Served, is_served}
use Rattle.spin_server.specs.declared.lookup.Imaged.TheVariants.{Image, NotAdvertised}
use Rattle.shared_unit.specs.declared.published.Picture.{Picture}
use Rattle.shared_unit.specs.layers.Answers.{AnswersImage}
use Rattle.shared_unit.specs.layers.Stored.{IsPicture, raws_in, sequence_of}

-- ---- Appending
-- some of all the messages were appended, and the rest is left
pub record Copies (before all so_far rest : List (List ℕ)) : Type 0 where
  pub done : List (List ℕ)
  pub are : so_far ≡ before ++ done
  pub left : done ++ rest ≡ all

pub copies_none : (before all : List (List ℕ)) → Copies before all before all
copies_none before all = record { done = []; are = sym (append-nil before); left = refl }

pub copies_one : (before all so_far so_far' rest rest' : List (List ℕ)) (raw : List ℕ) → Copies before all so_far rest → rest ≡ raw ∷ rest' → so_far' ≡ so_far ++ raw ∷ [] → Copies before all so_far' rest'
copies_one before all so_far so_far' rest rest' raw copies is more = record {
  done = copies.done ++ raw ∷ [];
  are = more ∙ ap (λ (l : List (List ℕ)). l ++ raw ∷ []) copies.are ∙ append_assoc before copies.done (raw ∷ []);
  left = append_assoc copies.done (raw ∷ []) rest' ∙ ap (λ (l : List (List ℕ)). copies.done ++ l) (sym is) ∙ copies.left;
}

pub copies_all : (before all so_far rest : List (List ℕ)) → Copies before all so_far rest → rest ≡ [] → so_far ≡ before ++ all
copies_all before all so_far rest copies none =
    copies.are ∙ ap (λ (l : List (List ℕ)). before ++ l) (sym (append-nil copies.done) ∙ ap (λ (l : List (List ℕ)). copies.done ++ l) (sym none) ∙ copies.left)

pub copies_back : (before all so_far rest : List (List ℕ)) (n : ℕ) → Copies before all so_far rest → n ≡ length before → take n so_far ≡ before
copies_back before all so_far rest n copies is = ap (take n) copies.are ∙ take-append-le n before copies.done (omega (arith, is)) ∙ take_all n before (omega (arith, is))

-- ---- Finding
pub none_more : (s : ℕ) (items : List Picture) (i : ℕ) (p : Picture) → list_any (λ n. n == s) (map sequence_of (take i items)) ≡ false → slice_get items i ≡ Some p → (p.sequence == s) ≡ false
    → list_any (λ n. n == s) (map sequence_of (take (i + 1) items)) ≡ false
none_more s [] i p none at other = absurd cc
none_more s (q ∷ items) zero p none at other = or_from (q.sequence == s) false (ap (λ (x : Picture). x.sequence == s) (same_Some q p at) ∙ other) refl
none_more s (q ∷ items) (suc i) p none at other =
    let e : suc i + 1 ≡ suc (i + 1) = omega arith in
    let o = or_parts (q.sequence == s) (list_any (λ n. n == s) (map sequence_of (take i items))) none in
    ap (λ (n : ℕ). list_any (λ n. n == s) (map sequence_of (take n (q ∷ items)))) e ∙ or_from (q.sequence == s) _ o.0 (none_more s items i p o.1 at other)

any_at : (s : ℕ) (items : List Picture) (i : ℕ) (p : Picture) → slice_get items i ≡ Some p → p.sequence ≡ s → list_any (λ n. n == s) (map sequence_of items) ≡ true
any_at s [] i p at is = absurd cc
any_at s (q ∷ items) zero p at is =
    let same : q.sequence ≡ s = ap (λ (x : Picture). x.sequence) (same_Some q p at) ∙ is in
    ap (λ (b : Bool). b || list_any (λ n. n == s) (map sequence_of items)) (eq-eqb q.sequence s same)
any_at s (q ∷ items) (suc i) p at is = or_right (q.sequence == s) _ (any_at s items i p at is)

pub image_not : (v : Served) (served : List ℕ) (s : ℕ) (before : List (List ℕ)) → served ≡ last_ten v.advertised → list_any (λ n. n == s) served ≡ false → AnswersImage v s NotAdvertised before before
image_not v served s before are none =
    let not_served : is_served v s ≡ false = ap (λ (l : List ℕ). list_any (λ n. n == s) l) (sym are) ∙ none in
    record {
      answer_is = sym (cond-false (is_served v s) _ _ not_served);
      given = sym (append-nil before) ∙ ap (λ (l : List (List ℕ)). before ++ l) (sym (cond-false (is_served v s) (image v.messages s) [] not_served));
    }

given_raws : (o : Option (List (List ℕ))) (raws i : List (List ℕ)) → o ≡ Some raws → IfSome o (λ r. r ≡ i) → raws ≡ i
given_raws o raws i is right = subst (λ (x : Option (List (List ℕ))). IfSome x (λ r. r ≡ i)) is right

pub image_found : (v : Served) (pictures : List Picture) (i s : ℕ) (p : Picture) (raws before after : List (List ℕ)) → map sequence_of pictures ≡ last_ten v.advertised → AllByRecursion (IsPicture v.messages) pictures → slice_get pictures i ≡ Some p → p.sequence ≡ s
    → raws_in p ≡ Some raws → after ≡ before ++ raws → AnswersImage v s (Image p.orders) before after
image_found v pictures i s p raws before after are right at is has given =
    let picture : IsPicture v.messages p = all_get (IsPicture v.messages) pictures i p right at in
    let served : is_served v s ≡ true = ap (λ (l : List ℕ). list_any (λ n. n == s) l) (sym are) ∙ any_at s pictures i p at is in
    let same : raws ≡ image v.messages s = given_raws (raws_in p) raws (image v.messages p.sequence) has picture.raws ∙ ap (λ (n : ℕ). image v.messages n) is in
    record {
      answer_is = ap Image (picture.orders ∙ ap (λ (n : ℕ). adds (image v.messages n)) is) ∙ sym (cond-true (is_served v s) _ _ served);
      given = given ∙ ap (λ (l : List (List ℕ)). before ++ l) (same ∙ sym (cond-true (is_served v s) (image v.messages s) [] served));
    }
