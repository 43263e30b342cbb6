-- What lines send, and what that leaves.
use Rattle.std.proofs.Common.{◌≡◌, ℕ, zero, suc, ◌+◌, ◌<◌, ◌≤◌, List, [], ◌∷◌, ◌++◌, length, map, set, slice_get, get_or, take, drop, Option, None, Some, refl, sym, ap, ◌∙◌, arith, add-one, append_assoc}
use Rattle.std.proofs.lemmas.List.{append-nil, drop_all, take_all}
use Rattle.venue_net.specs.VenueCalls.{VenueCall}
use Rattle.harmed_venue.specs.declared.harm.Harm.{Harm}
use Rattle.harmed_venue.specs.Harmed.{after_sent, all_held}
use Rattle.harmed_venue.specs.Lines.{LineNow, after_send, held_back, line_at_first, lines_at_first, sendings}
use Rattle.harmed_venue.specs.Venues.{Makes}
use Rattle.harmed_venue.proofs.Calling.{makes_as, makes_more}

-- one line more
pub one_more : (harm : Harm) (n : ℕ) (lines : List LineNow) (line : LineNow) → lines ≡ lines_at_first harm n → line ≡ line_at_first harm n → lines ++ line ∷ [] ≡ lines_at_first harm (n + 1)
one_more harm n lines line e f =
    ap (λ (ls : List LineNow). ls ++ line ∷ []) e ∙ ap (λ (l : LineNow). lines_at_first harm n ++ l ∷ []) f
    ∙ ap (λ (k : ℕ). lines_at_first harm k) (sym (add-one n))

-- ---- A list of which the first so many are changed
abbrev pub partly : {A : Type 0} → (A → A) → List A → ℕ → List A
partly f xs n = map f (take n xs) ++ drop n xs

pub partly_get : {A : Type 0} (f : A → A) (xs : List A) (n : ℕ) (d : A) → get_or (partly f xs n) n d ≡ get_or xs n d
partly_get f [] zero d = refl
partly_get f [] (suc n) d = refl
partly_get f (x ∷ xs) zero d = refl
partly_get f (x ∷ xs) (suc n) d = partly_get f xs n d

pub partly_set : {A : Type 0} (f : A → A) (xs : List A) (n : ℕ) (d : A) → n < length xs → set (partly f xs n) n (f (get_or xs n d)) ≡ partly f xs (n + 1)
partly_set {A} f xs n d within = more xs n within ∙ ap (λ (k : ℕ). partly f xs k) (sym (add-one n)) where
  more : (ys : List A) (k : ℕ) → k < length ys → set (partly f ys k) k (f (get_or ys k d)) ≡ partly f ys (suc k)
  more [] k h = absurd (omega arith)
  more (y ∷ ys) zero h = refl
  more (y ∷ ys) (suc k) h = ap (λ (l : List A). f y ∷ l) (more ys k (omega arith))

pub partly_all : {A : Type 0} (f : A → A) (xs : List A) (n : ℕ) → length xs ≤ n → partly f xs n ≡ map f xs
partly_all f [] zero past = refl
partly_all f [] (suc n) past = refl
partly_all f (x ∷ xs) zero past = absurd (omega arith)
partly_all {A} f (x ∷ xs) (suc n) past = ap (λ (l : List A). f x ∷ l) (partly_all f xs n (omega arith))

-- ---- What is held back on the first lines
pub held_more : (lines : List LineNow) (n : ℕ) (d : LineNow) → n < length lines
    → all_held (take (n + 1) lines) ≡ sendings (get_or lines n d) (held_back (get_or lines n d).held) ++ all_held (take n lines)
held_more lines n d within = ap (λ (k : ℕ). all_held (take k lines)) (add-one n) ∙ more lines n within where
  more : (ls : List LineNow) (k : ℕ) → k < length ls → all_held (take (suc k) ls) ≡ sendings (get_or ls k d) (held_back (get_or ls k d).held) ++ all_held (take k ls)
  more [] k h = absurd (omega arith)
  more (y ∷ ys) zero h = sym (append-nil (sendings y (held_back y.held)))
  more (y ∷ ys) (suc k) h =
      ap (λ (l : List VenueCall). l ++ sendings y (held_back y.held)) (more ys k (omega arith))
      ∙ append_assoc (sendings (get_or ys k d) (held_back (get_or ys k d).held)) (all_held (take k ys)) (sendings y (held_back y.held))

-- one line more has let go
pub makes_held : (x y z : Option (List VenueCall)) (lines : List LineNow) (n : ℕ) (d : LineNow) → n < length lines
    → Makes x y (all_held (take n lines)) → Makes y z (sendings (get_or lines n d) (held_back (get_or lines n d).held)) → Makes x z (all_held (take (n + 1) lines))
makes_held x y z lines n d within first second =
    let line = get_or lines n d in
    makes_as x z (sendings line (held_back line.held) ++ all_held (take n lines)) (all_held (take (n + 1) lines)) (sym (held_more lines n d within))
    (makes_more x y z (all_held (take n lines)) (sendings line (held_back line.held)) first second)

-- what was lent is given back
pub written_back : {A : Type 0} (xs old : List A) (n : ℕ) → length xs ≡ length old → n ≡ length old → take n (xs ++ drop (length xs) old) ≡ xs
written_back {A} xs old n same count =
    ap (λ (l : List A). take n (xs ++ l)) (drop_all (length xs) old (omega arith)) ∙ ap (λ (l : List A). take n l) (append-nil xs) ∙ take_all n xs (omega arith)

-- a line that is known, and one that isn't
pub sent_found : (lines : List LineNow) (line : ℕ) (datagram : List ℕ) (found : LineNow) → slice_get lines line ≡ Some found → set lines line (after_send datagram found) ≡ after_sent line datagram (slice_get lines line) lines
sent_found lines line datagram found e = ap (λ (at : Option LineNow). after_sent line datagram at lines) (sym e)

pub sent_alone : (lines : List LineNow) (line : ℕ) (datagram : List ℕ) → slice_get lines line ≡ None → lines ≡ after_sent line datagram (slice_get lines line) lines
sent_alone lines line datagram e = ap (λ (at : Option LineNow). after_sent line datagram at lines) (sym e)
