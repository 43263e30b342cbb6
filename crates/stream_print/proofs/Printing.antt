-- Text that goes onto a page and from there to a sink.
use Rattle.std.proofs.Common.{◌≡◌, ◌+◌, ℕ, List, [], ◌∷◌, ◌++◌, length, take, drop, slice_get, Option, Some, refl, sym, ap, ◌∙◌, subst, append_assoc, arith, length-append}
use Rattle.std.specs.List.{concat, flat_map}
use Rattle.std.proofs.lemmas.Grind.{flat_map-append}
use Rattle.std.proofs.lemmas.List.{append-nil, take-append-le, drop-append-le, length-drop, drop-drop, take-append-drop, take_more}
use Rattle.std.proofs.lemmas.Option.{slice_get_within, get_or_from_slice_get}
use Rattle.std.proofs.Math.Seq.{take-add, take-length, drop-length}
use Rattle.pitch_io.specs.Putting.{Grows}
use Rattle.pitch_messages.specs.Room.{Roomy}
use Rattle.unit_packets.specs.Packing.{bytes_in}
use Rattle.stream_print.specs.Page.{Prints, PrintsSuch}
use Rattle.stream_print.specs.Putting.{PutsSome}
use Rattle.stream_print.specs.Sinks.{PutsSuch}
use Rattle.stream_print.proofs.Flow.{grows_none, grows_more}

-- nothing more
pub prints_none : (o : Option (List ℕ)) (t : List ℕ) → Prints o t o t []
prints_none o t = record { count = 0; within = omega arith; written = grows_none o; rest = sym (append-nil t) }

-- a text goes onto the page
pub prints_added : (o : Option (List ℕ)) (t u x : List ℕ) → u ≡ t ++ x → Prints o t o u x
prints_added o t u x is = record { count = 0; within = omega arith; written = grows_none o; rest = is }

-- the page is written out
pub prints_flushed : (a b : Option (List ℕ)) (t : List ℕ) → Grows a b t → Prints a t b [] []
prints_flushed a b t g = record {
  count = length t;
  within = omega (arith, length-append t []);
  written = subst (Grows a b) (sym (take-append-le (length t) t [] (omega arith) ∙ take-length t)) g;
  rest = sym (drop-append-le (length t) t [] (omega arith) ∙ ap (λ (l : List ℕ). l ++ []) (drop_all t));
}
  where
    drop_all : (t : List ℕ) → drop (length t) t ≡ []
    drop_all [] = refl
    drop_all (x ∷ t) = drop_all t

-- what was written leaves nothing on an empty page
pub prints_written : (a b : Option (List ℕ)) (x : List ℕ) → Grows a b x → Prints a [] b [] x
prints_written a b x g = record {
  count = length x;
  within = omega arith;
  written = subst (Grows a b) (sym (take-length x)) g;
  rest = sym (drop-length x);
}

-- one text after another
pub prints_more : (a b c : Option (List ℕ)) (t u v x y : List ℕ) → Prints a t b u x → Prints b u c v y → Prints a t c v (x ++ y)
prints_more a b c t u v x y p q =
    let n : ℕ = p.count in
    let m : ℕ = q.count in
    let all : List ℕ = t ++ x in
    let whole : t ++ (x ++ y) ≡ all ++ y = sym (append_assoc t x y) in
    let p_within = p.within in
    let q_within = q.within in
    let left : u ++ y ≡ drop n (t ++ (x ++ y)) = ap (λ (l : List ℕ). l ++ y) p.rest ∙ sym (drop-append-le n all y p.within) ∙ ap (drop n) (sym whole) in
    let prefix : take n (t ++ (x ++ y)) ≡ take n all = ap (take n) whole ∙ take-append-le n all y p.within in
    let size = length-drop n (t ++ (x ++ y)) in
    record {
      count = n + m;
      within = omega (arith, p_within, q_within, ap length left, size, ap length whole, length-append all y);
      written = subst (Grows a c) (sym (take-add n m (t ++ (x ++ y)) ∙ ap (λ (l : List ℕ). l ++ take m (drop n (t ++ (x ++ y)))) prefix ∙ ap (λ (l : List ℕ). take n all ++ take m l) (sym left)))
          (grows_more a b c (take n all) (take m (u ++ y)) p.written q.written);
      rest = q.rest ∙ ap (drop m) left ∙ drop-drop m n (t ++ (x ++ y)) ∙ ap (λ (k : ℕ). drop k (t ++ (x ++ y))) (omega arith);
    }

-- a sink that failed has some prefix
pub puts_after : (a b c : Option (List ℕ)) (t u x : List ℕ) → Prints a t b u x → PutsSome b c u → PutsSome a c (t ++ x)
puts_after a b c t u x p q =
    let n : ℕ = p.count in
    let m : ℕ = q.count in
    let p_within = p.within in
    let q_within = q.within in
    let size = length-drop n (t ++ x) in
    record {
      count = n + m;
      within = omega (arith, p_within, q_within, ap length p.rest, size);
      grows = subst (Grows a c) (sym (take-add n m (t ++ x) ∙ ap (λ (l : List ℕ). take n (t ++ x) ++ take m l) (sym p.rest)))
          (grows_more a b c (take n (t ++ x)) (take m u) p.written q.grows);
    }

-- and so has one that was not asked for more
pub puts_so_far : (a b : Option (List ℕ)) (t u x : List ℕ) → Prints a t b u x → PutsSome a b (t ++ x)
puts_so_far a b t u x p = record { count = p.count; within = p.within; grows = p.written }

-- some prefix of a text is some prefix of a longer one
pub puts_longer : (a b : Option (List ℕ)) (t x : List ℕ) → PutsSome a b t → PutsSome a b (t ++ x)
puts_longer a b t x p =
    let within = p.within in
    record {
      count = p.count;
      within = omega (arith, within, length-append t x);
      grows = subst (Grows a b) (sym (take-append-le p.count t x p.within)) p.grows;
    }

-- all was written where nothing is left on the page
pub prints_whole : (a b : Option (List ℕ)) (t x : List ℕ) → Prints a t b [] x → Grows a b (t ++ x)
prints_whole a b t x p =
    let within = p.within in
    let none : length (drop p.count (t ++ x)) ≡ 0 = ap length (sym p.rest) in
    let all : p.count ≡ length (t ++ x) = omega (arith, none, length-drop p.count (t ++ x), within) in
    subst (Grows a b) (ap (λ (k : ℕ). take k (t ++ x)) all ∙ take-length (t ++ x)) p.written

-- place was made, and a text added
pub prints_line : (a b : Option (List ℕ)) (t u v x : List ℕ) → Prints a t b u [] → v ≡ u ++ x → Prints a t b v x
prints_line a b t u v x p is = prints_more a b b t u v [] x p (prints_added b u v x is)

-- a sink that failed while more was printed
pub puts_then : (a b c : Option (List ℕ)) (t u x y : List ℕ) → Prints a t b u x → PutsSome b c (u ++ y) → PutsSome a c (t ++ (x ++ y))
puts_then a b c t u x y p q = puts_after a b c t (u ++ y) (x ++ y) (prints_more a b b t u (u ++ y) x y p (prints_added b u (u ++ y) y refl)) q

-- ---- Texts of which something is true
module _ (P Q R : List ℕ → Type 0) (both : (x y : List ℕ) → P x → Q y → R (x ++ y)) (a b c : Option (List ℕ)) (t u : List ℕ) where
  pub such_more : (v : List ℕ) → PrintsSuch P a t b u → PrintsSuch Q b u c v → PrintsSuch R a t c v
  such_more v p q = record {
    text = p.text ++ q.text;
    printed = prints_more a b c t u v p.text q.text p.printed q.printed;
    such = both p.text q.text p.such q.such;
  }

  pub such_then : PrintsSuch P a t b u → PutsSuch Q b u c → PutsSuch R a t c
  such_then p q = record {
    text = p.text ++ q.text;
    puts = puts_then a b c t u p.text q.text p.printed q.puts;
    such = both p.text q.text p.such q.such;
  }

-- ---- The texts of a list's items, one after another
module _ {A : Type 0} (f : A → List ℕ) (xs : List A) (i : ℕ) (x : A) (at : slice_get xs i ≡ Some x) where
  flat_take : flat_map f (take (i + 1) xs) ≡ flat_map f (take i xs) ++ f x
  flat_take =
      ap (flat_map f) (take_more xs i x (slice_get_within xs i x at))
      ∙ ap (λ (y : A). flat_map f (take i xs ++ y ∷ [])) (get_or_from_slice_get xs i x x at)
      ∙ flat_map-append f (take i xs) (x ∷ [])
      ∙ ap (λ (t : List ℕ). flat_map f (take i xs) ++ t) (append-nil (f x))

  pub items_more : (a b c : Option (List ℕ)) (t u v : List ℕ) → Prints a t b u (flat_map f (take i xs)) → Prints b u c v (f x) → Prints a t c v (flat_map f (take (i + 1) xs))
  items_more a b c t u v p q = subst (Prints a t c v) (sym flat_take) (prints_more a b c t u v (flat_map f (take i xs)) (f x) p q)

  -- a sink that failed at an item has some prefix of all
  pub items_fail : (a b c : Option (List ℕ)) (t u : List ℕ) → Prints a t b u (flat_map f (take i xs)) → PutsSome b c (u ++ f x) → PutsSome a c (t ++ flat_map f xs)
  items_fail a b c t u p q =
      let so_far : List ℕ = flat_map f (take i xs) ++ f x in
      let rest : List ℕ = flat_map f (drop (i + 1) xs) in
      let whole : so_far ++ rest ≡ flat_map f xs =
      ap (λ (l : List ℕ). l ++ rest) (sym flat_take) ∙ sym (flat_map-append f (take (i + 1) xs) (drop (i + 1) xs)) ∙ ap (flat_map f) (take-append-drop (i + 1) xs) in
      subst (PutsSome a c) (append_assoc t so_far rest ∙ ap (λ (l : List ℕ). t ++ l) whole)
      (puts_longer a c (t ++ so_far) rest (puts_then a b c t u (flat_map f (take i xs)) (f x) p q))

-- the bytes of datagrams, end to end
pub joined : (lists : List (Roomy ℕ)) → flat_map (λ (list : Roomy ℕ). list.items) lists ≡ concat (bytes_in lists)
joined [] = refl
joined (list ∷ lists) = ap (λ (l : List ℕ). list.items ++ l) (joined lists)
