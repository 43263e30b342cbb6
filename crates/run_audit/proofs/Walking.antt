-- A book that goes forward by one message.
use Rattle.std.proofs.Common.{◌≡◌, ℕ, suc, ◌+◌, ◌<◌, ◌≤◌, List, [], ◌∷◌, ◌++◌, length, take, drop, refl, sym, ap, ◌∙◌, subst, arith, length-drop, take-append-drop, append_assoc, length-append, length-take-le, Some, slice_get}
use Rattle.std.proofs.lemmas.List.{drop-drop}
use Rattle.std.proofs.lemmas.List.Sums.{fold-append}
use Rattle.std.proofs.Math.Seq.{take-append_seam}
use Rattle.pitch_model.specs.Book.{Book, empty_book, after, book_after}
use Rattle.pitch_model.specs.History.{Raw}
use Rattle.std.proofs.lemmas.List.{take_more, take_all}
use Rattle.std.proofs.lemmas.Option.{slice_get_within, get_or_from_slice_get, same_Some}
use Rattle.pitch_messages.specs.Room.{Roomy}
use Rattle.std.proofs.Common.{zero, slice_set, slice_index_or}
use Rattle.std.proofs.lemmas.Option.{slice_get_read}
use Rattle.feed_lines.specs.BookText.{book_text}
use Rattle.run_audit.specs.layers.Finding.{messages_of}
use Rattle.run_audit.specs.layers.Walking.{IsAt, AreAt}
use Rattle.run_audit.specs.declared.walk.Walk.{Walk}

taken_more : (V : List Raw) (n : ℕ) (raw : Raw) (left : List Raw) → n ≤ length V → drop n V ≡ raw ∷ left → take (n + 1) V ≡ take n V ++ raw ∷ []
taken_more V n raw left le e =
    let whole : (take n V ++ raw ∷ []) ++ left ≡ V = append_assoc (take n V) (raw ∷ []) left ∙ ap (λ (l : List Raw). take n V ++ l) (sym e) ∙ take-append-drop n V in
    ap (take (n + 1)) (sym whole)
    ∙ ap (λ (k : ℕ). take k ((take n V ++ raw ∷ []) ++ left)) (many (take n V) raw n (length-take-le n V le))
    ∙ take-append_seam (take n V ++ raw ∷ []) left
  where
    many : (front : List Raw) (raw : Raw) (n : ℕ) → length front ≡ n → n + 1 ≡ length (front ++ raw ∷ [])
    many front raw n e = omega (arith, length-append front (raw ∷ []), e)

pub at_more : (V : List Raw) (walk new : Walk) (raw : Raw) → IsAt V walk → walk.left ≡ raw ∷ new.left → new.book.book ≡ after walk.book.book raw → new.n ≡ walk.n + 1 → IsAt V new
at_more V walk new raw A l b e =
    let here : drop walk.n V ≡ raw ∷ new.left = sym A.left ∙ l in
    let some = length-drop walk.n V in
    let many = ap length here in
    let le = A.within in
    let taken = taken_more V walk.n raw new.left A.within here in
    record {
      within = omega (arith, e, some, many, le);
      left = ap (drop 1) (sym here) ∙ drop-drop 1 walk.n V ∙ ap (λ (k : ℕ). drop k V) (sym e);
      book = b ∙ ap (λ (x : Book). after x raw) A.book ∙ sym (fold-append after empty_book (take walk.n V) (raw ∷ [])) ∙ ap book_after (sym taken) ∙ ap (λ (k : ℕ). book_after (take k V)) (sym e);
    }

pub not_done : (V : List Raw) (walk : Walk) (n : ℕ) → IsAt V walk → walk.left ≡ [] → walk.n < n → n ≤ length V → ⊥
not_done V walk n A l lt le = let some = length-drop walk.n V in let none = ap length (sym A.left ∙ l) in omega (arith, some, none)

-- ---- The books of all units
pub at_grown : (logs : List (Roomy Raw)) (walks : List Walk) (log : Roomy Raw) (walk : Walk) → AreAt logs walks → IsAt log.items walk → AreAt (logs ++ log ∷ []) (walks ++ walk ∷ [])
at_grown [] [] log walk a b = (b, tt)
at_grown [] (w ∷ walks) log walk a b = absurd a
at_grown (l ∷ logs) [] log walk a b = absurd a
at_grown (l ∷ logs) (w ∷ walks) log walk a b = (a.0, at_grown logs walks log walk a.1 b)

pub at_next : (logs : List (Roomy Raw)) (i : ℕ) (walks new : List Walk) (log : Roomy Raw) (walk : Walk) → AreAt (take i logs) walks → slice_get logs i ≡ Some log → IsAt log.items walk → new ≡ walks ++ walk ∷ [] → AreAt (take (i + 1) logs) new
at_next logs i walks new log walk a at b e =
    subst (AreAt (take (i + 1) logs)) (sym e)
    (subst (λ (ls : List (Roomy Raw)). AreAt ls (walks ++ walk ∷ [])) (sym (take_more logs i log (slice_get_within logs i log at) ∙ ap (λ (l : Roomy Raw). take i logs ++ l ∷ []) (get_or_from_slice_get logs i log log at)))
    (at_grown (take i logs) walks log walk a b))

pub all_walks : (logs : List (Roomy Raw)) (walks : List Walk) → AreAt (take (length logs) logs) walks → AreAt logs walks
all_walks logs walks a = subst (λ (ls : List (Roomy Raw)). AreAt ls walks) (take_all (length logs) logs (omega arith)) a

-- ---- One of them
pub at_length : (logs : List (Roomy Raw)) (walks : List Walk) → AreAt logs walks → length walks ≡ length logs
at_length [] [] a = refl
at_length [] (w ∷ walks) a = absurd a
at_length (l ∷ logs) [] a = absurd a
at_length (l ∷ logs) (w ∷ walks) a = omega (arith, at_length logs walks a.1)

pub at_here : (logs : List (Roomy Raw)) (walks : List Walk) (i : ℕ) (log : Roomy Raw) (walk : Walk) → AreAt logs walks → slice_get logs i ≡ Some log → slice_get walks i ≡ Some walk → IsAt log.items walk
at_here [] walks i log walk a l w = absurd cc
at_here (x ∷ logs) [] i log walk a l w = absurd a
at_here (x ∷ logs) (y ∷ walks) zero log walk a l w = subst (λ (z : Walk). IsAt log.items z) (same_Some y walk w) (subst (λ (z : Roomy Raw). IsAt z.items y) (same_Some x log l) a.0)
at_here (x ∷ logs) (y ∷ walks) (suc i) log walk a l w = at_here logs walks i log walk a.1 l w

pub at_put : (logs : List (Roomy Raw)) (walks : List Walk) (i : ℕ) (log : Roomy Raw) (walk : Walk) → AreAt logs walks → slice_get logs i ≡ Some log → IsAt log.items walk → AreAt logs (slice_set walks i walk)
at_put [] walks i log walk a l b = absurd cc
at_put (x ∷ logs) [] i log walk a l b = absurd a
at_put (x ∷ logs) (y ∷ walks) zero log walk a l b = (subst (λ (z : Roomy Raw). IsAt z.items walk) (sym (same_Some x log l)) b, a.1)
at_put (x ∷ logs) (y ∷ walks) (suc i) log walk a l b = (a.0, at_put logs walks i log walk a.1 l b)

-- ---- The messages of a unit
pub messages_here : (logs : List (Roomy Raw)) (unit : ℕ) (log : Roomy Raw) → slice_get logs unit ≡ Some log → messages_of logs unit ≡ log.items
messages_here [] unit log l = absurd cc
messages_here (x ∷ logs) zero log l = ap (λ (z : Roomy Raw). z.items) (same_Some x log l)
messages_here (x ∷ logs) (suc unit) log l = messages_here logs unit log l

pub messages_none : (logs : List (Roomy Raw)) (unit : ℕ) → length logs ≤ unit → messages_of logs unit ≡ []
messages_none [] unit le = refl
messages_none (x ∷ logs) zero le = absurd (omega arith)
messages_none (x ∷ logs) (suc unit) le = messages_none logs unit (omega arith)

-- what stands at an index
pub log_at : (logs : List (Roomy Raw)) (i : ℕ) (log : Roomy Raw) → i < length logs → log ≡ slice_index_or logs i log → slice_get logs i ≡ Some log
log_at logs i log lt is = slice_get_read logs (length logs) i log refl lt is

pub walk_at : (logs : List (Roomy Raw)) (walks : List Walk) (i : ℕ) (walk : Walk) → AreAt logs walks → i < length logs → walk ≡ slice_index_or walks i walk → slice_get walks i ≡ Some walk
walk_at logs walks i walk a lt is = slice_get_read walks (length walks) i walk refl (omega (arith, at_length logs walks a)) is

-- the book where a walk stands
pub book_there : (logs : List (Roomy Raw)) (unit n : ℕ) (log : Roomy Raw) (walk : Walk) (text : List ℕ) → unit < 256 → slice_get logs unit ≡ Some log → IsAt log.items walk → walk.n ≡ n → text ≡ book_text unit n walk.book.book
    → ((unit < 256) × (n ≤ length (messages_of logs unit))) × (text ≡ book_text unit n (book_after (take n (messages_of logs unit))))
book_there logs unit n log walk text byte l a w t =
    let are = messages_here logs unit log l in
    let within = a.within in
    ((byte, omega (arith, ap length are, within, w)), t ∙ ap (book_text unit n) (a.book ∙ ap (λ (k : ℕ). book_after (take k log.items)) w ∙ ap (λ (V : List Raw). book_after (take n V)) (sym are)))
