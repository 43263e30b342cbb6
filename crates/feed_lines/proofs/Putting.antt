-- Texts put into a buffer one after another, as one text.
use Rattle.std.proofs.Common.{◌≡◌, ap, sym, ◌∙◌, ℕ, ◌+◌, ◌≤◌, List, [], ◌∷◌, ◌++◌, length, take, drop, append_assoc, arith}
use Rattle.std.specs.List.{concat}
use Rattle.std.proofs.lemmas.List.{append-nil, length-append, length-take-le, take-append-drop, drop-drop, drop_at}
use Rattle.std.proofs.Math.Seq.{take-append_seam}
use Rattle.pitch_fields.specs.Fields.{put_at}
use Rattle.feed_lines.specs.layers.Puts.{Line, with_text, with_texts, Puts}
use Rattle.feed_lines.proofs.Behind.{left_behind}

pairs : (a b : List ℕ) (m n : ℕ) → a ≡ b → m ≡ n → ◌≡◌ {A = Line} (a, m) (b, n)
pairs a b m n e f = λ i. (e i, f i)

-- what stands up to the end of a text that was put, and behind it
up_to : (old text : List ℕ) (at : ℕ) → at ≤ length old → take (at + length text) (put_at old at text) ≡ take at old ++ text
up_to old text at le =
    let size : length (take at old ++ text) ≡ at + length text = length-append (take at old) text ∙ ap (λ k. k + length text) (length-take-le at old le) in
    ap (λ k. take k (put_at old at text)) (sym size) ∙ take-append_seam (take at old ++ text) (drop (at + length text) old)

behind : (old text : List ℕ) (at : ℕ) → at ≤ length old → drop (at + length text) (put_at old at text) ≡ drop (at + length text) old
behind old text at le =
    let size : length (take at old ++ text) ≡ at + length text = length-append (take at old) text ∙ ap (λ k. k + length text) (length-take-le at old le) in
    drop_at (take at old ++ text) (drop (at + length text) old) (at + length text) size

-- two texts put are one
two : (old a b : List ℕ) (at : ℕ) → at ≤ length old → with_text (with_text (old, at) a) b ≡ with_text (old, at) (a ++ b)
unfolding with_text
two old a b at le = pairs _ _ _ _ bytes sum
  where
    sum : (at + length a) + length b ≡ at + length (a ++ b)
    sum = omega (arith, length-append a b)

    tail : drop ((at + length a) + length b) (put_at old at a) ≡ drop (at + length (a ++ b)) old
    tail = sym (drop-drop (length b) (at + length a) (put_at old at a)) ∙ ap (drop (length b)) (behind old a at le) ∙ drop-drop (length b) (at + length a) old ∙ ap (λ k. drop k old) sum

    bytes : put_at (put_at old at a) (at + length a) b ≡ put_at old at (a ++ b)
    bytes = ap (λ t. (t ++ b) ++ drop ((at + length a) + length b) (put_at old at a)) (up_to old a at le)
        ∙ ap (λ t. ((take at old ++ a) ++ b) ++ t) tail
        ∙ ap (λ t. t ++ drop (at + length (a ++ b)) old) (append_assoc (take at old) a b)

fits : (old a : List ℕ) (at : ℕ) → at ≤ length old → at + length a ≤ length (put_at old at a)
fits old a at le = omega (arith, length-append (take at old ++ a) (drop (at + length a) old), length-append (take at old) a, length-take-le at old le)

-- some texts put are one
all : (old : List ℕ) (at : ℕ) (texts : List (List ℕ)) → at ≤ length old → with_texts (old, at) texts ≡ with_text (old, at) (concat texts)
unfolding with_text
all old at [] le = pairs _ _ _ _ (sym (ap (λ t. t ++ drop (at + 0) old) (append-nil (take at old)) ∙ ap (λ k. take at old ++ drop k old) zero_more ∙ take-append-drop at old)) (sym zero_more)
  where
    zero_more : at + 0 ≡ at
    zero_more = omega arith
all old at (text ∷ texts) le = all (put_at old at text) (at + length text) texts (fits old text at le) ∙ two old text (concat texts) at le

-- texts that were put, as one
pub as_one : (old new : List ℕ) (at end : ℕ) (texts : List (List ℕ)) (most : ℕ) → at ≤ length old → Puts (old, at) (new, end) texts most → Puts (old, at) (new, end) (concat texts ∷ []) most
as_one old new at end texts most le puts = record { written = puts.written ∙ all old at texts le; size = puts.size; kept = puts.kept }

-- a text that was put, from what stands before its end and behind it
pub one_put : (old new text : List ℕ) (at end most : ℕ) → take end new ≡ take at old ++ text → drop end new ≡ drop end old → length new ≡ length old → at ≤ length old → end ≤ length old → end ≤ at + most → Puts (old, at) (new, end) (text ∷ []) most
unfolding with_text
one_put old new text at end most front back kept le fit size = record {
  written = pairs _ _ _ _ (sym (take-append-drop end new) ∙ ap (λ t. t ++ drop end new) front ∙ ap (λ t. (take at old ++ text) ++ t) back ∙ ap (λ k. (take at old ++ text) ++ drop k old) is) is;
  size = size;
  kept = kept;
}
  where
    is : end ≡ at + length text
    is = omega (arith, ap length front, length-append (take at old) text, length-take-le at old le, length-take-le end new (omega arith))

-- what stands up to the end of texts that were put, and behind it
pub front_of : (old new : List ℕ) (at end : ℕ) (texts : List (List ℕ)) (most : ℕ) → at ≤ length old → Puts (old, at) (new, end) texts most → take end new ≡ take at old ++ concat texts
unfolding with_text
front_of old new at end texts most le puts =
    let is = puts.written ∙ all old at texts le in
    ap (λ (line : Line). take line.1 line.0) is ∙ up_to old (concat texts) at le

pub back_of : (old new : List ℕ) (at end : ℕ) (texts : List (List ℕ)) (most : ℕ) → at ≤ length old → Puts (old, at) (new, end) texts most → drop end new ≡ drop end old
unfolding with_text
back_of old new at end texts most le puts =
    let is = puts.written ∙ all old at texts le in
    ap (λ (line : Line). drop line.1 line.0) is ∙ behind old (concat texts) at le ∙ ap (λ (line : Line). drop line.1 old) (sym is)

-- a name that was put, and a text behind it, as one
pub after_name : (old mid new name text : List ℕ) (at named end many most : ℕ) → Puts (old, at) (mid, named) (name ∷ []) many → take end new ≡ take named mid ++ text → drop end new ≡ drop end mid → length new ≡ length mid → at ≤ length old → named ≤ length old → end ≤ length old → end ≤ at + most → Puts (old, at) (new, end) ((name ++ text) ∷ []) most
after_name old mid new name text at named end many most puts front back kept le fit fits size =
    let before : take named mid ≡ take at old ++ name = front_of old mid at named (name ∷ []) many le puts ∙ ap (λ t. take at old ++ t) (append-nil name) in
    let behind : drop named mid ≡ drop named old = back_of old mid at named (name ∷ []) many le puts in
    one_put old new (name ++ text) at end most (front ∙ ap (λ t. t ++ text) before ∙ append_assoc (take at old) name text) (left_behind old mid new text named end back front (fit' puts.kept) behind) (kept ∙ puts.kept) le fits size
  where
    fit' : length mid ≡ length old → named ≤ length mid
    fit' kept = omega arith
