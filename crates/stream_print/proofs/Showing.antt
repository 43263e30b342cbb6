-- The lines of a block's messages, one after another.
use Rattle.std.proofs.Common.{◌≡◌, inl, inr, ℕ, zero, suc, ◌+◌, ◌<◌, eqb, List, [], ◌∷◌, ◌++◌, refl, sym, ap, ◌∙◌, subst, arith, append_assoc, Option}
use Rattle.std.proofs.lemmas.List.{append-nil}
use Rattle.std.proofs.lemmas.Bool.{cond-false, ne_eqb}
use Rattle.unit_packets.specs.Blocks.{StaysWithin}
use Rattle.feed_lines.specs.Show.{message_line, message_lines, next_after}
use Rattle.stream_print.specs.Page.{Prints}
use Rattle.stream_print.specs.Putting.{PutsSome}
use Rattle.stream_print.proofs.Printing.{prints_none, prints_more, puts_longer, puts_after}

pub lines_none : (s : ℕ) → message_lines s [] ≡ []
unfolding message_lines
lines_none s = refl

pub lines_first : (s : ℕ) (raw : List ℕ) (raws : List (List ℕ)) → message_lines s (raw ∷ raws) ≡ message_line s raw ++ message_lines (next_after s) raws
unfolding message_lines
lines_first s raw raws = refl

-- the lines of some messages were printed, and those of the others follow
pub record Shown (w : Option (List ℕ)) (t : List ℕ) (w' : Option (List ℕ)) (t' : List ℕ) (first : ℕ) (all : List (List ℕ)) (sequence : ℕ) (left : List (List ℕ)) : Type 0 where
  pub done : List ℕ
  pub printed : Prints w t w' t' done
  pub rest : message_lines first all ≡ done ++ message_lines sequence left

pub shown_none : (w : Option (List ℕ)) (t : List ℕ) (first : ℕ) (all : List (List ℕ)) → Shown w t w t first all first all
shown_none w t first all = record { done = []; printed = prints_none w t; rest = refl }

pub shown_more : (w : Option (List ℕ)) (t : List ℕ) (v : Option (List ℕ)) (u : List ℕ) (x : Option (List ℕ)) (y : List ℕ) (first sequence sequence' : ℕ) (all left left' : List (List ℕ)) (raw : List ℕ)
    → Shown w t v u first all sequence left → left ≡ raw ∷ left' → sequence' ≡ next_after sequence → Prints v u x y (message_line sequence raw) → Shown w t x y first all sequence' left'
shown_more w t v u x y first sequence sequence' all left left' raw so_far is next line = record {
  done = so_far.done ++ message_line sequence raw;
  printed = prints_more w v x t u y so_far.done (message_line sequence raw) so_far.printed line;
  rest = so_far.rest ∙ ap (λ (l : List (List ℕ)). so_far.done ++ message_lines sequence l) is ∙ ap (λ (l : List ℕ). so_far.done ++ l) (lines_first sequence raw left')
      ∙ sym (append_assoc so_far.done (message_line sequence raw) (message_lines (next_after sequence) left'))
      ∙ ap (λ (s : ℕ). (so_far.done ++ message_line sequence raw) ++ message_lines s left') (sym next);
}

pub shown_all : (w : Option (List ℕ)) (t : List ℕ) (v : Option (List ℕ)) (u : List ℕ) (first sequence : ℕ) (all left : List (List ℕ)) → Shown w t v u first all sequence left → left ≡ [] → Prints w t v u (message_lines first all)
shown_all w t v u first sequence all left so_far none =
    subst (Prints w t v u) (sym (so_far.rest ∙ ap (λ (l : List (List ℕ)). so_far.done ++ message_lines sequence l) none ∙ ap (λ (l : List ℕ). so_far.done ++ l) (lines_none sequence) ∙ append-nil so_far.done)) so_far.printed

-- a sink that failed has a prefix of the lines
pub shown_fails : (w : Option (List ℕ)) (t : List ℕ) (v : Option (List ℕ)) (u : List ℕ) (x : Option (List ℕ)) (first sequence : ℕ) (all left : List (List ℕ)) → Shown w t v u first all sequence left → PutsSome v x u
    → PutsSome w x (t ++ message_lines first all)
shown_fails w t v u x first sequence all left so_far puts =
    subst (PutsSome w x) (append_assoc t so_far.done (message_lines sequence left) ∙ ap (λ (l : List ℕ). t ++ l) (sym so_far.rest))
    (puts_longer w x (t ++ so_far.done) (message_lines sequence left) (puts_after w v x t u so_far.done so_far.printed puts))

following : (s : ℕ) → next_after (suc s) ≡ suc s + 1
following s = cond-false (eqb (suc s) 0) 0 (suc s + 1) (ne_eqb (suc s) 0 (λ e. omega arith))

-- one message fewer
pub within_next : (s s' n n' : ℕ) → StaysWithin s n → n ≡ suc n' → s' ≡ next_after s → StaysWithin s' n'
within_next zero s' n n' within size next = inl next
within_next (suc s) s' n n' (inl zero_is) size next = absurd (omega (arith, zero_is))
within_next (suc s) s' n n' (inr (inl none)) size next = absurd (omega (arith, none, size))
within_next (suc s) s' n n' (inr (inr fits)) size next =
    let one_more : s' ≡ suc s + 1 = next ∙ following s in
    inr (inr (omega (arith, fits, size, one_more)))

-- the next sequence is a number of 32 bits
pub sequence_fits : (s n : ℕ) → StaysWithin s n → 0 < n → s < 4294967295
sequence_fits s n (inl zero_is) some = omega (arith, zero_is)
sequence_fits s n (inr (inl none)) some = absurd (omega (arith, none, some))
sequence_fits s n (inr (inr fits)) some = omega (arith, fits, some)
