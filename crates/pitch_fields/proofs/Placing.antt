-- Texts written from a place.
use Rattle.std.proofs.Common.{◌≡◌, refl, ap, ◌∙◌, sym, ℕ, ◌+◌, ◌-◌, ◌≤◌, ◌++◌, List, length, take, drop, arith}
use Rattle.std.proofs.lemmas.List.{length-append, append_assoc, take-append-drop, length-take-le, length-take, drop-drop, drop_at}
use Rattle.std.proofs.Math.Seq.{take-append_seam}

-- a text written from a place stands after what stood before it
pub placed : (new old text rest : List ℕ) (at : ℕ) → at ≤ length new → take at new ≡ take at old → drop at new ≡ text ++ rest → take (at + length text) new ≡ take at old ++ text
placed new old text rest at le before written =
    let whole : new ≡ (take at old ++ text) ++ rest = sym (take-append-drop at new) ∙ ap (λ x. x ++ drop at new) before ∙ ap (λ x. take at old ++ x) written ∙ sym (append_assoc (take at old) text rest) in
    let size : length (take at old ++ text) ≡ at + length text = length-append (take at old) text ∙ ap (λ k. k + length text) (ap length (sym before) ∙ length-take-le at new le) in
    ap (λ k. take k new) (sym size) ∙ ap (take (length (take at old ++ text))) whole ∙ take-append_seam (take at old ++ text) rest

-- what stands behind a place is what stands behind an earlier one, as far as it was dropped there
drop_later : (bytes : List ℕ) (end later : ℕ) → end ≤ later → drop later bytes ≡ drop (later - end) (drop end bytes)
drop_later bytes end later le = ap (λ (n : ℕ). drop n bytes) (omega arith) ∙ sym (drop-drop (later - end) end bytes)

-- what two writes left behind the end of the second is what stood there before them
pub untouched : (first second third : List ℕ) (end later : ℕ) → drop later third ≡ drop later second → drop end second ≡ drop end first → end ≤ later → drop later third ≡ drop later first
untouched first second third end later after before le =
    after ∙ drop_later second end later le ∙ ap (drop (later - end)) before ∙ sym (drop_later first end later le)

-- what stands behind a text that was written, where it was written before what stood there
pub behind : (new text rest : List ℕ) (at end : ℕ) → drop at new ≡ text ++ rest → at + length text ≡ end → drop end new ≡ rest
behind new text rest at end written is = ap (λ (n : ℕ). drop n new) (sym is) ∙ sym (drop-drop (length text) at new) ∙ ap (drop (length text)) written ∙ drop_at text rest (length text) refl

-- a text that was written is as long as the place where it ends says
pub ends_later : (new old text : List ℕ) (at end : ℕ) → at ≤ length old → take end new ≡ take at old ++ text → at ≤ end
ends_later new old text at end le written = omega (arith, ap length written, length-append (take at old) text, length-take-le at old le, length-take end new)
