-- A line of words is cut into those words.
use Rattle.std.proofs.Common.{◌≡◌, ℕ, ◌+◌, ◌<◌, ◌≤◌, Bool, true, false, not, eqb, ltb, List, [], ◌∷◌, ◌++◌, length, filter, All, refl, ap, ◌∙◌, arith, append_assoc, length-append, ◌*◌, ◌-◌, map}
use Rattle.std.specs.List.{slice_split, list_all, AllByRecursion}
use Rattle.std.proofs.lemmas.Bool.{and_parts, ne_eqb, ltb-true}
use Rattle.std.proofs.lemmas.List.{append-nil}
use Rattle.std.proofs.lemmas.List.Splits.{slice_split_none, slice_split_at}
use Rattle.std.proofs.lemmas.List.Concat.{flat_map-append}
use Rattle.std.proofs.lemmas.List.Elements.{All-from_recursion}
use Rattle.text_lines.specs.Fields.{Field, placed, fields_from}
use Rattle.std.specs.Str.Lines.{strip_carriage_return}
use Rattle.pitch_fields.proofs.Lists.{all_append}
use Rattle.text_lines.specs.Text.{lines_of}
use Rattle.pitch_text.specs.Printing.{spaced}
use Rattle.text_lines.proofs.FieldLemmas.{is_space}

-- a byte above the space
abbrev pub is_dark : ℕ → Bool
is_dark b = ltb 32 b

-- a word of a printed line
pub record IsWord (w : List ℕ) : Type 0 where
  pub filled : 0 < length w
  pub dark : list_all is_dark w ≡ true
  pub short : length w ≤ 21

-- words, one after the other
abbrev pub AreWords : List (List ℕ) → Type 0
AreWords [] = Unit {0}
AreWords (w ∷ ws) = IsWord w × AreWords ws

-- no byte of a word is one that is not above the space
no_stop_at : (stop : ℕ) (w : List ℕ) → stop ≤ 32 → list_all is_dark w ≡ true → AllByRecursion (λ b. eqb b stop ≡ false) w
no_stop_at stop [] le h = tt
no_stop_at stop (b ∷ w) le h =
    let p = and_parts (is_dark b) (list_all is_dark w) h in
    let above : 32 < b = ltb-true 32 b p.0 in
    (ne_eqb b stop (λ e. omega arith), no_stop_at stop w le p.1)

no_stop : (stop : ℕ) (w : List ℕ) → stop ≤ 32 → list_all is_dark w ≡ true → All (λ b. eqb b stop ≡ false) w
no_stop stop w le h = All-from_recursion (λ b. eqb b stop ≡ false) w (no_stop_at stop w le h)

-- a line of words is cut into those words
split_words : (w : List ℕ) (ws : List (List ℕ)) → IsWord w → AreWords ws → slice_split is_space (w ++ spaced ws) ≡ w ∷ ws
split_words w [] h hs = rw append-nil (slice_split_none is_space w (no_stop 32 w (omega arith) h.dark))
split_words w (v ∷ ws) h hs = slice_split_at is_space w 32 (v ++ spaced ws) (no_stop 32 w (omega arith) h.dark) refl ∙ ap (λ (ps : List (List ℕ)). w ∷ ps) (split_words v ws hs.0 hs.1)

-- none of them is empty
all_filled : (c : ℕ) (ws : List (List ℕ)) → AreWords ws → filter (λ (f : Field). not (eqb (length f.bytes) 0)) (placed c ws) ≡ placed c ws
all_filled c [] hs = refl
all_filled c (w ∷ ws) hs =
    let some : 0 < length w = hs.0.filled in
    let e : eqb (length w) 0 ≡ false = ne_eqb _ _ (λ z. omega arith) in
    rw (e, all_filled (c + length w + 1) ws hs.1) refl

-- the fields of a line of words
pub fields_words : (c : ℕ) (w : List ℕ) (ws : List (List ℕ)) → IsWord w → AreWords ws → fields_from c (w ++ spaced ws) ≡ placed c (w ∷ ws)
fields_words c w ws h hs = ap (λ (ps : List (List ℕ)). filter (λ (f : Field). not (eqb (length f.bytes) 0)) (placed c ps)) (split_words w ws h hs) ∙ all_filled c (w ∷ ws) (h, hs)

pub spaced_append : (a b : List (List ℕ)) → spaced (a ++ b) ≡ spaced a ++ spaced b
spaced_append a b = flat_map-append (λ w. 32 ∷ w) a b

-- four parts in a row
pub add_words : (old a b c d : List ℕ) (x y z w : List (List ℕ)) → a ≡ old ++ spaced x → b ≡ a ++ spaced y → c ≡ b ++ spaced z → d ≡ c ++ spaced w → d ≡ old ++ spaced (x ++ (y ++ (z ++ w)))
add_words old a b c d x y z w p q r s = rw (s, r, q, p) (simp (spaced_append, append_assoc) refl)

-- ---- how long a line of words is, and that it is one line

pub spaced_length : (ws : List (List ℕ)) → AreWords ws → length (spaced ws) ≤ 22 * length ws
spaced_length [] hs = omega arith
spaced_length (w ∷ ws) hs = omega (arith, length-append w (spaced ws), hs.0.short, spaced_length ws hs.1)

spaced_stops : (stop : ℕ) (ws : List (List ℕ)) → stop < 32 → AreWords ws → AllByRecursion (λ b. eqb b stop ≡ false) (spaced ws)
spaced_stops stop [] le hs = tt
spaced_stops stop (w ∷ ws) le hs = (ne_eqb 32 stop (λ e. omega arith), all_append (λ b. eqb b stop ≡ false) w (spaced ws) (no_stop_at stop w (omega arith) hs.0.dark) (spaced_stops stop ws le hs.1))

line_stops : (stop : ℕ) (w : List ℕ) (ws : List (List ℕ)) → stop < 32 → IsWord w → AreWords ws → AllByRecursion (λ b. eqb b stop ≡ false) (w ++ spaced ws)
line_stops stop w ws le h hs = all_append (λ b. eqb b stop ≡ false) w (spaced ws) (no_stop_at stop w (omega arith) h.dark) (spaced_stops stop ws le hs)

-- no byte is a carriage return, so none is taken off
keeps_return : (line : List ℕ) → 0 < length line → All (λ b. eqb b 13 ≡ false) line → strip_carriage_return line ≡ line
keeps_return line some h = rw (h (length line - 1) 0 (omega arith)) refl

-- words with a space between them, and a line feed, are one line before others
pub line_before_others : (w : List ℕ) (ws : List (List ℕ)) (rest : List ℕ) → IsWord w → AreWords ws → lines_of ((w ++ spaced ws) ++ 10 ∷ rest) ≡ (w ++ spaced ws) ∷ lines_of rest
line_before_others w ws rest h hs =
    let feeds = All-from_recursion (λ b. eqb b 10 ≡ false) (w ++ spaced ws) (line_stops 10 w ws (omega arith) h hs) in
    let returns = All-from_recursion (λ b. eqb b 13 ≡ false) (w ++ spaced ws) (line_stops 13 w ws (omega arith) h hs) in
    ap (λ (ps : List (List ℕ)). map strip_carriage_return ps) (slice_split_at (λ b. eqb b 10) (w ++ spaced ws) 10 rest feeds refl)
    ∙ ap (λ (l : List ℕ). l ∷ lines_of rest) (keeps_return (w ++ spaced ws) (omega (arith, length-append w (spaced ws), h.filled)) returns)

pub one_line : (w : List ℕ) (ws : List (List ℕ)) → IsWord w → AreWords ws → lines_of (w ++ spaced ws) ≡ (w ++ spaced ws) ∷ []
one_line w ws h hs =
    let feeds = All-from_recursion (λ b. eqb b 10 ≡ false) (w ++ spaced ws) (line_stops 10 w ws (omega arith) h hs) in
    let returns = All-from_recursion (λ b. eqb b 13 ≡ false) (w ++ spaced ws) (line_stops 13 w ws (omega arith) h hs) in
    ap (λ (ps : List (List ℕ)). map strip_carriage_return ps) (slice_split_none (λ b. eqb b 10) (w ++ spaced ws) feeds) ∙ ap (λ (l : List ℕ). l ∷ []) (keeps_return (w ++ spaced ws) (omega (arith, length-append w (spaced ws), h.filled)) returns)
