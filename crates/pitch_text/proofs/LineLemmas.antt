-- The canonical line of an entry reads as that entry.
use Rattle.std.proofs.Common.{◌≡◌, ℕ, ◌+◌, ◌/◌, ◌%◌, ◌^◌, ◌<◌, ◌≤◌, Bool, true, false, not, eqb, ltb, leb, cond, List, [], ◌∷◌, ◌++◌, ◌&&◌, length, Option, Some, None, Ok, refl, ◌∙◌, arith, length-append}
use Rattle.std.specs.Prelude.{IfSome, MatchBool, decimal, codes, nat_eq}
use Rattle.std.specs.List.{list_all, starts_with}
use Rattle.std.specs.Char.{is_ascii_digit}
use Rattle.std.specs.Cmp.Lexicographic.{pointwise}
use Rattle.std.proofs.lemmas.Bool.{ltb-true, leb-true, lt-ltb, le-ltb, and_parts, and_from, ne_eqb}
use Rattle.std.proofs.lemmas.List.Folds.{list_all-append}
use Rattle.std.proofs.lemmas.Fmt.{decimal_nonempty, length-decimal-le}
use Rattle.pitch_fields.specs.Price.{price_digits}
use Rattle.pitch_fields.specs.Side.{byte_of}
use Rattle.pitch_fields.specs.declared.side.Side.{Side}
use Rattle.pitch_fields.specs.declared.side.Side.TheVariants.{Buy, Sell}
use Rattle.pitch_messages.specs.declared.order.Order.{Order}
use Rattle.pitch_text.specs.declared.command.Command.{Command}
use Rattle.pitch_text.specs.declared.command.Command.TheVariants as commands
use Rattle.pitch_io.specs.declared.line.Line.{Line}
use Rattle.pitch_io.specs.declared.line.Line.TheVariants as lines
use Rattle.pitch_text.specs.declared.verb.Session.{Session}
use Rattle.pitch_text.specs.declared.verb.Session.TheVariants.{Grp, Spin}
use Rattle.pitch_text.specs.declared.verb.Verb.{Verb}
use Rattle.pitch_text.specs.declared.verb.Verb.TheVariants as verbs
use Rattle.text_lines.specs.Fields.{Field, Rest, placed, fields_of}
use Rattle.pitch_fields.specs.Name.{is_printing}
use Rattle.pitch_fields.specs.Name.{no_participant}
use Rattle.text_lines.specs.Kinds.{padded_of, participant_of}
use Rattle.pitch_text.specs.Defaults.{default_hold, default_kept, default_second, default_minute, default_day}
use Rattle.pitch_text.specs.ScheduleGrammar.{entry}
use Rattle.text_lines.specs.Text.{line_of, lines_of, said_of, entries_of}
use Rattle.pitch_text.specs.WellFormed.{IsVerb, IsCommand, IsPrintingByte, IsOrder, IsOffset, IsSymbol, IsWellFormed}
use Rattle.pitch_text.specs.Printing.{verb_words, command_words, number_words, at_words, hidden_words, mpid_words, order_words, name_of, count_word, line_word, session_word, spaced, entry_text}
use Rattle.pitch_text.proofs.WordLemmas.{is_dark, IsWord, AreWords, fields_words, spaced_length, line_before_others, one_line}
use Rattle.text_lines.proofs.KindLemmas.{decimal_digits}
use Rattle.pitch_text.proofs.NameLemmas.{guard_is, name_again, participant_again}
use Rattle.pitch_text.proofs.VerbLemmas.{left, entry_again}

-- ---- each word is one

digits_dark : (ds : List ℕ) → list_all is_ascii_digit ds ≡ true → list_all is_dark ds ≡ true
digits_dark [] h = refl
digits_dark (d ∷ ds) h =
    let p = and_parts (is_ascii_digit d) (list_all is_ascii_digit ds) h in
    let q = and_parts (leb 48 d) (leb d 57) p.0 in
    and_from (is_dark d) (list_all is_dark ds) (lt-ltb 32 d (omega (arith, leb-true 48 d q.0))) (digits_dark ds p.1)

printing_dark : (bs : List ℕ) → list_all is_printing bs ≡ true → list_all is_dark bs ≡ true
printing_dark [] h = refl
printing_dark (b ∷ bs) h =
    let p = and_parts (is_printing b) (list_all is_printing bs) h in
    let q = and_parts (leb 33 b) (leb b 126 && not (eqb b 92)) p.0 in
    and_from (is_dark b) (list_all is_dark bs) (lt-ltb 32 b (omega (arith, leb-true 33 b q.0))) (printing_dark bs p.1)

number_word : (n k : ℕ) → 0 < k → k ≤ 20 → n < 10 ^ k → n < 2 ^ 64 → IsWord (decimal n)
number_word n k some le small fits = record { filled = decimal_nonempty n fits; dark = digits_dark (decimal n) (decimal_digits n fits); short = omega (arith, length-decimal-le k n some small fits) }

-- a number of 64 bits, and one of 32
id_is_word : (n : ℕ) → n < 2 ^ 64 → IsWord (decimal n)
id_is_word n h = number_word n 20 (omega arith) (omega arith) (omega (arith, h)) h

count_is_word : (n : ℕ) → n < 2 ^ 32 → IsWord (decimal n)
count_is_word n h = id_is_word n (omega (arith, h))

-- a name in front
named_word : (name text : List ℕ) → list_all is_dark name ≡ true → list_all is_dark text ≡ true → 0 < length name → length name + length text ≤ 20 → IsWord (name ++ text)
named_word name text d e some le = record { filled = omega (arith, length-append name text); dark = list_all-append is_dark name text ∙ and_from (list_all is_dark name) (list_all is_dark text) d e; short = omega (arith, length-append name text) }

name_word : (width : ℕ) (x s : List ℕ) → padded_of width x ≡ Some s → (0 < length x) × (length x ≤ width) × (list_all is_dark x ≡ true)
name_word width x s e =
    let g = guard_is (ltb 0 (length x) && leb (length x) width && list_all is_printing x) _ s e in
    let p = and_parts (ltb 0 (length x) && leb (length x) width) (list_all is_printing x) g.0 in
    let q = and_parts (ltb 0 (length x)) (leb (length x) width) p.0 in
    (ltb-true _ _ q.0, leb-true _ _ q.1, printing_dark x p.1)

symbol_word : (s : List ℕ) → IsSymbol s → IsWord (name_of s)
symbol_word s ok = let n = name_word 8 (name_of s) s (name_again 8 s ok.0 ok.1) in record { filled = n.0; dark = n.2; short = omega (arith, n.1) }

price_word : (p : ℕ) → p < 2 ^ 64 → IsWord (price_digits p)
price_word p small =
    let q = p / 10000 in
    let r = p % 10000 in
    let f : List ℕ = 46 ∷ (48 + r / 1000) ∷ (48 + r / 100 % 10) ∷ (48 + r / 10 % 10) ∷ (48 + r % 10) ∷ [] in
    let a : ltb 32 (48 + r / 1000) ≡ true = lt-ltb _ _ (omega arith) in
    let b : ltb 32 (48 + r / 100 % 10) ≡ true = lt-ltb _ _ (omega arith) in
    let c : ltb 32 (48 + r / 10 % 10) ≡ true = lt-ltb _ _ (omega arith) in
    let d : ltb 32 (48 + r % 10) ≡ true = lt-ltb _ _ (omega arith) in
    let dark : list_all is_dark f ≡ true = rw (a, b, c, d) refl in
    let len : length (decimal q) ≤ 16 = length-decimal-le 16 q (omega arith) (omega arith) (omega arith) in
    record { filled = omega (arith, length-append (decimal q) f); dark = list_all-append is_dark (decimal q) f ∙ and_from _ _ (digits_dark (decimal q) (decimal_digits q (omega arith))) dark; short = omega (arith, length-append (decimal q) f) }

-- optional words
number_words_ok : (name : List ℕ) (default n k : ℕ) (b : Bool) → list_all is_dark name ≡ true → 0 < length name → 0 < k → length name + k ≤ 20 → n < 10 ^ k → n < 2 ^ 64 → AreWords (cond b [] ((name ++ decimal n) ∷ [])) × (length (cond b [] ((name ++ decimal n) ∷ [])) ≤ 1)
number_words_ok name default n k true d some k_some le small fits = (tt, omega arith)
number_words_ok name default n k false d some k_some le small fits = ((named_word name (decimal n) d (digits_dark (decimal n) (decimal_digits n fits)) some (omega (arith, length-decimal-le k n k_some small fits)), tt), omega arith)

are_append : (xs ys : List (List ℕ)) → AreWords xs → AreWords ys → AreWords (xs ++ ys)
are_append [] ys h k = k
are_append (x ∷ xs) ys h k = (h.0, are_append xs ys h.1 k)

-- what is known of the words after the unit
pub record AreFew (ws : List (List ℕ)) : Type 0 where
  pub words : AreWords ws
  pub few : length ws ≤ 9

at_ok : (n : ℕ) → IsOffset n → AreWords (at_words n) × (length (at_words n) ≤ 1)
at_ok n h = number_words_ok (codes "at=") 0 n 9 (eqb n 0) refl (omega arith) (omega arith) (omega arith) (omega arith) (omega arith)

hidden_ok : (d : Bool) → AreWords (hidden_words d) × (length (hidden_words d) ≤ 1)
hidden_ok true = (tt, omega arith)
hidden_ok false = ((record { filled = omega arith; dark = refl; short = omega arith }, tt), omega arith)

mpid_ok : (p : List ℕ) (b : Bool) → MatchBool b (p ≡ no_participant) (participant_of (name_of p) ≡ Some p) → AreWords (cond b [] ((codes "mpid=" ++ name_of p) ∷ [])) × (length (cond b [] ((codes "mpid=" ++ name_of p) ∷ [])) ≤ 1)
mpid_ok p true told = (tt, omega arith)
mpid_ok p false told = let n = name_word 4 (name_of p) p told in ((named_word (codes "mpid=") (name_of p) refl n.2 (omega arith) (omega (arith, n.1)), tt), omega arith)

side_word : (s : Side) → IsWord (byte_of s ∷ [])
side_word Buy = record { filled = omega arith; dark = refl; short = omega arith }
side_word Sell = record { filled = omega arith; dark = refl; short = omega arith }

-- a word that is written out
literal : (w : List ℕ) → ltb 0 (length w) ≡ true → list_all is_dark w ≡ true → leb (length w) 21 ≡ true → IsWord w
literal w a b c = record { filled = ltb-true _ _ a; dark = b; short = leb-true _ _ c }

add_ok : (o : Order) (offset : ℕ) → IsOrder o → IsOffset offset → AreFew (command_words (commands.Add o offset))
add_ok o offset ok off =
    let h = hidden_ok o.display in
    let m = mpid_ok o.participant (pointwise nat_eq o.participant no_participant) (participant_again o.participant ok.participant) in
    let t = at_ok offset off in
    let order : AreWords (order_words (codes "add") o) = (literal (codes "add") refl refl refl, (id_is_word o.id ok.id, (side_word o.side, (count_is_word o.quantity ok.quantity, (symbol_word o.symbol ok.symbol, (price_word o.price ok.price, tt)))))) in
    record {
      words = are_append (order_words (codes "add") o) (hidden_words o.display ++ (mpid_words o.participant ++ at_words offset)) order (are_append (hidden_words o.display) (mpid_words o.participant ++ at_words offset) h.0 (are_append (mpid_words o.participant) (at_words offset) m.0 t.0));
      few = omega (arith, length-append (hidden_words o.display) (mpid_words o.participant ++ at_words offset), length-append (mpid_words o.participant) (at_words offset), h.1, m.1, t.1);
    }

trade_ok : (o : Order) (execution offset : ℕ) → IsOrder o → execution < 2 ^ 64 → IsOffset offset → AreFew (command_words (commands.Trade o execution offset))
trade_ok o execution offset ok ex off =
    let t = at_ok offset off in
    record {
      words = (literal (codes "trade") refl refl refl, (id_is_word o.id ok.id, (side_word o.side, (count_is_word o.quantity ok.quantity, (symbol_word o.symbol ok.symbol, (price_word o.price ok.price, (id_is_word execution ex, t.0)))))));
      few = omega (arith, t.1);
    }

byte_word : (b : ℕ) → IsPrintingByte b → IsWord (b ∷ [])
byte_word b h = record { filled = omega arith; dark = printing_dark (b ∷ []) (and_from (is_printing b) true h refl); short = omega arith }

command_ok : (c : Command) → IsCommand c → AreFew (command_words c)
command_ok (commands.Time second) h = record { words = (literal (codes "time") refl refl refl, (number_word second 20 (omega arith) (omega arith) (omega arith) (omega arith), tt)); few = omega arith }
command_ok (commands.Add o offset) h = add_ok o offset h.0 h.1
command_ok (commands.Reduce id quantity offset) h = record { words = (literal (codes "reduce") refl refl refl, (id_is_word id h.0, (count_is_word quantity h.1, (at_ok offset h.2).0))); few = omega (arith, (at_ok offset h.2).1) }
command_ok (commands.Exec id quantity execution offset) h = record { words = (literal (codes "exec") refl refl refl, (id_is_word id h.0, (count_is_word quantity h.1, (id_is_word execution h.2, (at_ok offset h.3).0)))); few = omega (arith, (at_ok offset h.3).1) }
command_ok (commands.ExecAt id quantity remaining execution price offset) h = record { words = (literal (codes "execat") refl refl refl, (id_is_word id h.0, (count_is_word quantity h.1, (count_is_word remaining h.2, (id_is_word execution h.3, (price_word price h.4, (at_ok offset h.5).0)))))); few = omega (arith, (at_ok offset h.5).1) }
command_ok (commands.Delete id offset) h = record { words = (literal (codes "delete") refl refl refl, (id_is_word id h.0, (at_ok offset h.1).0)); few = omega (arith, (at_ok offset h.1).1) }
command_ok (commands.Break execution offset) h = record { words = (literal (codes "break") refl refl refl, (id_is_word execution h.0, (at_ok offset h.1).0)); few = omega (arith, (at_ok offset h.1).1) }
command_ok (commands.EndSession offset) h = record { words = (literal (codes "end") refl refl refl, (at_ok offset h).0); few = omega (arith, (at_ok offset h).1) }
command_ok (commands.Modify id quantity price display offset) h = record { words = (literal (codes "modify") refl refl refl, (id_is_word id h.0, (count_is_word quantity h.1, (price_word price h.2, are_append (hidden_words display) (at_words offset) (hidden_ok display).0 (at_ok offset h.3).0)))); few = omega (arith, length-append (hidden_words display) (at_words offset), (hidden_ok display).1, (at_ok offset h.3).1) }
command_ok (commands.Trade o execution offset) h = trade_ok o execution offset h.0 h.3 h.4
command_ok (commands.Clear offset) h = record { words = (literal (codes "clear") refl refl refl, (at_ok offset h).0); few = omega (arith, (at_ok offset h).1) }
command_ok (commands.Status symbol halt sho offset) h = record { words = (literal (codes "status") refl refl refl, (symbol_word symbol h.0, (byte_word halt h.1, (byte_word sho h.2, (at_ok offset h.3).0)))); few = omega (arith, (at_ok offset h.3).1) }

line_word_ok : (l : Line) → IsWord (line_word l)
line_word_ok lines.A = literal (codes "a") refl refl refl
line_word_ok lines.B = literal (codes "b") refl refl refl
line_word_ok lines.Gap = literal (codes "g") refl refl refl

session_word_ok : (s : Session) → IsWord (session_word s)
session_word_ok Grp = literal (codes "grp") refl refl refl
session_word_ok Spin = literal (codes "spin") refl refl refl

count_word_ok : (o : Option ℕ) → IfSome o (λ n. n < 2 ^ 32) → IsWord (count_word (codes "all") o)
count_word_ok None h = literal (codes "all") refl refl refl
count_word_ok (Some n) h = count_is_word n h

setup_ok : (hold kept second minute day : ℕ) → IsVerb (verbs.Setup hold kept second minute day) → AreFew (verb_words (verbs.Setup hold kept second minute day))
setup_ok hold kept second minute day h =
    let holds = number_words (codes "hold=") default_hold hold in
    let keeps = number_words (codes "kept=") default_kept kept in
    let seconds = number_words (codes "second=") default_second second in
    let minutes = number_words (codes "minute=") default_minute minute in
    let days = number_words (codes "day=") default_day day in
    let w0 = number_words_ok (codes "hold=") default_hold hold 5 (eqb hold default_hold) refl (omega arith) (omega arith) (omega arith) (omega (arith, h.1)) (omega (arith, h.1)) in
    let w1 = number_words_ok (codes "kept=") default_kept kept 5 (eqb kept default_kept) refl (omega arith) (omega arith) (omega arith) (omega (arith, h.3)) (omega (arith, h.3)) in
    let w2 = number_words_ok (codes "second=") default_second second 7 (eqb second default_second) refl (omega arith) (omega arith) (omega arith) (omega (arith, h.5)) (omega (arith, h.5)) in
    let w3 = number_words_ok (codes "minute=") default_minute minute 7 (eqb minute default_minute) refl (omega arith) (omega arith) (omega arith) (omega (arith, h.7)) (omega (arith, h.7)) in
    let w4 = number_words_ok (codes "day=") default_day day 7 (eqb day default_day) refl (omega arith) (omega arith) (omega arith) (omega (arith, h.9)) (omega (arith, h.9)) in
    record {
      words = (literal (codes "open") refl refl refl, are_append holds (keeps ++ (seconds ++ (minutes ++ days))) w0.0 (are_append keeps (seconds ++ (minutes ++ days)) w1.0 (are_append seconds (minutes ++ days) w2.0 (are_append minutes days w3.0 w4.0))));
      few = omega (arith, length-append holds (keeps ++ (seconds ++ (minutes ++ days))), length-append keeps (seconds ++ (minutes ++ days)), length-append seconds (minutes ++ days), length-append minutes days, w0.1, w1.1, w2.1, w3.1, w4.1);
    }

verb_ok : (v : Verb) → IsVerb v → AreFew (verb_words v)
verb_ok (verbs.Command c) h = command_ok c h
verb_ok (verbs.Setup hold kept second minute day) h = setup_ok hold kept second minute day h
verb_ok verbs.Flush h = record { words = (literal (codes "flush") refl refl refl, tt); few = omega arith }
verb_ok verbs.Beat h = record { words = (literal (codes "beat") refl refl refl, tt); few = omega arith }
verb_ok verbs.Advertise h = record { words = (literal (codes "advertise") refl refl refl, tt); few = omega arith }
verb_ok verbs.Tick h = record { words = (literal (codes "tick") refl refl refl, tt); few = omega arith }
verb_ok verbs.Show h = record { words = (literal (codes "show") refl refl refl, tt); few = omega arith }
verb_ok (verbs.Connect session) h = record { words = (session_word_ok session, (literal (codes "open") refl refl refl, tt)); few = omega arith }
verb_ok (verbs.Down session bytes) h = record { words = (session_word_ok session, (literal (codes "down") refl refl refl, (count_word_ok bytes h, tt))); few = omega arith }
verb_ok (verbs.Deliver line n) h = record { words = (line_word_ok line, (count_is_word n h.1, tt)); few = omega arith }
verb_ok (verbs.Rest line) h = record { words = (line_word_ok line, (literal (codes "rest") refl refl refl, tt)); few = omega arith }
verb_ok (verbs.Cut session) h = record { words = (session_word_ok session, (literal (codes "cut") refl refl refl, tt)); few = omega arith }
verb_ok (verbs.Up session bytes) h = record { words = (session_word_ok session, (literal (codes "up") refl refl refl, (count_word_ok bytes h, tt))); few = omega arith }
verb_ok (verbs.Quote symbol) h = record { words = (literal (codes "quote") refl refl refl, (symbol_word symbol h, tt)); few = omega arith }

-- ---- the line

-- digits are no comment
no_comment : (ds : List ℕ) → 0 < length ds → list_all is_ascii_digit ds ≡ true → starts_with nat_eq ds (codes "#") ≡ false
no_comment [] some h = absurd (omega arith)
no_comment (d ∷ ds) some h =
    let p = and_parts (is_ascii_digit d) (list_all is_ascii_digit ds) h in
    let q = and_parts (leb 48 d) (leb d 57) p.0 in
    let differ : eqb 35 d ≡ false = ne_eqb 35 d (λ e. omega (arith, leb-true 48 d q.0)) in
    rw differ refl

-- what a line of these fields says
line_says : (line : List ℕ) (f : Field) (fields : List Field) (unit : ℕ) (v : Verb) (rest : Rest) → fields_of line ≡ f ∷ fields → starts_with nat_eq f.bytes (codes "#") ≡ false → length line ≤ 200 → entry (record { past = 1; fields = f ∷ fields }) ≡ Ok ((unit, v), rest)
    → line_of entry line ≡ Ok (Some (unit, v))
line_says line f fields unit v rest cut no_hash short said =
    let fits : ltb 200 (length line) ≡ false = le-ltb _ _ short in
    rw (cut, no_hash, fits, said) refl

pub line_again : (unit : ℕ) (v : Verb) → IsWellFormed unit v → line_of entry (entry_text unit v) ≡ Ok (Some (unit, v))
unfolding entry_text
line_again unit v h =
    let u = h.in_range in
    let ws = verb_ok v h.each in
    let word = number_word unit 2 (omega arith) (omega arith) (omega arith) (omega arith) in
    let len : length (decimal unit) ≤ 2 = length-decimal-le 2 unit (omega arith) (omega arith) (omega arith) in
    let r = entry_again unit v 1 1 h in
    line_says (decimal unit ++ spaced (verb_words v)) (record { column = 1; bytes = decimal unit }) (placed (1 + length (decimal unit) + 1) (verb_words v)) unit v (left r.past r.column [])
    (fields_words 1 (decimal unit) (verb_words v) word ws.words)
    (no_comment (decimal unit) (decimal_nonempty unit (omega arith)) (decimal_digits unit (omega arith)))
    (omega (arith, length-append (decimal unit) (spaced (verb_words v)), spaced_length (verb_words v) ws.words, ws.few))
    r.is

one_entry : (unit : ℕ) (v : Verb) → IsWellFormed unit v → lines_of (entry_text unit v) ≡ entry_text unit v ∷ []
unfolding entry_text
one_entry unit v h = let u = h.in_range in one_line (decimal unit) (verb_words v) (number_word unit 2 (omega arith) (omega arith) (omega arith) (omega arith)) (verb_ok v h.each).words

-- the whole text of one line
pub text_again : (unit : ℕ) (v : Verb) → IsWellFormed unit v → entries_of entry (entry_text unit v) ≡ Ok ((1, (unit, v)) ∷ [])
unfolding entries_of said_of
text_again unit v h =
    let one : lines_of (entry_text unit v) ≡ entry_text unit v ∷ [] = one_entry unit v h in
    rw (one, line_again unit v h) refl

-- the line of an entry, and a line feed, is one line before others
pub entry_before_others : (unit : ℕ) (v : Verb) (rest : List ℕ) → IsWellFormed unit v → lines_of (entry_text unit v ++ 10 ∷ rest) ≡ entry_text unit v ∷ lines_of rest
unfolding entry_text
entry_before_others unit v rest h = let u = h.in_range in line_before_others (decimal unit) (verb_words v) rest (number_word unit 2 (omega arith) (omega arith) (omega arith) (omega arith)) (verb_ok v h.each).words
