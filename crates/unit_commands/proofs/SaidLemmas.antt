-- What the pieces of a text say.
use Rattle.std.proofs.Common.{◌≡◌, inl, inr, ℕ, ◌+◌, ◌<◌, Bool, true, false, cond, List, [], ◌∷◌, ◌++◌, length, map, Option, Some, None, Result, Ok, Err, refl, sym, ap, ◌∙◌, arith, append_assoc}
use Rattle.std.specs.List.{slice_split, onto_first, cons_option}
use Rattle.std.specs.Str.Lines.{strip_carriage_return}
use Rattle.std.proofs.lemmas.List.{append-nil, length-map, map-append}
use Rattle.std.proofs.lemmas.List.Splits.{length-slice_split}
use Rattle.text_lines.specs.declared.fault.Fault.{Fault}
use Rattle.text_lines.specs.Reading.{LineReading}
use Rattle.text_lines.specs.Text.{TextFault, line_of, lines_of, said_on, said_from, said_of, with_front, all_of, entries_of}
use Rattle.unit_commands.specs.Pieces.{is_line_feed, line_feeds, whole_lines, last_line}
use Rattle.unit_commands.specs.layers.PiecesLaws.{EndsLine, entry_later, fault_later, line_later}
use Rattle.unit_commands.specs.layers.PiecesLaws.{said_behind, SaysByPieces, SaysAtEnd, GivesInTurn}
use Rattle.unit_commands.proofs.CutLemmas.{feeds_append, grown, joined, ends, whole_counts}

-- ---- the lines

onto_append : (b : ℕ) (parts others : List (List ℕ)) → 0 < length parts → onto_first b (parts ++ others) ≡ onto_first b parts ++ others
onto_append b [] others some = absurd (omega arith)
onto_append b (part ∷ parts) others some = refl

split_by : (s : Bool) (b : ℕ) (parts others all : List (List ℕ)) → 0 < length parts → all ≡ parts ++ others → cond s ([] ∷ all) (onto_first b all) ≡ cond s ([] ∷ parts) (onto_first b parts) ++ others
split_by true b parts others all some e = ap (λ (l : List (List ℕ)). [] ∷ l) e
split_by false b parts others all some e = ap (λ (l : List (List ℕ)). onto_first b l) e ∙ onto_append b parts others some

-- the parts of a text behind a line feed are parts of their own
split_behind : (front more : List ℕ) → slice_split is_line_feed (front ++ 10 ∷ more) ≡ slice_split is_line_feed front ++ slice_split is_line_feed more
split_behind [] more = refl
split_behind (b ∷ bs) more =
    split_by (is_line_feed b) b (slice_split is_line_feed bs) (slice_split is_line_feed more) (slice_split is_line_feed (bs ++ 10 ∷ more)) (omega (arith, length-slice_split is_line_feed bs)) (split_behind bs more)

lines_behind : (front more : List ℕ) → lines_of (front ++ 10 ∷ more) ≡ lines_of front ++ lines_of more
lines_behind front more =
    ap (λ (parts : List (List ℕ)). map strip_carriage_return parts) (split_behind front more) ∙ map-append strip_carriage_return (slice_split is_line_feed front) (slice_split is_line_feed more)

count_of_lines : (front : List ℕ) → length (lines_of front) ≡ line_feeds (front ++ 10 ∷ [])
count_of_lines front =
    length-map (slice_split is_line_feed front) strip_carriage_return ∙ length-slice_split is_line_feed front ∙ sym (feeds_append front (10 ∷ []))

-- ---- what lines say

said_append : {A : Type 0} (grammar : LineReading A) (n : ℕ) (lines others : List (List ℕ)) → said_from grammar n (lines ++ others) ≡ said_from grammar n lines ++ said_from grammar (n + length lines) others
said_append grammar n [] others = let e : n + 0 ≡ n = omega arith in ap (λ (m : ℕ). said_from grammar m others) (sym e)
said_append grammar n (line ∷ lines) others =
    let e : n + 1 + length lines ≡ n + length (line ∷ lines) = omega arith in
    ap (cons_option (said_on n (line_of grammar line))) (said_append grammar (n + 1) lines others ∙ ap (λ (m : ℕ). said_from grammar (n + 1) lines ++ said_from grammar m others) e)
    ∙ front (said_on n (line_of grammar line)) (said_from grammar (n + 1) lines) (said_from grammar (n + length (line ∷ lines)) others)
  where
    front : {X : Type 0} (o : Option X) (xs ys : List X) → cons_option o (xs ++ ys) ≡ cons_option o xs ++ ys
    front None xs ys = refl
    front (Some x) xs ys = refl

later_by : {A : Type 0} (k n : ℕ) (read : Result (Option A) Fault) (more rest : List (Result (ℕ × A) TextFault)) → more ≡ map (line_later k) rest → cons_option (said_on (k + n) read) more ≡ map (line_later k) (cons_option (said_on n read) rest)
later_by {A = A} k n (Err f) more rest e = ap (λ (l : List (Result (ℕ × A) TextFault)). Err (record { line = k + n; fault = f }) ∷ l) e
later_by k n (Ok None) more rest e = e
later_by {A = A} k n (Ok (Some x)) more rest e = ap (λ (l : List (Result (ℕ × A) TextFault)). Ok (k + n, x) ∷ l) e

-- later lines say the same, so many lines later
said_later : {A : Type 0} (grammar : LineReading A) (k n : ℕ) (lines : List (List ℕ)) → said_from grammar (k + n) lines ≡ map (line_later k) (said_from grammar n lines)
said_later grammar k n [] = refl
said_later grammar k n (line ∷ lines) =
    let e : k + n + 1 ≡ k + (n + 1) = omega arith in
    later_by k n (line_of grammar line) (said_from grammar (k + n + 1) lines) (said_from grammar (n + 1) lines)
    (ap (λ (m : ℕ). said_from grammar m lines) e ∙ said_later grammar k (n + 1) lines)

-- an empty line says nothing
said_ended : {A : Type 0} (grammar : LineReading A) (front : List ℕ) → said_of grammar (front ++ 10 ∷ []) ≡ said_from grammar 1 (lines_of front)
unfolding said_of
said_ended grammar front =
    ap (said_from grammar 1) (lines_behind front []) ∙ said_append grammar 1 (lines_of front) ([] ∷ []) ∙ append-nil (said_from grammar 1 (lines_of front))

said_feed : {A : Type 0} (grammar : LineReading A) (front more : List ℕ) → said_of grammar ((front ++ 10 ∷ []) ++ more) ≡ said_of grammar (front ++ 10 ∷ []) ++ said_behind grammar (front ++ 10 ∷ []) more
unfolding said_of
said_feed grammar front more =
    let count : 1 + length (lines_of front) ≡ line_feeds (front ++ 10 ∷ []) + 1 = omega (arith, count_of_lines front) in
    ap (λ (l : List ℕ). said_from grammar 1 (lines_of l)) (append_assoc front (10 ∷ []) more)
    ∙ ap (said_from grammar 1) (lines_behind front more) ∙ said_append grammar 1 (lines_of front) (lines_of more)
    ∙ ap (λ (m : ℕ). said_from grammar 1 (lines_of front) ++ said_from grammar m (lines_of more)) count
    ∙ ap (λ l. said_from grammar 1 (lines_of front) ++ l) (said_later grammar (line_feeds (front ++ 10 ∷ [])) 1 (lines_of more))
    ∙ ap (λ l. l ++ said_behind grammar (front ++ 10 ∷ []) more) (sym (said_ended grammar front))

said_nothing : {A : Type 0} (grammar : LineReading A) (more : List ℕ) → said_of grammar more ≡ said_of grammar [] ++ said_behind grammar [] more
unfolding said_of
said_nothing grammar more = said_later grammar 0 1 (lines_of more)

-- whole lines first, and then the others
pub says_in_turn : {A : Type 0} (grammar : LineReading A) (text more : List ℕ) → EndsLine text → said_of grammar (text ++ more) ≡ said_of grammar text ++ said_behind grammar text more
says_in_turn grammar text more (inl none) = rw none (said_nothing grammar more)
says_in_turn grammar text more (inr (front, e)) = rw e (said_feed grammar front more)

-- ---- what pieces say

said_of_whole : {A : Type 0} (grammar : LineReading A) (text more : List ℕ) → said_of grammar (whole_lines text ++ more) ≡ said_of grammar (whole_lines text) ++ said_behind grammar text more
said_of_whole grammar text more =
    says_in_turn grammar (whole_lines text) more (ends text)
    ∙ ap (λ (n : ℕ). said_of grammar (whole_lines text) ++ map (line_later n) (said_of grammar more)) (whole_counts text)

pub says_by_pieces : {A : Type 0} (grammar : LineReading A) → SaysByPieces grammar
says_by_pieces grammar text piece =
    ap (said_of grammar) (grown text piece).0 ∙ said_of_whole grammar text (whole_lines (last_line text ++ piece))

pub says_at_end : {A : Type 0} (grammar : LineReading A) → SaysAtEnd grammar
says_at_end grammar text = ap (said_of grammar) (sym (joined text)) ∙ said_of_whole grammar text (last_line text)

-- ---- all entries, or the first fault

-- these and then the others, or the first fault of the two
then_all : {X E : Type 0} → Result (List X) E → Result (List X) E → Result (List X) E
then_all (Err f) others = Err f
then_all (Ok xs) (Err f) = Err f
then_all (Ok xs) (Ok ys) = Ok (xs ++ ys)

all_none : {X E : Type 0} (others : Result (List X) E) → others ≡ then_all (Ok []) others
unfolding then_all
all_none (Ok ys) = refl
all_none (Err f) = refl

all_front : {X E : Type 0} (x : X) (first others : Result (List X) E) → with_front x (then_all first others) ≡ then_all (with_front x first) others
unfolding then_all
all_front x (Err f) others = refl
all_front x (Ok xs) (Err f) = refl
all_front x (Ok xs) (Ok ys) = refl

all_append : {X E : Type 0} (xs ys : List (Result X E)) → all_of (xs ++ ys) ≡ then_all (all_of xs) (all_of ys)
unfolding then_all
all_append [] ys = all_none (all_of ys)
all_append (Ok x ∷ xs) ys = ap (with_front x) (all_append xs ys) ∙ all_front x (all_of xs) (all_of ys)
all_append (Err f ∷ xs) ys = refl

-- entries, or the fault, so many lines later
all_later : {A : Type 0} → ℕ → Result (List (ℕ × A)) TextFault → Result (List (ℕ × A)) TextFault
all_later n (Ok xs) = Ok (map (entry_later n) xs)
all_later n (Err at) = Err (fault_later n at)

later_front : {A : Type 0} (n : ℕ) (x : ℕ × A) (read : Result (List (ℕ × A)) TextFault) → with_front (entry_later n x) (all_later n read) ≡ all_later n (with_front x read)
unfolding all_later
later_front n x (Ok xs) = refl
later_front n x (Err at) = refl

all_of_later : {A : Type 0} (n : ℕ) (said : List (Result (ℕ × A) TextFault)) → all_of (map (line_later n) said) ≡ all_later n (all_of said)
unfolding all_later
all_of_later n [] = refl
all_of_later n (Ok x ∷ said) = ap (with_front (entry_later n x)) (all_of_later n said) ∙ later_front n x (all_of said)
all_of_later n (Err at ∷ said) = refl

entries_in_turn : {A : Type 0} (grammar : LineReading A) (text more : List ℕ) → EndsLine text → entries_of grammar (text ++ more) ≡ then_all (entries_of grammar text) (all_later (line_feeds text) (entries_of grammar more))
unfolding entries_of
entries_in_turn {A} grammar text more whole =
    ap (λ (said : List (Result (ℕ × A) TextFault)). all_of said) (says_in_turn grammar text more whole)
    ∙ all_append (said_of grammar text) (said_behind grammar text more)
    ∙ ap (then_all (all_of (said_of grammar text))) (all_of_later (line_feeds text) (said_of grammar more))

pub gives_in_turn : {A : Type 0} (grammar : LineReading A) (text more : List ℕ) → EndsLine text → GivesInTurn grammar text more
unfolding then_all all_later
gives_in_turn {A} grammar text more whole = record {
  first_fault = λ at e. entries_in_turn grammar text more whole ∙ ap (λ (r : Result (List (ℕ × A)) TextFault). then_all r (all_later (line_feeds text) (entries_of grammar more))) e;
  second_fault = λ xs at e f. entries_in_turn grammar text more whole ∙ ap (λ (r : Result (List (ℕ × A)) TextFault). then_all r (all_later (line_feeds text) (entries_of grammar more))) e
      ∙ ap (λ (r : Result (List (ℕ × A)) TextFault). then_all (Ok xs) (all_later (line_feeds text) r)) f;
  all_entries = λ xs ys e f. entries_in_turn grammar text more whole ∙ ap (λ (r : Result (List (ℕ × A)) TextFault). then_all r (all_later (line_feeds text) (entries_of grammar more))) e
      ∙ ap (λ (r : Result (List (ℕ × A)) TextFault). then_all (Ok xs) (all_later (line_feeds text) r)) f;
}
