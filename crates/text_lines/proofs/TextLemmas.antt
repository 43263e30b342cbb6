-- Going over the lines of a text.
use Rattle.std.proofs.Common.{◌≡◌, inl, inr, ℕ, suc, ◌+◌, ◌<◌, ◌≤◌, Bool, eqb, ◌-◌, List, [], ◌∷◌, ◌++◌, length, take, drop, map, Option, Some, None, Result, Ok, Err, refl, sym, ap, ◌∙◌, arith, append_assoc, subst}
use Rattle.std.specs.Prelude.{option_map}
use Rattle.std.specs.List.{position_or_len, cons_option}
use Rattle.std.specs.Str.Lines.{strip_carriage_return}
use Rattle.std.proofs.lemmas.List.{append-nil, take_all}
use Rattle.text_lines.specs.declared.fault.TextError.{TextError}
use Rattle.text_lines.specs.declared.fault.TextError.TheVariants as errors
use Rattle.text_lines.specs.Reading.{LineReading}
use Rattle.text_lines.specs.Text.{TextFault, said_on, said_from, said_of, with_front, all_of}
use Rattle.text_lines.specs.Text.{line_of, lines_of, entries_of}
use Rattle.text_lines.specs.Items.{item_of, items_from, items_of, IsFirstLine, AppendsEntries}
use Rattle.text_lines.specs.Items.{IsFirstFault}
use Rattle.text_lines.proofs.FieldLemmas.{split_first, parts_after}

abbrev pub is_feed : ℕ → Bool
is_feed b = eqb b 10

-- the lines after the first
abbrev pub lines_after : List ℕ → List (List ℕ)
lines_after [] = []
lines_after (b ∷ bs) = lines_of bs

parts_lines : (bs : List ℕ) → map strip_carriage_return (parts_after is_feed bs) ≡ lines_after bs
parts_lines [] = refl
parts_lines (b ∷ bs) = refl

lines_first : (bs : List ℕ) → lines_of bs ≡ strip_carriage_return (take (position_or_len is_feed bs) bs) ∷ lines_after (drop (position_or_len is_feed bs) bs)
lines_first bs =
    let k = position_or_len is_feed bs in
    ap (λ (parts : List (List ℕ)). map strip_carriage_return parts) (split_first is_feed bs) ∙ ap (λ (ls : List (List ℕ)). strip_carriage_return (take k bs) ∷ ls) (parts_lines (drop k bs))

-- the line that the code cut off, and the lines after it
cut_lines : (rest line after said : List ℕ) (k : ℕ) → k ≡ position_or_len is_feed rest → line ≡ take k rest → after ≡ drop k rest → said ≡ strip_carriage_return line → lines_of rest ≡ said ∷ lines_after after
cut_lines rest line after said k e l a s = rw (s, l, a, e) (lines_first rest)

next_lines : (after : List ℕ) → 1 ≤ length after → lines_after after ≡ lines_of (take (length after - 1) (drop 1 after))
next_lines [] some = absurd (omega arith)
next_lines (b ∷ bs) some = let e : suc (length bs) - 1 ≡ length bs = omega arith in rw (e, take_all (length bs) bs (omega arith)) refl

no_lines : (after : List ℕ) → length after < 1 → (lines_after after ≡ []) × (after ≡ [])
no_lines [] few = (refl, refl)
no_lines (b ∷ bs) few = absurd (omega arith)

-- ---- the first line

-- lines are left after it
pub line_before : (text line after said : List ℕ) (k : ℕ) → k ≡ position_or_len is_feed text → line ≡ take k text → after ≡ drop k text → said ≡ strip_carriage_return line → 1 ≤ length after
    → IsFirstLine text said (take (length after - 1) (drop 1 after))
line_before text line after said k e l a s some = inl (cut_lines text line after said k e l a s ∙ ap (λ (ls : List (List ℕ)). said ∷ ls) (next_lines after some))

-- it is the last
pub line_alone : (text line after said : List ℕ) (k : ℕ) → k ≡ position_or_len is_feed text → line ≡ take k text → after ≡ drop k text → said ≡ strip_carriage_return line → length after < 1 → IsFirstLine text said after
line_alone text line after said k e l a s few = inr (cut_lines text line after said k e l a s ∙ ap (λ (ls : List (List ℕ)). said ∷ ls) (no_lines after few).0, (no_lines after few).1)

-- ---- the items of a text

map_cons : {X Y : Type 0} (h : X → Y) (o : Option X) (xs : List X) → map h (cons_option o xs) ≡ cons_option (option_map h o) (map h xs)
map_cons h None xs = refl
map_cons h (Some x) xs = refl

-- the item of the first line, if it has one, and then those of the lines after
pub items_first : {A Y : Type 0} (grammar : LineReading A) (entry : ℕ × A → Y) (n : ℕ) (text line behind : List ℕ) → IsFirstLine text line behind
    → items_from grammar entry n text ≡ cons_option (option_map (item_of entry) (said_on n (line_of grammar line))) (items_from grammar entry (n + 1) behind)
items_first grammar entry n text line behind (inl e) =
    ap (λ (ls : List (List ℕ)). map (item_of entry) (said_from grammar n ls)) e ∙ map_cons (item_of entry) (said_on n (line_of grammar line)) (said_from grammar (n + 1) (lines_of behind))
items_first grammar entry n text line behind (inr (e, z)) =
    ap (λ (ls : List (List ℕ)). map (item_of entry) (said_from grammar n ls)) e ∙ map_cons (item_of entry) (said_on n (line_of grammar line)) []
    ∙ ap (λ (b : List ℕ). cons_option (option_map (item_of entry) (said_on n (line_of grammar line))) (items_from grammar entry (n + 1) b)) (sym z)

pub items_all : {A Y : Type 0} (grammar : LineReading A) (entry : ℕ × A → Y) (text : List ℕ) → items_from grammar entry 1 text ≡ items_of grammar entry text
unfolding items_of said_of
items_all grammar entry text = refl

-- ---- all of the items, or their first error

-- what a call answers of what the lines say: all their entries, or the first fault as its error
abbrev pub answer_of : {X Y : Type 0} → (X → Y) → Result (List X) TextFault → Result (List Y) TextError
answer_of entry (Ok xs) = Ok (map entry xs)
answer_of entry (Err at) = Err (errors.Bad at.line at.fault.column at.fault.cause)

answer_more : {X Y : Type 0} (entry : X → Y) (x : X) (read : Result (List X) TextFault) → with_front (entry x) (answer_of entry read) ≡ answer_of entry (with_front x read)
answer_more entry x (Ok xs) = refl
answer_more entry x (Err at) = refl

all_items : {X Y : Type 0} (entry : X → Y) (said : List (Result X TextFault)) → all_of (map (item_of entry) said) ≡ answer_of entry (all_of said)
all_items entry [] = refl
all_items entry (Ok x ∷ said) = ap (with_front (entry x)) (all_items entry said) ∙ answer_more entry x (all_of said)
all_items entry (Err at ∷ said) = refl

-- all the items of a text are its entries
pub items_answer : {A Y : Type 0} (grammar : LineReading A) (entry : ℕ × A → Y) (text : List ℕ) → all_of (items_of grammar entry text) ≡ answer_of entry (entries_of grammar text)
unfolding items_of entries_of
items_answer grammar entry text = all_items entry (said_of grammar text)

-- ---- the loop over the items: those before some were entries, which were appended to a list

-- these before them, or the fault among them
abbrev pub with_all : {X E : Type 0} → List X → Result (List X) E → Result (List X) E
with_all prefix (Ok xs) = Ok (prefix ++ xs)
with_all prefix (Err f) = Err f

pub record Taken {Y : Type 0} (items left : List (Result Y TextError)) (old now : List Y) : Type 0 where
  pub prefix : List Y
  pub appended : now ≡ old ++ prefix
  pub same : all_of items ≡ with_all prefix (all_of left)

with_none : {Y : Type 0} (read : Result (List Y) TextError) → read ≡ with_all [] read
with_none (Ok xs) = refl
with_none (Err f) = refl

with_more : {Y : Type 0} (prefix : List Y) (y : Y) (read : Result (List Y) TextError) → with_all prefix (with_front y read) ≡ with_all (prefix ++ y ∷ []) read
with_more {Y = Y} prefix y (Ok xs) = ap (λ (zs : List Y). Ok zs) (sym (append_assoc prefix (y ∷ []) xs))
with_more prefix y (Err f) = refl

-- before the first item
pub takes_none : {Y : Type 0} (items : List (Result Y TextError)) (old : List Y) → Taken items items old old
takes_none items old = record { prefix = []; appended = sym (append-nil old); same = with_none (all_of items) }

-- an entry was appended
pub takes_entry : {Y : Type 0} (items left more : List (Result Y TextError)) (y : Y) (old mid new : List Y) → left ≡ Ok y ∷ more → new ≡ mid ++ y ∷ [] → Taken items left old mid → Taken items more old new
takes_entry {Y = Y} items left more y old mid new first grown taken = record {
  prefix = taken.prefix ++ y ∷ [];
  appended = grown ∙ ap (λ (l : List Y). l ++ y ∷ []) taken.appended ∙ append_assoc old taken.prefix (y ∷ []);
  same = taken.same ∙ ap (λ (l : List (Result Y TextError)). with_all taken.prefix (all_of l)) first ∙ with_more taken.prefix y (all_of more);
}

appends : {X Y : Type 0} (entry : X → Y) (read : Result (List X) TextFault) (old now prefix : List Y) → now ≡ old ++ prefix → answer_of entry read ≡ Ok prefix → AppendsEntries entry read old now
appends {Y = Y} entry (Ok xs) old now prefix appended e = let same : map entry xs ≡ prefix = cc in (xs, refl, appended ∙ ap (λ (l : List Y). old ++ l) (sym same))
appends entry (Err at) old now prefix appended e = absurd cc

-- no item is left
pub takes_all : {A Y : Type 0} (grammar : LineReading A) (entry : ℕ × A → Y) (text : List ℕ) (items left : List (Result Y TextError)) (old now : List Y) → items ≡ items_of grammar entry text → left ≡ [] → Taken items left old now
    → AppendsEntries entry (entries_of grammar text) old now
takes_all {Y = Y} grammar entry text items left old now are none taken =
    appends entry (entries_of grammar text) old now (taken.prefix ++ []) (taken.appended ∙ ap (λ (l : List Y). old ++ l) (sym (append-nil taken.prefix)))
    (sym (items_answer grammar entry text) ∙ ap (λ (l : List (Result Y TextError)). all_of l) (sym are) ∙ taken.same ∙ ap (λ (l : List (Result Y TextError)). with_all taken.prefix (all_of l)) none)

first_fault : {X Y : Type 0} (entry : X → Y) (read : Result (List X) TextFault) (e : TextError) → answer_of entry read ≡ Err e → IsFirstFault read e
first_fault entry (Ok xs) e h = absurd cc
first_fault {X = X} entry (Err at) e h =
    let same : errors.Bad at.line at.fault.column at.fault.cause ≡ e = cc in
    subst (λ (x : TextError). IsFirstFault {X = X} (Err at) x) same refl

-- an item is an error
pub takes_fault : {A Y : Type 0} (grammar : LineReading A) (entry : ℕ × A → Y) (text : List ℕ) (items left more : List (Result Y TextError)) (item : Result Y TextError) (old now : List Y) (e : TextError) → items ≡ items_of grammar entry text
    → left ≡ item ∷ more → item ≡ Err e → Taken items left old now → IsFirstFault (entries_of grammar text) e
takes_fault {Y = Y} grammar entry text items left more item old now e are first is taken =
    first_fault entry (entries_of grammar text) e
    (sym (items_answer grammar entry text) ∙ ap (λ (l : List (Result Y TextError)). all_of l) (sym are) ∙ taken.same ∙ ap (λ (l : List (Result Y TextError)). with_all taken.prefix (all_of l)) first
    ∙ ap (λ (i : Result Y TextError). with_all taken.prefix (all_of (i ∷ more))) is)
