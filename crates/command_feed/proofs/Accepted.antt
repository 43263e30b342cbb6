-- What a venue answers, command by command.
use Rattle.std.proofs.Common.{◌≡◌, ◌⊎◌, inl, inr, ℕ, suc, ◌+◌, ◌≤◌, arith, List, [], ◌∷◌, ◌++◌, refl, sym, ap, ◌∙◌, Option, Some, None, Result, Ok, Err, get_or, drop, length, ◌<◌}
use Rattle.std.proofs.Math.Seq.{drop-cons}
use Rattle.std.specs.Result.{result_err}
use Rattle.std.proofs.lemmas.List.{drop_all, length-append}
use Rattle.pitch_text.specs.CommandGrammar.{command, command_entry}
use Rattle.text_lines.specs.Text.{TextFault, entries_of, all_of, with_front}
use Rattle.text_lines.specs.Items.{items_of}
use Rattle.text_lines.proofs.TextLemmas.{answer_of, items_answer}
use Rattle.pitch_text.specs.declared.command.Command.{Command}
use Rattle.pitch_text.specs.declared.command.CommandEntry.{CommandEntry}
use Rattle.text_lines.specs.declared.fault.TextError.{TextError}
use Rattle.venue_core.specs.Commands.{raw_of}
use Rattle.venue_core.specs.Refusals.{refusal, IsAnswer}
use Rattle.venue_core.specs.Standing.{VenueState}
use Rattle.venue_core.specs.Stands.{Stands}
use Rattle.venue_core.specs.declared.error.VenueError.{VenueError}
use Rattle.venue_core.specs.declared.error.VenueError.TheVariants as venue
use Rattle.command_feed.specs.layers.Accepting.{IsAccepted, IsRefused, AcceptsAll, TakesSome}
use Rattle.command_feed.specs.layers.Accepting.{accepted_in, with_before}
use Rattle.command_feed.specs.layers.Faults.{of_text, of_venue, cause_before}
use Rattle.command_feed.specs.Feed.{then_accepted, accepted_after, messages_on, messages_of}
use Rattle.command_feed.specs.declared.error.CommandError.{CommandError}
use Rattle.command_feed.specs.declared.error.CommandError.TheVariants as errors

-- ---- One command
pub none_where_ok : (o : Option VenueError) (sequence n : ℕ) → IsAnswer o sequence (Ok n) → o ≡ None
none_where_ok None sequence n h = refl
none_where_ok (Some error) sequence n h = cc

either : (line : ℕ) (error : VenueError) → (of_venue line error ≡ errors.OutOfMemory) ⊎ (of_venue line error ≡ errors.Refused line error)
either line venue.OutOfMemory = inl refl
either line venue.Ended = inr refl
either line venue.ZeroQuantity = inr refl
either line venue.BadSymbol = inr refl
either line venue.KnownId = inr refl
either line venue.UnknownId = inr refl
either line (venue.TooMuch asked held) = inr refl
either line venue.BookFull = inr refl
either line venue.SequencesSpent = inr refl

same_error : (sequence : ℕ) (error cause : VenueError) → IsAnswer (Some cause) sequence (Err error) → error ≡ cause
same_error sequence error cause h = cc

refused_by : (line sequence : ℕ) (o : Option VenueError) (error : VenueError) → IsAnswer o sequence (Err error)
    → (of_venue line error ≡ errors.OutOfMemory) ⊎ ((o ≡ Some error) × (of_venue line error ≡ errors.Refused line error))
refused_by line sequence None error h = inl (ap (of_venue line) h)
refused_by line sequence (Some cause) error h = elim (either line error) [
  | inl memory ↦ inl memory
  | inr is ↦ inr (ap Some (sym (same_error sequence error cause h)), is)
]

pub entry_refused : (accepted : List (List ℕ)) (entry : CommandEntry) (error : VenueError) (sequence : ℕ) (answer : CommandError) → IsAnswer (refusal accepted entry.command) sequence (Err error)
    → answer ≡ of_venue entry.line error → (answer ≡ errors.OutOfMemory) ⊎ IsRefused accepted entry answer
entry_refused accepted entry error sequence answer h is = elim (refused_by entry.line sequence (refusal accepted entry.command) error h) [
  | inl memory ↦ inl (is ∙ memory)
  | inr both ↦ inr (record { cause = error; refuses = both.0; is = is ∙ both.1 })
]

-- ---- All of them
pub takes_none : (accepted : List (List ℕ)) (read : Result (List CommandEntry) TextError) (venue : VenueState) → Stands venue accepted 0 → TakesSome accepted read read venue
takes_none accepted read venue stands = record { taken = accepted; same = refl; stands = stands }

accepts_one : (taken : List (List ℕ)) (entry : CommandEntry) (rest : Result (List CommandEntry) TextError) → refusal taken entry.command ≡ None → accepted_in taken (with_front entry rest) ≡ accepted_in (taken ++ raw_of entry.command ∷ []) rest
accepts_one taken entry (Ok entries) none = ap (λ (o : Option VenueError). then_accepted o entry.line (accepted_after (taken ++ raw_of entry.command ∷ []) entries)) none
accepts_one taken entry (Err fault) none = refl

refuses_one : (taken : List (List ℕ)) (entry : CommandEntry) (rest : Result (List CommandEntry) TextError) (cause : VenueError) → refusal taken entry.command ≡ Some cause
    → accepted_in taken (with_front entry rest) ≡ Err (cause_before rest (errors.Refused entry.line cause))
refuses_one taken entry (Ok entries) cause some = ap (λ (o : Option VenueError). then_accepted o entry.line (accepted_after (taken ++ raw_of entry.command ∷ []) entries)) some
refuses_one taken entry (Err fault) cause some = refl

-- the commands from one on are that one and those behind it
next_entry : (entries : List CommandEntry) (i : ℕ) (entry : CommandEntry) → i < length entries → entry ≡ get_or entries i entry → drop i entries ≡ entry ∷ drop (i + 1) entries
next_entry entries i entry within is =
    let next : suc i ≡ i + 1 = omega arith in
    drop-cons entries i entry within ∙ ap (λ (n : ℕ). get_or entries i entry ∷ drop n entries) next ∙ ap (λ (e : CommandEntry). e ∷ drop (i + 1) entries) (sym is)

-- what was read behind a refused command tells as much as what comes after it
cause_behind : (entries : List CommandEntry) (rest : Result (List CommandEntry) TextError) (line : ℕ) (cause : VenueError) → cause_before (with_before entries rest) (errors.Refused line cause) ≡ cause_before rest (errors.Refused line cause)
cause_behind [] rest line cause = refl
cause_behind (e ∷ es) rest line cause = one (with_before es rest) ∙ cause_behind es rest line cause
  where
    one : (read : Result (List CommandEntry) TextError) → cause_before (with_front e read) (errors.Refused line cause) ≡ cause_before read (errors.Refused line cause)
    one (Ok entries) = refl
    one (Err fault) = refl

-- the next command was accepted
pub takes_entry : (accepted : List (List ℕ)) (entries : List CommandEntry) (rest : Result (List CommandEntry) TextError) (i : ℕ) (entry : CommandEntry) (venue venue' : VenueState) → i < length entries → entry ≡ get_or entries i entry
    → TakesSome accepted (with_before entries rest) (with_before (drop i entries) rest) venue → ((taken : List (List ℕ)) → Stands venue taken 0 → IsAccepted taken entry venue')
    → TakesSome accepted (with_before entries rest) (with_before (drop (i + 1) entries) rest) venue'
takes_entry accepted entries rest i entry venue venue' within is some accepts =
    let here = accepts some.taken some.stands in
    record {
      taken = some.taken ++ raw_of entry.command ∷ [];
      same = some.same ∙ ap (λ (es : List CommandEntry). accepted_in some.taken (with_before es rest)) (next_entry entries i entry within is) ∙ accepts_one some.taken entry (with_before (drop (i + 1) entries) rest) here.none;
      stands = here.stands;
    }

-- it is refused
pub takes_refused : (accepted : List (List ℕ)) (entries : List CommandEntry) (rest : Result (List CommandEntry) TextError) (i : ℕ) (entry : CommandEntry) (venue : VenueState) (error : CommandError) → i < length entries → entry ≡ get_or entries i entry
    → TakesSome accepted (with_before entries rest) (with_before (drop i entries) rest) venue → ((taken : List (List ℕ)) → Stands venue taken 0 → (error ≡ errors.OutOfMemory) ⊎ IsRefused taken entry error)
    → (error ≡ errors.OutOfMemory) ⊎ (accepted_in accepted (with_before entries rest) ≡ Err (cause_before rest error))
takes_refused accepted entries rest i entry venue error within is some refuses = elim (refuses some.taken some.stands) [
  | inl memory ↦ inl memory
  | inr refused ↦ inr (some.same ∙ ap (λ (es : List CommandEntry). accepted_in some.taken (with_before es rest)) (next_entry entries i entry within is)
      ∙ refuses_one some.taken entry (with_before (drop (i + 1) entries) rest) refused.cause refused.refuses
      ∙ ap Err (cause_behind (drop (i + 1) entries) rest entry.line refused.cause) ∙ ap (λ (e : CommandError). Err (cause_before rest e)) (sym refused.is))
]

-- no command is left of those
pub takes_entries : (accepted : List (List ℕ)) (entries : List CommandEntry) (rest : Result (List CommandEntry) TextError) (i : ℕ) (venue : VenueState) → length entries ≤ i
    → TakesSome accepted (with_before entries rest) (with_before (drop i entries) rest) venue → TakesSome accepted (with_before entries rest) rest venue
takes_entries accepted entries rest i venue past some = record {
  taken = some.taken;
  same = some.same ∙ ap (λ (es : List CommandEntry). accepted_in some.taken (with_before es rest)) (drop_all i entries past);
  stands = some.stands;
}

-- ---- Commands that are read ahead
-- one more was read
pub batch_more : (all : Result (List CommandEntry) TextError) (before after : List CommandEntry) (left more : List (Result CommandEntry TextError)) (entry : CommandEntry) → all ≡ with_before before (all_of left) → left ≡ Ok entry ∷ more
    → after ≡ before ++ entry ∷ [] → all ≡ with_before after (all_of more)
batch_more all before after left more entry read first grown =
    read ∙ ap (λ (items : List (Result CommandEntry TextError)). with_before before (all_of items)) first ∙ moved before (all_of more) ∙ ap (λ (es : List CommandEntry). with_before es (all_of more)) (sym grown)
  where
    moved : (es : List CommandEntry) (rest : Result (List CommandEntry) TextError) → with_before es (with_front entry rest) ≡ with_before (es ++ entry ∷ []) rest
    moved [] rest = refl
    moved (e ∷ es) rest = ap (with_front e) (moved es rest)

pub batch_count : (total : ℕ) (before after : List CommandEntry) (left more : List (Result CommandEntry TextError)) (entry : CommandEntry) → length left + length before ≡ total → left ≡ Ok entry ∷ more → after ≡ before ++ entry ∷ []
    → length more + length after ≡ total
batch_count total before after left more entry counts first grown =
    let fewer : length left ≡ suc (length more) = ap (λ (items : List (Result CommandEntry TextError)). length items) first in
    let longer : length after ≡ length before + 1 = ap (λ (es : List CommandEntry). length es) grown ∙ length-append before (entry ∷ []) in
    omega arith

-- a fault was read
pub batch_fault : (all : Result (List CommandEntry) TextError) (before : List CommandEntry) (left more : List (Result CommandEntry TextError)) (fault : TextError) (answer : CommandError) → all ≡ with_before before (all_of left) → left ≡ Err fault ∷ more
    → answer ≡ of_text fault → (accepted : List (List ℕ)) → accepted_in accepted all ≡ Err answer
batch_fault all before left more fault answer read first is accepted =
    ap (accepted_in accepted) (read ∙ ap (λ (items : List (Result CommandEntry TextError)). with_before before (all_of items)) first ∙ faulty before) ∙ ap Err (sym is)
  where
    faulty : (es : List CommandEntry) → with_before es (Err fault) ≡ Err fault
    faulty [] = refl
    faulty (e ∷ es) = ap (with_front e) (faulty es)

-- all that was read ahead was accepted
pub takes_batch : (accepted : List (List ℕ)) (read left more : Result (List CommandEntry) TextError) (entries : List CommandEntry) (venue venue' : VenueState) → left ≡ with_before entries more → TakesSome accepted read left venue
    → ((taken : List (List ℕ)) (rest : Result (List CommandEntry) TextError) → Stands venue taken 0 → TakesSome taken (with_before entries rest) rest venue') → TakesSome accepted read more venue'
takes_batch accepted read left more entries venue venue' ahead some accepts =
    let here = accepts some.taken more some.stands in
    record { taken = here.taken; same = some.same ∙ ap (accepted_in some.taken) ahead ∙ here.same; stands = here.stands }

-- a command of those is refused
pub refuses_batch : (accepted : List (List ℕ)) (read left more : Result (List CommandEntry) TextError) (entries : List CommandEntry) (venue : VenueState) (error answer : CommandError) → left ≡ with_before entries more → answer ≡ cause_before more error
    → TakesSome accepted read left venue → ((taken : List (List ℕ)) (rest : Result (List CommandEntry) TextError) → Stands venue taken 0 → (error ≡ errors.OutOfMemory) ⊎ (accepted_in taken (with_before entries rest) ≡ Err (cause_before rest error)))
    → (answer ≡ errors.OutOfMemory) ⊎ (accepted_in accepted read ≡ Err answer)
refuses_batch accepted read left more entries venue error answer ahead is some refuses = elim (refuses some.taken more some.stands) [
  | inl memory ↦ inl (is ∙ ap (cause_before more) memory)
  | inr refused ↦ inr (some.same ∙ ap (accepted_in some.taken) ahead ∙ refused ∙ ap Err (sym is))
]

-- there was no memory to read ahead, or a fault
pub takes_unread : (accepted : List (List ℕ)) (read left : Result (List CommandEntry) TextError) (venue : VenueState) (answer : CommandError) → TakesSome accepted read left venue
    → (answer ≡ errors.OutOfMemory) ⊎ ((taken : List (List ℕ)) → accepted_in taken left ≡ Err answer) → (answer ≡ errors.OutOfMemory) ⊎ (accepted_in accepted read ≡ Err answer)
takes_unread accepted read left venue answer some (inl memory) = inl memory
takes_unread accepted read left venue answer some (inr faulty) = inr (some.same ∙ faulty some.taken)

pub takes_all : (accepted : List (List ℕ)) (read : Result (List CommandEntry) TextError) (left : List (Result CommandEntry TextError)) (venue : VenueState) → left ≡ [] → TakesSome accepted read (all_of left) venue → AcceptsAll accepted read venue
takes_all accepted read left venue none some = record { all = some.taken; accepts = some.same ∙ ap (λ (items : List (Result CommandEntry TextError)). accepted_in some.taken (all_of items)) none; stands = some.stands }

-- ---- The first fault that follows
pub fault_behind : (left more : List (Result CommandEntry TextError)) (entry : CommandEntry) → left ≡ Ok entry ∷ more → result_err (all_of left) ≡ result_err (all_of more)
fault_behind left more entry first = ap (λ (items : List (Result CommandEntry TextError)). result_err (all_of items)) first ∙ passed (all_of more)
  where
    passed : (read : Result (List CommandEntry) TextError) → result_err (with_front entry read) ≡ result_err read
    passed (Ok entries) = refl
    passed (Err fault) = refl

-- ---- A text
messages_as : (read : Result (List (ℕ × Command)) TextFault) → messages_on read ≡ accepted_in [] (answer_of command_entry read)
messages_as (Ok entries) = refl
messages_as (Err at) = refl

pub text_messages : (bytes : List ℕ) (items : List (Result CommandEntry TextError)) → items ≡ items_of command command_entry bytes → messages_of bytes ≡ accepted_in [] (all_of items)
unfolding messages_of
text_messages bytes items are = messages_as (entries_of command bytes) ∙ ap (accepted_in []) (sym (items_answer command command_entry bytes) ∙ ap (λ (l : List (Result CommandEntry TextError)). all_of l) (sym are))
