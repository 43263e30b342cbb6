-- Going over the lines of a schedule.
use Rattle.std.proofs.Common.{◌≡◌, ℕ, List, [], ◌∷◌, ◌++◌, map, reverse, refl, sym, ap, ◌∙◌, subst, Option, Result, Ok, Err, append_assoc}
use Rattle.std.proofs.lemmas.List.{append-nil}
use Rattle.feed_lines.proofs.Texts.{texts_none, texts_grown, reverse_more}
use Rattle.pitch_text.specs.ScheduleGrammar.{entry, schedule_entry}
use Rattle.pitch_text.specs.WellFormed.{IsWellFormed, AreWellFormed}
use Rattle.pitch_text.specs.declared.verb.ScheduleEntry.{ScheduleEntry}
use Rattle.pitch_text.specs.declared.verb.Verb.{Verb}
use Rattle.text_lines.specs.Text.{TextFault, entries_of, all_of}
use Rattle.text_lines.specs.Items.{items_of}
use Rattle.text_lines.specs.declared.fault.TextError.{TextError}
use Rattle.text_lines.proofs.TextLemmas.{Taken, takes_none, takes_entry, answer_of, items_answer, with_all}
use Rattle.world_model.specs.declared.world.World.{World}
use Rattle.schedule_replay.specs.Causes.{replay_error}
use Rattle.schedule_replay.specs.Replay.{replay_line, replay_text, schedule_on, schedule_of, replay_on, replay_of}
use Rattle.schedule_replay.specs.layers.Places.{ArePlaces, RunsText}
use Rattle.schedule_replay.specs.declared.error.ReplayError.{ReplayError}

-- the items of a text
abbrev pub Items : Type 0
Items = List (Result ScheduleEntry TextError)

abbrev pub items_in : List ℕ → Items
items_in text = items_of entry schedule_entry text

-- ---- What a text says

entries_said : (read : Result (List (ℕ × (ℕ × Verb))) TextFault) (entries : List ScheduleEntry) → answer_of schedule_entry read ≡ Ok entries → schedule_on read ≡ Ok entries
entries_said (Ok xs) entries e = let same : map schedule_entry xs ≡ entries = cc in ap Ok same
entries_said (Err at) entries e = absurd cc

fault_said : (read : Result (List (ℕ × (ℕ × Verb))) TextFault) (fault : TextError) → answer_of schedule_entry read ≡ Err fault → schedule_on read ≡ Err (replay_error fault)
fault_said (Ok xs) fault e = absurd cc
fault_said (Err at) fault e = ap (λ (r : Result (List ScheduleEntry) TextError). with_error r) e
  where
    with_error : Result (List ScheduleEntry) TextError → Result (List ScheduleEntry) ReplayError
    with_error (Ok entries) = Ok entries
    with_error (Err error) = Err (replay_error error)

pub said_all : (text : List ℕ) (items : Items) (entries : List ScheduleEntry) → items ≡ items_in text → all_of items ≡ Ok entries → schedule_of text ≡ Ok entries
said_all text items entries are all =
    entries_said (entries_of entry text) entries (sym (items_answer entry schedule_entry text) ∙ ap (λ (l : Items). all_of l) (sym are) ∙ all)

pub said_fault : (text : List ℕ) (items : Items) (fault : TextError) → items ≡ items_in text → all_of items ≡ Err fault → schedule_of text ≡ Err (replay_error fault)
said_fault text items fault are first =
    fault_said (entries_of entry text) fault (sym (items_answer entry schedule_entry text) ∙ ap (λ (l : Items). all_of l) (sym are) ∙ first)

-- ---- The lines are done one after another

-- the lines before some items were done
pub record Running (items left : Items) (places : List (Option World)) (old new : List ℕ) : Type 0 where
  pub done : List ScheduleEntry
  pub taken : Taken items left [] done
  pub formed : AreWellFormed left
  pub are : ArePlaces (reverse done) places
  pub written : new ≡ old ++ replay_text done

pub runs_none : (items : Items) (places : List (Option World)) (old : List ℕ) → AreWellFormed items → ArePlaces [] places → Running items items places old old
runs_none items places old formed are = record {
  done = [];
  taken = takes_none items [];
  formed = formed;
  are = are;
  written = sym (ap (λ (t : List ℕ). old ++ t) (texts_none replay_line []) ∙ append-nil old);
}

pub formed_here : (items left more : Items) (item : Result ScheduleEntry TextError) (e : ScheduleEntry) (places : List (Option World)) (old new : List ℕ) → left ≡ item ∷ more → item ≡ Ok e → Running items left places old new → IsWellFormed e.unit e.verb
formed_here items left more item e places old new first is r = (subst AreWellFormed (first ∙ ap (λ (i : Result ScheduleEntry TextError). i ∷ more) is) r.formed).0

pub runs_more : (items left more : Items) (item : Result ScheduleEntry TextError) (e : ScheduleEntry) (places places' : List (Option World)) (old new new' : List ℕ) → left ≡ item ∷ more → item ≡ Ok e
    → ((before : List ScheduleEntry) → ArePlaces before places → ArePlaces (e ∷ before) places') → ((before : List ScheduleEntry) → ArePlaces before places → new' ≡ new ++ replay_line before e)
    → Running items left places old new → Running items more places' old new'
runs_more items left more item e places places' old new new' at is goes text r =
    let first : left ≡ Ok e ∷ more = at ∙ ap (λ (i : Result ScheduleEntry TextError). i ∷ more) is in
    record {
      done = r.done ++ e ∷ [];
      taken = takes_entry items left more e [] r.done (r.done ++ e ∷ []) first refl r.taken;
      formed = (subst AreWellFormed first r.formed).1;
      are = subst (λ (before : List ScheduleEntry). ArePlaces before places') (sym (reverse_more r.done e)) (goes (reverse r.done) r.are);
      written = text (reverse r.done) r.are ∙ ap (λ (t : List ℕ). t ++ replay_line (reverse r.done) e) r.written ∙ append_assoc old (replay_text r.done) (replay_line (reverse r.done) e)
          ∙ ap (λ (t : List ℕ). old ++ t) (sym (texts_grown replay_line r.done e));
    }

pub runs_all : (text : List ℕ) (items left : Items) (places : List (Option World)) (old new : List ℕ) → items ≡ items_in text → left ≡ [] → Running items left places old new → RunsText text places old new
runs_all text items left places old new are none r = record {
  entries = r.done;
  read = said_all text items r.done are (r.taken.same ∙ ap (λ (l : Items). with_all r.taken.prefix (all_of l)) none ∙ ap Ok (append-nil r.taken.prefix ∙ sym r.taken.appended));
  are = r.are;
  written = r.written;
}

-- the first item that is a fault is the text's fault
pub runs_fault : (text : List ℕ) (items left more : Items) (item : Result ScheduleEntry TextError) (fault : TextError) (places : List (Option World)) (old new : List ℕ) → items ≡ items_in text → left ≡ item ∷ more → item ≡ Err fault
    → Running items left places old new → replay_of text ≡ Err (replay_error fault)
runs_fault text items left more item fault places old new are first is r =
    ap (λ (read : Result (List ScheduleEntry) ReplayError). replay_on read)
    (said_fault text items fault are (r.taken.same ∙ ap (λ (l : Items). with_all r.taken.prefix (all_of l)) first ∙ ap (λ (i : Result ScheduleEntry TextError). with_all r.taken.prefix (all_of (i ∷ more))) is))
