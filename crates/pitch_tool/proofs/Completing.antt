-- A sound input is done whole, and a faulty one is refused.
use Rattle.std.proofs.Common.{◌≡◌, ◌⊎◌, inl, inr, ℕ, List, refl, sym, ap, ◌∙◌, subst, Option, None, Some, Ok, Err, length, cond, arith}
use Rattle.std.proofs.lemmas.Bool.{le-ltb}
use Rattle.std.specs.Result.{result_err}
use Rattle.pitch_io.specs.Causes.{Rose}
use Rattle.pitch_words.specs.Forms.{IsForm}
use Rattle.pitch_words.specs.declared.form.Form.{Form}
use Rattle.pitch_words.specs.declared.form.Form.TheVariants.{Stream, Text, Storm, Drill, Demo, Audit}
use Rattle.pitch_words.proofs.Exact.{at_most_one}
use Rattle.stream_print.specs.Inputs.{Has, AreAll, stream_limit, trouble_of}
use Rattle.pitch_tool.specs.Devices.{Run, Wires, HasFaulted, HasNetFaulted}
use Rattle.pitch_tool.specs.Jobs.{carrier_of, JobEnds, Judges}
use Rattle.pitch_tool.specs.Program.{Closes, HasCauses, IsNoForm, IsWhole, IsRefusal}
use Rattle.pitch_tool.specs.TextForms.{text_trouble, made}
use Rattle.pitch_tool.specs.declared.failure.Failure.TheVariants as ending
use Rattle.pitch_tool.specs.declared.failure.Trouble.{Trouble}
use Rattle.pitch_tool.specs.declared.failure.Trouble.TheVariants.{Blocks, LongText, Commands, Schedule, SequencesSpent}
use Rattle.pitch_tool.specs.declared.failure.Trouble.TheVariants as faults
use Rattle.std.specs.Option.{option_map}
use Rattle.pitch_fields.specs.Limits.{text_limit}
use Rattle.run_audit.specs.Input.{input_fault}
use Rattle.stream_print.specs.declared.failure.StreamTrouble.TheVariants.{TooLong}
use Rattle.pitch_tool.specs.AuditForm.{audit_trouble}
use Rattle.pitch_tool.specs.declared.status.ExitStatus.{ExitStatus}
use Rattle.pitch_tool.specs.declared.status.ExitStatus.TheVariants.{Done, Usage, BadInput, ReadFault, WriteFault, OutOfMemory, NetFault}
use Rattle.stream_print.specs.Told.{Told}

-- what a source told is what it has, and what was read whole
same_bytes : (left : Option (List ℕ)) (bytes others : List ℕ) → left ≡ Some bytes → Has left others → others ≡ bytes
same_bytes left bytes others is has = sym (subst (λ (o : Option (List ℕ)). Has o others) is has)

all_bytes : (left left' : Option (List ℕ)) (bytes others : List ℕ) → left ≡ Some bytes → AreAll left left' others → others ≡ bytes
all_bytes left left' bytes others is read = sym ((subst (λ (o : Option (List ℕ)). AreAll o left' others) is read).0)

clash : (o : Option Trouble) (trouble : Trouble) → o ≡ None → o ≡ Some trouble → ⊥
clash o trouble none some = no (sym none ∙ some)
  where
    no : ◌≡◌ {A = Option Trouble} None (Some trouble) → ⊥
    no e = cc

-- ---- A sound input is not refused
not_refused : (form : Form) (trouble : Trouble) (input out : Told) (net : Wires) → Judges form input.old None → JobEnds form (Err (ending.BadInput trouble)) input out net → ⊥
not_refused (Stream carried form) (Blocks trouble) input out net sound r =
    clash (option_map Blocks (trouble_of (carrier_of carried) stream_limit r.bytes)) (Blocks trouble)
    (ap (λ (l : List ℕ). option_map Blocks (trouble_of (carrier_of carried) stream_limit l)) (same_bytes input.old sound.0 r.bytes sound.1 r.has) ∙ sound.2) (ap (option_map Blocks) r.trouble_is)
not_refused (Stream carried form) LongText input out net sound r = r
not_refused (Stream carried form) (Commands error) input out net sound r = r
not_refused (Stream carried form) (Schedule error) input out net sound r = r
not_refused (Stream carried form) SequencesSpent input out net sound r = r
not_refused (Stream carried form) (faults.Audit fault) input out net sound r = r
not_refused Audit trouble input out net sound r =
    clash (audit_trouble stream_limit r.bytes) trouble (ap (audit_trouble stream_limit) (same_bytes input.old sound.0 r.bytes sound.1 r.has) ∙ sound.2) r.trouble_is
not_refused (Storm number units steps workers) trouble input out net sound r = r.1
not_refused (Drill number units count) trouble input out net sound r = r.1
not_refused (Demo number count) trouble input out net sound r = r.1
not_refused (Text form) trouble input out net sound r =
    clash (text_trouble form text_limit r.text) trouble (ap (text_trouble form text_limit) (same_bytes input.old sound.0 r.text sound.1 r.has) ∙ sound.2) r.trouble_is

pub closes_whole : (words : List (List ℕ)) (status : ExitStatus) (run : Run) (form : Form) → Closes words status run → HasCauses status run → IsForm words form → Judges form run.input.bytes.old None
    → HasFaulted run.input ⊎ (HasFaulted run.out ⊎ (HasNetFaulted run.net ⊎ IsWhole status))
closes_whole words Done run form closes causes is sound = inr (inr (inr (inl refl)))
closes_whole words OutOfMemory run form closes causes is sound = inr (inr (inr (inr refl)))
closes_whole words ReadFault run form closes causes is sound = inl (causes.read.rose refl)
closes_whole words WriteFault run form closes causes is sound = inr (inl (causes.write.rose refl))
closes_whole words NetFault run form closes causes is sound = inr (inr (inl (causes.net.rose refl)))
closes_whole words Usage run form closes causes is sound = absurd (closes.0 form is)
closes_whole words BadInput run form (trouble, does, said) causes is sound =
    absurd (not_refused form trouble run.input.bytes run.out.bytes run.net sound
    (subst (λ (f : Form). JobEnds f (Err (ending.BadInput trouble)) run.input.bytes run.out.bytes run.net) (at_most_one words does.0 form does.1 is) does.2))

-- ---- A faulty input is not done
not_done : (form : Form) (trouble : Trouble) (input out : Told) (net : Wires) → Judges form input.old (Some trouble) → JobEnds form (Ok tt) input out net → ⊥
not_done (Stream carried form) trouble input out net wrong r =
    clash (option_map Blocks (trouble_of (carrier_of carried) stream_limit r.bytes)) trouble (ap (option_map Blocks) r.sound)
    (ap (λ (l : List ℕ). option_map Blocks (trouble_of (carrier_of carried) stream_limit l)) (all_bytes input.old input.new wrong.0 r.bytes wrong.1 r.read) ∙ wrong.2)
not_done (Storm number units steps workers) trouble input out net wrong r = clash None trouble refl (sym wrong)
not_done (Drill number units count) trouble input out net wrong r = clash None trouble refl (sym wrong)
not_done (Demo number count) trouble input out net wrong r = clash None trouble refl (sym wrong)
not_done Audit trouble input out net wrong (verdict, reads, grows) =
    let none : audit_trouble stream_limit reads.bytes ≡ None =
    ap (λ b. cond b (Some (Blocks TooLong)) (option_map faults.Audit (input_fault reads.bytes))) (le-ltb stream_limit (length reads.bytes) reads.small) ∙ ap (option_map faults.Audit) reads.audits.0 in
    clash (audit_trouble stream_limit reads.bytes) trouble none
    (ap (audit_trouble stream_limit) (all_bytes input.old input.new wrong.0 reads.bytes wrong.1 reads.read) ∙ wrong.2)
not_done (Text form) trouble input out net wrong r =
    let text : List ℕ = r.makes.text in
    let none : text_trouble form text_limit text ≡ None =
    ap (λ b. cond b (Some LongText) (result_err (made form text))) (le-ltb text_limit (length text) r.makes.small) ∙ ap result_err r.makes.made_is in
    clash (text_trouble form text_limit text) trouble none
    (ap (text_trouble form text_limit) (all_bytes input.old input.new wrong.0 text wrong.1 r.makes.read) ∙ wrong.2)

pub closes_refused : (words : List (List ℕ)) (status : ExitStatus) (run : Run) (form : Form) (trouble : Trouble) → Closes words status run → HasCauses status run → IsForm words form
    → Judges form run.input.bytes.old (Some trouble) → HasFaulted run.input ⊎ (HasFaulted run.out ⊎ (HasNetFaulted run.net ⊎ IsRefusal status))
closes_refused words BadInput run form trouble closes causes is wrong = inr (inr (inr (inl refl)))
closes_refused words OutOfMemory run form trouble closes causes is wrong = inr (inr (inr (inr refl)))
closes_refused words ReadFault run form trouble closes causes is wrong = inl (causes.read.rose refl)
closes_refused words WriteFault run form trouble closes causes is wrong = inr (inl (causes.write.rose refl))
closes_refused words NetFault run form trouble closes causes is wrong = inr (inr (inl (causes.net.rose refl)))
closes_refused words Usage run form trouble closes causes is wrong = absurd (closes.0 form is)
closes_refused words Done run form trouble (f, is_f, ends) causes is wrong =
    absurd (not_done form trouble run.input.bytes run.out.bytes run.net wrong
    (subst (λ (g : Form). JobEnds g (Ok tt) run.input.bytes run.out.bytes run.net) (at_most_one words f form is_f is) ends))

-- ---- Words that are no form
pub closes_unknown : (words : List (List ℕ)) (status : ExitStatus) (run : Run) → Closes words status run → IsNoForm words → (status ≡ Usage) ⊎ (status ≡ OutOfMemory)
closes_unknown words Usage run closes none = inl refl
closes_unknown words OutOfMemory run closes none = inr refl
closes_unknown words Done run (form, is, ends) none = absurd (none form is)
closes_unknown words BadInput run (trouble, does, said) none = absurd (none does.0 does.1)
closes_unknown words ReadFault run (does, said) none = absurd (none does.0 does.1)
closes_unknown words WriteFault run (does, said) none = absurd (none does.0 does.1)
closes_unknown words NetFault run (does, said) none = absurd (none does.0 does.1)

-- ---- Devices that never fail
-- a count that stays 0 did not rise
pub unless_one : {A : Type 0} → Rose 0 0 ⊎ (Rose 0 0 ⊎ (Rose 0 0 ⊎ A)) → A
unless_one either = elim either [
  | inl rose ↦ absurd (omega (arith, rose))
  | inr other ↦ elim other [
    | inl rose ↦ absurd (omega (arith, rose))
    | inr third ↦ elim third [
      | inl rose ↦ absurd (omega (arith, rose))
      | inr a ↦ a
    ]
  ]
]
