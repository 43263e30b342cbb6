use Rattle.std.proofs.Common.{map, refl, subst, string_bytes}
use Rattle.std.specs.Prelude.{MatchOption, Option, List, ℕ}
use Rattle.pitch_words.specs.Forms.{IsForm}
use Rattle.pitch_words.specs.declared.form.Form.{Form}
use Rattle.stream_print.specs.Told.{told}
use Rattle.pitch_tool.proofs.Stopping.{stops_untaken, stops_by, reads_by}
use Rattle.pitch_tool.proofs.program.run.Goals as goal

pub returns-in-None-clause-runs : goal.returns-in-None-clause-runs
returns-in-None-clause-runs g c =
    let words : List (List ℕ) = map string_bytes c.args.words.now in
    (subst (λ (answer : Option Form). MatchOption answer ((form : Form) → IsForm words form → ⊥) (IsForm words)) c.in-None.is c.in_ok-form.ensures.form, refl, refl)

pub returns-in_err-form-clause-stops : goal.returns-in_err-form-clause-stops
returns-in_err-form-clause-stops g c = stops_untaken (map string_bytes c.args.words.now) (g.I.Source.left c.args.input.now)

pub returns-in-None-clause-stops : goal.returns-in-None-clause-stops
returns-in-None-clause-stops g c = stops_untaken (map string_bytes c.args.words.now) (g.I.Source.left c.args.input.now)

pub returns-in-Some-clause-stops : goal.returns-in-Some-clause-stops
returns-in-Some-clause-stops g c =
    let words : List (List ℕ) = map string_bytes c.args.words.now in
    stops_by words c.in-Some.form (told g.I.Source.left c.args.input.now c.do_job.new.input)
    (subst (λ (answer : Option Form). MatchOption answer ((form : Form) → IsForm words form → ⊥) (IsForm words)) c.in-Some.is c.in_ok-form.ensures.form)
    c.do_job.ensures.stops

pub returns-in-Some-clause-reads : goal.returns-in-Some-clause-reads
returns-in-Some-clause-reads g c =
    let words : List (List ℕ) = map string_bytes c.args.words.now in
    reads_by words c.in-Some.form (told g.I.Source.left c.args.input.now c.do_job.new.input)
    (subst (λ (answer : Option Form). MatchOption answer ((form : Form) → IsForm words form → ⊥) (IsForm words)) c.in-Some.is c.in_ok-form.ensures.form)
    c.do_job.ensures.reads
