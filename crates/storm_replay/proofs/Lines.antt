-- The lines of a storm's summary.
use Rattle.std.proofs.Common.{◌≡◌, ℕ, suc, List, [], ◌++◌, reverse, sym, ap, ◌∙◌, append_assoc}
use Rattle.std.specs.FinMap.{len}
use Rattle.std.proofs.lemmas.List.{append-nil}
use Rattle.pitch_model.specs.Levels.{shares}
use Rattle.pitch_model.specs.Book.{Book}
use Rattle.pitch_model.specs.Status.{status_of}
use Rattle.pitch_model.specs.declared.status.Status.{Status}
use Rattle.pitch_text.specs.declared.verb.ScheduleEntry.{ScheduleEntry}
use Rattle.feed_lines.specs.UnitLine.{unit_line}
use Rattle.storm_replay.specs.StormText.{storm_line}
use Rattle.storm_replay.specs.Summary.{state_line, ended_line, ended_lines, storm_lines, storm_text}
use Rattle.world_model.specs.State.{State}
use Rattle.world_model.specs.Verbs.{client_book}
use Rattle.world_model.specs.declared.limits.Limits.{Limits}

-- the line of a unit, by its client's status and book
pub line_of : (unit : ℕ) (limits : Limits) (s : State) (status : Status) (orders sum : ℕ) (book : Book) → status ≡ status_of limits.hold s.client.heard → book ≡ client_book limits s → orders ≡ len book.orders → sum ≡ shares book
    → unit_line unit status orders sum ≡ state_line unit limits s
unfolding state_line
line_of unit limits s status orders sum book at is count total =
    ap (λ (x : Status). unit_line unit x orders sum) at
    ∙ ap (λ (n : ℕ). unit_line unit (status_of limits.hold s.client.heard) n sum) (count ∙ ap (λ (b : Book). len b.orders) is)
    ∙ ap (λ (n : ℕ). unit_line unit (status_of limits.hold s.client.heard) (len (client_book limits s).orders) n) (total ∙ ap (λ (b : Book). shares b) is)

-- the lines of no units
pub lines_none : (before : List ScheduleEntry) (old : List ℕ) → old ≡ old ++ ended_lines before 0
unfolding ended_lines
lines_none before old = sym (append-nil old)

-- the line of one unit more
pub lines_next : (before : List ScheduleEntry) (unit next : ℕ) (old new more : List ℕ) → next ≡ suc unit → new ≡ old ++ ended_lines before unit → more ≡ new ++ ended_line before next → more ≡ old ++ ended_lines before next
unfolding ended_lines
lines_next before unit next old new more e is put =
    put ∙ ap (λ (l : List ℕ). l ++ ended_line before next) is ∙ append_assoc old (ended_lines before unit) (ended_line before next)
    ∙ ap (λ (n : ℕ). old ++ (ended_lines before unit ++ ended_line before n)) e ∙ ap (λ (n : ℕ). old ++ ended_lines before n) (sym e)

-- the lines of a summary, one after another
pub summary_is : (number units steps : ℕ) (empty made text : List ℕ) → empty ≡ [] → made ≡ empty ++ storm_line number units steps → text ≡ made ++ ended_lines (reverse (storm_lines number units steps)) units → text ≡ storm_text number units steps
summary_is number units steps empty made text none first rest =
    rest ∙ ap (λ (l : List ℕ). l ++ ended_lines (reverse (storm_lines number units steps)) units) (first ∙ ap (λ (l : List ℕ). l ++ storm_line number units steps) none)
