-- What is printed for a line of a schedule.
use Rattle.std.specs.Prelude.{ℕ, zero, suc, ◌-◌, Bool, false, ◌||◌, List, [], ◌∷◌, ◌++◌, length}
use Rattle.std.specs.Prelude.{codes, decimal, Option, None, Some}
use Rattle.pitch_fields.specs.Price.{price_digits}
use Rattle.pitch_fields.specs.Name.{name_shown}
use Rattle.pitch_io.specs.declared.line.Line.TheVariants.{A, B, Gap}
use Rattle.pitch_text.specs.declared.verb.Verb.{Verb}
use Rattle.pitch_text.specs.declared.verb.Verb.TheVariants as verbs
use Rattle.pitch_model.specs.declared.ask.Ask.{Ask}
use Rattle.pitch_model.specs.declared.ask.Ask.TheVariants as asks
use Rattle.feed_lines.specs.BookText.{book_text}
use Rattle.pitch_model.specs.History.{Entry}
use Rattle.pitch_model.specs.Reach.{reach, is_overflow}
use Rattle.pitch_model.specs.Status.{status_of}
use Rattle.feed_lines.specs.StatusText.{status_text}
use Rattle.feed_lines.specs.Follow.{overflow_text}
use Rattle.venue_core.specs.Causes.{refusal_text}
use Rattle.line_arbiter.specs.Noted.{line_count}
use Rattle.line_arbiter.specs.declared.count.LineCount.{LineCount}
use Rattle.world_model.specs.State.{State}
use Rattle.world_model.specs.Verbs.{does, client_book}
use Rattle.world_model.specs.declared.limits.Limits.{Limits}
use Rattle.world_model.specs.declared.outcome.Outcome.{Outcome}
use Rattle.world_model.specs.declared.outcome.Outcome.TheVariants as outcome
use Rattle.world_model.specs.declared.outcome.Printed.{Printed}

-- ---- The answer to a verb
-- the hold, of H places, overflowed with one of the newest n entries of a history
abbrev pub overflowed : ℕ → ℕ → List Entry → Bool
overflowed H zero E = false
overflowed H (suc n) [] = false
overflowed H (suc n) (entry ∷ E) = is_overflow H E entry || overflowed H n E

-- a verb's outcome, the client's status after it, and whether the hold overflowed with what was
-- heard at it
abbrev pub printed : ℕ → Limits → Verb → State → Printed
printed unit limits verb s =
    let d = does unit limits verb s in
    record {
      outcome = d.outcome;
      status = status_of limits.hold d.state.client.heard;
      overflow = overflowed limits.hold
          (length d.state.client.heard - length s.client.heard) d.state.client.heard;
    }

-- ---- Its text
-- a best price with its shares, or dashes for an empty side
abbrev pub best_text : Option (ℕ × ℕ) → List ℕ
best_text None = codes " - -"
best_text (Some (price, shares)) = 32 ∷ (price_digits price ++ 32 ∷ decimal shares)

-- what the client asked for
abbrev pub ask_text : Ask → List ℕ
ask_text (asks.Gap first count) = codes "asked gap " ++ decimal first ++ 32 ∷ decimal count
ask_text (asks.Spin sequence) = codes "asked spin " ++ decimal sequence

-- the symbol for which a verb asks
abbrev pub quoted_symbol : Verb → List ℕ
quoted_symbol (verbs.Quote symbol) = name_shown symbol
quoted_symbol _ = []

-- what became of a verb
unfoldable pub outcome_text : Verb → Outcome → List ℕ
outcome_text verb outcome.Opened = codes "opened"
outcome_text verb outcome.AlreadyOpen = codes "already-open"
outcome_text verb (outcome.Accepted sequence) = codes "accepted " ++ decimal sequence
outcome_text verb (outcome.Refused error) = codes "refused " ++ refusal_text error
outcome_text verb (outcome.Sent datagrams) = codes "sent " ++ decimal datagrams
outcome_text verb (outcome.Heard datagrams) = codes "heard " ++ decimal datagrams
outcome_text verb outcome.NoDatagram = codes "no-datagram"
outcome_text verb outcome.Cut = codes "cut"
outcome_text verb outcome.NotOpen = codes "not-open"
outcome_text verb (outcome.Carried bytes) = codes "carried " ++ decimal bytes
outcome_text verb (outcome.TooFew asked has) = codes "too-few " ++ decimal asked ++ 32 ∷ decimal has
outcome_text verb (outcome.Advertised sequence) = codes "advertised " ++ decimal sequence
outcome_text verb (outcome.Asked ask) = ask_text ask
outcome_text verb outcome.Ticked = codes "ticked"
outcome_text verb outcome.Shown = codes "shown"
outcome_text verb (outcome.Quoted bid offer) =
    codes "quote " ++ quoted_symbol verb ++ best_text bid ++ best_text offer

-- the line of a verb: the number of its line in the schedule, the unit, the outcome and the status
unfoldable pub printed_line : ℕ → ℕ → Verb → Printed → List ℕ
printed_line line unit verb p =
    decimal line ++ 32 ∷ (decimal unit ++ 32 ∷ (outcome_text verb p.outcome
    ++ (overflow_text p.overflow ++ (codes "; " ++ (status_text p.status ++ 10 ∷ [])))))

-- ---- What `show` prints besides
-- the fresh messages of all that a line brought
abbrev pub fresh_text : LineCount → List ℕ
fresh_text count = decimal count.fresh ++ 47 ∷ decimal count.messages

-- the same of each line
abbrev pub counts_text : LineCount → LineCount → LineCount → List ℕ
counts_text a b gap = codes "lines a "
    ++ fresh_text a ++ codes " b " ++ fresh_text b ++ codes " g " ++ fresh_text gap ++ 10 ∷ []

-- the client's book, and the counts of the lines
unfoldable pub shown_state : ℕ → Limits → State → List ℕ
shown_state unit limits s =
    book_text unit (reach limits.hold s.client.heard) (client_book limits s) ++ counts_text
    (line_count A unit s.notes) (line_count B unit s.notes) (line_count Gap unit s.notes)

-- a verb prints its line, and `show` the book besides
abbrev pub shown_at : ℕ → Limits → Verb → State → List ℕ
shown_at unit limits verbs.Show s = shown_state unit limits s
shown_at unit limits _ s = []

-- the text of a verb that stands on a line of the schedule
abbrev pub verb_text : ℕ → ℕ → Limits → Verb → State → List ℕ
verb_text line unit limits verb s =
    printed_line line unit verb (printed unit limits verb s) ++ shown_at unit limits verb s
