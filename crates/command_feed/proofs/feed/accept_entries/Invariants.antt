use Rattle.std.proofs.Common.{◌≡◌, ℕ, List, Result, drop}
use Rattle.pitch_text.specs.declared.command.CommandEntry.{CommandEntry}
use Rattle.text_lines.specs.declared.fault.TextError.{TextError}
use Rattle.venue_core.specs.Stands.{Stands}
use Rattle.command_feed.specs.layers.Accepting.{TakesSome, with_before}
use Rattle.command_feed.proofs.feed.accept_entries.Given as goal

abbrev pub invariant-entries : goal.invariant-entries
invariant-entries l = record {
  takes : (accepted : List (List ℕ)) (rest : Result (List CommandEntry) TextError) → Stands l.fn.venue accepted 0 → TakesSome accepted (with_before l.entries rest) (with_before (drop l.entry-index l.entries) rest) l.venue;
  unit : l.venue.unit ≡ l.fn.venue.unit;
}
