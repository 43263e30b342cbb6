use Rattle.std.proofs.Common.{rules, ◌∙◌}
use Rattle.command_feed.proofs.Accepted.{takes_entry, takes_refused, takes_entries}
use Rattle.command_feed.proofs.feed.accept_entries.Goals as goal

pub returns-in-Err-clause-err : goal.returns-in-Err-clause-err
returns-in-Err-clause-err c = λ accepted rest stands.
    takes_refused accepted c.args.entries.now rest c.entries.entry-index c.entry-item.result c.entries.venue c.in-Err.error (search rules) c.entry-item.is
    (c.entries.invariant.takes accepted rest stands) c.in-Err.ensures.err

pub entries-preserved : goal.entries-preserved
entries-preserved c = record {
  takes = λ accepted rest stands.
      takes_entry accepted c.args.entries.now rest c.entries.entry-index c.entry-item.result c.entries.venue c.accept_entry.new.venue (search rules) c.entry-item.is
      (c.entries.invariant.takes accepted rest stands) c.in_default.ensures.ok;
  unit = c.in_default.ensures.unit ∙ c.entries.invariant.unit;
}

pub returns-clause-ok : goal.returns-clause-ok
returns-clause-ok c = λ accepted rest stands.
    takes_entries accepted c.args.entries.now rest c.entries.entry-index c.entries.venue (search rules) (c.entries.invariant.takes accepted rest stands)
