use Rattle.std.proofs.Common.{◌≡◌, None, length}
use Rattle.session_ends.specs.layers.Hearing.{reader_items, says}
use Rattle.session_ends.proofs.Runs.{Left, Driven}
use Rattle.session_ends.proofs.end.End.hear_all.Given as goal

abbrev pub invariant-items : goal.invariant-items
invariant-items g l = record {
  still : l.self.closed ≡ None;
  rest : l.self ≡ record l.fn.self { closed = l.self.closed; logged = l.self.logged };
  bytes : l.items.bytes ≡ l.reader.rest;
  left : Left l.fn.self.setup l.fn.self.logged (reader_items l.reader) l.self.logged (says l.items);
  driven : Driven g.A.Answers.answered l.fn.self.setup l.fn.self.logged (reader_items l.reader) (record { desk = l.fn.desk; source = l.fn.source; said = l.fn.said.items })
      l.self.logged (says l.items) (record { desk = l.desk; source = l.source; said = l.said.items });
  kept : (first : _) → g.A.Answers.kept first l.fn.source → g.A.Answers.kept first l.source;
}

abbrev pub decreases-items : goal.decreases-items
decreases-items g l = length (says l.items)
