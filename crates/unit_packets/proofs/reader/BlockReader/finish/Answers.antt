use Rattle.std.proofs.Common.{ℕ, true, ap, sym, ◌∙◌}
use Rattle.unit_packets.specs.Cutting.{fault_in}
use Rattle.unit_packets.specs.Pieces.{ended_answer}
use Rattle.unit_packets.proofs.Feeds.{stands_fault}
use Rattle.unit_packets.proofs.reader.BlockReader.finish.Goals as goal

pub returns-in-Some-clause-fed : goal.returns-in-Some-clause-fed
returns-in-Some-clause-fed c = λ fed stands.
    ap ended_answer (sym c.in-Some.is ∙ c.fault_in.ensures ∙ ap (λ (p : ℕ). fault_in true p c.rest.result.now) c.place.ensures
    ∙ ap (fault_in true c.args.self.now.place) c.rest.ensures ∙ stands_fault true c.args.self.now fed stands)
