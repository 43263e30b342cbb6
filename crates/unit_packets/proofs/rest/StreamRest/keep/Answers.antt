use Rattle.std.proofs.Common.{take, drop, ap, ◌∙◌}
use Rattle.std.proofs.lemmas.List.{drop-take}
use Rattle.unit_packets.specs.Reading.{Reading}
use Rattle.unit_packets.proofs.Feeds.{same_kept}
use Rattle.unit_packets.proofs.rest.StreamRest.keep.Goals as goal

pub returns : goal.returns
returns c = same_kept _ _ (ap (λ (r : Reading). r.place) c.self.view_is)
    (ap (drop c.self.inside.start) c.truncate.ensures.items ∙ drop-take c.self.inside.start c.args.count c.self.inside.buffer.items ∙ ap (λ (r : Reading). take c.args.count r.rest) c.self.view_is)
