use Rattle.std.proofs.Common.{◌++◌, ℕ, List, ap, ◌∙◌}
use Rattle.std.specs.List.{concat}
use Rattle.pitch_messages.specs.Room.{Roomy}
use Rattle.unit_packets.specs.Packing.{bytes_in, packed}
use Rattle.command_feed.proofs.feed.append_pending.Goals as goal

pub returns-clause-ok : goal.returns-clause-ok
returns-clause-ok c = λ accepted stands.
    c.in_ok-append_datagrams.ensures.ok
    ∙ ap (λ (l : List (List ℕ)). c.args.out.now.items ++ concat l)
    (ap bytes_in c.as_slice.ensures ∙ c.in_ok-flush.ensures.datagrams accepted 0 stands
    ∙ ap (λ (lists : List (Roomy ℕ)). bytes_in lists ++ packed c.args.venue.now.unit 1 accepted) c.make-datagrams.ensures)

pub returns-clause-packing : goal.returns-clause-packing
returns-clause-packing c = λ accepted stands. c.in_ok-flush.ensures.packing accepted 0 stands
