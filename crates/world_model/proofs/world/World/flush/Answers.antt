use Rattle.std.proofs.Common.{◌≡◌, ℕ, List, ◌++◌, length, arith, ap, ◌∙◌}
use Rattle.pitch_messages.specs.Room.{Roomy}
use Rattle.pitch_text.specs.declared.verb.Verb.TheVariants as verbs
use Rattle.unit_packets.specs.Packing.{bytes_in}
use Rattle.venue_end.specs.Came.{Flushed, on_lines}
use Rattle.world_model.specs.Ends.{venue_setup}
use Rattle.world_model.proofs.Acting.{acts_sends, length_bytes, seen_venue, venue_then}
use Rattle.world_model.proofs.Sounding.{does_sound}
use Rattle.world_model.proofs.world.World.flush.Goals as goal

pub returns : goal.returns
returns c = λ s has.
    let does = c.in_ok-count.ensures in
    let w = c.args.self.now in
    let lines : List (List ℕ) = on_lines (venue_setup w.unit w.limits) Flushed s.venue in
    let given : bytes_in c.flush.new.lines.items ≡ lines =
    seen_venue w s has (λ v now. bytes_in c.flush.new.lines.items ≡ bytes_in c.make-datagrams.result.items ++ on_lines v Flushed now) does.lines ∙ ap (λ (ls : List (Roomy ℕ)). bytes_in ls ++ lines) c.make-datagrams.ensures in
    let copied : bytes_in c.append_copies.new.out.items ≡ bytes_in w.sent.items ++ bytes_in c.flush.new.lines.items =
    c.in_ok-append_copies.ensures ∙ ap (λ (ls : List (Roomy ℕ)). bytes_in w.sent.items ++ bytes_in ls) c.as_slice.ensures in
    let none = ap (λ (ls : List (Roomy ℕ)). length ls) c.make-datagrams.ensures in
    let same = ap (λ (ds : List (List ℕ)). length ds) given in
    let long = length_bytes c.flush.new.lines.items in
    let many : c.in_ok-count.count ≡ length lines = omega (arith, does.count, none, same, long) in
    acts_sends w s has c.flush.new.self Flushed (venue_then w s has c.flush.new.self Flushed does.stands) c.append_copies.new.out c.calm.result c.in_ok-count.count
    (copied ∙ ap (λ (ds : List (List ℕ)). bytes_in w.sent.items ++ ds) given) many (does_sound w.unit w.limits verbs.Flush s has.sound) c.calm.ensures
