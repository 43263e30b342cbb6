use Rattle.std.proofs.Common.{◌≡◌, ◌<◌, ℕ, List, ◌++◌, ap, ◌∙◌, append_assoc, arith}
use Rattle.feed_lines.specs.BookText.{book_text}
use Rattle.world_model.specs.Printed.{counts_text, shown_state}
use Rattle.world_model.specs.layers.Steps.{WorldHas}
use Rattle.world_model.specs.State.{State}
use Rattle.pitch_model.proofs.Results.{on_ok_map}
use Rattle.pitch_model.specs.Reach.{reach}
use Rattle.world_model.proofs.Acting.{book_is, seen_client}
use Rattle.world_model.proofs.Booking.{shown_is, prefix_stays}
use Rattle.world_model.proofs.world.World.append_shown.Goals as goal

pub returns-clause-shown : goal.returns-clause-shown
returns-clause-shown c =
    let w = c.args.self.now in
    let small : w.unit < 256 = omega arith in
    let old : List ℕ = c.args.out.now.items in
    let book = c.book.result.now.book in
    let text : List ℕ = book_text w.unit c.reach.result book in
    let counts : List ℕ = counts_text c.counts-a.result c.counts-b.result c.counts-gap.result in
    on_ok_map (c.append_counts.new.out.items ≡ c.append_book.new.out.items ++ counts) ((s : State) → WorldHas w s → c.append_counts.new.out.items ≡ old ++ shown_state w.unit w.limits s) c.append_counts.result c.append_counts.ensures.ok
    (λ given s has. given ∙ ap (λ (t : List ℕ). t ++ counts) c.in_ok-append_book.ensures.ok ∙ append_assoc old text counts
    ∙ ap (λ (t : List ℕ). old ++ t) (shown_is w.unit w.limits s c.reach.result book c.counts-a.result c.counts-b.result c.counts-gap.result (seen_client w s has (λ setup now. c.reach.result ≡ reach setup.hold now.heard) c.reach.ensures)
    (book_is w s has small book c.book.ensures) (c.counts-a.ensures s.notes has.is.noted) (c.counts-b.ensures s.notes has.is.noted) (c.counts-gap.ensures s.notes has.is.noted)))

pub returns-clause-behind : goal.returns-clause-behind
returns-clause-behind c =
    prefix_stays c.append_counts.result c.args.out.now.items c.append_book.new.out.items c.append_counts.new.out.items (counts_text c.counts-a.result c.counts-b.result c.counts-gap.result) c.append_counts.ensures.ok c.append_counts.ensures.err
    c.append_book.ensures.behind
