use Rattle.std.proofs.Common.{rules, ℕ, List, ◌++◌, length, take, refl, sym, ap, ◌∙◌, append_assoc}
use Rattle.std.proofs.lemmas.List.{take_at}
use Rattle.std.proofs.lemmas.Option.{slice_get_read}
use Rattle.feed_lines.specs.BookText.{status_line}
use Rattle.feed_lines.proofs.Booking.{state_lines, state_lines_take}
use Rattle.world_model.proofs.showing.append_statuses.Goals as goal

pub lines-preserved : goal.lines-preserved
lines-preserved c =
    let all = c.args.states.now in
    let i : ℕ = c.lines.state-index in
    let x = c.state-item.result in
    let at = slice_get_read all (length all) i x refl (search rules) c.state-item.is in
    c.in_ok-append_status.ensures.ok ∙ ap (λ (t : List ℕ). t ++ status_line x) c.lines.invariant
    ∙ append_assoc c.args.out.now.items (state_lines (take i all)) (status_line x)
    ∙ ap (λ (t : List ℕ). c.args.out.now.items ++ t) (sym (state_lines_take all i x at))

pub returns-in_err-append_status-clause-behind : goal.returns-in_err-append_status-clause-behind
returns-in_err-append_status-clause-behind c =
    let old : List ℕ = c.args.out.now.items in
    ap (λ (t : List ℕ). take (length old) t) (c.in_err-append_status.ensures.err ∙ c.lines.invariant) ∙ take_at old (state_lines (take c.lines.state-index c.args.states.now)) (length old) refl
