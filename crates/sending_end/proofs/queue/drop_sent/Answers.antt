use Rattle.std.proofs.Common.{rules, ◌≡◌, ℕ, length, min, drop, ap, ◌∙◌}
use Rattle.std.proofs.lemmas.List.{drop_min}
use Rattle.sending_end.proofs.queue.drop_sent.Goals as goal

pub returns : goal.returns
returns c =
    let is : c.min.result ≡ min c.args.count (length c.args.bytes.now.items) = search rules in
    c.drop_front.ensures ∙ ap (λ (n : ℕ). drop n c.args.bytes.now.items) is ∙ drop_min c.args.count c.args.bytes.now.items
