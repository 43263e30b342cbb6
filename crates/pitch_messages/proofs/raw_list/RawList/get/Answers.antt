use Rattle.std.proofs.Common.{◌≡◌, ℕ, List, ap, ◌∙◌, subst, drop}
use Rattle.pitch_messages.proofs.Chains.{Stepped, stepped_at}
use Rattle.pitch_messages.proofs.raw_list.RawList.get.Goals as goal

pub returns-clause-item : goal.returns-clause-item
returns-clause-item c =
    let at : c.after.result ≡ drop c.args.index c.args.self.now.items = c.after.ensures ∙ ap (λ (rs : List (List ℕ)). drop c.args.index rs) c.raws.ensures in
    stepped_at c.args.self.now.items c.next_raw.new.self c.next_raw.result c.args.index
    (subst (λ (old : List (List ℕ)). Stepped old c.next_raw.result c.next_raw.new.self) at c.next_raw.ensures)
