use Rattle.std.proofs.Common.{ap, ◌∙◌, arith, length, length-append, List, ℕ}
use Rattle.unit_commands.specs.Pieces.{UnreadText}
use Rattle.unit_commands.proofs.CutLemmas.{all_unfinished, are_kept, pushed_is, with_lines}
use Rattle.unit_commands.proofs.pieces.TextPieces.push.Goals as goal

pub invariant_of-self-2 : goal.invariant_of-self-2
invariant_of-self-2 c =
    let bytes : List ℕ = c.self.inside.bytes.items in
    let old : UnreadText = c.args.self.now in
    let all = all_unfinished bytes old.whole old.rest c.self.inside.whole c.self.invariant (ap (λ (u : UnreadText). u.whole) c.self.view_is) (ap (λ (u : UnreadText). u.rest) c.self.view_is) c.requires.read in
    are_kept c.put_behind.new.bytes.items c.in_ok-self-inside.field-0 c.in_ok-self-inside.ensures.whole c.in_ok-self-inside.ensures.short
    (omega (arith, ap (λ (l : List ℕ). length l) c.in_ok-self-inside.ensures.bytes, length-append bytes c.args.piece.now, all.short, c.requires.size))

pub returns-clause-ok : goal.returns-clause-ok
returns-clause-ok c =
    let bytes : List ℕ = c.self.inside.bytes.items in
    let old : UnreadText = c.args.self.now in
    let all = all_unfinished bytes old.whole old.rest c.self.inside.whole c.self.invariant (ap (λ (u : UnreadText). u.whole) c.self.view_is) (ap (λ (u : UnreadText). u.rest) c.self.view_is) c.requires.read in
    ap (λ (n : ℕ). with_lines c.put_behind.new.bytes.items c.in_ok-self-inside.field-0 n) (ap (λ (u : UnreadText). u.lines) c.self.view_is)
    ∙ pushed_is old bytes c.put_behind.new.bytes.items c.args.piece.now c.in_ok-self-inside.field-0 all c.in_ok-self-inside.ensures.bytes c.in_ok-self-inside.ensures.whole
