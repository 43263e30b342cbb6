use Rattle.std.proofs.Common.{◌||◌, ℕ, List, ap, ◌∙◌}
use Rattle.session_ends.specs.Sending.{some_bytes}
use Rattle.session_ends.proofs.Through.{hears_piece}
use Rattle.session_ends.proofs.end.End.hear.Goals as goal

pub returns-clause-heard : goal.returns-clause-heard
returns-clause-heard g c =
    hears_piece g.A.Answers.answered c.args.self.now c.take.new.self c.hear_all.new.self c.put_back.new.self c.note_sent.new.self c.args.piece.now c.hear_all.new.said.items c.in_ok-reader.reader c.in_ok-count.count _ _
    c.in_ok-reader.ensures.reader c.in_ok-reader.ensures.fed c.in_ok-reader.ensures.heard c.in_ok-reader.ensures.rest
    c.in_ok-count.ensures.through c.in_ok-count.ensures.rest c.in_ok-count.ensures.closed c.in_ok-count.ensures.logged c.put_back.ensures
    (c.note_sent.ensures ∙ ap (λ (x : List ℕ). record c.put_back.new.self { sent = (c.put_back.new.self.sent || some_bytes x) }) c.deref.ensures.value)
    c.in_ok-count.ensures.answered
