use Rattle.std.proofs.Common.{◌≡◌, ℕ, ◌+◌, List, ◌++◌, false, drop, ap, sym, ◌∙◌, None, Some}
use Rattle.unit_packets.specs.Causes.{counted}
use Rattle.unit_packets.specs.Cutting.{fault_in}
use Rattle.unit_packets.specs.Feeding.{kept_fault}
use Rattle.unit_packets.specs.Pieces.{fed_answer}
use Rattle.unit_packets.specs.Reading.{Reading}
use Rattle.unit_packets.proofs.Feeds.{fed_past, fed_on, with_memory}
use Rattle.unit_packets.proofs.reader.BlockReader.feed.Goals as goal

pub returns-in-Some-clause-fed : goal.returns-in-Some-clause-fed
returns-in-Some-clause-fed c = λ fed stands.
    let some : kept_fault c.args.self.now ≡ Some c.in-Some.fault =
    sym (ap (λ (p : ℕ). fault_in false p c.rest.result.now) c.place.ensures ∙ ap (fault_in false c.args.self.now.place) c.rest.ensures) ∙ sym c.fault_in.ensures ∙ c.in-Some.is in
    fed_past fed c.args.piece.now c.args.self.now c.in-Some.fault c.args.out.now.items stands some

pub returns-in-Ok-clause-fed : goal.returns-in-Ok-clause-fed
returns-in-Ok-clause-fed c = with_memory c.answer.result _ (λ fed stands.
    let none : kept_fault c.args.self.now ≡ None =
    sym (ap (λ (p : ℕ). fault_in false p c.rest.result.now) c.place.ensures ∙ ap (fault_in false c.args.self.now.place) c.rest.ensures) ∙ sym c.fault_in.ensures ∙ c.in-None.is in
    let all : List ℕ = c.rest-2.result.now in
    let are : all ≡ c.args.self.now.rest ++ c.args.piece.now = c.rest-2.ensures ∙ ap (λ (r : Reading). r.rest) c.in_ok-load.ensures.ok in
    let place : c.pass.new.self.place ≡ counted (c.args.self.now.place + c.in-Ok.passed) =
    ap (λ (r : Reading). r.place) c.pass.ensures ∙ ap (λ (r : Reading). counted (r.place + c.in-Ok.passed)) c.in_ok-load.ensures.ok in
    let rest : c.pass.new.self.rest ≡ drop c.in-Ok.passed all =
    ap (λ (r : Reading). r.rest) c.pass.ensures ∙ ap (drop c.in-Ok.passed) (sym c.rest-2.ensures) in
    let gives : c.answer.result ≡ fed_answer (fault_in false c.pass.new.self.place c.pass.new.self.rest) =
    c.answer.ensures ∙ ap fed_answer (c.fault_in-in-Ok.ensures
    ∙ ap (λ (p : ℕ). fault_in false p c.rest-in-Ok.result.now) c.place-in-Ok.ensures
    ∙ ap (fault_in false c.pass.new.self.place) c.rest-in-Ok.ensures) in
    fed_on fed c.args.piece.now all c.in-Ok.passed c.args.self.now c.pass.new.self c.args.out.now.items c.cut_blocks.new.out.items c.answer.result
    stands none are c.in-Ok.ensures.place c.in-Ok.ensures.ok place rest gives)
