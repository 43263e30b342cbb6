use Rattle.std.proofs.Common.{◌≡◌, ℕ, ◌+◌, List, ◌++◌, false, drop, ap, sym, ◌∙◌, Some, subst, refl}
use Rattle.unit_packets.specs.Causes.{counted}
use Rattle.unit_packets.specs.Reading.{Reading}
use Rattle.pcap_feed.specs.Capture.{capture_fault_from}
use Rattle.pcap_feed.specs.Feeding.{Capturing, HoldsCapture}
use Rattle.pcap_feed.proofs.Feeding.{fed_past, fed_on, with_memory}
use Rattle.pcap_feed.proofs.reader.CaptureReader.feed.Goals as goal

pub returns-in-Some-clause-fed : goal.returns-in-Some-clause-fed
returns-in-Some-clause-fed c = λ fed stands.
    fed_past fed c.args.piece.now c.args.self.now c.in-Some.fault c.args.out.now.items stands (sym (ap (λ (r : Capturing). r.fault) c.self.view_is) ∙ c.in-Some.is)

pub returns-in-Ok-cut_piece-clause-fed : goal.returns-in-Ok-cut_piece-clause-fed
returns-in-Ok-cut_piece-clause-fed c = with_memory c.answer.result _ (λ fed stands.
    let old : Capturing = record { told = c.self.inside.told; place = c.self.inside.stream.place; rest = c.self.inside.stream.rest; fault = c.self.inside.fault } in
    let new : Capturing = record { told = c.in-Ok-cut_piece.cut.told; place = c.pass.new.self.place; rest = c.pass.new.self.rest; fault = c.capture_fault_from-fault.result } in
    let all : List ℕ = c.rest.result.now in
    let are : all ≡ old.rest ++ c.args.piece.now = c.rest.ensures ∙ ap (λ (r : Reading). r.rest) c.in-Ok.ensures.ok in
    let place : new.place ≡ counted (old.place + c.in-Ok-cut_piece.cut.count) =
    ap (λ (r : Reading). r.place) c.pass.ensures ∙ ap (λ (r : Reading). counted (r.place + c.in-Ok-cut_piece.cut.count)) c.in-Ok.ensures.ok in
    let rest : new.rest ≡ drop c.in-Ok-cut_piece.cut.count all =
    ap (λ (r : Reading). r.rest) c.pass.ensures ∙ ap (drop c.in-Ok-cut_piece.cut.count) (sym c.rest.ensures) in
    let fault : new.fault ≡ capture_fault_from false new.place (Some c.in-Ok-cut_piece.cut.error) =
    c.capture_fault_from-fault.ensures ∙ ap (λ (p : ℕ). capture_fault_from false p (Some c.in-Ok-cut_piece.cut.error)) c.place.ensures in
    fed_on fed c.args.piece.now all c.in-Ok-cut_piece.cut.told c.in-Ok-cut_piece.cut.count c.in-Ok-cut_piece.cut.error old new c.args.out.now.items c.cut_piece.new.out.items c.answer.result
    (subst (λ (r : Capturing). HoldsCapture r fed) (sym c.self.view_is) stands) c.in-None.is are c.in-Ok-cut_piece.ensures.ok refl place rest fault c.answer.ensures)
