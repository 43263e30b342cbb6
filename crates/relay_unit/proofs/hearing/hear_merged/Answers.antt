use Rattle.std.proofs.Common.{◌≡◌, ◌==◌, ℕ, false, List, length, length-append, ◌+◌, ap, sym, ◌∙◌, subst, arith}
use Rattle.std.proofs.lemmas.Bool.{ne_eqb}
use Rattle.unit_packets.specs.Blocks.{Block}
use Rattle.unit_packets.specs.declared.header.Header.{Header}
use Rattle.pitch_model.specs.Honest.{Honest}
use Rattle.client_core.specs.layers.Blocks.{Carries}
use Rattle.client_core.specs.Tracks.{Tracks}
use Rattle.client_core.specs.Client.{current_book}
use Rattle.client_core.proofs.Outcomes.{on_ok, on_both, if_ok}
use Rattle.relay_unit.specs.layers.Sending.{SendsOn}
use Rattle.relay_unit.proofs.Following.{applied_sends}
use Rattle.relay_unit.proofs.Growing.{sends_block}
use Rattle.relay_unit.proofs.Merging.{merged_block, merged_block_change}
use Rattle.relay_unit.proofs.hearing.hear_merged.Goals as goal

carries : (block : Block) (header : Header) (raws : List (List ℕ)) → header.sequence ≡ block.sequence → raws ≡ block.raws → Carries block header.sequence raws
carries block header raws sequence same = record { sequence_is = sym sequence; raws_are = sym same }

pub returns-clause-tracks : goal.returns-clause-tracks
returns-clause-tracks c =
    let block = c.args.block.now in
    let named : c.header-sequence.result.sequence ≡ block.sequence = ap (λ (h : Header). h.sequence) c.header-sequence.ensures in
    let some : (block.sequence == 0) ≡ false = ne_eqb block.sequence 0 (λ e. c.if-sequence-eq0.false (named ∙ e)) in
    on_ok c.hear_block.result (λ tracks H E T. subst (Tracks c.hear_block.new.self H) (merged_block block E some)
    (tracks block (carries block c.header-sequence.result c.raws-2.result named c.raws-2.ensures.raws) H E T)) c.hear_block.ensures.tracks

pub returns-clause-keeps : goal.returns-clause-keeps
returns-clause-keeps c =
    let block = c.args.block.now in
    let named : c.header-sequence.result.sequence ≡ block.sequence = ap (λ (h : Header). h.sequence) c.header-sequence.ensures in
    let some : (block.sequence == 0) ≡ false = ne_eqb block.sequence 0 (λ e. c.if-sequence-eq0.false (named ∙ e)) in
    on_ok c.hear_block.result (λ keeps V H E T venue K.
    keeps block (carries block c.header-sequence.result c.raws-2.result named c.raws-2.ensures.raws) venue.Image V E (subst (Honest venue.Image V) (sym (merged_block block E some)) venue.honest) K) c.hear_block.ensures.keeps

pub returns-clause-sends : goal.returns-clause-sends
returns-clause-sends c =
    let block = c.args.block.now in
    let named : c.header-sequence.result.sequence ≡ block.sequence = ap (λ (h : Header). h.sequence) c.header-sequence.ensures in
    let some : (block.sequence == 0) ≡ false = ne_eqb block.sequence 0 (λ e. c.if-sequence-eq0.false (named ∙ e)) in
    on_ok c.hear_block.result (λ venues V H E T venue K.
    let same = merged_block block E some in
    subst (λ F. SendsOn H V E F c.args.sent.now.items c.hear_block.new.notes.items) same
    (sends_block H V E block c.args.sent.now.items c.hear_block.new.notes.items
    (venues block (carries block c.header-sequence.result c.raws-2.result named c.raws-2.ensures.raws) venue.Image V H E T (subst (Honest venue.Image V) (sym same) venue.honest) K))) c.hear_block.ensures.venues

pub returns-clause-change : goal.returns-clause-change
returns-clause-change c =
    let block = c.args.block.now in
    let named : c.header-sequence.result.sequence ≡ block.sequence = ap (λ (h : Header). h.sequence) c.header-sequence.ensures in
    let some : (block.sequence == 0) ≡ false = ne_eqb block.sequence 0 (λ e. c.if-sequence-eq0.false (named ∙ e)) in
    if_ok _ _ c.hear_block.result (λ change f H E T.
    f block (carries block c.header-sequence.result c.raws-2.result named c.raws-2.ensures.raws) H E T ∙ merged_block_change H block E some) c.hear_block.ensures.change

pub returns-clause-weighs : goal.returns-clause-weighs
returns-clause-weighs c =
    let many = ap (λ (raws : List (List ℕ)). length raws) c.raws-2.ensures.raws in
    on_both c.hear_block.result (λ applies weighs.
    let sent : length c.hear_block.new.notes.items ≡ length c.args.sent.now.items + length applies.0 = ap (λ (raws : List (List ℕ)). length raws) applies.1 ∙ length-append c.args.sent.now.items applies.0 in
    let reach = applies.2.reach_is in
    omega arith) c.hear_block.ensures.applies c.hear_block.ensures.weighs

pub returns-clause-any : goal.returns-clause-any
returns-clause-any c =
    on_ok c.hear_block.result (λ applies.
    applied_sends (current_book c.args.client.now) (current_book c.hear_block.new.self) c.args.sent.now.items c.hear_block.new.notes.items
    applies.0 applies.1 applies.2.book_is) c.hear_block.ensures.applies

pub returns-clause-line : goal.returns-clause-line
returns-clause-line c =
    on_ok c.hear_block.result (λ applies some. record {
      more = applies.0;
      appended = applies.1;
      applied = applies.2.book_is;
    }) c.hear_block.ensures.applies
