use Rattle.std.proofs.Common.{◌≡◌, ℕ, List, [], ◌≤◌, ◌++◌, refl, sym, ap, ◌∙◌, subst, arith}
use Rattle.std.specs.List.{AllByRecursion}
use Rattle.drill_client.proofs.Answering.{range_pieces}
use Rattle.heard_items.proofs.Datagrams.{pieces_more}
use Rattle.gap_store.specs.Look.{View, look, store_of}
use Rattle.gap_store.specs.layers.Looking.{PacksAt}
use Rattle.gap_store.specs.declared.found.Found.{Found}
use Rattle.gap_store.specs.declared.found.Found.TheVariants.{Kept}
use Rattle.pitch_messages.specs.Room.{Roomy}
use Rattle.heard_items.specs.Datagrams.{IsPiece}
use Rattle.unit_market.specs.Markets.{kept_view}
use Rattle.unit_market.specs.Standing.{MarketState}
use Rattle.unit_packets.specs.Packing.{bytes_in}
use Rattle.drill_client.specs.layers.Answered.{is_found}
use Rattle.drill_client.proofs.Answered.{range_kept, range_gone, range_from_none, range_of_none, range_packed, kept_is, heard_range, heard_refusal}
use Rattle.drill_client.proofs.turns.answer_gap.Goals as goal

pub returns-then-first-eq0-clause-heard : goal.returns-then-first-eq0-clause-heard
returns-then-first-eq0-clause-heard c j more has H E f =
    heard_refusal _ H (j.messages ++ more) E (kept_view j) c.args.unit c.args.first c.args.count (range_from_none (kept_view j) c.args.first c.args.count c.if-first-eq0.true) (c.hear_gap_reply.ensures (j.messages ++ more) H E f)

pub returns-in-Kept-clause-heard : goal.returns-in-Kept-clause-heard
returns-in-Kept-clause-heard c j more has H E f =
    let v : View = kept_view j in
    let before : List (List ℕ) = bytes_in c.make-out.result.items in
    let after : List (List ℕ) = bytes_in c.pack.new.out.items in
    let at : PacksAt (λ (w : View). c.pack.new.self.store ≡ store_of w) v c.args.unit c.args.first c.args.count Kept before after =
    subst (λ (found : Found). PacksAt (λ (w : View). c.pack.new.self.store ≡ store_of w) v c.args.unit c.args.first c.args.count found before after) c.in-Kept.is (c.in_ok-pack.ensures.found v has.store_is) in
    let first : 1 ≤ c.args.first = omega (arith, c.if-first-eq0.false) in
    let count : 1 ≤ c.args.count = omega (arith, c.if-count-eq0.false) in
    let none : before ≡ [] = ap (λ (l : List (Roomy ℕ)). bytes_in l) c.make-out.ensures in
    let is : at.now ≡ v = kept_is c.args.market.now.store c.pack.new.self.store (kept_view j) at.now has.store_is (ap (λ (m : MarketState). m.store) (c.in_ok-pack.ensures.same refl)) at.shows at.later in
    let pieces : AllByRecursion (IsPiece j.messages c.args.unit) after =
    subst (λ (w : View). AllByRecursion (IsPiece w.messages c.args.unit) after) is (range_pieces at.now c.args.unit c.args.first c.args.count before after first count at.answer at.packs none) in
    let slice : bytes_in c.as_slice.result.now ≡ after = ap (λ (l : List (Roomy ℕ)). bytes_in l) c.as_slice.ensures in
    let all : AllByRecursion (IsPiece j.messages c.args.unit) (bytes_in c.as_slice.result.now) = subst (AllByRecursion (IsPiece j.messages c.args.unit)) (sym slice) pieces in
    heard_range _ H (j.messages ++ more) E v c.args.unit c.args.first c.args.count (bytes_in c.as_slice.result.now)
    (range_kept v c.args.first c.args.count first count (at.answer ∙ ap (λ (w : View). look w c.args.first c.args.count) is))
    (slice ∙ range_packed at.now v c.args.unit c.args.first c.args.count before after at.packs none at.answer is)
    (c.in_ok-hear_datagrams-in-Kept.ensures (j.messages ++ more) c.args.unit (pieces_more j.messages more c.args.unit _ all) H _ (c.hear_gap_reply-in-Kept.ensures (j.messages ++ more) H E f))

pub returns-in-Ahead : goal.returns-in-Ahead
returns-in-Ahead c = record {
  same = c.in_ok-pack.ensures.same refl;
  heard = λ j more has H E f.
      let at = c.in_ok-pack.ensures.found (kept_view j) has.store_is in
      let is = kept_is c.args.market.now.store c.pack.new.self.store (kept_view j) at.now has.store_is (ap (λ (m : MarketState). m.store) (c.in_ok-pack.ensures.same refl)) at.shows at.later in
      heard_refusal _ H (j.messages ++ more) E (kept_view j) c.args.unit c.args.first c.args.count
      (range_gone (kept_view j) c.args.first c.args.count _ (ap is_found c.in-Ahead.is) (at.answer ∙ ap (λ (w : View). look w c.args.first c.args.count) is)) (c.hear_gap_reply-in-Ahead.ensures (j.messages ++ more) H E f);
}

pub returns-then-count-eq0-clause-heard : goal.returns-then-count-eq0-clause-heard
returns-then-count-eq0-clause-heard c j more has H E f =
    heard_refusal _ H (j.messages ++ more) E (kept_view j) c.args.unit c.args.first c.args.count (range_of_none (kept_view j) c.args.first c.args.count c.if-count-eq0.true) (c.hear_gap_reply-then-count-eq0.ensures (j.messages ++ more) H E f)

pub returns-clause-heard : goal.returns-clause-heard
returns-clause-heard c j more has H E f =
    let at = c.in_ok-pack.ensures.found (kept_view j) has.store_is in
    let is = kept_is c.args.market.now.store c.pack.new.self.store (kept_view j) at.now has.store_is (ap (λ (m : MarketState). m.store) (c.in_ok-pack.ensures.same refl)) at.shows at.later in
    heard_refusal _ H (j.messages ++ more) E (kept_view j) c.args.unit c.args.first c.args.count
    (range_gone (kept_view j) c.args.first c.args.count _ (ap is_found c.in-NotKept.is) (at.answer ∙ ap (λ (w : View). look w c.args.first c.args.count) is)) (c.hear_gap_reply-in-NotKept.ensures (j.messages ++ more) H E f)
