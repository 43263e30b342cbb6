-- What a publisher does, step by step.
use Rattle.std.proofs.Common.{◌≡◌, ℕ, zero, suc, ◌+◌, ◌-◌, ◌*◌, ◌≤◌, Bool, List, [], ◌∷◌, ◌++◌, length, drop, Some, sym, ap, ◌∙◌, subst, arith}
use Rattle.std.proofs.lemmas.List.{length-append}
use Rattle.std.specs.List.{AllByRecursion, slice_get}
use Rattle.pitch_model.proofs.Advertising.{accepted_more}
use mathlib.Core.List.{IsPrefix}
use Rattle.unit_packets.specs.Packing.{IsPacking}
use Rattle.pitch_model.specs.Advertising.{Operation, Accept, accepted_by}
use Rattle.heard_items.specs.Datagrams.{IsPiece}
use Rattle.pitch_model.specs.History.{Raw}
use Rattle.pitch_model.specs.Honest.{AreVenues, message_at}
use Rattle.heard_items.proofs.Datagrams.{packing_pieces}
use Rattle.venue_core.specs.Commands.{raw_of}
use Rattle.venue_core.specs.Plan.{plan, plan_command}
use Rattle.venue_core.proofs.PlanBooks.{plan_length, plan_step}
use Rattle.venue_core.proofs.PlanBytes.{plan_at_place}
use Rattle.shared_unit.specs.layers.Histories.{IsLegal, then_done}
use Rattle.drill_client.proofs.Playing.{plan_grows}
use Rattle.unit_threads.specs.layers.Publishing.{IsPlanned, HasAccepted}

-- one more command was accepted
pub accepted_next : (history : List Operation) (number unit index : ℕ) (raw : Raw) → 1 ≤ index → raw ≡ raw_of (plan_command number unit index) → HasAccepted history number unit (index - 1) (2 * (index - 1))
    → HasAccepted (then_done history (Accept raw)) number unit index (2 * index - 1)
accepted_next history number unit index raw low is has = record {
  accepted = accepted_more history (Accept raw) ∙ ap (λ (V : List Raw). V ++ raw ∷ []) has.accepted ∙ ap (λ (r : Raw). plan number unit (index - 1) ++ r ∷ []) is ∙ sym (plan_step number unit index low);
  few = omega (arith, length-append history (Accept raw ∷ []), has.few, low);
}

-- the history stays one of the run
pub legal_next : (fixed : Bool) (messages : List Raw) (number unit count index most : ℕ) (history : List Operation) → IsPlanned fixed messages number unit count → index ≤ count
    → HasAccepted history number unit index most → IsLegal fixed messages history
legal_next fixed messages number unit count index most history planned le has fixed_is =
    subst (IsPrefix (accepted_by history)) (sym planned.1)
    (subst (λ (W : List Raw). IsPrefix W (plan number unit count)) (sym has.accepted) (drop index (plan number unit count), plan_grows number unit index count le))

pub accepted_few : (history : List Operation) (number unit index : ℕ) → 1 ≤ index → HasAccepted history number unit index (2 * index - 1) → HasAccepted history number unit index (2 * index)
accepted_few history number unit index low has = record { accepted = has.accepted; few = omega (arith, has.few, low) }

-- ---- Its datagram
-- the message of command index stands at its sequence
one_venue : (number unit index count : ℕ) → 1 ≤ index → index ≤ count → AreVenues (plan number unit count) index (raw_of (plan_command number unit index) ∷ [])
one_venue number unit (suc n) count low le zero raw at =
    let e : n + 1 ≡ suc n = omega arith in
    let f : suc n + 0 ≡ suc n = omega arith in
    ap (message_at (plan number unit count)) f ∙ plan_at_place number unit count n (omega (arith, le)) ∙ ap (λ (i : ℕ). Some (raw_of (plan_command number unit i))) e ∙ at
one_venue number unit (suc n) count low le (suc i) raw at = absurd (past i raw at)
  where
    past : (i : ℕ) (raw : Raw) → slice_get {X = Raw} [] i ≡ Some raw → ⊥
    past zero raw e = cc
    past (suc i) raw e = cc
one_venue number unit zero count low le i raw at = absurd (omega (arith, low))

-- its packing is pieces of the run's feed
pub last_pieces : (number unit index count : ℕ) (raws : List Raw) (datagrams : List (List ℕ)) → 1 ≤ index → index ≤ count → raws ≡ raw_of (plan_command number unit index) ∷ []
    → IsPacking unit index raws datagrams → AllByRecursion (IsPiece (plan number unit count) unit) datagrams
last_pieces number unit index count raws datagrams low le is packing =
    let one : length raws ≡ 1 = ap (λ (rs : List Raw). length rs) is in
    let size = plan_length number unit count in
    packing_pieces (plan number unit count) unit index raws datagrams low (omega (arith, one, le, size))
    (subst (AreVenues (plan number unit count) index) (sym is) (one_venue number unit index count low le)) packing
