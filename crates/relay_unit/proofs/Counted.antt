-- What was sent, counted.
use Rattle.std.proofs.Common.{◌≡◌, ℕ, ◌+◌, List, [], ◌++◌, length, drop, refl, sym, ap, ◌∙◌, length-append}
use Rattle.std.proofs.Math.Seq.{drop-append_seam}
use Rattle.std.proofs.lemmas.List.{append-nil}
use Rattle.unit_packets.specs.Blocks.{Block}
use Rattle.pitch_model.specs.Asking.{ask_of}
use Rattle.pitch_model.specs.History.{Entry}
use Rattle.pitch_model.specs.Reach.{reach_of}
use Rattle.relay_unit.specs.Hearing.{first_heard, heard_merged, relay_heard}
use Rattle.relay_unit.specs.Relayed.{relayed, relayed_count}
use Rattle.relay_unit.specs.layers.Sending.{SendsOn}
use Rattle.relay_unit.proofs.Growing.{relayed_ticked}

pub counted : (sent more : ℕ) (all all' added : List (List ℕ)) → all' ≡ all ++ added → sent ≡ length all → more ≡ length added → sent + more ≡ length all'
counted sent more all all' added grown sent_is more_is =
    ap (λ (k : ℕ). k + more) sent_is ∙ ap (λ (k : ℕ). length all + k) more_is ∙ sym (ap length grown ∙ length-append all added)

pub added_is : (sent : ℕ) (all all' added : List (List ℕ)) → all' ≡ all ++ added → sent ≡ length all → drop sent all' ≡ added
added_is sent all all' added grown sent_is = ap (λ (k : ℕ). drop k all') sent_is ∙ ap (drop (length all)) grown ∙ drop-append_seam all added

-- nothing is sent before the first block
pub first_sent : (H : ℕ) (V : List (List ℕ)) → 0 ≡ relayed_count H V first_heard
unfolding reach_of
first_sent H V = refl

-- a block, and the tick behind it, add what was appended to an empty list
pub block_sends : (H : ℕ) (V : List (List ℕ)) (block : Block) (E : List Entry) (none added : List (List ℕ)) → none ≡ [] → SendsOn H V E (heard_merged block E) none added
    → relayed H V (relay_heard H block E) ≡ relayed H V E ++ added
block_sends H V block E none added empty sends =
    let all = relayed H V E in
    relayed_ticked H V (heard_merged block E) (ask_of H (heard_merged block E))
    ∙ sends all (sym (append-nil all) ∙ ap (λ (rs : List (List ℕ)). all ++ rs) (sym empty))
