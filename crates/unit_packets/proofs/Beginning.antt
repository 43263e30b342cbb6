-- The block that a packer has begun.
use Rattle.std.proofs.Common.{◌≡◌, ℕ, ◌+◌, ◌<◌, ◌≤◌, ◌↔◌, IsTrue, List, [], ◌∷◌, ◌++◌, length, take, drop, refl, sym, ap, ◌∙◌, arith, subst, length-append, inl, inr}
use Rattle.std.specs.List.{concat}
use Rattle.std.proofs.lemmas.Bool.{cases_eq}
use Rattle.std.proofs.lemmas.List.{append-nil, length-drop, take_at, drop-append-le}
use Rattle.std.proofs.lemmas.List.Folds.{concat-append}
use Rattle.pitch_messages.specs.Raw.{IsRaw, raws_of}
use Rattle.pitch_messages.specs.layers.Chains.{IsChain}
use Rattle.pitch_messages.proofs.Chains.{chain_of, chain_push, empty_chain}
use Rattle.unit_packets.specs.Blocks.{StaysWithin}
use Rattle.unit_packets.specs.layers.Begun.{IsBegun}
use Rattle.unit_packets.specs.BlockBytes.{header_bytes, block_bytes}
use Rattle.unit_packets.specs.Lending.{header_for}
use Rattle.unit_packets.specs.Packing.{sequence_after, fits_datagram}
use Rattle.unit_packets.specs.Pushing.{Packing, next_sequence}
use Rattle.unit_packets.specs.declared.header.Header.{Header}
use Rattle.unit_packets.proofs.Packs.{fits_true, fits_of, after_known}

-- nothing is begun
pub none_begun : (sequence : ℕ) (bytes : List ℕ) → bytes ≡ [] → IsBegun sequence 0 bytes
none_begun sequence bytes none = subst (λ (b : List ℕ). IsBegun sequence 0 b) (sym none) (record { chain = empty_chain [] refl; header = λ (some : 0 < 0). omega arith; size = omega arith; within = inr (inl refl) })

pub record Begins (sequence count : ℕ) (bytes : List ℕ) (raws : List (List ℕ)) : Type 0 where
  pub are : raws_of count (drop 8 bytes) ≡ raws
  pub begun : IsBegun sequence count bytes

-- one message is
pub one_begun : (sequence : ℕ) (bytes raw : List ℕ) → length bytes ≡ 8 + length raw → drop 8 bytes ≡ raw → IsRaw raw → sequence ≤ 4294967294 → Begins sequence 1 bytes (raw ∷ [])
one_begun sequence bytes raw long body is least =
    let most = is.most in
    let chain = chain_of (raw ∷ []) 1 (drop 8 bytes) refl (append-nil raw ∙ sym body) (is, tt) in
    record {
      are = chain.are;
      begun = record { chain = chain.chain; header = λ some. omega (arith, long); size = omega (arith, long, most); within = inr (inr (omega arith)) };
    }

within_more : (sequence count : ℕ) → sequence_after sequence count ≤ 4294967294 → StaysWithin sequence (count + 1)
within_more sequence count least = elim (cases_eq sequence 0) [
  | inl none ↦ inl none
  | inr some ↦ let next = after_known sequence count some in inr (inr (omega (arith, next)))
]

-- one more is
pub more_begun : (sequence count : ℕ) (bytes raw : List ℕ) → IsBegun sequence count bytes → IsRaw raw → 0 < count → count < 255 → length bytes + length raw ≤ 1400
    → sequence_after sequence (length (raws_of count (drop 8 bytes))) ≤ 4294967294 → Begins sequence (count + 1) (bytes ++ raw) (raws_of count (drop 8 bytes) ++ raw ∷ [])
more_begun sequence count bytes raw begun is some few short least =
    let eight : 8 ≤ length bytes = begun.header some in
    let cut : drop 8 (bytes ++ raw) ≡ drop 8 bytes ++ raw = drop-append-le 8 bytes raw eight in
    let chain = chain_push count (drop 8 bytes) raw begun.chain is in
    let long = length-append bytes raw in
    record {
      are = ap (raws_of (count + 1)) cut ∙ chain.are;
      begun = record {
        chain = subst (λ (b : List ℕ). IsChain (count + 1) b) (sym cut) chain.chain;
        header = λ s. omega (arith, long, eight);
        size = omega (arith, long, short);
        within = within_more sequence count (subst (λ (n : ℕ). sequence_after sequence n ≤ 4294967294) begun.chain.many least);
      };
    }

body_size : (count : ℕ) (bytes : List ℕ) → IsChain count (drop 8 bytes) → 8 ≤ length bytes → 8 + length (concat (raws_of count (drop 8 bytes))) ≡ length bytes
body_size count bytes chain eight = omega (arith, ap length chain.whole, length-drop 8 bytes)

size_more : (raws : List (List ℕ)) (raw : List ℕ) → length (concat (raws ++ raw ∷ [])) ≡ length (concat raws) + length raw
size_more raws raw = ap length (concat-append raws (raw ∷ [])) ∙ length-append (concat raws) (concat (raw ∷ [])) ∙ ap (λ (r : List ℕ). length (concat raws) + length r) (append-nil raw)

-- whether one more goes in
pub taken : (sequence count : ℕ) (bytes raw : List ℕ) → IsBegun sequence count bytes →
    ((0 < count) × ((count < 255) × (length bytes + length raw ≤ 1400))) ↔ ((0 < length (raws_of count (drop 8 bytes))) × IsTrue (fits_datagram (raws_of count (drop 8 bytes) ++ raw ∷ [])))
taken sequence count bytes raw begun =
    let rs : List (List ℕ) = raws_of count (drop 8 bytes) in
    let many : length rs ≡ count = begun.chain.many in
    let longer = length-append rs (raw ∷ []) in
    let more = size_more rs raw in (
      λ fits. let eight : 8 ≤ length bytes = begun.header fits.0 in
          let size = body_size count bytes begun.chain eight in
          let short = fits.1.1 in
          let few = fits.1.0 in
          (omega (arith, many, fits.0), fits_true (rs ++ raw ∷ []) (record { size = omega (arith, more, size, short); count = omega (arith, longer, many, few) })),
      λ both. let some : 0 < count = omega (arith, many, both.0) in
          let eight : 8 ≤ length bytes = begun.header some in
          let size = body_size count bytes begun.chain eight in
          let fits = fits_of (rs ++ raw ∷ []) both.1 in
          let least = fits.size in
          let few = fits.count in
          (some, (omega (arith, few, longer, many), omega (arith, least, more, size))),
    )

-- the bytes of the block that is given out
pub closed : (unit sequence count size kept : ℕ) (bytes was now new : List ℕ) → IsBegun sequence count bytes → 0 < count → was ≡ bytes → now ≡ was → size ≡ length bytes → kept ≡ length bytes
    → new ≡ header_bytes (record { length = size; count = count; unit = unit; sequence = sequence }) ++ drop 8 now
    → take kept (new ++ drop (length new) was) ≡ block_bytes (record { unit = unit; sequence = sequence; raws = raws_of count (drop 8 bytes) })
unfolding block_bytes
closed unit sequence count size kept bytes was now new begun some same lent long whole put =
    let eight : 8 ≤ length bytes = begun.header some in
    let rs : List (List ℕ) = raws_of count (drop 8 bytes) in
    let header : Header = record { length = size; count = count; unit = unit; sequence = sequence } in
    let body : new ≡ header_bytes header ++ drop 8 bytes = put ∙ ap (λ (b : List ℕ). header_bytes header ++ drop 8 b) (lent ∙ same) in
    let n : length new ≡ kept = ap length body ∙ length-append (header_bytes header) (drop 8 bytes) ∙ omega (arith, length-drop 8 bytes, eight, whole) in
    let head : header ≡ header_for (record { unit = unit; sequence = sequence; raws = rs }) =
    ap (λ (k : ℕ). record { length = k; count = count; unit = unit; sequence = sequence }) (long ∙ sym (body_size count bytes begun.chain eight))
    ∙ ap (λ (k : ℕ). record { length = 8 + length (concat rs); count = k; unit = unit; sequence = sequence }) (sym begun.chain.many) in
    take_at new (drop (length new) was) kept n ∙ body ∙ ap (λ (h : Header). header_bytes h ++ drop 8 bytes) head
    ∙ ap (λ (b : List ℕ). header_bytes (header_for (record { unit = unit; sequence = sequence; raws = rs })) ++ b) (sym begun.chain.whole)

abbrev pub seen : ℕ → ℕ → ℕ → List ℕ → Packing
seen unit sequence count bytes = record { unit = unit; sequence = sequence; begun = raws_of count (drop 8 bytes) }

-- a message went in
pub record Took (sequence count : ℕ) (longer raw : List ℕ) (old : Packing) : Type 0 where
  pub few : count < 255
  pub begins : Begins sequence (count + 1) longer (old.begun ++ raw ∷ [])

took_in : (unit sequence count : ℕ) (bytes longer raw : List ℕ) → IsBegun sequence count bytes → IsRaw raw → longer ≡ bytes ++ raw
    → (0 < length (seen unit sequence count bytes).begun) × IsTrue (fits_datagram ((seen unit sequence count bytes).begun ++ raw ∷ [])) → next_sequence (seen unit sequence count bytes) ≤ 4294967294 → Took sequence count longer raw (seen unit sequence count bytes)
took_in unit sequence count bytes longer raw begun is are fits least =
    let t = (taken sequence count bytes raw begun).1 fits in
    let more = more_begun sequence count bytes raw begun is t.0 t.1.0 t.1.1 least in
    record { few = t.1.0; begins = subst (λ (b : List ℕ). Begins sequence (count + 1) b (raws_of count (drop 8 bytes) ++ raw ∷ [])) (sym are) more }

pub took : (unit sequence count : ℕ) (bytes longer raw : List ℕ) (old : Packing) → IsBegun sequence count bytes → IsRaw raw → longer ≡ bytes ++ raw → seen unit sequence count bytes ≡ old
    → (0 < length old.begun) × IsTrue (fits_datagram (old.begun ++ raw ∷ [])) → next_sequence old ≤ 4294967294 → Took sequence count longer raw old
took unit sequence count bytes longer raw old begun is are view =
    let P : Packing → Type 0 = λ p. (0 < length p.begun) × IsTrue (fits_datagram (p.begun ++ raw ∷ [])) → next_sequence p ≤ 4294967294 → Took sequence count longer raw p in
    subst P view (took_in unit sequence count bytes longer raw begun is are)

pub taken_by : (unit sequence count : ℕ) (bytes raw : List ℕ) (old : Packing) → IsBegun sequence count bytes → seen unit sequence count bytes ≡ old
    → ((0 < count) × ((count < 255) × (length bytes + length raw ≤ 1400))) ↔ ((0 < length old.begun) × IsTrue (fits_datagram (old.begun ++ raw ∷ [])))
taken_by unit sequence count bytes raw old begun view =
    let P : Packing → Type 0 = λ p. ((0 < count) × ((count < 255) × (length bytes + length raw ≤ 1400))) ↔ ((0 < length p.begun) × IsTrue (fits_datagram (p.begun ++ raw ∷ []))) in
    subst P view (taken sequence count bytes raw begun)
