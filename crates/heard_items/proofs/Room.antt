-- A hold with room keeps what comes, and an image joins what is held.
use Rattle.std.proofs.Common.{◌≡◌, ℕ, suc, ◌+◌, ◌≤◌, ◌<◌, true, false, cond, eqb, List, [], ◌∷◌, length, refl, sym, ap, ◌∙◌, subst, inl, inr, arith, Some, unwrap_or}
use Rattle.std.proofs.lemmas.Bool.{cases_Bool, cases_eq, cases_lt, both_ways, eq-eqb, or_left, or_right, and_right}
use Rattle.pitch_model.specs.History.{Entry, Raw, Message, SpinFinished, spin_of, image_finished}
use Rattle.pitch_model.specs.Reach.{is_seen, held_count, since_overflow, reach, is_held, sequences}
use Rattle.pitch_model.specs.Status.{raised, status_at, status_of, top_of}
use Rattle.pitch_model.specs.declared.status.Status.TheVariants.{Current, Behind}
use Rattle.pitch_model.proofs.Counting.{held_same, held_more}
use Rattle.pitch_model.proofs.Draining.{taken_drains}
use Rattle.pitch_model.proofs.Entries.{repeat_leaves, kept_leaves, stale_same}
use Rattle.pitch_model.proofs.Reaching.{next_unseen}
use Rattle.pitch_model.proofs.Topmost.{reach_le_top}
use Rattle.heard_items.specs.HeardBlocks.{heard_messages}

-- ---- Messages that are not the next
-- the reach is as before, and what was held is; and so are so many messages from `first` on
pub record StaysHeld (H : ℕ) (E F : List Entry) (first count : ℕ) : Type 0 where
  pub reach_is : reach H F ≡ reach H E
  pub still : (k : ℕ) → is_held H E k ≡ true → is_held H F k ≡ true
  pub held : (k : ℕ) → first ≤ k → k < first + count → is_held H F k ≡ true

-- one message: it is held then, and one more at most is
record OneHeld (H : ℕ) (E : List Entry) (k : ℕ) (raw : Raw) : Type 0 where
  reach_is : reach H (Message k raw ∷ E) ≡ reach H E
  still : (j : ℕ) → is_held H E j ≡ true → is_held H (Message k raw ∷ E) j ≡ true
  here : is_held H (Message k raw ∷ E) k ≡ true
  few : held_count (since_overflow H (Message k raw ∷ E)) ≤ suc (held_count (since_overflow H E))

one_held : (H : ℕ) (E : List Entry) (k : ℕ) (raw : Raw) → reach H E + 1 < k → held_count (since_overflow H E) < H → OneHeld H E k raw
one_held H E k raw far room = elim (cases_Bool (is_held H E k)) [
  | inl had ↦
      let L = repeat_leaves H E k raw (omega (arith, room)) had in
      let same = held_same (since_overflow H (Message k raw ∷ E)) (since_overflow H E) L.held_are in
      record { reach_is = L.reach_is; still = λ j is. L.held_are j ∙ is; here = L.held_are k ∙ had; few = omega (arith, same) }
  | inr fresh ↦
      let L = kept_leaves H E k raw far fresh room in
      let more = held_more (since_overflow H E) (since_overflow H (Message k raw ∷ E)) k fresh L.held_are in
      record {
        reach_is = L.reach_is;
        still = λ j is. L.held_are j ∙ or_right (eqb j k) (is_held H E j) is;
        here = L.held_are k ∙ or_left (eqb k k) (is_held H E k) (eq-eqb k k refl);
        few = omega (arith, more);
      }
]

pub messages_stay : (H first : ℕ) (raws : List Raw) (E : List Entry) → reach H E + 1 < first → held_count (since_overflow H E) + length raws ≤ H → StaysHeld H E (heard_messages first raws E) first (length raws)
messages_stay H first [] E far room = record { reach_is = refl; still = λ k is. is; held = λ k above below. absurd (omega (arith, above, below)) }
messages_stay H first (raw ∷ raws) E far room =
    let one = one_held H E first raw far (omega (arith, room)) in
    let reached = one.reach_is in
    let few = one.few in
    let rest = messages_stay H (first + 1) raws (Message first raw ∷ E) (omega (arith, reached, far)) (omega (arith, few, room)) in
    record {
      reach_is = rest.reach_is ∙ reached;
      still = λ k is. rest.still k (one.still k is);
      held = λ k above below. elim (cases_eq k first) [
        | inl same ↦ rest.still k (subst (λ j. is_held H (Message first raw ∷ E) j ≡ true) (sym same) one.here)
        | inr other ↦ rest.held k (omega (arith, above, other)) (omega (arith, below))
      ];
    }

-- ---- An image
next_not_held : (H : ℕ) (E : List Entry) → is_held H E (suc (reach H E)) ≡ false
next_not_held H E = and_right _ (is_seen (since_overflow H E) (suc (reach H E))) (next_unseen (since_overflow H E))

-- an image through s, with all messages behind s held, makes the client current
module _ (H : ℕ) (E : List Entry) (sequence s top : ℕ) (raws : List Raw) (finished : image_finished (spin_of E) sequence ≡ (s, raws) ∷ []) (told : top_of E ≡ Some top) (within : s ≤ top) (held : (k : ℕ) → s < k → k ≤ top → is_held H E k ≡ true) where
  abbrev F : List Entry
  F = SpinFinished sequence ∷ E

  told_now : top_of F ≡ Some top
  told_now = (λ i. raised (sequences (finished i)) (told i)) ∙ ap Some (omega (arith, within))

  -- behind a reach from s on that is short of the top, the next one is held
  not_short : (r : ℕ) → s ≤ r → is_held H E (suc r) ≡ false → top ≤ r
  not_short r up none = elim (cases_lt r top) [
    | inl short ↦ absurd (both_ways _ none (held (suc r) (omega (arith, up)) (omega (arith, short))))
    | inr all ↦ all
  ]

  reaches : top ≤ reach H F
  reaches = elim (cases_lt (reach H E) s) [
    | inl above ↦
        let D = (taken_drains H E sequence s raws finished above).runs in
        let e : reach H F + 1 ≡ suc (reach H F) = omega arith in
        not_short (reach H F) D.up (subst (λ k. is_held H E k ≡ false) e D.stop)
    | inr old ↦
        let same = (stale_same H E sequence s raws finished old).reach_is in
        let all = not_short (reach H E) old (next_not_held H E) in
        omega (arith, same, all)
  ]

  pub image_joins : status_of H F ≡ Current top
  image_joins =
      let most = reach_le_top H F in
      let top_is : unwrap_or (top_of F) 0 ≡ top = ap (λ o. unwrap_or o 0) told_now in
      let all = reaches in
      let is : reach H F ≡ top = omega (arith, most, top_is, all) in
      ap (status_at (reach H F)) told_now
      ∙ ap (λ m. status_at m (Some top)) is
      ∙ ap (λ b. cond b (Current top) (Behind top top)) (eq-eqb top top refl)
