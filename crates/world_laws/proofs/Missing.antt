-- What is missing after messages that came in their order, from the next one or an old one on.
use Rattle.std.proofs.Common.{◌≡◌, ℕ, ◌+◌, ◌≤◌, ◌<◌, Bool, true, false, ◌&&◌, not, List, [], ◌∷◌, length, refl, sym, ap, ◌∙◌, arith, inl, inr, nat_lt, Some}
use Rattle.std.proofs.lemmas.Bool.{cases_eq, cases_lt, lt-ltb, le-ltb}
use Rattle.pitch_model.specs.History.{Entry, Raw, Message}
use Rattle.pitch_model.specs.Reach.{is_seen, since_overflow, reach, is_held}
use Rattle.pitch_model.specs.Status.{raised, top_of}
use Rattle.pitch_model.proofs.Draining.{next_drains}
use Rattle.pitch_model.proofs.Entries.{old_leaves}
use Rattle.heard_items.specs.HeardBlocks.{heard_messages}
use Rattle.heard_items.specs.Heard.{is_fresh}
use Rattle.heard_items.proofs.Answered.{messages_raise}

-- ---- Tests
absorbed : (a b : Bool) → (a && not b) ≡ (a && not (a && b))
absorbed true b = refl
absorbed false b = refl

pub fresh_unheld : (H : ℕ) (E : List Entry) (j : ℕ) → is_fresh H E j ≡ (nat_lt (reach H E) j && not (is_held H E j))
fresh_unheld H E j = absorbed (nat_lt (reach H E) j) (is_seen (since_overflow H E) j)

-- a message that is held is not missing
pub held_not_fresh : (H : ℕ) (E : List Entry) (j : ℕ) → is_held H E j ≡ true → is_fresh H E j ≡ false
held_not_fresh H E j held = fresh_unheld H E j ∙ ap (λ (b : Bool). nat_lt (reach H E) j && not b) held ∙ none (nat_lt (reach H E) j)
  where
    none : (a : Bool) → (a && false) ≡ false
    none true = refl
    none false = refl

-- one at or below the reach is not either
pub reached_not_fresh : (H : ℕ) (E : List Entry) (j : ℕ) → j ≤ reach H E → is_fresh H E j ≡ false
reached_not_fresh H E j below = ap (λ (b : Bool). b && not (is_seen (since_overflow H E) j)) (le-ltb (reach H E) j below)

-- any other one is
pub unheld_fresh : (H : ℕ) (E : List Entry) (j : ℕ) → reach H E < j → is_held H E j ≡ false → is_fresh H E j ≡ true
unheld_fresh H E j above held = fresh_unheld H E j ∙ (λ i. lt-ltb (reach H E) j above i && not (held i))

-- ---- One message
module _ (H : ℕ) (E : List Entry) (k : ℕ) (raw : Raw) (one : 1 ≤ H) where
  abbrev F : List Entry
  F = Message k raw ∷ E

  next_missing : k ≡ reach H E + 1 → (j : ℕ) → is_fresh H F j ≡ (nat_lt k j && is_fresh H E j)
  next_missing next j =
      let R = (next_drains H E k raw one next).runs in
      let up = R.up in
      elim (cases_lt (reach H F) j) [
        | inl above ↦
            let new = lt-ltb (reach H F) j above in
            let old = lt-ltb (reach H E) j (omega (arith, above, up, next)) in
            let far = lt-ltb k j (omega (arith, above, up)) in
            let seen = (λ i. sym new i && is_seen (since_overflow H F) j) ∙ R.rest j ∙ (λ i. new i && (old i && is_seen (since_overflow H E) j)) in
            (λ i. new i && not (seen i)) ∙ sym (λ i. far i && (old i && not (is_seen (since_overflow H E) j)))
        | inr below ↦ reached_not_fresh H F j below ∙ sym (elim (cases_lt k j) [
          | inl far ↦ (λ i. lt-ltb k j far i && held_not_fresh H E j (R.run j far below) i)
          | inr near ↦ (λ i. le-ltb k j near i && is_fresh H E j)
        ])
      ]

  old_missing : k ≤ reach H E → (j : ℕ) → is_fresh H F j ≡ (nat_lt k j && is_fresh H E j)
  old_missing old j =
      let L = old_leaves H E k raw one old in
      fresh_unheld H F j ∙ (λ i. nat_lt (L.reach_is i) j && not (L.held_are j i)) ∙ sym (fresh_unheld H E j)
      ∙ elim (cases_lt k j) [
        | inl far ↦ (λ i. sym (lt-ltb k j far) i && is_fresh H E j)
        | inr near ↦ reached_not_fresh H E j (omega (arith, old, near)) ∙ (λ i. sym (le-ltb k j near) i && is_fresh H E j)
      ]

  pub one_missing : k ≤ reach H E + 1 → (j : ℕ) → is_fresh H F j ≡ (nat_lt k j && is_fresh H E j)
  one_missing within = elim (cases_eq k (reach H E + 1)) [
    | inl next ↦ next_missing next
    | inr old ↦ old_missing (omega (arith, within, old))
  ]

-- ---- All of them
pub messages_missing : (H first n : ℕ) (raws : List Raw) (E : List Entry) → 1 ≤ H → first ≤ reach H E + 1 → n + 1 ≡ first + length raws → (j : ℕ) → is_fresh H (heard_messages first raws E) j ≡ (nat_lt n j && is_fresh H E j)
messages_missing H first n [] E one within last j = elim (cases_lt n j) [
  | inl far ↦ (λ i. sym (lt-ltb n j far) i && is_fresh H E j)
  | inr near ↦ reached_not_fresh H E j (omega (arith, within, last, near)) ∙ (λ i. sym (le-ltb n j near) i && is_fresh H E j)
]
messages_missing H first n (raw ∷ raws) E one within last j =
    let up = messages_raise H first (raw ∷ []) E one within in
    messages_missing H (first + 1) n raws (Message first raw ∷ E) one (omega (arith, up)) (omega (arith, last)) j
    ∙ ap (λ (b : Bool). nat_lt n j && b) (one_missing H E first raw one within j)
    ∙ elim (cases_lt n j) [
      | inl far ↦ (λ i. nat_lt n j && (lt-ltb first j (omega (arith, last, far)) i && is_fresh H E j))
      | inr near ↦ (λ i. le-ltb n j near i && (nat_lt first j && is_fresh H E j)) ∙ (λ i. sym (le-ltb n j near) i && is_fresh H E j)
    ]

-- they tell of no message above the top
pub messages_top : (first top : ℕ) (raws : List Raw) (E : List Entry) → top_of E ≡ Some top → first + length raws ≤ top + 1 → top_of (heard_messages first raws E) ≡ Some top
messages_top first top [] E is within = is
messages_top first top (raw ∷ raws) E is within =
    messages_top (first + 1) top raws (Message first raw ∷ E) (ap (raised (first ∷ [])) is ∙ ap Some (omega (arith, within))) (omega (arith, within))
