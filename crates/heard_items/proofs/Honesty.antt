-- What an honest history says of what was heard before an item.
use Rattle.std.proofs.Common.{◌≡◌, ℕ, zero, suc, ◌+◌, List, [], ◌∷◌, Option, Some, None, ◌∙◌, subst, arith}
use Rattle.pitch_model.specs.History.{Entry, Raw, Message}
use Rattle.pitch_model.specs.Honest.{message_at, AreVenues, Honest}
use Rattle.heard_items.specs.Heard.{heard, heard_messages}
use Rattle.heard_items.specs.declared.item.Item.{Item}
use Rattle.heard_items.specs.declared.item.Item.TheVariants as item

module _ (Image : List Raw → ℕ → List Raw) (V : List Raw) where
  -- what was heard before messages is honest
  pub honest_before : (first : ℕ) (raws : List Raw) (E : List Entry) → Honest Image V (heard_messages first raws E) → Honest Image V E
  honest_before first [] E h = h
  honest_before first (raw ∷ raws) E h = (honest_before (first + 1) raws (Message first raw ∷ E) h).1

  -- the messages are the venue's
  pub honest_messages : (first : ℕ) (raws : List Raw) (E : List Entry) → Honest Image V (heard_messages first raws E) → AreVenues V first raws
  honest_messages first [] E h i raw at = absurd (none at)
    where
      none : {raw : Raw} → ◌≡◌ {A = Option Raw} None (Some raw) → ⊥
      none e = cc
  honest_messages first (r ∷ raws) E h zero raw at = subst (λ n. message_at V n ≡ Some raw) (omega arith) ((honest_before (first + 1) raws (Message first r ∷ E) h).0 ∙ at)
  honest_messages first (r ∷ raws) E h (suc i) raw at =
      let e : (first + 1) + i ≡ first + suc i = omega arith in
      subst (λ n. message_at V n ≡ Some raw) e (honest_messages (first + 1) raws (Message first r ∷ E) h i raw at)

  -- what was heard before an item is honest
  pub honest_heard : (it : Item) (E : List Entry) → Honest Image V (heard it E) → Honest Image V E
  honest_heard (item.Messages first raws) E h = honest_before first raws.items E h
  honest_heard (item.Next next) E h = h.1
  honest_heard item.Nothing E h = h
  honest_heard item.GrpUp E h = h.1
  honest_heard item.GrpDown E h = h.1
  honest_heard (item.GapReply sequence count status) E h = h.1
  honest_heard item.SpinUp E h = h.1
  honest_heard item.SpinDown E h = h.1
  honest_heard (item.Advertised sequence) E h = h.1
  honest_heard (item.SpinReply sequence orders status) E h = h.1
  honest_heard (item.ImageMessages raws) E h = h.1
  honest_heard (item.SpinFinished sequence) E h = h.1
