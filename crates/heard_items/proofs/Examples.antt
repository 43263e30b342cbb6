-- Worked examples, computed by the definitions.
use Rattle.std.proofs.Common.{◌≡◌, ◌≢◌, ℕ, true, false, List, [], ◌∷◌, reverse, inl, inr, refl, sym, ◌∙◌, subst, arith, Some}
use Rattle.std.specs.List.{AllByRecursion}
use Rattle.std.proofs.lemmas.Bool.{cases_eq}
use Rattle.unit_packets.specs.Blocks.{Block}
use Rattle.pitch_model.specs.History.{Entry, Message, SpinReply, SpinFinished, Ticked}
use Rattle.pitch_model.specs.Honest.{Honest}
use Rattle.pitch_model.specs.Image.{image}
use Rattle.pitch_model.specs.declared.ask.Ask.TheVariants.{Spin}
use Rattle.pitch_model.specs.Reach.{reach_of, held_count}
use Rattle.pitch_model.specs.Status.{status_of}
use Rattle.pitch_model.specs.declared.status.Status.TheVariants.{Current}
use Rattle.pitch_model.proofs.Examples.{clock, order, deletion}
use Rattle.heard_items.specs.Heard.{is_fresh, is_accepted, heard_block}
use Rattle.heard_items.specs.Changes.{image_end_at}
use Rattle.heard_items.specs.Datagrams.{block_messages}
use Rattle.heard_items.specs.declared.change.ImageEnd.TheVariants.{Stale, Taken, Bad}
use Rattle.heard_items.specs.Units.{unit_history, AllHonest}
use Rattle.heard_items.proofs.Units.{history_other}

-- a message, whose bytes do not matter
abbrev message : ℕ → Entry
message k = Message k []

-- ---- A stream
-- a clock, an order, a heartbeat that tells of 3, and 3, which deletes the order
abbrev pub block : ℕ → List (List ℕ) → Block
block sequence raws = record { unit = 1; sequence = sequence; raws = raws }

abbrev pub stream : List Block
stream = block 1 (clock ∷ []) ∷ block 2 (order ∷ []) ∷ block 4 [] ∷ block 3 (deletion ∷ []) ∷ []

abbrev pub venue : ℕ → List (List ℕ)
venue unit = clock ∷ order ∷ deletion ∷ []

-- blocks of unit 1 alone tell the others nothing, so they are honest where unit 1 hears the venue's
-- messages
others_hear_nothing : (unit : ℕ) (before : List Block) → 1 ≢ unit → AllByRecursion (λ block. block.unit ≡ 1) before → unit_history unit before ≡ []
others_hear_nothing unit [] other all = refl
others_hear_nothing unit (block ∷ before) other all = history_other unit block before (λ e. other (sym all.0 ∙ e)) ∙ others_hear_nothing unit before other all.1

all_honest : (before : List Block) → AllByRecursion (λ block. block.unit ≡ 1) before → Honest image (venue 1) (unit_history 1 before) → AllHonest image venue before
all_honest before all honest unit = elim (cases_eq 1 unit) [
  | inl one ↦ subst (λ (u : ℕ). Honest image (venue u) (unit_history u before)) one honest
  | inr other ↦ subst (Honest image (venue unit)) (sym (others_hear_nothing unit before other all)) tt
]

-- the messages in their order, and a heartbeat that tells of the last one before it comes
pub stream_is_honest : AllHonest image venue (reverse stream)
stream_is_honest = all_honest (reverse stream) (refl, (refl, (refl, (refl, tt)))) (refl, (omega arith, (refl, (refl, tt))))

-- the second message comes last, and fills the gap
abbrev late : List Block
late = block 1 (clock ∷ []) ∷ block 3 (deletion ∷ []) ∷ block 2 (order ∷ []) ∷ []

late_is_honest : AllHonest image venue (reverse late)
late_is_honest = all_honest (reverse late) (refl, (refl, (refl, tt))) (refl, (refl, (refl, tt)))

late_is_current : status_of 4096 (unit_history 1 (reverse late)) ≡ Current 3
unfolding reach_of held_count
late_is_current = refl

-- ---- Items
an_image_of_the_reach_is_stale : image_end_at 4 ((4, []) ∷ []) [] ≡ Stale
an_image_of_the_reach_is_stale = refl

an_image_above_it_is_taken : image_end_at 3 ((4, []) ∷ []) [] ≡ Taken
an_image_above_it_is_taken = refl

nothing_is_fresh_at_the_reach : is_fresh 4096 (SpinFinished 4 ∷ SpinReply 4 0 true ∷ Ticked (Some (Spin 4)) ∷ []) 4 ≡ false
unfolding reach_of held_count
nothing_is_fresh_at_the_reach = refl

a_is_accepted : is_accepted 65 ≡ true
a_is_accepted = refl

no_other_is : is_accepted 66 ≡ false
no_other_is = refl

-- a bad image is told with all its orders
all_orders_of_a_bad_image_are_told : image_end_at 3 [] ((1, order ∷ order ∷ order ∷ []) ∷ []) ≡ Bad 1 3
all_orders_of_a_bad_image_are_told = refl

a_held_message_is_not_fresh : is_fresh 4096 (message 3 ∷ message 1 ∷ []) 3 ≡ false
unfolding reach_of held_count
a_held_message_is_not_fresh = refl

the_missing_one_is : is_fresh 4096 (message 3 ∷ message 1 ∷ []) 2 ≡ true
unfolding reach_of held_count
the_missing_one_is = refl

-- ---- Blocks without sequences
nothing_is_heard_of_them : heard_block (block 0 (clock ∷ [])) [] ≡ []
nothing_is_heard_of_them = refl

nor_counted : block_messages (block 0 (clock ∷ [])) ≡ 0
nor_counted = refl
