-- What a gap request asked for, heard in order, raises the reach.
use Rattle.std.proofs.Common.{◌≡◌, ℕ, ◌+◌, ◌≤◌, List, [], ◌∷◌, ◌++◌, length, inl, inr, arith, Some}
use Rattle.std.proofs.lemmas.Bool.{cases_eq}
use Rattle.pitch_model.specs.Asking.{ask_of}
use Rattle.pitch_model.specs.declared.ask.Ask.TheVariants.{Gap}
use Rattle.pitch_model.specs.History.{Entry, Raw, Message}
use Rattle.pitch_model.specs.Reach.{reach}
use Rattle.pitch_model.proofs.Rises.{reach_rises}
use Rattle.pitch_model.proofs.Draining.{next_drains}
use Rattle.pitch_model.proofs.Recovering.{gap_is}
use Rattle.heard_items.specs.HeardBlocks.{heard_messages}

-- the next message, or an old one, leaves the reach at its sequence or above
one_raises : (H : ℕ) (E : List Entry) (k : ℕ) (raw : Raw) → 1 ≤ H → k ≤ reach H E + 1 → k ≤ reach H (Message k raw ∷ E)
one_raises H E k raw one within =
    let rise = reach_rises H E (Message k raw) in
    elim (cases_eq k (reach H E + 1)) [
      | inl next ↦ (next_drains H E k raw one next).runs.up
      | inr old ↦ omega (arith, within, old, rise)
    ]

pub messages_raise : (H first : ℕ) (raws : List Raw) (E : List Entry) → 1 ≤ H → first ≤ reach H E + 1 → first + length raws ≤ reach H (heard_messages first raws E) + 1
messages_raise H first [] E one within = omega (arith, within)
messages_raise H first (raw ∷ raws) E one within =
    let up = one_raises H E first raw one within in
    let more = messages_raise H (first + 1) raws (Message first raw ∷ E) one (omega (arith, up)) in
    omega (arith, more)

-- the reach is no lower after more entries
later : (H : ℕ) (more E : List Entry) → reach H E ≤ reach H (more ++ E)
later H [] E = omega arith
later H (x ∷ more) E = let up = later H more E in let rise = reach_rises H (more ++ E) x in omega (arith, up, rise)

-- a request that is answered, whatever came between, raises the reach by what it asked for
pub answer_raises : (H first : ℕ) (raws : List Raw) (E more : List Entry) → 1 ≤ H → ask_of H E ≡ Some (Gap first (length raws)) → reach H E + length raws ≤ reach H (heard_messages first raws (more ++ E))
answer_raises H first raws E more one asked =
    let first_is = (gap_is H E first (length raws) asked).first_is in
    let up = later H more E in
    let all = messages_raise H first raws (more ++ E) one (omega (arith, first_is, up)) in
    omega (arith, first_is, all)
