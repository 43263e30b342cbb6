-- What a line prints.
use Rattle.std.proofs.Common.{◌≡◌, ◌≤◌, ℕ, List, ◌∷◌, ◌++◌, length, length-take, take, drop, refl, sym, ap, ◌∙◌, arith, append_assoc}
use Rattle.std.proofs.lemmas.List.{take_at, take-append-drop, take-append-le}
use Rattle.pitch_text.specs.declared.verb.Verb.{Verb}
use Rattle.pitch_text.specs.declared.verb.Verb.TheVariants as verbs
use Rattle.world_model.specs.Printed.{printed, printed_line, shown_state, shown_at, verb_text}
use Rattle.world_model.specs.State.{State}
use Rattle.world_model.specs.Verbs.{next_state, state_of}
use Rattle.world_model.specs.declared.limits.Limits.{Limits}
use Rattle.world_model.specs.declared.outcome.Printed.{Printed}

-- ---- Prefixes

-- a text that begins as one that begins as a third
pub behind_on : (old mid new : List ℕ) → take (length mid) new ≡ mid → take (length old) mid ≡ old → take (length old) new ≡ old
behind_on old mid new later first =
    let shown = ap (λ (l : List ℕ). length l) first in
    let le : length old ≤ length mid = omega (arith, shown, length-take (length old) mid) in
    ap (take (length old)) (sym (take-append-drop (length mid) new) ∙ ap (λ (t : List ℕ). t ++ drop (length mid) new) later) ∙ take-append-le (length old) mid (drop (length mid) new) le ∙ first

pub behind_of : (old new text : List ℕ) → new ≡ old ++ text → take (length old) new ≡ old
behind_of old new text is = ap (take (length old)) is ∙ take_at old text (length old) refl

-- ---- The printed line

-- what `show` prints after its line is the same before it and after it
shown_same : (unit : ℕ) (limits : Limits) (verb : Verb) (s : State) → shown_at unit limits verb (next_state unit limits verb s) ≡ shown_at unit limits verb s
unfolding shown_state
shown_same unit limits verbs.Show s = refl
shown_same unit limits (verbs.Command c) s = refl
shown_same unit limits (verbs.Setup hold kept second minute day) s = refl
shown_same unit limits verbs.Flush s = refl
shown_same unit limits verbs.Beat s = refl
shown_same unit limits (verbs.Deliver line number) s = refl
shown_same unit limits (verbs.Rest line) s = refl
shown_same unit limits (verbs.Connect session) s = refl
shown_same unit limits (verbs.Cut session) s = refl
shown_same unit limits (verbs.Up session bytes) s = refl
shown_same unit limits (verbs.Down session bytes) s = refl
shown_same unit limits verbs.Advertise s = refl
shown_same unit limits verbs.Tick s = refl
shown_same unit limits (verbs.Quote symbol) s = refl

pub text_is : (line unit : ℕ) (limits : Limits) (verb : Verb) (done : List Verb) (p : Printed) (old middle new : List ℕ) → p ≡ printed unit limits verb (state_of unit limits done)
    → middle ≡ old ++ printed_line line unit verb p → new ≡ middle ++ shown_at unit limits verb (state_of unit limits (verb ∷ done)) → new ≡ old ++ verb_text line unit limits verb (state_of unit limits done)
text_is line unit limits verb done p old middle new is first second =
    let s : State = state_of unit limits done in
    second ∙ ap (λ (t : List ℕ). t ++ shown_at unit limits verb (next_state unit limits verb s)) first
    ∙ append_assoc old (printed_line line unit verb p) (shown_at unit limits verb (next_state unit limits verb s))
    ∙ ap (λ (q : Printed). old ++ (printed_line line unit verb q ++ shown_at unit limits verb (next_state unit limits verb s))) is
    ∙ ap (λ (t : List ℕ). old ++ (printed_line line unit verb (printed unit limits verb s) ++ t)) (shown_same unit limits verb s)
