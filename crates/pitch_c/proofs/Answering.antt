-- Which answer is given.
use Rattle.std.proofs.Common.{◌≡◌, ◌≤◌, ◌<◌, ◌∙◌, ℕ, true, false, List, Option, None, Some, Ok, Err, inl, inr, slice_get, refl, ap, arith}
use Rattle.std.proofs.lemmas.Bool.Decides.{nat_tests}
use Rattle.std.specs.Option.{option_flatten, IsSome}
use Rattle.pitch_fields.specs.Limits.{most_held}
use Rattle.unit_packets.specs.Cutting.{is_truncated}
use Rattle.unit_packets.specs.Judging.{judge}
use Rattle.unit_packets.specs.declared.header.Header.{Header}
use Rattle.unit_packets.specs.declared.header.BlockError.{BlockError}
use Rattle.client_core.specs.declared.client.UnitClient.{UnitClient}
use Rattle.unit_clients.specs.Clients.{Units, client_of}
use Rattle.pitch_c.specs.Answers.{AnswersQuoted, hold_code, judged_code, client_code}

pub none_of : {X : Type 0} (o : Option X) → (IsSome o → ⊥) → o ≡ None
none_of None none = refl
none_of (Some x) none = absurd (none refl)

pub good_hold : (hold : ℕ) → 1 ≤ hold → hold ≤ most_held → hold_code hold ≡ 0
good_hold hold some few = grind (arith, nat_tests)

pub no_hold : (hold : ℕ) → hold ≡ 0 → hold_code hold ≡ 4
no_hold hold none = grind (arith, nat_tests)

pub long_hold : (hold : ℕ) → most_held < hold → hold_code hold ≡ 4
long_hold hold many = grind (arith, nat_tests)

pub client_is : (units : Units) (unit : ℕ) (client : UnitClient) → slice_get units.places unit ≡ Some (Some client) → client_code (client_of units unit) ≡ 0
client_is units unit client at = ap (λ (o : Option (Option UnitClient)). client_code (option_flatten o)) at

pub no_client_is : (units : Units) (unit : ℕ) → client_of units unit ≡ None → client_code (client_of units unit) ≡ 7
no_client_is units unit none = ap client_code none

pub judged_well : (bytes : List ℕ) (header : Header) → judge bytes ≡ Ok header → judged_code (judge bytes) ≡ 0
judged_well bytes header is = ap judged_code is

pub judged_cut : (bytes : List ℕ) (error : BlockError) → judge bytes ≡ Err error → is_truncated error ≡ true → judged_code (judge bytes) ≡ 5
judged_cut bytes error is cut = ap judged_code is ∙ rw cut refl

pub judged_bad : (bytes : List ℕ) (error : BlockError) → judge bytes ≡ Err error → is_truncated error ≡ false → judged_code (judge bytes) ≡ 6
judged_bad bytes error is whole = ap judged_code is ∙ rw whole refl

-- of the answers of a call that hears a block, the others are 0 and 13
pub wants_memory : (n : ℕ) → AnswersQuoted 0 n → 1 ≤ n → (n ≡ 13 → ⊥) → n ≡ 3
wants_memory n answers low told = elim answers [
  | inl answered ↦ elim answered [
    | inl ok ↦ absurd (omega arith)
    | inr memory ↦ memory.1
  ]
  | inr untold ↦ absurd (told untold.1)
]
