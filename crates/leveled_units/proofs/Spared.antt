-- What units have to spare where the place of one was lent.
use Rattle.std.proofs.Common.{◌≡◌, ◌≢◌, ◌≤◌, ℕ, zero, suc, inl, inr, List, [], ◌∷◌, refl, sym, ap, subst, arith, Option, Some, None, slice_get}
use Rattle.std.proofs.Math.ListN.{set}
use Rattle.std.proofs.lemmas.Bool.{cases_eq}
use Rattle.std.specs.Option.{IsSomeAnd, option_flatten}
use Rattle.client_core.specs.Client.{spare_of}
use Rattle.client_core.specs.declared.client.UnitClient.{UnitClient}
use Rattle.unit_clients.specs.Clients.{Units, IsSlotAsBefore}
use Rattle.unit_clients.specs.Room.{HaveSpare}
use Rattle.unit_clients.specs.Tables.{with_place}
use Rattle.unit_clients.proofs.Hearing.{client_at, client_put}
use Rattle.leveled_units.specs.Hearing.{OthersStay, KeepSpare}

-- what stands at another place of a list in which one element was set
set_other : {X : Type 0} (xs : List X) (i q : ℕ) (y : X) → q ≢ i → slice_get (set xs i y) q ≡ slice_get xs q
set_other [] i q y apart = refl
set_other (x ∷ xs) zero zero y apart = absurd (apart refl)
set_other (x ∷ xs) zero (suc q) y apart = refl
set_other (x ∷ xs) (suc i) zero y apart = refl
set_other (x ∷ xs) (suc i) (suc q) y apart = set_other xs i q y (λ same. apart (ap suc same))

pub others_stay : (units : Units) (u : ℕ) (slot : Option UnitClient) → OthersStay units (with_place units u slot) u
others_stay units u slot other apart = ap option_flatten (set_other units.places u other slot apart)

-- a client that is as before has what it had to spare
abbrev Spares : ℕ → Option UnitClient → Type 0
Spares messages slot = IsSomeAnd slot (λ client. messages ≤ spare_of client)

still_spares : (messages : ℕ) (was slot : Option UnitClient) → IsSlotAsBefore was slot → Spares messages was → Spares messages slot
still_spares messages None slot same spare = absurd spare
still_spares messages (Some client) None same spare = absurd same
still_spares messages (Some client) (Some client') same spare =
    let more = same.spare in
    omega (arith, more, spare)

pub spare_kept : (units : Units) (u : ℕ) (was slot : Option UnitClient) → slice_get units.places u ≡ Some was → IsSlotAsBefore was slot → KeepSpare units (with_place units u slot)
spare_kept units u was slot there same unit messages spare = elim (cases_eq unit u) [
  | inl here ↦
      subst (λ (n : ℕ). HaveSpare (with_place units u slot) n messages) (sym here)
      (subst (Spares messages) (sym (client_put units u was slot there))
      (still_spares messages was slot same (subst (Spares messages) (client_at units u was there) (subst (λ (n : ℕ). HaveSpare units n messages) here spare))))
  | inr apart ↦ subst (Spares messages) (sym (others_stay units u slot unit apart)) spare
]
