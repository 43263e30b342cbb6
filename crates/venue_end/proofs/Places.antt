-- A session at whose server something happens.
use Rattle.std.proofs.Common.{◌≡◌, ℕ, List, ◌∷◌, ◌++◌, length, drop, ap, ◌∙◌, arith, length-append, Result, Ok, Err, OnOk}
use Rattle.std.proofs.lemmas.List.{drop-append-le}
use Rattle.session_ends.specs.Events.{Event}
use Rattle.venue_end.specs.Sessions.{Session, happens_at}
use Rattle.venue_end.specs.Stands.{PlaceIs}
use Rattle.venue_end.specs.declared.setup.VenueSetup.{VenueSetup}
use Rattle.venue_end.specs.declared.table.Place.{Place}

-- what the server says by it waits behind what waited
pub happens_so : {S X : Type 0} (is_server : S → VenueSetup → List (Event X) → Type 0) (s : VenueSetup) (says : Event X → List (Event X) → List ℕ) (event : Event X) (old new : Place S) (session : Session X)
    → PlaceIs is_server s old session → new.id ≡ old.id → new.put ≡ old.put → is_server new.server s (event ∷ session.happened) → new.said.items ≡ old.said.items ++ says event session.happened
    → PlaceIs is_server s new (happens_at says event session)
happens_so is_server s says event old new session is numbered put stands said =
    let more : List ℕ = says event session.happened in
    record {
      id_is = numbered ∙ is.id_is;
      server = stands;
      within = (let long = ap length said ∙ length-append old.said.items more in let within = is.within in omega (arith, put, within, long));
      waits = ap (λ (n : ℕ). drop n new.said.items) put ∙ ap (drop old.put) said ∙ drop-append-le old.put old.said.items more is.within ∙ ap (λ (l : List ℕ). l ++ more) is.waits;
    }

-- what follows of two things that are known of an answer
pub on_ok_both : {T E P Q R : Type 0} (r : Result T E) → (P → Q → R) → OnOk r P → OnOk r Q → OnOk r R
on_ok_both (Ok x) f p q = f p q
on_ok_both (Err e) f p q = tt
