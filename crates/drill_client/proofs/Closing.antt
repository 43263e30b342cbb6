-- A client at its end.
use Rattle.std.proofs.Common.{◌≡◌, ℕ, ◌≤◌, true, false, List, ◌∷◌, length, Option, Some, refl, subst}
use Rattle.pitch_fields.specs.Limits.{last_sequence}
use Rattle.pitch_model.specs.History.{Entry, Raw, Ticked, adds, can_promise}
use Rattle.pitch_model.specs.Honest.{Honest}
use Rattle.pitch_model.specs.Image.{image}
use Rattle.pitch_model.specs.Status.{status_of}
use Rattle.pitch_model.specs.declared.ask.Ask.{Ask}
use Rattle.pitch_model.specs.declared.ask.Ask.TheVariants.{Spin}
use Rattle.client_core.specs.Tracks.{Tracks, Keeps}
use Rattle.client_core.specs.declared.client.UnitClient.{UnitClient}
use Rattle.drill_client.specs.layers.Ending.{AsksForAll, IsAtEnd}
use Rattle.drill_client.specs.layers.Following.{Follows, imaged_whole}
use Rattle.drill_client.specs.layers.Told.{is_behind, told_all}
use Rattle.drill_client.proofs.Ends.{told_honest, top_told, told_current, told_status, told_below, whole_honest, whole_reach, whole_status}

-- it was told of all, and is not behind
pub at_current : (client : UnitClient) (H : ℕ) (V : List Raw) (E : List Entry) → Honest image V E → Tracks client H (told_all (length V) E) → Keeps client V → is_behind (status_of H (told_all (length V) E)) ≡ false → IsAtEnd client H V
at_current client H V E honest tracks keeps f =
    let is = told_current H V E honest f in
    record {
      history = told_all (length V) E;
      tracks = tracks;
      honest = told_honest H V E honest;
      keeps = keeps;
      status_is = told_status H V E honest is;
      reach_is = is;
    }

-- it was told of all and is behind; then it asks for the image of all
pub at_asking : (ticked : UnitClient) (H : ℕ) (V : List Raw) (heard : List Entry) (ask : Option Ask) (old : UnitClient) (f : Follows old H V heard) → length V ≤ last_sequence
    → ask ≡ Some (Spin (length V)) → Tracks ticked H (Ticked ask ∷ told_all (length V) heard) → Keeps ticked V
    → is_behind (status_of H (told_all (length V) heard)) ≡ true → AsksForAll ticked H V
at_asking ticked H V heard ask old f few is tracks keeps t =
    let E : List Entry = told_all (length V) heard in
    let honest : Honest image V E = told_honest H V heard f.honest in
    record {
      history = Ticked (Some (Spin (length V))) ∷ E;
      tracks = subst (λ (a : Option Ask). Tracks ticked H (Ticked a ∷ E)) is tracks;
      honest = (tt, honest);
      keeps = keeps;
      bytes = f.bytes;
      few = few;
      top_is = top_told H V heard f.honest;
      below = told_below H V heard f.honest t;
      asked = refl;
    }

-- it has the image
pub at_imaged : (old client : UnitClient) (H : ℕ) (V : List Raw) (a : AsksForAll old H V) → can_promise (length V) (adds (image V (length V))) ≡ true
    → Tracks client H (imaged_whole (length V) (adds (image V (length V))) (image V (length V)) a.history) → Keeps client V → IsAtEnd client H V
at_imaged old client H V a can tracks keeps = record {
  history = imaged_whole (length V) (adds (image V (length V))) (image V (length V)) a.history;
  tracks = tracks;
  honest = whole_honest H V a.history a.honest a.below can a.asked a.top_is;
  keeps = keeps;
  status_is = whole_status H V a.history a.honest a.below can a.asked a.top_is;
  reach_is = whole_reach H V a.history a.honest a.below can a.asked a.top_is;
}
