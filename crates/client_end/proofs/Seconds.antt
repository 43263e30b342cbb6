-- A second that passes at an end.
use Rattle.std.proofs.Common.{◌≡◌, ℕ, ◌∷◌, ◌++◌, List, Option, ap, ◌∙◌, subst}
use Rattle.std.proofs.lemmas.List.{append_assoc}
use Rattle.pitch_model.specs.declared.ask.Ask.{Ask}
use Rattle.pitch_model.specs.Asking.{ask_of}
use Rattle.pitch_model.specs.History.{Entry, Raw, Ticked}
use Rattle.session_ends.specs.Ending.{Ending}
use Rattle.client_core.specs.Tracks.{Tracks, Keeps}
use Rattle.client_core.specs.declared.client.UnitClient.{UnitClient}
use Rattle.client_core.proofs.Venues.{venue_by}
use Rattle.client_end.specs.Parts.{PartsAre, ClientHeard}
use Rattle.client_end.specs.Came.{EndSetup, EndState, ask_sent, client_asks}

-- the client ticked
pub ticked : (H : ℕ) (client client' : UnitClient) (ask : Option Ask) (E : List Entry) → ((K : ℕ) (F : List Entry) → Tracks client K F → Tracks client' K (Ticked ask ∷ F)) → ((V : List Raw) → Keeps client V → Keeps client' V)
    → ClientHeard H client E → ClientHeard H client' (Ticked ask ∷ E)
ticked H client client' ask E tracks keeps has = record {
  tracks = tracks H E has.tracks;
  keeps = λ V v. keeps V (has.keeps V (venue_by V (Ticked ask ∷ E) E (λ Image h. h.1) v));
}

-- what it asks is what the definition asks
pub asks_so : (s : EndSetup) (client : UnitClient) (grp spin : Option Ending) (now : EndState) (ask : Option Ask) → ask ≡ ask_of s.hold now.heard
    → PartsAre s client grp spin (ask_sent s ask (record now { heard = Ticked ask ∷ now.heard })) → PartsAre s client grp spin (client_asks s now)
asks_so s client grp spin now ask is has = subst (λ (a : Option Ask). PartsAre s client grp spin (ask_sent s a (record now { heard = Ticked a ∷ now.heard }))) is has

-- two things were said, one after the other
pub said_twice : (a b c x y z : List ℕ) → b ≡ a ++ x → c ≡ b ++ y → y ≡ z → c ≡ a ++ (x ++ z)
said_twice a b c x y z one two same = two ∙ ap (λ (l : List ℕ). l ++ y) one ∙ append_assoc a x y ∙ ap (λ (l : List ℕ). a ++ (x ++ l)) same
