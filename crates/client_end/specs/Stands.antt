-- When an end stands for all that came to it, and the words of its contracts.
use Rattle.std.specs.Prelude.{◌≡◌, ◌⊎◌, ℕ, Bool, false, List, ◌∷◌, Option, None, Some}
use Rattle.std.specs.Prelude.{is_some, take}
use Rattle.pitch_model.specs.History.{Entry}
use Rattle.session_ends.specs.Closing.{Setup}
use Rattle.session_ends.specs.Ending.{Ending}
use Rattle.session_ends.specs.Events.{Event}
use Rattle.client_core.specs.declared.client.UnitClient.{UnitClient}
use Rattle.client_links.specs.Linking.{Lookups, LinkStands, link_tells}
use Rattle.heard_items.specs.Heard.{heard_all}
use Rattle.client_end.specs.Sessions.{SessionState}
use Rattle.client_end.specs.Came.{Came, EndSetup, EndState, GrpCut, SpinCut, Second, end_after}
use Rattle.client_end.specs.Came.{grp_link_ticks}
use Rattle.client_end.specs.Parts.{ClientHeard, EndIs, LinkIs}
use Rattle.client_end.specs.declared.end.ClientEnd.{ClientEnd}

-- the link has closed
abbrev pub has_closed : Option Ending → Bool
has_closed None = false
has_closed (Some link) = is_some link.closed

-- it heard no more than the first so many items that the link tells of these bytes
abbrev pub HearsInPart : Ending → UnitClient → UnitClient → List ℕ → Type 0
HearsInPart link client client' bytes = (count : ℕ)
    × ((H : ℕ) (es : List (Event Lookups)) (E : List Entry) → LinkStands link es
    → ClientHeard H client E
    → ClientHeard H client' (heard_all (take count (link_tells link.setup es bytes)) E))

-- a client with one of its links
pub record SessionStands (H : ℕ) (setup : Setup) (place : Option Ending) (client : UnitClient)
    (session : SessionState) : Type 0 where
  pub link_is : LinkIs setup place session.link
  pub has : ClientHeard H client session.heard

-- ---- The end
-- an end that was made so stands for all that came to it, the newest first
abbrev pub EndStands : EndSetup → ClientEnd → List Came → Type 0
EndStands s e before = EndIs s e (end_after s before)

-- the same of an end whose links may have failed: they are there where links are
pub record Loosely (s : EndSetup) (e : ClientEnd) (now : EndState) : Type 0 where
  pub unit_is : e.unit ≡ s.unit
  pub account_is : e.account ≡ s.account
  pub has : ClientHeard s.hold e.client now.heard
  pub grp_there : is_some e.grp ≡ is_some now.grp
  pub spin_there : is_some e.spin ≡ is_some now.spin

-- ---- In the words of its contracts
-- P holds of each setup and all that came for which the end stands
abbrev pub OfEnd : ClientEnd → (EndSetup → List Came → Type 0) → Type 0
OfEnd e P = (s : EndSetup) (before : List Came) → EndStands s e before → P s before

-- whatever came before, this came too
abbrev pub Comes : ClientEnd → ClientEnd → Came → Type 0
Comes e e' came = OfEnd e (λ s before. EndStands s e' (came ∷ before))

-- memory ran out at a second: at the link with the proxy, at that with the Spin Server, or as the
-- client asked
abbrev pub Failed : ClientEnd → ClientEnd → Type 0
Failed e e' = OfEnd e (λ s before. Loosely s e' (end_after s before))
    ⊎ (OfEnd e (λ s before. Loosely s e' (grp_link_ticks (end_after s before)))
    ⊎ OfEnd e (λ s before. Loosely s e' (end_after s (Second ∷ before))))

-- both connections are cut, and before that the second came or it did not
abbrev pub LosesBoth : ClientEnd → ClientEnd → Type 0
LosesBoth e e' = OfEnd e (λ s before. EndStands s e' (SpinCut ∷ GrpCut ∷ before))
    ⊎ OfEnd e (λ s before. EndStands s e' (SpinCut ∷ GrpCut ∷ Second ∷ before))

-- it stands for what it stood for
abbrev pub StandsStill : ClientEnd → ClientEnd → Type 0
StandsStill e e' = OfEnd e (λ s before. EndStands s e' before)
