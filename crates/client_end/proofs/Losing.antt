-- Connections that are cut, whatever their links are.
use Rattle.std.proofs.Common.{◌≡◌, Bool, true, false, cond, List, ◌∷◌, Option, Some, None, is_some, refl, ap, ◌∙◌, subst, inl, inr}
use Rattle.pitch_model.specs.declared.ask.Ask.{Ask}
use Rattle.pitch_model.specs.declared.ask.Ask.TheVariants.{Gap, Spin}
use Rattle.pitch_model.specs.Asking.{ask_of}
use Rattle.pitch_model.specs.History.{Entry, GrpDown}
use Rattle.pitch_model.specs.History as entry
use Rattle.pitch_messages.specs.declared.session.SessionMessage.TheVariants.{GapRequest, SpinRequest}
use Rattle.session_ends.specs.Closing.{Setup, closed_of}
use Rattle.session_ends.specs.Events.{Event, Ticked, Asked}
use Rattle.client_links.specs.Linking.{Lookups}
use Rattle.client_end.specs.Links.{gap_link}
use Rattle.client_end.specs.Sessions.{SessionState, happened, heard_cut, link_happened, link_settled}
use Rattle.client_end.specs.Came.{EndSetup, EndState, GrpCut, SpinCut, Second, ask_sent, client_asks, end_after, end_step, grp_link_ticks}
use Rattle.client_end.specs.Stands.{Failed, Loosely, LosesBoth}
use Rattle.client_end.specs.Parts.{EndIs}
use Rattle.client_end.specs.declared.end.ClientEnd.{ClientEnd}

-- a link that ticked, and then is cut, leaves what one leaves that is cut
cut_after_tick : (setup : Setup) (down : Entry) (event : Event Lookups) (E : List Entry) (link : Option (List (Event Lookups))) → let then : SessionState = link_settled setup down (link_happened event (record { heard = E; link = link })) in
    heard_cut down then.heard then.link ≡ heard_cut down E link
cut_after_tick setup down event E None = refl
cut_after_tick setup down event E (Some es) = by (is_some (closed_of setup (event ∷ es)))
  where
    by : (b : Bool) → let then : SessionState = cond b (record { heard = down ∷ E; link = None }) (record { heard = E; link = Some (event ∷ es) }) in heard_cut down then.heard then.link ≡ down ∷ E
    by true = refl
    by false = refl

pub ticked_and_cut : (s : EndSetup) (now : EndState) → end_step s GrpCut (grp_link_ticks now) ≡ end_step s GrpCut now
ticked_and_cut s now = ap (λ (E : List Entry). record now { heard = E; grp = None }) (cut_after_tick gap_link GrpDown Ticked now.heard now.grp)

-- both are cut once memory ran out
pub both_lost : (e failed e' : ClientEnd) → ((s : EndSetup) (now : EndState) → Loosely s failed now → EndIs s e' (end_step s SpinCut (end_step s GrpCut now))) → Failed e failed → LosesBoth e e'
both_lost e failed e' lost (inl at) = inl (λ s before is. lost s (end_after s before) (at s before is))
both_lost e failed e' lost (inr (inl at)) = inl (λ s before is.
    subst (EndIs s e') (ap (end_step s SpinCut) (ticked_and_cut s (end_after s before))) (lost s (grp_link_ticks (end_after s before)) (at s before is)))
both_lost e failed e' lost (inr (inr at)) = inr (λ s before is. lost s (end_after s (Second ∷ before)) (at s before is))

there_still : (event : Event Lookups) (link : Option (List (Event Lookups))) → is_some link ≡ is_some (happened event link)
there_still event None = refl
there_still event (Some es) = refl

-- what is asked for leaves the links where they are
asked_loosely : (s : EndSetup) (e : ClientEnd) (now : EndState) (ask : Option Ask) → Loosely s e now → Loosely s e (ask_sent s ask now)
asked_loosely s e now None is = is
asked_loosely s e now (Some (Gap first count)) is =
    record { unit_is = is.unit_is; account_is = is.account_is; has = is.has; grp_there = is.grp_there ∙ there_still (Asked (GapRequest s.unit first count)) now.grp; spin_there = is.spin_there }
asked_loosely s e now (Some (Spin sequence)) is =
    record { unit_is = is.unit_is; account_is = is.account_is; has = is.has; grp_there = is.grp_there; spin_there = is.spin_there ∙ there_still (Asked (SpinRequest sequence)) now.spin }

pub asks_loosely : (s : EndSetup) (e : ClientEnd) (now : EndState) (ask : Option Ask) → ask ≡ ask_of s.hold now.heard → Loosely s e (record now { heard = entry.Ticked ask ∷ now.heard }) → Loosely s e (client_asks s now)
asks_loosely s e now ask is has =
    subst (λ (a : Option Ask). Loosely s e (ask_sent s a (record now { heard = entry.Ticked a ∷ now.heard }))) is (asked_loosely s e (record now { heard = entry.Ticked ask ∷ now.heard }) ask has)
