-- A session where a connection stands: bytes that come, and what its link says.
use Rattle.std.proofs.Common.{◌≡◌, ℕ, ◌∷◌, ◌++◌, List, Option, Some, None, is_some, refl, sym, ◌∙◌, subst, Result, Ok, Err, OnErr}
use Rattle.pitch_model.specs.History.{Entry}
use Rattle.session_ends.specs.Closing.{Setup}
use Rattle.session_ends.specs.Ending.{Ending}
use Rattle.session_ends.specs.Events.{Event, Fed}
use Rattle.client_core.specs.declared.client.UnitClient.{UnitClient}
use Rattle.client_links.specs.Linking.{Lookups, NoLookup, LinkStands, link_tells}
use Rattle.heard_items.specs.Heard.{heard_all}
use Rattle.client_end.specs.Links.{link_says}
use Rattle.client_end.specs.Sessions.{SessionState, fed_at, place_says}
use Rattle.client_end.specs.Stands.{SessionStands}
use Rattle.client_end.specs.Parts.{LinkIs, ClientHeard}

-- the link was fed, and the client heard what it told
pub fed_some : (H : ℕ) (setup : Setup) (client client' : UnitClient) (session : SessionState) (bytes : List ℕ) (link link' : Ending) → link'.setup ≡ link.setup
    → ((es : List (Event Lookups)) → LinkStands link es → LinkStands link' (Fed bytes NoLookup ∷ es))
    → ((K : ℕ) (es : List (Event Lookups)) (E : List Entry) → LinkStands link es → ClientHeard K client E → ClientHeard K client' (heard_all (link_tells link.setup es bytes) E))
    → SessionStands H setup (Some link) client session → SessionStands H setup (Some link') client' (fed_at setup bytes session.heard session.link)
fed_some H setup client client' session bytes link link' same stands hears has = by session.link has.link_is
  where
    by : (l : Option (List (Event Lookups))) → LinkIs setup (Some link) l → SessionStands H setup (Some link') client' (fed_at setup bytes session.heard l)
    by None is = absurd is
    by (Some es) is = record {
      link_is = (same ∙ is.0, stands es is.1);
      has = subst (λ (m : Setup). ClientHeard H client' (heard_all (link_tells m es bytes) session.heard)) is.0 (hears H es session.heard is.1 has.has);
    }

-- what a link says at an event is what is said where it stands
pub said_some : (setup : Setup) (link : Option (List (Event Lookups))) (place : Option Ending) (l : Ending) (event : Event Lookups) (said said' : List ℕ) → place ≡ Some l
    → ((es : List (Event Lookups)) → LinkStands l es → said' ≡ said ++ link_says l.setup event es) → LinkIs setup place link → said' ≡ said ++ place_says setup event link
said_some setup link place l event said said' there says is = by link (subst (λ (o : Option Ending). LinkIs setup o link) there is)
  where
    by : (k : Option (List (Event Lookups))) → LinkIs setup (Some l) k → said' ≡ said ++ place_says setup event k
    by None is = absurd is
    by (Some es) is = subst (λ (m : Setup). said' ≡ said ++ link_says m event es) is.0 (says es is.1)

-- a link is there where its events are
pub there_is : (setup : Setup) (place : Option Ending) (link : Option (List (Event Lookups))) → LinkIs setup place link → is_some place ≡ is_some link
there_is setup None None is = refl
there_is setup None (Some events) is = absurd is
there_is setup (Some l) None is = absurd is
there_is setup (Some l) (Some events) is = refl

pub none_is : (setup : Setup) (place : Option Ending) → place ≡ None → LinkIs setup place None
none_is setup place none = subst (λ (o : Option Ending). LinkIs setup o None) (sym none) tt

-- what follows of two things that are known of an error
pub on_err_both : {T E P Q R : Type 0} (r : Result T E) → (P → Q → R) → OnErr r P → OnErr r Q → OnErr r R
on_err_both (Ok x) f p q = tt
on_err_both (Err e) f p q = f p q
