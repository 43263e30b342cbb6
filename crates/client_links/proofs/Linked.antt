-- A link over what happens to it.
use Rattle.std.proofs.Common.{◌≡◌, ℕ, Bool, cond, ◌||◌, List, [], ◌∷◌, ◌++◌, refl, sym, ap, ◌∙◌, subst, Option, Some, None, is_some, MatchOption}
use Rattle.std.proofs.lemmas.List.{append-nil}
use Rattle.heard_items.specs.declared.item.Item.{Item}
use Rattle.session_ends.specs.declared.closed.Closed.{Closed}
use Rattle.session_ends.specs.declared.inbox.Heard.{Heard}
use Rattle.session_ends.specs.declared.role.Role.{Role}
use Rattle.session_ends.specs.Closing.{Setup, cause_of, logged_in, logs_in}
use Rattle.session_ends.specs.Ending.{Ending, EndKnows, known_of}
use Rattle.session_ends.specs.layers.Driving.{At, Drives, HearsPiece}
use Rattle.session_ends.specs.layers.Ticking.{nothing_known, known_ticked}
use Rattle.session_ends.specs.Events.{Event, Fed, Ticked}
use Rattle.session_ends.specs.Sending.{new_items}
use Rattle.session_ends.proofs.Ends.{Takes, takes, fed_end, shut_end, known_none}
use Rattle.client_links.specs.Linking.{Lookups, NoLookup, link_sends, link_tells, LinkStands}
use Rattle.client_links.specs.Telling.{run_of, tells_on, tells, until}
use Rattle.client_links.specs.layers.Answering.{Tells}

-- ---- Messages
told_last : (role : Role) (told : List Item) (run : List (List ℕ)) → told ++ run_of role run ≡ told ++ tells_on role run []
told_last role told run = ap (λ (l : List Item). told ++ l) (sym (append-nil (run_of role (run ++ [])) ∙ ap (run_of role) (append-nil run)))

-- nothing is sent, and all that is told up to the message that closes the link was told before the run
tells_all : {D L : Type 0} (told : D → List Item) (run : D → List (List ℕ)) (s : Setup) (logged : Bool) (items : List Heard) (from to : At D L) → Drives (Tells told run) s logged items from to
    → (to.said ≡ from.said) × (told to.desk ++ run_of s.role (run to.desk) ≡ told from.desk ++ tells_on s.role (run from.desk) (until s logged items))
tells_all {D} {L} told run s logged [] from to d =
    (ap (λ (x : At D L). x.said) d, ap (λ (x : At D L). told x.desk ++ run_of s.role (run x.desk)) d ∙ told_last s.role (told from.desk) (run from.desk))
tells_all {D} {L} told run s logged (item ∷ items) from to d = by (cause_of s logged item) d.1.1 (λ r. tells_all told run s (logged || logs_in s.role item) items d.0 to r)
  where
    by : (c : Option Closed) → MatchOption c (Drives (Tells told run) s (logged || logs_in s.role item) items d.0 to) (λ closed. to ≡ d.0)
        → (Drives (Tells told run) s (logged || logs_in s.role item) items d.0 to
        → (to.said ≡ d.0.said) × (told to.desk ++ run_of s.role (run to.desk) ≡ told d.0.desk ++ tells_on s.role (run d.0.desk) (until s (logged || logs_in s.role item) items)))
        → (to.said ≡ from.said) × (told to.desk ++ run_of s.role (run to.desk) ≡ told from.desk ++ tells_on s.role (run from.desk) (item ∷ cond (is_some c) [] (until s (logged || logs_in s.role item) items)))
    by None m go = let t = go m in (t.0 ∙ d.1.0.said, t.1 ∙ d.1.0.tells (until s (logged || logs_in s.role item) items))
    by (Some closed) m go = (
      ap (λ (x : At D L). x.said) m ∙ d.1.0.said,
      ap (λ (x : At D L). told x.desk ++ run_of s.role (run x.desk)) m ∙ told_last s.role (told d.0.desk) (run d.0.desk) ∙ d.1.0.tells [],
    )

-- ---- Events
pub stands_none : (v : Ending) (role : Role) → v.setup.role ≡ role → EndKnows v (nothing_known role) → LinkStands v []
stands_none v role same is = subst (EndKnows v) (ap nothing_known (sym same) ∙ sym (known_none (link_sends v.setup) v.setup)) is

pub stands_ticked : (old new : Ending) (es : List (Event Lookups)) → new.setup ≡ old.setup → EndKnows new (known_ticked (known_of (link_sends old.setup) old.setup es)) → LinkStands new (Ticked ∷ es)
stands_ticked old new es same is = subst (λ (s : Setup). EndKnows new (known_of (link_sends s) s (Ticked ∷ es))) (sym same) is

-- a piece was heard while the link was open
pub link_fed : {D L : Type 0} (told : D → List Item) (run : D → List (List ℕ)) (es : List (Event Lookups)) (piece said : List ℕ) (old new : Ending) (from to : At D L) → old.closed ≡ None → LinkStands old es
    → from.said ≡ [] → to.said ≡ said → told from.desk ≡ [] → run from.desk ≡ [] → HearsPiece (Tells told run) old new piece said from to
    → LinkStands new (Fed piece NoLookup ∷ es) × (told to.desk ++ run_of old.setup.role (run to.desk) ≡ link_tells old.setup es piece)
link_fed told run es piece said old new from to still stands none_said said_is none_told none_run w =
    let s : Setup = old.setup in
    let t : Takes s es piece old.logged new.inbox w.items = takes (link_sends s) s es piece NoLookup old new.inbox [] w.items still stands refl w.takes in
    let all = tells_all told run s old.logged w.items from to w.drives in (
      subst (λ (x : Setup). EndKnows new (known_of (link_sends x) x (Fed piece NoLookup ∷ es))) (sym w.did.setup_is)
          (fed_end (link_sends s) es piece NoLookup old new w.items said still stands t w.did (sym said_is ∙ all.0 ∙ none_said)),
      all.1 ∙ ap (λ (l : List Item). l ++ tells_on s.role (run from.desk) (until s old.logged w.items)) none_told
          ∙ ap (λ (r : List (List ℕ)). tells_on s.role r (until s old.logged w.items)) none_run
          ∙ ap (λ (b : Bool). tells s b w.items) t.logged_is
          ∙ ap (λ (l : List Heard). tells s (logged_in s.role es) l) (sym t.new_is)
          ∙ ap (λ (o : Option Closed). cond (is_some o) [] (tells s (logged_in s.role es) (new_items es piece))) (sym t.open_is),
    )

-- a link that was closed stays as it was, and tells nothing
pub shut_stands : (v : Ending) (c : Closed) (event : Event Lookups) (es : List (Event Lookups)) → v.closed ≡ Some c → LinkStands v es → LinkStands v (event ∷ es)
shut_stands v c event es some stands = shut_end (link_sends v.setup) v.setup es event v c some stands

pub shut_tells : (v : Ending) (c : Closed) (es : List (Event Lookups)) (piece : List ℕ) → v.closed ≡ Some c → LinkStands v es → [] ≡ link_tells v.setup es piece
shut_tells v c es piece some stands = ap (λ (o : Option Closed). cond (is_some o) [] (tells v.setup (logged_in v.setup.role es) (new_items es piece))) (sym some ∙ stands.closed_is)
