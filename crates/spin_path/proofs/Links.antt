-- What a link tells, piece by piece, is the beginning of what it would tell of all bytes at once.
use Rattle.std.proofs.Common.{◌≡◌, ℕ, cond, List, [], ◌∷◌, ◌++◌, refl, sym, ap, ◌∙◌, append_assoc, length, drop, Option, Some, None, is_some}
use Rattle.std.proofs.lemmas.List.{append-nil}
use Rattle.heard_items.specs.declared.item.Item.{Item}
use Rattle.session_ends.specs.declared.closed.Closed.{Closed}
use Rattle.session_ends.specs.declared.inbox.Heard.{Heard}
use Rattle.session_ends.specs.declared.role.Role.TheVariants.{SpinLink}
use Rattle.session_ends.specs.Closing.{Setup, closed_of, logged_in}
use Rattle.session_ends.specs.Events.{Event, Fed, Ticked, Asked, Pumped, Told, fed_of}
use Rattle.session_ends.specs.Sending.{new_items}
use Rattle.session_ends.proofs.Ends.{or_parts, still_items}
use Rattle.session_ends.proofs.Inboxes.{items_none}
use Rattle.client_links.specs.Linking.{Lookups, NoLookup, link_setup, link_tells}
use Rattle.client_links.specs.Telling.{tells}
use Rattle.client_links.proofs.Whole.{tells_once}
use Rattle.spin_path.specs.Paths.{link_told_at}

-- the link of a unit
abbrev pub link_of : ℕ → Setup
link_of unit = link_setup SpinLink unit

-- what it tells of bytes that are all fed at once
abbrev pub told_once : ℕ → List ℕ → List Item
told_once u bytes = link_tells (link_of u) [] bytes

abbrev pub once : List ℕ → List (Event Lookups)
once bytes = Fed bytes NoLookup ∷ []

pub told_none : (u : ℕ) → told_once u [] ≡ []
told_none u = ap (λ (xs : List Heard). tells (link_of u) (logged_in {X = Lookups} SpinLink []) (drop (length xs) xs)) items_none

pub told_more : (u : ℕ) (bytes piece : List ℕ) → told_once u (bytes ++ piece) ≡ told_once u bytes ++ link_tells (link_of u) (once bytes) piece
told_more u bytes piece = tells_once (link_of u) [] bytes piece

-- what it told of several pieces
abbrev pub told_over : ℕ → List (Event Lookups) → List Item
told_over u [] = []
told_over u (event ∷ before) = told_over u before ++ link_told_at u event before

pub record Begins (u : ℕ) (ls : List (Event Lookups)) : Type 0 where
  pub later : List Item
  pub are : told_once u (fed_of ls) ≡ told_over u ls ++ later
  pub all : closed_of (link_of u) ls ≡ None → later ≡ []

-- an event at which nothing is fed
still_begins : (u : ℕ) (event : Event Lookups) (ls : List (Event Lookups)) → Begins u ls → link_told_at u event ls ≡ [] → fed_of (event ∷ ls) ≡ fed_of ls → Begins u (event ∷ ls)
still_begins u event ls b none same = record {
  later = b.later;
  are = ap (told_once u) same ∙ b.are ∙ ap (λ (l : List Item). l ++ b.later) (sym (ap (λ (l : List Item). told_over u ls ++ l) none ∙ append-nil (told_over u ls)));
  all = λ on. b.all (or_parts (closed_of (link_of u) ls) _ on).0;
}

fed_begins : (u : ℕ) (bytes : List ℕ) (seen : Lookups) (ls : List (Event Lookups)) → Begins u ls → Begins u (Fed bytes seen ∷ ls)
fed_begins u bytes seen ls b = by (closed_of (link_of u) ls) refl
  where
    F : List ℕ
    F = fed_of ls

    more : List Item
    more = link_tells (link_of u) (once F) bytes

    first : told_once u (F ++ bytes) ≡ (told_over u ls ++ b.later) ++ more
    first = told_more u F bytes ∙ ap (λ (l : List Item). l ++ more) b.are

    here : Option Closed → List Item
    here o = cond (is_some o) [] (tells (link_of u) (logged_in SpinLink ls) (new_items ls bytes))

    by : (o : Option Closed) → closed_of (link_of u) ls ≡ o → Begins u (Fed bytes seen ∷ ls)
    by None is =
        let same : more ≡ link_tells (link_of u) ls bytes = ap here (still_items (link_of u) ls is ∙ sym is) in
        record {
          later = [];
          are = first ∙ ap (λ (l : List Item). (told_over u ls ++ l) ++ more) (b.all is) ∙ ap (λ (l : List Item). l ++ more) (append-nil (told_over u ls))
              ∙ ap (λ (l : List Item). told_over u ls ++ l) same ∙ sym (append-nil (told_over u ls ++ link_tells (link_of u) ls bytes));
          all = λ on. refl;
        }
    by (Some c) is =
        let none : link_tells (link_of u) ls bytes ≡ [] = ap here is in
        record {
          later = b.later ++ more;
          are = first ∙ append_assoc (told_over u ls) b.later more
              ∙ ap (λ (l : List Item). l ++ (b.later ++ more)) (sym (ap (λ (l : List Item). told_over u ls ++ l) none ∙ append-nil (told_over u ls)));
          all = λ on. cc (is, (or_parts (closed_of (link_of u) ls) _ on).0);
        }

pub begins : (u : ℕ) (ls : List (Event Lookups)) → Begins u ls
begins u [] = record { later = []; are = told_none u; all = λ on. refl }
begins u (Fed bytes seen ∷ ls) = fed_begins u bytes seen ls (begins u ls)
begins u (Ticked ∷ ls) = still_begins u Ticked ls (begins u ls) refl refl
begins u (Asked request ∷ ls) = still_begins u (Asked request) ls (begins u ls) refl refl
begins u (Pumped ∷ ls) = still_begins u Pumped ls (begins u ls) refl refl
begins u (Told sequence ∷ ls) = still_begins u (Told sequence) ls (begins u ls) refl refl
