-- A server's look-ups are those of a view which is no earlier.
use Rattle.std.proofs.Common.{◌≡◌, ℕ, zero, suc, ◌==◌, ◌≤◌, arith, IfSome, slice_get, Bool, true, false, cond, List, [], ◌∷◌, ◌++◌, length, refl, sym, ap, ◌∙◌, subst, append_assoc, Option, nat_eq}
use Rattle.std.proofs.lemmas.List.{append-nil}
use Rattle.std.proofs.lemmas.Grind.{flat_map-append}
use Rattle.std.specs.List.{list_any}
use Rattle.std.specs.Set.{is_member}
use mathlib.Core.List.{IsPrefix}
use Rattle.gap_store.specs.Look.{View, look}
use Rattle.gap_store.specs.layers.Looking.{IsLater, LooksAt, FindsAt, PacksAt, AnswersLook}
use Rattle.gap_store.specs.layers.Looking.{AnswersPack}
use Rattle.gap_store.specs.declared.found.Found.{Found}
use Rattle.pitch_model.specs.Advertising.{Operation, Accept, Advertise, accepted_at, accepted_by, advertised_by, with_sequence, last_ten, newest_of}
use Rattle.pitch_model.proofs.Advertising.{advertised_accept, advertised_advertise}
use Rattle.spin_server.specs.Served.{Served}
use Rattle.spin_server.specs.layers.Looking.{ServedLater, SeesNewest, SeesServed, LooksUpImage}
use Rattle.spin_server.specs.declared.lookup.Imaged.{Imaged}
use Rattle.shared_unit.specs.layers.Answers.{AnswersImage}
use Rattle.shared_unit.specs.layers.Histories.{kept_at, served_at, then_done}
use Rattle.shared_unit.specs.layers.Moments.{Moment, Answering, Sight, HappensAfter, IsNewest}
use Rattle.shared_unit.specs.layers.Moments.{AreNumbered, history_in}

-- ---- What is seen later
accepted_later : (h r o : List Operation) → h ++ r ≡ o → accepted_by o ≡ accepted_by h ++ accepted_by r
accepted_later h r o is = ap accepted_by (sym is) ∙ flat_map-append accepted_at h r

with_more : (sequences : List ℕ) (n : ℕ) → (others : List ℕ) × (with_sequence sequences n ≡ sequences ++ others)
with_more sequences n = by (is_member nat_eq sequences n)
  where
    by : (b : Bool) → (others : List ℕ) × (cond b sequences (sequences ++ n ∷ []) ≡ sequences ++ others)
    by true = ([], sym (append-nil sequences))
    by false = (n ∷ [], refl)

advertised_one : (h : List Operation) (op : Operation) → (others : List ℕ) × (advertised_by (then_done h op) ≡ advertised_by h ++ others)
advertised_one h (Accept raw) = ([], advertised_accept h raw ∙ sym (append-nil (advertised_by h)))
advertised_one h Advertise = (let more = with_more (advertised_by h) (length (accepted_by h)) in more.0, advertised_advertise h ∙ (with_more (advertised_by h) (length (accepted_by h))).1)

advertised_more : (h r : List Operation) → (others : List ℕ) × (advertised_by (h ++ r) ≡ advertised_by h ++ others)
advertised_more h [] = ([], ap advertised_by (append-nil h) ∙ sym (append-nil (advertised_by h)))
advertised_more h (op ∷ r) =
    let one = advertised_one h op in
    let rest = advertised_more (then_done h op) r in (
      one.0 ++ rest.0,
      ap advertised_by (sym (append_assoc h (op ∷ []) r)) ∙ rest.1 ∙ ap (λ (l : List ℕ). l ++ rest.0) one.1 ∙ append_assoc (advertised_by h) one.0 rest.0,
    )

pub messages_later : (kept : ℕ) (h o : List Operation) → IsPrefix h o → IsLater (kept_at kept h) (kept_at kept o)
messages_later kept h o p = record { more = accepted_by p.0; messages = accepted_later h p.0 o p.1; kept = refl }

pub images_later : (h o : List Operation) → IsPrefix h o → ServedLater (served_at h) (served_at o)
images_later h o p =
    let more = advertised_more h p.0 in
    record { more = accepted_by p.0; messages_are = accepted_later h p.0 o p.1; others = more.0; advertised_are = ap advertised_by (sym p.1) ∙ more.1 }

-- ---- Messages
module _ (kept : ℕ) (h o : List Operation) (v : View) (p : IsPrefix h o) (is : v ≡ kept_at kept h) where
  later : IsLater v (kept_at kept o)
  later = subst (λ (w : View). IsLater w (kept_at kept o)) (sym is) (messages_later kept h o p)

  pub looks_at : (first count : ℕ) (found : Found) (before after : List (List ℕ)) → AnswersLook (kept_at kept o) first count found before after → LooksAt (λ w. w ≡ kept_at kept o) v first count found before after
  looks_at first count found before after answers = record { now = kept_at kept o; later = later; shows = refl; answer = answers.answer; given = answers.given }

  pub finds_at : (first count : ℕ) (found : Found) → found ≡ look (kept_at kept o) first count → FindsAt (λ w. w ≡ kept_at kept o) v first count found
  finds_at first count found answer = record { now = kept_at kept o; later = later; shows = refl; answer = answer }

  pub packs_at : (unit first count : ℕ) (found : Found) (before after : List (List ℕ)) → AnswersPack (kept_at kept o) unit first count found before after → PacksAt (λ w. w ≡ kept_at kept o) v unit first count found before after
  packs_at unit first count found before after answers = record { now = kept_at kept o; later = later; shows = refl; answer = answers.answer; packs = answers.packs }

-- ---- Images
module _ (h o : List Operation) (v : Served) (p : IsPrefix h o) (is : v ≡ served_at h) where
  seen_later : ServedLater v (served_at o)
  seen_later = subst (λ (w : Served). ServedLater w (served_at o)) (sym is) (images_later h o p)

  pub newest_at : (newest : Option ℕ) → newest ≡ newest_of (advertised_by o) → SeesNewest (λ w. w ≡ served_at o) v newest
  newest_at newest answer = record { now = served_at o; later = seen_later; shows = refl; answer = answer }

  pub serves_at : (sequence : ℕ) (served : Bool) → served ≡ list_any (λ n. n == sequence) (last_ten (advertised_by o)) → SeesServed (λ w. w ≡ served_at o) v sequence served
  serves_at sequence served answer = record { now = served_at o; later = seen_later; shows = refl; answer = answer }

  pub image_at : (sequence : ℕ) (imaged : Imaged) (before after : List (List ℕ)) → AnswersImage (served_at o) sequence imaged before after → LooksUpImage (λ w. w ≡ served_at o) v sequence imaged before after
  image_at sequence imaged before after answers = record { now = served_at o; later = seen_later; shows = refl; answer_is = answers.answer_is; given = answers.given }

-- ---- The newest
pub newest_is : (server : ℕ) (seen begun now : List Moment) (published : ℕ) (history : List Operation) → HappensAfter (Answering server) seen begun published → IsPrefix begun now → published ≤ length history → IsPrefix history (history_in now)
    → IsNewest server seen now history
newest_is server seen begun now published history happens later enough done = record {
  between = happens.between;
  begun = subst (λ (l : List Moment). IsPrefix l now) happens.now_is later;
  newest = omega (arith, happens.published_is, enough);
  done = done;
}

-- ---- Lists of servers
numbered_by : (f : ℕ → ℕ) (servers : List Sight) (server : Sight) → ((place : ℕ) → IfSome (slice_get servers place) (λ s. s.number ≡ f place)) → server.number ≡ f (length servers)
    → (place : ℕ) → IfSome (slice_get (servers ++ server ∷ []) place) (λ s. s.number ≡ f place)
numbered_by f [] server all is zero = is
numbered_by f [] server all is (suc place) = tt
numbered_by f (x ∷ xs) server all is zero = all zero
numbered_by f (x ∷ xs) server all is (suc place) = numbered_by (λ p. f (suc p)) xs server (λ p. all (suc p)) is place

-- one server more, whose number is its place
pub numbered_more : (servers : List Sight) (server : Sight) → AreNumbered servers → server.number ≡ length servers → AreNumbered (servers ++ server ∷ [])
numbered_more servers server all is = numbered_by (λ p. p) servers server all is
