-- What a link tells: the link with the proxy of logins and gap replies alone, and no link of
-- messages with sequences.
use Rattle.std.proofs.Common.{◌≡◌, ℕ, Bool, true, false, ◌||◌, cond, eqb, nat_lt, List, [], ◌∷◌, ◌++◌, length, map, refl, sym, subst, Option, Some, None, is_some, slice_index, Ok, Err, Result}
use Rattle.std.specs.List.{AllByRecursion}
use Rattle.std.proofs.lemmas.Bool.{eqb-true}
use Rattle.pitch_messages.specs.Raw.{kind_of}
use Rattle.pitch_fields.specs.Fields.{number_at}
use Rattle.pitch_messages.specs.Session.{session_reads, session_row_of, session_row_says}
use Rattle.pitch_messages.specs.Table.{reads_by}
use Rattle.pitch_messages.specs.declared.session.SessionMessage.{SessionMessage}
use Rattle.pitch_messages.specs.declared.session.SessionMessage.TheVariants.{Login, LoginReply, GapRequest, GapReply, SpinAvailable, SpinRequest, SpinReply, SpinFinished}
use Rattle.pitch_messages.specs.declared.session.SessionError.{SessionError}
use Rattle.pitch_messages.specs.declared.session.SessionError.TheVariants.{WrongType, Short}
use Rattle.heard_items.specs.declared.item.Item.{Item}
use Rattle.heard_items.specs.declared.item.Item.TheVariants as item
use Rattle.session_ends.specs.Closing.{Setup, closed_of, logged_in}
use Rattle.session_ends.specs.Events.{Event}
use Rattle.session_ends.specs.Saying.{said_by, heard_by}
use Rattle.session_ends.specs.Sending.{new_items}
use Rattle.session_ends.specs.declared.inbox.Heard.{Heard}
use Rattle.session_ends.specs.declared.inbox.Heard.TheVariants as heard
use Rattle.session_ends.specs.declared.role.Role.{Role}
use Rattle.session_ends.specs.declared.role.Role.TheVariants.{GrpServer, SpinServer, GapLink, SpinLink}
use Rattle.session_ends.specs.declared.role.Said.{Said}
use Rattle.session_ends.specs.declared.role.Said.TheVariants.{Skipped, TooShort, Message}
use Rattle.client_links.specs.Linking.{Lookups, link_tells}
use Rattle.client_links.specs.Telling.{without_spare, told_of, told_said, hands_out, other_of, others, run_of, or_items, after_others, tells, until}
use Rattle.client_end.specs.Links.{gap_link}
use Rattle.client_end.specs.layers.Hearing.{IsTold, IsGapTold}
use Rattle.client_end.proofs.HeardItems.{AreTold}

abbrev pub AreGapTold : List Item → Type 0
AreGapTold items = AllByRecursion IsGapTold items

both : (P : Item → Type 0) (xs ys : List Item) → AllByRecursion P xs → AllByRecursion P ys → AllByRecursion P (xs ++ ys)
both P [] ys a b = b
both P (x ∷ xs) ys a b = (a.0, both P xs ys a.1 b)

-- ---- What holds of each item that a link tells
module _ (P : Item → Type 0) (s : Setup) (runs : (raws : List (List ℕ)) → AllByRecursion P (run_of s.role raws)) (said : (h : Heard) → AllByRecursion P (told_said s.role (heard_by s.role h))) where
  after_all : (items : List Heard) → AllByRecursion P (after_others s.role items)
  after_all [] = tt
  after_all (h ∷ items) = by (other_of s.role h) (after_all items)
    where
      by : (o : Option (List ℕ)) → AllByRecursion P (after_others s.role items)
          → AllByRecursion P (or_items o (after_others s.role items) (told_said s.role (heard_by s.role h) ++ (run_of s.role (others s.role items) ++ after_others s.role items)))
      by (Some raw) rest = rest
      by None rest = both P (told_said s.role (heard_by s.role h)) _ (said h) (both P (run_of s.role (others s.role items)) (after_others s.role items) (runs (others s.role items)) rest)

  pub link_all : (before : List (Event Lookups)) (bytes : List ℕ) → AllByRecursion P (link_tells s before bytes)
  link_all before bytes = by (is_some (closed_of s before))
    where
      items : List Heard
      items = until s (logged_in s.role before) (new_items before bytes)

      by : (b : Bool) → AllByRecursion P (cond b [] (tells s (logged_in s.role before) (new_items before bytes)))
      by true = tt
      by false = both P (run_of s.role ([] ++ others s.role items)) (after_others s.role items) (runs ([] ++ others s.role items)) (after_all items)

-- ---- The link with the proxy
reply_told : (status : ℕ) → AreGapTold (told_of false (LoginReply status))
reply_told status = by (eqb status 65)
  where
    by : (b : Bool) → AreGapTold (cond b (item.GrpUp ∷ []) [])
    by true = (tt, tt)
    by false = tt

read_told : (m : SessionMessage) (e : SessionError) → AreGapTold (told_of false m) → (b : Bool) → AreGapTold (told_said GapLink (said_by (cond b (Err e) (Ok m))))
read_told m e is true = tt
read_told m e is false = is

reads : List ℕ → ℕ → Result SessionMessage SessionError
reads raw k = reads_by (λ other. Err (WrongType (kind_of other))) (λ needs has. Err (Short needs has)) session_row_says (session_row_of k) raw

gap_said : (raw : List ℕ) (k : ℕ) (b d : Bool) → eqb k 2 ≡ b → eqb k 4 ≡ d → AreGapTold (told_said GapLink (cond (b || d) (said_by (reads raw k)) Skipped))
unfolding reads
gap_said raw k true d two four =
    subst (λ (n : ℕ). AreGapTold (told_said GapLink (said_by (reads raw n)))) (sym (eqb-true k 2 two)) (read_told (LoginReply (slice_index raw 2)) (Short 3 (length raw)) (reply_told (slice_index raw 2)) (nat_lt (length raw) 3))
gap_said raw k false true two four =
    subst (λ (n : ℕ). AreGapTold (told_said GapLink (said_by (reads raw n)))) (sym (eqb-true k 4 four))
    (read_told (GapReply (slice_index raw 2) (number_at 4 3 raw) (number_at 2 7 raw) (slice_index raw 9)) (Short 10 (length raw)) (tt, tt) (nat_lt (length raw) 10))
gap_said raw k false false two four = tt

gap_heard : (h : Heard) → AreGapTold (told_said GapLink (heard_by GapLink h))
unfolding reads session_reads
gap_heard (heard.Message place raw) = gap_said raw (kind_of raw) (eqb (kind_of raw) 2) (eqb (kind_of raw) 4) refl refl
gap_heard heard.BlockEnd = tt
gap_heard (heard.Broken closed) = tt

pub gap_link_tells : (before : List (Event Lookups)) (bytes : List ℕ) → AreGapTold (link_tells gap_link before bytes)
gap_link_tells before bytes = link_all IsGapTold gap_link (λ raws. tt) gap_heard before bytes

-- ---- Any link
told_message : (spin : Bool) (m : SessionMessage) → AreTold (told_of spin m)
told_message spin (LoginReply status) = by spin (eqb status 65)
  where
    by : (spin b : Bool) → AreTold (cond b ((cond spin item.SpinUp item.GrpUp) ∷ []) [])
    by true true = (tt, tt)
    by false true = (tt, tt)
    by spin false = tt
told_message spin (GapReply unit sequence count status) = (tt, tt)
told_message spin (SpinAvailable sequence) = (tt, tt)
told_message spin (SpinReply sequence orders status) = (tt, tt)
told_message spin (SpinFinished sequence) = (tt, tt)
told_message spin (Login sub user password) = tt
told_message spin (GapRequest unit sequence count) = tt
told_message spin (SpinRequest sequence) = tt

told_run : (role : Role) (raws : List (List ℕ)) → AreTold (run_of role raws)
told_run SpinLink [] = tt
told_run SpinLink (raw ∷ raws) = (tt, tt)
told_run GapLink raws = tt
told_run GrpServer raws = tt
told_run SpinServer raws = tt

told_heard : (role : Role) (said : Said) → AreTold (told_said role said)
told_heard role (Message m) = told_message (hands_out role) m
told_heard role Skipped = tt
told_heard role TooShort = tt

pub link_told : (s : Setup) (before : List (Event Lookups)) (bytes : List ℕ) → AreTold (link_tells s before bytes)
link_told s before bytes = link_all IsTold s (told_run s.role) (λ h. told_heard s.role (heard_by s.role h)) before bytes

-- ---- Whatever room the lists of the items have
pub told_spare : (items : List Item) → AreTold (map without_spare items) → AreTold items
told_spare [] all = tt
told_spare (x ∷ items) all = (one x all.0, told_spare items all.1)
  where
    one : (x : Item) → IsTold (without_spare x) → IsTold x
    one (item.Messages first raws) is = is
    one (item.Next next) is = is
    one item.Nothing is = tt
    one item.GrpUp is = tt
    one item.GrpDown is = tt
    one (item.GapReply sequence count status) is = tt
    one item.SpinUp is = tt
    one item.SpinDown is = tt
    one (item.Advertised sequence) is = tt
    one (item.SpinReply sequence orders status) is = tt
    one (item.ImageMessages raws) is = tt
    one (item.SpinFinished sequence) is = tt
