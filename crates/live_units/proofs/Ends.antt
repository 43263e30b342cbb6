-- The End of Session messages that a unit's client heard, and the lowest of them.
use Rattle.std.proofs.Common.{◌≡◌, ℕ, zero, suc, ◌+◌, Bool, true, false, ◌&&◌, ◌||◌, cond, List, [], ◌∷◌, min, take, refl, sym, ap, ◌∙◌, Option, None, Some, is_some, nat_le, arith, true≢false}
use Rattle.std.specs.List.{list_any}
use Rattle.std.proofs.lemmas.Bool.Decides.{nat_tests}
use Rattle.pitch_model.specs.Asking.{ask_of}
use Rattle.pitch_model.specs.declared.ask.Ask.{Ask}
use Rattle.pitch_model.specs.declared.ask.Ask.TheVariants.{Gap, Spin}
use Rattle.pitch_model.specs.History.{Entry, Raw, Message, Next, GrpUp, GrpDown, GapReply, SpinUp, SpinDown, Advertised, SpinReply, ImageMessages, SpinFinished, Ticked}
use Rattle.pitch_model.specs.Honest.{Honest}
use Rattle.pitch_model.specs.Reach.{reach}
use Rattle.heard_items.specs.Heard.{heard, heard_messages, heard_all}
use Rattle.heard_items.specs.declared.item.Item.{Item}
use Rattle.heard_items.specs.declared.item.Item.TheVariants as item
use Rattle.session_ends.specs.Closing.{Setup, closed_of}
use Rattle.session_ends.specs.Events.{Event}
use Rattle.session_ends.specs.Events as event
use Rattle.client_links.specs.Linking.{Lookups, link_tells}
use Rattle.client_end.specs.Came.{Came, EndSetup, EndState, Heard, GrpMade, GrpTook, GrpCut, GrpLost, SpinMade, SpinTook, SpinCut, SpinLost, Second, ask_sent, both_links_tick, end_after, end_history, grp_link_ticks}
use Rattle.client_end.specs.layers.Hearing.{IsTold}
use Rattle.client_end.specs.Links.{gap_link, spin_link}
use Rattle.client_end.specs.Sessions.{SessionState, fed_at, happened, heard_cut, heard_in_part, link_took, link_lost, settled_at}
use Rattle.client_end.proofs.HeardItems.{AreTold}
use Rattle.client_end.proofs.LinkItems.{link_told}
use Rattle.live_units.specs.Coming.{has_unit, history_at}
use Rattle.live_units.specs.Ended.{ends_of, is_end, is_ended}
use Rattle.live_units.specs.layers.Laws.{EndsAreVenues, HasEndWithin}
use Rattle.live_units.specs.LiveText.{is_block}
use Rattle.live_units.specs.Standing.{lower_of, lowest}

-- ---- What comes by a session is no message of a line
told_ends : (x : Item) (E : List Entry) → IsTold x → ends_of (heard x E) ≡ ends_of E
told_ends (item.Messages first raws) E is = absurd is
told_ends (item.Next next) E is = absurd is
told_ends item.Nothing E is = refl
told_ends item.GrpUp E is = refl
told_ends item.GrpDown E is = refl
told_ends (item.GapReply sequence count status) E is = refl
told_ends item.SpinUp E is = refl
told_ends item.SpinDown E is = refl
told_ends (item.Advertised sequence) E is = refl
told_ends (item.SpinReply sequence orders status) E is = refl
told_ends (item.ImageMessages raws) E is = refl
told_ends (item.SpinFinished sequence) E is = refl

all_ends : (items : List Item) (E : List Entry) → AreTold items → ends_of (heard_all items E) ≡ ends_of E
all_ends [] E all = refl
all_ends (x ∷ items) E all = all_ends items (heard x E) all.1 ∙ told_ends x E all.0

told_take : (n : ℕ) (items : List Item) → AreTold items → AreTold (take n items)
told_take zero items all = tt
told_take (suc n) [] all = tt
told_take (suc n) (x ∷ items) all = (all.0, told_take n items all.1)

module _ (down : Entry) (silent : (E : List Entry) → ends_of (down ∷ E) ≡ ends_of E) where
  cut_ends : (E : List Entry) (link : Option (List (Event Lookups))) → ends_of (heard_cut down E link) ≡ ends_of E
  cut_ends E None = refl
  cut_ends E (Some events) = silent E

  settled_ends : (setup : Setup) (E : List Entry) (link : Option (List (Event Lookups))) → ends_of (settled_at setup down E link).heard ≡ ends_of E
  settled_ends setup E None = refl
  settled_ends setup E (Some events) = by (is_some (closed_of setup events))
    where
      by : (b : Bool) → ends_of (cond {A = SessionState} b (record { heard = down ∷ E; link = None }) (record { heard = E; link = Some events })).heard ≡ ends_of E
      by true = silent E
      by false = refl

  module _ (setup : Setup) (bytes : List ℕ) where
    fed_ends : (E : List Entry) (link : Option (List (Event Lookups))) → ends_of (fed_at setup bytes E link).heard ≡ ends_of E
    fed_ends E None = refl
    fed_ends E (Some events) = all_ends (link_tells setup events bytes) E (link_told setup events bytes)

    took_ends : (session : SessionState) → ends_of (link_took setup down bytes session).heard ≡ ends_of session.heard
    took_ends session =
        let fed : SessionState = fed_at setup bytes session.heard session.link in
        settled_ends setup fed.heard fed.link ∙ fed_ends session.heard session.link

    part_ends : (count : ℕ) (E : List Entry) (link : Option (List (Event Lookups))) → ends_of (heard_in_part setup bytes count E link) ≡ ends_of E
    part_ends count E None = refl
    part_ends count E (Some events) = all_ends (take count (link_tells setup events bytes)) E (told_take count (link_tells setup events bytes) (link_told setup events bytes))

    lost_ends : (count : ℕ) (session : SessionState) → ends_of (link_lost setup down bytes count session).heard ≡ ends_of session.heard
    lost_ends count session = cut_ends (heard_in_part setup bytes count session.heard session.link) session.link ∙ part_ends count session.heard session.link

asked_ends : (s : EndSetup) (ask : Option Ask) (now : EndState) → ends_of (ask_sent s ask (record now { heard = Ticked ask ∷ now.heard })).heard ≡ ends_of now.heard
asked_ends s None now = refl
asked_ends s (Some (Gap first count)) now = refl
asked_ends s (Some (Spin sequence)) now = refl

grp_ends : (E : List Entry) → ends_of (GrpDown ∷ E) ≡ ends_of E
grp_ends E = refl

spin_ends : (E : List Entry) → ends_of (SpinDown ∷ E) ≡ ends_of E
spin_ends E = refl

ticks_end : (s : EndSetup) (now : EndState) → ends_of (both_links_tick s now).heard ≡ ends_of now.heard
ticks_end s now =
    let one : EndState = grp_link_ticks now in
    settled_ends SpinDown spin_ends (spin_link s.unit) one.heard (happened event.Ticked one.spin)
    ∙ settled_ends GrpDown grp_ends gap_link now.heard (happened event.Ticked now.grp)

-- what is no block has none
module _ (s : EndSetup) (before : List Came) where
  abbrev now : EndState
  now = end_after s before

  pub ends_stay : (came : Came) → is_block came ≡ false → ends_of (end_history s (came ∷ before)) ≡ ends_of (end_history s before)
  ends_stay (Heard block) none = absurd (true≢false none)
  ends_stay GrpMade none = cut_ends GrpDown grp_ends now.heard now.grp
  ends_stay GrpCut none = cut_ends GrpDown grp_ends now.heard now.grp
  ends_stay (GrpTook bytes) none = took_ends GrpDown grp_ends gap_link bytes (record { heard = now.heard; link = now.grp })
  ends_stay (GrpLost bytes count) none = lost_ends GrpDown grp_ends gap_link bytes count (record { heard = now.heard; link = now.grp })
  ends_stay SpinMade none = cut_ends SpinDown spin_ends now.heard now.spin
  ends_stay SpinCut none = cut_ends SpinDown spin_ends now.heard now.spin
  ends_stay (SpinTook bytes) none = took_ends SpinDown spin_ends (spin_link s.unit) bytes (record { heard = now.heard; link = now.spin })
  ends_stay (SpinLost bytes count) none = lost_ends SpinDown spin_ends (spin_link s.unit) bytes count (record { heard = now.heard; link = now.spin })
  ends_stay Second none =
      let ticked : EndState = both_links_tick s now in
      asked_ends s (ask_of s.hold ticked.heard) ticked ∙ ticks_end s now

-- ---- The lowest, with messages more
-- the messages before `raws` were heard of `all`, and this is the lowest by then
pub record EndsTo (first : Option ℕ) (sequence next : ℕ) (all raws : List Raw) (E : List Entry) : Type 0 where
  pub now : List Entry
  pub is : first ≡ lowest (ends_of now)
  pub heard_is : heard_messages sequence all E ≡ heard_messages next raws now

pub ends_none : (first : Option ℕ) (sequence : ℕ) (raws : List Raw) (E : List Entry) → first ≡ lowest (ends_of E) → EndsTo first sequence sequence raws raws E
ends_none first sequence raws E is = record { now = E; is = is; heard_is = refl }

pub ends_more : (first first' : Option ℕ) (sequence next : ℕ) (all raws raws' : List Raw) (raw : Raw) (E : List Entry) → raws ≡ raw ∷ raws'
    → ((E : List Entry) → first ≡ lowest (ends_of E) → first' ≡ lowest (ends_of (Message next raw ∷ E))) → EndsTo first sequence next all raws E → EndsTo first' sequence (next + 1) all raws' E
ends_more first first' sequence next all raws raws' raw E split more so = record {
  now = Message next raw ∷ so.now;
  is = more so.now so.is;
  heard_is = so.heard_is ∙ ap (λ (rs : List Raw). heard_messages next rs so.now) split;
}

pub ends_all : (first : Option ℕ) (sequence next : ℕ) (all raws : List Raw) (E : List Entry) → raws ≡ [] → EndsTo first sequence next all raws E → first ≡ lowest (ends_of (heard_messages sequence all E))
ends_all first sequence next all raws E none so =
    so.is ∙ ap (λ (h : List Entry). lowest (ends_of h)) (sym (so.heard_is ∙ ap (λ (rs : List Raw). heard_messages next rs so.now) none))

-- ---- The lowest is at most the reach where one of them is
abbrev pub reached_by : Option ℕ → ℕ → Bool
reached_by None n = false
reached_by (Some first) n = nat_le first n

below_both : (a b n : ℕ) → nat_le (min a b) n ≡ (nat_le a n || nat_le b n)
below_both a b n = grind (arith, nat_tests)

pub lowest_any : (numbers : List ℕ) (n : ℕ) → reached_by (lowest numbers) n ≡ list_any (λ (number : ℕ). nat_le number n) numbers
lowest_any [] n = refl
lowest_any (number ∷ numbers) n = by (lowest numbers) (lowest_any numbers n)
  where
    by : (o : Option ℕ) → reached_by o n ≡ list_any (λ (x : ℕ). nat_le x n) numbers → nat_le (lower_of number o) n ≡ (nat_le number n || list_any (λ (x : ℕ). nat_le x n) numbers)
    by None is = or_false (nat_le number n) ∙ ap (λ (b : Bool). nat_le number n || b) is
      where
        or_false : (b : Bool) → b ≡ (b || false)
        or_false true = refl
        or_false false = refl
    by (Some other) is = below_both number other n ∙ ap (λ (b : Bool). nat_le number n || b) is

module _ (H : ℕ) (E : List Entry) where
  pub not_ended : (first : Option ℕ) → first ≡ None → first ≡ lowest (ends_of E) → false ≡ is_ended H E
  not_ended first none is = ap (λ (o : Option ℕ). reached_by o (reach H E)) (sym none ∙ is) ∙ lowest_any (ends_of E) (reach H E)

  pub maybe_ended : (n : ℕ) (first : Option ℕ) (at : ℕ) → first ≡ Some at → first ≡ lowest (ends_of E) → n ≡ reach H E → nat_le at n ≡ is_ended H E
  maybe_ended n first at some is reach_is =
      ap (nat_le at) reach_is
      ∙ ap (λ (o : Option ℕ). reached_by o (reach H E)) (sym some ∙ is) ∙ lowest_any (ends_of E) (reach H E)

-- ---- The venue's
module _ (Image : List Raw → ℕ → List Raw) (V : List Raw) where
  abbrev Later : List Entry → ℕ → Type 0
  Later E n = list_any (λ (number : ℕ). nat_le number n) (ends_of E) ≡ true → HasEndWithin V n

  venues_end : (E : List Entry) (n : ℕ) → Honest Image V E → list_any (λ (number : ℕ). nat_le number n) (ends_of E) ≡ true → HasEndWithin V n
  venues_end [] n honest has = absurd (true≢false (sym has))
  venues_end (Message sequence raw ∷ E) n honest has = by (λ later. venues_end E n honest.1 later) (is_end raw) refl has
    where
      here : Later E n → is_end raw ≡ true → (b : Bool) → nat_le sequence n ≡ b → (b || list_any (λ (number : ℕ). nat_le number n) (ends_of E)) ≡ true → HasEndWithin V n
      here later is true le has = record { sequence = sequence; raw = raw; is_venues = honest.0; ends = is; within = grind (arith, nat_tests, le) }
      here later is false le has = later has

      by : Later E n → (b : Bool) → is_end raw ≡ b → list_any (λ (number : ℕ). nat_le number n) (cond b (sequence ∷ ends_of E) (ends_of E)) ≡ true → HasEndWithin V n
      by later true is has = here later is (nat_le sequence n) refl has
      by later false is has = later has
  venues_end (Next next ∷ E) n honest has = venues_end E n honest.1 has
  venues_end (GrpUp ∷ E) n honest has = venues_end E n honest.1 has
  venues_end (GrpDown ∷ E) n honest has = venues_end E n honest.1 has
  venues_end (GapReply accepted ∷ E) n honest has = venues_end E n honest.1 has
  venues_end (SpinUp ∷ E) n honest has = venues_end E n honest.1 has
  venues_end (SpinDown ∷ E) n honest has = venues_end E n honest.1 has
  venues_end (Advertised sequence ∷ E) n honest has = venues_end E n honest.1 has
  venues_end (SpinReply sequence orders accepted ∷ E) n honest has = venues_end E n honest.1 has
  venues_end (ImageMessages raws ∷ E) n honest has = venues_end E n honest.1 has
  venues_end (SpinFinished sequence ∷ E) n honest has = venues_end E n honest.1 has
  venues_end (Ticked ask ∷ E) n honest has = venues_end E n honest.1 has

pub ends_are_venues : EndsAreVenues
ends_are_venues s Vs came unit honest has = by (has_unit s unit) has
  where
    E : List Entry
    E = history_at s unit came

    by : (b : Bool) → (b && is_ended s.hold E) ≡ true → HasEndWithin (Vs unit) (reach s.hold E)
    by true has = venues_end (honest unit).Image (Vs unit) E (reach s.hold E) (honest unit).honest has
    by false has = absurd (true≢false (sym has))
