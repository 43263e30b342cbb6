-- A client's end that hears what is served: its history is sound, whatever is left of an image.
use Rattle.std.proofs.Common.{◌≡◌, ℕ, suc, ◌+◌, ◌≤◌, ◌<◌, eqb, Bool, true, false, cond, List, [], ◌∷◌, ◌++◌, length, take, drop, refl, sym, ap, ◌∙◌, subst, arith, Option, Some, None, is_some}
use Rattle.std.specs.List.{AllByRecursion}
use Rattle.std.proofs.lemmas.Bool.{cond-false, ne_eqb}
use Rattle.std.proofs.lemmas.List.{append-nil, take-append-drop}
use Rattle.pitch_fields.proofs.Lists.{all_take}
use Rattle.unit_packets.specs.Blocks.{Block}
use Rattle.pitch_model.specs.declared.ask.Ask.{Ask}
use Rattle.pitch_model.specs.declared.ask.Ask.TheVariants as asks
use Rattle.pitch_model.specs.Asking.{ask_of}
use Rattle.pitch_model.specs.History.{Entry, Raw, Message, Next, GrpUp, GrpDown, GapReply, SpinDown, Ticked as TickedEntry}
use Rattle.pitch_model.specs.Honest.{AreVenues, message_at}
use Rattle.heard_items.specs.Datagrams.{IsVenueBlock}
use Rattle.heard_items.specs.Heard.{heard, heard_block, heard_messages, heard_sequenced}
use Rattle.heard_items.specs.Heard.{is_accepted, heard_all}
use Rattle.heard_items.specs.declared.item.Item.{Item}
use Rattle.heard_items.specs.declared.item.Item.TheVariants as item
use Rattle.session_ends.specs.declared.role.Role.{Role}
use Rattle.session_ends.specs.Closing.{closed_of}
use Rattle.session_ends.specs.Events.{Event, Fed, Ticked, fed_of}
use Rattle.session_ends.specs.Sending.{header_unit}
use Rattle.client_links.specs.Linking.{Lookups, NoLookup, link_tells}
use Rattle.spin_path.specs.Paths.{all_said}
use Rattle.spin_path.specs.PathLaws.{IsFeed, HasWholeImages}
use Rattle.spin_path.proofs.Flow.{ImageLeft, Goes, next, rests, rests_append, goes_first, goes_last, Sound, sound_none, sound_item, sound_cut, sound_entry}
use Rattle.spin_path.proofs.Links.{told_once, told_more, told_over, begins}
use Rattle.spin_path.proofs.Serves.{holds}
use Rattle.client_end.specs.Came.{Came, EndSetup, EndState, Heard, GrpMade, GrpTook, GrpCut, GrpLost, SpinMade, SpinTook, SpinCut, SpinLost, Second, of_spin, ask_sent, both_links_tick, client_asks, end_after, end_step}
use Rattle.client_end.specs.layers.Hearing.{IsGapTold}
use Rattle.client_end.specs.Links.{gap_link, spin_link}
use Rattle.client_end.specs.Sessions.{SessionState, fed_at, happened, heard_cut, heard_in_part, link_happened, link_settled, settled_at}
use Rattle.client_end.proofs.LinkItems.{gap_link_tells}
use Rattle.served_laws.specs.Coming.{ComesFrom, IsSaid, MayCome, spin_bytes}

-- ---- Several items, and blocks
sound_items : (V : List Raw) (E : List Entry) (r : ImageLeft) (items : List Item) → Sound V E r → Goes V r items → Sound V (heard_all items E) (rests V r items)
sound_items V E r [] so goes = so
sound_items V E r (x ∷ items) so goes = sound_items V (heard x E) (next V x r) items (sound_item V E r x so goes.0) goes.1

module _ (V : List Raw) (r : ImageLeft) where
  sound_messages : (first : ℕ) (raws : List Raw) (E : List Entry) → AreVenues V first raws → Sound V E r → Sound V (heard_messages first raws E) r
  sound_messages first [] E are so = so
  sound_messages first (raw ∷ raws) E are so =
      let here : first + 0 ≡ first = omega arith in
      sound_messages (first + 1) raws (Message first raw ∷ E)
      (λ i other at. let further : first + suc i ≡ (first + 1) + i = omega arith in subst (λ (k : ℕ). message_at V k ≡ Some other) further (are (suc i) other at))
      (sound_entry V E r (Message first raw) so (subst (λ (k : ℕ). message_at V k ≡ Some raw) here (are 0 raw refl)))

  sound_sequenced : (sequence : ℕ) (raws : List Raw) (E : List Entry) → AreVenues V sequence raws → sequence ≤ length V + 1 → Sound V E r → Sound V (heard_sequenced sequence raws E) r
  sound_sequenced sequence [] E are within so = sound_entry V E r (Next sequence) so within
  sound_sequenced sequence (raw ∷ raws) E are within so = sound_messages sequence (raw ∷ raws) E are so

  sound_block : (unit : ℕ) (block : Block) (E : List Entry) → IsVenueBlock V unit block → Sound V E r → Sound V (heard_block block E) r
  sound_block unit block E of so =
      let known = of.sequenced in
      let within = of.within in
      let sequenced = ne_eqb block.sequence 0 (λ e. omega (arith, e, known)) in
      subst (λ (F : List Entry). Sound V F r) (sym (cond-false (eqb block.sequence 0) E (heard_sequenced block.sequence block.raws E) sequenced))
      (sound_sequenced block.sequence block.raws E of.messages (omega (arith, within)) so)

  -- ---- The session with the proxy
  sound_gap_item : (x : Item) (E : List Entry) → IsGapTold x → Sound V E r → Sound V (heard x E) r
  sound_gap_item item.GrpUp E is so = sound_entry V E r GrpUp so tt
  sound_gap_item (item.GapReply sequence count status) E is so = sound_entry V E r (GapReply (is_accepted status)) so tt
  sound_gap_item (item.Messages first raws) E is so = absurd is
  sound_gap_item (item.Next next) E is so = absurd is
  sound_gap_item item.Nothing E is so = absurd is
  sound_gap_item item.GrpDown E is so = absurd is
  sound_gap_item item.SpinUp E is so = absurd is
  sound_gap_item item.SpinDown E is so = absurd is
  sound_gap_item (item.Advertised sequence) E is so = absurd is
  sound_gap_item (item.SpinReply sequence orders status) E is so = absurd is
  sound_gap_item (item.ImageMessages raws) E is so = absurd is
  sound_gap_item (item.SpinFinished sequence) E is so = absurd is

  sound_gap : (items : List Item) (E : List Entry) → AllByRecursion IsGapTold items → Sound V E r → Sound V (heard_all items E) r
  sound_gap [] E all so = so
  sound_gap (x ∷ items) E all so = sound_gap items (heard x E) all.1 (sound_gap_item x E all.0 so)

  gap_cut : (E : List Entry) (link : Option (List (Event Lookups))) → Sound V E r → Sound V (heard_cut GrpDown E link) r
  gap_cut E None so = so
  gap_cut E (Some events) so = sound_entry V E r GrpDown so tt

  gap_settled : (E : List Entry) (link : Option (List (Event Lookups))) → Sound V E r → Sound V (settled_at gap_link GrpDown E link).heard r
  gap_settled E None so = so
  gap_settled E (Some events) so = by (is_some (closed_of gap_link events))
    where
      by : (b : Bool) → Sound V (cond {A = SessionState} b (record { heard = GrpDown ∷ E; link = None }) (record { heard = E; link = Some events })).heard r
      by true = sound_entry V E r GrpDown so tt
      by false = so

  gap_fed : (bytes : List ℕ) (E : List Entry) (link : Option (List (Event Lookups))) → Sound V E r → Sound V (fed_at gap_link bytes E link).heard r
  gap_fed bytes E None so = so
  gap_fed bytes E (Some events) so = sound_gap (link_tells gap_link events bytes) E (gap_link_tells events bytes) so

  gap_in_part : (bytes : List ℕ) (count : ℕ) (E : List Entry) (link : Option (List (Event Lookups))) → Sound V E r → Sound V (heard_in_part gap_link bytes count E link) r
  gap_in_part bytes count E None so = so
  gap_in_part bytes count E (Some events) so = sound_gap (take count (link_tells gap_link events bytes)) E (all_take IsGapTold count (link_tells gap_link events bytes) (gap_link_tells events bytes)) so

-- ---- The session with the Spin Server
-- what its server has left of an image, by what was told
abbrev left_at : List Raw → ℕ → Option (List (Event Lookups)) → ImageLeft
left_at V unit None = None
left_at V unit (Some events) = rests V None (told_over unit events)

-- its link was fed all that came since it was made
abbrev IsFed : List ℕ → Option (List (Event Lookups)) → Type 0
IsFed bytes None = Unit {0}
IsFed bytes (Some events) = fed_of events ≡ bytes

record IsSo (V : List Raw) (unit : ℕ) (bytes : List ℕ) (session : SessionState) : Type 0 where
  fed_is : IsFed bytes session.link
  sound : Sound V session.heard (left_at V unit session.link)

-- what a link was told of a server's bytes is what the server may cause
told_goes : (V : List Raw) (unit : ℕ) (events : List (Event Lookups)) → IsFeed V → IsSaid V unit (fed_of events) → Goes V None (told_over unit events)
told_goes V unit events venues is =
    let small : header_unit is.setup.role is.setup.unit < 256 = subst (λ (r : Role). header_unit r is.setup.unit < 256) (sym is.server.role_is) is.server.unit_is in
    let said : Goes V None (told_once is.setup.unit (all_said is.setup is.happened)) = (holds V venues is.setup small is.happened is.served).sent.goes in
    let all : Goes V None (told_once unit (fed_of events ++ is.begins.0)) = subst (λ (u : ℕ). Goes V None (told_once u (fed_of events ++ is.begins.0))) is.unit_is (subst (λ (l : List ℕ). Goes V None (told_once is.setup.unit l)) (sym is.begins.1) said) in
    let fed : Goes V None (told_once unit (fed_of events)) = goes_first V None (told_once unit (fed_of events)) _ (subst (Goes V None) (told_more unit (fed_of events) is.begins.0) all) in
    let b = begins unit events in
    goes_first V None (told_over unit events) b.later (subst (Goes V None) b.are fed)

module _ (V : List Raw) (unit : ℕ) where
  spin_cut : (E : List Entry) (link : Option (List (Event Lookups))) → Sound V E (left_at V unit link) → Sound V (heard_cut SpinDown E link) None
  spin_cut E None so = so
  spin_cut E (Some events) so = sound_cut V E (left_at V unit (Some events)) so

  spin_settled : (bytes : List ℕ) (E : List Entry) (link : Option (List (Event Lookups))) → IsFed bytes link → Sound V E (left_at V unit link) → IsSo V unit bytes (settled_at (spin_link unit) SpinDown E link)
  spin_settled bytes E None fed so = record { fed_is = tt; sound = so }
  spin_settled bytes E (Some events) fed so = by (is_some (closed_of (spin_link unit) events))
    where
      by : (b : Bool) → IsSo V unit bytes (cond b (record { heard = SpinDown ∷ E; link = None }) (record { heard = E; link = Some events }))
      by true = record { fed_is = tt; sound = sound_cut V E (left_at V unit (Some events)) so }
      by false = record { fed_is = fed; sound = so }

  -- what a link tells of the next bytes, after what it told, is what the server may cause
  tells_goes : (bytes : List ℕ) (events : List (Event Lookups)) → IsFeed V → IsSaid V unit (fed_of events ++ bytes) → Goes V (left_at V unit (Some events)) (link_tells (spin_link unit) events bytes)
  tells_goes bytes events venues is = goes_last V None (told_over unit events) (link_tells (spin_link unit) events bytes) (told_goes V unit (Fed bytes NoLookup ∷ events) venues is)

  spin_fed : (before bytes : List ℕ) (E : List Entry) (link : Option (List (Event Lookups))) → IsFeed V → IsSaid V unit (before ++ bytes) → IsFed before link → Sound V E (left_at V unit link) → IsSo V unit (before ++ bytes) (fed_at (spin_link unit) bytes E link)
  spin_fed before bytes E None venues is fed so = record { fed_is = tt; sound = so }
  spin_fed before bytes E (Some events) venues is fed so =
      let all : fed_of events ++ bytes ≡ before ++ bytes = ap (λ (l : List ℕ). l ++ bytes) fed in
      let tells : List Item = link_tells (spin_link unit) events bytes in
      record {
        fed_is = all;
        sound = subst (λ (r : ImageLeft). Sound V (heard_all tells E) r) (sym (rests_append V None (told_over unit events) tells))
            (sound_items V E (left_at V unit (Some events)) tells so (tells_goes bytes events venues (subst (IsSaid V unit) (sym all) is)));
      }

  spin_lost : (before bytes : List ℕ) (count : ℕ) (E : List Entry) (link : Option (List (Event Lookups))) → IsFeed V → IsSaid V unit (before ++ bytes) → IsFed before link → Sound V E (left_at V unit link)
      → Sound V (heard_cut SpinDown (heard_in_part (spin_link unit) bytes count E link) link) None
  spin_lost before bytes count E None venues is fed so = so
  spin_lost before bytes count E (Some events) venues is fed so =
      let all : fed_of events ++ bytes ≡ before ++ bytes = ap (λ (l : List ℕ). l ++ bytes) fed in
      let tells : List Item = link_tells (spin_link unit) events bytes in
      let goes : Goes V (left_at V unit (Some events)) tells = tells_goes bytes events venues (subst (IsSaid V unit) (sym all) is) in
      let firsts : Goes V (left_at V unit (Some events)) (take count tells) = goes_first V (left_at V unit (Some events)) (take count tells) (drop count tells) (subst (Goes V (left_at V unit (Some events))) (sym (take-append-drop count tells)) goes) in
      sound_cut V (heard_all (take count tells) E) (rests V (left_at V unit (Some events)) (take count tells)) (sound_items V E (left_at V unit (Some events)) (take count tells) so firsts)

  -- something else happens at the link
  still : (bytes : List ℕ) (event : Event Lookups) (E : List Entry) (link : Option (List (Event Lookups))) → ((events : List (Event Lookups)) → fed_of (event ∷ events) ≡ fed_of events) → ((events : List (Event Lookups)) → told_over unit (event ∷ events) ≡ told_over unit events)
      → IsFed bytes link → Sound V E (left_at V unit link) → IsSo V unit bytes (record { heard = E; link = happened event link })
  still bytes event E None same told fed so = record { fed_is = tt; sound = so }
  still bytes event E (Some events) same told fed so = record { fed_is = same events ∙ fed; sound = subst (λ (items : List Item). Sound V E (rests V None items)) (sym (told events)) so }

  spin_ticks : (bytes : List ℕ) (E : List Entry) (link : Option (List (Event Lookups))) → IsFed bytes link → Sound V E (left_at V unit link) → IsSo V unit bytes (link_settled (spin_link unit) SpinDown (link_happened Ticked (record { heard = E; link = link })))
  spin_ticks bytes E link fed so =
      let is = still bytes Ticked E link (λ events. refl) (λ events. append-nil (told_over unit events)) fed so in
      spin_settled bytes E (happened Ticked link) is.fed_is is.sound

  asked : (s : EndSetup) (bytes : List ℕ) (ask : Option Ask) (now : EndState) → IsSo V unit bytes (of_spin now) → IsSo V unit bytes (of_spin (ask_sent s ask now))
  asked s bytes None now is = is
  asked s bytes (Some (asks.Gap first count)) now is = is
  asked s bytes (Some (asks.Spin sequence)) now is = still bytes _ now.heard now.spin (λ events. refl) (λ events. append-nil (told_over unit events)) is.fed_is is.sound

-- ---- All that comes
second_so : (V : List Raw) (s : EndSetup) (bytes : List ℕ) (now : EndState) → IsSo V s.unit bytes (of_spin now) → IsSo V s.unit bytes (of_spin (client_asks s (both_links_tick s now)))
second_so V s bytes now is =
    let grp : Sound V (link_settled gap_link GrpDown (link_happened Ticked (record { heard = now.heard; link = now.grp }))).heard (left_at V s.unit now.spin) = gap_settled V (left_at V s.unit now.spin) now.heard (happened Ticked now.grp) is.sound in
    let ticked : EndState = both_links_tick s now in
    let both : IsSo V s.unit bytes (of_spin ticked) = spin_ticks V s.unit bytes _ now.spin is.fed_is grp in
    let ask : Option Ask = ask_of s.hold ticked.heard in
    asked V s.unit s bytes ask (record ticked { heard = TickedEntry ask ∷ ticked.heard }) (record { fed_is = both.fed_is; sound = sound_entry V ticked.heard (left_at V s.unit ticked.spin) (TickedEntry ask) both.sound tt })

module _ (V : List Raw) (s : EndSetup) (before : List Came) (now : EndState) (venues : IsFeed V) (so : IsSo V s.unit (spin_bytes before) (of_spin now)) where
  abbrev r : ImageLeft
  r = left_at V s.unit now.spin

  step_so : (came : Came) → MayCome V s.unit came before → IsSo V s.unit (spin_bytes (came ∷ before)) (of_spin (end_step s came now))
  step_so (Heard block) may = record { fed_is = so.fed_is; sound = sound_block V r s.unit block now.heard may so.sound }
  step_so GrpMade may = record { fed_is = so.fed_is; sound = gap_cut V r now.heard now.grp so.sound }
  step_so (GrpTook bytes) may = record { fed_is = so.fed_is; sound = (let took : SessionState = fed_at gap_link bytes now.heard now.grp in gap_settled V r took.heard took.link (gap_fed V r bytes now.heard now.grp so.sound)) }
  step_so GrpCut may = record { fed_is = so.fed_is; sound = gap_cut V r now.heard now.grp so.sound }
  step_so (GrpLost bytes count) may = record { fed_is = so.fed_is; sound = gap_cut V r (heard_in_part gap_link bytes count now.heard now.grp) now.grp (gap_in_part V r bytes count now.heard now.grp so.sound) }
  step_so SpinMade may = record { fed_is = refl; sound = spin_cut V s.unit now.heard now.spin so.sound }
  step_so (SpinTook bytes) may =
      let is = spin_fed V s.unit (spin_bytes before) bytes now.heard now.spin venues may so.fed_is so.sound in
      let took : SessionState = fed_at (spin_link s.unit) bytes now.heard now.spin in
      spin_settled V s.unit (spin_bytes before ++ bytes) took.heard took.link is.fed_is is.sound
  step_so SpinCut may = record { fed_is = tt; sound = spin_cut V s.unit now.heard now.spin so.sound }
  step_so (SpinLost bytes count) may = record { fed_is = tt; sound = spin_lost V s.unit (spin_bytes before) bytes count now.heard now.spin venues may so.fed_is so.sound }
  step_so Second may = second_so V s (spin_bytes before) now so

all_so : (V : List Raw) (s : EndSetup) (came : List Came) → IsFeed V → ComesFrom V s.unit came → IsSo V s.unit (spin_bytes came) (of_spin (end_after s came))
all_so V s [] venues comes = record { fed_is = tt; sound = sound_none V }
all_so V s (new ∷ before) venues comes = step_so V s before (end_after s before) venues (all_so V s before venues comes.1) new comes.0

pub served_is_whole : (V : List Raw) (s : EndSetup) (came : List Came) → IsFeed V → ComesFrom V s.unit came → HasWholeImages V (end_after s came).heard
served_is_whole V s came venues comes = let so = (all_so V s came venues comes).sound in record { honest = so.honest; never = so.never }
