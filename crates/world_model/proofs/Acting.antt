-- What comes to the ends of a world, and what a verb does to its parts.
use Rattle.std.proofs.Common.{◌≡◌, ℕ, zero, suc, ◌+◌, ◌-◌, ◌≤◌, ◌<◌, Bool, true, false, List, [], ◌∷◌, ◌++◌, length, drop, refl, sym, ap, ◌∙◌, subst, arith, Option, Some, None, Result, Ok, Err, take}
use Rattle.std.specs.Prelude.{Contains}
use Rattle.std.specs.List.{AllByRecursion, flat_map, slice_get}
use Rattle.std.specs.Option.{option_map}
use Rattle.std.proofs.lemmas.Option.{get_or_from_slice_get, slice_get-map, slice_get_within}
use Rattle.std.proofs.lemmas.List.{drop-map, map-append, take_more}
use Rattle.pitch_fields.proofs.Lists.{all_follows}
use Rattle.pitch_io.specs.declared.line.Line.{Line}
use Rattle.pitch_messages.specs.Room.{Roomy}
use Rattle.pitch_text.specs.declared.command.Command.{Command}
use Rattle.pitch_text.specs.declared.verb.Verb.{Verb}
use Rattle.pitch_text.specs.declared.verb.Verb.TheVariants as verbs
use Rattle.unit_packets.specs.Blocks.{Block}
use Rattle.unit_packets.specs.Cutting.{blocks_of}
use Rattle.unit_packets.specs.Packing.{bytes_in}
use Rattle.pitch_model.specs.Book.{Book, book_after}
use Rattle.pitch_model.specs.History.{Raw}
use Rattle.pitch_model.specs.Reach.{reach}
use Rattle.pitch_model.specs.Status.{status_of}
use Rattle.pitch_model.specs.declared.status.Status.{Status}
use Rattle.heard_items.specs.Datagrams.{IsPiece}
use Rattle.spin_path.specs.PathLaws.{HasWholeImages}
use Rattle.venue_core.specs.Refusals.{IsAnswer, refusal}
use Rattle.venue_core.specs.declared.error.VenueError.{VenueError}
use Rattle.venue_core.specs.declared.error.VenueError.TheVariants as errors
use Rattle.client_core.specs.Venues.{IsVenue}
use Rattle.client_core.proofs.Venues.{own_venue}
use Rattle.client_end.specs.Came.{Came, EndSetup, EndState, end_after, end_history, end_step}
use Rattle.client_end.specs.Parts.{EndIs}
use Rattle.sending_end.specs.Waiting.{waits_for_proxy, waits_for_spin_server}
use Rattle.sending_end.specs.Stands.{OfSending, SendingStands, Passes as ComesTo}
use Rattle.sending_end.specs.declared.end.SendingEnd.{SendingEnd}
use Rattle.line_arbiter.specs.declared.arbiter.Arbiter.{Arbiter}
use Rattle.venue_end.specs.Came.{VenueCame, VenueState, Commanded, commanded_on, on_lines, venue_after, venue_step}
use Rattle.venue_end.specs.Stands.{Comes, OfVenue, StandsStill, VenueIs, VenueStands}
use Rattle.venue_end.specs.declared.setup.VenueSetup.{VenueSetup}
use Rattle.venue_end.specs.declared.venue.VenueEnd.{VenueEnd}
use Rattle.served_laws.specs.Beside.{handed_out}
use Rattle.served_laws.proofs.Beside.{all_contained, beside_is_honest, beside_is_whole, handed_out_are_pieces}
use Rattle.world_model.specs.Ends.{client_setup, venue_setup}
use Rattle.world_model.specs.Printed.{overflowed, printed}
use Rattle.world_model.specs.Sound.{Sound}
use Rattle.world_model.specs.Stands.{HasClient, WorldStands}
use Rattle.world_model.specs.State.{State, datagrams_on, passed_on, passed_to}
use Rattle.world_model.specs.Verbs.{client_book, client_has, command_outcome, commanded, delivered, delivered_on, does, done, hears, hears_block, numbered, rest_delivered, sends, state_of, up_to, venue_has}
use Rattle.world_model.specs.declared.limits.Limits.{Limits}
use Rattle.world_model.specs.declared.outcome.Outcome.{Outcome}
use Rattle.world_model.specs.declared.outcome.Outcome.TheVariants as outcome
use Rattle.world_model.specs.declared.outcome.Printed.{Printed}
use Rattle.world_model.specs.declared.passed.Passed.{Passed}
use Rattle.world_model.specs.declared.world.Acted.{Acted}
use Rattle.world_model.specs.declared.world.World.{World}
use Rattle.world_model.specs.layers.Hearing.{HearsBlocks, Listens, overflow_in}
use Rattle.world_model.specs.layers.Steps.{Acts, Marks, Passes, WorldHas}
use Rattle.world_model.proofs.Marks.{marked, marks_hears, marks_none, marks_then}
use Rattle.world_model.proofs.Sounding.{does_sound, every_state_is_sound, line_out}

abbrev pub calm_of : Outcome → Acted
calm_of o = record { outcome = o; overflow = false }

-- ---- The ends of a world
module _ (w : World) (s : State) (has : WorldHas w s) where
  abbrev V : VenueSetup
  V = venue_setup w.unit w.limits

  abbrev C : EndSetup
  C = client_setup w.unit w.limits

  pub venue_stands : VenueStands V w.venue has.sound.venue_came
  venue_stands = subst (VenueIs V w.venue) has.sound.venue_is has.is.venue

  pub client_stands : SendingStands C w.client has.sound.client_came
  client_stands = record { unit_is = has.is.client.unit_is; end_is = subst (EndIs C w.client.end) has.sound.client_is has.is.client.end_is }

  -- what a contract says of all that came holds of the state
  pub seen_venue : (P : VenueSetup → VenueState → Type 0) → OfVenue w.venue (λ v before. P v (venue_after v before)) → P V s.venue
  seen_venue P holds = subst (P V) (sym has.sound.venue_is) (holds V has.sound.venue_came venue_stands)

  pub seen_client : (P : EndSetup → EndState → Type 0) → OfSending w.client (λ c before. P c (end_after c before)) → P C s.client
  seen_client P holds = subst (P C) (sym has.sound.client_is) (holds C has.sound.client_came client_stands)

  pub venue_then : (venue : VenueEnd) (new : VenueCame) → Comes w.venue venue new → VenueIs V venue (venue_step V new s.venue)
  venue_then venue new comes = seen_venue (λ v now. VenueIs v venue (venue_step v new now)) comes

  client_then : (client : SendingEnd) (came : Came) (new : VenueCame) → ComesTo w.client client came → HasClient w.unit w.limits client (client_has w.unit w.limits came (venue_has w.unit w.limits new s))
  client_then client came new comes =
      let then = comes C has.sound.client_came client_stands in
      let at : EndState = end_after C has.sound.client_came in
      record {
        unit_is = then.stands.unit_is;
        end_is = subst (λ (now : EndState). EndIs C client.end (end_step C came now)) (sym has.sound.client_is) then.stands.end_is;
        grp_up = subst (λ (now : EndState). client.grp_said.items ≡ waits_for_proxy C came now s.grp_up) (sym has.sound.client_is) (then.proxy ∙ ap (waits_for_proxy C came at) has.is.client.grp_up);
        spin_up = subst (λ (now : EndState). client.spin_said.items ≡ waits_for_spin_server C came now s.spin_up) (sym has.sound.client_is) (then.spin_server ∙ ap (waits_for_spin_server C came at) has.is.client.spin_up);
      }

  pub client_still : (t : State) → t.client ≡ s.client → t.grp_up ≡ s.grp_up → t.spin_up ≡ s.spin_up → HasClient w.unit w.limits w.client t
  client_still t same grp spin = record {
    unit_is = has.is.client.unit_is;
    end_is = subst (EndIs C w.client.end) (sym same) has.is.client.end_is;
    grp_up = has.is.client.grp_up ∙ sym grp;
    spin_up = has.is.client.spin_up ∙ sym spin;
  }

  -- ---- What was heard is the venue's
  module _ (small : w.unit < 256) where
    pub whole : HasWholeImages s.venue.messages s.client.heard
    whole =
        let now : HasWholeImages (venue_after V has.sound.venue_came).messages (end_history C has.sound.client_came) = record {
          honest = beside_is_honest V w.venue has.sound.venue_came C has.sound.client_came small venue_stands refl has.sound.beside;
          never = beside_is_whole V w.venue has.sound.venue_came C has.sound.client_came small venue_stands refl has.sound.beside;
        } in
        subst (λ (now : VenueState). HasWholeImages now.messages s.client.heard) (sym has.sound.venue_is)
        (subst (λ (now : EndState). HasWholeImages (venue_after V has.sound.venue_came).messages now.heard) (sym has.sound.client_is) now)

    pub pieces : (line : Line) → AllByRecursion (IsPiece s.venue.messages w.unit) (datagrams_on s line)
    pieces line =
        let before : List VenueCame = has.sound.venue_came in
        let out = handed_out_are_pieces V w.venue before small venue_stands in
        subst (λ (now : VenueState). AllByRecursion (IsPiece now.messages w.unit) (datagrams_on s line)) (sym has.sound.venue_is)
        (all_follows (Contains (handed_out V before)) (IsPiece (venue_after V before).messages w.unit) (λ d is. all_contained (IsPiece (venue_after V before).messages w.unit) (handed_out V before) d out is)
        (datagrams_on s line) (line_out w.unit w.limits s line has.sound))

    -- the book of the client's end
    pub book_is : (book : Book) → OfSending w.client (λ c before. (M : List Raw) → IsVenue M (end_history c before) → book ≡ book_after (take (reach c.hold (end_history c before)) M)) → book ≡ client_book w.limits s
    book_is book holds =
        seen_client (λ c now. (M : List Raw) → IsVenue M now.heard → book ≡ book_after (take (reach c.hold now.heard) M)) holds s.venue.messages
        (own_venue s.venue.messages s.client.heard has.is.venue.market.venue.bytes whole.honest)

  -- ---- A part of a verb
  module _ (venue : VenueEnd) (new : VenueCame) (stands : VenueIs V venue (venue_step V new s.venue)) where
    pub passes_venue : Sound w.unit w.limits (venue_has w.unit w.limits new s) → Passes w (record w { venue = venue }) s (venue_has w.unit w.limits new s)
    passes_venue sound = record {
      unit_is = refl;
      limits_are = refl;
      quiet = marks_none w.limits.hold s.client.heard;
      has = record {
        is = record {
          begun = has.is.begun;
          venue = stands;
          client = client_still (venue_has w.unit w.limits new s) refl refl refl;
          sent = has.is.sent;
          replayed = has.is.replayed;
          passed = has.is.passed;
          noted = has.is.noted;
        };
        sound = sound;
      };
    }

    -- this comes to the venue's end, and that to the client's
    pub passes_both : (client : SendingEnd) (came : Came) → ComesTo w.client client came → Marks w.limits.hold s.client.heard (end_step C came s.client).heard false
        → Sound w.unit w.limits (client_has w.unit w.limits came (venue_has w.unit w.limits new s)) → Passes w (record w { venue = venue; client = client }) s (client_has w.unit w.limits came (venue_has w.unit w.limits new s))
    passes_both client came comes quiet sound = record {
      unit_is = refl;
      limits_are = refl;
      quiet = quiet;
      has = record {
        is = record {
          begun = has.is.begun;
          venue = stands;
          client = client_then client came new comes;
          sent = has.is.sent;
          replayed = has.is.replayed;
          passed = has.is.passed;
          noted = has.is.noted;
        };
        sound = sound;
      };
    }

    -- what the venue's end hands out is sent
    pub acts_sends : (sent : Roomy (Roomy ℕ)) (acted : Acted) (count : ℕ) → bytes_in sent.items ≡ bytes_in w.sent.items ++ on_lines V new s.venue → count ≡ length (on_lines V new s.venue)
        → Sound w.unit w.limits (sends w.unit w.limits new s).state → acted ≡ calm_of (outcome.Sent count) → Acts w (record w { venue = venue; sent = sent }) acted s (sends w.unit w.limits new s)
    acts_sends sent acted count are many sound calm = record {
      unit_is = refl;
      limits_are = refl;
      outcome_is = ap (λ (a : Acted). a.outcome) calm ∙ ap outcome.Sent many;
      overflow_is = ap (λ (a : Acted). a.overflow) calm ∙ marked w.limits.hold s.client.heard s.client.heard false (marks_none w.limits.hold s.client.heard);
      has = record {
        is = record {
          begun = has.is.begun;
          venue = stands;
          client = client_still (sends w.unit w.limits new s).state refl refl refl;
          sent = are ∙ ap (λ (ds : List (List ℕ)). ds ++ on_lines V new s.venue) has.is.sent;
          replayed = has.is.replayed;
          passed = has.is.passed;
          noted = has.is.noted;
        };
        sound = sound;
      };
    }

  pub passes_none : Passes w w s s
  passes_none = record { unit_is = refl; limits_are = refl; quiet = marks_none w.limits.hold s.client.heard; has = has }

pub passes_then : (a b c : World) (s t u : State) → Passes a b s t → Passes b c t u → Passes a c s u
passes_then a b c s t u one two = record {
  unit_is = two.unit_is ∙ one.unit_is;
  limits_are = two.limits_are ∙ one.limits_are;
  quiet = marks_then a.limits.hold s.client.heard t.client.heard u.client.heard one.quiet (subst (λ (l : Limits). Marks l.hold t.client.heard u.client.heard false) one.limits_are two.quiet);
  has = two.has;
}

pub acts_passed : (w new : World) (acted : Acted) (o : Outcome) (s s' : State) → Passes w new s s' → acted ≡ calm_of o → Acts w new acted s (done o s')
acts_passed w new acted o s s' passes calm = record {
  unit_is = passes.unit_is;
  limits_are = passes.limits_are;
  outcome_is = ap (λ (a : Acted). a.outcome) calm;
  overflow_is = ap (λ (a : Acted). a.overflow) calm ∙ marked w.limits.hold s.client.heard s'.client.heard false passes.quiet;
  has = passes.has;
}

-- ---- A command
none_where_ok : (o : Option VenueError) (sequence n : ℕ) → IsAnswer o sequence (Ok n) → (o ≡ None) × (n ≡ sequence)
none_where_ok None sequence n h = (refl, h)
none_where_ok (Some error) sequence n h = absurd (err_ok h)
  where
    err_ok : ◌≡◌ {A = Result ℕ VenueError} (Ok n) (Err error) → ⊥
    err_ok e = cc

some_where_err : (o : Option VenueError) (sequence : ℕ) (error : VenueError) → IsAnswer o sequence (Err error) → (error ≡ errors.OutOfMemory → ⊥) → o ≡ Some error
some_where_err None sequence error h other = absurd (other h)
some_where_err (Some cause) sequence error h other = ap Some (sym (same h))
  where
    same : ◌≡◌ {A = Result ℕ VenueError} (Err error) (Err cause) → error ≡ cause
    same e = cc

module _ (w : World) (s : State) (has : WorldHas w s) (venue : VenueEnd) (acted : Acted) (command : Command) where
  abbrev after : State
  after = venue_has w.unit w.limits (Commanded command) s

  abbrev refused : Option VenueError
  refused = refusal s.venue.messages command

  commanded_sound : Sound w.unit w.limits after
  commanded_sound = does_sound w.unit w.limits (verbs.Command command) s has.sound

  pub acts_accepted : (n : ℕ) → IsAnswer refused (length s.venue.messages + 1) (Ok n) → Comes w.venue venue (Commanded command) → acted ≡ calm_of (outcome.Accepted n) → Acts w (record w { venue = venue }) acted s (commanded w.unit w.limits command s)
  acts_accepted n answer comes calm =
      let found = none_where_ok refused (length s.venue.messages + 1) n answer in
      acts_passed w (record w { venue = venue }) acted (command_outcome refused s) s after
      (passes_venue w s has venue (Commanded command) (venue_then w s has venue (Commanded command) comes) commanded_sound)
      (calm ∙ ap (λ (m : ℕ). calm_of (outcome.Accepted m)) found.1 ∙ ap (λ (o : Option VenueError). calm_of (command_outcome o s)) (sym found.0))

  pub acts_refused : (error : VenueError) → IsAnswer refused (length s.venue.messages + 1) (Err error) → (error ≡ errors.OutOfMemory → ⊥) → StandsStill w.venue venue → acted ≡ calm_of (outcome.Refused error)
      → Acts w (record w { venue = venue }) acted s (commanded w.unit w.limits command s)
  acts_refused error answer other stands calm =
      let found = some_where_err refused (length s.venue.messages + 1) error answer other in
      let v : VenueSetup = venue_setup w.unit w.limits in
      acts_passed w (record w { venue = venue }) acted (command_outcome refused s) s after
      (passes_venue w s has venue (Commanded command)
      (subst (λ (o : Option VenueError). VenueIs v venue (commanded_on o command s.venue)) (sym found) (seen_venue w s has (λ v now. VenueIs v venue now) stands)) commanded_sound)
      (calm ∙ ap (λ (o : Option VenueError). calm_of (command_outcome o s)) (sym found))

-- ---- Lists of datagrams
pub length_bytes : (lists : List (Roomy ℕ)) → length (bytes_in lists) ≡ length lists
length_bytes [] = refl
length_bytes (list ∷ lists) = ap suc (length_bytes lists)

pub bytes_more : (lists : List (Roomy ℕ)) (list : Roomy ℕ) → bytes_in (lists ++ list ∷ []) ≡ bytes_in lists ++ list.items ∷ []
bytes_more lists list = map-append (λ (l : Roomy ℕ). l.items) lists (list ∷ [])

pub bytes_take : (lists : List (Roomy ℕ)) (i : ℕ) (list : Roomy ℕ) → slice_get lists i ≡ Some list → bytes_in (take (i + 1) lists) ≡ bytes_in (take i lists) ++ list.items ∷ []
bytes_take lists i list at =
    ap (λ (ls : List (Roomy ℕ)). bytes_in ls) (take_more lists i list (slice_get_within lists i list at) ∙ ap (λ (l : Roomy ℕ). take i lists ++ l ∷ []) (get_or_from_slice_get lists i list list at)) ∙ bytes_more (take i lists) list

-- ---- What came on a line
-- the other parts of a state stay
hears_is : (unit : ℕ) (limits : Limits) (line : Line) (blocks : List Block) (s : State)
    → hears unit limits line blocks s ≡ record s { client = (hears unit limits line blocks s).client; notes = (hears unit limits line blocks s).notes }
hears_is unit limits line [] s = refl
hears_is unit limits line (block ∷ blocks) s = hears_is unit limits line blocks (hears_block unit limits line block s)

module _ (w : World) (s : State) (has : WorldHas w s) (client : SendingEnd) (arbiter : Arbiter) (passed : Passed) (acted : Acted) (line : Line) where
  abbrev new : World
  new = record w { client = client; arbiter = arbiter; passed = passed }

  acts_heard : (overflow : Bool) (number n : ℕ) (blocks : List Block) → HearsBlocks w.unit line w.client client w.arbiter arbiter blocks overflow → Sound w.unit w.limits (up_to line number (hears w.unit w.limits line blocks s))
      → passed ≡ passed_to line number w.passed → acted ≡ record { outcome = outcome.Heard n; overflow = overflow }
      → Acts w new acted s (done (outcome.Heard n) (up_to line number (hears w.unit w.limits line blocks s)))
  acts_heard overflow number n blocks heard sound behind is =
      let H : ℕ = w.limits.hold in
      let t : State = hears w.unit w.limits line blocks s in
      let listens : Listens w.unit w.limits w.client w.arbiter s = record { client = has.is.client; noted = has.is.noted; came = has.sound.client_came; came_is = has.sound.client_is } in
      let then = heard.listens w.limits s listens in
      let same = hears_is w.unit w.limits line blocks s in
      record {
        unit_is = refl;
        limits_are = refl;
        outcome_is = ap (λ (a : Acted). a.outcome) is;
        overflow_is = ap (λ (a : Acted). a.overflow) is ∙ heard.overflow_is w.limits s listens ∙ marked H s.client.heard t.client.heard (overflow_in H blocks s.client.heard) (marks_hears w.unit w.limits line blocks s);
        has = record {
          is = record {
            begun = has.is.begun ∙ ap (λ (u : State). u.begun) (sym same);
            venue = subst (λ (u : State). VenueIs (venue_setup w.unit w.limits) w.venue u.venue) (sym same) has.is.venue;
            client = record { unit_is = then.client.unit_is; end_is = then.client.end_is; grp_up = then.client.grp_up; spin_up = then.client.spin_up };
            sent = has.is.sent ∙ ap (λ (u : State). u.sent) (sym same);
            replayed = has.is.replayed ∙ ap (λ (u : State). u.replayed) (sym same);
            passed = behind ∙ ap (passed_to line number) (has.is.passed ∙ ap (λ (u : State). u.passed) (sym same));
            noted = then.noted;
          };
          sound = sound;
        };
      }

  -- ---- A datagram by its number, and those behind the last
  numbered_at : (datagrams : List (List ℕ)) (n : ℕ) → 1 ≤ n → numbered datagrams n ≡ slice_get datagrams (n - 1)
  numbered_at datagrams zero some = absurd (omega arith)
  numbered_at datagrams (suc n) some = let e : n ≡ suc n - 1 = omega arith in ap (slice_get datagrams) e

  found_at : (lists : List (Roomy ℕ)) (number : ℕ) (found : Option (Roomy ℕ)) → 1 ≤ number → bytes_in lists ≡ datagrams_on s line → slice_get lists (number - 1) ≡ found
      → numbered (datagrams_on s line) number ≡ option_map (λ (l : Roomy ℕ). l.items) found
  found_at lists number found some are at =
      numbered_at (datagrams_on s line) number some ∙ ap (λ (ds : List (List ℕ)). slice_get ds (number - 1)) (sym are) ∙ slice_get-map (λ (l : Roomy ℕ). l.items) lists (number - 1) ∙ ap (option_map (λ (l : Roomy ℕ). l.items)) at

  pub acts_delivered : (overflow : Bool) (number : ℕ) (lists : List (Roomy ℕ)) (list : Roomy ℕ) → 1 ≤ number → bytes_in lists ≡ datagrams_on s line → slice_get lists (number - 1) ≡ Some list
      → HearsBlocks w.unit line w.client client w.arbiter arbiter (blocks_of list.items) overflow → passed ≡ passed_to line number w.passed → acted ≡ record { outcome = outcome.Heard 1; overflow = overflow }
      → Acts w new acted s (delivered w.unit w.limits line number s)
  acts_delivered overflow number lists list some are at heard behind is =
      let found = found_at lists number (Some list) some are at in
      let sound : Sound w.unit w.limits (delivered_on w.unit w.limits line number (Some list.items) s).state =
      subst (λ (o : Option (List ℕ)). Sound w.unit w.limits (delivered_on w.unit w.limits line number o s).state) found (does_sound w.unit w.limits (verbs.Deliver line number) s has.sound) in
      subst (λ (o : Option (List ℕ)). Acts w new acted s (delivered_on w.unit w.limits line number o s)) (sym found) (acts_heard overflow number 1 (blocks_of list.items) heard sound behind is)

  pub acts_undelivered : (number : ℕ) (lists : List (Roomy ℕ)) → 1 ≤ number → bytes_in lists ≡ datagrams_on s line → slice_get lists (number - 1) ≡ None → acted ≡ calm_of outcome.NoDatagram → Acts w w acted s (delivered w.unit w.limits line number s)
  acts_undelivered number lists some are at calm =
      subst (λ (o : Option (List ℕ)). Acts w w acted s (delivered_on w.unit w.limits line number o s)) (sym (found_at lists number None some are at)) (acts_passed w w acted outcome.NoDatagram s s (passes_none w s has) calm)

  pub acts_rest : (overflow : Bool) (all n : ℕ) (lists rest : List (Roomy ℕ)) → bytes_in lists ≡ datagrams_on s line → all ≡ length lists → n ≡ passed_on w.passed line → rest ≡ drop n lists
      → HearsBlocks w.unit line w.client client w.arbiter arbiter (flat_map blocks_of (bytes_in rest)) overflow → passed ≡ passed_to line all w.passed → acted ≡ record { outcome = outcome.Heard (length rest); overflow = overflow }
      → Acts w new acted s (rest_delivered w.unit w.limits line s)
  acts_rest overflow all n lists rest are many from is heard behind shown =
      let datagrams : List (List ℕ) = datagrams_on s line in
      let passed_by : n ≡ passed_on s.passed line = from ∙ ap (λ (p : Passed). passed_on p line) has.is.passed in
      let left : List (List ℕ) = drop (passed_on s.passed line) datagrams in
      let rest_is : bytes_in rest ≡ left =
      ap (λ (l : List (Roomy ℕ)). bytes_in l) is ∙ sym (drop-map (λ (l : Roomy ℕ). l.items) n lists) ∙ ap (drop n) are ∙ ap (λ (k : ℕ). drop k datagrams) passed_by in
      let count : length rest ≡ length left = sym (length_bytes rest) ∙ ap (λ (ds : List (List ℕ)). length ds) rest_is in
      let total : all ≡ length datagrams = many ∙ sym (length_bytes lists) ∙ ap (λ (ds : List (List ℕ)). length ds) are in
      acts_heard overflow (length datagrams) (length left) (flat_map blocks_of left)
      (subst (λ (ds : List (List ℕ)). HearsBlocks w.unit line w.client client w.arbiter arbiter (flat_map blocks_of ds) overflow) rest_is heard) (does_sound w.unit w.limits (verbs.Rest line) s has.sound)
      (behind ∙ ap (λ (k : ℕ). passed_to line k w.passed) total) (shown ∙ ap (λ (k : ℕ). heard_of k overflow) count)
    where
      heard_of : ℕ → Bool → Acted
      heard_of k o = record { outcome = outcome.Heard k; overflow = o }

-- ---- A step
-- a world that stands for some verbs has what every state of verbs has
pub has_all : (w : World) (unit : ℕ) (limits : Limits) (done : List Verb) → WorldStands w unit limits done → WorldHas w (state_of unit limits done)
has_all w unit limits done stands =
    let s : State = state_of unit limits done in
    record {
      is = stands.is;
      sound = subst (λ (l : Limits). Sound w.unit l s) (sym stands.limits_are) (subst (λ (u : ℕ). Sound u limits s) (sym stands.unit_is) (every_state_is_sound unit limits done));
    }

module _ (old new : World) (acted : Acted) (verb : Verb) (unit : ℕ) (limits : Limits) (before : List Verb) (act : (s : State) → WorldHas old s → Acts old new acted s (does old.unit old.limits verb s)) (stands : WorldStands old unit limits before) where
  abbrev now : State
  now = state_of unit limits before

  did : Acts old new acted now (does unit limits verb now)
  did =
      subst (λ (l : Limits). Acts old new acted now (does unit l verb now)) stands.limits_are (subst (λ (u : ℕ). Acts old new acted now (does u old.limits verb now)) stands.unit_is (act now (has_all old unit limits before stands)))

  pub stepped : WorldStands (record new { begun = true }) unit limits (verb ∷ before)
  stepped =
      let t : State = (does unit limits verb now).state in
      record {
        unit_is = did.unit_is ∙ stands.unit_is;
        limits_are = did.limits_are ∙ stands.limits_are;
        is = record {
          begun = refl;
          venue = did.has.is.venue;
          client = client_still new t did.has (state_of unit limits (verb ∷ before)) refl refl refl;
          sent = did.has.is.sent;
          replayed = did.has.is.replayed;
          passed = did.has.is.passed;
          noted = did.has.is.noted;
        };
      }

  pub printed_so : (status : Status) → OfSending new.client (λ c came. status ≡ status_of c.hold (end_history c came)) → ◌≡◌ {A = Printed} (record { outcome = acted.outcome; status = status; overflow = acted.overflow }) (printed unit limits verb now)
  printed_so status holds =
      let t : State = (does unit limits verb now).state in
      let status_is : status ≡ status_of limits.hold t.client.heard =
      seen_client new t did.has (λ c at. status ≡ status_of c.hold at.heard) holds ∙ ap (λ (l : Limits). status_of l.hold t.client.heard) (did.limits_are ∙ stands.limits_are) in
      let overflow_is : acted.overflow ≡ overflowed limits.hold (length t.client.heard - length now.client.heard) t.client.heard =
      did.overflow_is ∙ ap (λ (l : Limits). overflowed l.hold (length t.client.heard - length now.client.heard) t.client.heard) stands.limits_are in
      λ i. record { outcome = did.outcome_is i; status = status_is i; overflow = overflow_is i }
