-- A client that asks for the image of all that the venue accepted takes it.
use Rattle.std.proofs.Common.{◌≡◌, ℕ, ◌<◌, ◌≤◌, Bool, true, ◌&&◌, cond, List, [], ◌∷◌, ◌++◌, length, refl, sym, ap, ◌∙◌, subst, arith, append_assoc, Option, Some, None, is_some, inl, inr, nat_eq}
use Rattle.std.specs.List.{concat}
use Rattle.std.proofs.lemmas.List.{append-nil}
use Rattle.std.proofs.lemmas.Bool.{eq-eqb, cases_lt}
use Rattle.pitch_fields.specs.Limits.{last_sequence}
use Rattle.pitch_text.specs.declared.verb.Session.TheVariants.{Spin as SpinSession}
use Rattle.pitch_text.specs.declared.verb.Verb.TheVariants as verbs
use Rattle.pitch_messages.specs.declared.session.SessionMessage.TheVariants.{LoginReply, SpinAvailable, SpinRequest, SpinReply, SpinFinished}
use Rattle.unit_packets.specs.Packing.{IsPacking, packed}
use Rattle.unit_packets.proofs.OnePacking.{packing_is_computed}
use Rattle.unit_packets.proofs.Streams.{of_nothing}
use Rattle.heard_items.specs.declared.item.Item.{Item}
use Rattle.heard_items.specs.declared.item.Item.TheVariants as item
use Rattle.heard_items.specs.Heard.{heard, heard_all}
use Rattle.pitch_model.specs.declared.ask.Ask.TheVariants as asks
use Rattle.pitch_model.specs.Advertising.{last_ten, newest_of, with_sequence}
use Rattle.pitch_model.specs.Asking.{ask_of}
use Rattle.pitch_model.specs.History.{Entry, Raw, Spinning, NoSpin, Asked as AskedFor, Running, adds, can_promise, spin_of, image_finished}
use Rattle.pitch_model.specs.History as entry
use Rattle.pitch_model.specs.Image.{image}
use Rattle.pitch_model.specs.Reach.{reach}
use Rattle.pitch_model.proofs.ImageRaws.{image_promised}
use Rattle.pitch_model.proofs.Rises.{reach_rises}
use Rattle.pitch_model.proofs.Draining.{taken_drains}
use Rattle.session_ends.specs.declared.closed.Closed.{Closed}
use Rattle.session_ends.specs.Answering.{Answer}
use Rattle.session_ends.specs.declared.role.Role.TheVariants.{SpinServer, SpinLink}
use Rattle.session_ends.specs.Closing.{closed_of, or_else}
use Rattle.session_ends.specs.Events.{Event, Fed, Ticked, Asked, Pumped, Told}
use Rattle.session_ends.specs.Sending.{message_bytes, heartbeat_bytes, sent_bytes, sent_since}
use Rattle.grp_session.specs.Budget.{Spent, next_second}
use Rattle.spin_server.specs.Served.{Served, is_served}
use Rattle.spin_server.specs.Serving.{Spin, spin_sends, spin_fed_answer, available_bytes, after_login, served_answer, refusal_answer}
use Rattle.client_links.specs.Linking.{Lookups, NoLookup, link_sends, login_bytes}
use Rattle.spin_path.specs.PathLaws.{IsFeed}
use Rattle.spin_path.proofs.Pictures.{image_raws, image_others, image_adds}
use Rattle.client_end.specs.Links.{spin_link, link_says}
use Rattle.venue_end.specs.Servers.{spin_says}
use Rattle.world_model.specs.Ends.{venue_setup, the_account}
use Rattle.world_model.specs.State.{State}
use Rattle.world_model.specs.Verbs.{next_state}
use Rattle.world_model.specs.declared.limits.Limits.{Limits}
use Rattle.world_laws.proofs.LinkHears.{Ready, Hears, hears_none, hears_both, hears_login, hears_available, hears_reply, hears_finished, image_hears, Brings}
use Rattle.world_laws.proofs.ServerRun.{Serves, spin_server, login_accepted, login_seen, login_answered, login_serves, request_seen, request_answered, request_serves}
use Rattle.world_laws.proofs.ImageRound.{SpinConnection, Round, at_server, sent_whole, at_round, pump_round, told_round, beat_or_none, beat_hears, tick_round, none_sent, image_left, image_sent}
use Rattle.world_laws.proofs.RoundVerbs.{at, fed_up, fed_down, both_ticked, up_step, down_step, tick_open, tick_step}

-- ---- What a login and an advertised sequence tell
-- the newest that was advertised before, if any
abbrev pub newest_told : Option ℕ → List Item
newest_told None = []
newest_told (Some m) = item.Advertised m ∷ []

abbrev pub login_items : Option ℕ → ℕ → List Item
login_items newest n = (item.SpinUp ∷ newest_told newest) ++ item.Advertised n ∷ []

ready_none : (unit : ℕ) → Ready unit []
ready_none unit = record { open_is = refl; whole = of_nothing.rest }

newest_hears : (unit : ℕ) (ls : List (Event Lookups)) → Ready unit ls → unit < 256 → (o : Option ℕ) → ((m : ℕ) → o ≡ Some m → m ≤ last_sequence) → Hears unit ls (available_bytes (spin_server unit) o) (newest_told o)
newest_hears unit ls r small None few = hears_none unit ls r
newest_hears unit ls r small (Some m) few = hears_available unit ls r unit m small (few m refl)

-- the bytes of a login's reply
abbrev login_reply : ℕ → Option ℕ → List ℕ
login_reply unit newest = message_bytes unit (LoginReply 65) ++ available_bytes (spin_server unit) newest

login_hears : (unit n : ℕ) (o : Option ℕ) → unit < 256 → n ≤ last_sequence → ((m : ℕ) → o ≡ Some m → m ≤ last_sequence)
    → Hears unit [] (((login_reply unit o ++ []) ++ []) ++ message_bytes unit (SpinAvailable n)) (login_items o n)
login_hears unit n o small few old =
    let h = hears_login unit [] (ready_none unit) unit small in
    let k = newest_hears unit (Fed (message_bytes unit (LoginReply 65)) NoLookup ∷ []) h.after small o old in
    let hk = hears_both unit [] (message_bytes unit (LoginReply 65)) (available_bytes (spin_server unit) o) (item.SpinUp ∷ []) (newest_told o) h k in
    let l = hears_available unit (Fed (login_reply unit o) NoLookup ∷ []) hk.after unit n small few in
    let all = hears_both unit [] (login_reply unit o) (message_bytes unit (SpinAvailable n)) (item.SpinUp ∷ newest_told o) (item.Advertised n ∷ []) hk l in
    subst (λ (b : List ℕ). Hears unit [] (b ++ message_bytes unit (SpinAvailable n)) (login_items o n)) (sym (append-nil (login_reply unit o)) ∙ sym (append-nil (login_reply unit o ++ []))) all

-- ---- The connection, verb by verb
module _ (unit : ℕ) (small : unit < 256) (limits : Limits) (s : State) (t : Spent) (A : List ℕ) (E : List Entry) where
  abbrev V : List Raw
  V = s.venue.messages

  abbrev n : ℕ
  n = length s.venue.messages

  abbrev pub newest : Option ℕ
  newest = newest_of (last_ten A)

  abbrev view : Served
  view = record { messages = s.venue.messages; advertised = last_ten A }

  abbrev says : Event (List Served) → List (Event (List Served)) → List ℕ
  says event before = spin_says (venue_setup unit limits) event before

  -- the login waits
  abbrev L : List ℕ
  L = login_bytes SpinLink unit the_account

  abbrev c0 : SpinConnection
  c0 = record { up = login_bytes SpinLink unit the_account; down = []; server = []; link = [] }

  -- it was carried up
  abbrev fed : SpinConnection
  fed = at_server unit limits (Fed L (login_seen unit small view)) (record { up = []; down = []; server = []; link = [] })

  login_said : says (Fed L (login_seen unit small view)) [] ≡ login_reply unit newest ++ []
  login_said =
      ap (λ (a : Answer (Option Spin)). a.reply) (login_answered unit small view)
      ∙ ap (λ (status : ℕ). (sent_bytes (spin_server unit) (LoginReply status) ++ after_login (spin_server unit) status newest) ++ []) (login_accepted unit)

  fed_round : Round unit fed [] (login_reply unit newest ++ []) None
  fed_round = record { up_is = refl; down_is = login_said; server = login_serves unit small view; link = ready_none unit }

  abbrev c1 : SpinConnection
  c1 = at_server unit limits Pumped fed

  abbrev pub c2 : SpinConnection
  c2 = at_server unit limits (Told n) c1

  abbrev D : List ℕ
  D = ((login_reply unit newest ++ []) ++ []) ++ message_bytes unit (SpinAvailable n)

  c2_round : Round unit c2 [] D None
  c2_round = told_round unit limits c1 [] ((login_reply unit newest ++ []) ++ []) n (pump_round unit limits fed [] (login_reply unit newest ++ []) None fed_round)

  -- so far the verbs are an open, an up and an advertise
  pub advertised_state : next_state unit limits verbs.Advertise (next_state unit limits (verbs.Up SpinSession None) (next_state unit limits (verbs.Connect SpinSession) (at s t A None E)))
      ≡ at s t (with_sequence A n) (Some c2) E
  advertised_state =
      ap (next_state unit limits verbs.Advertise) (up_step unit limits s t A E c0)
      ∙ ap (λ (k : SpinConnection). next_state unit limits verbs.Advertise (at s t A (Some k) E)) (none_sent unit limits fed [] (login_reply unit newest ++ []) fed_round)

  module _ (venues : IsFeed s.venue.messages) (old : (m : ℕ) → newest ≡ Some m → m ≤ last_sequence) where
    abbrev pub E1 : List Entry
    E1 = heard_all (login_items newest n) E

    c2_hears : Hears unit c2.link c2.down (login_items newest n)
    c2_hears = subst (λ (b : List ℕ). Hears unit [] b (login_items newest n)) (sym c2_round.down_is) (login_hears unit n newest small venues.top old)

    abbrev pub c3 : SpinConnection
    c3 = fed_down unit limits s t (with_sequence A n) E c2 c2.down

    c3_round : Round unit c3 [] [] None
    c3_round = record { up_is = refl; down_is = refl; server = c2_round.server; link = c2_hears.after }

    pub told_state : next_state unit limits (verbs.Down SpinSession None) (at s t (with_sequence A n) (Some c2) E) ≡ at s t (with_sequence A n) (Some c3) E1
    told_state = down_step unit limits s t (with_sequence A n) E c2 (login_items newest n) c2_hears

    -- ---- The tick and the request
    abbrev A' : List ℕ
    A' = with_sequence A n

    pub ticked_open : closed_of (spin_link unit) (Ticked ∷ c3.link) ≡ None
    ticked_open = tick_open unit c3.link c3_round.link.open_is refl

    abbrev pub c4 : SpinConnection
    c4 = both_ticked unit limits s t A' E1 c3 (Some (asks.Spin n))

    pub W : List ℕ
    W = beat_or_none unit (sent_since (spin_sends (spin_server unit)) SpinServer c3.server)

    abbrev R : List ℕ
    R = message_bytes unit (SpinRequest n)

    link_silent : link_says (spin_link unit) Ticked c3.link ≡ []
    link_silent = ap (λ (o : Option Closed). cond (is_some o) [] (cond (sent_since (link_sends (spin_link unit)) SpinLink c3.link) [] (heartbeat_bytes unit))) ticked_open

    link_asks : link_says (spin_link unit) (Asked (SpinRequest n)) (Ticked ∷ c3.link) ≡ R
    link_asks = ap (λ (o : Option Closed). cond (is_some o) [] (message_bytes unit (SpinRequest n))) ticked_open

    pub c4_round : Round unit c4 R W None
    unfolding W
    c4_round =
        let r = tick_round unit limits c3 [] [] c3_round refl in
        record {
          up_is = (λ i. link_silent i ++ link_asks i);
          down_is = r.down_is;
          server = r.server;
          link = record { open_is = ap (λ (o : Option Closed). or_else o None) ticked_open; whole = c3_round.link.whole };
        }

    pub asked_state : ask_of limits.hold E1 ≡ Some (asks.Spin n) → next_state unit limits verbs.Tick (at s t A' (Some c3) E1) ≡ at s (next_second t) A' (Some c4) (entry.Ticked (Some (asks.Spin n)) ∷ E1)
    asked_state is = tick_step unit limits s t A' E1 c3 (Some (asks.Spin n)) ticked_open is

    -- ---- The image
    abbrev view' : Served
    view' = record { messages = s.venue.messages; advertised = last_ten A' }

    abbrev orders : ℕ
    orders = adds (image V n)

    abbrev datagrams : List (List ℕ)
    datagrams = packed unit 0 (image V n)

    abbrev E2 : List Entry
    E2 = entry.Ticked (Some (asks.Spin n)) ∷ E1

    module _ (served : is_served view' n ≡ true) where
      abbrev at4 : Serves unit c4.server None
      at4 = c4_round.server

      abbrev seen : List Served
      seen = request_seen unit small view' n venues.top c4.server c4_round.server

      abbrev answer : Bool → Answer (Option Spin)
      answer b = cond b (served_answer (spin_server unit) view' n None) (refusal_answer (spin_server unit) n 79 None)

      request_said : says (Fed R seen) c4.server ≡ sent_bytes (spin_server unit) (SpinReply n orders 65) ++ []
      request_said =
          ap (λ (o : Option Spin). (spin_fed_answer (spin_server unit) c4.server R seen o).reply) at4.spin_is
          ∙ ap (λ (a : Answer (Option Spin)). a.reply) (request_answered unit small view' n venues.top c4.server c4_round.server)
          ∙ ap (λ (b : Bool). (answer b).reply ++ []) served

      asked_serves : Serves unit (Fed R seen ∷ c4.server) (image_left n datagrams)
      asked_serves = subst (λ (b : Bool). Serves unit (Fed R seen ∷ c4.server) (answer b).knows) served (request_serves unit small view' n venues.top c4.server c4_round.server)

      abbrev taken : SpinConnection
      taken = record { up = []; down = c4.down; server = c4.server; link = c4.link }

      taken_round : Round unit taken [] W None
      taken_round = record { up_is = refl; down_is = c4_round.down_is; server = c4_round.server; link = c4_round.link }

      abbrev c5 : SpinConnection
      c5 = at_server unit limits (Fed R seen) taken

      c5_round : Round unit c5 [] (W ++ (message_bytes unit (SpinReply n orders 65) ++ [])) (image_left n datagrams)
      c5_round = at_round unit limits taken [] W None (image_left n datagrams) taken_round (Fed R seen) (message_bytes unit (SpinReply n orders 65) ++ []) request_said asked_serves

      abbrev pub c6 : SpinConnection
      c6 = sent_whole unit limits c5

      abbrev B : List ℕ
      B = (W ++ (message_bytes unit (SpinReply n orders 65) ++ [])) ++ (concat datagrams ++ message_bytes unit (SpinFinished n))

      c6_round : Round unit c6 [] B None
      c6_round = image_sent unit limits n datagrams c5 [] (W ++ (message_bytes unit (SpinReply n orders 65) ++ [])) c5_round

      pub served_state : next_state unit limits (verbs.Up SpinSession None) (at s (next_second t) A' (Some c4) E2) ≡ at s (next_second t) A' (Some c6) E2
      served_state =
          up_step unit limits s (next_second t) A' E2 c4
          ∙ ap (λ (w : List ℕ). at s (next_second t) A' (Some (fed_up unit limits s (next_second t) A' E2 c4 w)) E2) c4_round.up_is

      -- ---- What the link tells of it
      packing : IsPacking unit 0 (image V n) datagrams
      packing = packing_is_computed unit 0 (image V n) small (image_raws V n venues.bytes) (inl refl)

      record ImageTold (ls : List (Event Lookups)) : Type 0 where
        items : List Item
        brings : Brings items (image V n)
        hears : Hears unit ls B (item.SpinReply n orders 65 ∷ (items ++ item.SpinFinished n ∷ []))

      image_told : (ls : List (Event Lookups)) → Ready unit ls → ImageTold ls
      unfolding W
      image_told ls r =
          let reply : List ℕ = message_bytes unit (SpinReply n orders 65) in
          let finished : List ℕ = message_bytes unit (SpinFinished n) in
          let beat : List ℕ = beat_or_none unit (sent_since (spin_sends (spin_server unit)) SpinServer c3.server) in
          let h1 = beat_hears unit ls small r (sent_since (spin_sends (spin_server unit)) SpinServer c3.server) in
          let h2 = hears_reply unit (Fed beat NoLookup ∷ ls) h1.after unit n orders small venues.top (image_adds V n) in
          let h12 = hears_both unit ls beat reply [] (item.SpinReply n orders 65 ∷ []) h1 h2 in
          let h3 = image_hears unit (Fed (beat ++ reply) NoLookup ∷ ls) h12.after unit (image V n) datagrams (image_others V n) packing in
          let h123 = hears_both unit ls (beat ++ reply) (concat datagrams) (item.SpinReply n orders 65 ∷ []) h3.items h12 h3.hears in
          let h4 = hears_finished unit (Fed ((beat ++ reply) ++ concat datagrams) NoLookup ∷ ls) h123.after unit n small venues.top in
          let all = hears_both unit ls ((beat ++ reply) ++ concat datagrams) finished (item.SpinReply n orders 65 ∷ h3.items) (item.SpinFinished n ∷ []) h123 h4 in
          let same : ((beat ++ reply) ++ concat datagrams) ++ finished ≡ (beat ++ (reply ++ [])) ++ (concat datagrams ++ finished) =
          append_assoc (beat ++ reply) (concat datagrams) finished ∙ ap (λ (l : List ℕ). (beat ++ l) ++ (concat datagrams ++ finished)) (sym (append-nil reply)) in
          record { items = h3.items; brings = h3.brings; hears = subst (λ (b : List ℕ). Hears unit ls b (item.SpinReply n orders 65 ∷ (h3.items ++ item.SpinFinished n ∷ []))) same all }

      -- ---- What the client makes of it
      heard_both : (xs ys : List Item) (F : List Entry) → heard_all (xs ++ ys) F ≡ heard_all ys (heard_all xs F)
      heard_both [] ys F = refl
      heard_both (x ∷ xs) ys F = heard_both xs ys (heard x F)

      abbrev E3 : List Entry
      E3 = entry.SpinReply n orders true ∷ E2

      runs : spin_of E3 ≡ Running n orders []
      runs =
          ap (λ (b : Bool). cond b (cond (true && can_promise n orders) (Running n orders []) NoSpin) (AskedFor n)) (eq-eqb n n refl)
          ∙ ap (λ (b : Bool). cond (true && b) (Running n orders []) NoSpin) (image_promised V n venues.top)

      finishes : (spin : Spinning) → spin ≡ Running n orders (image V n) → image_finished spin n ≡ (n, image V n) ∷ []
      finishes spin is =
          ap (λ (x : Spinning). image_finished x n) is
          ∙ ap (λ (b : Bool). cond (b && nat_eq (adds (image V n)) orders) ((n, image V n) ∷ []) []) (eq-eqb n n refl)
          ∙ ap (λ (b : Bool). cond (true && b) ((n, image V n) ∷ []) []) (eq-eqb (adds (image V n)) orders refl)

      taken_reach : (H : ℕ) (F : List Entry) → spin_of F ≡ Running n orders (image V n) → n ≤ reach H (entry.SpinFinished n ∷ F)
      taken_reach H F is =
          let rise = reach_rises H F (entry.SpinFinished n) in
          elim (cases_lt (reach H F) n) [
            | inl above ↦ (taken_drains H F n n (image V n) (finishes (spin_of F) is) above).runs.up
            | inr known ↦ omega (arith, known, rise)
          ]

      pub image_reached : (x : State) → x ≡ next_state unit limits (verbs.Down SpinSession None) (at s (next_second t) A' (Some c6) E2) → n ≤ reach limits.hold x.client.heard
      image_reached x is =
          let told = image_told c6.link c6_round.link in
          let items : List Item = item.SpinReply n orders 65 ∷ (told.items ++ item.SpinFinished n ∷ []) in
          let hears : Hears unit c6.link c6.down items = subst (λ (b : List ℕ). Hears unit c6.link b items) (sym c6_round.down_is) told.hears in
          let heard_is : x.client.heard ≡ entry.SpinFinished n ∷ heard_all told.items E3 =
          ap (λ (y : State). y.client.heard) (is ∙ down_step unit limits s (next_second t) A' E2 c6 items hears) ∙ heard_both told.items (item.SpinFinished n ∷ []) E3 in
          subst (λ (F : List Entry). n ≤ reach limits.hold F) (sym heard_is) (taken_reach limits.hold (heard_all told.items E3) (told.brings E3 n orders [] runs))
