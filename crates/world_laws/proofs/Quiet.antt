-- Where no connection of a session stands, the client knows of none: its end is down, and no reply
-- is owed and no spin under way.
use Rattle.std.proofs.Common.{◌≡◌, ℕ, Bool, true, false, ◌&&◌, ◌||◌, not, cond, List, [], ◌∷◌, refl, ap, ◌∙◌, Option, Some, None, is_some, nat_lt, nat_eq, take}
use Rattle.std.specs.List.{AllByRecursion}
use Rattle.pitch_fields.proofs.Lists.{all_take}
use Rattle.unit_packets.specs.Blocks.{Block}
use Rattle.pitch_text.specs.declared.verb.Verb.{Verb}
use Rattle.pitch_messages.specs.declared.session.SessionMessage.{SessionMessage}
use Rattle.pitch_messages.specs.declared.session.SessionMessage.TheVariants.{Login, LoginReply, GapRequest, GapReply, SpinAvailable, SpinRequest, SpinReply, SpinFinished}
use Rattle.heard_items.specs.declared.item.Item.{Item}
use Rattle.heard_items.specs.declared.item.Item.TheVariants as item
use Rattle.heard_items.specs.Heard.{heard, heard_block, heard_all}
use Rattle.pitch_model.specs.declared.ask.Ask.{Ask}
use Rattle.pitch_model.specs.declared.ask.Ask.TheVariants as asks
use Rattle.pitch_model.specs.Asking.{is_grp_up, is_spin_up, advertised_of, ask_of, ask_with, spin_or_gap, gap_or_none, gap_ask, asks_spin, wants, is_idle, least_held, owes, asked_at}
use Rattle.pitch_model.specs.History.{Entry, NoSpin, spin_of, spin_asked}
use Rattle.pitch_model.specs.History as entry
use Rattle.pitch_model.specs.Reach.{reach}
use Rattle.pitch_model.specs.Status.{top_of}
use Rattle.session_ends.specs.declared.role.Role.TheVariants.{SpinLink}
use Rattle.session_ends.specs.declared.role.Said.{Said}
use Rattle.session_ends.specs.declared.role.Said.TheVariants.{Skipped, TooShort, Message}
use Rattle.session_ends.specs.Closing.{Setup, closed_of}
use Rattle.session_ends.specs.Events.{Event, Ticked, Asked}
use Rattle.session_ends.specs.Saying.{heard_by}
use Rattle.client_links.specs.Linking.{Lookups, link_tells}
use Rattle.client_links.specs.Telling.{told_of, told_said, run_of}
use Rattle.client_end.specs.Came.{Came, EndSetup, EndState, Heard, GrpMade, GrpTook, GrpCut, GrpLost, SpinMade, SpinTook, SpinCut, SpinLost, Second, of_grp, of_spin, grp_link_ticks, both_links_tick, ask_sent, client_asks, end_step}
use Rattle.client_end.specs.Links.{gap_link, spin_link}
use Rattle.client_end.specs.Sessions.{SessionState, heard_cut, link_cut, link_made, settled_at, link_settled, fed_at, link_took, link_lost, happened, link_happened}
use Rattle.client_end.specs.layers.Hearing.{IsGapTold}
use Rattle.world_model.specs.Ends.{client_setup}
use Rattle.world_model.specs.Verbs.{state_of}
use Rattle.world_model.specs.declared.limits.Limits.{Limits}
use Rattle.client_end.proofs.LinkItems.{AreGapTold, gap_link_tells, link_all}
use Rattle.world_laws.proofs.EachVerb.{all_hold, all_say}
use Rattle.world_laws.proofs.Joined.{Link}
use Rattle.world_laws.proofs.Lasting.{by_block}

pub record SpinOff (E : List Entry) : Type 0 where
  pub down : is_spin_up E ≡ false
  pub idle : spin_of E ≡ NoSpin
  pub none : advertised_of E ≡ None

pub record GrpOff (E : List Entry) : Type 0 where
  pub down : is_grp_up E ≡ false
  pub free : owes E ≡ false

pub record Quiet (now : EndState) : Type 0 where
  pub grp : now.grp ≡ None → GrpOff now.heard
  pub spin : now.spin ≡ None → SpinOff now.heard

-- ---- What blocks tell
off_entry : (x : Entry) (E : List Entry) → is_spin_up (x ∷ E) ≡ is_spin_up E → spin_of (x ∷ E) ≡ spin_of E → advertised_of (x ∷ E) ≡ advertised_of E → SpinOff E → SpinOff (x ∷ E)
off_entry x E up spin none off = record { down = up ∙ off.down; idle = spin ∙ off.idle; none = none ∙ off.none }

off_grp : (x : Entry) (E : List Entry) → is_grp_up (x ∷ E) ≡ is_grp_up E → owes (x ∷ E) ≡ owes E → GrpOff E → GrpOff (x ∷ E)
off_grp x E up owed off = record { down = up ∙ off.down; free = owed ∙ off.free }

block_grp : (block : Block) (E : List Entry) → GrpOff E → GrpOff (heard_block block E)
block_grp = by_block GrpOff (λ E k raw p. off_grp (entry.Message k raw) E refl refl p) (λ E k p. off_grp (entry.Next k) E refl refl p)

block_spin : (block : Block) (E : List Entry) → SpinOff E → SpinOff (heard_block block E)
block_spin = by_block SpinOff (λ E k raw p. off_entry (entry.Message k raw) E refl refl refl p) (λ E k p. off_entry (entry.Next k) E refl refl refl p)

-- ---- What links tell
gap_items : (items : List Item) (E : List Entry) → AreGapTold items → SpinOff E → SpinOff (heard_all items E)
gap_items [] E all off = off
gap_items (item.GrpUp ∷ items) E all off = gap_items items (entry.GrpUp ∷ E) all.1 (off_entry entry.GrpUp E refl refl refl off)
gap_items (item.GapReply k count status ∷ items) E all off = gap_items items _ all.1 (off_entry _ E refl refl refl off)
gap_items (item.Messages first raws ∷ items) E all off = absurd all.0
gap_items (item.Next n ∷ items) E all off = absurd all.0
gap_items (item.Nothing ∷ items) E all off = absurd all.0
gap_items (item.GrpDown ∷ items) E all off = absurd all.0
gap_items (item.SpinUp ∷ items) E all off = absurd all.0
gap_items (item.SpinDown ∷ items) E all off = absurd all.0
gap_items (item.Advertised n ∷ items) E all off = absurd all.0
gap_items (item.SpinReply n orders status ∷ items) E all off = absurd all.0
gap_items (item.ImageMessages raws ∷ items) E all off = absurd all.0
gap_items (item.SpinFinished n ∷ items) E all off = absurd all.0

-- an item with which the proxy stays down and owes nothing
abbrev NoProxy : Item → Type 0
NoProxy x = (E : List Entry) → GrpOff E → GrpOff (heard x E)

no_proxy_run : (raws : List (List ℕ)) → AllByRecursion NoProxy (run_of SpinLink raws)
no_proxy_run [] = tt
no_proxy_run (raw ∷ raws) = (λ E off. off_grp _ E refl refl off, tt)

no_proxy_message : (m : SessionMessage) → AllByRecursion NoProxy (told_of true m)
no_proxy_message (LoginReply status) = by (nat_eq status 65)
  where
    by : (b : Bool) → AllByRecursion NoProxy (cond b (item.SpinUp ∷ []) [])
    by true = (λ E off. off_grp entry.SpinUp E refl refl off, tt)
    by false = tt
no_proxy_message (GapReply unit k count status) = (λ E off. record { down = off.down; free = refl }, tt)
no_proxy_message (SpinAvailable n) = (λ E off. off_grp _ E refl refl off, tt)
no_proxy_message (SpinReply n orders status) = (λ E off. off_grp _ E refl refl off, tt)
no_proxy_message (SpinFinished n) = (λ E off. off_grp _ E refl refl off, tt)
no_proxy_message (Login sub user password) = tt
no_proxy_message (GapRequest unit k count) = tt
no_proxy_message (SpinRequest n) = tt

no_proxy_said : (x : Said) → AllByRecursion NoProxy (told_said SpinLink x)
no_proxy_said Skipped = tt
no_proxy_said TooShort = tt
no_proxy_said (Message m) = no_proxy_message m

spin_items : (items : List Item) (E : List Entry) → AllByRecursion NoProxy items → GrpOff E → GrpOff (heard_all items E)
spin_items [] E all off = off
spin_items (x ∷ items) E all off = spin_items items (heard x E) all.1 (all.0 E off)

spin_tells : (unit : ℕ) (before : List (Event Lookups)) (bytes : List ℕ) → AllByRecursion NoProxy (link_tells (spin_link unit) before bytes)
spin_tells unit before bytes = link_all NoProxy (spin_link unit) no_proxy_run (λ h. no_proxy_said (heard_by SpinLink h)) before bytes

-- ---- What is asked
-- no image is asked for where the Spin Server is down
no_spin_asked : (H : ℕ) (E : List Entry) → is_spin_up E ≡ false → spin_asked (ask_of H E) NoSpin ≡ NoSpin
no_spin_asked H E down = by (top_of E)
  where
    gap : (top : ℕ) (b : Bool) → spin_asked (cond b (Some (gap_ask (reach H E) (least_held H E) top)) None) NoSpin ≡ NoSpin
    gap top true = refl
    gap top false = refl

    and_false : (b : Bool) → (b && false) ≡ false
    and_false true = refl
    and_false false = refl

    never : (top n : ℕ) → asks_spin H E top n ≡ false
    never top n = ap (λ (b : Bool). (wants H E top || not (is_grp_up E)) && (b && (is_idle (spin_of E) && nat_lt (reach H E) n))) down ∙ and_false (wants H E top || not (is_grp_up E))

    asked_now : (top : ℕ) (o : Option ℕ) → spin_asked (spin_or_gap H E top o) NoSpin ≡ NoSpin
    asked_now top None = gap top (is_grp_up E && not (owes E))
    asked_now top (Some n) = ap (λ (b : Bool). spin_asked (cond b (Some (asks.Spin n)) (gap_or_none H E top)) NoSpin) (never top n) ∙ gap top (is_grp_up E && not (owes E))

    at_top : (top : ℕ) (b : Bool) → spin_asked (cond b None (spin_or_gap H E top (advertised_of E))) NoSpin ≡ NoSpin
    at_top top true = refl
    at_top top false = asked_now top (advertised_of E)

    by : (o : Option ℕ) → spin_asked (ask_with H E o) NoSpin ≡ NoSpin
    by None = refl
    by (Some top) = at_top top (nat_eq (reach H E) top)

-- no messages are asked for where the proxy is down
no_gap_asked : (H : ℕ) (E : List Entry) (b : Bool) → is_grp_up E ≡ false → asked_at (ask_of H E) b ≡ b
no_gap_asked H E b down = by (top_of E)
  where
    gap : (top : ℕ) → asked_at (gap_or_none H E top) b ≡ b
    gap top = ap (λ (up : Bool). asked_at (cond (up && not (owes E)) (Some (gap_ask (reach H E) (least_held H E) top)) None) b) down

    either : (top n : ℕ) (c : Bool) → asked_at (cond c (Some (asks.Spin n)) (gap_or_none H E top)) b ≡ b
    either top n true = refl
    either top n false = gap top

    asked_now : (top : ℕ) (o : Option ℕ) → asked_at (spin_or_gap H E top o) b ≡ b
    asked_now top None = gap top
    asked_now top (Some n) = either top n (asks_spin H E top n)

    at_top : (top : ℕ) (c : Bool) → asked_at (cond c None (spin_or_gap H E top (advertised_of E))) b ≡ b
    at_top top true = refl
    at_top top false = asked_now top (advertised_of E)

    by : (o : Option ℕ) → asked_at (ask_with H E o) b ≡ b
    by None = refl
    by (Some top) = at_top top (nat_eq (reach H E) top)

-- ---- One session, and what is kept over it of the other
some_none : {X : Type 0} (x : X) → ◌≡◌ {A = Option X} (Some x) None → ⊥
some_none x e = cc

module _ (setup : Setup) (down : Entry) (Off Over : List Entry → Type 0) (Told : Item → Type 0) (downs : (E : List Entry) → Off (down ∷ E)) (overs : (E : List Entry) → Over E → Over (down ∷ E))
    (tells : (before : List (Event Lookups)) (bytes : List ℕ) → AllByRecursion Told (link_tells setup before bytes)) (told : (items : List Item) (E : List Entry) → AllByRecursion Told items → Over E → Over (heard_all items E)) where
  record IsOff (x : SessionState) : Type 0 where
    off : x.link ≡ None → Off x.heard
    over : Over x.heard

  cut_off : (E : List Entry) (link : Link) → (link ≡ None → Off E) → Off (heard_cut down E link)
  cut_off E None off = off refl
  cut_off E (Some events) off = downs E

  cut_over : (E : List Entry) (link : Link) → Over E → Over (heard_cut down E link)
  cut_over E None over = over
  cut_over E (Some events) over = overs E over

  cut_is_off : (x : SessionState) → (x.link ≡ None → Off x.heard) → Over x.heard → IsOff (link_cut down x)
  cut_is_off x off over = record { off = λ e. cut_off x.heard x.link off; over = cut_over x.heard x.link over }

  made_is_off : (x : SessionState) → Over x.heard → IsOff (link_made down x)
  made_is_off x over = record { off = λ e. absurd (some_none [] e); over = cut_over x.heard x.link over }

  settled_is_off : (E : List Entry) (link : Link) → (link ≡ None → Off E) → Over E → IsOff (settled_at setup down E link)
  settled_is_off E None off over = record { off = off; over = over }
  settled_is_off E (Some events) off over = by (is_some (closed_of setup events))
    where
      by : (b : Bool) → IsOff (cond b (record { heard = down ∷ E; link = None }) (record { heard = E; link = Some events }))
      by true = record { off = λ e. downs E; over = overs E over }
      by false = record { off = λ e. absurd (some_none events e); over = over }

  fed_is_off : (bytes : List ℕ) (E : List Entry) (link : Link) → (link ≡ None → Off E) → Over E → IsOff (fed_at setup bytes E link)
  fed_is_off bytes E None off over = record { off = off; over = over }
  fed_is_off bytes E (Some events) off over = record { off = λ e. absurd (some_none _ e); over = told (link_tells setup events bytes) E (tells events bytes) over }

  took_is_off : (bytes : List ℕ) (x : SessionState) → (x.link ≡ None → Off x.heard) → Over x.heard → IsOff (link_took setup down bytes x)
  took_is_off bytes x off over =
      let fed : SessionState = fed_at setup bytes x.heard x.link in
      let is = fed_is_off bytes x.heard x.link off over in
      settled_is_off fed.heard fed.link is.off is.over

  lost_is_off : (bytes : List ℕ) (count : ℕ) (E : List Entry) (link : Link) → (link ≡ None → Off E) → Over E → IsOff (link_lost setup down bytes count (record { heard = E; link = link }))
  lost_is_off bytes count E None off over = record { off = off; over = over }
  lost_is_off bytes count E (Some events) off over = record { off = λ e. downs _; over = overs _ (told (take count (link_tells setup events bytes)) E (all_take Told count (link_tells setup events bytes) (tells events bytes)) over) }

  parted_is_off : (bytes : List ℕ) (count : ℕ) (x : SessionState) → (x.link ≡ None → Off x.heard) → Over x.heard → IsOff (link_lost setup down bytes count x)
  parted_is_off bytes count x off over = lost_is_off bytes count x.heard x.link off over

  happens_is_off : (event : Event Lookups) (E : List Entry) (link : Link) → (link ≡ None → Off E) → happened event link ≡ None → Off E
  happens_is_off event E None off e = off refl
  happens_is_off event E (Some events) off e = absurd (some_none _ e)

  ticked_is_off : (x : SessionState) → (x.link ≡ None → Off x.heard) → Over x.heard → IsOff (link_settled setup down (link_happened Ticked x))
  ticked_is_off x off over = settled_is_off x.heard (happened Ticked x.link) (happens_is_off Ticked x.heard x.link off) over

-- ---- All that comes to the client's end
module _ (s : EndSetup) (now : EndState) (q : Quiet now) where
  abbrev SpinKept : List Entry → Type 0
  SpinKept E = now.spin ≡ None → SpinOff E

  abbrev GrpKept : Link → List Entry → Type 0
  GrpKept link E = link ≡ None → GrpOff E

  abbrev grp_downs : (E : List Entry) → GrpOff (entry.GrpDown ∷ E)
  grp_downs E = record { down = refl; free = refl }

  abbrev spin_downs : (E : List Entry) → SpinOff (entry.SpinDown ∷ E)
  spin_downs E = record { down = refl; idle = refl; none = refl }

  abbrev over_grp : (E : List Entry) → SpinKept E → SpinKept (entry.GrpDown ∷ E)
  over_grp E kept e = off_entry entry.GrpDown E refl refl refl (kept e)

  abbrev over_spin : (link : Link) (E : List Entry) → GrpKept link E → GrpKept link (entry.SpinDown ∷ E)
  over_spin link E kept e = off_grp entry.SpinDown E refl refl (kept e)

  abbrev gap_told : (items : List Item) (E : List Entry) → AreGapTold items → SpinKept E → SpinKept (heard_all items E)
  gap_told items E all kept e = gap_items items E all (kept e)

  abbrev spin_told : (link : Link) (items : List Item) (E : List Entry) → AllByRecursion NoProxy items → GrpKept link E → GrpKept link (heard_all items E)
  spin_told link items E all kept e = spin_items items E all (kept e)

  asked_quiet : (a : Option Ask) (x : EndState) → Quiet x → Quiet (ask_sent s a x)
  asked_quiet None x y = y
  asked_quiet (Some (asks.Gap first count)) x y = record { grp = λ e. y.grp (still x.grp e); spin = y.spin }
    where
      still : (o : Link) → happened (Asked (GapRequest s.unit first count)) o ≡ None → o ≡ None
      still None e = refl
      still (Some events) e = absurd (some_none _ e)
  asked_quiet (Some (asks.Spin n)) x y = record { grp = y.grp; spin = λ e. y.spin (still x.spin e) }
    where
      still : (o : Link) → happened (Asked (SpinRequest n)) o ≡ None → o ≡ None
      still None e = refl
      still (Some events) e = absurd (some_none _ e)

  client_quiet : (x : EndState) → Quiet x → Quiet (client_asks s x)
  client_quiet x y = asked_quiet (ask_of s.hold x.heard) (record x { heard = entry.Ticked (ask_of s.hold x.heard) ∷ x.heard }) (record {
    grp = λ e. let off = y.grp e in record { down = off.down; free = no_gap_asked s.hold x.heard (owes x.heard) off.down ∙ off.free };
    spin = λ e. let off = y.spin e in record { down = off.down; idle = ap (spin_asked (ask_of s.hold x.heard)) off.idle ∙ no_spin_asked s.hold x.heard off.down; none = off.none };
  })

  step_quiet : (came : Came) → Quiet (end_step s came now)
  step_quiet (Heard block) = record { grp = λ e. block_grp block now.heard (q.grp e); spin = λ e. block_spin block now.heard (q.spin e) }
  step_quiet GrpMade = let x = made_is_off gap_link entry.GrpDown GrpOff SpinKept IsGapTold grp_downs over_grp gap_link_tells gap_told (of_grp now) q.spin in record { grp = x.off; spin = x.over }
  step_quiet (GrpTook bytes) = let x = took_is_off gap_link entry.GrpDown GrpOff SpinKept IsGapTold grp_downs over_grp gap_link_tells gap_told bytes (of_grp now) q.grp q.spin in record { grp = x.off; spin = x.over }
  step_quiet GrpCut = let x = cut_is_off gap_link entry.GrpDown GrpOff SpinKept IsGapTold grp_downs over_grp gap_link_tells gap_told (of_grp now) q.grp q.spin in record { grp = x.off; spin = x.over }
  step_quiet (GrpLost bytes count) = let x = parted_is_off gap_link entry.GrpDown GrpOff SpinKept IsGapTold grp_downs over_grp gap_link_tells gap_told bytes count (of_grp now) q.grp q.spin in record { grp = x.off; spin = x.over }
  step_quiet SpinMade = let x = made_is_off (spin_link s.unit) entry.SpinDown SpinOff (GrpKept now.grp) NoProxy spin_downs (over_spin now.grp) (spin_tells s.unit) (spin_told now.grp) (of_spin now) q.grp in record { grp = x.over; spin = x.off }
  step_quiet (SpinTook bytes) =
      let x = took_is_off (spin_link s.unit) entry.SpinDown SpinOff (GrpKept now.grp) NoProxy spin_downs (over_spin now.grp) (spin_tells s.unit) (spin_told now.grp) bytes (of_spin now) q.spin q.grp in record { grp = x.over; spin = x.off }
  step_quiet SpinCut = let x = cut_is_off (spin_link s.unit) entry.SpinDown SpinOff (GrpKept now.grp) NoProxy spin_downs (over_spin now.grp) (spin_tells s.unit) (spin_told now.grp) (of_spin now) q.spin q.grp in record { grp = x.over; spin = x.off }
  step_quiet (SpinLost bytes count) =
      let x = parted_is_off (spin_link s.unit) entry.SpinDown SpinOff (GrpKept now.grp) NoProxy spin_downs (over_spin now.grp) (spin_tells s.unit) (spin_told now.grp) bytes count (of_spin now) q.spin q.grp in record { grp = x.over; spin = x.off }
  step_quiet Second =
      let g = ticked_is_off gap_link entry.GrpDown GrpOff SpinKept IsGapTold grp_downs over_grp gap_link_tells gap_told (of_grp now) q.grp q.spin in
      let one : EndState = grp_link_ticks now in
      let k = ticked_is_off (spin_link s.unit) entry.SpinDown SpinOff (GrpKept one.grp) NoProxy spin_downs (over_spin one.grp) (spin_tells s.unit) (spin_told one.grp) (of_spin one) g.over g.off in
      client_quiet (both_links_tick s now) (record { grp = k.over; spin = k.off })

-- ---- All verbs
pub quiet : (unit : ℕ) (limits : Limits) (done : List Verb) → Quiet (state_of unit limits done).client
quiet unit limits done =
    (all_hold unit limits (λ command. Unit {0}) (λ n messages advertised t. Unit {0}) Quiet (λ n now bytes o v. v) (λ n messages advertised t command is fine v. v) (λ n messages advertised t v. v) (λ n messages advertised t v. v)
    (λ came now q. step_quiet (client_setup unit limits) now q came) done (all_say done) tt (record { grp = λ e. record { down = refl; free = refl }; spin = λ e. record { down = refl; idle = refl; none = refl } })).1
