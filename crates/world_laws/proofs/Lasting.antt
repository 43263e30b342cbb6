-- What lasts over whatever a client hears: a place that was reached, and that it was told of some
-- message.
use Rattle.std.proofs.Common.{◌≡◌, ℕ, ◌+◌, ◌≤◌, Bool, true, false, cond, List, [], ◌∷◌, ◌++◌, take, ap, refl, ◌∙◌, arith, max, Option, Some, None, is_some, nat_eq}
use Rattle.pitch_text.specs.declared.verb.Verb.{Verb}
use Rattle.unit_packets.specs.Blocks.{Block}
use Rattle.heard_items.specs.declared.item.Item.{Item}
use Rattle.heard_items.specs.declared.item.Item.TheVariants as item
use Rattle.heard_items.specs.Heard.{heard, heard_block, heard_messages, heard_sequenced}
use Rattle.heard_items.specs.Heard.{is_accepted, heard_all}
use Rattle.pitch_model.specs.declared.ask.Ask.{Ask}
use Rattle.pitch_model.specs.declared.ask.Ask.TheVariants as asks
use Rattle.pitch_model.specs.Asking.{ask_of}
use Rattle.pitch_model.specs.History.{Entry, Raw}
use Rattle.pitch_model.specs.History as entry
use Rattle.pitch_model.specs.Reach.{reach}
use Rattle.pitch_model.specs.Status.{raised, told_at, top_of}
use Rattle.pitch_model.proofs.Rises.{reach_rises}
use Rattle.session_ends.specs.Closing.{Setup, closed_of}
use Rattle.session_ends.specs.Events.{Ticked}
use Rattle.client_links.specs.Linking.{link_tells}
use Rattle.client_end.specs.Came.{Came, EndSetup, EndState, Heard, GrpMade, GrpTook, GrpCut, GrpLost, SpinMade, SpinTook, SpinCut, SpinLost, Second, of_grp, of_spin, grp_link_ticks, both_links_tick, ask_sent, end_step}
use Rattle.client_end.specs.Links.{gap_link, spin_link}
use Rattle.client_end.specs.Sessions.{SessionState, heard_cut, heard_in_part, settled_at, fed_at, link_took, happened}
use Rattle.world_model.specs.Ends.{client_setup}
use Rattle.world_model.specs.State.{State}
use Rattle.world_model.specs.Verbs.{next_state, state_of}
use Rattle.world_model.specs.declared.limits.Limits.{Limits}
use Rattle.world_laws.proofs.EachVerb.{says, verb_holds}
use Rattle.world_laws.proofs.Joined.{Link}

-- what holds of a history and of it with what lines tell besides
module _ (P : List Entry → Type 0) (message : (E : List Entry) (k : ℕ) (raw : Raw) → P E → P (entry.Message k raw ∷ E)) (next : (E : List Entry) (k : ℕ) → P E → P (entry.Next k ∷ E)) where
  by_messages : (first : ℕ) (raws : List Raw) (E : List Entry) → P E → P (heard_messages first raws E)
  by_messages first [] E p = p
  by_messages first (raw ∷ raws) E p = by_messages (first + 1) raws (entry.Message first raw ∷ E) (message E first raw p)

  by_sequenced : (first : ℕ) (raws : List Raw) (E : List Entry) → P E → P (heard_sequenced first raws E)
  by_sequenced first [] E p = next E first p
  by_sequenced first (raw ∷ raws) E p = by_messages first (raw ∷ raws) E p

  pub by_block : (block : Block) (E : List Entry) → P E → P (heard_block block E)
  by_block block E p = by (nat_eq block.sequence 0)
    where
      by : (b : Bool) → P (cond b E (heard_sequenced block.sequence block.raws E))
      by true = p
      by false = by_sequenced block.sequence block.raws E p

-- what holds of a history holds of it with any entry more
abbrev pub Lasts : (List Entry → Type 0) → Type 0
Lasts P = (E : List Entry) (x : Entry) → P E → P (x ∷ E)

module _ (P : List Entry → Type 0) (lasts : Lasts P) where
  message_lasts : (E : List Entry) (k : ℕ) (raw : Raw) → P E → P (entry.Message k raw ∷ E)
  message_lasts E k raw p = lasts E (entry.Message k raw) p

  next_lasts : (E : List Entry) (k : ℕ) → P E → P (entry.Next k ∷ E)
  next_lasts E k p = lasts E (entry.Next k) p

  item_lasts : (x : Item) (E : List Entry) → P E → P (heard x E)
  item_lasts (item.Messages first raws) E p = by_messages P message_lasts next_lasts first raws.items E p
  item_lasts (item.Next n) E p = next_lasts E n p
  item_lasts item.Nothing E p = p
  item_lasts item.GrpUp E p = lasts E entry.GrpUp p
  item_lasts item.GrpDown E p = lasts E entry.GrpDown p
  item_lasts (item.GapReply sequence count status) E p = lasts E (entry.GapReply (is_accepted status)) p
  item_lasts item.SpinUp E p = lasts E entry.SpinUp p
  item_lasts item.SpinDown E p = lasts E entry.SpinDown p
  item_lasts (item.Advertised n) E p = lasts E (entry.Advertised n) p
  item_lasts (item.SpinReply n orders status) E p = lasts E (entry.SpinReply n orders (is_accepted status)) p
  item_lasts (item.ImageMessages raws) E p = lasts E (entry.ImageMessages raws.items) p
  item_lasts (item.SpinFinished n) E p = lasts E (entry.SpinFinished n) p

  pub items_last : (items : List Item) (E : List Entry) → P E → P (heard_all items E)
  items_last [] E p = p
  items_last (x ∷ items) E p = items_last items (heard x E) (item_lasts x E p)

  -- ---- Whatever comes to the client's end
  cut_lasts : (down : Entry) (E : List Entry) (link : Link) → P E → P (heard_cut down E link)
  cut_lasts down E None p = p
  cut_lasts down E (Some events) p = lasts E down p

  settled_lasts : (setup : Setup) (down : Entry) (E : List Entry) (link : Link) → P E → P (settled_at setup down E link).heard
  settled_lasts setup down E None p = p
  settled_lasts setup down E (Some events) p = by (is_some (closed_of setup events))
    where
      by : (b : Bool) → P (cond {A = SessionState} b (record { heard = down ∷ E; link = None }) (record { heard = E; link = Some events })).heard
      by true = lasts E down p
      by false = p

  fed_lasts : (setup : Setup) (bytes : List ℕ) (E : List Entry) (link : Link) → P E → P (fed_at setup bytes E link).heard
  fed_lasts setup bytes E None p = p
  fed_lasts setup bytes E (Some events) p = items_last (link_tells setup events bytes) E p

  part_lasts : (setup : Setup) (bytes : List ℕ) (count : ℕ) (E : List Entry) (link : Link) → P E → P (heard_in_part setup bytes count E link)
  part_lasts setup bytes count E None p = p
  part_lasts setup bytes count E (Some events) p = items_last (take count (link_tells setup events bytes)) E p

  took_lasts : (setup : Setup) (down : Entry) (bytes : List ℕ) (x : SessionState) → P x.heard → P (link_took setup down bytes x).heard
  took_lasts setup down bytes x p =
      let fed : SessionState = fed_at setup bytes x.heard x.link in
      settled_lasts setup down fed.heard fed.link (fed_lasts setup bytes x.heard x.link p)

  asked_lasts : (s : EndSetup) (ask : Option Ask) (now : EndState) → P now.heard → P (ask_sent s ask now).heard
  asked_lasts s None now p = p
  asked_lasts s (Some (asks.Gap first count)) now p = p
  asked_lasts s (Some (asks.Spin sequence)) now p = p

  step_lasts : (s : EndSetup) (came : Came) (now : EndState) → P now.heard → P (end_step s came now).heard
  step_lasts s (Heard block) now p = by_block P message_lasts next_lasts block now.heard p
  step_lasts s GrpMade now p = cut_lasts entry.GrpDown now.heard now.grp p
  step_lasts s (GrpTook bytes) now p = took_lasts gap_link entry.GrpDown bytes (of_grp now) p
  step_lasts s GrpCut now p = cut_lasts entry.GrpDown now.heard now.grp p
  step_lasts s (GrpLost bytes count) now p = cut_lasts entry.GrpDown (heard_in_part gap_link bytes count now.heard now.grp) now.grp (part_lasts gap_link bytes count now.heard now.grp p)
  step_lasts s SpinMade now p = cut_lasts entry.SpinDown now.heard now.spin p
  step_lasts s (SpinTook bytes) now p = took_lasts (spin_link s.unit) entry.SpinDown bytes (of_spin now) p
  step_lasts s SpinCut now p = cut_lasts entry.SpinDown now.heard now.spin p
  step_lasts s (SpinLost bytes count) now p = cut_lasts entry.SpinDown (heard_in_part (spin_link s.unit) bytes count now.heard now.spin) now.spin (part_lasts (spin_link s.unit) bytes count now.heard now.spin p)
  step_lasts s Second now p =
      let both : EndState = both_links_tick s now in
      let grp = settled_lasts gap_link entry.GrpDown now.heard (happened Ticked now.grp) p in
      let spin : P both.heard = settled_lasts (spin_link s.unit) entry.SpinDown (grp_link_ticks now).heard (happened Ticked now.spin) grp in
      let ask : Option Ask = ask_of s.hold both.heard in
      asked_lasts s ask (record both { heard = entry.Ticked ask ∷ both.heard }) (lasts both.heard (entry.Ticked ask) spin)

  module _ (unit : ℕ) (limits : Limits) where
    pub verb_lasts : (verb : Verb) (s : State) → P s.client.heard → P (next_state unit limits verb s).client.heard
    verb_lasts verb s p =
        (verb_holds unit limits (λ command. Unit {0}) (λ n messages advertised t. Unit {0}) (λ now. P now.heard) (λ n now bytes o v. v) (λ n messages advertised t command is fine v. v) (λ n messages advertised t v. v) (λ n messages advertised t v. v)
        (λ came now q. step_lasts (client_setup unit limits) came now q) verb [] s (says (λ verb. Unit {0}) (λ command. Unit {0}) (λ command is. tt) verb tt) (tt, p)).1

    pub verbs_last : (later before : List Verb) → P (state_of unit limits before).client.heard → P (state_of unit limits (later ++ before)).client.heard
    verbs_last [] before p = p
    verbs_last (verb ∷ later) before p = verb_lasts verb (state_of unit limits (later ++ before)) (verbs_last later before p)

-- a place that was reached
pub reached_lasts : (H n : ℕ) → Lasts (λ E. n ≤ reach H E)
reached_lasts H n E x p = let rise = reach_rises H E x in omega (arith, p, rise)

-- some message was told of, this one or a later one
abbrev pub IsTold : ℕ → List Entry → Type 0
IsTold n E = (q : ℕ) × ((top_of E ≡ Some q) × (n ≤ q))

raised_told : (n q : ℕ) (ks : List ℕ) → n ≤ q → (m : ℕ) × ((raised ks (Some q) ≡ Some m) × (n ≤ m))
raised_told n q [] le = (q, (refl, le))
raised_told n q (k ∷ ks) le = (max k q, (refl, omega (arith, le)))

pub told_lasts : (n : ℕ) → Lasts (IsTold n)
told_lasts n E x (q, (is, le)) =
    let more = raised_told n q (told_at E x) le in
    (more.0, (ap (raised (told_at E x)) is ∙ more.1.0, more.1.1))
