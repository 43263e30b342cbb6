-- What an honest history says of copies, and of what came on lines.
use Rattle.std.proofs.Common.{◌≡◌, ℕ, zero, suc, ◌+◌, ◌<◌, Bool, true, false, ◌==◌, cond, List, [], ◌∷◌, length, get_or, take, Option, Some, None, is_some, sym, ◌∙◌, subst, arith}
use Rattle.std.proofs.lemmas.Option.{same_Some}
use Rattle.unit_packets.specs.Blocks.{Block}
use Rattle.pitch_model.specs.Asking.{ask_of}
use Rattle.pitch_model.specs.declared.ask.Ask.{Ask}
use Rattle.pitch_model.specs.declared.ask.Ask.TheVariants.{Gap, Spin}
use Rattle.pitch_model.specs.History.{Entry, Raw, Message, GrpDown, SpinDown, Ticked}
use Rattle.pitch_model.specs.Honest.{message_at, Honest, IsHonestAt}
use Rattle.heard_items.specs.Heard.{heard, heard_messages, heard_block, heard_all}
use Rattle.heard_items.specs.HeardBlocks.{heard_sequenced}
use Rattle.heard_items.specs.declared.item.Item.{Item}
use Rattle.heard_items.proofs.Honesty.{honest_heard}
use Rattle.session_ends.specs.Closing.{Setup, closed_of}
use Rattle.session_ends.specs.Events.{Event}
use Rattle.session_ends.specs.Events as event
use Rattle.client_links.specs.Linking.{Lookups, link_tells}
use Rattle.client_end.specs.Links.{gap_link, spin_link}
use Rattle.client_end.specs.Sessions.{SessionState, fed_at, happened, heard_cut, heard_in_part, link_took, link_lost, settled_at}
use Rattle.client_end.specs.Came.{Came, EndSetup, EndState, Heard, GrpMade, GrpTook, GrpCut, GrpLost, SpinMade, SpinTook, SpinCut, SpinLost, Second, ask_sent, both_links_tick, end_after, end_history, grp_link_ticks}
use Rattle.line_copies.specs.Copies.{CopiesDiffer}
use Rattle.line_copies.specs.Laws.{AreOfNoVenue, LinesAreAsHonest, lines_history}

module _ (Image : List Raw → ℕ → List Raw) (V : List Raw) where
  -- ---- A message of an honest history is the venue's
  says_at : (E : List Entry) (k n : ℕ) (raw : Raw) → Honest Image V E → k < length E → get_or E k (Message n raw) ≡ Message n raw → message_at V n ≡ Some raw
  says_at [] k n raw h within is = absurd (omega arith)
  says_at (entry ∷ E) zero n raw h within is = subst (λ (x : Entry). IsHonestAt Image V E x) is h.0
  says_at (entry ∷ E) (suc k) n raw h within is = says_at E k n raw h.1 (omega arith) is

  no_venue : (E : List Entry) (n : ℕ) → CopiesDiffer E n → Honest Image V E → ⊥
  no_venue E n d h =
      let one : message_at V n ≡ Some d.one = says_at E d.one_came.0 n d.one h d.one_came.1 d.one_came.2 in
      let other : message_at V n ≡ Some d.other = says_at E d.other_came.0 n d.other h d.other_came.1 d.other_came.2 in
      d.apart (same_Some d.one d.other (sym one ∙ other))

  -- ---- What came on lines says the same after less
  messages_moved : (first : ℕ) (raws : List Raw) (L E : List Entry) → (Honest Image V E → Honest Image V L) → Honest Image V (heard_messages first raws E) → Honest Image V (heard_messages first raws L)
  messages_moved first [] L E less h = less h
  messages_moved first (raw ∷ raws) L E less h = messages_moved (first + 1) raws (Message first raw ∷ L) (Message first raw ∷ E) (λ both. (both.0, less both.1)) h

  sequenced_moved : (sequence : ℕ) (raws : List Raw) (L E : List Entry) → (Honest Image V E → Honest Image V L) → Honest Image V (heard_sequenced sequence raws E) → Honest Image V (heard_sequenced sequence raws L)
  sequenced_moved sequence [] L E less h = (h.0, less h.1)
  sequenced_moved sequence (raw ∷ raws) L E less h = messages_moved sequence (raw ∷ raws) L E less h

  block_moved : (block : Block) (L E : List Entry) → (Honest Image V E → Honest Image V L) → Honest Image V (heard_block block E) → Honest Image V (heard_block block L)
  block_moved block L E less = by (block.sequence == 0)
    where
      by : (b : Bool) → Honest Image V (cond b E (heard_sequenced block.sequence block.raws E)) → Honest Image V (cond b L (heard_sequenced block.sequence block.raws L))
      by true h = less h
      by false h = sequenced_moved block.sequence block.raws L E less h

  -- ---- What a session's events add leaves what was heard before them
  before_all : (items : List Item) (E : List Entry) → Honest Image V (heard_all items E) → Honest Image V E
  before_all [] E h = h
  before_all (item ∷ items) E h = honest_heard Image V item E (before_all items (heard item E) h)

  before_cut : (down : Entry) (E : List Entry) (link : Option (List (Event Lookups))) → Honest Image V (heard_cut down E link) → Honest Image V E
  before_cut down E None h = h
  before_cut down E (Some events) h = h.1

  before_settled : (setup : Setup) (down : Entry) (E : List Entry) (link : Option (List (Event Lookups))) → Honest Image V (settled_at setup down E link).heard → Honest Image V E
  before_settled setup down E None h = h
  before_settled setup down E (Some events) h = by (is_some (closed_of setup events)) h
    where
      by : (b : Bool) → Honest Image V (cond {A = SessionState} b (record { heard = down ∷ E; link = None }) (record { heard = E; link = Some events })).heard → Honest Image V E
      by true g = g.1
      by false g = g

  before_fed : (setup : Setup) (bytes : List ℕ) (E : List Entry) (link : Option (List (Event Lookups))) → Honest Image V (fed_at setup bytes E link).heard → Honest Image V E
  before_fed setup bytes E None h = h
  before_fed setup bytes E (Some events) h = before_all (link_tells setup events bytes) E h

  before_took : (setup : Setup) (down : Entry) (bytes : List ℕ) (session : SessionState) → Honest Image V (link_took setup down bytes session).heard → Honest Image V session.heard
  before_took setup down bytes session h =
      let fed : SessionState = fed_at setup bytes session.heard session.link in
      before_fed setup bytes session.heard session.link (before_settled setup down fed.heard fed.link h)

  before_part : (setup : Setup) (bytes : List ℕ) (count : ℕ) (E : List Entry) (link : Option (List (Event Lookups))) → Honest Image V (heard_in_part setup bytes count E link) → Honest Image V E
  before_part setup bytes count E None h = h
  before_part setup bytes count E (Some events) h = before_all (take count (link_tells setup events bytes)) E h

  before_lost : (setup : Setup) (down : Entry) (bytes : List ℕ) (count : ℕ) (session : SessionState) → Honest Image V (link_lost setup down bytes count session).heard → Honest Image V session.heard
  before_lost setup down bytes count session h =
      before_part setup bytes count session.heard session.link (before_cut down (heard_in_part setup bytes count session.heard session.link) session.link h)

  before_asked : (s : EndSetup) (ask : Option Ask) (now : EndState) → Honest Image V (ask_sent s ask (record now { heard = Ticked ask ∷ now.heard })).heard → Honest Image V now.heard
  before_asked s None now h = h.1
  before_asked s (Some (Gap first count)) now h = h.1
  before_asked s (Some (Spin sequence)) now h = h.1

  before_ticks : (s : EndSetup) (now : EndState) → Honest Image V (both_links_tick s now).heard → Honest Image V now.heard
  before_ticks s now h =
      let one : EndState = grp_link_ticks now in
      before_settled gap_link GrpDown now.heard (happened event.Ticked now.grp)
      (before_settled (spin_link s.unit) SpinDown one.heard (happened event.Ticked one.spin) h)

  -- ---- All that came
  on_lines : (s : EndSetup) (before : List Came) → Honest Image V (end_history s before) → Honest Image V (lines_history before)
  on_lines s [] h = tt
  on_lines s (Heard block ∷ before) h = block_moved block (lines_history before) (end_history s before) (λ g. on_lines s before g) h
  on_lines s (GrpMade ∷ before) h = on_lines s before (before_cut GrpDown (end_history s before) (end_after s before).grp h)
  on_lines s (GrpCut ∷ before) h = on_lines s before (before_cut GrpDown (end_history s before) (end_after s before).grp h)
  on_lines s (GrpTook bytes ∷ before) h = let now : EndState = end_after s before in on_lines s before (before_took gap_link GrpDown bytes (record { heard = now.heard; link = now.grp }) h)
  on_lines s (GrpLost bytes count ∷ before) h = let now : EndState = end_after s before in on_lines s before (before_lost gap_link GrpDown bytes count (record { heard = now.heard; link = now.grp }) h)
  on_lines s (SpinMade ∷ before) h = on_lines s before (before_cut SpinDown (end_history s before) (end_after s before).spin h)
  on_lines s (SpinCut ∷ before) h = on_lines s before (before_cut SpinDown (end_history s before) (end_after s before).spin h)
  on_lines s (SpinTook bytes ∷ before) h = let now : EndState = end_after s before in on_lines s before (before_took (spin_link s.unit) SpinDown bytes (record { heard = now.heard; link = now.spin }) h)
  on_lines s (SpinLost bytes count ∷ before) h = let now : EndState = end_after s before in on_lines s before (before_lost (spin_link s.unit) SpinDown bytes count (record { heard = now.heard; link = now.spin }) h)
  on_lines s (Second ∷ before) h =
      let ticked : EndState = both_links_tick s (end_after s before) in
      on_lines s before (before_ticks s (end_after s before) (before_asked s (ask_of s.hold ticked.heard) ticked h))

pub are_of_no_venue : AreOfNoVenue
are_of_no_venue Image V E sequence d h = no_venue Image V E sequence d h

pub lines_are_as_honest : LinesAreAsHonest
lines_are_as_honest Image V s before h = on_lines Image V s before h
