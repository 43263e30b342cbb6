-- The units have the messages of the text that was read.
use Rattle.std.proofs.Common.{◌≡◌, ◌⊎◌, inl, inr, ℕ, zero, suc, ◌+◌, ◌^◌, ◌-◌, ◌<◌, ◌≤◌, min, Bool, true, false, cond, eqb, nat_lt, List, [], ◌∷◌, ◌++◌, map, length, is_some, refl, sym, ap, ◌∙◌, subst, arith, Option, None, Some, slice_get, Result, Ok, Err}
use Rattle.std.specs.Option.{option_and_then, option_map_or}
use Rattle.std.proofs.lemmas.Bool.{ltb-true}
use Rattle.std.proofs.lemmas.List.{map-append}
use Rattle.text_lines.specs.Items.{item_of, items_of}
use Rattle.text_lines.specs.Text.{TextFault, said_of}
use Rattle.text_lines.specs.declared.fault.TextError.{TextError}
use Rattle.text_lines.specs.declared.fault.TextError.TheVariants as text
use Rattle.pitch_model.specs.History.{Raw}
use Rattle.pitch_text.specs.declared.command.Command.{Command}
use Rattle.live_net.specs.declared.live.WaitEnd.TheVariants as wait_end
use Rattle.live_net.specs.declared.live.PeerTaken.TheVariants as taken
use Rattle.live_net.specs.declared.live.PeerPut.TheVariants as put
use Rattle.live_turns.specs.Due.{room_for_one}
use Rattle.unit_commands.specs.Pieces.{counted_lines, last_line, line_feeds, rest_limit, whole_lines}
use Rattle.unit_commands.specs.layers.PiecesLaws.{EndsLine, line_later}
use Rattle.unit_commands.specs.UnitCommands.{unit_command, unit_command_entry}
use Rattle.unit_commands.specs.declared.unit_command.UnitCommandEntry.{UnitCommandEntry}
use Rattle.unit_commands.proofs.CutLemmas.{behind_none, behind_some, ends, grown, joined, rest_again, sum_behind, whole_counts}
use Rattle.unit_commands.proofs.SaidLemmas.{says_in_turn}
use Rattle.venue_core.specs.Commands.{raw_of}
use Rattle.venue_core.specs.Refusals.{refusal}
use Rattle.venue_core.specs.declared.error.VenueError.{VenueError}
use Rattle.venue_end.specs.Came.{VenueCame, Commanded, Flushed, Beaten, Advertised, ProxyMade, ProxyTook, ProxyPut, ProxyCut, SpinMade, SpinTook, SpinPumped, SpinPut, SpinCut, Second, AllCut}
use Rattle.venue_end.specs.declared.setup.VenueSetup.{VenueSetup}
use Rattle.venue_net.specs.VenueCalls.{VenueCall, Wait, Read, Send, Accept, Take, Put, Close}
use Rattle.venue_net.specs.declared.net.InputRead.{InputRead}
use Rattle.venue_net.specs.declared.net.InputRead.TheVariants as input
use Rattle.venue_turns.specs.Due.{Ends, IsMade, is_read}
use Rattle.venue_turns.specs.declared.due.Due.{Due}
use Rattle.venue_turns.specs.declared.due.Due.TheVariants as to
use Rattle.venue_units.specs.Coming.{UnitCame, came_to, state_at, to_unit}
use Rattle.venue_units.specs.layers.Laws.{accepted_of, commands_in}
use Rattle.venue_units.specs.Places.{is_spin}
use Rattle.venue_units.proofs.Messages.{messages_are_the_commands}
use Rattle.live_venue.specs.Input.{Heard, all_heard, at_index, faulty, index_of, lines_heard, lines_read, next_heard, piece_heard, refusal_at, rest_heard, said_heard, told_line, unless_refused}
use Rattle.live_venue.specs.Running.{Brings, Now, Runs, at_first, ends_now, with_heard}
use Rattle.live_venue.specs.declared.fault.InputFault.{InputFault}
use Rattle.live_venue.specs.declared.fault.InputFault.TheVariants.{Bad, TooLong}
use Rattle.live_venue.proofs.Going.{Reads, heard_fault, heard_text, left_keeps, let_in_keeps, second_reads, took_reads, wrote_keeps}
use Rattle.live_laws.specs.Laws.{RunsHaveTheText}
use Rattle.live_laws.specs.Sent.{messages_at}
use Rattle.live_laws.specs.Text.{HasNoEnd, text_heard, told_by}
use Rattle.live_laws.proofs.Bringing.{AlsoBy, AreCalm, brings_keeps, heard_keeps}
use Rattle.live_laws.proofs.Reading.{reads_before_the_end}

-- what a line says
abbrev pub Said : Type 0
Said = Result UnitCommandEntry TextError

-- ---- The same commands
-- the same commands came to each unit, one after another
pub record SameCommands (a b : List UnitCame) : Type 0 where
  pub at_each : (at : ℕ) → commands_in (came_to at a) ≡ commands_in (came_to at b)

abbrev NoCommand : VenueCame → Type 0
NoCommand (Commanded command) = ⊥
NoCommand came = Unit {0}

none_more : (came : VenueCame) (before : List VenueCame) → NoCommand came → commands_in (came ∷ before) ≡ commands_in before
none_more (Commanded command) before quiet = absurd quiet
none_more Flushed before quiet = refl
none_more Beaten before quiet = refl
none_more Advertised before quiet = refl
none_more (ProxyMade id) before quiet = refl
none_more (ProxyTook id bytes) before quiet = refl
none_more (ProxyPut id count) before quiet = refl
none_more (ProxyCut id) before quiet = refl
none_more (SpinMade id) before quiet = refl
none_more (SpinTook id bytes) before quiet = refl
none_more (SpinPumped id) before quiet = refl
none_more (SpinPut id count) before quiet = refl
none_more (SpinCut id) before quiet = refl
none_more Second before quiet = refl
none_more AllCut before quiet = refl

pub same_as_it : (a : List UnitCame) → SameCommands a a
same_as_it a = record { at_each = λ at. refl }

same_then : (a b c : List UnitCame) → SameCommands a b → SameCommands b c → SameCommands a c
same_then a b c first second = record { at_each = λ at. first.at_each at ∙ second.at_each at }

same_without : (b : List UnitCame) (to : ℕ) (came : VenueCame) (a : List UnitCame) → NoCommand came → SameCommands a b → SameCommands (to_unit to came ∷ a) b
same_without b to came a quiet same = record { at_each = λ at. by at (eqb to at) (same.at_each at) }
  where
    by : (at : ℕ) (c : Bool) → commands_in (came_to at a) ≡ commands_in (came_to at b) → commands_in (cond c (came ∷ came_to at a) (came_to at a)) ≡ commands_in (came_to at b)
    by at true is = none_more came (came_to at a) quiet ∙ is
    by at false is = is

same_with : (a b : List UnitCame) (to : ℕ) (command : Command) → SameCommands a b → SameCommands (to_unit to (Commanded command) ∷ a) (to_unit to (Commanded command) ∷ b)
same_with a b to command same = record { at_each = λ at. by at (eqb to at) (same.at_each at) }
  where
    by : (at : ℕ) (c : Bool) → commands_in (came_to at a) ≡ commands_in (came_to at b) → commands_in (cond c (Commanded command ∷ came_to at a) (came_to at a)) ≡ commands_in (cond c (Commanded command ∷ came_to at b) (came_to at b))
    by at true is = ap (λ (l : List Command). command ∷ l) is
    by at false is = is

-- so they have the same messages
same_state : (setup : VenueSetup) (at : ℕ) (a b : List UnitCame) → SameCommands a b → (state_at setup at a).messages ≡ (state_at setup at b).messages
same_state setup at a b same =
    messages_are_the_commands setup (came_to at a) ∙ ap (λ (l : List Command). map raw_of (accepted_of l)) (same.at_each at)
    ∙ sym (messages_are_the_commands setup (came_to at b))

same_messages : (s : List VenueSetup) (at : ℕ) (a b : List UnitCame) → SameCommands a b → messages_at s a at ≡ messages_at s b at
same_messages s at a b same = by (slice_get s at)
  where
    by : (o : Option VenueSetup) → option_map_or (λ (setup : VenueSetup). (state_at setup at a).messages) o [] ≡ option_map_or (λ (setup : VenueSetup). (state_at setup at b).messages) o []
    by None = refl
    by (Some setup) = same_state setup at a b same

-- ---- What lines say
-- the same was heard
pub record SameHeard (h k : Heard) : Type 0 where
  pub came : SameCommands h.came k.came
  pub fault : h.fault ≡ k.fault

module _ (s : List VenueSetup) (before : ℕ) where
  same_refusal : (at : ℕ) (command : Command) (a b : List UnitCame) → SameCommands a b → refusal_at s at a command ≡ refusal_at s at b command
  same_refusal at command a b same = by (slice_get s at)
    where
      by : (o : Option VenueSetup) → option_and_then (λ (setup : VenueSetup). refusal (state_at setup at a).messages command) o ≡ option_and_then (λ (setup : VenueSetup). refusal (state_at setup at b).messages command) o
      by None = refl
      by (Some setup) = ap (λ (V : List Raw). refusal V command) (same_state setup at a b same)

  unless_same : (refused : Option VenueError) (line at : ℕ) (command : Command) (a b : List UnitCame) → SameCommands a b → SameHeard (unless_refused refused line at command a) (unless_refused refused line at command b)
  unless_same None line at command a b same = record { came = same_with a b at command same; fault = refl }
  unless_same (Some error) line at command a b same = record { came = same; fault = refl }

  index_same : (found : Option ℕ) (line : ℕ) (command : Command) (a b : List UnitCame) → SameCommands a b → SameHeard (at_index s found line command a) (at_index s found line command b)
  index_same None line command a b same = record { came = same; fault = refl }
  index_same (Some at) line command a b same =
      subst (λ (r : Option VenueError). SameHeard (unless_refused (refusal_at s at a command) line at command a) (unless_refused r line at command b)) (same_refusal at command a b same)
      (unless_same (refusal_at s at a command) line at command a b same)

  said_same : (said : Said) (a b : List UnitCame) → SameCommands a b → SameHeard (said_heard s before said a) (said_heard s before said b)
  said_same (Ok entry) a b same = index_same (index_of s entry.unit) (told_line before entry.line) entry.command a b same
  said_same (Err (text.Bad line column cause)) a b same = record { came = same; fault = refl }
  said_same (Err text.OutOfMemory) a b same = record { came = same; fault = refl }

  next_same : (said : Said) (h k : Heard) → SameHeard h k → SameHeard (next_heard s before said h) (next_heard s before said k)
  next_same said h k same =
      subst (λ (f : Option InputFault). SameHeard (next_heard s before said h) (cond (is_some f) k (said_heard s before said k.came))) same.fault (by (is_some h.fault))
    where
      by : (b : Bool) → SameHeard (cond b h (said_heard s before said h.came)) (cond b k (said_heard s before said k.came))
      by true = same
      by false = said_same said h.came k.came same.came

  pub all_same : (items : List Said) (h k : Heard) → SameHeard h k → SameHeard (all_heard s before items h) (all_heard s before items k)
  all_same [] h k same = same
  all_same (said ∷ items) h k same = all_same items (next_heard s before said h) (next_heard s before said k) (next_same said h k same)

  all_in_turn : (first others : List Said) (h : Heard) → all_heard s before (first ++ others) h ≡ all_heard s before others (all_heard s before first h)
  all_in_turn [] others h = refl
  all_in_turn (said ∷ first) others h = all_in_turn first others (next_heard s before said h)

-- ---- So many lines later
capped : (n line most : ℕ) → min (0 + (n + line)) most ≡ min (min n most + line) most
capped n line most = omega arith

told_later : (n line : ℕ) → told_line 0 (n + line) ≡ told_line (counted_lines n) line
told_later n line = capped n line (2 ^ 64 - 1)

abbrev pub Entry : Type 0
Entry = ℕ × (ℕ × Command)

abbrev pub as_item : Result Entry TextFault → Said
as_item x = item_of unit_command_entry x

module _ (s : List VenueSetup) (n : ℕ) where
  said_later : (x : Result Entry TextFault) (came : List UnitCame) → said_heard s 0 (as_item (line_later n x)) came ≡ said_heard s (counted_lines n) (as_item x) came
  said_later (Ok entry) came = ap (λ (line : ℕ). at_index s (index_of s entry.1.0) line entry.1.1 came) (told_later n entry.0)
  said_later (Err at) came = ap (λ (line : ℕ). faulty came (Bad line at.fault.column at.fault.cause)) (told_later n at.line)

  all_later : (said : List (Result Entry TextFault)) (h : Heard) → all_heard s 0 (map as_item (map (line_later n) said)) h ≡ all_heard s (counted_lines n) (map as_item said) h
  all_later [] h = refl
  all_later (x ∷ said) h =
      ap (λ (k : Heard). all_heard s 0 (map as_item (map (line_later n) said)) k) (ap (λ (k : Heard). cond (is_some h.fault) h k) (said_later x h.came))
      ∙ all_later said (next_heard s (counted_lines n) (as_item x) h)

abbrev pub nothing_heard : Heard
nothing_heard = record { came = []; fault = None }

-- what a text says that begins with whole lines: what they say, and then what the others say
module _ (s : List VenueSetup) (front back : List ℕ) where
  pub heard_in_turn : EndsLine front → text_heard s (front ++ back) ≡ all_heard s (lines_read front) (items_of unit_command unit_command_entry back) (text_heard s front)
  unfolding items_of
  heard_in_turn whole =
      ap (λ (said : List (Result Entry TextFault)). all_heard s 0 (map as_item said) nothing_heard) (says_in_turn unit_command front back whole)
      ∙ ap (λ (items : List Said). all_heard s 0 items nothing_heard) (map-append as_item (said_of unit_command front) (map (line_later (line_feeds front)) (said_of unit_command back)))
      ∙ all_in_turn s 0 (map as_item (said_of unit_command front)) (map as_item (map (line_later (line_feeds front)) (said_of unit_command back))) nothing_heard
      ∙ all_later s (line_feeds front) (said_of unit_command back) (text_heard s front)

-- ---- A line that is too long ends in no whole line
nothing_long : (text : List ℕ) → length text ≡ 0 → text ≡ []
nothing_long [] none = refl
nothing_long (b ∷ bs) none = absurd (omega (arith, none))

no_whole : (rest piece : List ℕ) → whole_lines rest ≡ [] → length piece ≤ 65536 → rest_limit < length (last_line (rest ++ piece)) → whole_lines (rest ++ piece) ≡ []
no_whole rest piece none few long = by (length (whole_lines piece)) refl
  where
    by : (n : ℕ) → length (whole_lines piece) ≡ n → whole_lines (rest ++ piece) ≡ []
    by zero is = nothing_long (whole_lines (rest ++ piece)) (sym (behind_none rest piece none (sym is)))
    by (suc n) is =
        let some : 0 < length (whole_lines piece) = omega (arith, is) in
        let both = behind_some rest piece some in
        let sum = sum_behind rest piece (length (whole_lines (rest ++ piece))) refl in
        absurd (omega (arith, both, sum, few, long, some))

-- ---- In a run
-- what came has the commands of a text, up to its first fault
record HasText (s : List VenueSetup) (of : List ℕ) (now : Now) : Type 0 where
  same : SameCommands now.came (text_heard s of).came
  fault : (now.fault ≡ (text_heard s of).fault) ⊎ (((text_heard s of).fault ≡ None) × HasNoEnd now.text now.fault)

module _ (s : List VenueSetup) where
  calm : AreCalm NoCommand
  calm = record {
    flushed = tt;
    second = tt;
    all_cut = tt;
    advertised = tt;
    took = λ place bytes. either (SpinTook place bytes) (ProxyTook place bytes) place tt tt;
    cut = λ place. either (SpinCut place) (ProxyCut place) place tt tt;
    pumped = λ place. tt;
  }
    where
      either : (spin proxy : VenueCame) (place : ℕ) → NoCommand spin → NoCommand proxy → NoCommand (cond (is_spin place) spin proxy)
      either spin proxy place a b = by (is_spin place)
        where
          by : (c : Bool) → NoCommand (cond c spin proxy)
          by true = a
          by false = b

  brings_none : (call : VenueCall) (now now' : Now) → AlsoBy NoCommand call → Brings s call now now' → SameCommands now'.came now.came
  brings_none call now now' also e = brings_keeps NoCommand (λ came. SameCommands came now.came) calm (same_without now.came) s call now now' also e (same_as_it now.came)

  -- where the input has no fault yet
  text_is_good : (of : List ℕ) (now : Now) → now.fault ≡ None → HasText s of now → (text_heard s of).fault ≡ None
  text_is_good of now good has = elim has.fault [
    | inl is ↦ sym is ∙ good
    | inr (none, long) ↦ none
  ]

  -- a call that brings none of it
  stays : (ended : Bool) (now now' : Now) → now'.text ≡ now.text → now'.fault ≡ now.fault → SameCommands now'.came now.came → HasText s (told_by ended now.text) now → HasText s (told_by ended now'.text) now'
  stays ended now now' text fault same has =
      subst (λ (t : List ℕ). HasText s (told_by ended t) now') (sym text) (record {
        same = same_then now'.came now.came (text_heard s (told_by ended now.text)).came same has.same;
        fault = elim has.fault [
          | inl is ↦ inl (fault ∙ is)
          | inr (none, long) ↦ inr (none, record { long = subst (λ (t : List ℕ). rest_limit < length (last_line t)) (sym text) long.long; fault_is = fault ∙ long.fault_is ∙ ap (λ (t : List ℕ). Some (TooLong (told_line (lines_read t) 1))) (sym text) })
        ];
      })

  -- what was heard of the input, and its flush
  heard_same : (heard : Heard) (text : List ℕ) (now : Now) → SameCommands (with_heard s heard text now).came heard.came
  heard_same heard text now = heard_keeps NoCommand (λ came. SameCommands came heard.came) calm (same_without heard.came) s heard text now (same_as_it heard.came)

  -- lines that follow whole lines which had no fault
  module _ (front back : List ℕ) (before : ℕ) (came : List UnitCame) (whole : EndsLine front) (counted : lines_read front ≡ before) (same : SameCommands came (text_heard s front).came) (good : (text_heard s front).fault ≡ None) where
    follow : SameHeard (lines_heard s before back came) (text_heard s (front ++ back))
    follow =
        let items : List Said = items_of unit_command unit_command_entry back in
        let here : SameHeard (record { came = came; fault = None }) (text_heard s front) = record { came = same; fault = sym good } in
        subst (SameHeard (lines_heard s before back came)) (sym (heard_in_turn s front back whole ∙ ap (λ (n : ℕ). all_heard s n items (text_heard s front)) counted))
        (all_same s before items (record { came = came; fault = None }) (text_heard s front) here)

  -- ---- The input
  whole_read : (text : List ℕ) → lines_read (whole_lines text) ≡ lines_read text
  whole_read text = ap counted_lines (whole_counts text)

  becomes : (heard : Heard) (of text : List ℕ) (now now' : Now) → SameHeard heard (text_heard s of) → now' ≡ with_heard s heard text now → HasText s of now'
  becomes heard of text now now' same e = subst (HasText s of) (sym e) (record {
    same = same_then (with_heard s heard text now).came heard.came (text_heard s of).came (heard_same heard text now) same.came;
    fault = inl (heard_fault s heard text now ∙ same.fault);
  })

  module _ (now now' : Now) (good : now.fault ≡ None) (has : HasText s (whole_lines now.text) now) where
    -- its end: the last line is heard
    ends_with : now' ≡ with_heard s (rest_heard s now.text now.came) now.text now → HasText s now'.text now'
    ends_with e =
        let same = follow (whole_lines now.text) (last_line now.text) (lines_read now.text) now.came (ends now.text) (whole_read now.text) has.same (text_is_good (whole_lines now.text) now good has) in
        let all : SameHeard (rest_heard s now.text now.came) (text_heard s now.text) = subst (λ (t : List ℕ). SameHeard (rest_heard s now.text now.came) (text_heard s t)) (joined now.text) same in
        subst (λ (t : List ℕ). HasText s t now') (sym (ap (λ (n : Now). n.text) e ∙ heard_text s (rest_heard s now.text now.came) now.text now))
        (becomes (rest_heard s now.text now.came) now.text now.text now now' all e)

    -- a piece: the lines that it ends are heard, where none is too long
    module _ (piece : List ℕ) (few : length piece ≤ 65536) where
      abbrev rest : List ℕ
      rest = last_line now.text

      abbrev lines : Heard
      lines = lines_heard s (lines_read now.text) (whole_lines (rest ++ piece)) now.came

      abbrev too_long : Heard
      too_long = faulty now.came (TooLong (told_line (lines_read now.text) 1))

      lines_end : SameHeard lines (text_heard s (whole_lines (now.text ++ piece)))
      lines_end =
          subst (λ (t : List ℕ). SameHeard lines (text_heard s t)) (sym (grown now.text piece).0)
          (follow (whole_lines now.text) (whole_lines (rest ++ piece)) (lines_read now.text) now.came (ends now.text) (whole_read now.text) has.same (text_is_good (whole_lines now.text) now good has))

      no_end : rest_limit < length (last_line (rest ++ piece)) → HasText s (whole_lines (now.text ++ piece)) (with_heard s too_long (now.text ++ piece) now)
      no_end long =
          let none : whole_lines (rest ++ piece) ≡ [] = no_whole rest piece (rest_again now.text).0 few long in
          let same : whole_lines (now.text ++ piece) ≡ whole_lines now.text = (grown now.text piece).0 ∙ ap (λ (l : List ℕ). whole_lines now.text ++ l) none ∙ append_nothing (whole_lines now.text) in
          let counted : lines_read (now.text ++ piece) ≡ lines_read now.text = sym (whole_read (now.text ++ piece)) ∙ ap lines_read same ∙ whole_read now.text in
          let text_is = heard_text s too_long (now.text ++ piece) now in
          let fault_is = heard_fault s too_long (now.text ++ piece) now in
          subst (λ (t : List ℕ). HasText s t (with_heard s too_long (now.text ++ piece) now)) (sym same) (record {
            same = same_then (with_heard s too_long (now.text ++ piece) now).came now.came (text_heard s (whole_lines now.text)).came (heard_same too_long (now.text ++ piece) now) has.same;
            fault = inr (
              text_is_good (whole_lines now.text) now good has,
              record {
                long = subst (λ (t : List ℕ). rest_limit < length (last_line t)) (sym text_is) (subst (λ (l : List ℕ). rest_limit < length l) (sym (grown now.text piece).1) long);
                fault_is = fault_is ∙ ap (λ (n : ℕ). Some (TooLong (told_line n 1))) (sym counted) ∙ ap (λ (t : List ℕ). Some (TooLong (told_line (lines_read t) 1))) (sym text_is);
              },
            );
          })
        where
          append_nothing : (l : List ℕ) → l ++ [] ≡ l
          append_nothing [] = refl
          append_nothing (b ∷ bs) = ap (λ (l : List ℕ). b ∷ l) (append_nothing bs)

      piece_is : now' ≡ with_heard s (piece_heard s now.text piece now.came) (now.text ++ piece) now → HasText s (whole_lines now'.text) now'
      piece_is e =
          subst (λ (t : List ℕ). HasText s (whole_lines t) now') (sym (ap (λ (n : Now). n.text) e ∙ heard_text s (piece_heard s now.text piece now.came) (now.text ++ piece) now))
          (by (nat_lt rest_limit (length (last_line (rest ++ piece)))) refl e)
        where
          by : (b : Bool) → nat_lt rest_limit (length (last_line (rest ++ piece))) ≡ b → now' ≡ with_heard s (cond b too_long lines) (now.text ++ piece) now → HasText s (whole_lines (now.text ++ piece)) now'
          by true is same = subst (HasText s (whole_lines (now.text ++ piece))) (sym same) (no_end (ltb-true rest_limit (length (last_line (rest ++ piece))) is))
          by false is same = becomes lines (whole_lines (now.text ++ piece)) (now.text ++ piece) now now' lines_end same

  -- ---- A call
  room_made : (e : Ends) (what : Due) (room : ℕ) (bytes : List ℕ) (answer : InputRead) → IsMade e what (Read room bytes answer) → room ≡ room_for_one
  room_made e to.Read room bytes answer made = made
  room_made e (to.Wait more) room bytes answer made = absurd made
  room_made e (to.Accept place) room bytes answer made = absurd made
  room_made e (to.Take place) room bytes answer made = absurd made
  room_made e (to.Put place) room bytes answer made = absurd made
  room_made e (to.Close place) room bytes answer made = absurd made

  by_same : (ended : Bool) (now now' : Now) → now' ≡ now → HasText s (told_by ended now.text) now → HasText s (told_by ended now'.text) now'
  by_same ended now now' e has = subst (λ (n : Now). HasText s (told_by ended n.text) n) (sym e) has

  reads_on : (ended : Bool) (call : VenueCall) (now now' : Now) → AlsoBy NoCommand call → Brings s call now now' → Reads now now' → HasText s (told_by ended now.text) now → HasText s (told_by ended now'.text) now'
  reads_on ended call now now' also e reads has = stays ended now now' reads.text reads.fault (brings_none call now now' also e) has

  made_none : (place count : ℕ) → (NoCommand (cond (is_spin place) (SpinMade place) (ProxyMade place))) × NoCommand (cond (is_spin place) (SpinPut place count) (ProxyPut place count))
  made_none place count = by (is_spin place)
    where
      by : (c : Bool) → NoCommand (cond c (SpinMade place) (ProxyMade place)) × NoCommand (cond c (SpinPut place count) (ProxyPut place count))
      by true = (tt, tt)
      by false = (tt, tt)

  -- ---- A run
  has_none : HasText s [] at_first
  unfolding items_of said_of
  has_none = record { same = same_as_it []; fault = inl refl }

  has_text : (run : List VenueCall) (now : Now) → Runs s run now → HasText s (told_by (is_read run) now.text) now
  has_text [] now e = by_same false at_first now e has_none
  has_text (Send line datagram ∷ run) now (before, (runs, e)) =
      stays (is_read run) before now (sym (ap (λ (n : Now). n.text) e)) (sym (ap (λ (n : Now). n.fault) e)) (subst (λ (came : List UnitCame). SameCommands now.came came) (sym (ap (λ (n : Now). n.came) e)) (same_as_it now.came)) (has_text run before runs)
  has_text (Wait more wait_end.Second ∷ run) now (before, (runs, on)) = reads_on (is_read run) (Wait more wait_end.Second) before now tt on.brings (second_reads s before now on.brings) (has_text run before runs)
  has_text (Wait more wait_end.Ready ∷ run) now (before, (runs, on)) = by_same (is_read run) before now on.brings (has_text run before runs)
  has_text (Wait more wait_end.Over ∷ run) now (before, (runs, on)) = by_same (is_read run) before now on.brings (has_text run before runs)
  has_text (Wait more wait_end.Failed ∷ run) now (before, (runs, on)) = by_same (is_read run) before now on.brings (has_text run before runs)
  has_text (Read room bytes (input.Got n) ∷ run) now (before, (runs, on)) =
      let unread : is_read run ≡ false = reads_before_the_end s run room bytes (input.Got n) now (before, (runs, on)) in
      let has : HasText s (whole_lines before.text) before = subst (λ (b : Bool). HasText s (told_by b before.text) before) unread (has_text run before runs) in
      let room_is : room ≡ 65536 = room_made (ends_now s before.came) on.is_due.what room bytes (input.Got n) on.is_due.made in
      let fits : length bytes ≤ room = on.fits in
      subst (λ (b : Bool). HasText s (told_by b now.text) now) (sym unread) (piece_is before now on.good has bytes (omega (arith, fits, room_is)) on.brings)
  has_text (Read room bytes input.Ended ∷ run) now (before, (runs, on)) =
      let unread : is_read run ≡ false = reads_before_the_end s run room bytes input.Ended now (before, (runs, on)) in
      let has : HasText s (whole_lines before.text) before = subst (λ (b : Bool). HasText s (told_by b before.text) before) unread (has_text run before runs) in
      ends_with before now on.good has on.brings
  has_text (Read room bytes input.Quiet ∷ run) now (before, (runs, on)) = by_same (is_read run) before now on.brings (has_text run before runs)
  has_text (Read room bytes input.Failed ∷ run) now (before, (runs, on)) = by_same (is_read run) before now on.brings (has_text run before runs)
  has_text (Accept place true ∷ run) now (before, (runs, on)) = reads_on (is_read run) (Accept place true) before now (made_none place 0).0 on.brings (let_in_keeps place before now on.brings).reads (has_text run before runs)
  has_text (Accept place false ∷ run) now (before, (runs, on)) = by_same (is_read run) before now on.brings (has_text run before runs)
  has_text (Take place room bytes (taken.Got n) ∷ run) now (before, (runs, on)) = reads_on (is_read run) (Take place room bytes (taken.Got n)) before now tt on.brings (took_reads s place bytes before now on.brings) (has_text run before runs)
  has_text (Take place room bytes taken.Quiet ∷ run) now (before, (runs, on)) = by_same (is_read run) before now on.brings (has_text run before runs)
  has_text (Take place room bytes taken.Ended ∷ run) now (before, (runs, on)) = reads_on (is_read run) (Take place room bytes taken.Ended) before now tt on.brings (left_keeps place before now on.brings).reads (has_text run before runs)
  has_text (Put place piece (put.Wrote n) ∷ run) now (before, (runs, on)) = reads_on (is_read run) (Put place piece (put.Wrote n)) before now (made_none place n).1 on.brings (wrote_keeps s place n before now on.brings).reads (has_text run before runs)
  has_text (Put place piece put.Full ∷ run) now (before, (runs, on)) = by_same (is_read run) before now on.brings (has_text run before runs)
  has_text (Put place piece put.Ended ∷ run) now (before, (runs, on)) = reads_on (is_read run) (Put place piece put.Ended) before now tt on.brings (left_keeps place before now on.brings).reads (has_text run before runs)
  has_text (Close place ∷ run) now (before, (runs, on)) = reads_on (is_read run) (Close place) before now tt on.brings (left_keeps place before now on.brings).reads (has_text run before runs)

pub runs_have_the_text : RunsHaveTheText
runs_have_the_text s run now runs =
    let has = has_text s run now runs in
    record { messages = λ at. same_messages s at now.came (text_heard s (told_by (is_read run) now.text)).came has.same; fault = has.fault }
