-- What holds of all that came to the units of a venue, and is kept by what a call of a run brings.
use Rattle.std.proofs.Common.{◌≡◌, ◌⊎◌, inl, inr, ℕ, zero, suc, Bool, true, false, cond, List, [], ◌∷◌, ◌++◌, length, nat_lt, is_some, sym, subst, Option, None, Some, Result, Ok, Err}
use Rattle.text_lines.specs.declared.fault.TextError.{TextError}
use Rattle.text_lines.specs.declared.fault.TextError.TheVariants as text
use Rattle.text_lines.specs.Items.{items_of}
use Rattle.pitch_text.specs.declared.command.Command.{Command}
use Rattle.live_net.specs.declared.live.WaitEnd.TheVariants as wait_end
use Rattle.live_net.specs.declared.live.PeerTaken.TheVariants as taken
use Rattle.live_net.specs.declared.live.PeerPut.TheVariants as put
use Rattle.unit_commands.specs.Pieces.{last_line, rest_limit, whole_lines}
use Rattle.unit_commands.specs.UnitCommands.{unit_command, unit_command_entry}
use Rattle.unit_commands.specs.declared.unit_command.UnitCommandEntry.{UnitCommandEntry}
use Rattle.venue_core.specs.declared.error.VenueError.{VenueError}
use Rattle.venue_end.specs.Came.{VenueCame, AllCut, Advertised, Commanded, Flushed, Second, SpinPumped}
use Rattle.venue_end.specs.declared.setup.VenueSetup.{VenueSetup}
use Rattle.venue_net.specs.VenueCalls.{VenueCall, Wait, Read, Send, Accept, Take, Put, Close}
use Rattle.venue_net.specs.declared.net.InputRead.TheVariants as input
use Rattle.venue_units.specs.Coming.{UnitCame, to_unit}
use Rattle.venue_units.specs.Places.{cut_at, is_spin, made_at, put_at, took_at, unit_of, waits_at}
use Rattle.live_venue.specs.Input.{Heard, all_heard, at_index, faulty, index_of, lines_heard, lines_read, next_heard, piece_heard, refusal_at, rest_heard, said_heard, told_line, unless_refused}
use Rattle.live_venue.specs.declared.fault.InputFault.TheVariants.{TooLong}
use Rattle.live_venue.specs.Running.{Advertises, Brings, Now, PassSeconds, SecondPasses, Ticks, beaten, flushed, is_none, left, let_in, pumped, took, with_heard, with_pump_if, wrote}

-- what may come by most calls
pub record AreCalm (Q : VenueCame → Type 0) : Type 0 where
  pub flushed : Q Flushed
  pub second : Q Second
  pub all_cut : Q AllCut
  pub advertised : Q Advertised
  pub took : (place : ℕ) (bytes : List ℕ) → Q (took_at place bytes)
  pub cut : (place : ℕ) → Q (cut_at place)
  pub pumped : (place : ℕ) → Q (SpinPumped place)

-- what else may come by a call
abbrev pub AlsoBy : (VenueCame → Type 0) → VenueCall → Type 0
AlsoBy Q (Read room bytes answer) = (command : Command) → Q (Commanded command)
AlsoBy Q (Accept place true) = Q (made_at place)
AlsoBy Q (Put place piece (put.Wrote n)) = Q (put_at place n)
AlsoBy Q call = Unit {0}

module _ (Q : VenueCame → Type 0) (P : List UnitCame → Type 0) (calm : AreCalm Q) (step : (at : ℕ) (came : VenueCame) (before : List UnitCame) → Q came → P before → P (to_unit at came ∷ before)) where
  -- P holds of all that came by then
  abbrev pub Has : Now → Type 0
  Has now = P now.came

  by_same : (now now' : Now) → now' ≡ now → Has now → Has now'
  by_same now now' e has = subst Has (sym e) has

  -- ---- The input
  pub flushed_keeps : (s : List VenueSetup) (count : ℕ) (now : Now) → Has now → Has (flushed s count now)
  flushed_keeps s zero now has = has
  flushed_keeps s (suc at) now has = step at Flushed (flushed s at now).came calm.flushed (flushed_keeps s at now has)

  module _ (commands : (command : Command) → Q (Commanded command)) (s : List VenueSetup) (before : ℕ) where
    unless_keeps : (refused : Option VenueError) (line at : ℕ) (command : Command) (came : List UnitCame) → P came → P (unless_refused refused line at command came).came
    unless_keeps None line at command came has = step at (Commanded command) came (commands command) has
    unless_keeps (Some error) line at command came has = has

    index_keeps : (found : Option ℕ) (line : ℕ) (command : Command) (came : List UnitCame) → P came → P (at_index s found line command came).came
    index_keeps None line command came has = has
    index_keeps (Some at) line command came has = unless_keeps (refusal_at s at came command) line at command came has

    said_keeps : (said : Result UnitCommandEntry TextError) (came : List UnitCame) → P came → P (said_heard s before said came).came
    said_keeps (Ok entry) came has = index_keeps (index_of s entry.unit) (told_line before entry.line) entry.command came has
    said_keeps (Err (text.Bad line column cause)) came has = has
    said_keeps (Err text.OutOfMemory) came has = has

    next_keeps : (said : Result UnitCommandEntry TextError) (heard : Heard) → P heard.came → P (next_heard s before said heard).came
    next_keeps said heard has = by (is_some heard.fault)
      where
        by : (b : Bool) → P (cond b heard (said_heard s before said heard.came)).came
        by true = has
        by false = said_keeps said heard.came has

    all_keep : (items : List (Result UnitCommandEntry TextError)) (heard : Heard) → P heard.came → P (all_heard s before items heard).came
    all_keep [] heard has = has
    all_keep (said ∷ others) heard has = all_keep others (next_heard s before said heard) (next_keeps said heard has)

    lines_keep : (lines : List ℕ) (came : List UnitCame) → P came → P (lines_heard s before lines came).came
    lines_keep lines came has = all_keep (items_of unit_command unit_command_entry lines) (record { came = came; fault = None }) has

  module _ (commands : (command : Command) → Q (Commanded command)) (s : List VenueSetup) where
    piece_keeps : (read piece : List ℕ) (came : List UnitCame) → P came → P (piece_heard s read piece came).came
    piece_keeps read piece came has = by (nat_lt rest_limit (length (last_line (last_line read ++ piece))))
      where
        by : (b : Bool) → P (cond b (faulty came (TooLong (told_line (lines_read read) 1))) (lines_heard s (lines_read read) (whole_lines (last_line read ++ piece)) came)).came
        by true = has
        by false = lines_keep commands s (lines_read read) (whole_lines (last_line read ++ piece)) came has

    rest_keeps : (read : List ℕ) (came : List UnitCame) → P came → P (rest_heard s read came).came
    rest_keeps read came has = lines_keep commands s (lines_read read) (last_line read) came has

  pub heard_keeps : (s : List VenueSetup) (heard : Heard) (text : List ℕ) (now : Now) → P heard.came → Has (with_heard s heard text now)
  heard_keeps s heard text now has = flushed_keeps s (length s) (record now { text = text; came = heard.came; fault = heard.fault }) has

  -- ---- Seconds
  ticks_keep : (at : ℕ) (now now' : Now) → Ticks at now now' → Has now → Has now'
  ticks_keep at now now' (inl e) has = by_same _ now' e (step at Second now.came calm.second has)
  ticks_keep at now now' (inr e) has = by_same _ now' e (step at AllCut (to_unit at Second ∷ now.came) calm.all_cut (step at Second now.came calm.second has))

  advertises_keep : (at : ℕ) (now now' : Now) → Advertises at now now' → Has now → Has now'
  advertises_keep at now now' (inl e) has = by_same _ now' e (step at Advertised now.came calm.advertised has)
  advertises_keep at now now' (inr (inl e)) has = by_same _ now' e (step at AllCut (to_unit at Advertised ∷ now.came) calm.all_cut (step at Advertised now.came calm.advertised has))
  advertises_keep at now now' (inr (inr e)) has = by_same now now' e has

  seconds_keep : (count : ℕ) (now now' : Now) → PassSeconds count now now' → Has now → Has now'
  seconds_keep zero now now' e has = by_same now now' e has
  seconds_keep (suc at) now now' (before, (passed, (between, (ticks, advertises)))) has =
      advertises_keep at between now' advertises (ticks_keep at before between ticks (seconds_keep at now before passed has))

  beaten_keeps : (s : List VenueSetup) (count : ℕ) (now : Now) → Has now → Has (beaten s count now)
  beaten_keeps s zero now has = has
  beaten_keeps s (suc at) now has = beaten_keeps s at now has

  second_keeps : (s : List VenueSetup) (now now' : Now) → SecondPasses s now now' → Has now → Has now'
  second_keeps s now now' (after, (passed, e)) has = by_same _ now' e (beaten_keeps s (length s) after (seconds_keep (length s) now after passed has))

  -- ---- A place
  pub left_keeps : (place : ℕ) (now now' : Now) → now' ≡ left place now → Has now → Has now'
  left_keeps place now now' e has = by_same _ now' e (step (unit_of place) (cut_at place) now.came (calm.cut place) has)

  let_in_keeps : (place : ℕ) (now now' : Now) → Q (made_at place) → (now' ≡ let_in place now) ⊎ (now' ≡ left place now) → Has now → Has now'
  let_in_keeps place now now' made (inl e) has = by_same _ now' e (step (unit_of place) (made_at place) now.came made has)
  let_in_keeps place now now' made (inr e) has = left_keeps place now now' e has

  took_keeps : (s : List VenueSetup) (place : ℕ) (bytes : List ℕ) (now now' : Now) → (now' ≡ took s place bytes now) ⊎ (now' ≡ left place now) → Has now → Has now'
  took_keeps s place bytes now now' (inl e) has = by_same _ now' e (step (unit_of place) (took_at place bytes) now.came (calm.took place bytes) has)
  took_keeps s place bytes now now' (inr e) has = left_keeps place now now' e has

  pump_keeps : (place : ℕ) (nothing : Bool) (came : List UnitCame) → P came → P (with_pump_if nothing place came)
  pump_keeps place true came has = by (is_spin place)
    where
      by : (b : Bool) → P (cond b (to_unit (unit_of place) (SpinPumped place) ∷ came) came)
      by true = step (unit_of place) (SpinPumped place) came (calm.pumped place) has
      by false = has
  pump_keeps place false came has = has

  -- what follows a put
  pub put_keeps : (s : List VenueSetup) (place count : ℕ) (now now' : Now) → (now' ≡ pumped s place (wrote place count now)) ⊎ (now' ≡ left place (wrote place count now)) → Has (wrote place count now) → Has now'
  put_keeps s place count now now' (inl e) has = by_same _ now' e (pump_keeps place (is_none (waits_at s place (wrote place count now).came)) (wrote place count now).came has)
  put_keeps s place count now now' (inr e) has = left_keeps place (wrote place count now) now' e has

  -- ---- Any call
  pub brings_keeps : (s : List VenueSetup) (call : VenueCall) (now now' : Now) → AlsoBy Q call → Brings s call now now' → Has now → Has now'
  brings_keeps s (Wait more wait_end.Second) now now' also e has = second_keeps s now now' e has
  brings_keeps s (Wait more wait_end.Ready) now now' also e has = by_same now now' e has
  brings_keeps s (Wait more wait_end.Over) now now' also e has = by_same now now' e has
  brings_keeps s (Wait more wait_end.Failed) now now' also e has = by_same now now' e has
  brings_keeps s (Read room bytes (input.Got n)) now now' also e has = by_same _ now' e (heard_keeps s _ (now.text ++ bytes) now (piece_keeps also s now.text bytes now.came has))
  brings_keeps s (Read room bytes input.Ended) now now' also e has = by_same _ now' e (heard_keeps s _ now.text now (rest_keeps also s now.text now.came has))
  brings_keeps s (Read room bytes input.Quiet) now now' also e has = by_same now now' e has
  brings_keeps s (Read room bytes input.Failed) now now' also e has = by_same now now' e has
  brings_keeps s (Send line datagram) now now' also e has = by_same now now' e has
  brings_keeps s (Accept place true) now now' also e has = let_in_keeps place now now' also e has
  brings_keeps s (Accept place false) now now' also e has = by_same now now' e has
  brings_keeps s (Take place room bytes (taken.Got n)) now now' also e has = took_keeps s place bytes now now' e has
  brings_keeps s (Take place room bytes taken.Quiet) now now' also e has = by_same now now' e has
  brings_keeps s (Take place room bytes taken.Ended) now now' also e has = left_keeps place now now' e has
  brings_keeps s (Put place piece (put.Wrote n)) now now' also e has = put_keeps s place n now now' e (step (unit_of place) (put_at place n) now.came also has)
  brings_keeps s (Put place piece put.Full) now now' also e has = by_same now now' e has
  brings_keeps s (Put place piece put.Ended) now now' also e has = left_keeps place now now' e has
  brings_keeps s (Close place) now now' also e has = left_keeps place now now' e has
