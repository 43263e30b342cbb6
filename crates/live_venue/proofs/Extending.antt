-- What came to the units is followed by more, and pieces stay pieces.
use Rattle.std.proofs.Common.{◌≡◌, inl, inr, ℕ, zero, suc, Bool, true, false, cond, List, [], ◌∷◌, ◌++◌, refl, sym, ap, ◌∙◌, append_assoc, subst, Option, Some, None, Result, Ok, Err, is_some, length, nat_lt}
use Rattle.text_lines.specs.declared.fault.TextError.{TextError}
use Rattle.text_lines.specs.declared.fault.TextError.TheVariants as text
use Rattle.pitch_text.specs.declared.command.Command.{Command}
use Rattle.unit_commands.specs.declared.unit_command.UnitCommandEntry.{UnitCommandEntry}
use Rattle.venue_core.specs.declared.error.VenueError.{VenueError}
use Rattle.venue_end.specs.Came.{Commanded, SpinPumped}
use Rattle.venue_end.specs.declared.setup.VenueSetup.{VenueSetup}
use Rattle.venue_net.specs.VenueCalls.{VenueCall, Wait, Read, Send, Accept, Take, Put, Close}
use Rattle.venue_units.specs.Coming.{UnitCame, to_unit}
use Rattle.venue_units.specs.Places.{is_spin, unit_of}
use Rattle.venue_units.proofs.Messages.{pieces_stay_pieces}
use Rattle.live_venue.specs.Input.{Heard, all_heard, at_index, faulty, index_of, lines_heard, lines_read, next_heard, piece_heard, refusal_at, rest_heard, said_heard, told_line, unless_refused}
use Rattle.live_venue.specs.declared.fault.InputFault.TheVariants.{TooLong}
use Rattle.text_lines.specs.Items.{items_of}
use Rattle.unit_commands.specs.Pieces.{last_line, rest_limit, whole_lines}
use Rattle.unit_commands.specs.UnitCommands.{unit_command, unit_command_entry}
use Rattle.live_venue.specs.Running.{Advertises, Now, PassSeconds, Ticks, beaten, flushed, with_pump_if}
use Rattle.live_venue.specs.Sending.{Sending}
use Rattle.live_venue.specs.Serving.{IsPieceOn, SendsAPiece, SendsPieces}
use Rattle.live_venue.specs.Standing.{ArePieces}

-- ---- More came
abbrev pub Extends : List UnitCame → List UnitCame → Type 0
Extends came' came = (later : List UnitCame) × (came' ≡ later ++ came)

pub ext_none : (came : List UnitCame) → Extends came came
ext_none came = ([], refl)

pub ext_one : (next : UnitCame) (came : List UnitCame) → Extends (next ∷ came) came
ext_one next came = (next ∷ [], refl)

pub ext_trans : (a b c : List UnitCame) → Extends a b → Extends b c → Extends a c
ext_trans a b c f g = (f.0 ++ g.0, f.1 ∙ ap (λ (l : List UnitCame). f.0 ++ l) g.1 ∙ sym (append_assoc f.0 g.0 c))

pub ext_more : (next : UnitCame) (a b : List UnitCame) → Extends a b → Extends (next ∷ a) b
ext_more next a b f = ext_trans (next ∷ a) a b (ext_one next a) f

pub ext_same : (a b c : List UnitCame) → a ≡ b → Extends b c → Extends a c
ext_same a b c e f = (f.0, e ∙ f.1)

-- ---- Pieces
module _ (s : List VenueSetup) where
  pub piece_later : (came later : List UnitCame) (line : ℕ) (datagram : List ℕ) → IsPieceOn s came line datagram → IsPieceOn s (later ++ came) line datagram
  piece_later came later line datagram (at, (setup, (there, (line_is, piece)))) = (at, (setup, (there, (line_is, pieces_stay_pieces setup at setup.unit datagram later came piece))))

  pub pieces_later : (came came' : List UnitCame) (unsent : List Sending) → Extends came' came → ArePieces s came unsent → ArePieces s came' unsent
  pieces_later came came' [] e all = tt
  pieces_later came came' (next ∷ unsent) e all =
      (subst (λ (c : List UnitCame). IsPieceOn s c next.line next.datagram) (sym e.1) (piece_later came e.0 next.line next.datagram all.0), pieces_later came came' unsent e all.1)

  a_piece_later : (came came' : List UnitCame) (call : VenueCall) → Extends came' came → SendsAPiece s came call → SendsAPiece s came' call
  a_piece_later came came' (Send line datagram) e p = subst (λ (c : List UnitCame). IsPieceOn s c line datagram) (sym e.1) (piece_later came e.0 line datagram p)
  a_piece_later came came' (Wait more answer) e p = tt
  a_piece_later came came' (Read room bytes answer) e p = tt
  a_piece_later came came' (Accept place let_in) e p = tt
  a_piece_later came came' (Take place room bytes answer) e p = tt
  a_piece_later came came' (Put place piece answer) e p = tt
  a_piece_later came came' (Close place) e p = tt

  pub sends_later : (came came' : List UnitCame) (run : List VenueCall) → Extends came' came → SendsPieces s came run → SendsPieces s came' run
  sends_later came came' [] e all = tt
  sends_later came came' (call ∷ run) e all = (a_piece_later came came' call e all.0, sends_later came came' run e all.1)

-- ---- What the units hear
module _ (s : List VenueSetup) (before : ℕ) where
  unless_extends : (refused : Option VenueError) (line at : ℕ) (command : Command) (came : List UnitCame) → Extends (unless_refused refused line at command came).came came
  unless_extends None line at command came = ext_one (to_unit at (Commanded command)) came
  unless_extends (Some error) line at command came = ext_none came

  index_extends : (found : Option ℕ) (line : ℕ) (command : Command) (came : List UnitCame) → Extends (at_index s found line command came).came came
  index_extends None line command came = ext_none came
  index_extends (Some at) line command came = unless_extends (refusal_at s at came command) line at command came

  said_extends : (said : Result UnitCommandEntry TextError) (came : List UnitCame) → Extends (said_heard s before said came).came came
  said_extends (Ok entry) came = index_extends (index_of s entry.unit) (told_line before entry.line) entry.command came
  said_extends (Err (text.Bad line column cause)) came = ext_none came
  said_extends (Err text.OutOfMemory) came = ext_none came

  next_extends : (said : Result UnitCommandEntry TextError) (heard : Heard) → Extends (next_heard s before said heard).came heard.came
  next_extends said heard = by (is_some heard.fault)
    where
      by : (b : Bool) → Extends (cond b heard (said_heard s before said heard.came)).came heard.came
      by true = ext_none heard.came
      by false = said_extends said heard.came

  pub all_extends : (items : List (Result UnitCommandEntry TextError)) (heard : Heard) → Extends (all_heard s before items heard).came heard.came
  all_extends [] heard = ext_none heard.came
  all_extends (said ∷ others) heard = ext_trans _ _ _ (all_extends others (next_heard s before said heard)) (next_extends said heard)

-- ---- What the units send
pub flushed_extends : (s : List VenueSetup) (count : ℕ) (now : Now) → Extends (flushed s count now).came now.came
flushed_extends s zero now = ext_none now.came
flushed_extends s (suc at) now = ext_more _ _ _ (flushed_extends s at now)

pub beaten_same : (s : List VenueSetup) (count : ℕ) (now : Now) → (beaten s count now).came ≡ now.came
beaten_same s zero now = refl
beaten_same s (suc at) now = beaten_same s at now

-- ---- Seconds
ticks_extends : (at : ℕ) (now now' : Now) → Ticks at now now' → Extends now'.came now.came
ticks_extends at now now' (inl e) = ext_same _ _ _ (ap (λ (n : Now). n.came) e) (ext_one _ now.came)
ticks_extends at now now' (inr e) = ext_same _ _ _ (ap (λ (n : Now). n.came) e) (ext_more _ _ _ (ext_one _ now.came))

advertises_extends : (at : ℕ) (now now' : Now) → Advertises at now now' → Extends now'.came now.came
advertises_extends at now now' (inl e) = ext_same _ _ _ (ap (λ (n : Now). n.came) e) (ext_one _ now.came)
advertises_extends at now now' (inr (inl e)) = ext_same _ _ _ (ap (λ (n : Now). n.came) e) (ext_more _ _ _ (ext_one _ now.came))
advertises_extends at now now' (inr (inr e)) = ext_same _ _ _ (ap (λ (n : Now). n.came) e) (ext_none now.came)

pub seconds_extend : (count : ℕ) (now now' : Now) → PassSeconds count now now' → Extends now'.came now.came
seconds_extend zero now now' e = ext_same _ _ _ (ap (λ (n : Now). n.came) e) (ext_none now.came)
seconds_extend (suc at) now now' (before, (passed, (between, (ticks, advertises)))) =
    ext_trans _ _ _ (advertises_extends at between now' advertises) (ext_trans _ _ _ (ticks_extends at before between ticks) (seconds_extend at now before passed))

-- ---- A pump
pub pump_extends : (place : ℕ) (nothing : Bool) (came : List UnitCame) → Extends (with_pump_if nothing place came) came
pump_extends place true came = by (is_spin place)
  where
    by : (b : Bool) → Extends (cond b (to_unit (unit_of place) (SpinPumped place) ∷ came) came) came
    by true = ext_one _ came
    by false = ext_none came
pump_extends place false came = ext_none came

-- ---- The input
lines_extend : (s : List VenueSetup) (before : ℕ) (lines : List ℕ) (came : List UnitCame) → Extends (lines_heard s before lines came).came came
lines_extend s before lines came = all_extends s before (items_of unit_command unit_command_entry lines) (record { came = came; fault = None })

pub piece_extends : (s : List VenueSetup) (read piece : List ℕ) (came : List UnitCame) → Extends (piece_heard s read piece came).came came
piece_extends s read piece came = by (nat_lt rest_limit (length (last_line (last_line read ++ piece))))
  where
    by : (b : Bool) → Extends (cond b (faulty came (TooLong (told_line (lines_read read) 1))) (lines_heard s (lines_read read) (whole_lines (last_line read ++ piece)) came)).came came
    by true = ext_none came
    by false = lines_extend s (lines_read read) (whole_lines (last_line read ++ piece)) came

pub rest_extends : (s : List VenueSetup) (read : List ℕ) (came : List UnitCame) → Extends (rest_heard s read came).came came
rest_extends s read came = lines_extend s (lines_read read) (last_line read) came
