-- What a demo of both ends does over a net that lists its calls.
use Rattle.std.specs.Prelude.{◌≡◌, ℕ, ◌+◌, ◌<◌, ◌≤◌, ◌⊎◌, List, ◌∷◌, ◌++◌, Option, Some, length}
use Rattle.std.specs.Prelude.{take, Contains}
use Rattle.std.specs.List.{AllByRecursion}
use Rattle.std.specs.FinMap as map
use Rattle.pitch_io.specs.declared.line.Line.{Line}
use Rattle.pitch_io.specs.declared.net.LinkEnd.{LinkEnd}
use Rattle.pitch_io.specs.Nets.{Call, Begin, other_end}
use Rattle.pitch_io.specs.declared.net.NetDone.TheVariants.{Done, Failed}
use Rattle.unit_packets.specs.Packing.{datagram_size}
use Rattle.pitch_model.specs.Book.{Book, book_after}
use Rattle.pitch_model.specs.Levels.{shares}
use Rattle.pitch_model.specs.Reach.{reach}
use Rattle.pitch_model.specs.declared.status.Status.TheVariants.{Current}
use Rattle.heard_items.specs.Datagrams.{IsPiece}
use Rattle.venue_core.specs.Plan.{plan}
use Rattle.feed_lines.specs.UnitLine.{unit_line}
use Rattle.net_edge.specs.Acting.{scene_of}
use Rattle.net_edge.specs.Breaking.{Breaks}
use Rattle.net_edge.specs.Due.{Setting, demo_unit, hold_limit}
use Rattle.net_edge.specs.Scene.{Scene, line_in, at_end}
use Rattle.net_edge.specs.Steps.{Step, calls_of}
use Rattle.net_edge.specs.Turns.{AreSteps, IsOver, client_status}
use Rattle.net_edge.specs.declared.error.DemoError.{DemoError}
use Rattle.net_edge.specs.declared.error.DemoError.TheVariants as errors

-- each datagram that came was sent on its line, and the bytes that came to each end begin those
-- that were put at the other
pub record IsCarried (now : Scene) : Type 0 where
  pub lines : (line : Line) (datagram : List ℕ)
      → Contains (line_in line now).came datagram → Contains (line_in line now).sent datagram
  pub ends : (at : LinkEnd)
      → (later : List ℕ) × ((at_end (other_end at) now).put ≡ (at_end at now).came ++ later)

-- no datagram is longer than a packer makes one
abbrev pub AreShort : List (List ℕ) → Type 0
AreShort datagrams =
    AllByRecursion (λ (datagram : List ℕ). length datagram ≤ datagram_size) datagrams

-- the last turn is the first one above the count at whose end all is current, or there is none and
-- it is 200 above the count
pub record IsLast (s : Setting) (now : Scene) : Type 0 where
  pub above : s.count < now.turn
  pub within : now.turn ≤ s.count + 200
  pub last : (client_status now ≡ Current s.count) ⊎ (now.turn ≡ s.count + 200)

-- the venue's messages, and the book that they leave up to the client's reach
abbrev pub all_messages : Setting → List (List ℕ)
all_messages s = plan s.number demo_unit s.count

abbrev pub reached_book : Setting → Scene → Book
reached_book s now =
    book_after (take (reach hold_limit now.world.client.heard) (all_messages s))

-- numbers of orders and shares are those of a book
pub record AreTotalsOf (book : Book) (orders quantity : ℕ) : Type 0 where
  pub orders_are : orders ≡ map.len book.orders
  pub shares_are : quantity ≡ shares book

-- at the end of a run that printed these numbers
pub record EndsDemo (s : Setting) (now : Scene) (orders quantity : ℕ) : Type 0 where
  pub over : IsOver s now
  pub last : IsLast s now
  -- each datagram has the venue's messages, at their sequences
  pub pieces : (line : Line)
      → AllByRecursion (IsPiece (all_messages s) demo_unit) (line_in line now).sent
  pub short : (line : Line) → AreShort (line_in line now).sent
  -- where the net carried what it was given, the numbers are those of the venue's book
  pub book : IsCarried now → AreTotalsOf (reached_book s now) orders quantity

-- where the net lists its calls before and after a run, `begin` and then the calls of the run were
-- added
abbrev pub AddsCalls : List Step → Option (List Call) → Option (List Call) → Type 0
AddsCalls run (Some before) (Some after) = after ≡ calls_of run ++ (Begin Done ∷ before)
AddsCalls run before after = Unit {0}

-- a demo that ended early had not begun: memory ran out before its first call, or `begin` was that
-- call, and failed
abbrev pub IsUnbegun : DemoError → List Call → List Call → Type 0
IsUnbegun errors.OutOfMemory before after = after ≡ before
IsUnbegun errors.NetFault before after = after ≡ Begin Failed ∷ before

-- a demo ended early. Where the net lists its calls, it had not begun, or `begin` and then the
-- calls of a run that broke off were added
abbrev pub BreaksDemo : Setting → Option (List Call) → Option (List Call) → DemoError → Type 0
BreaksDemo s (Some before) (Some after) error =
    IsUnbegun error before after ⊎ Breaks s (Begin Done ∷ before) (Some after) error
BreaksDemo s before after error = Unit {0}

-- a demo did such a run, and printed the unit's line
pub record IsDemo (s : Setting) (before after : Option (List Call)) (text text' : List ℕ) :
    Type 0 where
  pub run : List Step
  pub calls : AddsCalls run before after
  pub steps : AreSteps s run
  pub orders : ℕ
  pub quantity : ℕ
  pub end : EndsDemo s (scene_of s run) orders quantity
  pub printed : text' ≡ text ++ unit_line demo_unit (client_status (scene_of s run)) orders quantity
