-- What a demo does, and what its calls send, as its callers are told.
use Rattle.std.specs.Prelude.{◌≡◌, List, ◌++◌, Option, Some, ℕ, Result, OnOk, IfErr, OnErr, take}
use Rattle.std.specs.List.{AllByRecursion}
use Rattle.pitch_io.specs.Nets.{Call, Send}
use Rattle.heard_items.specs.Datagrams.{IsPiece}
use Rattle.pitch_model.specs.Book.{book_after}
use Rattle.pitch_model.specs.Honest.{Honest}
use Rattle.pitch_model.specs.Image.{image}
use Rattle.pitch_model.specs.Reach.{reach}
use Rattle.world_model.specs.State.{State}
use Rattle.net_edge.specs.Due.{Setting, demo_unit, hold_limit}
use Rattle.net_edge.specs.Demo.{AreTotalsOf, all_messages, IsDemo, BreaksDemo}
use Rattle.net_edge.specs.declared.error.DemoError.{DemoError}
use Rattle.net_edge.specs.layers.Playing.{NetCounts}

-- what a call sends, if it sends something, has the venue's messages, at their sequences
abbrev pub SendsPiece : Setting → Call → Type 0
SendsPiece s (Send line datagram answer) = IsPiece (all_messages s) demo_unit datagram
SendsPiece s call = Unit {0}

-- where the net lists its calls, some were added, and each of them that sends something sends a
-- piece
abbrev pub SendsPieces : Setting → Option (List Call) → Option (List Call) → Type 0
SendsPieces s (Some before) (Some after) =
    (added : List Call) × (after ≡ added ++ before) × AllByRecursion (SendsPiece s) added
SendsPieces s before after = Unit {0}

-- ---- A demo
-- numbers are those of the book that the venue's messages leave up to the client's reach, where the
-- client was told the truth of what the venue accepted
abbrev pub AreTotalsIfHonest : State → ℕ → ℕ → Type 0
AreTotalsIfHonest w orders quantity = Honest image w.venue.messages w.client.heard
    → AreTotalsOf (book_after (take (reach hold_limit w.client.heard) w.venue.messages))
    orders quantity

-- it ran, or broke off; the net failed only where its count of faults rose; and nothing is appended
-- after an error
pub record DoesDemo (s : Setting) (result : Result (Unit {0}) DemoError)
    (calls calls' : Option (List Call)) (faults faults' : ℕ) (text text' : List ℕ) :
    Type 0 where
  pub ran : OnOk result (IsDemo s calls calls' text text')
  pub broke : IfErr result (BreaksDemo s calls calls')
  pub counts : NetCounts result faults faults'
  pub err : OnErr result (text' ≡ text)
