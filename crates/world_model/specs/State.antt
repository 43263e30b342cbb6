-- What stands in one unit's world. Notes stand newest first; datagrams stand in their order.
use Rattle.std.specs.Prelude.{ℕ, Bool, false, List, [], drop, max}
use Rattle.pitch_io.specs.declared.line.Line.{Line}
use Rattle.pitch_io.specs.declared.line.Line.TheVariants.{A, B, Gap}
use Rattle.pitch_text.specs.declared.verb.Session.{Session}
use Rattle.pitch_text.specs.declared.verb.Session.TheVariants.{Grp, Spin}
use Rattle.line_arbiter.specs.Noted.{Note}
use Rattle.client_end.specs.Came as client
use Rattle.client_end.specs.Came.{EndState}
use Rattle.venue_end.specs.Came as venue
use Rattle.venue_end.specs.Came.{VenueState}
use Rattle.world_model.specs.declared.passed.Passed.{Passed}

pub record State : Type 0 where
  -- a verb was done
  pub begun : Bool
  -- the venue's end, and the client's
  pub venue : VenueState
  pub client : EndState
  -- what the client's end said to the proxy, and to the Spin Server, and was not carried up yet
  pub grp_up : List ℕ
  pub spin_up : List ℕ
  -- the datagrams of lines A and B, which are the same, and those of the gap line
  pub sent : List (List ℕ)
  pub replayed : List (List ℕ)
  -- what each block brought on its line; and of each line the greatest number of a datagram that
  -- the client got
  pub notes : List Note
  pub passed : Passed

-- no verb was done yet
abbrev pub start : State
start = record {
  begun = false;
  venue = venue.nothing_came;
  client = client.nothing_came;
  grp_up = [];
  spin_up = [];
  sent = [];
  replayed = [];
  notes = [];
  passed = record { a = 0; b = 0; gap = 0 };
}

-- ---- Its parts, by session
-- the bytes that wait for the server of a session
abbrev pub up_waits : Session → State → List ℕ
up_waits Grp s = s.grp_up
up_waits Spin s = s.spin_up

-- the first so many of them are carried
abbrev pub up_taken : Session → ℕ → State → State
up_taken Grp n s = record s { grp_up = drop n s.grp_up }
up_taken Spin n s = record s { spin_up = drop n s.spin_up }

-- ---- Its parts, by line
abbrev pub datagrams_on : State → Line → List (List ℕ)
datagrams_on s A = s.sent
datagrams_on s B = s.sent
datagrams_on s Gap = s.replayed

abbrev pub passed_on : Passed → Line → ℕ
passed_on p A = p.a
passed_on p B = p.b
passed_on p Gap = p.gap

-- the client got a datagram of a line, by its number
abbrev pub passed_to : Line → ℕ → Passed → Passed
passed_to A n p = record p { a = max n p.a }
passed_to B n p = record p { b = max n p.b }
passed_to Gap n p = record p { gap = max n p.gap }
