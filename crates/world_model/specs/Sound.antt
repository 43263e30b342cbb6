-- What holds of every world: all that came to its ends, and that the client's end stands beside the
-- venue's, so it heard nothing but datagrams that were handed out, the proxy's replies, and bytes
-- that were put to its session with the Spin Server.
use Rattle.std.specs.Prelude.{◌≡◌, ℕ, List, Contains}
use Rattle.std.specs.List.{AllByRecursion}
use Rattle.client_end.specs.Came.{Came, end_after}
use Rattle.venue_end.specs.Came.{VenueCame, venue_after}
use Rattle.served_laws.specs.Beside.{ComesBeside, handed_out}
use Rattle.served_laws.specs.Coming.{spin_bytes}
use Rattle.served_laws.specs.Putting.{put_of}
use Rattle.world_model.specs.Ends.{venue_setup, client_setup, the_session}
use Rattle.world_model.specs.State.{State}
use Rattle.world_model.specs.declared.limits.Limits.{Limits}

pub record Sound (unit : ℕ) (limits : Limits) (s : State) : Type 0 where
  -- all that came to the venue's end and to the client's, the newest first, left them so
  pub venue_came : List VenueCame
  pub client_came : List Came
  pub venue_is : s.venue ≡ venue_after (venue_setup unit limits) venue_came
  pub client_is : s.client ≡ end_after (client_setup unit limits) client_came
  -- the client's end stands beside the venue's, and has all that was put to the Spin Server's
  -- session
  pub beside : ComesBeside (venue_setup unit limits) venue_came client_came
  pub put_came :
      spin_bytes client_came ≡ put_of (venue_setup unit limits) the_session venue_came
  -- what was sent was handed out
  pub sent : AllByRecursion (Contains (handed_out (venue_setup unit limits) venue_came)) s.sent
  pub replayed :
      AllByRecursion (Contains (handed_out (venue_setup unit limits) venue_came)) s.replayed
