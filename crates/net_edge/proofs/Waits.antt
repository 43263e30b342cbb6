-- What waits at the ends of a world, and what is put of it.
use Rattle.std.proofs.Common.{◌≡◌, ℕ, ◌+◌, List, [], ◌∷◌, drop, Option, refl, ap, ◌∙◌, arith}
use Rattle.std.proofs.lemmas.List.{drop-drop}
use Rattle.std.proofs.Math.Seq.{drop-nil}
use Rattle.pitch_io.specs.declared.net.LinkEnd.{LinkEnd}
use Rattle.pitch_io.specs.declared.net.LinkEnd.TheVariants.{GrpClient, GrpServer, SpinClient, SpinServer}
use Rattle.grp_session.specs.Serving.{Source}
use Rattle.spin_server.specs.Served.{Served}
use Rattle.venue_end.specs.Sessions.{Session, at_session, puts, session_of, waiting_in}
use Rattle.served_laws.proofs.Sessions.{became, one_becomes}
use Rattle.world_model.specs.Ends.{the_session}
use Rattle.world_model.specs.State.{State}
use Rattle.net_edge.specs.Acting.{put_at}
use Rattle.net_edge.specs.Scene.{waits_at}

-- ---- The sessions of a server
module _ {X : Type 0} (id : ℕ) where
  sessions_none : (ks : List (Session X)) → at_session id (puts 0) ks ≡ ks
  sessions_none [] = refl
  sessions_none (k ∷ ks) = grind (arith, sessions_none ks)

  put_twice : (m n : ℕ) (k : Session X) → puts n (puts m k) ≡ puts (m + n) k
  put_twice m n k = ap (λ (l : List ℕ). record { id = k.id; happened = k.happened; waiting = l }) (drop-drop n m k.waiting)

  sessions_both : (m n : ℕ) (ks : List (Session X)) → at_session id (puts n) (at_session id (puts m) ks) ≡ at_session id (puts (m + n)) ks
  sessions_both m n [] = refl
  sessions_both m n (k ∷ ks) = grind (arith, put_twice, sessions_both m n ks)

  waits_then : (n : ℕ) (ks : List (Session X)) → waiting_in (session_of id (at_session id (puts n) ks)) ≡ drop n (waiting_in (session_of id ks))
  waits_then n ks = ap waiting_in (one_becomes (puts n) (λ k. refl) id ks) ∙ by (session_of id ks)
    where
      by : (o : Option (Session X)) → waiting_in (became (puts n) (λ k. refl) o) ≡ drop n (waiting_in o)
      by o = grind (arith, drop-nil)

-- ---- The ends of a world
pub put_at_none : (at : LinkEnd) (w : State) → put_at at 0 w ≡ w
put_at_none GrpClient w = refl
put_at_none GrpServer w = ap (λ (ks : List (Session Source)). record w { venue = record w.venue { proxies = ks } }) (sessions_none the_session w.venue.proxies)
put_at_none SpinClient w = refl
put_at_none SpinServer w = ap (λ (ks : List (Session (List Served))). record w { venue = record w.venue { spins = ks } }) (sessions_none the_session w.venue.spins)

pub put_at_both : (at : LinkEnd) (m n : ℕ) (w : State) → put_at at n (put_at at m w) ≡ put_at at (m + n) w
put_at_both GrpClient m n w = ap (λ (l : List ℕ). record w { grp_up = l }) (drop-drop n m w.grp_up)
put_at_both GrpServer m n w = ap (λ (ks : List (Session Source)). record w { venue = record w.venue { proxies = ks } }) (sessions_both the_session m n w.venue.proxies)
put_at_both SpinClient m n w = ap (λ (l : List ℕ). record w { spin_up = l }) (drop-drop n m w.spin_up)
put_at_both SpinServer m n w = ap (λ (ks : List (Session (List Served))). record w { venue = record w.venue { spins = ks } }) (sessions_both the_session m n w.venue.spins)

-- what was put waits no more
pub waits_left : (at : LinkEnd) (n : ℕ) (w : State) → waits_at at (put_at at n w) ≡ drop n (waits_at at w)
waits_left GrpServer n w = waits_then the_session n w.venue.proxies
waits_left SpinServer n w = waits_then the_session n w.venue.spins
waits_left at n w = refl

-- and nothing else changes
pub others_wait : (at other : LinkEnd) (n : ℕ) (w : State) → (other ≡ at → ⊥) → waits_at other (put_at at n w) ≡ waits_at other w
others_wait at other n w apart = grind arith
