-- What is due at a place.
use Rattle.std.proofs.Common.{◌≡◌, ◌<◌, ◌≤◌, ℕ, ◌+◌, ◌-◌, ◌==◌, suc, nat_lt, Bool, true, false, not, cond, ◌||◌, List, [], ◌∷◌, length, slice_get, slice_set, get_or, length-set, eqb, ◌⊎◌, inl, inr, refl, sym, ap, ◌∙◌, subst, arith, Option, None, Some}
use Rattle.std.proofs.lemmas.Bool.{eq-eqb, eqb-true, ne_eqb, lt-ltb, le-ltb}
use Rattle.std.proofs.lemmas.Bool.Decides.{eqb_tells}
use Rattle.std.proofs.lemmas.Grind.{get_or-set_at}
use Rattle.std.proofs.lemmas.List.{get_or-set_other}
use Rattle.std.proofs.lemmas.Option.{slice_get_within, get_or_from_slice_get, slice_get-get_or}
use Rattle.live_net.specs.LiveCalls.{LiveCall, Wait, Receive, Open, Take, Put, Close}
use Rattle.live_net.specs.declared.net.Received.TheVariants as received
use Rattle.live_net.specs.declared.live.PeerOpened.TheVariants as opened
use Rattle.live_net.specs.declared.net.Received.{Received}
use Rattle.live_net.specs.declared.live.PeerTaken.{PeerTaken}
use Rattle.live_net.specs.declared.live.PeerTaken.TheVariants as taken
use Rattle.live_net.specs.declared.live.PeerPut.TheVariants as put
use Rattle.live_turns.specs.Due.{Ways, Ends, due, from_line, from_peer, turns_from, in_turn, put_or, is_more_left, datagrams_from, pieces_from, IsMade}
use Rattle.live_turns.specs.Retry.{begins_by, ends_by, is_second, stands, may_begin}
use Rattle.live_turns.specs.Turning.{IsAt, IsPlace, NoneBehind, taken_at}
use Rattle.live_turns.specs.declared.due.Due.{Due}
use Rattle.live_turns.specs.declared.due.Due.TheVariants as to
use Rattle.live_turns.specs.declared.place.Place.{Place}
use Rattle.live_turns.specs.declared.place.Place.TheVariants as at

-- ---- Lines and peers
module _ (w : Ways) (e : Ends) (run : List LiveCall) where
  pub line_here : (line : ℕ) → line < w.lines → from_line w e run line ≡ to.Receive line
  line_here line within = ap (λ (b : Bool). cond b (to.Receive line) (from_peer w e run 0)) (lt-ltb line w.lines within)

  pub line_past : (line : ℕ) → w.lines ≤ line → from_line w e run line ≡ from_peer w e run 0
  line_past line past = ap (λ (b : Bool). cond b (to.Receive line) (from_peer w e run 0)) (le-ltb line w.lines past)

  pub peer_here : (peer : ℕ) → peer < w.peers → from_peer w e run peer ≡ in_turn e run peer (from_peer w e run (peer + 1))
  peer_here peer within =
      let is : w.peers - peer ≡ suc (w.peers - (peer + 1)) = omega arith in
      ap (λ (n : ℕ). turns_from e run n peer) is

  pub peer_past : (peer : ℕ) → w.peers ≤ peer → from_peer w e run peer ≡ to.Wait (is_more_left run)
  peer_past peer past =
      let is : w.peers - peer ≡ 0 = omega arith in
      ap (λ (n : ℕ). turns_from e run n peer) is

-- ---- A peer's turn
choose : (stood has left may : Bool) (peer : ℕ) (then next : Due) → Due
choose stood has left may peer then next =
    cond stood (cond (not has) (to.Close peer) (cond left (to.Take peer) then)) (cond may (to.Open peer) next)

module _ (e : Ends) (run : List LiveCall) (peer : ℕ) (next : Due) where
  then : Due
  then = put_or (e.waits peer) peer next

  pub turn_closes : stands peer run ≡ true → e.has peer ≡ false → in_turn e run peer next ≡ to.Close peer
  unfolding choose
  turn_closes s h =
      ap (λ (b : Bool). choose b (e.has peer) (nat_lt (pieces_from peer run) 16) (may_begin peer run) peer (put_or (e.waits peer) peer next) next) s
      ∙ ap (λ (b : Bool). choose true b (nat_lt (pieces_from peer run) 16) (may_begin peer run) peer (put_or (e.waits peer) peer next) next) h

  pub turn_takes : stands peer run ≡ true → e.has peer ≡ true → pieces_from peer run < 16 → in_turn e run peer next ≡ to.Take peer
  unfolding choose
  turn_takes s h few =
      ap (λ (b : Bool). choose b (e.has peer) (nat_lt (pieces_from peer run) 16) (may_begin peer run) peer (put_or (e.waits peer) peer next) next) s
      ∙ ap (λ (b : Bool). choose true b (nat_lt (pieces_from peer run) 16) (may_begin peer run) peer (put_or (e.waits peer) peer next) next) h
      ∙ ap (λ (b : Bool). choose true true b (may_begin peer run) peer (put_or (e.waits peer) peer next) next) (lt-ltb (pieces_from peer run) 16 few)

  pub turn_puts : stands peer run ≡ true → e.has peer ≡ true → 16 ≤ pieces_from peer run → in_turn e run peer next ≡ put_or (e.waits peer) peer next
  unfolding choose
  turn_puts s h full =
      ap (λ (b : Bool). choose b (e.has peer) (nat_lt (pieces_from peer run) 16) (may_begin peer run) peer (put_or (e.waits peer) peer next) next) s
      ∙ ap (λ (b : Bool). choose true b (nat_lt (pieces_from peer run) 16) (may_begin peer run) peer (put_or (e.waits peer) peer next) next) h
      ∙ ap (λ (b : Bool). choose true true b (may_begin peer run) peer (put_or (e.waits peer) peer next) next) (le-ltb (pieces_from peer run) 16 full)

  pub turn_opens : stands peer run ≡ false → may_begin peer run ≡ true → in_turn e run peer next ≡ to.Open peer
  unfolding choose
  turn_opens s m =
      ap (λ (b : Bool). choose b (e.has peer) (nat_lt (pieces_from peer run) 16) (may_begin peer run) peer (put_or (e.waits peer) peer next) next) s
      ∙ ap (λ (b : Bool). choose false (e.has peer) (nat_lt (pieces_from peer run) 16) b peer (put_or (e.waits peer) peer next) next) m

  pub turn_is_over : stands peer run ≡ false → may_begin peer run ≡ false → in_turn e run peer next ≡ next
  unfolding choose
  turn_is_over s m =
      ap (λ (b : Bool). choose b (e.has peer) (nat_lt (pieces_from peer run) 16) (may_begin peer run) peer (put_or (e.waits peer) peer next) next) s
      ∙ ap (λ (b : Bool). choose false (e.has peer) (nat_lt (pieces_from peer run) 16) b peer (put_or (e.waits peer) peer next) next) m

pub some_put : (bytes : List ℕ) (peer : ℕ) (next : Due) → 0 < length bytes → put_or bytes peer next ≡ to.Put peer
some_put [] peer next some = absurd (omega (arith, some))
some_put (byte ∷ bytes) peer next some = refl

pub none_put : (bytes : List ℕ) (peer : ℕ) (next : Due) → length bytes ≡ 0 → put_or bytes peer next ≡ next
none_put [] peer next none = refl
none_put (byte ∷ bytes) peer next none = absurd (omega (arith, none))

-- ---- Who makes a call that is due is at its place
module _ (e : Ends) where
  pub waits_there : (more : Bool) (call : LiveCall) → IsMade e (to.Wait more) call → IsAt at.Wait call
  waits_there more (Wait told answer) is = tt
  waits_there more call is = absurd is

  pub receives_there : (line taken : ℕ) (call : LiveCall) → IsMade e (to.Receive line) call → IsAt (at.Line line taken) call
  receives_there line taken (Receive l room bytes answer) is = is.0
  receives_there line taken call is = absurd is

  pub opens_there : (peer taken : ℕ) (call : LiveCall) → IsMade e (to.Open peer) call → IsAt (at.Peer peer taken) call
  opens_there peer taken (Open p answer) is = is
  opens_there peer taken call is = absurd is

  pub takes_there : (peer taken : ℕ) → taken < 16 → (call : LiveCall) → IsMade e (to.Take peer) call → IsAt (at.Peer peer taken) call
  takes_there peer taken few (Take p room bytes answer) is = (is.0, few)
  takes_there peer taken few call is = absurd is

  pub closes_there : (peer taken : ℕ) (call : LiveCall) → IsMade e (to.Close peer) call → IsAt (at.Peer peer taken) call
  closes_there peer taken (Close p) is = is
  closes_there peer taken call is = absurd is

  pub puts_there : (peer : ℕ) (call : LiveCall) → IsMade e (to.Put peer) call → IsAt (at.Put peer) call
  puts_there peer (Put p piece answer) is = is.0
  puts_there peer call is = absurd is

-- ---- Calls of a peer
abbrev pub peer_called : LiveCall → Option ℕ
peer_called (Wait more answer) = None
peer_called (Receive line room bytes answer) = None
peer_called (Open peer answer) = Some peer
peer_called (Take peer room bytes answer) = Some peer
peer_called (Put peer piece answer) = Some peer
peer_called (Close peer) = Some peer

same_peer : (p q : ℕ) → ◌≡◌ {A = Option ℕ} (Some p) (Some q) → p ≡ q
same_peer p q is = cc

no_peer : (p : ℕ) → ◌≡◌ {A = Option ℕ} None (Some p) → ⊥
no_peer p is = cc

-- the peer of a call at its place is one of those that there are, and no peer behind it gave a piece
pub record HasPeer (w : Ways) (run : List LiveCall) (peer : ℕ) : Type 0 where
  pub within : peer < w.peers
  pub behind : NoneBehind run peer

pub has_peer : (w : Ways) (run : List LiveCall) (place : Place) (call : LiveCall) (peer : ℕ) → peer_called call ≡ Some peer → IsPlace w run place → IsAt place call → HasPeer w run peer
has_peer w run place (Wait more answer) peer is pl at = absurd (no_peer peer is)
has_peer w run place (Receive line room bytes answer) peer is pl at = absurd (no_peer peer is)
has_peer w run at.Wait (Open p answer) peer is pl at = absurd at
has_peer w run (at.Line line taken) (Open p answer) peer is pl at = absurd at
has_peer w run (at.Peer q taken) (Open p answer) peer is pl at = subst (HasPeer w run) (sym at ∙ same_peer p peer is) (record { within = pl.0; behind = pl.2 })
has_peer w run (at.Put q) (Open p answer) peer is pl at = absurd at
has_peer w run at.Wait (Take p room bytes answer) peer is pl at = absurd at
has_peer w run (at.Line line taken) (Take p room bytes answer) peer is pl at = absurd at
has_peer w run (at.Peer q taken) (Take p room bytes answer) peer is pl at = subst (HasPeer w run) (sym at.0 ∙ same_peer p peer is) (record { within = pl.0; behind = pl.2 })
has_peer w run (at.Put q) (Take p room bytes answer) peer is pl at = absurd at
has_peer w run at.Wait (Put p piece answer) peer is pl at = absurd at
has_peer w run (at.Line line taken) (Put p piece answer) peer is pl at = absurd at
has_peer w run (at.Peer q taken) (Put p piece answer) peer is pl at = absurd at
has_peer w run (at.Put q) (Put p piece answer) peer is pl at = subst (HasPeer w run) (sym at ∙ same_peer p peer is) (record { within = pl.0; behind = pl.1 })
has_peer w run at.Wait (Close p) peer is pl at = absurd at
has_peer w run (at.Line line taken) (Close p) peer is pl at = absurd at
has_peer w run (at.Peer q taken) (Close p) peer is pl at = subst (HasPeer w run) (sym at ∙ same_peer p peer is) (record { within = pl.0; behind = pl.2 })
has_peer w run (at.Put q) (Close p) peer is pl at = absurd at

-- bytes came of a peer at its place
pub record TakesAt (run : List LiveCall) (place : Place) (peer : ℕ) : Type 0 where
  pub few : taken_at place < 16
  pub taken_is : taken_at place ≡ pieces_from peer run

pub takes_at : (w : Ways) (run : List LiveCall) (place : Place) (peer room : ℕ) (bytes : List ℕ) (answer : PeerTaken) → IsPlace w run place → IsAt place (Take peer room bytes answer) → TakesAt run place peer
takes_at w run at.Wait peer room bytes answer pl at = absurd at
takes_at w run (at.Line line taken) peer room bytes answer pl at = absurd at
takes_at w run (at.Peer q taken) peer room bytes answer pl at = record { few = at.1; taken_is = pl.1 ∙ ap (λ (p : ℕ). pieces_from p run) (sym at.0) }
takes_at w run (at.Put q) peer room bytes answer pl at = absurd at

-- a datagram of a line
pub record HasLine (w : Ways) (run : List LiveCall) (place : Place) (line : ℕ) : Type 0 where
  pub within : line < w.lines
  pub few : taken_at place < 64
  pub taken_is : taken_at place ≡ datagrams_from line run

pub has_line : (w : Ways) (run : List LiveCall) (place : Place) (line room : ℕ) (bytes : List ℕ) (answer : Received) → IsPlace w run place → IsAt place (Receive line room bytes answer) → HasLine w run place line
has_line w run at.Wait line room bytes answer pl at = absurd at
has_line w run (at.Line l taken) line room bytes answer pl at = record {
  within = subst (λ (n : ℕ). n < w.lines) (sym at) pl.0;
  few = pl.1;
  taken_is = pl.2 ∙ ap (λ (n : ℕ). datagrams_from n run) (sym at);
}
has_line w run (at.Peer q taken) line room bytes answer pl at = absurd at
has_line w run (at.Put q) line room bytes answer pl at = absurd at

-- ---- A datagram more, and a piece
module _ (line room n : ℕ) (bytes : List ℕ) (run : List LiveCall) where
  pub datagram_more : datagrams_from line (Receive line room bytes (received.Got n) ∷ run) ≡ datagrams_from line run + 1
  datagram_more = ap (λ (b : Bool). cond b (datagrams_from line run + 1) 0) (eq-eqb line line refl)

  pub next_line_gave_none : datagrams_from (line + 1) (Receive line room bytes (received.Got n) ∷ run) ≡ 0
  next_line_gave_none = ap (λ (b : Bool). cond b (datagrams_from (line + 1) run + 1) 0) (ne_eqb line (line + 1) (λ is. omega (arith, is)))

  pub line_is_full : datagrams_from line run ≡ 63 → true ≡ is_more_left (Receive line room bytes (received.Got n) ∷ run)
  line_is_full full = sym (ap (λ (k : ℕ). (k == 64) || is_more_left run) (datagram_more ∙ ap (λ (k : ℕ). k + 1) full))

  pub line_has_more : datagrams_from line run < 63 → is_more_left run ≡ is_more_left (Receive line room bytes (received.Got n) ∷ run)
  line_has_more few =
      sym (ap (λ (k : ℕ). (k == 64) || is_more_left run) datagram_more
      ∙ ap (λ (b : Bool). b || is_more_left run) (ne_eqb (datagrams_from line run + 1) 64 (λ is. omega (arith, is, few))))

  module _ (w : Ways) (e : Ends) where
    pub due_next_line : datagrams_from line run ≡ 63 → due w e (Receive line room bytes (received.Got n) ∷ run) ≡ Some (from_line w e (Receive line room bytes (received.Got n) ∷ run) (line + 1))
    due_next_line full =
        ap (λ (k : ℕ). Some (cond (nat_lt k 64) (to.Receive line) (from_line w e (Receive line room bytes (received.Got n) ∷ run) (line + 1)))) (datagram_more ∙ ap (λ (k : ℕ). k + 1) full)

    pub due_same_line : datagrams_from line run < 63 → due w e (Receive line room bytes (received.Got n) ∷ run) ≡ Some (to.Receive line)
    due_same_line few =
        ap (λ (k : ℕ). Some (cond (nat_lt k 64) (to.Receive line) (from_line w e (Receive line room bytes (received.Got n) ∷ run) (line + 1)))) datagram_more
        ∙ ap (λ (b : Bool). Some (cond b (to.Receive line) (from_line w e (Receive line room bytes (received.Got n) ∷ run) (line + 1))))
        (lt-ltb (datagrams_from line run + 1) 64 (omega (arith, few)))

module _ (peer room n : ℕ) (bytes : List ℕ) (run : List LiveCall) where
  pub piece_more : pieces_from peer (Take peer room bytes (taken.Got n) ∷ run) ≡ pieces_from peer run + 1
  piece_more = ap (λ (b : Bool). cond b (pieces_from peer run + 1) 0) (eq-eqb peer peer refl)

  pub none_behind_gave : NoneBehind (Take peer room bytes (taken.Got n) ∷ run) peer
  none_behind_gave = λ other behind. ap (λ (b : Bool). cond b (pieces_from other run + 1) 0) (ne_eqb peer other (λ is. omega (arith, is, behind)))

  pub peer_is_full : (full : Bool) → full ≡ (pieces_from peer run + 1 == 16) → (is_more_left run || full) ≡ is_more_left (Take peer room bytes (taken.Got n) ∷ run)
  peer_is_full full is =
      other_way (is_more_left run) full ∙ ap (λ (b : Bool). b || is_more_left run) is ∙ sym (ap (λ (k : ℕ). (k == 16) || is_more_left run) piece_more)
    where
      other_way : (a b : Bool) → (a || b) ≡ (b || a)
      other_way true true = refl
      other_way true false = refl
      other_way false true = refl
      other_way false false = refl

-- ---- A connection that ended
pub ended_peer : (peer : ℕ) (call : LiveCall) → ends_by peer call ≡ true → peer_called call ≡ Some peer
ended_peer peer (Open p opened.Refused) is = ap Some (eqb-true p peer is)
ended_peer peer (Open p opened.Begun) is = cc
ended_peer peer (Wait more answer) is = cc
ended_peer peer (Receive line room bytes answer) is = cc
ended_peer peer (Take p room bytes taken.Ended) is = ap Some (eqb-true p peer is)
ended_peer peer (Take p room bytes (taken.Got n)) is = cc
ended_peer peer (Take p room bytes taken.Quiet) is = cc
ended_peer peer (Put p piece put.Ended) is = ap Some (eqb-true p peer is)
ended_peer peer (Put p piece (put.Wrote n)) is = cc
ended_peer peer (Put p piece put.Full) is = cc
ended_peer peer (Close p) is = ap Some (eqb-true p peer is)

-- then the next peer's turn begins, no piece came, and nothing more is left
pub record Over (w : Ways) (e : Ends) (run : List LiveCall) (peer : ℕ) (call : LiveCall) : Type 0 where
  pub due_is : due w e (call ∷ run) ≡ Some (from_peer w e (call ∷ run) (peer + 1))
  pub none : NoneBehind (call ∷ run) peer
  pub more_is : is_more_left run ≡ is_more_left (call ∷ run)
  pub no_second : is_second call ≡ false

pub is_over : (w : Ways) (e : Ends) (run : List LiveCall) (peer : ℕ) (call : LiveCall) → ends_by peer call ≡ true → Over w e run peer call
is_over w e run peer (Open p opened.Refused) is = record { due_is = ap (λ (q : ℕ). Some (from_peer w e (Open p opened.Refused ∷ run) (q + 1))) (eqb-true p peer is); none = λ other behind. refl; more_is = refl; no_second = refl }
is_over w e run peer (Open p opened.Begun) is = cc
is_over w e run peer (Wait more answer) is = cc
is_over w e run peer (Receive line room bytes answer) is = cc
is_over w e run peer (Take p room bytes taken.Ended) is =
    record { due_is = ap (λ (q : ℕ). Some (from_peer w e (Take p room bytes taken.Ended ∷ run) (q + 1))) (eqb-true p peer is); none = λ other behind. refl; more_is = refl; no_second = refl }
is_over w e run peer (Take p room bytes (taken.Got n)) is = cc
is_over w e run peer (Take p room bytes taken.Quiet) is = cc
is_over w e run peer (Put p piece put.Ended) is =
    record { due_is = ap (λ (q : ℕ). Some (from_peer w e (Put p piece put.Ended ∷ run) (q + 1))) (eqb-true p peer is); none = λ other behind. refl; more_is = refl; no_second = refl }
is_over w e run peer (Put p piece (put.Wrote n)) is = cc
is_over w e run peer (Put p piece put.Full) is = cc
is_over w e run peer (Close p) is = record { due_is = ap (λ (q : ℕ). Some (from_peer w e (Close p ∷ run) (q + 1))) (eqb-true p peer is); none = λ other behind. refl; more_is = refl; no_second = refl }

-- the others' have not
pub not_anothers : (peer other : ℕ) (call : LiveCall) → peer_called call ≡ Some peer → (other ≡ peer → ⊥) → (begins_by other call ≡ false) × (ends_by other call ≡ false)
not_anothers peer other (Wait more answer) is ne = absurd (no_peer peer is)
not_anothers peer other (Receive line room bytes answer) is ne = absurd (no_peer peer is)
not_anothers peer other (Open p opened.Begun) is ne = (ne_eqb p other (λ same. ne (sym same ∙ same_peer p peer is)), refl)
not_anothers peer other (Open p opened.Refused) is ne = (refl, ne_eqb p other (λ same. ne (sym same ∙ same_peer p peer is)))
not_anothers peer other (Take p room bytes taken.Ended) is ne = (refl, ne_eqb p other (λ same. ne (sym same ∙ same_peer p peer is)))
not_anothers peer other (Take p room bytes (taken.Got n)) is ne = (refl, refl)
not_anothers peer other (Take p room bytes taken.Quiet) is ne = (refl, refl)
not_anothers peer other (Put p piece put.Ended) is ne = (refl, ne_eqb p other (λ same. ne (sym same ∙ same_peer p peer is)))
not_anothers peer other (Put p piece (put.Wrote n)) is ne = (refl, refl)
not_anothers peer other (Put p piece put.Full) is ne = (refl, refl)
not_anothers peer other (Close p) is ne = (refl, ne_eqb p other (λ same. ne (sym same ∙ same_peer p peer is)))

-- ---- What is kept of each peer
pub kept_at : {A : Type 0} (xs : List A) (i k : ℕ) (y r : A) → slice_get (slice_set xs i y) k ≡ Some r → (k ≡ i) × (r ≡ y) ⊎ ((k ≡ i → ⊥) × (slice_get xs k ≡ Some r))
kept_at xs i k y r is = by (eqb_tells k i)
  where
    long : length (slice_set xs i y) ≡ length xs
    long = length-set xs i y

    within : k < length xs
    within = let at = slice_get_within (slice_set xs i y) k r is in omega (arith, at, long)

    has : get_or (slice_set xs i y) k r ≡ r
    has = get_or_from_slice_get (slice_set xs i y) k r r is

    by : ((eqb k i ≡ true) × (k ≡ i)) ⊎ ((eqb k i ≡ false) × (k ≡ i → ⊥)) → (k ≡ i) × (r ≡ y) ⊎ ((k ≡ i → ⊥) × (slice_get xs k ≡ Some r))
    by (inl same) = inl (same.1, sym has ∙ get_or-set_at xs i k y r same.1 (omega (arith, within, same.1)))
    by (inr other) = inr (other.1, slice_get-get_or xs k r within ∙ ap Some (sym (get_or-set_other xs i k y r other.1) ∙ has))
