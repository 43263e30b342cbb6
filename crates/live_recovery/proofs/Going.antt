-- A run that goes on by a call.
use Rattle.std.proofs.Common.{◌≡◌, ℕ, List, [], ◌∷◌, inl, refl, ap, ◌∙◌, Option, Some, None}
use Rattle.live_net.specs.LiveCalls.{LiveCall, AddsLiveCall, Wait, Receive, Open, Take, Put, Close}
use Rattle.live_turns.specs.Due.{Ends, IsMade}
use Rattle.live_turns.specs.Turning.{Passes}
use Rattle.live_turns.specs.declared.due.Due.{Due}
use Rattle.live_turns.specs.declared.due.Due.TheVariants as to
use Rattle.live_turns.specs.declared.turns.LiveTurns.{LiveTurns}
use Rattle.live_units.specs.Coming.{UnitCame, live_lines}
use Rattle.live_units.specs.Units.{LiveStands}
use Rattle.live_recovery.specs.Counting.{counts_after}
use Rattle.live_recovery.specs.Recovering.{AddsRun, IsOver}
use Rattle.live_recovery.specs.Running.{Brings, MayCall, Now, Runs, RunsOn, Setup, ends_now, had_come, ways}
use Rattle.live_recovery.specs.Standing.{Agree, Devices, GoesOn, IsAbout, IsAtEnd, MayBeMade, Stands, now_of}
use Rattle.live_recovery.specs.declared.recovering.Recovering.{Recovering}
use Rattle.live_recovery.proofs.Disagreeing.{agree_on}
use Rattle.live_recovery.proofs.Showing.{HasShown, WritesBy, shown_by}
use Rattle.live_recovery.proofs.Still.{IsPlain, brings_same}

-- ---- The calls of a net
pub adds_none : (calls : Option (List LiveCall)) → AddsRun [] calls calls
adds_none None = tt
adds_none (Some calls) = refl

pub adds_more : (run : List LiveCall) (call : LiveCall) (a b c : Option (List LiveCall)) → AddsRun run a b → AddsLiveCall b c call → AddsRun (call ∷ run) a c
adds_more run call a b None g h = tt
adds_more run call None None (Some r) g h = h
adds_more run call None (Some q) (Some r) g h = g
adds_more run call (Some p) None (Some r) g h = absurd h
adds_more run call (Some p) (Some q) (Some r) g h = h ∙ ap (λ (l : List LiveCall). call ∷ l) g

-- ---- No call
module _ (s : Setup) (start now : Devices) (r : Recovering) where
  -- its turns alone differ
  pub stands_turns : (t : LiveTurns) (run : List LiveCall) (came : List UnitCame) → Stands s start now r run came → Stands s start now (record r { turns = t }) run came
  stands_turns t run came st = record { adds = st.adds; runs = st.runs; units = st.units; agree = st.agree; counts = st.counts; shown = st.shown }

  -- what is due is not done yet
  pub goes_still : (what : Due) → IsAbout s start now r what → GoesOn s start now r
  goes_still what about = record { run = about.run; came = about.came; stands = about.stands; turns = about.turns }

-- ---- A call more
may_call : (s : Setup) (came : List UnitCame) (e : Ends) (what : Due) (call : LiveCall) → IsMade e what call → MayBeMade s came what → MayCall s came call
may_call s came e (to.Wait more) (Wait told answer) made may = may
may_call s came e (to.Receive line) (Wait told answer) made may = absurd made
may_call s came e (to.Open at) (Wait told answer) made may = absurd made
may_call s came e (to.Take at) (Wait told answer) made may = absurd made
may_call s came e (to.Put at) (Wait told answer) made may = absurd made
may_call s came e (to.Close at) (Wait told answer) made may = absurd made
may_call s came e what (Receive line room bytes answer) made may = tt
may_call s came e what (Open at answer) made may = tt
may_call s came e what (Take at room bytes answer) made may = tt
may_call s came e what (Put at piece answer) made may = tt
may_call s came e what (Close at) made may = tt

module _ (s : Setup) (start now : Devices) (r : Recovering) (what : Due) (about : IsAbout s start now r what) (call : LiveCall) (made : IsMade (ends_now s (now_of about.came r.units)) what call) where
  pub on : (at : Now) → Brings s call (now_of about.came r.units) at → RunsOn s call about.run (now_of about.came r.units) at
  on at brings = record { agreed = about.stands.agree.none; may = may_call s about.came (ends_now s (now_of about.came r.units)) what call made about.may; is_due = record { what = what; due_is = about.next.due_is; made = made }; brings = brings }

  abbrev pub runs_on : (at : Now) → Brings s call (now_of about.came r.units) at → Runs s (call ∷ about.run) at
  runs_on at brings = (now_of about.came r.units, (about.stands.runs, on at brings))

  -- what had come before the last wait is written, where the lines are before a wait
  pub shows_on : (now' : Option (List ℕ)) (at : Now) (brings : Brings s call (now_of about.came r.units) at) → WritesBy s call start.written now.written now' about.came
      → HasShown start.written now' (live_lines s.listens (had_come s (call ∷ about.run) at (runs_on at brings)))
  shows_on now' at brings writes = shown_by s about.run (now_of about.came r.units) at about.stands.runs start.written now.written now' about.stands.shown call (on at brings) writes

  module _ (now' : Devices) (r' : Recovering) (came : List UnitCame) (adds : AddsLiveCall now.calls now'.calls call) (brings : Brings s call (now_of about.came r.units) (now_of came r'.units))
      (stand : LiveStands s.listens start.written now'.written r'.units came) (counted : r'.counts ≡ counts_after s.listens call r.counts) (writes : WritesBy s call start.written now.written now'.written about.came) where
    module _ (agree : Agree r'.copies came) where
      stands_on : Stands s start now' r' (call ∷ about.run) came
      stands_on = record {
        adds = adds_more about.run call start.calls now.calls now'.calls about.stands.adds adds;
        runs = runs_on (now_of came r'.units) brings;
        units = stand;
        agree = agree;
        counts = counted ∙ ap (counts_after s.listens call) about.stands.counts;
        shown = shows_on now'.written (now_of came r'.units) brings writes;
      }

      pub goes_by : Passes r.turns r'.turns call → GoesOn s start now' r'
      goes_by passes = record {
        run = call ∷ about.run;
        came = came;
        stands = stands_on;
        turns = passes (ways s) (ends_now s (now_of about.came r.units)) (ends_now s (now_of came r'.units)) about.run about.turns (about.next.is_at call made);
      }

    -- where it brings no datagram, the same copies are kept
    module _ (plain : IsPlain call) (same : r'.copies ≡ r.copies) where
      agrees : Agree r'.copies came
      agrees = agree_on r.copies r'.copies about.came came same (brings_same s call (now_of about.came r.units) (now_of came r'.units) plain brings) about.stands.agree

      pub goes_on : Passes r.turns r'.turns call → GoesOn s start now' r'
      goes_on passes = goes_by agrees passes

      pub is_at_end : IsOver (call ∷ about.run) → IsAtEnd s start now' r'
      is_at_end over = record { run = call ∷ about.run; came = came; stands = stands_on agrees; over = inl over }
