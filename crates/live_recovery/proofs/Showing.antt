-- Lines that were written before the last wait of a run.
use Rattle.std.proofs.Common.{ℕ, List, ◌∷◌, ◌++◌, [], sym, subst, append_assoc, Option}
use Rattle.std.proofs.lemmas.List.{append-nil}
use Rattle.pitch_io.specs.Putting.{Grows}
use Rattle.stream_print.proofs.Flow.{grows_more}
use Rattle.live_net.specs.LiveCalls.{LiveCall, Wait, Receive, Open, Take, Put, Close}
use Rattle.live_units.specs.Coming.{UnitCame, live_lines}
use Rattle.live_units.specs.Units.{HasGrown}
use Rattle.live_recovery.specs.Running.{Now, Runs, RunsOn, Setup, had_come}

-- what was written begins with these bytes
abbrev pub HasShown : Option (List ℕ) → Option (List ℕ) → List ℕ → Type 0
HasShown old new bytes = (more : List ℕ) × Grows old new (bytes ++ more)

pub shown_more : (a b c : Option (List ℕ)) (bytes : List ℕ) → HasShown a b bytes → HasGrown b c → HasShown a c bytes
shown_more a b c bytes shown grown =
    (shown.0 ++ grown.0, subst (Grows a c) (append_assoc bytes shown.0 grown.0) (grows_more a b c (bytes ++ shown.0) grown.0 shown.1 grown.1))

-- before a wait all lines are written; by another call more may be
abbrev pub WritesBy : Setup → LiveCall → (start now now' : Option (List ℕ)) → List UnitCame → Type 0
WritesBy s (Wait more answer) start now now' came = Grows start now' (live_lines s.listens came)
WritesBy s call start now now' came = HasGrown now now'

module _ (s : Setup) (run : List LiveCall) (now now' : Now) (runs : Runs s run now) (start w w' : Option (List ℕ)) (shown : HasShown start w (live_lines s.listens (had_come s run now runs))) where
  -- a call more
  pub shown_by : (call : LiveCall) (on : RunsOn s call run now now') → WritesBy s call start w w' now.came → HasShown start w' (live_lines s.listens (had_come s (call ∷ run) now' (now, (runs, on))))
  shown_by (Wait more answer) on grows = ([], subst (Grows start w') (sym (append-nil (live_lines s.listens now.came))) grows)
  shown_by (Receive line room bytes answer) on grown = shown_more start w w' (live_lines s.listens (had_come s run now runs)) shown grown
  shown_by (Open at answer) on grown = shown_more start w w' (live_lines s.listens (had_come s run now runs)) shown grown
  shown_by (Take at room bytes answer) on grown = shown_more start w w' (live_lines s.listens (had_come s run now runs)) shown grown
  shown_by (Put at piece answer) on grown = shown_more start w w' (live_lines s.listens (had_come s run now runs)) shown grown
  shown_by (Close at) on grown = shown_more start w w' (live_lines s.listens (had_come s run now runs)) shown grown
