-- How the program ends by what is said of a failure.
use Rattle.std.proofs.Common.{◌≡◌, ◌≢◌, inl, inr, ℕ, List, Result, Ok, Err, ap, sym, subst, refl}
use Rattle.pitch_io.specs.Causes.{HasCause}
use Rattle.pitch_tool.specs.Devices.{Run, Device}
use Rattle.pitch_tool.specs.Program.{Closes, HasCauses, RunEnds}
use Rattle.pitch_tool.specs.layers.Saying.{SaysWhy}
use Rattle.pitch_tool.specs.declared.failure.Failure.{Failure}
use Rattle.pitch_tool.specs.declared.failure.Failure.TheVariants as ending
use Rattle.pitch_tool.specs.declared.status.ExitStatus.{ExitStatus}
use Rattle.pitch_tool.specs.declared.status.ExitStatus.TheVariants.{Done, ReadFault, WriteFault, OutOfMemory, NetFault}

pub closes_failed : (words : List (List ℕ)) (failure : Failure) (status : ExitStatus) (run : Run) → RunEnds words (Err failure) run.input.bytes run.out.bytes run.net → SaysWhy failure status run.err → Closes words status run
closes_failed words ending.Usage status run ends (is, said) = subst (λ (s : ExitStatus). Closes words s run) (sym is) (ends.0, ends.1, ends.2, said)
closes_failed words (ending.BadInput trouble) status run ends (inl (is, said)) = subst (λ (s : ExitStatus). Closes words s run) (sym is) (trouble, ends, said)
closes_failed words (ending.BadInput trouble) status run ends (inr (is, said)) = subst (λ (s : ExitStatus). Closes words s run) (sym is) (inr (inr (trouble, ends)), said)
closes_failed words ending.Read status run ends (is, said) = subst (λ (s : ExitStatus). Closes words s run) (sym is) (ends, said)
closes_failed words ending.Write status run ends (is, said) = subst (λ (s : ExitStatus). Closes words s run) (sym is) (ends, said)
closes_failed words ending.Net status run ends (is, said) = subst (λ (s : ExitStatus). Closes words s run) (sym is) (ends, said)
closes_failed words ending.OutOfMemory status run (inl none) (is, said) = subst (λ (s : ExitStatus). Closes words s run) (sym is) (inl none, said)
closes_failed words ending.OutOfMemory status run (inr does) (is, said) = subst (λ (s : ExitStatus). Closes words s run) (sym is) (inr (inl does), said)

-- ---- The causes
-- a run's result is this one
abbrev pub Is : (result this : Result (Unit {0}) Failure) → Type 0
Is result this = result ≡ this

-- the status tells of a device's failure only where that ended the run
told_by : (failure : Failure) (status : ExitStatus) (err : Device) → SaysWhy failure status err
    → (status ≡ ReadFault → failure ≡ ending.Read) × (status ≡ WriteFault → failure ≡ ending.Write) × (status ≡ NetFault → failure ≡ ending.Net) × (status ≢ Done)
told_by ending.Usage status err (is, said) = (λ e. cc, λ e. cc, λ e. cc, λ e. cc)
told_by (ending.BadInput trouble) status err (inl (is, said)) = (λ e. cc, λ e. cc, λ e. cc, λ e. cc)
told_by (ending.BadInput trouble) status err (inr (is, said)) = (λ e. cc, λ e. cc, λ e. cc, λ e. cc)
told_by ending.Read status err (is, said) = (λ e. refl, λ e. cc, λ e. cc, λ e. cc)
told_by ending.Write status err (is, said) = (λ e. cc, λ e. refl, λ e. cc, λ e. cc)
told_by ending.Net status err (is, said) = (λ e. cc, λ e. cc, λ e. refl, λ e. cc)
told_by ending.OutOfMemory status err (is, said) = (λ e. cc, λ e. cc, λ e. cc, λ e. cc)

pub unfinished : (failure : Failure) (status : ExitStatus) (err : Device) → SaysWhy failure status err → status ≢ Done
unfinished failure status err says = (told_by failure status err says).3

-- and where neither the net failed nor memory ran out, the status says neither
still : (failure : Failure) (status : ExitStatus) (err : Device) → SaysWhy failure status err → status ≢ NetFault → status ≢ OutOfMemory
    → (Is (Err failure) (Err ending.Net) → ⊥) × (Is (Err failure) (Err ending.OutOfMemory) → ⊥)
still ending.Net status err (is, said) net memory = absurd (net is)
still ending.OutOfMemory status err (is, said) net memory = absurd (memory is)
still ending.Usage status err says net memory = (λ e. cc, λ e. cc)
still (ending.BadInput trouble) status err says net memory = (λ e. cc, λ e. cc)
still ending.Read status err says net memory = (λ e. cc, λ e. cc)
still ending.Write status err says net memory = (λ e. cc, λ e. cc)

pub causes_failed : (failure : Failure) (status : ExitStatus) (run : Run) → SaysWhy failure status run.err
    → HasCause run.input.faults run.input.faults' (Is (Err failure) (Err ending.Read))
    → HasCause run.out.faults run.out.faults' (Is (Err failure) (Err ending.Write))
    → HasCause run.net.faults run.net.faults' (Is (Err failure) (Err ending.Net))
    → ((Is (Err failure) (Err ending.Net) → ⊥) → (Is (Err failure) (Err ending.OutOfMemory) → ⊥) → run.net.faults' ≡ run.net.faults)
    → HasCauses status run
causes_failed failure status run says read write net unmoved =
    let by = told_by failure status run.err says in
    record {
      read = record { later = read.later; rose = λ e. read.rose (ap Err (by.0 e)) };
      write = record { later = write.later; rose = λ e. write.rose (ap Err (by.1 e)) };
      net = record { later = net.later; rose = λ e. net.rose (ap Err (by.2 e)) };
      still = λ no memory. let neither = still failure status run.err says no memory in unmoved neither.0 neither.1;
    }

pub causes_done : (run : Run)
    → HasCause run.input.faults run.input.faults' (Is (Ok tt) (Err ending.Read))
    → HasCause run.out.faults run.out.faults' (Is (Ok tt) (Err ending.Write))
    → HasCause run.net.faults run.net.faults' (Is (Ok tt) (Err ending.Net))
    → ((Is (Ok tt) (Err ending.Net) → ⊥) → (Is (Ok tt) (Err ending.OutOfMemory) → ⊥) → run.net.faults' ≡ run.net.faults)
    → HasCauses Done run
causes_done run read write net unmoved = record {
  read = record { later = read.later; rose = λ e. cc };
  write = record { later = write.later; rose = λ e. cc };
  net = record { later = net.later; rose = λ e. cc };
  still = λ no memory. unmoved (λ e. cc) (λ e. cc);
}
