-- What a run did to its devices.
use Rattle.std.specs.Prelude.{◌≡◌, ℕ, List, Option, ◌⊎◌}
use Rattle.pitch_io.specs.Causes.{Rose}
use Rattle.pitch_io.specs.Nets.{Call}
use Rattle.pitch_io.specs.Putting.{Grows}
use Rattle.stream_print.specs.Told.{Told, told}

-- a source or a sink before and after a run: what it tells of its bytes, and how many of its calls
-- failed
pub record Device : Type 0 where
  pub bytes : Told
  pub faults : ℕ
  pub faults' : ℕ

-- an object before and after, by what it tells and its count of faults
abbrev pub device : {T : Type 0} → (T → Option (List ℕ)) → (T → ℕ) → T → T → Device
device tells counts before after =
    record { bytes = told tells before after; faults = counts before; faults' = counts after }

-- a net before and after a run: the calls that it lists, where it does, and its count of faults
pub record Wires : Type 0 where
  pub calls : Option (List Call)
  pub calls' : Option (List Call)
  pub faults : ℕ
  pub faults' : ℕ

-- a net before and after, by what it lists and its count of faults
abbrev pub wires : {T : Type 0} → (T → Option (List Call)) → (T → ℕ) → T → T → Wires
wires lists counts before after =
    record {
      calls = lists before;
      calls' = lists after;
      faults = counts before;
      faults' = counts after;
    }

-- none of the net's calls came, where it lists them
abbrev pub IsUncalled : Wires → Type 0
IsUncalled net = net.calls' ≡ net.calls

-- the devices of a run
pub record Run : Type 0 where
  pub input : Device
  pub out : Device
  pub err : Device
  pub net : Wires

-- the device failed: its count of faults rose
abbrev pub HasFaulted : Device → Type 0
HasFaulted d = Rose d.faults d.faults'

-- the net failed: its count of faults rose
abbrev pub HasNetFaulted : Wires → Type 0
HasNetFaulted net = Rose net.faults net.faults'

-- a text was written to the device, unless it failed
abbrev pub Says : Device → List ℕ → Type 0
Says d text = HasFaulted d ⊎ Grows d.bytes.old d.bytes.new text
