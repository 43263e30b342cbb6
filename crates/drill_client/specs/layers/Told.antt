-- What a client hears at its end. No caller needs this file.
use Rattle.std.specs.Prelude.{ℕ, ◌+◌, Bool, true, false, List, ◌∷◌}
use Rattle.pitch_model.specs.History.{Entry, GrpDown, SpinDown, SpinUp, Next, Advertised}
use Rattle.pitch_model.specs.declared.status.Status.{Status}
use Rattle.pitch_model.specs.declared.status.Status.TheVariants.{Silent, Current, Behind}

abbrev pub is_behind : Status → Bool
is_behind Silent = false
is_behind (Current n) = false
is_behind (Behind n top) = true

-- both connections ended, the Spin Server is up again, and there are so many messages, of which an
-- image can be had
abbrev pub told_all : ℕ → List Entry → List Entry
told_all count E = Advertised count ∷ Next (count + 1) ∷ SpinUp ∷ SpinDown ∷ GrpDown ∷ E
