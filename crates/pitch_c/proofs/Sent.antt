-- What a handle owns is nothing, or a box, which may go to another thread where its value may: `R`
-- is the row of that value's type.
use mathlib.Core.List.{[], ◌∷◌}
use mir.Raw.{raw}
use base.Fraction.{full_share}
use base.Shift.{Keyless}
use denote.Builtin.{RawPtr}
use denote.Exit.{Exit, unchanged, leaves, hidden, under}
use denote.Memory.{lone}
use denote.RattleType.{RattleType}
use denote.RawPtr.{Ptr, block_ptr, null_ptr, lies_at}
use denote.Param.Send.{IsSend, Quiet, AllSend, part_keyless, sendable}
use Rattle.std.specs.Prelude.{Option, None, Some}
use Rattle.std.specs.contracts.alloc.Global as global
use Rattle.std.specs.declared.alloc.Global.{Global}
use Rattle.std.proofs.Crossing as heap
use Rattle.std.proofs.alloc.Global.TheSendSync as handle
use Rattle.pitch_c.specs.Owned.{owns_at}

-- a struct leaves nothing of its own with the thread that it goes from, where its fields do not
pub quiet : {D X : Type 0} (to : D → X) (e : Exit X) → Quiet e → Quiet (hidden (under to e))
quiet to unchanged q = λ x w. tt
quiet to (leaves L l S s r₀) q = λ d. q (to d)

-- what lies at a pointer may go, where its type may
lies : (R : RattleType) → IsSend R → (p : Ptr) (x : R.Denot) → Keyless (lies_at R full_share p x)
lies R s (block_ptr b o) x = part_keyless R s full_share x b o
lies R s null_ptr x = tt

pub owned : (R : RattleType) → IsSend R
    → (a : Global) (p : Ptr) (v : Option R.Denot) → Keyless (owns_at R a p v)
owned R s a p None = tt
owned R s a p (Some x) = (lies R s p x, heap.frees.frees a (raw (lone R.mir)) p)

-- its two fields may
pub both_send : AllSend (RawPtr ∷ (global.the_field).row ∷ [])
both_send = (search sendable, (handle.the_field_send, tt))
