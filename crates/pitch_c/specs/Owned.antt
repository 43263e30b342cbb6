-- What a handle owns: nothing while it is closed, and else the box at its pointer.
use Rattle.std.specs.Prelude.{Option, None, Some}
use base.Fml.{Fml, ftrue}
use denote.RattleType.{RattleType}
use denote.RawPtr.{Ptr}
use Rattle.std.specs.declared.alloc.Global.{Global}
use Rattle.std.specs.contracts.impls.GlobalAllocator.TheImpl.{ghosts}
use Rattle.std.specs.Box.Ownership.{box_owns}

module _ (R : RattleType) where
  abbrev pub owns_at : Global → Ptr → Option R.Denot → Fml
  owns_at a p None = ftrue
  owns_at a p (Some x) = box_owns (ghosts.dealloc_token a) R p x
