-- Messages that name an order, and which orders a message may touch.
use Rattle.std.specs.Prelude.{ℕ, Bool, false, ◌&&◌, ◌||◌, ◌==◌, nat_le, List, length, Option, Some}
use Rattle.std.specs.Prelude.{None, if◌then◌else◌}
use Rattle.std.specs.FinMap as map
use Rattle.pitch_fields.specs.Fields.{number_at}
use Rattle.pitch_messages.specs.Raw.{kind_of}
use Rattle.pitch_model.specs.Book.{Book}
use Rattle.order_book.specs.declared.naming.Touches.{Touches}
use Rattle.order_book.specs.declared.naming.Touches.TheVariants as touches

-- the types of adds, executions, reductions, modifications and deletions
abbrev pub names_order : ℕ → Bool
names_order kind = nat_le 0x21 kind && nat_le kind 0x29 || kind == 0x2f

-- the id at place 6 of a message of such a type
abbrev pub named_order : List ℕ → Option ℕ
named_order raw =
    if nat_le 14 (length raw) && names_order (kind_of raw) then Some (number_at 8 6 raw) else None

-- the order of an id is open
abbrev pub is_open : Book → Option ℕ → Bool
is_open book None = false
is_open book (Some id) = map.contains_key book.orders id

-- a message names an open order
abbrev pub names_open : Book → List ℕ → Bool
names_open book raw = is_open book (named_order raw)

-- what names no order touches all where it is a whole Unit Clear, and else none
abbrev pub touches_as : Option ℕ → ℕ → ℕ → Touches
touches_as (Some id) kind size = touches.One id
touches_as None kind size = if kind == 0x97 && nat_le 6 size then touches.All else touches.None

-- which orders a raw message may touch: the one that it names, or all, or none
abbrev pub touched : List ℕ → Touches
touched raw = touches_as (named_order raw) (kind_of raw) (length raw)
