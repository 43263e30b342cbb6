-- How many of the messages that a client heard it may still have to pass on: the most that a
-- follower which sends on what is applied, or the whole book where an image was taken, sends later.
use Rattle.std.specs.Prelude.{ℕ, ◌+◌, length}
use Rattle.heard_items.specs.declared.item.Item.{Item}
use Rattle.heard_items.specs.declared.item.Item.TheVariants as item
use Rattle.client_core.specs.Keeping.{book_size}
use Rattle.client_core.specs.Client.{held_number}
use Rattle.client_core.specs.declared.client.UnitClient.{UnitClient}
use Rattle.client_core.specs.declared.spinning.Finish.{Finish}
use Rattle.client_core.specs.declared.spinning.Finish.TheVariants.{Nothing, Image, BadCount}
use Rattle.client_core.specs.declared.spinning.SpinState.{SpinState}
use Rattle.client_core.specs.declared.spinning.SpinState.TheVariants.{NoSpin, Asked, Running}

-- the reply to a spin that runs, and what is in the book of its image
abbrev pub spin_weight : SpinState → ℕ
spin_weight NoSpin = 0
spin_weight (Asked sequence) = 0
spin_weight (Running image) = 1 + book_size image.book.book

-- the same of an image that was finished
abbrev pub finish_weight : Finish → ℕ
finish_weight Nothing = 0
finish_weight (Image through book) = 1 + book_size book.book
finish_weight (BadCount promised got) = 0

-- the messages that a client holds, and what its spin weighs
abbrev pub weight : UnitClient → ℕ
weight c = held_number c + spin_weight c.spin

-- how many messages tell an item: its own, or the reply to a spin or its end
abbrev pub told_by : Item → ℕ
told_by (item.Messages first raws) = length raws.items
told_by (item.ImageMessages raws) = length raws.items
told_by (item.SpinReply sequence orders status) = 1
told_by (item.SpinFinished sequence) = 1
told_by other = 0
