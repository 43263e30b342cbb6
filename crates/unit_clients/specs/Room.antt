-- Memory that was taken ahead.
use Rattle.std.specs.Prelude.{◌≡◌, ◌⊎◌, ℕ, ◌+◌, ◌≤◌, [], length, IfSome}
use Rattle.std.specs.Option.{IsSomeAnd}
use Rattle.unit_packets.specs.Blocks.{Block}
use Rattle.client_core.specs.Client.{held_number, spare_of, KeepsRoom}
use Rattle.client_core.specs.declared.client.UnitClient.{UnitClient}
use Rattle.unit_clients.specs.Clients.{Units, client_of}

-- a client hears the block without memory: it has no messages or no sequence, or the spare is
-- enough for its messages and those that the client holds
abbrev pub HearsFreely : UnitClient → Block → Type 0
HearsFreely client block =
    (block.raws ≡ []) ⊎ ((block.sequence ≡ 0)
    ⊎ (length block.raws + held_number client ≤ spare_of client))

-- the block's unit has a client, which hears it without memory
abbrev pub HearFreely : Units → Block → Type 0
HearFreely units block = IsSomeAnd (client_of units block.unit) (λ client. HearsFreely client block)

-- a unit has a client, which applies so many messages without memory
abbrev pub HaveSpare : Units → ℕ → ℕ → Type 0
HaveSpare units unit messages =
    IsSomeAnd (client_of units unit) (λ client. messages ≤ spare_of client)

-- what a unit's client had to spare beyond the block's messages and those that it held, it has
-- beyond those that it then holds
abbrev pub KeepRoom : Units → Units → Block → Type 0
KeepRoom old new block =
    IfSome (client_of old block.unit) (λ client. IsSomeAnd (client_of new block.unit)
    (λ client'. KeepsRoom client client' (length block.raws)))
