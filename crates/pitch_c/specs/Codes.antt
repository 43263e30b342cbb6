-- What the functions answer, as numbers.
use Rattle.std.specs.Prelude.{ℕ}

abbrev pub ok : ℕ
ok = 0

-- the client is not open
abbrev pub closed : ℕ
closed = 1

-- it is open already
abbrev pub is_open : ℕ
is_open = 2

-- memory ran out
abbrev pub no_memory : ℕ
no_memory = 3

-- the hold has other than 1 to 65,536 places
abbrev pub bad_hold : ℕ
bad_hold = 4

-- more bytes may complete the block
abbrev pub truncated : ℕ
truncated = 5

-- the bytes begin with no block, whatever follows
abbrev pub not_a_block : ℕ
not_a_block = 6

-- no block named the unit yet
abbrev pub no_client : ℕ
no_client = 7

-- the side is no side
abbrev pub no_side : ℕ
no_side = 8

-- an end's unit is not from 1 to 255; 9 and 10 are the header's alone
abbrev pub bad_unit : ℕ
bad_unit = 11

-- the session is neither that with the proxy nor that with the Spin Server
abbrev pub no_session : ℕ
no_session = 12

-- a block was heard, and memory ran out before its quotes were told
abbrev pub untold : ℕ
untold = 13

-- what the struct and the functions are, as the header that C was compiled with has it
abbrev pub abi : ℕ
abi = 4
