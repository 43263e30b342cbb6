-- Worked examples of what the system says of a connection, and of which peers have one.
use Rattle.std.proofs.Common.{◌≡◌, true, false, [], ◌∷◌, Some, None, refl}
use Rattle.std.specs.declared.io.ErrorKind.TheVariants.{Interrupted, WouldBlock, ConnectionReset, BrokenPipe}
use Rattle.live_net.specs.declared.live.PeerTaken.TheVariants as taken
use Rattle.live_net.specs.declared.live.PeerPut.TheVariants as put
use Rattle.live_sockets.specs.layers.Answers.{read_gives, read_fails, write_gives, write_fails}
use Rattle.live_sockets.specs.layers.OpenPeers.{OpenLive, HasConnection, Leaves}

-- a read
no_byte_is_the_end : read_gives 0 ≡ Some taken.Ended
no_byte_is_the_end = refl

three_bytes : read_gives 3 ≡ Some (taken.Got 3)
three_bytes = refl

nothing_is_there_yet : read_fails WouldBlock ≡ Some taken.Quiet
nothing_is_there_yet = refl

it_was_reset : read_fails ConnectionReset ≡ Some taken.Ended
it_was_reset = refl

a_signal_says_nothing : read_fails Interrupted ≡ None
a_signal_says_nothing = refl

-- a write
three_were_written : write_gives 3 ≡ Some (put.Wrote 3)
three_were_written = refl

there_is_no_room : write_fails WouldBlock ≡ Some put.Full
there_is_no_room = refl

the_pipe_is_broken : write_fails BrokenPipe ≡ Some put.Ended
the_pipe_is_broken = refl

-- of two peers the second has a connection, and after its end none has
the_second_has_one : HasConnection (false ∷ true ∷ []) 1
the_second_has_one = refl

abbrev connected : OpenLive
connected = record { lines = 4; connected = false ∷ true ∷ []; faults = 1 }

none_has_one : Leaves connected (record { lines = 4; connected = false ∷ false ∷ []; faults = 1 }) 1 false
none_has_one = refl
