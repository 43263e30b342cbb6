-- Worked examples of what the system says of the input, of what is known of it, of the doors of
-- places, and of tokens.
use Rattle.std.proofs.Common.{◌≡◌, None, Some, refl}
use Rattle.venue_net.specs.declared.net.InputRead.TheVariants as input
use Rattle.venue_sockets.specs.declared.state.State.TheVariants as state
use Rattle.venue_sockets.specs.layers.Inputs.{input_gives, after_told, told_of_file, after_second}
use Rattle.venue_sockets.specs.layers.Inputs.{unread, being_read}
use Rattle.venue_sockets.specs.layers.Places.{door_of}
use Rattle.venue_sockets.specs.layers.Tokens.{door_number, place_number}

-- a read
no_byte_is_the_end : input_gives 0 ≡ input.Ended
no_byte_is_the_end = refl

three_bytes : input_gives 3 ≡ input.Got 3
three_bytes = refl

-- a stream is read once for each time that the wait told of it
it_is_not_read_before : unread state.Waited ≡ Some input.Quiet
it_is_not_read_before = refl

it_is_read_then : unread (after_told state.Waited) ≡ None
it_is_read_then = refl

once : being_read (after_told state.Waited) ≡ state.Waited
once = refl

-- a file is read at any time, and each wait tells of it
a_file_is_read : unread state.File ≡ None
a_file_is_read = refl

it_is_told_of_again : told_of_file (being_read state.ToldFile) ≡ state.ToldFile
it_is_told_of_again = refl

-- a plan that rests is not read before the next second
it_rests : unread state.Resting ≡ Some input.Quiet
it_rests = refl

it_goes_on : unread (after_second state.Resting) ≡ None
it_goes_on = refl

-- of 64 places each, the door 1 has those from 64 to 127
the_last_of_the_first : door_of 63 64 ≡ 0
the_last_of_the_first = refl

the_first_of_the_next : door_of 64 64 ≡ 1
the_first_of_the_next = refl

the_last_of_the_next : door_of 127 64 ≡ 1
the_last_of_the_next = refl

-- the first door is behind the input, and the first place behind the door 65,535
the_first_door : door_number 0 ≡ 1
the_first_door = refl

the_last_door : door_number 65535 ≡ 65536
the_last_door = refl

the_first_place : place_number 0 ≡ 65537
the_first_place = refl
