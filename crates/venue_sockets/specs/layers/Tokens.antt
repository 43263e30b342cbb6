-- The numbers by which a wait tells what may have something.
use Rattle.std.specs.Prelude.{ℕ, ◌+◌, ◌^◌}

-- of the input, of the doors from theirs on, and of the places behind the last door
abbrev pub input_number : ℕ
input_number = 0

abbrev pub door_number : ℕ → ℕ
door_number door = 1 + door

abbrev pub place_number : ℕ → ℕ
place_number place = 1 + 2 ^ 16 + place
