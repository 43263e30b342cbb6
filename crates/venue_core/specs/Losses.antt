-- Which copies of a unit's datagrams are lost on their way: a choice of this project's own. It is
-- drawn by SplitMix64 (Steele, Lea and Flood, "Fast splittable pseudorandom number generators").
use Rattle.std.specs.Prelude.{ℕ, ◌+◌, ◌*◌, ◌/◌, ◌%◌, ◌^◌, Bool, ◌==◌, bit_xor}

-- x and x shifted right by k, bit by bit: where they differ
abbrev pub xor_shift : ℕ → ℕ → ℕ
xor_shift x k = bit_xor x (x / 2 ^ k)

-- the mixing of a state of SplitMix64, in 64 bits
unfoldable pub mix : ℕ → ℕ
mix x =
    let y = xor_shift x 30 * 0xbf58476d1ce4e5b9 % 2 ^ 64 in
    let z = xor_shift y 27 * 0x94d049bb133111eb % 2 ^ 64 in
    xor_shift z 31

-- how many draws before that of a copy of datagram `index`; line A is 1 and line B is 2
abbrev pub draw_of_copy : ℕ → ℕ → ℕ → ℕ
draw_of_copy unit index line = 1000000 * unit + 10 * index + line

-- the state of SplitMix64 after so many draws from the seed `number`
abbrev pub state_after : ℕ → ℕ → ℕ
state_after number draws = (number + 0x9e3779b97f4a7c15 * draws) % 2 ^ 64

-- the copy of datagram `index` of a unit on a line is lost: about one of twenty is
abbrev pub is_lost : ℕ → ℕ → ℕ → ℕ → Bool
is_lost number unit index line = mix (state_after number (draw_of_copy unit index line)) % 20 == 0
