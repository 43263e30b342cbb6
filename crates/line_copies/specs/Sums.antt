-- The sum of a message: 64 bits of its bytes, taken eight at a time. It is this project's own.
use Rattle.std.specs.Prelude.{ℕ, zero, suc, ◌-◌, ◌*◌, ◌/◌, ◌%◌, ◌^◌, List, length, drop, bit_xor}
use Rattle.std.specs.Prelude.{nat_lt, if◌then◌else◌}
use Rattle.std.specs.List.{fold}
use Rattle.pitch_fields.specs.Fields.{number_at}

-- a sum with a word more: where they differ, laid over its upper half, times an odd number
unfoldable pub mixed : ℕ → ℕ → ℕ
mixed sum word =
    let both = bit_xor sum word in bit_xor both (both / 2 ^ 32) * 0x9e3779b97f4a7c15 % 2 ^ 64

-- a sum with so many words of eight bytes more, from the front
abbrev pub summed : ℕ → ℕ → List ℕ → ℕ
summed zero sum bytes = sum
summed (suc words) sum bytes = summed words (mixed sum (number_at 8 0 bytes)) (drop 8 bytes)

-- the sum of a message: its words, and its last eight bytes as one more; of fewer than eight bytes,
-- each by itself
unfoldable pub sum_of : List ℕ → ℕ
sum_of raw =
    if nat_lt (length raw) 8 then fold mixed 0 raw
    else mixed (summed ((length raw - 1) / 8) 0 raw) (number_at 8 (length raw - 8) raw)
