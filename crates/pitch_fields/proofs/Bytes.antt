-- Lists of bytes, place by place.
use Rattle.std.proofs.Common.{ℕ, zero, suc, ◌<◌, List, [], ◌∷◌, drop, get_or, arith}
use Rattle.pitch_fields.specs.Fields.{AreBytes}

pub byte_at : (bytes : List ℕ) → AreBytes bytes → (i : ℕ) → get_or bytes i 0 < 256
byte_at [] all i = omega arith
byte_at (b ∷ bs) all zero = all.0
byte_at (b ∷ bs) all (suc i) = byte_at bs all.1 i

pub bytes_drop : (n : ℕ) (bytes : List ℕ) → AreBytes bytes → AreBytes (drop n bytes)
bytes_drop zero bytes all = all
bytes_drop (suc n) [] all = tt
bytes_drop (suc n) (b ∷ bs) all = bytes_drop n bs all.1
