-- Little-endian numbers and their bytes.
use Rattle.std.proofs.Common.{◌≡◌, ℕ, zero, suc, ◌+◌, ◌*◌, ◌/◌, ◌%◌, ◌^◌, ◌<◌, ◌≤◌, List, [], ◌∷◌, ◌++◌, length, take, drop, get_or, refl, sym, ap, ◌∙◌, arith}
use Rattle.std.proofs.Math.Nat.{div-div-eq-div-mul, pow-succ'}
use Rattle.std.proofs.lemmas.List.{append_assoc, drop_at, length-take-le}
use Rattle.std.specs.Int.{byte_at, bytes_low_first}
use Rattle.byteorder.specs.Endian.{little_bytes, little_number}
use Rattle.byteorder.specs.Numbers.{little_from-cons, little_number-reads_back}
use Rattle.pitch_fields.specs.Fields.{number_at, put_at}

-- byte j + 1 of a number is byte j of its 256th part
next_byte : (j x : ℕ) → byte_at (suc j) x ≡ byte_at j (x / 256)
next_byte zero x = ap (λ (p : ℕ). x / p % 256) (omega arith)
next_byte (suc j) x = ap (λ (q : ℕ). q % 256) (ap (λ (p : ℕ). x / p) (pow-succ' 256 (suc j)) ∙ sym (div-div-eq-div-mul x 256 (256 ^ suc j)))

next_bytes : (n j x : ℕ) → bytes_low_first (suc j) n x ≡ bytes_low_first j n (x / 256)
next_bytes zero j x = refl
next_bytes (suc n) j x = ap (λ (b : ℕ). b ∷ bytes_low_first (suc (suc j)) n x) (next_byte j x) ∙ ap (λ (bs : List ℕ). byte_at j (x / 256) ∷ bs) (next_bytes n (suc j) x)

-- the bytes of the number that stands in the first n bytes are these bytes
pub bytes_of_number : (n : ℕ) (xs : List ℕ) → n ≤ length xs → ((k : ℕ) → get_or xs k 0 < 256) → little_bytes n (little_number n xs) ≡ take n xs
bytes_of_number zero xs size bytes = refl
bytes_of_number (suc n) [] size bytes = absurd (omega arith)
bytes_of_number (suc n) (b ∷ bs) size bytes =
    let byte : b < 256 = bytes 0 in
    let value : little_number (suc n) (b ∷ bs) ≡ b + 256 * little_number n bs = ap (λ (r : ℕ). b + 256 * r) (little_from-cons 0 n b bs) in
    let first : (b + 256 * little_number n bs) % 256 ≡ b = omega arith in
    let others : (b + 256 * little_number n bs) / 256 ≡ little_number n bs = omega arith in
    ap (little_bytes (suc n)) value
    ∙ ap (λ (v : ℕ). v ∷ bytes_low_first 1 n (b + 256 * little_number n bs)) first
    ∙ ap (λ (vs : List ℕ). b ∷ vs) (next_bytes n 0 (b + 256 * little_number n bs) ∙ ap (bytes_low_first 0 n) others ∙ bytes_of_number n bs (omega arith) (λ k. bytes (suc k)))

-- a number that was put at a place stands there
pub number_of_put : (n at value : ℕ) (bytes : List ℕ) → at ≤ length bytes → value < 256 ^ n → number_at n at (put_at bytes at (little_bytes n value)) ≡ value
number_of_put n at value bytes within fits =
    ap (little_number n) (seam at bytes (little_bytes n value) within) ∙ little_number-reads_back n value (drop (at + length (little_bytes n value)) bytes) fits
  where
    seam : (k : ℕ) (xs field : List ℕ) → k ≤ length xs → drop k (put_at xs k field) ≡ field ++ drop (k + length field) xs
    seam k xs field le = ap (drop k) (append_assoc (take k xs) field (drop (k + length field) xs)) ∙ drop_at (take k xs) (field ++ drop (k + length field) xs) k (length-take-le k xs le)
