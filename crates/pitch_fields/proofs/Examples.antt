-- Worked examples of the definitions, computed.
use Rattle.std.proofs.Common.{◌≡◌, ◌∷◌, [], Some, None, refl, codes, true, false}
use Rattle.std.specs.Fmt.{digits}
use Rattle.pitch_fields.specs.Name.{is_well_formed, name_shown, six_of}
use Rattle.pitch_fields.specs.Price.{price_digits, short_of}

-- 655.35 dollars are 65,535 cents, the most of a short price
most_short : short_of 6553500 ≡ Some 65535
most_short = refl

-- a cent more is too much, and so is a hundredth of a cent
above_short : short_of 6553600 ≡ None
above_short = refl

no_cents : short_of 6553401 ≡ None
no_cents = refl

-- the texts of prices
most_short_text : price_digits 6553500 ≡ codes "655.3500"
unfolding digits
most_short_text = refl

small_text : price_digits 7 ≡ codes "0.0007"
unfolding digits
small_text = refl

-- a symbol is shown without the spaces at its end
symbol_text : name_shown (codes "IBM     ") ≡ codes "IBM"
unfolding name_shown
symbol_text = refl

-- a name of spaces alone is shown as one of them
blank_text : name_shown (codes "    ") ≡ codes "\\x20"
unfolding name_shown
blank_text = refl

-- a byte 0x01, a backslash and a space inside are shown by their codes
hidden_bytes : name_shown (1 ∷ 92 ∷ 32 ∷ 65 ∷ 32 ∷ []) ≡ codes "\\x01\\x5c\\x20A"
unfolding name_shown
hidden_bytes = refl

-- well formed: some printing bytes, and then spaces alone
well_formed : is_well_formed (codes "IBM     ") ≡ true
well_formed = refl

space_inside : is_well_formed (codes "I BM    ") ≡ false
space_inside = refl

blank : is_well_formed (codes "        ") ≡ false
blank = refl

backslash : is_well_formed (codes "IB\\M    ") ≡ false
backslash = refl

-- a symbol whose last two bytes are spaces has six
six_bytes : six_of (codes "IBM     ") ≡ Some (codes "IBM   ")
six_bytes = refl

eight_bytes : six_of (codes "ABCDEFGH") ≡ None
eight_bytes = refl
