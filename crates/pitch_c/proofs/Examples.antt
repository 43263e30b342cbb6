-- Worked examples of what C is told.
use Rattle.std.proofs.Common.{◌≡◌, ℕ, true, false, List, [], ◌∷◌, Some, None, Ok, Err, refl}
use Rattle.pitch_fields.specs.declared.side.Side.TheVariants.{Buy, Sell}
use Rattle.pitch_messages.specs.declared.order.Order.{Order}
use Rattle.pitch_model.specs.declared.status.Status.TheVariants.{Current, Behind}
use Rattle.unit_packets.specs.declared.header.Header.{Header}
use Rattle.unit_packets.specs.declared.header.BlockError.TheVariants.{Truncated, Spare}
use Rattle.sending_end.specs.declared.session.Session.TheVariants.{Proxy, SpinServer}
use Rattle.pitch_c.specs.Answers.{hold_code, judged_code, side_code}
use Rattle.pitch_c.specs.Arrays.{filled}
use Rattle.pitch_c.specs.Ends.{open_code, session_of, session_code}
use Rattle.pitch_c.specs.Reports.{status_shown, best_shown, order_shown, state_shown, level_shown, quote_shown}

-- ---- Codes
holds : ((hold_code 0 ≡ 4) × (hold_code 1 ≡ 0)) × ((hold_code 65536 ≡ 0) × (hold_code 65537 ≡ 4))
holds = ((refl, refl), (refl, refl))

judged : (header : Header) → (judged_code (Ok header) ≡ 0) × ((judged_code (Err (Truncated 7 8)) ≡ 5) × (judged_code (Err (Spare 12)) ≡ 6))
judged header = (refl, (refl, refl))

-- an end's unit is from 1 to 255, and is looked at before its hold
units : ((open_code 0 0 ≡ 11) × (open_code 1 0 ≡ 4)) × ((open_code 255 65536 ≡ 0) × (open_code 256 1 ≡ 11))
units = ((refl, refl), (refl, refl))

sessions : ((session_of 0 ≡ None) × (session_of 1 ≡ Some Proxy)) × ((session_of 2 ≡ Some SpinServer) × (session_of 3 ≡ None))
sessions = ((refl, refl), (refl, refl))

session_codes : (session_code None ≡ 12) × (session_code (Some Proxy) ≡ 0)
session_codes = (refl, refl)

sides : (side_code None 0 ≡ 8) × ((side_code (Some Buy) 0 ≡ 0) × (side_code (Some Sell) 7 ≡ 7))
sides = (refl, (refl, refl))

-- ---- Arrays
-- two items in three places, and three in two
roomy : filled {T = ℕ} (1 ∷ 2 ∷ []) (7 ∷ 8 ∷ 9 ∷ []) ≡ 1 ∷ 2 ∷ 9 ∷ []
roomy = refl

narrow : filled {T = ℕ} (1 ∷ 2 ∷ 3 ∷ []) (7 ∷ 8 ∷ []) ≡ 1 ∷ 2 ∷ []
narrow = refl

-- ---- Structs
behind : status_shown (Behind 2 4) ≡ record { state = 3; reach = 2; top = 4; spare = 0 ∷ 0 ∷ 0 ∷ 0 ∷ 0 ∷ [] }
behind = refl

current : status_shown (Current 4) ≡ record { state = 2; reach = 4; top = 4; spare = 0 ∷ 0 ∷ 0 ∷ 0 ∷ 0 ∷ [] }
current = refl

bid : best_shown (Some (123456, 300)) ≡ record { there = 1; price = 123456; shares = 300; spare = 0 ∷ 0 ∷ 0 ∷ 0 ∷ 0 ∷ [] }
bid = refl

level : level_shown (123400, 800) ≡ record { price = 123400; shares = 800; spare = 0 ∷ 0 ∷ [] }
level = refl

-- message 7 makes 12.34 with 800 shares ACME's best price to sell; message 8 empties the side
abbrev name : List ℕ
name = 65 ∷ 67 ∷ 77 ∷ 69 ∷ 32 ∷ 32 ∷ 32 ∷ 32 ∷ []

offer : quote_shown (record { sequence = 7; quote = record { symbol = name; side = Sell; best = Some (123400, 800) } })
    ≡ record { sequence = 7; side = 83; symbol = name; there = 1; price = 123400; shares = 800; spare = 0 ∷ 0 ∷ 0 ∷ [] }
offer = refl

empty : quote_shown (record { sequence = 8; quote = record { symbol = name; side = Sell; best = None } })
    ≡ record { sequence = 8; side = 83; symbol = name; there = 0; price = 0; shares = 0; spare = 0 ∷ 0 ∷ 0 ∷ [] }
empty = refl

-- buy 500 ACME at 12.3456, order 100
abbrev acme : Order
acme = record {
  id = 100;
  side = Buy;
  quantity = 500;
  symbol = 65 ∷ 67 ∷ 77 ∷ 69 ∷ 32 ∷ 32 ∷ 32 ∷ 32 ∷ [];
  price = 123456;
  display = true;
  participant = 32 ∷ 32 ∷ 32 ∷ 32 ∷ [];
}

acme_told : order_shown (Some acme) ≡ record {
  there = 1;
  id = 100;
  price = 123456;
  quantity = 500;
  side = 66;
  symbol = 65 ∷ 67 ∷ 77 ∷ 69 ∷ 32 ∷ 32 ∷ 32 ∷ 32 ∷ [];
  display = 1;
  participant = 32 ∷ 32 ∷ 32 ∷ 32 ∷ [];
  spare = 0 ∷ 0 ∷ [];
}
acme_told = refl

-- sell 1000 ZVZZT+P at 10.50, order 7 of ABCD, which is not displayed
hidden_told : order_shown (Some (record {
  id = 7;
  side = Sell;
  quantity = 1000;
  symbol = 90 ∷ 86 ∷ 90 ∷ 90 ∷ 84 ∷ 43 ∷ 80 ∷ 32 ∷ [];
  price = 105000;
  display = false;
  participant = 65 ∷ 66 ∷ 67 ∷ 68 ∷ [];
})) ≡ record {
  there = 1;
  id = 7;
  price = 105000;
  quantity = 1000;
  side = 83;
  symbol = 90 ∷ 86 ∷ 90 ∷ 90 ∷ 84 ∷ 43 ∷ 80 ∷ 32 ∷ [];
  display = 0;
  participant = 65 ∷ 66 ∷ 67 ∷ 68 ∷ [];
  spare = 0 ∷ 0 ∷ [];
}
hidden_told = refl

-- ACME, T with 0
halted : state_shown (record { symbol = 65 ∷ 67 ∷ 77 ∷ 69 ∷ 32 ∷ 32 ∷ 32 ∷ 32 ∷ []; halt = 84; sho = 48 })
    ≡ record { symbol = 65 ∷ 67 ∷ 77 ∷ 69 ∷ 32 ∷ 32 ∷ 32 ∷ 32 ∷ []; halt = 84; sho = 48; spare = 0 ∷ 0 ∷ [] }
halted = refl
