-- The plan: commands that are made of a number, a unit and an index, in rounds of eight. It is this
-- project's own, and gives a venue's day of any length.
use Rattle.std.specs.Prelude.{ℕ, zero, suc, ◌+◌, ◌*◌, ◌-◌, ◌/◌, ◌%◌, true, ◌==◌, List, [], ◌∷◌}
use Rattle.std.specs.Prelude.{◌++◌, codes, if◌then◌else◌}
use Rattle.pitch_fields.specs.declared.side.Side.{Side}
use Rattle.pitch_fields.specs.declared.side.Side.TheVariants.{Buy, Sell}
use Rattle.pitch_messages.specs.declared.order.Order.{Order}
use Rattle.pitch_text.specs.declared.command.Command.{Command}
use Rattle.pitch_text.specs.declared.command.Command.TheVariants as commands
use Rattle.venue_core.specs.Commands.{raw_of}

-- ---- Its commands
-- the quantity that command i names: from 100 to 499
unfoldable pub plan_quantity : ℕ → ℕ → ℕ → ℕ
plan_quantity number unit i = 100 + (number + unit + 37 * i) % 400

-- the price that command i names: whole cents from 10.00 to 11.99, in ten-thousandths
unfoldable pub plan_price : ℕ → ℕ → ℕ
plan_price number i = 100 * (1000 + (number + i) % 200)

-- the symbol that command i names: three in turn, one of them of eight letters
abbrev pub plan_symbol : ℕ → List ℕ
plan_symbol i =
    if i % 3 == 0 then codes "ALPHA   "
    else if i % 3 == 1 then codes "BETA    "
    else codes "GAMMADLT"

-- the order that command i names at this side and price: displayed, of no named participant
abbrev pub plan_order : ℕ → ℕ → ℕ → Side → ℕ → Order
plan_order number unit i side price = record {
  id = i;
  side = side;
  quantity = plan_quantity number unit i;
  symbol = plan_symbol i;
  price = price;
  display = true;
  participant = codes "    ";
}

-- command i, which stands at place k of round j: the time; a buy and a sell; an execution of the
-- buy and a reduction of the sell; the buy modified; a second buy, which in an even round is
-- deleted at once; in an odd round a trade
abbrev pub plan_at : ℕ → ℕ → ℕ → ℕ → ℕ → Command
plan_at number unit i j k =
    if k == 0 then commands.Time (34200 + j % 50000)
    else if k == 1 then commands.Add (plan_order number unit i Buy (plan_price number i)) 0
    else if k == 2 then commands.Add (plan_order number unit i Sell (plan_price number i + 10000)) 0
    else if k == 3 then commands.Exec (i - 2) 50 i 0
    else if k == 4 then commands.Reduce (i - 2) 20 0
    else if k == 5
    then commands.Modify (i - 4) (plan_quantity number unit i) (plan_price number i) true 0
    else if k == 6 then commands.Add (plan_order number unit i Buy (plan_price number i + 1)) 0
    else if j % 2 == 0 then commands.Delete (i - 1) 0
    else commands.Trade (plan_order number unit i Buy (plan_price number i)) i 0

-- command i of the plan, which counts from 1; rounds and places count from 0
unfoldable pub plan_command : ℕ → ℕ → ℕ → Command
plan_command number unit i = plan_at number unit i ((i - 1) / 8) ((i - 1) % 8)

-- ---- Its messages
-- the messages of the first `count` commands
unfoldable pub plan : ℕ → ℕ → ℕ → List (List ℕ)
plan number unit zero = []
plan number unit (suc count) =
    plan number unit count ++ raw_of (plan_command number unit (suc count)) ∷ []
