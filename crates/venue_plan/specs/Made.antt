-- The commands that a venue makes itself: of a number, a unit and an index, in rounds of 24 that
-- have each kind of message. They are this project's own, beside the plan of `venue_core`, of which
-- they have the quantities and the prices.
use Rattle.std.specs.Prelude.{ℕ, ◌+◌, ◌*◌, ◌-◌, ◌/◌, ◌%◌, true, false, ◌==◌, nat_lt, List}
use Rattle.std.specs.Prelude.{codes, if◌then◌else◌}
use Rattle.pitch_fields.specs.declared.side.Side.{Side}
use Rattle.pitch_fields.specs.declared.side.Side.TheVariants.{Buy, Sell}
use Rattle.pitch_fields.specs.Name.{no_participant}
use Rattle.pitch_messages.specs.declared.order.Order.{Order}
use Rattle.pitch_text.specs.declared.command.Command.{Command}
use Rattle.pitch_text.specs.declared.command.Command.TheVariants as commands
use Rattle.venue_core.specs.Plan.{plan_quantity, plan_price}

-- ---- what a command names
-- a quantity that no short form can carry: from 100,100 to 100,499
abbrev pub large_quantity : ℕ → ℕ → ℕ → ℕ
large_quantity number unit i = 100000 + plan_quantity number unit i

-- a price that no short form can carry, since it is no whole cent
abbrev pub fine_price : ℕ → ℕ → ℕ
fine_price number i = plan_price number i + 1

-- a price that is a dollar above that of the same command
abbrev pub high_price : ℕ → ℕ → ℕ
high_price number i = plan_price number i + 10000

-- the symbol of command i: of one, four, six, seven and eight letters in turn
abbrev pub made_symbol : ℕ → List ℕ
made_symbol i =
    if i % 5 == 0 then codes "Q       "
    else if i % 5 == 1 then codes "BETA    "
    else if i % 5 == 2 then codes "SIGMAS  "
    else if i % 5 == 3 then codes "OMICRON "
    else codes "GAMMADLT"

-- the offset at place k of a round: 40 ms behind the one before, below a second
abbrev pub made_offset : ℕ → ℕ → ℕ
made_offset number k = 40000000 * k + number % 1000

-- an order of command i that is displayed and names no participant
abbrev pub made_order : ℕ → Side → ℕ → ℕ → Order
made_order i side quantity price = record {
  id = i;
  side = side;
  quantity = quantity;
  symbol = made_symbol i;
  price = price;
  display = true;
  participant = no_participant;
}

-- ---- a round
-- its first eight commands: the time; a status; a buy; a hidden sell of a participant; a large buy;
-- a hidden sell at no whole cent; a buy and a sell
abbrev pub made_opening : ℕ → ℕ → ℕ → ℕ → ℕ → Command
made_opening number unit i j k =
    let at = made_offset number k in
    let few = plan_quantity number unit i in
    let price = plan_price number i in
    let high = high_price number i in
    if k == 0 then commands.Time (34200 + j % 50000)
    else if k == 1 then commands.Status (made_symbol i) (if j % 2 == 0 then 84 else 72) 48 at
    else if k == 2 then commands.Add (made_order i Buy few price) at
    else if k == 3 then commands.Add
    (record (made_order i Sell few high) { display = false; participant = codes "DESK" }) at
    else if k == 4 then commands.Add (made_order i Buy (large_quantity number unit i) price) at
    else if k == 5
    then commands.Add (record (made_order i Sell few (fine_price number i)) { display = false }) at
    else if k == 6 then commands.Add (made_order i Buy few price) at
    else commands.Add (made_order i Sell few high) at

-- the next eight: 50 shares of the buy are executed; 30 of the hidden sell, of which 40 are left,
-- at a price; the large buy is reduced by 70,000, and the sell at no whole cent by 20; the buy and
-- the large buy are modified; a trade, and a large one
abbrev pub made_trading : ℕ → ℕ → ℕ → ℕ → Command
made_trading number unit i k =
    let at = made_offset number k in
    let few = plan_quantity number unit i in
    let many = large_quantity number unit i in
    let price = plan_price number i in
    let fine = fine_price number i in
    if k == 8 then commands.Exec (i - 6) 50 i at
    else if k == 9 then commands.ExecAt (i - 6) 30 40 i price at
    else if k == 10 then commands.Reduce (i - 6) 70000 at
    else if k == 11 then commands.Reduce (i - 6) 20 at
    else if k == 12 then commands.Modify (i - 10) few price true at
    else if k == 13 then commands.Modify (i - 9) many fine false at
    else if k == 14 then commands.Trade (made_order i Buy few price) i at
    else commands.Trade (made_order i Sell many fine) i at

-- the last eight: the first trade is broken; the second buy is executed whole, and the last sell
-- at a price; all that is left of the sell at no whole cent is reduced; a hidden buy, which is
-- displayed then; the hidden sell is deleted, and so is that buy, or in each 64th round all orders
abbrev pub made_closing : ℕ → ℕ → ℕ → ℕ → ℕ → Command
made_closing number unit i j k =
    let at = made_offset number k in
    let few = plan_quantity number unit i in
    let price = plan_price number i in
    if k == 16 then commands.Break (i - 2) at
    else if k == 17 then commands.Exec (i - 11) (plan_quantity number unit (i - 11)) i at
    else if k == 18 then commands.ExecAt (i - 11) (plan_quantity number unit (i - 11)) 0 i price at
    else if k == 19 then commands.Reduce (i - 14) (plan_quantity number unit (i - 14) - 20) at
    else if k == 20
    then commands.Add (record (made_order i Buy few price) { display = false }) at
    else if k == 21 then commands.Modify (i - 1) few price true at
    else if k == 22 then commands.Delete (i - 19) at
    else if j % 64 == 63 then commands.Clear at
    else commands.Delete (i - 3) at

-- the command at place k of round j; places and rounds count from 0
abbrev pub made_at : ℕ → ℕ → ℕ → ℕ → ℕ → Command
made_at number unit i j k =
    if nat_lt k 8 then made_opening number unit i j k
    else if nat_lt k 16 then made_trading number unit i k
    else made_closing number unit i j k

-- command i of so many, which counts from 1: the last one ends the session
unfoldable pub made_command : ℕ → ℕ → ℕ → ℕ → Command
made_command number unit count i =
    if i == count then commands.EndSession (made_offset number 24)
    else made_at number unit i ((i - 1) / 24) ((i - 1) % 24)
