use Rattle.std.proofs.Common.{◌-◌, ◌≡◌, ℕ, List, ◌++◌, Bool, drop, sym, ap, ◌∙◌, subst}
use Rattle.std.specs.List.{AllByRecursion}
use Rattle.pitch_messages.specs.Room.{Roomy}
use Rattle.pitch_model.specs.History.{Entry, Raw}
use Rattle.heard_items.specs.Datagrams.{IsPiece}
use Rattle.unit_market.specs.Markets.{MarketHas, Journal}
use Rattle.unit_market.specs.Standing.{MarketState}
use Rattle.unit_packets.specs.Packing.{bytes_in}
use Rattle.venue_core.specs.Losses.{is_lost}
use Rattle.venue_core.specs.Plan.{plan}
use Rattle.venue_core.proofs.PlanBooks.{plan_length}
use Rattle.drill_client.specs.layers.Following.{Follows}
use Rattle.drill_client.specs.layers.Answered.{heard_after_copy}
use Rattle.drill_client.specs.layers.Played.{command_datagrams, heard_on_line, heard_of_command}
use Rattle.drill_client.specs.layers.Turns.{journal_at}
use Rattle.drill_client.proofs.Played.{on_line, rounds_next}
use Rattle.drill_client.proofs.Playing.{plan_grows}
use Rattle.drill_client.proofs.turns.play.Goals as goal

pub returns-clause-played : goal.returns-clause-played
returns-clause-played c =
    let number : ℕ = c.args.course.number in
    let unit : ℕ = c.args.course.unit in
    let count : ℕ = c.args.course.count in
    let index : ℕ = c.args.index in
    let j : Journal = journal_at number unit count index index (index - 1) in
    let has : (market : MarketState) → Type 0 = λ market. MarketHas market j in
    let has_2 : has c.hear_copy.new.market = subst has (sym c.in_ok-hear_copy.ensures.same) c.in_ok-sent.ensures.playing in
    let has_3 : has c.hear_copy-2.new.market = subst has (sym c.in_ok-hear_copy-2.ensures.same) has_2 in
    subst (λ (ns : List ℕ). MarketHas c.advertise.new.market (record j { advertised = ns })) (rounds_next count index c.requires.index.0) (c.in_ok-advertise.ensures.market j has_3 (plan_length number unit index))

pub returns-clause-count : goal.returns-clause-count
returns-clause-count c =
    c.in_ok-hear_copy-2.ensures.count
    ∙ ap (λ (lost : Bool). heard_after_copy lost c.hear_copy.new.heard) c.lost-2.ensures
    ∙ ap (λ (n : ℕ). heard_after_copy (is_lost c.args.course.number c.args.course.unit c.args.index 2) n)
    (c.in_ok-hear_copy.ensures.count ∙ ap (λ (lost : Bool). heard_after_copy lost c.args.heard.now) c.lost.ensures)

pub returns-clause-heard : goal.returns-clause-heard
returns-clause-heard c E f =
    let number : ℕ = c.args.course.number in
    let unit : ℕ = c.args.course.unit in
    let count : ℕ = c.args.course.count in
    let index : ℕ = c.args.index in
    let now : List Raw = plan number unit index in
    let all : List Raw = plan number unit count in
    let more : List Raw = drop index all in
    let grows : now ++ more ≡ all = plan_grows number unit index count c.requires.index.1 in
    let j : Journal = journal_at number unit count index index (index - 1) in
    let has : (market : MarketState) → Type 0 = λ market. MarketHas market j in
    let has_2 : has c.hear_copy.new.market = subst has (sym c.in_ok-hear_copy.ensures.same) c.in_ok-sent.ensures.playing in
    let has_3 : has c.hear_copy-2.new.market = subst has (sym c.in_ok-hear_copy-2.ensures.same) has_2 in
    let slice : bytes_in c.as_slice-datagrams.result.now ≡ bytes_in c.in_ok-sent.sent.items = ap (λ (l : List (Roomy ℕ)). bytes_in l) c.as_slice-datagrams.ensures in
    let pieces : AllByRecursion (IsPiece now unit) (bytes_in c.as_slice-datagrams.result.now) = subst (AllByRecursion (IsPiece now unit)) (sym slice) c.in_ok-sent.ensures.pieces in
    let are : bytes_in c.as_slice-datagrams.result.now ≡ command_datagrams number unit index = slice ∙ c.in_ok-sent.ensures.datagrams in
    let start : Follows c.args.client.now 4096 (now ++ more) E = subst (λ (V : List Raw). Follows c.args.client.now 4096 V E) (sym grows) f in
    let first : Follows c.hear_copy.new.client 4096 (now ++ more) (heard_on_line number unit count index 1 c.args.heard.now E) =
    on_line c.hear_copy.new.client (now ++ more) E number unit count index 1 c.args.heard.now c.lost.result (bytes_in c.as_slice-datagrams.result.now) c.lost.ensures are (c.in_ok-hear_copy.ensures.heard j more c.in_ok-sent.ensures.playing pieces 4096 E start) in
    let then : List Entry = heard_on_line number unit count index 1 c.args.heard.now E in
    let second : Follows c.hear_copy-2.new.client 4096 (now ++ more) (heard_on_line number unit count index 2 c.hear_copy.new.heard then) =
    on_line c.hear_copy-2.new.client (now ++ more) then number unit count index 2 c.hear_copy.new.heard c.lost-2.result (bytes_in c.as_slice-datagrams.result.now) c.lost-2.ensures are (c.in_ok-hear_copy-2.ensures.heard j more has_2 pieces 4096 then first) in
    let heard : c.hear_copy.new.heard ≡ heard_after_copy (is_lost number unit index 1) c.args.heard.now = c.in_ok-hear_copy.ensures.count ∙ ap (λ (lost : Bool). heard_after_copy lost c.args.heard.now) c.lost.ensures in
    let both : Follows c.hear_copy-2.new.client 4096 (now ++ more) (heard_on_line number unit count index 2 (heard_after_copy (is_lost number unit index 1) c.args.heard.now) then) =
    subst (λ (n : ℕ). Follows c.hear_copy-2.new.client 4096 (now ++ more) (heard_on_line number unit count index 2 n then)) heard second in
    subst (λ (V : List Raw). Follows c.advertise.new.client 4096 V (heard_of_command number unit count index c.args.heard.now E)) grows
    (c.in_ok-advertise.ensures.heard j more has_3 (plan_length number unit index) 4096 _ both)
