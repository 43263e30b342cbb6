use Rattle.std.proofs.Common.{◌≡◌, ℕ, List, ◌+◌, ◌-◌, sym, ◌∙◌, subst, arith}
use Rattle.venue_core.proofs.PlanBooks.{plan_begins}
use Rattle.pitch_model.specs.History.{Entry, Raw}
use Rattle.unit_market.specs.Markets.{MarketHas}
use Rattle.unit_market.specs.Views.{new_journal}
use Rattle.venue_core.specs.Plan.{plan}
use Rattle.drill_client.specs.layers.Following.{Follows}
use Rattle.drill_client.specs.layers.Played.{plain_history}
use Rattle.drill_client.specs.layers.Turns.{journal_at, HasPlayed}
use Rattle.drill_client.proofs.Played.{rounds_begin, count_begins, count_next, history_next}
use Rattle.drill_client.proofs.turns.play_all.Goals as goal

pub commands-init : goal.commands-init
commands-init c =
    let number : ℕ = c.args.course.number in
    let unit : ℕ = c.args.course.unit in
    let count : ℕ = c.args.course.count in
    record {
      played =
          subst (λ (ns : List ℕ). MarketHas c.args.market.now (record (journal_at number unit count 0 0 0) { advertised = ns })) (sym (rounds_begin count))
          (subst (λ (V : List Raw). MarketHas c.args.market.now (record (new_journal unit 4096) { messages = V })) (sym (plan_begins number unit)) c.requires.new);
      count = sym (count_begins number unit);
      follows = c.requires.begun;
    }

pub play-requires-clause-played : goal.play-requires-clause-played
play-requires-clause-played c =
    let e : c.commands.before ≡ c.commands.before + 1 - 1 = omega arith in
    subst (λ (n : ℕ). HasPlayed c.commands.market c.args.course.number c.args.course.unit c.args.course.count n) e c.commands.invariant.played

pub commands-preserved : goal.commands-preserved
commands-preserved c =
    let number : ℕ = c.args.course.number in
    let unit : ℕ = c.args.course.unit in
    let count : ℕ = c.args.course.count in
    let index : ℕ = c.commands.before in
    record {
      played = c.in_ok-play.ensures.played;
      count = c.in_ok-play.ensures.count ∙ count_next number unit index c.commands.heard c.commands.invariant.count;
      follows =
          subst (λ (E : List Entry). Follows c.play.new.client 4096 (plan number unit count) E) (history_next number unit count index c.commands.heard c.commands.invariant.count)
          (c.in_ok-play.ensures.heard (plain_history number unit count index) c.commands.invariant.follows);
    }

pub returns-clause-played : goal.returns-clause-played
returns-clause-played c =
    let e : c.commands.before ≡ c.args.course.count = omega (arith, c.commands-test.false, c.commands.auto.before-end) in
    subst (λ (n : ℕ). HasPlayed c.commands.market c.args.course.number c.args.course.unit c.args.course.count n) e c.commands.invariant.played

pub returns-clause-heard : goal.returns-clause-heard
returns-clause-heard c =
    let e : c.commands.before ≡ c.args.course.count = omega (arith, c.commands-test.false, c.commands.auto.before-end) in
    subst (λ (n : ℕ). Follows c.commands.client 4096 (plan c.args.course.number c.args.course.unit c.args.course.count) (plain_history c.args.course.number c.args.course.unit c.args.course.count n)) e c.commands.invariant.follows
