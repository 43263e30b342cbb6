use Rattle.std.proofs.Common.{◌≡◌, ◌≤◌, ◌++◌, ℕ, List, length, true, false, sym, ap, ◌∙◌, subst, arith}
use Rattle.std.proofs.lemmas.List.{length-append}
use Rattle.pitch_model.specs.Advertising.{with_sequence}
use Rattle.unit_market.specs.Markets.{MarketHas}
use Rattle.drill_client.specs.layers.Played.{is_round}
use Rattle.drill_client.proofs.Played.{no_round, round_done, round_unheard, round_heard}
use Rattle.drill_client.proofs.turns.advertise.Goals as goal

pub returns-then-not-is_round : goal.returns-then-not-is_round
returns-then-not-is_round c =
    let off : is_round c.args.index c.args.count ≡ false = sym c.is_round.ensures ∙ c.if-not-is_round.true in
    record {
      market = λ j has size. subst (λ (ns : List ℕ). MarketHas c.args.market.now (record j { advertised = ns })) (sym (no_round c.args.index c.args.count j.advertised off)) has;
      heard = λ j more has size H E f. round_unheard c.args.index c.args.count c.args.client.now H (j.messages ++ more) E off f;
    }

pub returns : goal.returns
returns c =
    let on : is_round c.args.index c.args.count ≡ true = sym c.is_round.ensures ∙ c.if-not-is_round.false in
    record {
      market = λ j has size.
          subst (λ (ns : List ℕ). MarketHas c.advertise.new.self (record j { advertised = ns })) (ap (λ (n : ℕ). with_sequence j.advertised n) size ∙ sym (round_done c.args.index c.args.count j.advertised on))
          (c.in_ok-sequence.ensures.ok j has);
      heard = λ j more has size H E f.
          let is = c.in_ok-sequence.ensures.sequence j has in
          let within : c.in_ok-sequence.sequence ≤ length (j.messages ++ more) = omega (arith, is, length-append j.messages more) in
          round_heard c.args.index c.args.count c.hear_advertised.new.client H (j.messages ++ more) E c.in_ok-sequence.sequence on (is ∙ size) (c.hear_advertised.ensures (j.messages ++ more) within H E f);
    }
