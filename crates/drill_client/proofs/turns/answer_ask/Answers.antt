use Rattle.std.proofs.Common.{◌++◌, Some, sym, subst}
use Rattle.pitch_model.specs.declared.ask.Ask.{Ask}
use Rattle.unit_market.specs.Views.{image_view}
use Rattle.unit_market.specs.Markets.{kept_view}
use Rattle.drill_client.specs.layers.Following.{Follows}
use Rattle.drill_client.specs.layers.Answered.{heard_of_ask}
use Rattle.drill_client.proofs.turns.answer_ask.Goals as goal

pub returns-in_ok-answer_gap-in-Gap-clause-heard : goal.returns-in_ok-answer_gap-in-Gap-clause-heard
returns-in_ok-answer_gap-in-Gap-clause-heard c j more has H E f =
    subst (λ (ask : Ask). Follows c.answer_gap.new.client H (j.messages ++ more) (heard_of_ask (kept_view j) (image_view j.messages j.advertised) c.args.unit (Some ask) E)) (sym c.in-Gap.is)
    (c.in_ok-answer_gap-in-Gap.ensures.heard j more has H E f)

pub returns-in_ok-answer_spin-in-Spin-clause-heard : goal.returns-in_ok-answer_spin-in-Spin-clause-heard
returns-in_ok-answer_spin-in-Spin-clause-heard c j more has H E f =
    subst (λ (ask : Ask). Follows c.answer_spin.new.client H (j.messages ++ more) (heard_of_ask (kept_view j) (image_view j.messages j.advertised) c.args.unit (Some ask) E)) (sym c.in-Spin.is)
    (c.in_ok-answer_spin-in-Spin.ensures.heard j more has H E f)
