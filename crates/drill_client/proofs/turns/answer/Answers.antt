use Rattle.std.proofs.Common.{◌++◌, Option, sym, subst}
use Rattle.pitch_model.specs.declared.ask.Ask.{Ask}
use Rattle.unit_market.specs.Views.{image_view}
use Rattle.unit_market.specs.Markets.{kept_view}
use Rattle.drill_client.specs.layers.Following.{Follows}
use Rattle.drill_client.specs.layers.Answered.{heard_of_ask}
use Rattle.drill_client.proofs.turns.answer.Goals as goal

pub returns-in_ok-answer_ask-in-Some-clause-heard : goal.returns-in_ok-answer_ask-in-Some-clause-heard
returns-in_ok-answer_ask-in-Some-clause-heard c j more has H E f =
    subst (λ (ask : Option Ask). Follows c.answer_ask.new.client H (j.messages ++ more) (heard_of_ask (kept_view j) (image_view j.messages j.advertised) c.args.unit ask E)) (sym c.in-Some.is)
    (c.in_ok-answer_ask-in-Some.ensures.heard j more has H E f)
