use Rattle.std.proofs.Common.{◌≡◌, ◌∙◌, ◌++◌, ◌∷◌, [], ◌+◌, ℕ, length, Some, Result, Err, rules, sym, ap, subst}
use Rattle.venue_core.proofs.Accepting.{last_there}
use Rattle.venue_core.proofs.Answered.{answer_err, answer_ok}
use Rattle.pitch_model.specs.History.{Raw}
use Rattle.venue_core.specs.Commands.{raw_of}
use Rattle.venue_core.specs.Refusals.{refusal, IsAnswer}
use Rattle.venue_core.specs.declared.error.VenueError.{VenueError}
use Rattle.unit_market.specs.Markets.{Journal, MarketHas}
use Rattle.unit_market.specs.Standing.{MarketState}
use Rattle.unit_market.proofs.Having.{has_accepted}
use Rattle.unit_market.proofs.market.Market.accept.Goals as goal

pub returns-in_err-raw-clause-answer : goal.returns-in_err-raw-clause-answer
returns-in_err-raw-clause-answer c j given =
    let has = subst (λ (m : MarketState). MarketHas m j) (sym c.self.view_is) given in
    let same : c.from_residual.result ≡ Err c.in_err-raw.field-0.0 = search (rules, c.from_residual.ensures) in
    subst (λ (answer : Result ℕ VenueError). IsAnswer (refusal j.messages c.args.command.now) (length j.messages + 1) answer) (sym same)
    (answer_err (refusal j.messages c.args.command.now) (raw_of c.args.command.now) (length j.messages + 1) c.in_err-raw.field-0.0 (c.in_err-raw.ensures.answer j.messages j.sent has.venue))

pub invariant_of-self-2 : goal.invariant_of-self-2
invariant_of-self-2 c =
    let old : MarketState = record { venue = c.self.inside.venue; store = c.self.inside.store; shelf = c.self.inside.shelf } in
    let j : Journal = c.self.invariant.journal in
    let has : MarketHas old j = c.self.invariant.has in
    record {
      journal = record j { messages = j.messages ++ c.in_ok-raw.raw ∷ [] };
      has =
          has_accepted old c.take_ready-sequence.new.self c.push-2.new.self c.push.new.self j c.in_ok-raw.raw has (c.take_ready-sequence.ensures.unit ∙ c.prepare.ensures.unit)
          (c.take_ready-sequence.ensures.stands j.messages j.sent c.in_ok-raw.raw (c.prepare.ensures.stands j.messages j.sent has.venue) c.in_ok-raw.ensures.ready)
          c.push-2.ensures c.in_ok-push.ensures.ok;
    }

pub returns-clause-ok : goal.returns-clause-ok
returns-clause-ok c j given =
    let old : MarketState = record { venue = c.self.inside.venue; store = c.self.inside.store; shelf = c.self.inside.shelf } in
    let new : MarketState = record { venue = c.take_ready-sequence.new.self; store = c.push-2.new.self; shelf = c.push.new.self } in
    let has : MarketHas old j = subst (λ (m : MarketState). MarketHas m j) (sym c.self.view_is) given in
    let raw_is : c.in_ok-raw.raw ≡ raw_of c.args.command.now = (answer_ok (refusal j.messages c.args.command.now) (raw_of c.args.command.now) c.in_ok-raw.raw (c.in_ok-raw.ensures.answer j.messages j.sent has.venue)).1 in
    subst (λ (r : Raw). MarketHas new (record j { messages = j.messages ++ r ∷ [] })) raw_is
    (has_accepted old c.take_ready-sequence.new.self c.push-2.new.self c.push.new.self j c.in_ok-raw.raw has (c.take_ready-sequence.ensures.unit ∙ c.prepare.ensures.unit)
    (c.take_ready-sequence.ensures.stands j.messages j.sent c.in_ok-raw.raw (c.prepare.ensures.stands j.messages j.sent has.venue) c.in_ok-raw.ensures.ready)
    c.push-2.ensures c.in_ok-push.ensures.ok)

pub returns-clause-last : goal.returns-clause-last
returns-clause-last c =
    let j : Journal = c.self.invariant.journal in
    let has = c.self.invariant.has in
    let raw_is : c.in_ok-raw.raw ≡ raw_of c.args.command.now = (answer_ok (refusal j.messages c.args.command.now) (raw_of c.args.command.now) c.in_ok-raw.raw (c.in_ok-raw.ensures.answer j.messages j.sent has.venue)).1 in
    (c.take_ready-sequence.ensures.stands j.messages j.sent c.in_ok-raw.raw (c.prepare.ensures.stands j.messages j.sent has.venue) c.in_ok-raw.ensures.ready).last
    ∙ last_there j.messages c.in_ok-raw.raw ∙ ap (λ (r : Raw). Some r) raw_is
