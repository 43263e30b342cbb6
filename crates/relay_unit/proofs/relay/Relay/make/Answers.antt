use Rattle.std.proofs.Common.{[], take, refl, arith}
use Rattle.client_core.proofs.Weighing.{first_weighs}
use Rattle.relay_unit.proofs.Counted.{first_sent}
use Rattle.relay_unit.proofs.Following.{kept_nothing, nothing_sent}
use Rattle.relay_unit.proofs.relay.Relay.make.Goals as goal

pub returns-in-Ok-clause-stands : goal.returns-in-Ok-clause-stands
returns-in-Ok-clause-stands c = record {
  tracks = c.in-Ok.ensures.tracks c.args.limit [] c.in_ok-client.ensures.tracks;
  keeps = λ V venue. c.in-Ok.ensures.keeps (λ W s. take s W) V (λ s. refl) c.args.limit [] c.in_ok-client.ensures.tracks (tt, tt) (c.in_ok-client.ensures.keeps V);
  sent_is = λ V venue. first_sent c.args.limit V;
  within = omega arith;
  goes_on = refl;
}

pub returns-in-Ok-clause-heard : goal.returns-in-Ok-clause-heard
returns-in-Ok-clause-heard c = λ count.
    let none = first_weighs c.hear.new.self c.args.limit (c.in-Ok.ensures.tracks c.args.limit [] c.in_ok-client.ensures.tracks) in
    record { goes_on = refl; sends_few = omega arith }

pub returns-in-Ok-clause-empty : goal.returns-in-Ok-clause-empty
returns-in-Ok-clause-empty c =
    kept_nothing c.hear.new.self (c.in-Ok.ensures.keeps (λ W s. take s W) [] (λ s. refl) c.args.limit [] c.in_ok-client.ensures.tracks (tt, tt) (c.in_ok-client.ensures.keeps []))

pub returns-in-Ok-clause-any : goal.returns-in-Ok-clause-any
returns-in-Ok-clause-any c =
    nothing_sent _ refl
    (kept_nothing c.hear.new.self (c.in-Ok.ensures.keeps (λ W s. take s W) [] (λ s. refl) c.args.limit [] c.in_ok-client.ensures.tracks (tt, tt) (c.in_ok-client.ensures.keeps [])))
