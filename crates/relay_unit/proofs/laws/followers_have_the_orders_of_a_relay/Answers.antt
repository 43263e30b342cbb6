use Rattle.relay_unit.proofs.Followers.{followers_show, followers_exact, relays_show}
use Rattle.relay_unit.proofs.laws.followers_have_the_orders_of_a_relay.Goals as goal

pub returns-clause-step : goal.returns-clause-step
returns-clause-step c = followers_show

pub returns-clause-whole : goal.returns-clause-whole
returns-clause-whole c = relays_show

pub returns-clause-exact : goal.returns-clause-exact
returns-clause-exact c = followers_exact
