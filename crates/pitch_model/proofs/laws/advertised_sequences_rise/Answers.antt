use Rattle.pitch_model.proofs.Advertising.{advertised_rise, advertised_within, newest_is_advertised, newest_repeats, ten_at_most}
use Rattle.pitch_model.proofs.laws.advertised_sequences_rise.Goals as goal

pub returns-clause-rise : goal.returns-clause-rise
returns-clause-rise c = advertised_rise

pub returns-clause-within : goal.returns-clause-within
returns-clause-within c = advertised_within

pub returns-clause-ten : goal.returns-clause-ten
returns-clause-ten c = ten_at_most

pub returns-clause-repeat : goal.returns-clause-repeat
returns-clause-repeat c = newest_repeats

pub returns-clause-newest : goal.returns-clause-newest
returns-clause-newest c = newest_is_advertised
