-- Worked examples of when a drill advertises.
use Rattle.std.proofs.Common.{◌≡◌, true, false, refl}
use Rattle.drill_client.specs.layers.Played.{is_round}

after_each_thousandth : is_round 2000 3500 ≡ true
after_each_thousandth = refl

not_before_it : is_round 1999 3500 ≡ false
not_before_it = refl

after_the_last : is_round 3500 3500 ≡ true
after_the_last = refl
