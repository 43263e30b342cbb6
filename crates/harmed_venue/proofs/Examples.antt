-- Worked examples of what calls are made to. The draws of line 0 are those of SplitMix64 from
-- 1234567 on: 6457827717110365317, 3203168211198807973, 9817491932198370423, 4593380528125082431
-- and 16408922859458223821.
use Rattle.std.proofs.Common.{◌≡◌, ℕ, true, false, [], ◌∷◌, None, Some, refl}
use Rattle.live_net.specs.declared.live.WaitEnd.TheVariants as wait_end
use Rattle.live_net.specs.declared.live.PeerTaken.TheVariants as taken
use Rattle.live_net.specs.declared.live.PeerPut.TheVariants as put
use Rattle.venue_net.specs.VenueCalls.{VenueCall, Wait, Send, Accept, Take, Put, Close}
use Rattle.harmed_venue.specs.declared.harm.Harm.{Harm}
use Rattle.harmed_venue.specs.declared.harm.Shares.{Shares}
use Rattle.harmed_venue.specs.Harmed.{harmed}
use Rattle.harmed_venue.specs.Lines.{drawn}

abbrev of_kinds : ℕ → ℕ → ℕ → Shares
of_kinds a b gap = record { a = a; b = b; gap = gap }

abbrev none : Shares
none = of_kinds 0 0 0

-- what is done to line A, of three lines; and after how many seconds connections at two places are
-- cut
abbrev on_a : (lose repeat swap : ℕ) → Harm
on_a lose repeat swap = record { number = 1234567; lose = of_kinds lose 0 0; repeat = of_kinds repeat 0 0; swap = of_kinds swap 0 0; cut = None; lines = 3; places = 2 }

abbrev cutting : ℕ → Harm
cutting every = record { number = 1; lose = none; repeat = none; swap = none; cut = Some every; lines = 3; places = 2 }

abbrev sent : ℕ → VenueCall
sent number = Send 0 (number ∷ [])

abbrev second : VenueCall
second = Wait false wait_end.Second

-- ---- Draws
-- of the draws 17, 73, 23, 31 and 21 of a hundred the first is below 18
one_is_lost : harmed (on_a 18 0 0) (sent 5 ∷ sent 4 ∷ sent 3 ∷ sent 2 ∷ sent 1 ∷ []) ≡ sent 5 ∷ sent 4 ∷ sent 3 ∷ sent 2 ∷ []
unfolding drawn
one_is_lost = refl

-- and none below 17
none_is_lost : harmed (on_a 17 0 0) (sent 1 ∷ []) ≡ sent 1 ∷ []
unfolding drawn
none_is_lost = refl

-- by the next two digits, 53, 79, 04, 24 and 38, the third and the fourth go out twice
two_are_repeated : harmed (on_a 0 25 0) (sent 5 ∷ sent 4 ∷ sent 3 ∷ sent 2 ∷ sent 1 ∷ []) ≡ sent 5 ∷ sent 4 ∷ sent 4 ∷ sent 3 ∷ sent 3 ∷ sent 2 ∷ sent 1 ∷ []
unfolding drawn
two_are_repeated = refl

-- by the next two, 36, 80, 37, 08 and 22, the fourth goes out behind the fifth
one_is_late : harmed (on_a 0 0 9) (sent 5 ∷ sent 4 ∷ sent 3 ∷ sent 2 ∷ sent 1 ∷ []) ≡ sent 4 ∷ sent 5 ∷ sent 3 ∷ sent 2 ∷ sent 1 ∷ []
unfolding drawn
one_is_late = refl

-- all three at once: the first is lost, the third goes out twice, the fourth is late
all_at_once : harmed (on_a 18 25 9) (sent 5 ∷ sent 4 ∷ sent 3 ∷ sent 2 ∷ sent 1 ∷ []) ≡ sent 4 ∷ sent 5 ∷ sent 3 ∷ sent 3 ∷ sent 2 ∷ []
unfolding drawn
all_at_once = refl

-- while one is held back no other is
no_second_one : harmed (on_a 0 0 100) (sent 3 ∷ sent 2 ∷ sent 1 ∷ []) ≡ sent 1 ∷ sent 2 ∷ []
unfolding drawn
no_second_one = refl

-- it goes out when a second passes, and at the end, and not when a wait ends otherwise
a_second_lets_it_go : harmed (on_a 0 0 100) (second ∷ sent 1 ∷ []) ≡ sent 1 ∷ second ∷ []
unfolding drawn
a_second_lets_it_go = refl

the_end_lets_it_go : harmed (on_a 0 0 100) (Wait true wait_end.Over ∷ sent 1 ∷ []) ≡ sent 1 ∷ Wait true wait_end.Over ∷ []
unfolding drawn
the_end_lets_it_go = refl

it_is_still_held : harmed (on_a 0 0 100) (Wait false wait_end.Ready ∷ sent 1 ∷ []) ≡ Wait false wait_end.Ready ∷ []
unfolding drawn
it_is_still_held = refl

-- it goes out once
it_goes_out_once : harmed (on_a 0 0 100) (second ∷ second ∷ sent 1 ∷ []) ≡ second ∷ sent 1 ∷ second ∷ []
unfolding drawn
it_goes_out_once = refl

-- ---- Lines
-- B and the gap line have shares of their own, and a line that isn't known has none
others_are_left_alone : harmed (on_a 100 0 0) (Send 3 (7 ∷ []) ∷ Send 2 (7 ∷ []) ∷ Send 1 (7 ∷ []) ∷ Send 0 (7 ∷ []) ∷ []) ≡ Send 3 (7 ∷ []) ∷ Send 2 (7 ∷ []) ∷ Send 1 (7 ∷ []) ∷ []
unfolding drawn
others_are_left_alone = refl

each_kind_has_its_share : harmed (record (on_a 0 0 0) { lose = of_kinds 0 100 0; repeat = of_kinds 0 0 100 }) (Send 2 (7 ∷ []) ∷ Send 1 (7 ∷ []) ∷ Send 0 (7 ∷ []) ∷ []) ≡ Send 2 (7 ∷ []) ∷ Send 2 (7 ∷ []) ∷ Send 0 (7 ∷ []) ∷ []
unfolding drawn
each_kind_has_its_share = refl

-- ---- Cuts
-- two seconds after the start the connection at place 1 is closed when it is asked next
it_is_cut : harmed (cutting 2) (Take 1 4 [] taken.Ended ∷ second ∷ second ∷ Accept 1 true ∷ []) ≡ Close 1 ∷ second ∷ second ∷ Accept 1 true ∷ []
it_is_cut = refl

by_a_put_too : harmed (cutting 2) (Put 1 (5 ∷ []) put.Ended ∷ second ∷ second ∷ Accept 1 true ∷ []) ≡ Close 1 ∷ second ∷ second ∷ Accept 1 true ∷ []
by_a_put_too = refl

not_before : harmed (cutting 2) (Take 1 4 [] taken.Quiet ∷ Wait false wait_end.Ready ∷ second ∷ Accept 1 true ∷ []) ≡ Take 1 4 [] taken.Quiet ∷ Wait false wait_end.Ready ∷ second ∷ Accept 1 true ∷ []
not_before = refl

-- that is told once, and of one that was let in since not at all
it_is_told_once : harmed (cutting 1) (Take 1 4 [] taken.Ended ∷ Take 1 4 [] taken.Ended ∷ second ∷ []) ≡ Take 1 4 [] taken.Ended ∷ Close 1 ∷ second ∷ []
it_is_told_once = refl

the_next_one_stays : harmed (cutting 1) (Take 1 4 [] taken.Quiet ∷ Accept 1 true ∷ second ∷ []) ≡ Take 1 4 [] taken.Quiet ∷ Accept 1 true ∷ second ∷ []
the_next_one_stays = refl

-- it comes again after two more seconds, and not after one
it_comes_again : harmed (cutting 2) (Take 0 4 [] taken.Ended ∷ second ∷ second ∷ Accept 0 true ∷ second ∷ second ∷ []) ≡ Close 0 ∷ second ∷ second ∷ Accept 0 true ∷ second ∷ second ∷ []
it_comes_again = refl

not_at_once : harmed (cutting 2) (Take 0 4 [] taken.Quiet ∷ second ∷ Accept 0 true ∷ second ∷ second ∷ []) ≡ Take 0 4 [] taken.Quiet ∷ second ∷ Accept 0 true ∷ second ∷ second ∷ []
not_at_once = refl
