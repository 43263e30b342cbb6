-- Worked examples of how a gap request is answered, computed by the definitions.
use Rattle.std.proofs.Common.{◌≡◌, ℕ, true, false, List, [], ◌∷◌, refl}
use Rattle.gap_store.specs.Look.{View}
use Rattle.grp_session.specs.Asking.{status_here, gap_status, spent_after}
use Rattle.grp_session.specs.Budget.{Limits, Spent, next_second}

-- five messages, the last three of which are kept
abbrev five : View
five = record { messages = (1 ∷ []) ∷ (2 ∷ []) ∷ (3 ∷ []) ∷ (4 ∷ []) ∷ (5 ∷ []) ∷ []; kept = 3 }

-- one request a second, two a minute and three in all
abbrev few : Limits
few = record { second = 1; minute = 2; day = 3 }

abbrev spent_at : ℕ → List ℕ → Spent
spent_at now accepted = record { now = now; accepted = accepted }

-- a request for so many messages from a sequence on, where nothing was accepted yet
abbrev asked : ℕ → ℕ → ℕ
asked sequence count = status_here true few five (spent_at 60 []) sequence count

-- ---- The order of the statuses
another_unit : gap_status false false few five (spent_at 60 []) 3 101 ≡ 73
another_unit = refl

no_source : status_here false few five (spent_at 60 []) 3 101 ≡ 85
unfolding status_here
no_source = refl

a_hundred_and_one : asked 3 101 ≡ 67
unfolding status_here
a_hundred_and_one = refl

a_hundred_that_are_not_there : asked 3 100 ≡ 79
unfolding status_here
a_hundred_that_are_not_there = refl

none : asked 3 0 ≡ 79
unfolding status_here
none = refl

from_0 : asked 0 1 ≡ 79
unfolding status_here
from_0 = refl

what_is_gone : asked 2 1 ≡ 79
unfolding status_here
what_is_gone = refl

all_that_is_kept : asked 3 3 ≡ 65
unfolding status_here
all_that_is_kept = refl

-- what is not there is told before a limit is
not_there_nor_free : status_here true few five (spent_at 60 (60 ∷ [])) 6 1 ≡ 79
unfolding status_here
not_there_nor_free = refl

gone_nor_free : status_here true few five (spent_at 60 (60 ∷ [])) 1 1 ≡ 79
unfolding status_here
gone_nor_free = refl

-- ---- The limits
-- what is answered at a tick where requests were accepted at others, the newest first
abbrev answered : ℕ → List ℕ → ℕ
answered now accepted = status_here true few five (spent_at now accepted) 3 1

one_a_second : answered 60 (60 ∷ []) ≡ 83
unfolding status_here
one_a_second = refl

one_in_the_next : answered 61 (60 ∷ []) ≡ 65
unfolding status_here
one_in_the_next = refl

two_a_minute : answered 119 (118 ∷ 60 ∷ []) ≡ 77
unfolding status_here
two_a_minute = refl

one_in_the_next_minute : answered 120 (119 ∷ 60 ∷ []) ≡ 65
unfolding status_here
one_in_the_next_minute = refl

three_in_all : answered 600 (120 ∷ 119 ∷ 60 ∷ []) ≡ 68
unfolding status_here
three_in_all = refl

-- the day is told before the minute, and the minute before the second
all_three : answered 60 (60 ∷ 60 ∷ 60 ∷ []) ≡ 68
unfolding status_here
all_three = refl

minute_and_second : answered 60 (60 ∷ 60 ∷ []) ≡ 77
unfolding status_here
minute_and_second = refl

-- ---- What counts
an_accepted_one_counts : spent_after 65 (spent_at 60 (59 ∷ [])) ≡ spent_at 60 (60 ∷ 59 ∷ [])
an_accepted_one_counts = refl

a_refused_one_does_not : spent_after 79 (spent_at 60 (59 ∷ [])) ≡ spent_at 60 (59 ∷ [])
a_refused_one_does_not = refl

a_second_passes : next_second (spent_at 60 (60 ∷ [])) ≡ spent_at 61 (60 ∷ [])
a_second_passes = refl
