-- Worked examples of what is due and of what is counted.
use Rattle.std.proofs.Common.{◌≡◌, ℕ, false, true, [], ◌∷◌, List, refl}
use Rattle.pitch_messages.specs.Raw.{raws_of}
use Rattle.unit_packets.specs.Cutting.{blocks_by, blocks_of, rest_by, rest_of}
use Rattle.unit_packets.specs.Judging.{judge, messages_end}
use Rattle.live_net.specs.LineCalls.{LineCall, Wait, Receive}
use Rattle.live_net.specs.declared.net.Woken.TheVariants as woken
use Rattle.live_net.specs.declared.net.Received.TheVariants as received
use Rattle.live_listen.specs.Counting.{counts_of}
use Rattle.live_listen.specs.Due.{AreDue}
use Rattle.live_listen.specs.Heard.{datagrams_of, is_listened}
use Rattle.live_listen.specs.Listening.{before_wait}

-- a run over two lines, newest first: line 0 had a datagram, line 1 none, and then the wait was over
abbrev pub a_run : List LineCall
a_run =
    Wait false woken.Over ∷ Receive 1 65536 [] received.Quiet ∷ Receive 0 65536 [] received.Quiet
    ∷ Receive 0 65536 (7 ∷ []) (received.Got 1) ∷ Wait false woken.Ready ∷ []

pub each_call_is_due : AreDue 2 a_run
each_call_is_due = (refl, (refl, (refl, (refl, (refl, tt)))))

-- line 0 had two datagrams, line 1 one, and then a wait failed: they are told in the order in which
-- they came, the oldest first
abbrev three_came : List LineCall
three_came =
    Wait false woken.Failed ∷ Receive 1 65536 [] received.Quiet ∷ Receive 1 65536 (9 ∷ []) (received.Got 1)
    ∷ Receive 0 65536 [] received.Quiet ∷ Receive 0 65536 (8 ∷ []) (received.Got 1)
    ∷ Receive 0 65536 (7 ∷ []) (received.Got 1) ∷ Wait false woken.Ready ∷ []

pub in_their_order : datagrams_of three_came ≡ (7 ∷ []) ∷ (8 ∷ []) ∷ (9 ∷ []) ∷ []
in_their_order = refl

-- of two datagrams one came before the last wait
abbrev waited : List LineCall
waited = Receive 0 65536 (8 ∷ []) (received.Got 1) ∷ Wait false woken.Ready ∷ Receive 0 65536 (7 ∷ []) (received.Got 1) ∷ Wait false woken.Ready ∷ []

pub came_before_the_wait : datagrams_of (before_wait waited) ≡ (7 ∷ []) ∷ []
came_before_the_wait = refl

-- two heartbeats of unit 1 with a byte behind them, one of unit 2, and a datagram without bytes
abbrev with_a_byte : List ℕ
with_a_byte = 8 ∷ 0 ∷ 0 ∷ 1 ∷ 2 ∷ 0 ∷ 0 ∷ 0 ∷ 8 ∷ 0 ∷ 0 ∷ 1 ∷ 2 ∷ 0 ∷ 0 ∷ 0 ∷ 255 ∷ []

abbrev of_another : List ℕ
of_another = 8 ∷ 0 ∷ 0 ∷ 2 ∷ 1 ∷ 0 ∷ 0 ∷ 0 ∷ []

three_datagrams : counts_of (1 ∷ []) (with_a_byte ∷ [] ∷ of_another ∷ []) ≡ record { datagrams = 3; faulty = 2; blocks = 2; stray = 1 }
unfolding blocks_of blocks_by rest_of rest_by judge messages_end raws_of
three_datagrams = refl

-- where no unit is named, each is listened to; else those that are
every_unit : is_listened [] 7 ≡ true
every_unit = refl

a_named_unit : is_listened (1 ∷ 7 ∷ []) 7 ≡ true
a_named_unit = refl

another_unit : is_listened (1 ∷ 7 ∷ []) 2 ≡ false
another_unit = refl
