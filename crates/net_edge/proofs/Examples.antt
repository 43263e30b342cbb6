-- A run over a plan without messages: ten turns in which nothing comes but, in the last, the
-- heartbeat on line A. And runs that break off at their first call.
use Rattle.std.proofs.Common.{◌≡◌, ℕ, zero, suc, ◌+◌, ◌⊎◌, Bool, true, false, inl, inr, List, [], ◌∷◌, length, map, refl, sym, ap, arith, lit<, lit≤}
use Rattle.std.proofs.lemmas.Bool.{false≢true}
use Rattle.std.specs.Prelude.{replicate}
use Rattle.pitch_io.specs.declared.line.Line.TheVariants.{A, B, Gap}
use Rattle.pitch_io.specs.declared.net.LinkEnd.TheVariants.{GrpClient, GrpServer, SpinClient, SpinServer}
use Rattle.pitch_io.specs.declared.net.NetDone.TheVariants as done
use Rattle.pitch_io.specs.declared.net.NetTaken.TheVariants as taken
use Rattle.pitch_io.specs.Nets.{Begin, Send, Next, Take}
use Rattle.unit_packets.specs.BlockBytes.{block_bytes}
use Rattle.pitch_model.specs.declared.status.Status.{Status}
use Rattle.pitch_model.specs.declared.status.Status.TheVariants.{Silent, Current, Behind}
use Rattle.session_ends.specs.Events.{Ticked}
use Rattle.pitch_messages.specs.Raw.{raws_of}
use Rattle.unit_packets.specs.Cutting.{blocks_of, blocks_by}
use Rattle.unit_packets.specs.Judging.{judge, messages_end}
use Rattle.unit_packets.specs.Blocks.{Block}
use Rattle.sending_end.specs.Waiting.{of_unit}
use Rattle.grp_session.specs.Serving.{Source}
use Rattle.venue_end.specs.Sessions.{Session}
use Rattle.net_edge.specs.Acting.{is_group_open, scene_of}
use Rattle.net_edge.specs.Breaking.{BreaksOff}
use Rattle.net_edge.specs.Demo.{IsLast}
use Rattle.net_edge.specs.Scene.{Scene, first_scene}
use Rattle.venue_core.specs.Plan.{plan}
use Rattle.net_edge.specs.Due.{Setting, IsDuePiece, beat, messages, ticks}
use Rattle.net_edge.specs.Steps.{Step, Did, Beat, Turn}
use Rattle.net_edge.specs.Turns.{client_status}
use Rattle.net_edge.specs.declared.error.DemoError.TheVariants as errors

s : Setting
s = record { number = 0; count = 0 }

heartbeat : List ℕ
heartbeat = 8 ∷ 0 ∷ 0 ∷ 1 ∷ 1 ∷ 0 ∷ 0 ∷ 0 ∷ []

-- nothing comes to an end, or on a line
served : List Step → List Step
served run = Did (Take SpinServer 65535 [] taken.Quiet) ∷ Did (Take GrpServer 65535 [] taken.Quiet) ∷ run

heard : List Step → List Step
heard run = Did (Take SpinClient 65535 [] taken.Quiet) ∷ Did (Take GrpClient 65535 [] taken.Quiet) ∷ Did (Next Gap 65535 [] taken.Quiet) ∷ Did (Next B 65535 [] taken.Quiet) ∷ Did (Next A 65535 [] taken.Quiet) ∷ run

-- so many quiet turns, after each of which another begins
quiet_turns : ℕ → List Step
quiet_turns zero = Did (Begin done.Done) ∷ []
quiet_turns (suc n) = Turn ∷ heard (served (quiet_turns n))

run : List Step
run = heard (Did (Next A 65535 heartbeat (taken.Got 8)) ∷ served (Beat heartbeat done.Done ∷ Did (Send A heartbeat done.Done) ∷ quiet_turns 9))

turn_is : (scene_of s run).turn ≡ 10
unfolding s heartbeat served heard quiet_turns run blocks_of blocks_by judge messages_end raws_of
turn_is = refl

beat_is : beat s 10 ≡ heartbeat
unfolding s heartbeat block_bytes
beat_is = refl

advertised_is : (scene_of s run).world.venue.advertised ≡ 0 ∷ []
unfolding s heartbeat served heard quiet_turns run blocks_of blocks_by judge messages_end raws_of
advertised_is = refl

ticked_is : (scene_of s run).world.venue.spent.now ≡ ticks 10
unfolding s heartbeat served heard quiet_turns run blocks_of blocks_by judge messages_end raws_of
ticked_is = refl

-- the proxy ticked
proxy_is : map (λ (k : Session Source). k.happened) (scene_of s run).world.venue.proxies ≡ (Ticked ∷ []) ∷ []
unfolding s heartbeat served heard quiet_turns run blocks_of blocks_by judge messages_end raws_of
proxy_is = refl

silent_before : client_status (scene_of s (quiet_turns 9)) ≡ Silent
unfolding s served heard quiet_turns
silent_before = refl

-- ---- Breaking off
-- with a call that the net failed
at_a_failure : BreaksOff s errors.NetFault (Next A 65535 [] taken.Failed ∷ []) (scene_of s [])
at_a_failure = (tt, (refl, refl))

-- not with one that it did well, nor with one that has less room than a run's
not_at_a_quiet_line :
    BreaksOff s errors.NetFault (Next A 65535 [] taken.Quiet ∷ []) (scene_of s []) → ⊥
not_at_a_quiet_line broke = broke.0

not_with_less_room : BreaksOff s errors.NetFault (Next A 16 [] taken.Failed ∷ []) (scene_of s []) → ⊥
not_with_less_room broke = absurd (omega (arith, broke.1.0))

-- with no call where memory ran out
not_with_a_call :
    BreaksOff s errors.OutOfMemory (Next A 65535 [] taken.Failed ∷ []) (scene_of s []) → ⊥
not_with_a_call broke = broke

-- ---- What may be sent
-- where no message was accepted, no heartbeat that tells of message 2
later_heartbeat : List ℕ
later_heartbeat = 8 ∷ 0 ∷ 0 ∷ 1 ∷ 3 ∷ 0 ∷ 0 ∷ 0 ∷ []

none : messages s 1 ≡ []
unfolding s plan
none = refl

not_of_a_later_message : IsDuePiece s 1 later_heartbeat → ⊥
unfolding s later_heartbeat blocks_of blocks_by judge messages_end raws_of
not_of_a_later_message piece =
    absurd (omega (arith, piece.blocks.0.within, ap (λ (ms : List (List ℕ)). length ms) none))

-- ---- The last turn
-- nothing was heard up to a turn
abbrev silent_at : ℕ → Scene
silent_at turn = record (first_scene s) { turn = turn }

abbrev is_silent : Status → Bool
is_silent Silent = true
is_silent (Current n) = false
is_silent (Behind n top) = false

-- a demo of no messages whose client is silent ends with turn 200, and not before
not_before_200 : IsLast s (silent_at 199) → ⊥
unfolding s
not_before_200 last = by last.last
  where
    by : (client_status (silent_at 199) ≡ Current 0) ⊎ (199 ≡ 0 + 200) → ⊥
    by (inl current) = absurd (false≢true (sym (ap is_silent current)))
    by (inr turn) = absurd (omega (arith, turn))

with_200 : IsLast s (silent_at 200)
unfolding s
with_200 = record { above = lit< tt; within = lit≤ tt; last = inr refl }

-- ---- Calls of a turn
a_hundredth_call_may_come : is_group_open (replicate 99 (taken.Got 1)) ≡ true
a_hundredth_call_may_come = refl

no_other_behind_it : is_group_open (replicate 100 (taken.Got 1)) ≡ false
no_other_behind_it = refl

none_behind_an_end : is_group_open (taken.End ∷ taken.Got 1 ∷ []) ≡ false
none_behind_an_end = refl

-- ---- Blocks of another unit
abbrev next_of : ℕ → Block
next_of unit = record { unit = unit; sequence = 1; raws = [] }

they_are_passed_over : of_unit 1 (next_of 2 ∷ next_of 1 ∷ next_of 0 ∷ []) ≡ next_of 1 ∷ []
they_are_passed_over = refl
