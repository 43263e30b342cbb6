-- Worked examples of rounds with the proxy, computed by the definitions. Verbs stand newest first.
use Rattle.std.proofs.Common.{◌≡◌, ℕ, List, [], ◌∷◌, refl, zero, suc, map}
use Rattle.pitch_io.specs.declared.line.Line.TheVariants.{A}
use Rattle.pitch_text.specs.declared.command.Command.TheVariants as commands
use Rattle.pitch_text.specs.declared.verb.Verb.{Verb}
use Rattle.pitch_text.specs.declared.verb.Verb.TheVariants as verbs
use Rattle.pitch_messages.specs.Raw.{raws_of}
use Rattle.pitch_messages.specs.Reading.{reads}
use Rattle.pitch_messages.specs.Writing.{written}
use Rattle.pitch_messages.specs.Session.{session_reads, session_written}
use Rattle.unit_packets.specs.BlockBytes.{block_bytes}
use Rattle.unit_packets.specs.Cutting.{blocks_of, blocks_by, rest_of, rest_by}
use Rattle.unit_packets.specs.Judging.{judge, messages_end}
use Rattle.unit_packets.specs.Packing.{fits_datagram, packed_on}
use Rattle.pitch_model.specs.History.{Entry, Message, Next}
use Rattle.pitch_model.specs.Reach.{reach_of, held_count}
use Rattle.pitch_model.specs.Status.{status_of}
use Rattle.pitch_model.specs.declared.status.Status.TheVariants.{Current, Behind}
use Rattle.session_ends.specs.Items.{stream_items}
use Rattle.session_ends.specs.Closing.{login_status}
use Rattle.grp_session.specs.Asking.{status_here}
use Rattle.world_model.specs.declared.limits.Limits.{Limits}
use Rattle.world_laws.specs.Rounds.{state_after, missing_runs, rounds_for, rounds_needed}

-- ---- How many rounds
-- a run of 100 takes one round, of 101 two, of 250 three
whole_hundred : rounds_for 100 ≡ 1
whole_hundred = refl

one_above : rounds_for 101 ≡ 2
one_above = refl

three_parts : rounds_for 250 ≡ 3
three_parts = refl

-- of 9 messages 1, 4 and 8 came, and a heartbeat told of 9: missing are 2 and 3, 5 to 7, and 9
gaps : List Entry
gaps = Next 10 ∷ Message 8 [] ∷ Message 4 [] ∷ Message 1 [] ∷ []

three_runs : missing_runs 5 gaps ≡ 2 ∷ 3 ∷ 1 ∷ []
unfolding gaps reach_of held_count
three_runs = refl

three_rounds : rounds_needed 5 gaps ≡ 3
unfolding gaps reach_of held_count
three_rounds = refl

-- ---- A world in which 1, 3 and 5 of five messages came, each in a datagram of its own
abbrev limits : Limits
limits = record { hold = 4; kept = 65536; second = 1; minute = 100; day = 10000 }

abbrev sent : ℕ → List Verb
sent zero = []
sent (suc n) = verbs.Flush ∷ verbs.Command (commands.Time n) ∷ sent n

abbrev odd : List Verb
odd = verbs.Deliver A 5 ∷ verbs.Deliver A 3 ∷ verbs.Deliver A 1 ∷ sent 5

-- two runs of one message each: two rounds
one_by_one : map (λ n. status_of 4 (state_after 7 limits odd n).client.heard) (0 ∷ 1 ∷ 2 ∷ []) ≡ Behind 1 5 ∷ Behind 3 5 ∷ Current 5 ∷ []
unfolding reads written block_bytes blocks_of blocks_by judge messages_end fits_datagram packed_on raws_of reach_of held_count rest_of rest_by session_reads session_written stream_items login_status status_here
one_by_one = refl

two_needed : rounds_needed 4 (state_after 7 limits odd 0).client.heard ≡ 2
unfolding reads written block_bytes blocks_of blocks_by judge messages_end fits_datagram packed_on raws_of reach_of held_count rest_of rest_by session_reads session_written stream_items login_status status_here
two_needed = refl
