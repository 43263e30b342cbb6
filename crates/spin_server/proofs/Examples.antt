-- Worked examples of what the Spin Server's end says, computed by the definitions. Events stand
-- newest first.
use Rattle.std.proofs.Common.{◌≡◌, ℕ, true, false, List, [], ◌∷◌, ◌++◌, refl, Option, Some, None}
use Rattle.std.specs.Prelude.{codes}
use Rattle.pitch_messages.specs.Raw.{raws_of}
use Rattle.pitch_messages.specs.Session.{session_reads, session_written}
use Rattle.pitch_model.specs.Advertising.{Operation, Accept, Advertise}
use Rattle.pitch_model.specs.Image.{image}
use Rattle.unit_packets.specs.BlockBytes.{block_bytes}
use Rattle.unit_packets.specs.Cutting.{blocks_of, blocks_by, rest_of, rest_by}
use Rattle.unit_packets.specs.Judging.{judge, messages_end}
use Rattle.unit_packets.specs.Packing.{fits_datagram, packed_on}
use Rattle.session_ends.specs.declared.role.Role.TheVariants.{SpinServer}
use Rattle.session_ends.specs.Closing.{Setup, login_status}
use Rattle.session_ends.specs.Events.{Event, Fed, Ticked, Pumped, Told}
use Rattle.session_ends.specs.Items.{stream_items}
use Rattle.spin_server.specs.Served.{Served, is_served}
use Rattle.spin_server.specs.Serving.{Spin, after_login, available_bytes, next_block, spin_left, spin_login_answer, spin_request_answer, refusal_answer, image_answer, tell_bytes, spin_sends, runs}
use Rattle.spin_server.specs.layers.ShelfViews.{retained, seen_of}

-- images through 0 to 10 were advertised, of which the last ten are served
abbrev eleven : List (List ℕ) → Served
eleven messages = record { messages = messages; advertised = 0 ∷ 1 ∷ 2 ∷ 3 ∷ 4 ∷ 5 ∷ 6 ∷ 7 ∷ 8 ∷ 9 ∷ 10 ∷ [] }

the_eleventh_is_gone : (messages : List (List ℕ)) → is_served (eleven messages) 0 ≡ false
the_eleventh_is_gone messages = refl

the_tenth_is_served : (messages : List (List ℕ)) → is_served (eleven messages) 1 ≡ true
the_tenth_is_served messages = refl

the_newest_is_served : (messages : List (List ℕ)) → is_served (eleven messages) 10 ≡ true
the_newest_is_served messages = refl

no_other_is_served : (messages : List (List ℕ)) → is_served (eleven messages) 11 ≡ false
no_other_is_served messages = refl

-- two messages come, the second of which was advertised twice
abbrev operations : List ℕ → List ℕ → List Operation
operations a b = Accept a ∷ Accept b ∷ Advertise ∷ Advertise ∷ []

a_repeat_adds_nothing : (a b : List ℕ) → seen_of (operations a b) ≡ record { messages = a ∷ b ∷ []; advertised = 2 ∷ [] }
a_repeat_adds_nothing a b = refl

what_comes_after_it_is_kept : (a b : List ℕ) → retained (operations a b ++ Accept a ∷ []) ≡ 1
what_comes_after_it_is_kept a b = refl

-- ---- Requests
-- `O` where the image is not served, also while a spin runs; then `S`; else `A`
an_image_not_served : (s : Setup) (messages : List (List ℕ)) (spin : Option Spin) → spin_request_answer s (eleven messages) 0 spin ≡ refusal_answer s 0 79 spin
an_image_not_served s messages spin = refl

one_while_a_spin_runs : (s : Setup) (messages : List (List ℕ)) (spin : Spin) → spin_request_answer s (eleven messages) 5 (Some spin) ≡ refusal_answer s 5 83 (Some spin)
one_while_a_spin_runs s messages spin = refl

an_accepted_one : (s : Setup) (messages : List (List ℕ)) → spin_request_answer s (eleven messages) 5 None ≡ image_answer s 5 (image messages 5)
an_accepted_one s messages = refl

-- the server of unit 1
abbrev one : Setup
one = record { role = SpinServer; unit = 1; accounts = record { sub = codes "0001"; user = codes "FEED"; password = codes "PITCH     " } ∷ []; in_use = false }

-- a block of unit 1 with one message, without a sequence
abbrev of_message : ℕ → List ℕ → List ℕ
of_message size message = size ∷ 0 ∷ 1 ∷ 1 ∷ 0 ∷ 0 ∷ 0 ∷ 0 ∷ message

-- a refused request promises no order
no_order_is_promised : (refusal_answer one 5 83 None).reply ≡ of_message 19 (11 ∷ 0x82 ∷ 5 ∷ 0 ∷ 0 ∷ 0 ∷ 0 ∷ 0 ∷ 0 ∷ 0 ∷ 83 ∷ [])
unfolding block_bytes session_written
no_order_is_promised = refl

-- an accepted one promises as many as are added, here one besides a Time message; what is left to
-- be sent is the block of both
abbrev two : List (List ℕ)
two = (6 ∷ 0x20 ∷ 1 ∷ 0 ∷ 0 ∷ 0 ∷ []) ∷ (3 ∷ 0x21 ∷ 7 ∷ []) ∷ []

one_order_is_promised : (image_answer one 5 two).reply ≡ of_message 19 (11 ∷ 0x82 ∷ 5 ∷ 0 ∷ 0 ∷ 0 ∷ 1 ∷ 0 ∷ 0 ∷ 0 ∷ 65 ∷ [])
unfolding block_bytes session_written
one_order_is_promised = refl

its_block_is_left : (image_answer one 5 two).knows ≡ Some (record { sequence = 5; left = (17 ∷ 0 ∷ 2 ∷ 1 ∷ 0 ∷ 0 ∷ 0 ∷ 0 ∷ 6 ∷ 0x20 ∷ 1 ∷ 0 ∷ 0 ∷ 0 ∷ 3 ∷ 0x21 ∷ 7 ∷ []) ∷ [] })
unfolding block_bytes fits_datagram packed_on
its_block_is_left = refl

-- ---- What is told
nothing_while_a_spin_runs : (s : Setup) (spin : Spin) → tell_bytes s true (Some spin) 5 ≡ []
nothing_while_a_spin_runs s spin = refl

nothing_before_a_login : (s : Setup) → tell_bytes s false None 5 ≡ []
nothing_before_a_login s = refl

the_sequence_after_it : (s : Setup) → tell_bytes s true None 5 ≡ available_bytes s (Some 5)
the_sequence_after_it s = refl

nothing_after_a_refused_login : (s : Setup) → after_login s 66 (Some 5) ≡ []
nothing_after_a_refused_login s = refl

the_newest_after_an_accepted_one : (messages : List (List ℕ)) (spin : Option Spin)
    → (spin_login_answer one 65 (eleven messages) spin).reply ≡ of_message 11 (3 ∷ 0x02 ∷ 65 ∷ []) ++ of_message 14 (6 ∷ 0x80 ∷ 10 ∷ 0 ∷ 0 ∷ 0 ∷ [])
unfolding block_bytes session_written
the_newest_after_an_accepted_one messages spin = refl

none_before_the_first : (s : Setup) → after_login s 65 None ≡ []
none_before_the_first s = refl

-- ---- The spin
its_blocks_in_their_order : (s : Setup) (a b : List ℕ) → next_block s 5 (a ∷ b ∷ []) ≡ a
its_blocks_in_their_order s a b = refl

one_block_is_left : (a b : List ℕ) → spin_left 5 (a ∷ b ∷ []) ≡ Some (record { sequence = 5; left = b ∷ [] })
one_block_is_left a b = refl

its_end_follows_them : next_block one 5 [] ≡ of_message 14 (6 ∷ 0x83 ∷ 5 ∷ 0 ∷ 0 ∷ 0 ∷ [])
unfolding block_bytes session_written
its_end_follows_them = refl

nothing_is_left_then : spin_left 5 [] ≡ None
nothing_is_left_then = refl

-- ---- A session
-- a login, and then a request for the image through 0, which has no message; at each piece there is
-- a view for its message and one for the end of its block
abbrev views : List Served
views = record { messages = []; advertised = 0 ∷ [] } ∷ record { messages = []; advertised = 0 ∷ [] } ∷ []

abbrev logged : List (Event (List Served))
logged = Fed (of_message 30 (22 ∷ 1 ∷ codes "0001FEED  PITCH     ")) views ∷ []

abbrev asked : List (Event (List Served))
asked = Fed (of_message 14 (6 ∷ 0x81 ∷ 0 ∷ 0 ∷ 0 ∷ 0 ∷ [])) views ∷ logged

a_spin_runs : runs one asked ≡ true
unfolding stream_items blocks_of blocks_by rest_of rest_by judge messages_end raws_of session_reads login_status
a_spin_runs = refl

nothing_is_told_meanwhile : spin_sends one (Told 3) asked ≡ []
unfolding stream_items blocks_of blocks_by rest_of rest_by judge messages_end raws_of session_reads login_status
nothing_is_told_meanwhile = refl

-- a session that has closed, here for five silent ticks, sends no more of it
none_runs_once_closed : runs one (Ticked ∷ Ticked ∷ Ticked ∷ Ticked ∷ Ticked ∷ Ticked ∷ asked) ≡ false
unfolding stream_items blocks_of blocks_by rest_of rest_by judge messages_end raws_of session_reads login_status
none_runs_once_closed = refl

nothing_is_sent_once_closed : spin_sends one Pumped (Ticked ∷ Ticked ∷ Ticked ∷ Ticked ∷ Ticked ∷ Ticked ∷ asked) ≡ []
unfolding stream_items blocks_of blocks_by rest_of rest_by judge messages_end raws_of session_reads login_status
nothing_is_sent_once_closed = refl
