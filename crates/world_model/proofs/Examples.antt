-- Worked examples of worlds, computed by the definitions. Verbs stand newest first.
use Rattle.std.proofs.Common.{◌≡◌, ℕ, Bool, true, false, List, [], ◌∷◌, ◌++◌, refl, ap, ◌∙◌, zero, suc, map, Option, Some, None}
use Rattle.std.specs.FinMap as finite
use Rattle.std.specs.List.{sum_by}
use Rattle.std.specs.Option.{option_map}
use Rattle.std.specs.Ordering.{nat_cmp}
use Rattle.std.specs.Prelude.{filter, bytes_eq, ◌==◌, ◌&&◌}
use Rattle.std.proofs.lemmas.Cmp.{nat_cmp_total}
use Rattle.pitch_fields.specs.declared.side.Side.{Side}
use Rattle.pitch_fields.specs.declared.side.Side.TheVariants.{Buy, Sell}
use Rattle.pitch_messages.specs.declared.order.Order.{Order}
use Rattle.pitch_model.proofs.Examples.{order, sold, no_orders, one_sold, no_entries}
use Rattle.pitch_model.specs.Book.{after}
use Rattle.pitch_model.specs.History.{Message}
use Rattle.pitch_model.specs.Levels.{best, best_of, level, same_side}
use Rattle.pitch_io.specs.declared.line.Line.TheVariants.{A, B, Gap}
use Rattle.pitch_text.specs.declared.command.Command.TheVariants as commands
use Rattle.pitch_text.specs.declared.verb.Session.TheVariants.{Grp, Spin}
use Rattle.pitch_text.specs.declared.verb.Verb.{Verb}
use Rattle.pitch_text.specs.declared.verb.Verb.TheVariants as verbs
use Rattle.unit_packets.specs.BlockBytes.{block_bytes}
use Rattle.unit_packets.specs.Cutting.{blocks_of, blocks_by, rest_of, rest_by}
use Rattle.unit_packets.specs.Judging.{judge, messages_end}
use Rattle.unit_packets.specs.Packing.{fits_datagram, packed_on}
use Rattle.pitch_messages.specs.Raw.{raws_of}
use Rattle.pitch_messages.specs.Reading.{reads}
use Rattle.pitch_messages.specs.Writing.{written}
use Rattle.pitch_messages.specs.Session.{session_reads, session_written}
use Rattle.pitch_model.specs.declared.ask.Ask.TheVariants as asks
use Rattle.session_ends.specs.Items.{stream_items}
use Rattle.session_ends.specs.Closing.{login_status}
use Rattle.session_ends.specs.declared.role.Role.TheVariants as roles
use Rattle.grp_session.specs.Asking.{status_here}
use Rattle.client_links.specs.Linking.{login_bytes}
use Rattle.world_model.specs.Ends.{default_limits, the_account}
use Rattle.pitch_model.specs.Reach.{reach_of, held_count}
use Rattle.pitch_model.specs.declared.status.Status.{Status}
use Rattle.pitch_model.specs.declared.status.Status.TheVariants.{Silent, Current, Behind}
use Rattle.venue_core.specs.declared.error.VenueError.TheVariants as errors
use Rattle.line_arbiter.specs.Noted.{line_count}
use Rattle.world_model.specs.Printed.{printed}
use Rattle.world_model.specs.State.{State, start}
use Rattle.world_model.specs.Verbs.{state_of, quoted}
use Rattle.world_model.specs.declared.limits.Limits.{Limits}
use Rattle.world_model.specs.declared.outcome.Outcome.{Outcome}
use Rattle.world_model.specs.declared.outcome.Outcome.TheVariants as outcome
use Rattle.world_model.specs.declared.outcome.Printed.{Printed}

-- the limits where none are said
limits_are : default_limits ≡ record { hold = 4096; kept = 65536; second = 10; minute = 100; day = 10000 }
limits_are = refl

abbrev limits : Limits
limits = record { hold = 2; kept = 65536; second = 10; minute = 100; day = 10000 }

-- what verbs print, the newest first
abbrev prints : List Verb → List Printed
prints [] = []
prints (verb ∷ before) = printed 1 limits verb (state_of 1 limits before) ∷ prints before

-- the status behind each, and whether the hold overflowed
abbrev marks : List Printed → List (Status × Bool)
marks [] = []
marks (p ∷ ps) = (p.status, p.overflow) ∷ marks ps

abbrev line : Outcome → Status → Bool → Printed
line outcome status overflow = record { outcome = outcome; status = status; overflow = overflow }

-- so many messages, each in a datagram of its own
abbrev sent : ℕ → List Verb
sent zero = []
sent (suc n) = verbs.Flush ∷ verbs.Command (commands.Time n) ∷ sent n

-- ---- A hold of two places: 1, 3, 5 and 7 come, then 6, 2, 3, 4 and 5
abbrev heard : ℕ → Verb
heard n = verbs.Deliver A n

overflow_and_all_again : marks (prints (heard 5 ∷ heard 4 ∷ heard 3 ∷ heard 2 ∷ heard 6 ∷ heard 7 ∷ heard 5 ∷ heard 3 ∷ heard 1 ∷ sent 7))
    ≡ (Current 7, false) ∷ (Behind 4 7, false) ∷ (Behind 3 7, false) ∷ (Behind 2 7, false) ∷ (Behind 1 7, false) ∷ (Behind 1 7, true) ∷ (Behind 1 5, false) ∷ (Behind 1 3, false) ∷ (Current 1, false)
    ∷ marks (prints (sent 7))
unfolding reads written block_bytes blocks_of blocks_by judge messages_end fits_datagram packed_on raws_of reach_of held_count
overflow_and_all_again = refl

-- ---- A message on both lines
twice : prints (heard 1 ∷ verbs.Deliver B 1 ∷ heard 1 ∷ verbs.Flush ∷ verbs.Command (commands.Time 0) ∷ [])
    ≡ line (outcome.Heard 1) (Current 1) false ∷ line (outcome.Heard 1) (Current 1) false ∷ line (outcome.Heard 1) (Current 1) false ∷ line (outcome.Sent 1) Silent false ∷ line (outcome.Accepted 1) Silent false ∷ []
unfolding reads written block_bytes blocks_of blocks_by judge messages_end fits_datagram packed_on raws_of reach_of held_count
twice = refl

counted_twice : (line : ℕ) → line_count A 1 (state_of 1 limits (heard 1 ∷ verbs.Deliver B 1 ∷ heard 1 ∷ verbs.Flush ∷ verbs.Command (commands.Time 0) ∷ [])).notes ≡ record { messages = 2; fresh = 1 }
unfolding reads written block_bytes blocks_of blocks_by judge messages_end fits_datagram packed_on raws_of reach_of held_count
counted_twice line = refl

-- ---- Verbs that find nothing, and the end of the session
nothing_there : prints (verbs.Command (commands.Time 0) ∷ verbs.Command (commands.EndSession 0) ∷ verbs.Rest Gap ∷ heard 2 ∷ verbs.Beat ∷ [])
    ≡ line (outcome.Refused errors.Ended) Silent false ∷ line (outcome.Accepted 1) Silent false ∷ line (outcome.Heard 0) Silent false ∷ line outcome.NoDatagram Silent false ∷ line (outcome.Sent 1) Silent false ∷ []
unfolding reads written block_bytes blocks_of blocks_by judge messages_end fits_datagram packed_on raws_of reach_of held_count
nothing_there = refl

-- a heartbeat tells of nothing before the first flush, and of the flushed behind it
beaten : map (λ (p : Printed). p.status) (prints (heard 3 ∷ verbs.Beat ∷ heard 1 ∷ verbs.Flush ∷ verbs.Command (commands.Time 0) ∷ verbs.Beat ∷ [])) ≡ Behind 0 1 ∷ Current 0 ∷ Current 0 ∷ Silent ∷ Silent ∷ Silent ∷ []
unfolding reads written block_bytes blocks_of blocks_by judge messages_end fits_datagram packed_on raws_of reach_of held_count
beaten = refl

-- ---- Sessions
-- the outcome of each, and the status behind it
abbrev ends : List Printed → List (Outcome × Status)
ends [] = []
ends (p ∷ ps) = (p.outcome, p.status) ∷ ends ps

-- what verbs of unit 7 print, which come after others, the newest first
abbrev prints_after : Limits → List Verb → List Verb → List Printed
prints_after limits before [] = []
prints_after limits before (verb ∷ verbs) = printed 7 limits verb (state_of 7 limits (verbs ++ before)) ∷ prints_after limits before verbs

-- one request a second
abbrev sparing : Limits
sparing = record { hold = 2; kept = 1; second = 1; minute = 100; day = 10000 }

-- the second of two messages came, and both ends of the session with the proxy are logged in
abbrev asking : List Verb
asking = verbs.Down Grp None ∷ verbs.Up Grp None ∷ verbs.Connect Grp ∷ heard 2 ∷ sent 2

-- the first is asked for, in two pieces, and comes on the gap line
gap_is_filled : ends (prints_after limits asking (verbs.Rest Gap ∷ verbs.Down Grp None ∷ verbs.Up Grp None ∷ verbs.Up Grp (Some 2) ∷ verbs.Up Grp (Some 16) ∷ verbs.Tick ∷ []))
    ≡ (outcome.Heard 1, Current 2) ∷ (outcome.Carried 18, Behind 0 2) ∷ (outcome.Carried 1, Behind 0 2) ∷ (outcome.TooFew 2 1, Behind 0 2) ∷ (outcome.Carried 16, Behind 0 2) ∷ (outcome.Asked (asks.Gap 1 1), Behind 0 2) ∷ []
unfolding reads written block_bytes blocks_of blocks_by judge messages_end fits_datagram packed_on raws_of reach_of held_count rest_of rest_by session_reads session_written stream_items login_status status_here
gap_is_filled = refl

-- a second later one more request is accepted
asked_in_each_second : ends (prints_after (record sparing { kept = 2 }) asking (verbs.Rest Gap ∷ verbs.Down Grp None ∷ verbs.Up Grp None ∷ verbs.Tick ∷ verbs.Down Grp None ∷ verbs.Up Grp None ∷ verbs.Tick ∷ []))
    ≡ (outcome.Heard 2, Current 2) ∷ (outcome.Carried 18, Behind 0 2) ∷ (outcome.Carried 17, Behind 0 2) ∷ (outcome.Asked (asks.Gap 1 1), Behind 0 2) ∷ (outcome.Carried 18, Behind 0 2) ∷ (outcome.Carried 17, Behind 0 2) ∷ (outcome.Asked (asks.Gap 1 1), Behind 0 2) ∷ []
unfolding reads written block_bytes blocks_of blocks_by judge messages_end fits_datagram packed_on raws_of reach_of held_count rest_of rest_by session_reads session_written stream_items login_status status_here
asked_in_each_second = refl

-- what is not kept any more is not sent
nothing_of_what_is_gone : ends (prints_after sparing asking (verbs.Rest Gap ∷ verbs.Down Grp None ∷ verbs.Up Grp None ∷ verbs.Tick ∷ []))
    ≡ (outcome.Heard 0, Behind 0 2) ∷ (outcome.Carried 18, Behind 0 2) ∷ (outcome.Carried 17, Behind 0 2) ∷ (outcome.Asked (asks.Gap 1 1), Behind 0 2) ∷ []
unfolding reads written block_bytes blocks_of blocks_by judge messages_end fits_datagram packed_on raws_of reach_of held_count rest_of rest_by session_reads session_written stream_items login_status status_here
nothing_of_what_is_gone = refl

-- nothing is carried: the link's heartbeats wait behind its login, and at the fifth silent tick it
-- is cut off
link_is_cut_by_silence : ends (prints_after limits [] (verbs.Cut Grp ∷ verbs.Tick ∷ verbs.Up Grp None ∷ verbs.Tick ∷ verbs.Tick ∷ verbs.Tick ∷ verbs.Tick ∷ verbs.Connect Grp ∷ []))
    ≡ (outcome.NotOpen, Silent) ∷ (outcome.Ticked, Silent) ∷ (outcome.Carried 54, Silent) ∷ (outcome.Ticked, Silent) ∷ (outcome.Ticked, Silent) ∷ (outcome.Ticked, Silent) ∷ (outcome.Ticked, Silent) ∷ (outcome.Opened, Silent) ∷ []
unfolding reads written block_bytes blocks_of blocks_by judge messages_end fits_datagram packed_on raws_of reach_of held_count rest_of rest_by session_reads session_written stream_items login_status status_here
link_is_cut_by_silence = refl

-- and the server hears of it at once
cut_at_the_server_too : (state_of 7 limits (verbs.Tick ∷ verbs.Tick ∷ verbs.Tick ∷ verbs.Tick ∷ verbs.Tick ∷ verbs.Connect Grp ∷ [])).venue.proxies ≡ []
unfolding reads written block_bytes blocks_of blocks_by judge messages_end fits_datagram packed_on raws_of reach_of held_count rest_of rest_by session_reads session_written stream_items login_status status_here
cut_at_the_server_too = refl

-- the link hears the server's heartbeats and lives; the server hears nothing and closes
server_closes_by_silence : ends (prints_after limits [] (verbs.Down Grp None ∷ verbs.Up Grp None ∷ verbs.Tick ∷ verbs.Down Grp None ∷ verbs.Tick ∷ verbs.Tick ∷ verbs.Tick ∷ verbs.Tick ∷ verbs.Connect Grp ∷ []))
    ≡ (outcome.Carried 0, Silent) ∷ (outcome.Carried 62, Silent) ∷ (outcome.Ticked, Silent) ∷ (outcome.Carried 32, Silent) ∷ (outcome.Ticked, Silent) ∷ (outcome.Ticked, Silent) ∷ (outcome.Ticked, Silent) ∷ (outcome.Ticked, Silent) ∷ (outcome.Opened, Silent) ∷ []
unfolding reads written block_bytes blocks_of blocks_by judge messages_end fits_datagram packed_on raws_of reach_of held_count rest_of rest_by session_reads session_written stream_items login_status status_here
server_closes_by_silence = refl

-- the same of the session with the Spin Server, which tells of each advertise, a repeat too
told_again : ends (prints_after limits [] (verbs.Up Spin None ∷ verbs.Tick ∷ verbs.Down Spin None ∷ verbs.Tick ∷ verbs.Down Spin (Some 25) ∷ verbs.Advertise ∷ verbs.Advertise ∷ verbs.Up Spin None ∷ verbs.Connect Spin ∷ []))
    ≡ (outcome.Carried 8, Current 0) ∷ (outcome.Ticked, Current 0) ∷ (outcome.Carried 14, Current 0) ∷ (outcome.Ticked, Current 0) ∷ (outcome.Carried 25, Current 0) ∷ (outcome.Advertised 0, Silent) ∷ (outcome.Advertised 0, Silent) ∷ (outcome.Carried 30, Silent) ∷ (outcome.Opened, Silent) ∷ []
unfolding reads written block_bytes blocks_of blocks_by judge messages_end fits_datagram packed_on raws_of reach_of held_count rest_of rest_by session_reads session_written stream_items login_status status_here
told_again = refl

-- a cut of the proxy is heard: what was asked is owed no more, and nothing is asked of a proxy that is not up
owed_no_more : ends (prints_after limits asking (verbs.Tick ∷ verbs.Down Grp None ∷ verbs.Up Grp None ∷ verbs.Tick ∷ verbs.Connect Grp ∷ verbs.Cut Grp ∷ verbs.Tick ∷ []))
    ≡ (outcome.Asked (asks.Gap 1 1), Behind 0 2) ∷ (outcome.Carried 19, Behind 0 2) ∷ (outcome.Carried 30, Behind 0 2) ∷ (outcome.Ticked, Behind 0 2) ∷ (outcome.Opened, Behind 0 2) ∷ (outcome.Cut, Behind 0 2) ∷ (outcome.Asked (asks.Gap 1 1), Behind 0 2) ∷ []
unfolding reads written block_bytes blocks_of blocks_by judge messages_end fits_datagram packed_on raws_of reach_of held_count rest_of rest_by session_reads session_written stream_items login_status status_here
owed_no_more = refl

-- ---- The rest of a line
-- what comes after the greatest number that was heard, and not after the last
rest_after_the_greatest : ends (prints_after limits (sent 3) (verbs.Rest A ∷ heard 1 ∷ heard 2 ∷ [])) ≡ (outcome.Heard 1, Current 3) ∷ (outcome.Heard 1, Current 2) ∷ (outcome.Heard 1, Behind 0 2) ∷ []
unfolding reads written block_bytes blocks_of blocks_by judge messages_end fits_datagram packed_on raws_of reach_of held_count
rest_after_the_greatest = refl

-- ---- The login
-- as both links of unit 1 send it
login_of_the_proxy : login_bytes roles.GapLink 0 the_account
    ≡ 0x1e ∷ 0 ∷ 1 ∷ 0 ∷ 0 ∷ 0 ∷ 0 ∷ 0 ∷ 0x16 ∷ 1 ∷ 0x30 ∷ 0x30 ∷ 0x30 ∷ 0x31 ∷ 0x46 ∷ 0x45 ∷ 0x45 ∷ 0x44 ∷ 0x20 ∷ 0x20 ∷ 0x50 ∷ 0x49 ∷ 0x54 ∷ 0x43 ∷ 0x48 ∷ 0x20 ∷ 0x20 ∷ 0x20 ∷ 0x20 ∷ 0x20 ∷ []
unfolding block_bytes session_written
login_of_the_proxy = refl

-- ---- A quote
-- the client heard the venue's one message, which adds an order to buy 100 IBM at 10.0000
abbrev buying : State
buying = record start { venue = record start.venue { messages = order ∷ [] }; client = record start.client { heard = Message 1 order ∷ [] } }

one_entry : finite.entries one_sold ≡ (5, sold) ∷ []
one_entry = finite.entries-insert nat_cmp_total no_orders 5 sold ∙ ap (finite.put nat_cmp 5 sold) (no_entries no_orders (finite.len-empty nat_cmp Order))

-- the best price of such entries on a side
abbrev best_in : Side → List (ℕ × Order) → Option (ℕ × ℕ)
best_in side entries =
    let orders = filter (λ (o : Order). bytes_eq sold.symbol o.symbol && same_side side o.side) (map (λ (e : ℕ × Order). e.1) entries) in
    option_map (λ price. (price, sum_by (λ (o : Order). o.quantity) (filter (λ (o : Order). price == o.price) orders))) (best_of side (map (λ (o : Order). o.price) orders))

-- it is the bid, and there is no offer
an_order_to_buy_is_the_bid : (quoted limits sold.symbol buying).outcome ≡ outcome.Quoted (Some (100000, 100)) None
unfolding after reads reach_of held_count best level
an_order_to_buy_is_the_bid = ap (λ (es : List (ℕ × Order)). outcome.Quoted (best_in Buy es) (best_in Sell es)) one_entry
