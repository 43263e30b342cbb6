-- What a client makes of what comes. No caller needs this file.
use Rattle.std.specs.Prelude.{ℕ, Bool, true, false, List, [], ◌∷◌, Option, None, Some}
use Rattle.std.specs.Prelude.{if◌then◌else◌}
use Rattle.pitch_model.specs.Asking.{ask_of}
use Rattle.pitch_model.specs.History.{Entry}
use Rattle.pitch_model.specs.declared.ask.Ask.{Ask}
use Rattle.drill_client.specs.declared.words.Word.{Word}
use Rattle.drill_client.specs.declared.words.Word.TheVariants as words
use Rattle.drill_client.specs.declared.words.Reply.{Reply}
use Rattle.drill_client.specs.declared.words.Reply.TheVariants as replies
use Rattle.drill_client.specs.layers.Answered.{is_tick, heard_with_one, with_tick}
use Rattle.unit_threads.specs.declared.ends.Request.{Request}
use Rattle.unit_threads.specs.declared.ends.Request.TheVariants.{Asked}

-- ---- Ticks
-- what the service is asked, so many datagrams having come since the last tick
abbrev pub request_of : {J R : Type 0} → Option Ask → List (Request J R)
request_of None = []
request_of (Some ask) = Asked ask ∷ []

abbrev pub tick_requests : {J R : Type 0} → ℕ → ℕ → List Entry → List (Request J R)
tick_requests H heard E = if is_tick heard then request_of (ask_of H E) else []

-- ---- Words and replies
-- a word, or a reply, is a datagram
abbrev pub is_sent : {R : Type 0} → Word R → Bool
is_sent (words.Sent datagram) = true
is_sent (words.Advertised sequence) = false
is_sent words.Last = false

abbrev pub is_again : {R : Type 0} → Reply R → Bool
is_again (replies.Gap accepted) = false
is_again (replies.Again datagram) = true
is_again (replies.Spin image) = false
is_again (replies.NoSpin sequence) = false

-- the history after something was heard; a datagram is counted
abbrev pub after_heard : Bool → ℕ → ℕ → List Entry → List Entry
after_heard datagram H heard E = if datagram then with_tick H heard E else E

-- how many datagrams came then since the last tick
abbrev pub heard_after : Bool → ℕ → ℕ
heard_after datagram heard = if datagram then heard_with_one heard else heard

-- and what the service is asked
abbrev pub asks_after : {J R : Type 0} → Bool → ℕ → ℕ → List Entry → List (Request J R)
asks_after datagram H heard E = if datagram then tick_requests H heard E else []
