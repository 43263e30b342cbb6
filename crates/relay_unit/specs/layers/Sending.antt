-- What the relay's own functions tell one another. No public clause needs this file.
use Rattle.std.specs.Prelude.{◌≡◌, ◌≢◌, ◌+◌, ◌≤◌, ℕ, List, ◌++◌, fold, length, Option, Some, None}
use Rattle.unit_packets.specs.Blocks.{Block}
use Rattle.unit_packets.specs.Packing.{packed}
use Rattle.pitch_model.specs.Book.{Book, after}
use Rattle.pitch_model.specs.History.{Entry, Raw}
use Rattle.heard_items.specs.declared.item.Item.{Item}
use Rattle.heard_items.specs.Heard.{heard}
use Rattle.heard_items.specs.Changes.{IsItem, image_end}
use Rattle.heard_items.specs.declared.change.ImageEnd.TheVariants as end
use Rattle.client_core.specs.Tracks.{Tracks, Keeps}
use Rattle.client_core.specs.Client.{current_book}
use Rattle.client_core.specs.Weight.{weight, told_by}
use Rattle.client_core.specs.declared.client.UnitClient.{UnitClient}
use Rattle.relay_unit.specs.Hearing.{heard_unsequenced, relay_heard}
use Rattle.relay_unit.specs.layers.Changing.{raw_end}
use Rattle.relay_unit.specs.Following.{Sends, HasSent, SendsMore}
use Rattle.relay_unit.specs.Relayed.{relayed, relayed_datagrams}
use Rattle.client_core.specs.Venues.{IsVenue}
use Rattle.relay_unit.specs.Stands.{Stands, relay_unit_of}
use Rattle.relay_unit.specs.declared.relay.Relay.{Relay}

-- where `sent` is the end of what is sent up to E, `sent'` is that of what is sent up to E' behind
-- the same beginning
abbrev pub SendsOn : ℕ → List Raw → List Entry → List Entry → List Raw → List Raw → Type 0
SendsOn H V E E' sent sent' =
    (before : List Raw) → relayed H V E ≡ before ++ sent → relayed H V E' ≡ before ++ sent'

-- ---- What a client and the messages so far are, once something was heard
-- wherever that is honest, it keeps the venue's messages
abbrev pub KeepsOn : UnitClient → UnitClient → (List Entry → List Entry) → Type 0
KeepsOn c c' hears =
    (V : List Raw) (H : ℕ) (E : List Entry) → Tracks c H E → IsVenue V (hears E)
    → Keeps c V → Keeps c' V

-- and what is sent is what is relayed
abbrev pub SendsRelayed :
    UnitClient → (List Entry → List Entry) → (sent sent' : List Raw) → Type 0
SendsRelayed c hears sent sent' =
    (V : List Raw) (H : ℕ) (E : List Entry) → Tracks c H E → IsVenue V (hears E)
    → Keeps c V → SendsOn H V E (hears E) sent sent'

-- no more is sent, or left to send, than was before and so many messages
abbrev pub WeighsNoMore : (c c' : UnitClient) → (sent sent' : List Raw) → ℕ → Type 0
WeighsNoMore c c' sent sent' count =
    length sent' + weight c' ≤ (length sent + weight c) + count

-- ---- The item of an unsequenced message
pub record SaysAs (raw : Raw) (item : Item) : Type 0 where
  pub fits : IsItem item
  pub heard_is : (E : List Entry) → heard item E ≡ heard_unsequenced raw E
  pub end_is : (H : ℕ) (E : List Entry) → image_end H E item ≡ raw_end H E raw
  pub one : told_by item ≤ 1

pub record SaysNothing (raw : Raw) : Type 0 where
  pub heard_is : (E : List Entry) → heard_unsequenced raw E ≡ E
  pub end_is : (H : ℕ) (E : List Entry) → raw_end H E raw ≡ end.NoImage

abbrev pub IsItemOfRaw : Raw → Option Item → Type 0
IsItemOfRaw raw None = SaysNothing raw
IsItemOfRaw raw (Some item) = SaysAs raw item

-- ---- Any input, honest or not
-- behind what was sent so far stands what is sent as the followed book becomes another
pub record SendsFor (book book' : Book) (sent sent' : List Raw) : Type 0 where
  pub more : List Raw
  pub appended : sent' ≡ sent ++ more
  pub sends : Sends book more book'

-- these are messages that were applied, and nothing else
pub record SendsApplied (book book' : Book) (sent sent' : List Raw) : Type 0 where
  pub more : List Raw
  pub appended : sent' ≡ sent ++ more
  pub applied : book' ≡ fold after book more

-- the same of what clients follow
abbrev pub SendsAny : (c c' : UnitClient) → (sent sent' : List Raw) → Type 0
SendsAny c c' sent sent' = SendsFor (current_book c) (current_book c') sent sent'

-- and of a block with a sequence
abbrev pub SendsLine : Block → (c c' : UnitClient) → (sent sent' : List Raw) → Type 0
SendsLine block c c' sent sent' =
    block.sequence ≢ 0 → SendsApplied (current_book c) (current_book c') sent sent'

-- ---- What a relay adds for a block
-- the datagrams of it, under the sequences behind those that were sent before
abbrev pub added_datagrams : (r r' : Relay) → List (List ℕ)
added_datagrams r r' = packed (relay_unit_of r') (r.sent + 1) r'.added.items

-- of any venue of which the history speaks, they are those of what the block adds to what is
-- relayed
abbrev pub AddsRelayed : (r r' : Relay) → Block → Type 0
AddsRelayed r r' block =
    (V : List Raw) (H : ℕ) (E : List Entry) → Stands r H E → IsVenue V (relay_heard H block E)
    → added_datagrams r r' ≡ relayed_datagrams H V (relay_unit_of r) E (relay_heard H block E)

-- whatever was heard, they are messages behind all that was sent
abbrev pub AddsAny : (r r' : Relay) → Block → Type 0
AddsAny r r' block =
    (sent : List Raw) → HasSent r sent → SendsMore r r' block sent (added_datagrams r r')
