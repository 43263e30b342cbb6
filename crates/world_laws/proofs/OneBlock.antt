-- An end of a session that is fed one block more, behind whole blocks, while it is open.
use Rattle.std.proofs.Common.{◌≡◌, ℕ, ◌||◌, List, [], ◌∷◌, ◌++◌, ap, sym, ◌∙◌, None, false}
use Rattle.std.specs.List.{list_any}
use Rattle.std.proofs.lemmas.List.{append-nil}
use Rattle.heard_items.proofs.Datagrams.{one_block}
use Rattle.unit_packets.specs.Blocks.{Block, IsBlock}
use Rattle.unit_packets.specs.Causes.{counted}
use Rattle.unit_packets.specs.Cutting.{blocks_of, rest_of, place_of, fault_in}
use Rattle.unit_packets.specs.Feeding.{fed_fault}
use Rattle.unit_packets.proofs.Cuts.{appends}
use Rattle.session_ends.specs.Closing.{Setup, closed_of, first_cause, logged_in, logs_in}
use Rattle.session_ends.specs.Events.{Event, Fed, fed_of}
use Rattle.session_ends.specs.Items.{onward, block_items, messages_from, stream_items_from, stream_items, trouble}
use Rattle.session_ends.specs.Sending.{new_items}
use Rattle.session_ends.specs.declared.inbox.Heard.{Heard}
use Rattle.session_ends.proofs.Ends.{new_are, logged_on, closed_on}
use Rattle.session_ends.proofs.Inboxes.{items_more}

no_fault : (place : ℕ) (rest : List ℕ) → rest ≡ [] → fault_in false place rest ≡ None
no_fault place rest e = ap (fault_in false place) e

module _ {X : Type 0} (s : Setup) (es : List (Event X)) (piece : List ℕ) (block : Block) (seen : X) (whole : rest_of (fed_of es) ≡ []) (is : IsBlock piece block) (zero_is : block.sequence ≡ 0) where
  abbrev bytes : List ℕ
  bytes = fed_of es

  pub rest_more : rest_of (fed_of es ++ piece) ≡ []
  rest_more = (appends bytes piece).rest ∙ ap (λ (l : List ℕ). rest_of (l ++ piece)) whole ∙ (one_block piece block is).1

  abbrev at : ℕ
  at = counted (place_of (fed_of es))

  blocks_more : blocks_of (bytes ++ piece) ≡ blocks_of bytes ++ block ∷ []
  blocks_more = (appends bytes piece).blocks ∙ ap (λ (l : List ℕ). blocks_of bytes ++ blocks_of (l ++ piece)) whole ∙ ap (λ (l : List Block). blocks_of bytes ++ l) (one_block piece block is).0

  abbrev pub place : ℕ
  place = onward (counted (place_of (fed_of es))) 8

  added_are : (stream_items_from at (block ∷ []) ++ trouble (fed_fault (bytes ++ piece))) ≡ messages_from place block.raws
  added_are =
      ap (λ o. stream_items_from at (block ∷ []) ++ trouble o) (no_fault (counted (place_of (bytes ++ piece))) (rest_of (bytes ++ piece)) rest_more)
      ∙ append-nil (stream_items_from at (block ∷ []))
      ∙ append-nil (block_items at block)
      ∙ ap (λ (n : ℕ). block_items at (record { unit = block.unit; sequence = n; raws = block.raws })) zero_is

  are : stream_items (bytes ++ piece) ≡ stream_items bytes ++ messages_from place block.raws
  are = items_more bytes piece (block ∷ []) blocks_more (no_fault (counted (place_of bytes)) (rest_of bytes) whole) ∙ ap (λ (l : List Heard). stream_items bytes ++ l) added_are

  pub new_is : new_items es piece ≡ messages_from place block.raws
  new_is = new_are s es piece seen (messages_from place block.raws) are

  pub logged_is : logged_in s.role (Fed piece seen ∷ es) ≡ (logged_in s.role es || list_any (logs_in s.role) (messages_from place block.raws))
  logged_is = logged_on s es piece seen (messages_from place block.raws) are

  pub closed_is : closed_of s es ≡ None → closed_of s (Fed piece seen ∷ es) ≡ first_cause s (logged_in s.role es) (messages_from place block.raws)
  closed_is none = closed_on s es piece seen (messages_from place block.raws) are none

-- ---- Nothing is fed
module _ {X : Type 0} (s : Setup) (es : List (Event X)) (seen : X) where
  none_are : stream_items (fed_of es ++ []) ≡ stream_items (fed_of es) ++ []
  none_are = ap stream_items (append-nil (fed_of es)) ∙ sym (append-nil (stream_items (fed_of es)))

  pub none_new : new_items es [] ≡ []
  none_new = new_are s es [] seen [] none_are

  pub none_closed : closed_of s es ≡ None → closed_of s (Fed [] seen ∷ es) ≡ None
  none_closed none = closed_on s es [] seen [] none_are none
