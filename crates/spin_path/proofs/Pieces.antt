-- What a link tells of one block more.
use Rattle.std.proofs.Common.{◌≡◌, ℕ, Bool, true, false, cond, ◌||◌, List, [], ◌∷◌, ◌++◌, length, refl, ap, ◌∙◌, Some, None, is_some, option_map}
use Rattle.std.specs.List.{AllByRecursion}
use Rattle.std.proofs.lemmas.List.{append-nil}
use Rattle.heard_items.proofs.Datagrams.{one_block}
use Rattle.pitch_messages.specs.declared.session.SessionMessage.{SessionMessage}
use Rattle.unit_packets.specs.Blocks.{Block, IsBlock}
use Rattle.unit_packets.specs.Causes.{counted}
use Rattle.unit_packets.specs.Cutting.{blocks_of, rest_of, place_of, fault_in}
use Rattle.unit_packets.specs.Feeding.{fed_fault}
use Rattle.unit_packets.proofs.Cuts.{appends}
use Rattle.heard_items.specs.declared.item.Item.{Item}
use Rattle.heard_items.specs.declared.item.Item.TheVariants as item
use Rattle.session_ends.specs.declared.closed.Closed.{Closed}
use Rattle.session_ends.specs.declared.inbox.Heard.{Heard}
use Rattle.session_ends.specs.declared.inbox.Heard.TheVariants.{Message, BlockEnd}
use Rattle.session_ends.specs.declared.role.Role.TheVariants.{SpinLink}
use Rattle.session_ends.specs.declared.role.Said.{Said}
use Rattle.session_ends.specs.declared.role.Said.TheVariants as said
use Rattle.session_ends.specs.declared.closed.CloseCause.{CloseCause}
use Rattle.session_ends.specs.Closing.{cause_of, cause_of_said, closed_of, logged_in}
use Rattle.session_ends.specs.Items.{onward, closed_at, block_items, messages_from, stream_items_from, trouble}
use Rattle.session_ends.specs.Saying.{said_to, is_login}
use Rattle.session_ends.specs.Sending.{new_items}
use Rattle.session_ends.proofs.Ends.{new_are}
use Rattle.session_ends.proofs.Inboxes.{items_more}
use Rattle.client_links.specs.Linking.{NoLookup}
use Rattle.client_links.specs.Telling.{before_more, other_in, others, after_others, or_items, told_of, told_said, run_of, tells_on, tells, until}
use Rattle.spin_path.proofs.Links.{link_of, once, told_once, told_more}

-- ---- One block behind whole blocks
no_fault : (place : ℕ) (rest : List ℕ) → rest ≡ [] → fault_in false place rest ≡ None
no_fault place rest e = ap (fault_in false place) e

module _ (u : ℕ) (bytes piece : List ℕ) (block : Block) (whole : rest_of bytes ≡ []) (is : IsBlock piece block) (zero_is : block.sequence ≡ 0) where
  pub rest_more : rest_of (bytes ++ piece) ≡ []
  rest_more = (appends bytes piece).rest ∙ ap (λ (l : List ℕ). rest_of (l ++ piece)) whole ∙ (one_block piece block is).1

  abbrev pub at : ℕ
  at = counted (place_of bytes)

  blocks_more : blocks_of (bytes ++ piece) ≡ blocks_of bytes ++ block ∷ []
  blocks_more = (appends bytes piece).blocks ∙ ap (λ (l : List ℕ). blocks_of bytes ++ blocks_of (l ++ piece)) whole ∙ ap (λ (l : List Block). blocks_of bytes ++ l) (one_block piece block is).0

  abbrev added : List Heard
  added = stream_items_from at (block ∷ []) ++ trouble (fed_fault (bytes ++ piece))

  added_are : added ≡ messages_from (onward at 8) block.raws
  added_are =
      ap (λ o. stream_items_from at (block ∷ []) ++ trouble o) (no_fault (counted (place_of (bytes ++ piece))) (rest_of (bytes ++ piece)) rest_more)
      ∙ append-nil (stream_items_from at (block ∷ []))
      ∙ append-nil (block_items at block)
      ∙ ap (λ (n : ℕ). block_items at (record { unit = block.unit; sequence = n; raws = block.raws })) zero_is

  new_is : new_items (once bytes) piece ≡ messages_from (onward at 8) block.raws
  new_is = new_are (link_of u) (once bytes) piece NoLookup added (items_more bytes piece (block ∷ []) blocks_more (no_fault (counted (place_of bytes)) (rest_of bytes) whole)) ∙ added_are

  pub block_told : closed_of (link_of u) (once bytes) ≡ None
      → told_once u (bytes ++ piece) ≡ told_once u bytes ++ tells (link_of u) (logged_in SpinLink (once bytes)) (messages_from (onward at 8) block.raws)
  block_told none =
      told_more u bytes piece
      ∙ ap (λ o. told_once u bytes ++ cond (is_some o) [] (tells (link_of u) (logged_in SpinLink (once bytes)) (new_items (once bytes) piece))) none
      ∙ ap (λ (l : List Heard). told_once u bytes ++ tells (link_of u) (logged_in SpinLink (once bytes)) l) new_is

  pub block_untold : (c : Closed) → closed_of (link_of u) (once bytes) ≡ Some c → told_once u (bytes ++ piece) ≡ told_once u bytes
  block_untold c some =
      told_more u bytes piece
      ∙ ap (λ o. told_once u bytes ++ cond (is_some o) [] (tells (link_of u) (logged_in SpinLink (once bytes)) (new_items (once bytes) piece))) some
      ∙ append-nil (told_once u bytes)

-- ---- What it is told of a block
-- of one session message
pub one_told : (u : ℕ) (logged : Bool) (place : ℕ) (raw : List ℕ) (m : SessionMessage) → said_to SpinLink raw ≡ said.Message m → tells (link_of u) logged (messages_from place (raw ∷ [])) ≡ told_of true m
one_told u logged place raw m is = by (said_to SpinLink raw) (is_some (cause_of (link_of u) logged (Message place raw))) is
  where
    tail : Bool → List Heard
    tail b = cond b [] (BlockEnd ∷ [])

    by : (x : Said) (b : Bool) → x ≡ said.Message m
        → run_of SpinLink (before_more (other_in x raw) (others SpinLink (tail b)))
        ++ or_items (other_in x raw) (after_others SpinLink (tail b)) (told_said SpinLink x ++ (run_of SpinLink (others SpinLink (tail b)) ++ after_others SpinLink (tail b)))
        ≡ told_of true m
    by x true e =
        ap (λ (y : Said). run_of SpinLink (before_more (other_in y raw) []) ++ or_items (other_in y raw) [] (told_said SpinLink y ++ [])) e ∙ append-nil (told_of true m)
    by x false e =
        ap (λ (y : Said). run_of SpinLink (before_more (other_in y raw) []) ++ or_items (other_in y raw) [] (told_said SpinLink y ++ [])) e ∙ append-nil (told_of true m)

-- of a heartbeat
pub beat_told : (u : ℕ) (logged : Bool) (place : ℕ) → tells (link_of u) logged (messages_from place []) ≡ []
beat_told u logged place = refl

-- messages that a link hands out
abbrev pub IsOther : List ℕ → Type 0
IsOther raw = said_to SpinLink raw ≡ said.Skipped

others_are : (raws : List (List ℕ)) (place : ℕ) → AllByRecursion IsOther raws → others SpinLink (messages_from place raws) ≡ raws
others_are [] place all = refl
others_are (raw ∷ raws) place all =
    ap (λ (x : Said). before_more (other_in x raw) (others SpinLink (messages_from (onward place (length raw)) raws))) all.0 ∙ ap (λ (l : List (List ℕ)). raw ∷ l) (others_are raws (onward place (length raw)) all.1)

after_none : (raws : List (List ℕ)) (place : ℕ) → AllByRecursion IsOther raws → after_others SpinLink (messages_from place raws) ≡ []
after_none [] place all = refl
after_none (raw ∷ raws) place all =
    let items : List Heard = messages_from (onward place (length raw)) raws in
    ap (λ (x : Said). or_items (other_in x raw) (after_others SpinLink items) (told_said SpinLink x ++ (run_of SpinLink (others SpinLink items) ++ after_others SpinLink items))) all.0
    ∙ after_none raws (onward place (length raw)) all.1

until_all : (u : ℕ) (logged : Bool) (raws : List (List ℕ)) (place : ℕ) → AllByRecursion IsOther raws → until (link_of u) logged (messages_from place raws) ≡ messages_from place raws
until_all u logged [] place all = refl
until_all u logged (raw ∷ raws) place all =
    let items : List Heard = messages_from (onward place (length raw)) raws in
    ap (λ (x : Said). Message place raw ∷ cond (is_some (option_map (λ (cause : CloseCause). closed_at cause place) (cause_of_said (link_of u) logged x))) [] (until (link_of u) (logged || is_login x) items)) all.0
    ∙ ap (λ (l : List Heard). Message place raw ∷ l) (until_all u (logged || false) raws (onward place (length raw)) all.1)

-- of a datagram of messages
pub others_told : (u : ℕ) (logged : Bool) (place : ℕ) (raw : List ℕ) (raws : List (List ℕ)) → AllByRecursion IsOther (raw ∷ raws)
    → tells (link_of u) logged (messages_from place (raw ∷ raws)) ≡ item.ImageMessages (record { items = raw ∷ raws; spare = 0 }) ∷ []
others_told u logged place raw raws all =
    ap (tells_on SpinLink []) (until_all u logged (raw ∷ raws) place all)
    ∙ ap (λ (l : List (List ℕ)). run_of SpinLink l ++ after_others SpinLink (messages_from place (raw ∷ raws))) (others_are (raw ∷ raws) place all)
    ∙ ap (λ (l : List Item). item.ImageMessages (record { items = raw ∷ raws; spare = 0 }) ∷ l) (after_none (raw ∷ raws) place all)
