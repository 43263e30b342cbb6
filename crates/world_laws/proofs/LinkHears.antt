-- What the link with a Spin Server tells of what such a server sends, block by block.
use Rattle.std.proofs.Common.{◌≡◌, ℕ, ◌<◌, ◌≤◌, Bool, true, false, ◌||◌, List, [], ◌∷◌, ◌++◌, length, refl, sym, ap, ◌∙◌, subst, arith, append_assoc, Option, None, option_map, inl}
use Rattle.std.specs.List.{AllByRecursion, concat}
use Rattle.std.proofs.lemmas.List.{append-nil}
use Rattle.pitch_fields.proofs.Lists.{all_split}
use Rattle.pitch_fields.specs.Limits.{last_sequence}
use Rattle.pitch_messages.specs.Raw.{IsRaw}
use Rattle.pitch_messages.specs.Session.{session_written}
use Rattle.pitch_messages.specs.declared.session.SessionMessage.{SessionMessage}
use Rattle.pitch_messages.specs.declared.session.SessionMessage.TheVariants.{LoginReply, SpinAvailable, SpinReply, SpinFinished}
use Rattle.pitch_messages.proofs.SessionTrip.{login_reply_back, spin_available_back, spin_reply_back, spin_finished_back}
use Rattle.unit_packets.specs.Blocks.{Block, IsBlock}
use Rattle.unit_packets.specs.BlockBytes.{heartbeat_block, session_block}
use Rattle.unit_packets.specs.Packing.{IsPacking, IsDatagram}
use Rattle.unit_packets.proofs.Written.{written_is, session_is}
use Rattle.heard_items.specs.declared.item.Item.{Item}
use Rattle.heard_items.specs.declared.item.Item.TheVariants as item
use Rattle.pitch_model.specs.History.{Entry, Raw, Running, spin_of, spin_more}
use Rattle.session_ends.specs.declared.closed.CloseCause.{CloseCause}
use Rattle.session_ends.specs.declared.role.Role.TheVariants.{SpinLink}
use Rattle.session_ends.specs.declared.role.Said.{Said}
use Rattle.session_ends.specs.declared.role.Said.TheVariants as said
use Rattle.session_ends.specs.Closing.{first_cause, cause_of_message, cause_of_said, or_else}
use Rattle.session_ends.specs.Events.{Event, Fed}
use Rattle.session_ends.specs.Items.{closed_at, messages_from, onward}
use Rattle.session_ends.specs.Saying.{said_to, said_by, is_login}
use Rattle.session_ends.specs.Sending.{message_bytes, heartbeat_bytes}
use Rattle.client_links.specs.Linking.{Lookups, NoLookup}
use Rattle.client_links.specs.Telling.{tells, told_of}
use Rattle.heard_items.specs.Heard.{heard_all}
use Rattle.spin_path.proofs.Links.{link_of}
use Rattle.spin_path.proofs.Pieces.{IsOther, one_told, beat_told, others_told}
use Rattle.world_laws.proofs.LinkPieces.{IsReady, TellsOf, tells_none, tells_both, tells_one}

-- such a link that is open, behind whole blocks
abbrev pub Ready : ℕ → List (Event Lookups) → Type 0
Ready u ls = IsReady (link_of u) ls

-- it is fed a piece, of which it tells these items, and is ready again
abbrev pub Hears : ℕ → List (Event Lookups) → List ℕ → List Item → Type 0
Hears u ls piece items = TellsOf (link_of u) ls piece items

pub hears_none : (u : ℕ) (ls : List (Event Lookups)) → Ready u ls → Hears u ls [] []
hears_none u ls r = tells_none (link_of u) ls r

pub hears_both : (u : ℕ) (ls : List (Event Lookups)) (a b : List ℕ) (xs ys : List Item) → Hears u ls a xs → Hears u (Fed a NoLookup ∷ ls) b ys → Hears u ls (a ++ b) (xs ++ ys)
hears_both u ls a b xs ys h k = tells_both (link_of u) ls a b xs ys h k

-- ---- One block
module _ (u : ℕ) (ls : List (Event Lookups)) (r : Ready u ls) where
  one_hears : (piece : List ℕ) (block : Block) (items : List Item) → IsBlock piece block → block.sequence ≡ 0
      → ((logged : Bool) (place : ℕ) → tells (link_of u) logged (messages_from place block.raws) ≡ items)
      → ((logged : Bool) (place : ℕ) → first_cause (link_of u) logged (messages_from place block.raws) ≡ None) → Hears u ls piece items
  one_hears piece block items is zero tell calm = tells_one (link_of u) ls r piece block items is zero tell calm

  pub hears_beat : (h : ℕ) → h < 256 → Hears u ls (heartbeat_bytes h) []
  hears_beat h small =
      one_hears (heartbeat_bytes h) (heartbeat_block h 0) []
      (written_is (heartbeat_block h 0) (record { unit = small; sequence = omega arith; size = omega arith; few = omega arith; raws = tt; within = inl refl })) refl
      (λ logged place. beat_told u logged place) (λ logged place. refl)

  -- of a session message
  message_hears : (h : ℕ) (m heard : SessionMessage) → h < 256 → IsRaw (session_written m) → said_to SpinLink (session_written m) ≡ said.Message heard
      → ((logged : Bool) → cause_of_message (link_of u) logged heard ≡ None) → Hears u ls (message_bytes h m) (told_of true heard)
  message_hears h m heard small raw is calm =
      one_hears (message_bytes h m) (session_block h (session_written m)) (told_of true heard) (session_is h (session_written m) small raw) refl
      (λ logged place. one_told u logged place (session_written m) heard is)
      (λ logged place.
      ap (λ (x : Said). or_else (option_map (λ (cause : CloseCause). closed_at cause place) (cause_of_said (link_of u) logged x)) None) is
      ∙ ap (λ (o : Option CloseCause). or_else (option_map (λ (cause : CloseCause). closed_at cause place) o) None) (calm logged))

  pub hears_login : (h : ℕ) → h < 256 → Hears u ls (message_bytes h (LoginReply 65)) (item.SpinUp ∷ [])
  unfolding session_written
  hears_login h small = message_hears h (LoginReply 65) (LoginReply 65) small (record { least = omega arith; most = omega arith; first = refl }) (ap said_by (login_reply_back 65)) (λ logged. refl)

  pub hears_available : (h n : ℕ) → h < 256 → n ≤ last_sequence → Hears u ls (message_bytes h (SpinAvailable n)) (item.Advertised n ∷ [])
  unfolding session_written
  hears_available h n small few =
      message_hears h (SpinAvailable n) (SpinAvailable n) small (record { least = omega arith; most = omega arith; first = refl }) (ap said_by (spin_available_back n (omega (arith, few)))) (λ logged. refl)

  pub hears_reply : (h n orders : ℕ) → h < 256 → n ≤ last_sequence → orders ≤ n → Hears u ls (message_bytes h (SpinReply n orders 65)) (item.SpinReply n orders 65 ∷ [])
  unfolding session_written
  hears_reply h n orders small few less =
      message_hears h (SpinReply n orders 65) (SpinReply n orders 65) small (record { least = omega arith; most = omega arith; first = refl })
      (ap said_by (spin_reply_back n orders 65 (omega (arith, few)) (omega (arith, few, less)))) (λ logged. refl)

  pub hears_finished : (h n : ℕ) → h < 256 → n ≤ last_sequence → Hears u ls (message_bytes h (SpinFinished n)) (item.SpinFinished n ∷ [])
  unfolding session_written
  hears_finished h n small few =
      message_hears h (SpinFinished n) (SpinFinished n) small (record { least = omega arith; most = omega arith; first = refl }) (ap said_by (spin_finished_back n (omega (arith, few)))) (λ logged. refl)

-- ---- An image
others_calm : (u : ℕ) (logged : Bool) (raws : List (List ℕ)) (place : ℕ) → AllByRecursion IsOther raws → first_cause (link_of u) logged (messages_from place raws) ≡ None
others_calm u logged [] place all = refl
others_calm u logged (raw ∷ raws) place all =
    ap (λ (x : Said). or_else (option_map (λ (cause : CloseCause). closed_at cause place) (cause_of_said (link_of u) logged x)) (first_cause (link_of u) (logged || is_login x) (messages_from (onward place (length raw)) raws))) all.0
    ∙ others_calm u (logged || false) raws (onward place (length raw)) all.1

-- items that bring messages of an image to a spin that runs
abbrev pub Brings : List Item → List Raw → Type 0
Brings items raws = (E : List Entry) (n orders : ℕ) (got : List Raw) → spin_of E ≡ Running n orders got → spin_of (heard_all items E) ≡ Running n orders (got ++ raws)

pub record Pictures (u : ℕ) (ls : List (Event Lookups)) (piece : List ℕ) (raws : List Raw) : Type 0 where
  pub items : List Item
  pub hears : Hears u ls piece items
  pub brings : Brings items raws

datagram_hears : (u : ℕ) (ls : List (Event Lookups)) → Ready u ls → (h : ℕ) (front : List Raw) (datagram : List ℕ) → AllByRecursion IsOther front → IsDatagram h 0 front datagram
    → Hears u ls datagram (item.ImageMessages (record { items = front; spare = 0 }) ∷ [])
datagram_hears u ls r h [] datagram others d = let some = d.some in absurd (omega (arith, some))
datagram_hears u ls r h (raw ∷ front) datagram others d =
    one_hears u ls r datagram (record { unit = h; sequence = 0; raws = raw ∷ front }) (item.ImageMessages (record { items = raw ∷ front; spare = 0 }) ∷ []) d.block refl
    (λ logged place. others_told u logged place raw front others) (λ logged place. others_calm u logged (raw ∷ front) place others)

pub image_hears : (u : ℕ) (ls : List (Event Lookups)) → Ready u ls → (h : ℕ) (raws : List Raw) (datagrams : List (List ℕ)) → AllByRecursion IsOther raws → IsPacking h 0 raws datagrams → Pictures u ls (concat datagrams) raws
image_hears u ls r h raws [] others packing = record {
  items = [];
  hears = hears_none u ls r;
  brings = λ E n orders got is. is ∙ ap (λ (l : List Raw). Running n orders l) (sym (append-nil got) ∙ ap (λ (l : List Raw). got ++ l) (sym packing));
}
image_hears u ls r h raws (datagram ∷ datagrams) others (front, back, split, d, full, packing) =
    let both = all_split IsOther front back (subst (AllByRecursion IsOther) split others) in
    let first = datagram_hears u ls r h front datagram both.0 d in
    let rest = image_hears u (Fed datagram NoLookup ∷ ls) first.after h back datagrams both.1 packing in
    record {
      items = item.ImageMessages (record { items = front; spare = 0 }) ∷ rest.items;
      hears = hears_both u ls datagram (concat datagrams) (item.ImageMessages (record { items = front; spare = 0 }) ∷ []) rest.items first rest.hears;
      brings = λ E n orders got is.
          rest.brings _ n orders (got ++ front) (ap (λ s. spin_more s front) is)
          ∙ ap (λ (l : List Raw). Running n orders l) (append_assoc got front back ∙ ap (λ (l : List Raw). got ++ l) (sym split));
    }
