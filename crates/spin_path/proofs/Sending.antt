-- What a Spin Server sends, piece by piece, against what a link would tell of it.
use Rattle.std.proofs.Common.{◌≡◌, ℕ, ◌<◌, ◌≤◌, Bool, true, false, cond, List, [], ◌∷◌, ◌++◌, length, drop, refl, sym, ap, ◌∙◌, subst, arith, length-append, inl, Option, Some, None}
use Rattle.std.specs.Prelude.{⊤}
use Rattle.std.specs.List.{AllByRecursion}
use Rattle.std.proofs.lemmas.List.{append-nil, drop_at}
use Rattle.unit_packets.proofs.Streams.{of_nothing}
use Rattle.pitch_fields.proofs.Lists.{all_split}
use Rattle.pitch_fields.specs.Fields.{number_at}
use Rattle.pitch_messages.specs.declared.session.SessionMessage.{SessionMessage}
use Rattle.pitch_messages.specs.declared.session.SessionMessage.TheVariants.{LoginReply, SpinAvailable, SpinReply, SpinFinished}
use Rattle.pitch_messages.specs.Raw.{IsRaw}
use Rattle.pitch_messages.specs.Session.{session_reads, session_written}
use Rattle.pitch_messages.proofs.SessionTrip.{login_reply_back, spin_available_back, spin_reply_back, spin_finished_back}
use Rattle.unit_packets.specs.Blocks.{Block, IsBlock}
use Rattle.unit_packets.specs.BlockBytes.{heartbeat_block, session_block}
use Rattle.unit_packets.specs.Cutting.{rest_of}
use Rattle.unit_packets.specs.Packing.{packed, IsPacking, IsDatagram}
use Rattle.unit_packets.proofs.OnePacking.{packing_is_computed}
use Rattle.unit_packets.proofs.Written.{written_is, session_is}
use Rattle.pitch_model.specs.History.{Raw, adds}
use Rattle.pitch_model.specs.Image.{image}
use Rattle.session_ends.specs.declared.closed.Closed.{Closed}
use Rattle.session_ends.specs.declared.role.Role.TheVariants.{SpinLink}
use Rattle.session_ends.specs.declared.role.Said.TheVariants as said
use Rattle.session_ends.specs.Closing.{closed_of, first_cause}
use Rattle.session_ends.specs.Items.{messages_from, stream_items}
use Rattle.session_ends.specs.Saying.{said_to, said_by}
use Rattle.session_ends.specs.Sending.{message_bytes, heartbeat_bytes}
use Rattle.session_ends.proofs.Ends.{cause_append, or_parts}
use Rattle.session_ends.proofs.Inboxes.{items_stay}
use Rattle.client_links.specs.Telling.{tells, told_of}
use Rattle.spin_server.specs.Serving.{Spin}
use Rattle.spin_path.specs.PathLaws.{IsFeed}
use Rattle.spin_path.proofs.Flow.{ImageLeft, GoReply, Goes, rest_more as more_of, rests, rests_append, goes_both}
use Rattle.spin_path.proofs.Links.{link_of, once, told_once, told_none}
use Rattle.spin_path.proofs.Pieces.{rest_more, block_told, block_untold, one_told, beat_told, IsOther, others_told}
use Rattle.spin_path.proofs.Pictures.{image_raws, image_others, image_adds}
use Rattle.pitch_model.proofs.Growing.{image_more}
use Rattle.heard_items.specs.declared.item.Item.{Item}
use Rattle.heard_items.specs.declared.item.Item.TheVariants as item
use Rattle.heard_items.specs.Heard.{is_accepted}

-- whole blocks, of which a link tells what a server may cause
pub record Sent (V : List Raw) (u : ℕ) (bytes : List ℕ) : Type 0 where
  pub whole : rest_of bytes ≡ []
  pub goes : Goes V None (told_once u bytes)

-- the datagrams that are left have the messages that are left
abbrev pub Packs : List Raw → ℕ → Option Spin → ImageLeft → Type 0
Packs V h None None = ⊤
Packs V h None (Some rest) = ⊥
Packs V h (Some spin) None = ⊥
Packs V h (Some spin) (Some rest) = (rest.0 ≡ spin.sequence) × (IsPacking h 0 rest.1 spin.left × (AllByRecursion IsOther rest.1 × (rest.0 ≤ length V)))

pub record Serves (V : List Raw) (h u : ℕ) (bytes : List ℕ) (spin : Option Spin) : Type 0 where
  pub sent : Sent V u bytes
  pub rest : ImageLeft
  pub packs : Packs V h spin rest
  pub left : closed_of (link_of u) (once bytes) ≡ None → rests V None (told_once u bytes) ≡ rest

pub nothing_sent : (V : List Raw) (h u : ℕ) → Serves V h u [] None
nothing_sent V h u = record {
  sent = record { whole = of_nothing.rest; goes = subst (Goes V None) (sym (told_none u)) _ };
  rest = None;
  packs = _;
  left = λ on. ap (rests V None) (told_none u);
}

-- a link that is open behind more bytes was open before them
open_before : (u : ℕ) (a b : List ℕ) → closed_of (link_of u) (once (a ++ b)) ≡ None → closed_of (link_of u) (once a) ≡ None
open_before u a b on =
    let more = items_stay a b in
    (or_parts (first_cause (link_of u) false (stream_items a)) _ (sym (ap (first_cause (link_of u) false) more.1 ∙ cause_append (link_of u) false (stream_items a) more.0) ∙ on)).0

no_rest : (V : List Raw) (h : ℕ) (r : ImageLeft) → Packs V h None r → r ≡ None
no_rest V h None p = refl
no_rest V h (Some rest) p = absurd p

-- ---- One piece more
module _ (V : List Raw) (h u : ℕ) (bytes : List ℕ) (spin : Option Spin) (s : Serves V h u bytes spin) where
  pub serves_more : (piece : List ℕ) (block : Block) (told : List Item) (after : Option Spin) → IsBlock piece block → block.sequence ≡ 0
      → ((logged : Bool) (place : ℕ) → tells (link_of u) logged (messages_from place block.raws) ≡ told) → Goes V s.rest told → Packs V h after (rests V s.rest told) → Serves V h u (bytes ++ piece) after
  serves_more piece block told after is zero tell goes packs = by (closed_of (link_of u) (once bytes)) refl
    where
      by : (o : Option Closed) → closed_of (link_of u) (once bytes) ≡ o → Serves V h u (bytes ++ piece) after
      by None on =
          let e : told_once u (bytes ++ piece) ≡ told_once u bytes ++ told = block_told u bytes piece block s.sent.whole is zero on ∙ ap (λ (l : List Item). told_once u bytes ++ l) (tell _ _) in
          record {
            sent = record {
              whole = rest_more u bytes piece block s.sent.whole is zero;
              goes = subst (Goes V None) (sym e) (goes_both V None (told_once u bytes) told s.sent.goes (subst (λ (r : ImageLeft). Goes V r told) (sym (s.left on)) goes));
            };
            rest = rests V s.rest told;
            packs = packs;
            left = λ later. ap (rests V None) e ∙ rests_append V None (told_once u bytes) told ∙ ap (λ (r : ImageLeft). rests V r told) (s.left on);
          }
      by (Some c) shut =
          record {
            sent = record {
              whole = rest_more u bytes piece block s.sent.whole is zero;
              goes = subst (Goes V None) (sym (block_untold u bytes piece block s.sent.whole is zero c shut)) s.sent.goes;
            };
            rest = rests V s.rest told;
            packs = packs;
            left = λ later. cc (shut, open_before u bytes piece later);
          }

  -- nothing is sent
  pub serves_none : Serves V h u (bytes ++ []) spin
  serves_none = subst (λ (l : List ℕ). Serves V h u l spin) (sym (append-nil bytes)) s

  module _ (small : h < 256) where
    -- a session message
    serves_message : (m heard : SessionMessage) (after : Option Spin) → IsRaw (session_written m) → said_to SpinLink (session_written m) ≡ said.Message heard
        → Goes V s.rest (told_of true heard) → Packs V h after (rests V s.rest (told_of true heard)) → Serves V h u (bytes ++ message_bytes h m) after
    serves_message m heard after raw is goes packs =
        serves_more (message_bytes h m) (session_block h (session_written m)) (told_of true heard) after (session_is h (session_written m) small raw) refl
        (λ logged place. one_told u logged place (session_written m) heard is) goes packs

    pub serves_beat : Serves V h u (bytes ++ heartbeat_bytes h) spin
    serves_beat =
        serves_more (heartbeat_bytes h) (heartbeat_block h 0) [] spin
        (written_is (heartbeat_block h 0) (record { unit = small; sequence = omega arith; size = omega arith; few = omega arith; raws = tt; within = inl refl })) refl
        (λ logged place. beat_told u logged place) _ s.packs

    pub serves_login : (status : ℕ) → Serves V h u (bytes ++ message_bytes h (LoginReply status)) spin
    unfolding session_written
    serves_login status =
        serves_message (LoginReply status) (LoginReply status) spin (record { least = omega arith; most = omega arith; first = refl }) (ap said_by (login_reply_back status))
        (goes (is_accepted status)) (subst (Packs V h spin) (sym (same (is_accepted status))) s.packs)
      where
        goes : (b : Bool) → Goes V s.rest (cond b (item.SpinUp ∷ []) [])
        goes true = _
        goes false = _

        same : (b : Bool) → rests V s.rest (cond b (item.SpinUp ∷ []) []) ≡ s.rest
        same true = refl
        same false = refl

    pub serves_available : IsFeed V → (n : ℕ) → n ≤ length V → Serves V h u (bytes ++ message_bytes h (SpinAvailable n)) spin
    unfolding session_written
    serves_available venues n within =
        let top = venues.top in
        serves_message (SpinAvailable n) (SpinAvailable n) spin (record { least = omega arith; most = omega arith; first = refl }) (ap said_by (spin_available_back n (omega (arith, top, within))))
        (within, _) s.packs

    pub serves_refusal : (n status : ℕ) → is_accepted status ≡ false → Serves V h u (bytes ++ message_bytes h (SpinReply n 0 status)) spin
    unfolding session_written session_reads
    serves_refusal n status refused =
        serves_message (SpinReply n 0 status) (SpinReply k orders status) spin (record { least = omega arith; most = omega arith; first = refl }) refl
        (goes (is_accepted status) refused, _) (subst (Packs V h spin) (sym (ap (λ (b : Bool). cond b (Some (k, image V k)) s.rest) refused)) s.packs)
      where
        k : ℕ
        k = number_at 4 2 (session_written (SpinReply n 0 status))

        orders : ℕ
        orders = number_at 4 6 (session_written (SpinReply n 0 status))

        goes : (b : Bool) → b ≡ false → GoReply V s.rest k orders b
        goes true e = cc
        goes false e = _

    pub serves_image : IsFeed V → spin ≡ None → (messages more : List Raw) (n : ℕ) → V ≡ messages ++ more → n ≤ length messages
        → Serves V h u (bytes ++ message_bytes h (SpinReply n (adds (image messages n)) 65)) (Some (record { sequence = n; left = packed h 0 (image messages n) }))
    unfolding session_written
    serves_image venues none messages more n are within =
        let top = venues.top in
        let raws : List Raw = image messages n in
        let here : n ≤ length V = omega (arith, ap length are, length-append messages more, within) in
        let same : image V n ≡ raws = ap (λ (W : List Raw). image W n) are ∙ image_more messages more n within in
        let few = image_adds messages n in
        let rest_is : s.rest ≡ None = no_rest V h s.rest (subst (λ (x : Option Spin). Packs V h x s.rest) none s.packs) in
        serves_message (SpinReply n (adds raws) 65) (SpinReply n (adds raws) 65) (Some (record { sequence = n; left = packed h 0 raws }))
        (record { least = omega arith; most = omega arith; first = refl }) (ap said_by (spin_reply_back n (adds raws) 65 (omega (arith, top, here)) (omega (arith, top, here, few))))
        ((rest_is, (ap adds same, here)), _)
        (refl, (subst (λ (l : List Raw). IsPacking h 0 (image V n) (packed h 0 l)) same (packing_is_computed h 0 (image V n) small (image_raws V n venues.bytes) (inl refl)), (image_others V n, here)))

    pub serves_finished : IsFeed V → (n : ℕ) → spin ≡ Some (record { sequence = n; left = [] }) → Serves V h u (bytes ++ message_bytes h (SpinFinished n)) None
    unfolding session_written
    serves_finished venues n some = by s.rest refl (subst (λ (x : Option Spin). Packs V h x s.rest) some s.packs)
      where
        by : (r : ImageLeft) → s.rest ≡ r → Packs V h (Some (record { sequence = n; left = [] })) r → Serves V h u (bytes ++ message_bytes h (SpinFinished n)) None
        by None is p = absurd p
        by (Some rest) is p =
            let top = venues.top in
            let same = p.0 in
            let within = p.1.1.1 in
            serves_message (SpinFinished n) (SpinFinished n) None (record { least = omega arith; most = omega arith; first = refl }) (ap said_by (spin_finished_back n (omega (arith, top, same, within))))
            (is ∙ (λ i. Some (p.0 i, p.1.0 i)), _) _

  -- ---- An image
  pub serves_datagram : (n : ℕ) (datagram : List ℕ) (datagrams : List (List ℕ)) → spin ≡ Some (record { sequence = n; left = datagram ∷ datagrams }) → Serves V h u (bytes ++ datagram) (Some (record { sequence = n; left = datagrams }))
  serves_datagram n datagram datagrams some = by s.rest refl (subst (λ (x : Option Spin). Packs V h x s.rest) some s.packs)
    where
      after : Option Spin
      after = Some (record { sequence = n; left = datagrams })

      serve : (k : ℕ) (raws front back : List Raw) → s.rest ≡ Some (k, raws) → k ≡ n → k ≤ length V → raws ≡ front ++ back → AllByRecursion IsOther raws → IsDatagram h 0 front datagram → IsPacking h 0 back datagrams
          → Serves V h u (bytes ++ datagram) after
      serve k raws [] back is same within split others d packing = let some = d.some in absurd (omega (arith, some))
      serve k raws (raw ∷ front) back is same within split others d packing =
          let both = all_split IsOther (raw ∷ front) back (subst (AllByRecursion IsOther) split others) in
          let rest_is : s.rest ≡ Some (k, (raw ∷ front) ++ back) = is ∙ ap (λ (l : List Raw). Some (k, l)) split in
          let dropped : drop (length (raw ∷ front)) ((raw ∷ front) ++ back) ≡ back = drop_at (raw ∷ front) back (length (raw ∷ front)) refl in
          serves_more datagram (record { unit = h; sequence = 0; raws = raw ∷ front }) (item.ImageMessages (record { items = raw ∷ front; spare = 0 }) ∷ []) after d.block refl
          (λ logged place. others_told u logged place raw front both.0) ((k, (back, rest_is)), _)
          (subst (λ (r : ImageLeft). Packs V h after (more_of (length (raw ∷ front)) r)) (sym rest_is)
          (same, (subst (λ (l : List Raw). IsPacking h 0 l datagrams) (sym dropped) packing, (subst (AllByRecursion IsOther) (sym dropped) both.1, within))))

      by : (r : ImageLeft) → s.rest ≡ r → Packs V h (Some (record { sequence = n; left = datagram ∷ datagrams })) r → Serves V h u (bytes ++ datagram) after
      by None is p = absurd p
      by (Some rest) is (same, ((front, back, split, d, full, packing), (others, within))) = serve rest.0 rest.1 front back is same within split others d packing
