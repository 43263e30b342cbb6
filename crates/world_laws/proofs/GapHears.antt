-- What the link with the proxy tells of what a proxy sends, block by block.
use Rattle.std.proofs.Common.{◌≡◌, ℕ, ◌<◌, ◌^◌, Bool, true, false, cond, List, [], ◌∷◌, ◌++◌, refl, ap, ◌∙◌, arith, Option, None, is_some, option_map, inl}
use Rattle.std.proofs.lemmas.List.{append-nil}
use Rattle.pitch_messages.specs.Raw.{IsRaw}
use Rattle.pitch_messages.specs.Session.{session_written}
use Rattle.pitch_messages.specs.declared.session.SessionMessage.{SessionMessage}
use Rattle.pitch_messages.specs.declared.session.SessionMessage.TheVariants.{LoginReply, GapReply}
use Rattle.pitch_messages.proofs.SessionTrip.{login_reply_back, gap_reply_back}
use Rattle.unit_packets.specs.BlockBytes.{heartbeat_block, session_block}
use Rattle.unit_packets.proofs.Written.{written_is, session_is}
use Rattle.heard_items.specs.declared.item.Item.TheVariants as item
use Rattle.session_ends.specs.declared.closed.CloseCause.{CloseCause}
use Rattle.session_ends.specs.declared.inbox.Heard.{Heard}
use Rattle.session_ends.specs.declared.inbox.Heard.TheVariants.{Message, BlockEnd}
use Rattle.session_ends.specs.declared.role.Role.TheVariants.{GapLink}
use Rattle.session_ends.specs.declared.role.Said.{Said}
use Rattle.session_ends.specs.declared.role.Said.TheVariants as said
use Rattle.session_ends.specs.Closing.{cause_of, cause_of_message, cause_of_said, or_else}
use Rattle.session_ends.specs.Events.{Event}
use Rattle.session_ends.specs.Items.{closed_at, messages_from}
use Rattle.session_ends.specs.Saying.{said_to, said_by}
use Rattle.session_ends.specs.Sending.{message_bytes, heartbeat_bytes}
use Rattle.client_links.specs.Linking.{Lookups}
use Rattle.client_links.specs.Telling.{before_more, other_in, others, after_others, or_items, told_of, told_said, run_of, tells}
use Rattle.client_end.specs.Links.{gap_link}
use Rattle.world_laws.proofs.LinkPieces.{IsReady, TellsOf, tells_one}

-- what it tells of a session message
gap_told : (logged : Bool) (place : ℕ) (raw : List ℕ) (m : SessionMessage) → said_to GapLink raw ≡ said.Message m → tells gap_link logged (messages_from place (raw ∷ [])) ≡ told_of false m
gap_told logged place raw m is = by (said_to GapLink raw) (is_some (cause_of gap_link logged (Message place raw))) is
  where
    tail : Bool → List Heard
    tail b = cond b [] (BlockEnd ∷ [])

    by : (x : Said) (b : Bool) → x ≡ said.Message m
        → run_of GapLink (before_more (other_in x raw) (others GapLink (tail b)))
        ++ or_items (other_in x raw) (after_others GapLink (tail b)) (told_said GapLink x ++ (run_of GapLink (others GapLink (tail b)) ++ after_others GapLink (tail b)))
        ≡ told_of false m
    by x true e = ap (λ (y : Said). or_items (other_in y raw) [] (told_said GapLink y ++ [])) e ∙ append-nil (told_of false m)
    by x false e = ap (λ (y : Said). or_items (other_in y raw) [] (told_said GapLink y ++ [])) e ∙ append-nil (told_of false m)

module _ (ls : List (Event Lookups)) (r : IsReady gap_link ls) where
  pub hears_beat : TellsOf gap_link ls (heartbeat_bytes 0) []
  hears_beat =
      tells_one gap_link ls r (heartbeat_bytes 0) (heartbeat_block 0 0) []
      (written_is (heartbeat_block 0 0) (record { unit = omega arith; sequence = omega arith; size = omega arith; few = omega arith; raws = tt; within = inl refl })) refl
      (λ logged place. refl) (λ logged place. refl)

  message_hears : (m heard : SessionMessage) → IsRaw (session_written m) → said_to GapLink (session_written m) ≡ said.Message heard
      → ((logged : Bool) → cause_of_message gap_link logged heard ≡ None) → TellsOf gap_link ls (message_bytes 0 m) (told_of false heard)
  message_hears m heard raw is calm =
      tells_one gap_link ls r (message_bytes 0 m) (session_block 0 (session_written m)) (told_of false heard) (session_is 0 (session_written m) (omega arith) raw) refl
      (λ logged place. gap_told logged place (session_written m) heard is)
      (λ logged place.
      ap (λ (x : Said). or_else (option_map (λ (cause : CloseCause). closed_at cause place) (cause_of_said gap_link logged x)) None) is
      ∙ ap (λ (o : Option CloseCause). or_else (option_map (λ (cause : CloseCause). closed_at cause place) o) None) (calm logged))

  pub hears_login : TellsOf gap_link ls (message_bytes 0 (LoginReply 65)) (item.GrpUp ∷ [])
  unfolding session_written
  hears_login = message_hears (LoginReply 65) (LoginReply 65) (record { least = omega arith; most = omega arith; first = refl }) (ap said_by (login_reply_back 65)) (λ logged. refl)

  pub hears_reply : (unit first count status : ℕ) → first < 256 ^ 4 → count < 256 ^ 2 → TellsOf gap_link ls (message_bytes 0 (GapReply unit first count status)) (item.GapReply first count status ∷ [])
  unfolding session_written
  hears_reply unit first count status small few =
      message_hears (GapReply unit first count status) (GapReply unit first count status) (record { least = omega arith; most = omega arith; first = refl })
      (ap said_by (gap_reply_back unit first count status small few)) (λ logged. refl)
