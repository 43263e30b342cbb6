-- Along the messages of an unsequenced block.
use Rattle.std.proofs.Common.{◌≡◌, ℕ, Bool, true, false, cond, List, [], ◌∷◌, Result, Ok, Err, sym, ap, ◌∙◌}
use Rattle.pitch_messages.specs.Raw.{kind_of}
use Rattle.pitch_messages.specs.Session.{session_reads}
use Rattle.pitch_messages.specs.declared.session.SessionMessage.{SessionMessage}
use Rattle.pitch_messages.specs.declared.session.SessionMessage.TheVariants.{Login, LoginReply, GapRequest, GapReply, SpinAvailable, SpinRequest, SpinReply, SpinFinished}
use Rattle.pitch_messages.specs.declared.session.SessionError.{SessionError}
use Rattle.pitch_model.specs.History.{Entry, Raw, ImageMessages}
use Rattle.pitch_model.specs.Honest.{Honest}
use Rattle.heard_items.specs.declared.change.ImageEnd.{ImageEnd}
use Rattle.heard_items.specs.declared.change.ImageEnd.TheVariants as end
use Rattle.client_core.specs.declared.client.UnitClient.{UnitClient}
use Rattle.client_core.specs.Tracks.{Tracks, Keeps}
use Rattle.relay_unit.specs.Hearing.{is_of_session, heard_told, heard_unsequenced, heard_session}
use Rattle.client_core.specs.Venues.{IsVenue}
use Rattle.client_core.proofs.Venues.{venue_by}
use Rattle.relay_unit.specs.layers.Changing.{raw_end, end_or, session_end}
use Rattle.relay_unit.specs.layers.Sending.{SendsOn}

-- ---- What came before is honest
honest_told : (Image : List Raw → ℕ → List Raw) (V : List Raw) (read : Result SessionMessage SessionError) (E : List Entry) → Honest Image V (heard_told read E) → Honest Image V E
honest_told Image V (Ok (SpinAvailable sequence)) E h = h.1
honest_told Image V (Ok (SpinReply sequence orders status)) E h = h.1
honest_told Image V (Ok (SpinFinished sequence)) E h = h.1
honest_told Image V (Ok (Login sub user password)) E h = h
honest_told Image V (Ok (LoginReply status)) E h = h
honest_told Image V (Ok (GapRequest unit sequence count)) E h = h
honest_told Image V (Ok (GapReply unit sequence count status)) E h = h
honest_told Image V (Ok (SpinRequest sequence)) E h = h
honest_told Image V (Err error) E h = h

honest_raw : (Image : List Raw → ℕ → List Raw) (V : List Raw) (raw : Raw) (E : List Entry) → Honest Image V (heard_unsequenced raw E) → Honest Image V E
honest_raw Image V raw E = by (is_of_session (kind_of raw))
  where
    by : (t : Bool) → Honest Image V (cond t (heard_told (session_reads raw) E) (ImageMessages (raw ∷ []) ∷ E)) → Honest Image V E
    by true h = honest_told Image V (session_reads raw) E h
    by false h = h.1

pub honest_session : (Image : List Raw → ℕ → List Raw) (V : List Raw) (raws : List Raw) (E : List Entry) → Honest Image V (heard_session raws E) → Honest Image V E
honest_session Image V [] E h = h
honest_session Image V (raw ∷ raws) E h = honest_raw Image V raw E (honest_session Image V raws (heard_unsequenced raw E) h)

pub venue_raw : (V : List Raw) (raw : Raw) (E : List Entry) → IsVenue V (heard_unsequenced raw E) → IsVenue V E
venue_raw V raw E = venue_by V (heard_unsequenced raw E) E (λ Image. honest_raw Image V raw E)

pub venue_session : (V : List Raw) (raws : List Raw) (E : List Entry) → IsVenue V (heard_session raws E) → IsVenue V E
venue_session V raws E = venue_by V (heard_session raws E) E (λ Image. honest_session Image V raws E)

-- ---- Part of a block was heard
-- `now` was heard of all messages `raws` that come after E, and `rest` is left
pub record Along (c c' : UnitClient) (raws rest sent sent' : List Raw) (last : ImageEnd) (H : ℕ) (E : List Entry) : Type 0 where
  pub now : List Entry
  pub tracks : Tracks c' H now
  pub rest_is : heard_session rest now ≡ heard_session raws E
  pub end_is : session_end H last rest now ≡ session_end H end.NoImage raws E
  pub keeps : (V : List Raw) → IsVenue V now → Keeps c V → Keeps c' V
  pub sends : (V : List Raw) → IsVenue V now → Keeps c V → SendsOn H V E now sent sent'

pub along_more : (c c' c'' : UnitClient) (raws left rest sent sent' sent'' : List Raw) (raw : Raw) (last last' one : ImageEnd) (H : ℕ) (E : List Entry)
    → left ≡ raw ∷ rest
    → Along c c' raws left sent sent' last H E
    → ((F : List Entry) → Tracks c' H F → Tracks c'' H (heard_unsequenced raw F))
    → ((V : List Raw) (F : List Entry) → Tracks c' H F → IsVenue V (heard_unsequenced raw F) → Keeps c' V → Keeps c'' V)
    → ((V : List Raw) (F : List Entry) → Tracks c' H F → IsVenue V (heard_unsequenced raw F) → Keeps c' V → SendsOn H V F (heard_unsequenced raw F) sent' sent'')
    → ((F : List Entry) → Tracks c' H F → one ≡ raw_end H F raw)
    → last' ≡ end_or last one
    → Along c c'' raws rest sent sent'' last' H E
along_more c c' c'' raws left rest sent sent' sent'' raw last last' one H E split A tracks keeps sends end last_is = record {
  now = heard_unsequenced raw A.now;
  tracks = tracks A.now A.tracks;
  rest_is = ap (λ (rs : List Raw). heard_session rs A.now) (sym split) ∙ A.rest_is;
  end_is = ap (λ (l : ImageEnd). session_end H l rest (heard_unsequenced raw A.now)) (last_is ∙ ap (end_or last) (end A.now A.tracks))
      ∙ ap (λ (rs : List Raw). session_end H last rs A.now) (sym split) ∙ A.end_is;
  keeps = λ V v K. keeps V A.now A.tracks v (A.keeps V (venue_raw V raw A.now v) K);
  sends = λ V v K before e. let w = venue_raw V raw A.now v in sends V A.now A.tracks v (A.keeps V w K) before (A.sends V w K before e);
}

pub along_done : (c c' : UnitClient) (raws sent sent' : List Raw) (last : ImageEnd) (H : ℕ) (E : List Entry) → (A : Along c c' raws [] sent sent' last H E) → A.now ≡ heard_session raws E
along_done c c' raws sent sent' last H E A = A.rest_is
