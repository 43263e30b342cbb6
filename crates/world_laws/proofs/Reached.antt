-- What holds of every state that verbs lead to, in any order: the venue's messages are a feed, what
-- was sent are pieces of it, and all that the client heard is true of it.
use Rattle.std.proofs.Common.{◌≡◌, ℕ, ◌<◌, ◌≤◌, List, [], ◌∷◌, ◌++◌, length, refl, sym, ap, ◌∙◌, subst, arith, None, length-append}
use Rattle.std.specs.Prelude.{Contains}
use Rattle.std.specs.List.{AllByRecursion}
use Rattle.std.proofs.lemmas.List.{append-nil}
use Rattle.pitch_fields.proofs.Lists.{all_push, all_follows}
use Rattle.pitch_fields.specs.Fields.{AreBytes}
use Rattle.pitch_fields.specs.Limits.{last_sequence}
use Rattle.pitch_messages.specs.Raw.{IsRaw}
use Rattle.pitch_io.specs.declared.line.Line.{Line}
use Rattle.pitch_io.specs.declared.line.Line.TheVariants.{A, B, Gap}
use Rattle.pitch_text.specs.WellFormed.{IsCommand, IsVerb}
use Rattle.pitch_text.specs.declared.command.Command.{Command}
use Rattle.pitch_text.specs.declared.verb.Verb.{Verb}
use Rattle.pitch_model.specs.Advertising.{Operation, Accept, Advertise, accepted_by, advertised_by, with_sequence}
use Rattle.pitch_model.specs.History.{Raw}
use Rattle.pitch_model.proofs.Advertising.{accepted_more, advertised_accept, advertised_advertise}
use Rattle.heard_items.specs.Datagrams.{IsPiece}
use Rattle.grp_session.specs.layers.Feeding.{AreSequenced}
use Rattle.spin_path.specs.PathLaws.{IsFeed, HasWholeImages}
use Rattle.venue_core.specs.Commands.{raw_of}
use Rattle.venue_core.specs.Refusals.{refusal}
use Rattle.client_end.specs.Came.{EndState}
use Rattle.venue_end.specs.Came.{VenueState, venue_after}
use Rattle.served_laws.specs.Beside.{handed_out}
use Rattle.served_laws.proofs.Beside.{all_contained, all_pieces, all_come}
use Rattle.served_laws.proofs.Hearing.{served_is_whole}
use Rattle.world_model.specs.Ends.{venue_setup, client_setup}
use Rattle.world_model.specs.Sound.{Sound}
use Rattle.world_model.specs.State.{State, datagrams_on}
use Rattle.world_model.specs.Verbs.{state_of}
use Rattle.world_model.specs.declared.limits.Limits.{Limits}
use Rattle.world_model.proofs.Sounding.{every_state_is_sound}
use Rattle.world_laws.proofs.CommandRaws.{command_raw, next_there}
use Rattle.world_laws.proofs.EachVerb.{Says, all_hold, says}

-- ---- What holds
-- a venue accepted these messages and advertised these sequences
pub record Advertises (V : List Raw) (sequences : List ℕ) : Type 0 where
  pub operations : List Operation
  pub accepted_is : accepted_by operations ≡ V
  pub advertised_is : advertised_by operations ≡ sequences

-- they are raws of bytes, and few enough to have sequences
pub record Holds (V : List Raw) (sequences : List ℕ) : Type 0 where
  pub raws : AllByRecursion IsRaw V
  pub bytes : AllByRecursion AreBytes V
  pub few : length V ≤ last_sequence
  pub advertises : Advertises V sequences

-- where a verb is a command, a line of a schedule can say it
abbrev pub AreSayable : List Verb → Type 0
AreSayable done = AllByRecursion (Says IsCommand) done

pub sayable_verbs : (done : List Verb) → AllByRecursion IsVerb done → AreSayable done
sayable_verbs done all = all_follows IsVerb (Says IsCommand) (says IsVerb IsCommand (λ command is. is)) done all

-- ---- What the venue accepted
accepts : (V : List Raw) (sequences : List ℕ) (command : Command) → IsCommand command → refusal V command ≡ None → Holds V sequences → Holds (V ++ raw_of command ∷ []) sequences
accepts V sequences command is fine h =
    let raw : Raw = raw_of command in
    let of : List Operation = h.advertises.operations in
    let both = command_raw command is in
    let next = next_there V command h.few fine in
    record {
      raws = all_push IsRaw V raw h.raws both.0;
      bytes = all_push AreBytes V raw h.bytes both.1;
      few = omega (arith, length-append V (raw ∷ []), next);
      advertises = record {
        operations = of ++ Accept raw ∷ [];
        accepted_is = accepted_more of (Accept raw) ∙ ap (λ (W : List Raw). W ++ raw ∷ []) h.advertises.accepted_is;
        advertised_is = advertised_accept of raw ∙ h.advertises.advertised_is;
      };
    }

-- the image of all of it is advertised
pub advertises_all : (V : List Raw) (sequences : List ℕ) → Advertises V sequences → Advertises V (with_sequence sequences (length V))
advertises_all V sequences tells =
    let of : List Operation = tells.operations in
    record {
      operations = of ++ Advertise ∷ [];
      accepted_is = accepted_more of Advertise ∙ append-nil (accepted_by of) ∙ tells.accepted_is;
      advertised_is = advertised_advertise of ∙ (λ i. with_sequence (tells.advertised_is i) (length (tells.accepted_is i)));
    }

-- whatever verbs were done
pub reached : (unit : ℕ) (limits : Limits) (done : List Verb) → AreSayable done → Holds (state_of unit limits done).venue.messages (state_of unit limits done).venue.advertised
reached unit limits done said =
    (all_hold unit limits IsCommand (λ n V sequences t. Holds V sequences) (λ now. Unit {0}) (λ n now bytes o h. h) (λ n V sequences t command is fine h. accepts V sequences command is fine h)
    (λ n V sequences t h. record { raws = h.raws; bytes = h.bytes; few = h.few; advertises = advertises_all V sequences h.advertises }) (λ n V sequences t h. h) (λ came now c. c) done said
    (record { raws = tt; bytes = tt; few = omega arith; advertises = record { operations = []; accepted_is = refl; advertised_is = refl } }) tt).0

pub reached_feed : (unit : ℕ) (limits : Limits) (done : List Verb) → AreSayable done → IsFeed (state_of unit limits done).venue.messages
reached_feed unit limits done said = let h = reached unit limits done said in record { bytes = h.bytes; top = h.few }

-- ---- What was sent and heard
module _ (unit : ℕ) (small : unit < 256) (limits : Limits) (done : List Verb) (said : AreSayable done) where
  abbrev s : State
  s = state_of unit limits done

  sound : Sound unit limits (state_of unit limits done)
  sound = every_state_is_sound unit limits done

  abbrev now : VenueState
  now = venue_after (venue_setup unit limits) sound.venue_came

  sequenced : AreSequenced unit now.messages
  sequenced = let h = reached unit limits done said in subst (λ (v : VenueState). AreSequenced unit v.messages) sound.venue_is (record { small = small; raws = h.raws; top = h.few })

  handed_pieces : (datagrams : List (List ℕ)) → AllByRecursion (Contains (handed_out (venue_setup unit limits) sound.venue_came)) datagrams → AllByRecursion (IsPiece (state_of unit limits done).venue.messages unit) datagrams
  handed_pieces datagrams all =
      let handed : List (List ℕ) = handed_out (venue_setup unit limits) sound.venue_came in
      subst (λ (v : VenueState). AllByRecursion (IsPiece v.messages unit) datagrams) (sym sound.venue_is)
      (all_follows (Contains handed) (IsPiece now.messages unit) (λ datagram there. all_contained (IsPiece now.messages unit) handed datagram (all_pieces (venue_setup unit limits) sound.venue_came sequenced) there) datagrams all)

  pub line_pieces : (line : Line) → AllByRecursion (IsPiece (state_of unit limits done).venue.messages unit) (datagrams_on (state_of unit limits done) line)
  line_pieces A = handed_pieces s.sent sound.sent
  line_pieces B = handed_pieces s.sent sound.sent
  line_pieces Gap = handed_pieces s.replayed sound.replayed

  pub reached_whole : HasWholeImages (state_of unit limits done).venue.messages (state_of unit limits done).client.heard
  reached_whole =
      let feed : IsFeed now.messages = subst (λ (v : VenueState). IsFeed v.messages) sound.venue_is (reached_feed unit limits done said) in
      let comes = all_come (venue_setup unit limits) sound.venue_came sequenced sound.client_came sound.beside in
      let whole = served_is_whole now.messages (client_setup unit limits) sound.client_came feed comes in
      subst (λ (v : VenueState). HasWholeImages v.messages s.client.heard) (sym sound.venue_is) (subst (λ (c : EndState). HasWholeImages now.messages c.heard) (sym sound.client_is) whole)
