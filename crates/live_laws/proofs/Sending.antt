-- What was sent on a line of a unit are pieces of what that accepted.
use Rattle.std.proofs.Common.{◌≡◌, inl, inr, ℕ, ◌==◌, List, [], ◌∷◌, refl, sym, ap, ◌∙◌, subst, arith, Option, None, Some, slice_get}
use Rattle.std.specs.Option.{option_map_or}
use Rattle.std.proofs.lemmas.Bool.{eqb-true}
use Rattle.std.proofs.lemmas.List.Quantifiers.{position-Some}
use Rattle.std.proofs.lemmas.Option.{none-some, same_Some, slice_get_cases}
use Rattle.unit_packets.specs.Blocks.{Block}
use Rattle.unit_packets.specs.Cutting.{blocks_of}
use Rattle.pitch_model.specs.History.{Raw}
use Rattle.heard_items.specs.Datagrams.{IsPiece, IsVenueBlock}
use Rattle.spin_path.specs.PathLaws.{IsFeed}
use Rattle.venue_end.specs.declared.setup.VenueSetup.{VenueSetup}
use Rattle.venue_net.specs.VenueCalls.{VenueCall, Send}
use Rattle.venue_units.specs.Coming.{UnitCame, state_at}
use Rattle.live_venue.specs.Input.{index_of}
use Rattle.live_venue.specs.Serving.{AreFeeds, IsLineOf, IsPieceOn, SendsAPiece, SendsPieces}
use Rattle.served_laws.proofs.Beside.{all_contained}
use Rattle.live_laws.specs.Sent.{IsSent, messages_at, messages_of}

-- ---- A unit by its number
pub unit_there : (s : List VenueSetup) (unit at : ℕ) → index_of s unit ≡ Some at → (setup : VenueSetup) × ((slice_get s at ≡ Some setup) × (setup.unit ≡ unit))
unit_there [] unit at is = absurd (none-some at is)
unit_there (first ∷ others) unit at is =
    let found = position-Some (λ (setup : VenueSetup). setup.unit == unit) (first ∷ others) at first is in
    elim (slice_get_cases (first ∷ others) at).1 [
      | inl (setup, within, there, same) ↦
          let found = position-Some (λ (setup : VenueSetup). setup.unit == unit) (first ∷ others) at setup is in
          (setup, (there, eqb-true setup.unit unit (ap (λ (made : VenueSetup). made.unit == unit) (sym same) ∙ found.1)))
      | inr (le, none) ↦ let within = found.0 in absurd (omega (arith, le, within))
    ]

module _ (s : List VenueSetup) (came : List UnitCame) where
  pub messages_there : (at : ℕ) (setup : VenueSetup) → slice_get s at ≡ Some setup → messages_at s came at ≡ (state_at setup at came).messages
  messages_there at setup there = ap (λ (o : Option VenueSetup). option_map_or (λ (made : VenueSetup). (state_at made at came).messages) o []) there

  pub messages_found : (unit at : ℕ) → index_of s unit ≡ Some at → messages_of s came unit ≡ messages_at s came at
  messages_found unit at is = ap (λ (o : Option ℕ). option_map_or (messages_at s came) o []) is

  -- each unit's messages are a feed
  pub feed_of : AreFeeds s came → (unit : ℕ) → IsFeed (messages_of s came unit)
  feed_of feeds unit = by (index_of s unit) refl
    where
      by : (o : Option ℕ) → index_of s unit ≡ o → IsFeed (option_map_or (messages_at s came) o [])
      by None is = record { bytes = tt; top = omega arith }
      by (Some at) is =
          let there = unit_there s unit at is in
          subst IsFeed (sym (messages_there at there.0 there.1.0)) (feeds at there.0 there.1.0)

-- ---- A line
lines_apart : (at other line : ℕ) → IsLineOf at line → IsLineOf other line → other ≡ at
lines_apart at other line (inl a) (inl b) = omega (arith, a, b)
lines_apart at other line (inl a) (inr (inl b)) = omega (arith, a, b)
lines_apart at other line (inl a) (inr (inr b)) = omega (arith, a, b)
lines_apart at other line (inr (inl a)) (inl b) = omega (arith, a, b)
lines_apart at other line (inr (inl a)) (inr (inl b)) = omega (arith, a, b)
lines_apart at other line (inr (inl a)) (inr (inr b)) = omega (arith, a, b)
lines_apart at other line (inr (inr a)) (inl b) = omega (arith, a, b)
lines_apart at other line (inr (inr a)) (inr (inl b)) = omega (arith, a, b)
lines_apart at other line (inr (inr a)) (inr (inr b)) = omega (arith, a, b)

module _ (s : List VenueSetup) (came : List UnitCame) where
  -- a piece on a line of a unit is one of that unit
  piece_there : (unit at line : ℕ) (datagram : List ℕ) → index_of s unit ≡ Some at → IsLineOf at line → IsPieceOn s came line datagram → IsPiece (messages_of s came unit) unit datagram
  piece_there unit at line datagram is on (other, (made, (there, (line_is, piece)))) =
      let its = unit_there s unit at is in
      let same : other ≡ at = lines_apart at other line on line_is in
      let there : slice_get s at ≡ Some made = subst (λ (n : ℕ). slice_get s n ≡ Some made) same there in
      let setup_is : made ≡ its.0 = same_Some made its.0 (sym there ∙ its.1.0) in
      let here : IsPiece (state_at made at came).messages made.unit datagram = subst (λ (n : ℕ). IsPiece (state_at made n came).messages made.unit datagram) same piece in
      let its_own : IsPiece (state_at its.0 at came).messages its.0.unit datagram = subst (λ (m : VenueSetup). IsPiece (state_at m at came).messages m.unit datagram) setup_is here in
      let of_unit : IsPiece (state_at its.0 at came).messages unit datagram = subst (λ (n : ℕ). IsPiece (state_at its.0 at came).messages n datagram) its.1.1 its_own in
      subst (λ (V : List Raw). IsPiece V unit datagram) (sym (messages_found s came unit at is ∙ messages_there s came at its.0 its.1.0)) of_unit

  -- so a block that was sent is a venue's
  pub sent_is_venues : (run : List VenueCall) (unit : ℕ) (block : Block) → SendsPieces s came run → IsSent s run unit block → IsVenueBlock (messages_of s came unit) unit block
  sent_is_venues run unit block pieces is =
      let piece_on : IsPieceOn s came is.line is.datagram = all_contained (SendsAPiece s came) run (Send is.line is.datagram) pieces is.sent in
      let piece : IsPiece (messages_of s came unit) unit is.datagram = piece_there unit is.at is.line is.datagram is.is_at is.line_is piece_on in
      all_contained (IsVenueBlock (messages_of s came unit) unit) (blocks_of is.datagram) block piece.blocks is.within
