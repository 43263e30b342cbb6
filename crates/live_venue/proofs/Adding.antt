-- What the units send is to be sent, and are pieces.
use Rattle.std.proofs.Common.{◌≡◌, inl, inr, ℕ, ◌<◌, List, [], ◌∷◌, ◌++◌, length, refl, sym, ap, ◌∙◌, subst, arith, Option, Some, None, slice_get}
use Rattle.std.specs.List.{AllByRecursion}
use Rattle.std.specs.Option.{option_map_or}
use Rattle.std.proofs.lemmas.Option.{slice_get_cases}
use Rattle.heard_items.specs.Datagrams.{IsPiece}
use Rattle.venue_end.specs.Came.{VenueCame, Beaten, Flushed, on_gap_line, on_lines, venue_after}
use Rattle.venue_end.specs.declared.setup.VenueSetup.{VenueSetup}
use Rattle.venue_units.specs.Coming.{UnitCame, state_at, to_unit}
use Rattle.venue_units.specs.Places.{took_at, unit_of}
use Rattle.venue_units.specs.Units.{Comes, IfNoUnit, OfUnit, UnitsStand}
use Rattle.venue_units.specs.declared.units.VenueUnits.{VenueUnits}
use Rattle.live_venue.specs.Running.{Now, beat_at, flush_at, took}
use Rattle.live_venue.specs.Sending.{Sending, gap_at, gap_line, line_a, line_b, lines_at, on_both, on_gap}
use Rattle.live_venue.specs.Standing.{ArePieces, Queued, Serve, all_outgoing, each_on}
use Rattle.live_venue.specs.declared.outbox.Outbox.{Outbox}
use Rattle.live_venue.specs.declared.outbox.Road.{Road}
use Rattle.live_venue.specs.declared.outbox.Road.TheVariants.{Both, Gap}
use Rattle.live_venue.proofs.Calls.{pieces_both}
use Rattle.live_venue.proofs.Extending.{Extends, ext_none, ext_one, pieces_later}

-- ---- On the lines of a unit
pub both_is : (road : Road) (at : ℕ) (datagrams : List (List ℕ)) → road ≡ Both (line_a at) (line_b at) → each_on road datagrams ≡ on_both at datagrams
both_is road at datagrams is = ap (λ (r : Road). each_on r datagrams) is

pub gap_is : (road : Road) (at : ℕ) (datagrams : List (List ℕ)) → road ≡ Gap (gap_line at) → each_on road datagrams ≡ on_gap at datagrams
gap_is road at datagrams is = ap (λ (r : Road). each_on r datagrams) is

-- what are pieces of its messages, are pieces there
module _ (s : List VenueSetup) (came : List UnitCame) (at : ℕ) (setup : VenueSetup) (there : slice_get s at ≡ Some setup) where
  abbrev Pieces : List (List ℕ) → Type 0
  Pieces datagrams = AllByRecursion (IsPiece (state_at setup at came).messages setup.unit) datagrams

  both_pieces : (datagrams : List (List ℕ)) → Pieces datagrams → ArePieces s came (on_both at datagrams)
  both_pieces [] all = tt
  both_pieces (datagram ∷ datagrams) all =
      ((at, (setup, (there, (inl refl, all.0)))), ((at, (setup, (there, (inr (inl refl), all.0)))), both_pieces datagrams all.1))

  gap_pieces : (datagrams : List (List ℕ)) → Pieces datagrams → ArePieces s came (on_gap at datagrams)
  gap_pieces [] all = tt
  gap_pieces (datagram ∷ datagrams) all = ((at, (setup, (there, (inr (inr refl), all.0)))), gap_pieces datagrams all.1)

  lines_there : (what : VenueCame) → lines_at s at what came ≡ on_lines setup what (state_at setup at came)
  lines_there what = ap (λ (o : Option VenueSetup). option_map_or (λ (made : VenueSetup). on_lines made what (state_at made at came)) o []) there

  gap_there : (what : VenueCame) → gap_at s at what came ≡ on_gap_line setup what (state_at setup at came)
  gap_there what = ap (λ (o : Option VenueSetup). option_map_or (λ (made : VenueSetup). on_gap_line made what (state_at made at came)) o []) there

gap_none : (s : List VenueSetup) (came : List UnitCame) (at : ℕ) (what : VenueCame) → slice_get s at ≡ None → gap_at s at what came ≡ []
gap_none s came at what none = ap (λ (o : Option VenueSetup). option_map_or (λ (made : VenueSetup). on_gap_line made what (state_at made at came)) o []) none

setup_at : (s : List VenueSetup) (at : ℕ) → at < length s → (setup : VenueSetup) × (slice_get s at ≡ Some setup)
setup_at s at lt = elim (slice_get_cases s at).1 [
  | inl (setup, within, is, same) ↦ (setup, is)
  | inr (le, none) ↦ absurd (omega (arith, le, lt))
]

-- ---- More is to be sent
module _ (s : List VenueSetup) (u' : VenueUnits) (o o' : Outbox) (now : Now) (came' : List UnitCame) (queued : Queued s o now) (extends : Extends came' now.came) (stand : UnitsStand s u' came') where
  serves_more : (sent : List Sending) → all_outgoing o'.batches.items ≡ all_outgoing o.batches.items ++ sent → ArePieces s now.came sent → Serve s u' o' (record now { came = came'; unsent = now.unsent ++ sent })
  serves_more sent added pieces = record {
    stand = stand;
    queued = record {
      waiting = added ∙ ap (λ (l : List Sending). l ++ sent) queued.waiting;
      pieces = pieces_later s now.came came' (now.unsent ++ sent) extends (pieces_both s now.came now.unsent sent queued.pieces pieces);
    };
  }

-- what is to be sent stays
pub serves_still : (s : List VenueSetup) (u' : VenueUnits) (o : Outbox) (now : Now) (at : ℕ) (what : VenueCame) → Queued s o now → UnitsStand s u' (to_unit at what ∷ now.came) → Serve s u' o (record now { came = to_unit at what ∷ now.came })
serves_still s u' o now at what queued stand = record {
  stand = stand;
  queued = record { waiting = queued.waiting; pieces = pieces_later s now.came (to_unit at what ∷ now.came) now.unsent (ext_one (to_unit at what) now.came) queued.pieces };
}

-- ---- What a unit sends
module _ (u u' : VenueUnits) (o o' : Outbox) (at : ℕ) (road : Road) (datagrams : List (List ℕ)) (added : all_outgoing o'.batches.items ≡ all_outgoing o.batches.items ++ each_on road datagrams) where
  abbrev Hands : VenueCame → Type 0
  Hands what = OfUnit u at (λ s before. datagrams ≡ on_lines s what (venue_after s before))

  abbrev HandsPieces : VenueCame → Type 0
  HandsPieces what = OfUnit u at (λ s before. AllByRecursion (IsPiece (venue_after s before).messages s.unit) (on_lines s what (venue_after s before)))

  module _ (both : road ≡ Both (line_a at) (line_b at)) (what : VenueCame) (hands : Hands what) (pieces : HandsPieces what) where
    serves_lines : (s : List VenueSetup) (now : Now) (came' : List UnitCame) → at < length s → Serve s u o now → Extends came' now.came → UnitsStand s u' came'
        → Serve s u' o' (record now { came = came'; unsent = now.unsent ++ on_both at (lines_at s at what now.came) })
    serves_lines s now came' lt serve extends stand =
        let its = setup_at s at lt in
        let lines = lines_there s now.came at its.0 its.1 what in
        let same : datagrams ≡ lines_at s at what now.came = hands s now.came its.0 serve.stand its.1 ∙ sym lines in
        serves_more s u' o o' now came' serve.queued extends stand (on_both at (lines_at s at what now.came))
        (added ∙ ap (λ (l : List Sending). all_outgoing o.batches.items ++ l) (both_is road at datagrams both ∙ ap (on_both at) same))
        (subst (λ (l : List (List ℕ)). ArePieces s now.came (on_both at l)) (sym lines) (both_pieces s now.came at its.0 its.1 _ (pieces s now.came its.0 serve.stand its.1)))

  pub flush_serves : road ≡ Both (line_a at) (line_b at) → Comes u u' at Flushed → Hands Flushed → HandsPieces Flushed → (s : List VenueSetup) (now : Now) → at < length s → Serve s u o now → Serve s u' o' (flush_at s at now)
  flush_serves both comes hands pieces s now lt serve = serves_lines both Flushed hands pieces s now (to_unit at Flushed ∷ now.came) lt serve (ext_one (to_unit at Flushed) now.came) (comes s now.came serve.stand)

pub beat_serves : (u : VenueUnits) (o o' : Outbox) (at : ℕ) (road : Road) (datagram : List ℕ) → all_outgoing o'.batches.items ≡ all_outgoing o.batches.items ++ each_on road (datagram ∷ []) → road ≡ Both (line_a at) (line_b at)
    → OfUnit u at (λ s before. datagram ∷ [] ≡ on_lines s Beaten (venue_after s before)) → OfUnit u at (λ s before. IsPiece (venue_after s before).messages s.unit datagram) → (s : List VenueSetup) (now : Now) → at < length s → Serve s u o now → Serve s u o' (beat_at s at now)
beat_serves u o o' at road datagram added both bytes piece s now lt serve =
    serves_lines u u o o' at road (datagram ∷ []) added both Beaten bytes (λ made before setup st is. subst (AllByRecursion (IsPiece (state_at setup at before).messages setup.unit)) (bytes made before setup st is) (piece made before setup st is, tt))
    s now now.came lt serve (ext_none now.came) serve.stand

-- what a client's bytes ask of the gap line
module _ (u u' : VenueUnits) (o o' : Outbox) (place : ℕ) (bytes : List ℕ) (road : Road) (ranges : List (List ℕ)) (added : all_outgoing o'.batches.items ≡ all_outgoing o.batches.items ++ each_on road ranges) where
  pub take_serves : road ≡ Gap (gap_line (unit_of place)) → Comes u u' (unit_of place) (took_at place bytes) → OfUnit u (unit_of place) (λ s before. ranges ≡ on_gap_line s (took_at place bytes) (venue_after s before))
      → OfUnit u (unit_of place) (λ s before. AllByRecursion (IsPiece (venue_after s before).messages s.unit) (on_gap_line s (took_at place bytes) (venue_after s before))) → IfNoUnit u (unit_of place) (ranges ≡ [])
      → (s : List VenueSetup) (now : Now) → Serve s u o now → now.unsent ≡ [] → Serve s u' o' (took s place bytes now)
  take_serves gap comes hands pieces none s now serve idle = elim (slice_get_cases s at).1 [
    | inl (setup, within, is, same) ↦
        let asked = gap_there s now.came at setup is what in
        by (hands s now.came setup serve.stand is ∙ sym asked) (subst (λ (l : List (List ℕ)). ArePieces s now.came (on_gap at l)) (sym asked) (gap_pieces s now.came at setup is _ (pieces s now.came setup serve.stand is)))
    | inr (le, nothing) ↦
        let asked = gap_none s now.came at what nothing in
        by (none s now.came serve.stand nothing ∙ sym asked) (subst (λ (l : List (List ℕ)). ArePieces s now.came (on_gap at l)) (sym asked) tt)
  ]
    where
      at : ℕ
      at = unit_of place

      what : VenueCame
      what = took_at place bytes

      by : ranges ≡ gap_at s at what now.came → ArePieces s now.came (on_gap at (gap_at s at what now.came)) → Serve s u' o' (took s place bytes now)
      by same are = subst (λ (l : List Sending). Serve s u' o' (record now { came = to_unit at what ∷ now.came; unsent = l ++ on_gap at (gap_at s at what now.came) })) idle
          (serves_more s u' o o' now (to_unit at what ∷ now.came) serve.queued (ext_one (to_unit at what) now.came) (comes s now.came serve.stand) (on_gap at (gap_at s at what now.came))
          (added ∙ ap (λ (l : List Sending). all_outgoing o.batches.items ++ l) (gap_is road at ranges gap ∙ ap (on_gap at) same)) are)
