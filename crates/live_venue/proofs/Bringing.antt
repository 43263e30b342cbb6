-- What comes to the units by a client's connection.
use Rattle.std.proofs.Common.{◌≡◌, ◌⊎◌, inl, inr, ℕ, Bool, true, false, List, refl, sym, ap, subst, Result, Ok, Err, OnOk, OnErr}
use Rattle.pitch_fields.specs.declared.memory.OutOfMemory.{OutOfMemory}
use Rattle.venue_end.specs.declared.setup.VenueSetup.{VenueSetup}
use Rattle.venue_units.specs.Places.{cut_at, made_at, put_at, unit_of, waits_at, with_pump}
use Rattle.venue_units.specs.Units.{Comes, StandStill, UnitsStand}
use Rattle.venue_units.specs.declared.units.VenueUnits.{VenueUnits}
use Rattle.venue_units.specs.Coming.{UnitCame}
use Rattle.live_venue.specs.Running.{Now, is_none, left, let_in, pumped, with_pump_if, wrote}
use Rattle.live_venue.specs.Standing.{Serve}
use Rattle.live_venue.specs.declared.outbox.Outbox.{Outbox}
use Rattle.live_venue.proofs.Adding.{serves_still}
use Rattle.live_venue.proofs.Extending.{Extends, pieces_later, pump_extends}

-- a venue's parts for what came, which nothing is sent by
pub serves_came : (s : List VenueSetup) (u' : VenueUnits) (o : Outbox) (now : Now) (came : List UnitCame) (u : VenueUnits) → Serve s u o now → Extends came now.came → UnitsStand s u' came → Serve s u' o (record now { came = came })
serves_came s u' o now came u serve extends stand = record {
  stand = stand;
  queued = record { waiting = serve.queued.waiting; pieces = pieces_later s now.came came now.unsent extends serve.queued.pieces };
}

module _ (s : List VenueSetup) (place : ℕ) (o : Outbox) (now : Now) where
  -- a client was let in, or there is no memory for its session
  pub lets_in : (u u' : VenueUnits) (result : Result (Unit {0}) OutOfMemory) → OnOk result (Comes u u' (unit_of place) (made_at place)) → OnErr result (Comes u u' (unit_of place) (cut_at place)) → Serve s u o now
      → (now' : Now) × (((now' ≡ let_in place now) ⊎ (now' ≡ left place now)) × Serve s u' o now')
  lets_in u u' (Ok done) stands err serve = (let_in place now, (inl refl, serves_still s u' o now (unit_of place) (made_at place) serve.queued (stands s now.came serve.stand)))
  lets_in u u' (Err error) stands err serve = (left place now, (inr refl, serves_still s u' o now (unit_of place) (cut_at place) serve.queued (err s now.came serve.stand)))

  -- it has ended
  pub ends : (u u' : VenueUnits) → Comes u u' (unit_of place) (cut_at place) → Serve s u o now → (now' : Now) × ((now' ≡ left place now) × Serve s u' o now')
  ends u u' stands serve = (left place now, (refl, serves_still s u' o now (unit_of place) (cut_at place) serve.queued (stands s now.came serve.stand)))

  module _ (count : ℕ) where
    abbrev pub Wrote : VenueUnits → Type 0
    Wrote u' = (now' : Now) × (((now' ≡ pumped s place (wrote place count now)) ⊎ (now' ≡ left place (wrote place count now))) × Serve s u' o now')

    put : (u u' : VenueUnits) → Comes u u' (unit_of place) (put_at place count) → Serve s u o now → Serve s u' o (wrote place count now)
    put u u' stands serve = serves_still s u' o now (unit_of place) (put_at place count) serve.queued (stands s now.came serve.stand)

    not_pumped : is_none (waits_at s place (wrote place count now).came) ≡ false → pumped s place (wrote place count now) ≡ wrote place count now
    not_pumped some = ap (λ (b : Bool). record (wrote place count now) { came = with_pump_if b place (wrote place count now).came }) some

    -- some of what waited wait still
    pub some_wait : (u u' : VenueUnits) → Comes u u' (unit_of place) (put_at place count) → Serve s u o now → is_none (waits_at s place (wrote place count now).came) ≡ false → Wrote u'
    some_wait u u' stands serve some = (wrote place count now, (inl (sym (not_pumped some)), put u u' stands serve))

    -- nothing does, and the next block was asked for
    pub is_pumped : (u mid u' : VenueUnits) → Comes u mid (unit_of place) (put_at place count) → ((before : List UnitCame) → UnitsStand s mid before → UnitsStand s u' (with_pump place before)) → Serve s u o now
        → is_none (waits_at s place (wrote place count now).came) ≡ true → Wrote u'
    is_pumped u mid u' stands pumps serve none =
        let before = (wrote place count now).came in
        let came : List UnitCame = with_pump_if (is_none (waits_at s place before)) place before in
        let same : with_pump place before ≡ came = ap (λ (b : Bool). with_pump_if b place before) (sym none) in
        let stand = subst (UnitsStand s u') same (pumps before (put u mid stands serve).stand) in
        (pumped s place (wrote place count now), (inl refl, serves_came s u' o (wrote place count now) came mid (put u mid stands serve) (pump_extends place (is_none (waits_at s place before)) before) stand))

    -- there was no memory for that
    pub is_cut : (u mid still u' : VenueUnits) → Comes u mid (unit_of place) (put_at place count) → StandStill mid still → Comes still u' (unit_of place) (cut_at place) → Serve s u o now → Wrote u'
    is_cut u mid still u' stands stay cut serve =
        let after = put u mid stands serve in
        (left place (wrote place count now), (inr refl, serves_still s u' o (wrote place count now) (unit_of place) (cut_at place) after.queued (cut s (wrote place count now).came (stay s (wrote place count now).came after.stand))))
