-- How a run ends.
use Rattle.std.proofs.Common.{◌≡◌, Bool, true≢false, List, [], ◌∷◌, refl, sym, subst, Option, Some, Result, Ok, Err}
use Rattle.std.specs.Result.{IsErr, IsErrAnd}
use Rattle.venue_end.specs.declared.setup.VenueSetup.{VenueSetup}
use Rattle.venue_net.specs.VenueCalls.{VenueCall, AddsVenueCall}
use Rattle.venue_turns.specs.declared.due.Due.{Due}
use Rattle.venue_units.specs.Units.{UnitsStand}
use Rattle.venue_units.specs.declared.units.VenueUnits.{VenueUnits}
use Rattle.live_venue.specs.Running.{Now, at_first}
use Rattle.live_venue.specs.Serving.{AreUnheard, HasFailed, IsOver, ServeEnds}
use Rattle.live_venue.specs.Standing.{EndsWith, IsAbout, RunIs, Steps}
use Rattle.live_venue.specs.declared.error.ServeError.{ServeError}
use Rattle.live_venue.specs.declared.error.ServeError.TheVariants as errors
use Rattle.live_venue.specs.declared.fault.InputFault.{InputFault}
use Rattle.live_venue.specs.declared.serving.Serving.{Serving}
use Rattle.live_venue.proofs.Calls.{adds_more, adds_none}
use Rattle.live_venue.proofs.Feeds.{feeds_at_first}

module _ (s : List VenueSetup) (start calls : Option (List VenueCall)) (run : List VenueCall) (now : Now) (is_run : RunIs s start calls run now) where
  -- no memory was left for what the next call brought, or for anything
  pub ends_spent : ServeEnds s (Err errors.OutOfMemory) start calls
  ends_spent = record { unheard = []; run = run; now = now; adds = is_run.adds; runs = is_run.runs; pieces = is_run.sent; feeds = is_run.feeds; is_end = tt }

  module _ (units : VenueUnits) where
    -- its last call was a wait that was over
    pub ends_over : IsOver run → UnitsStand s units now.came → EndsWith s (Ok tt) start calls units
    ends_over over stand = record {
      ends = record { unheard = []; run = run; now = now; adds = is_run.adds; runs = is_run.runs; pieces = is_run.sent; feeds = is_run.feeds; is_end = (refl, over) };
      stand = stand;
    }

    -- its last call failed
    pub ends_failed : HasFailed run → EndsWith s (Err errors.Net) start calls units
    ends_failed failed = record {
      ends = record { unheard = []; run = run; now = now; adds = is_run.adds; runs = is_run.runs; pieces = is_run.sent; feeds = is_run.feeds; is_end = (refl, failed) };
      stand = tt;
    }

    -- the input has a fault, and all was sent
    pub ends_faulty : (fault : InputFault) → now.fault ≡ Some fault → now.unsent ≡ [] → UnitsStand s units now.came → EndsWith s (Err (errors.Input fault)) start calls units
    ends_faulty fault is sent stand = record {
      ends = record { unheard = []; run = run; now = now; adds = is_run.adds; runs = is_run.runs; pieces = is_run.sent; feeds = is_run.feeds; is_end = (refl, (is, sent)) };
      stand = stand;
    }

-- where memory ran out nothing is said of the units
pub ends_with_any : (s : List VenueSetup) (start calls : Option (List VenueCall)) (units : VenueUnits) → ServeEnds s (Err errors.OutOfMemory) start calls → EndsWith s (Err errors.OutOfMemory) start calls units
ends_with_any s start calls units ends = record { ends = ends; stand = tt }

-- nothing was called
pub ends_none : (s : List VenueSetup) (calls : Option (List VenueCall)) → ServeEnds s (Err errors.OutOfMemory) calls calls
ends_none s calls = ends_spent s calls calls [] at_first (record { adds = adds_none calls; runs = refl; sent = tt; feeds = feeds_at_first s })

-- the error that a `?` answers is that of the call
pub ends_same : (s : List VenueSetup) (answer : Result (Unit {0}) ServeError) (error : ServeError) (start calls : Option (List VenueCall)) → IsErr answer × IsErrAnd answer (λ e. e ≡ error) → ServeEnds s (Err error) start calls → ServeEnds s answer start calls
ends_same s (Ok done) error start calls is ends = absurd (true≢false (sym is.0))
ends_same s (Err e) error start calls is ends = subst (λ (x : ServeError). ServeEnds s (Err x) start calls) (sym is.1) ends

pub ends_with_same : (s : List VenueSetup) (answer : Result (Unit {0}) ServeError) (error : ServeError) (start calls : Option (List VenueCall)) (units : VenueUnits) → IsErr answer × IsErrAnd answer (λ e. e ≡ error) → EndsWith s (Err error) start calls units → EndsWith s answer start calls units
ends_with_same s (Ok done) error start calls units is ends = absurd (true≢false (sym is.0))
ends_with_same s (Err e) error start calls units is ends = subst (λ (x : ServeError). EndsWith s (Err x) start calls units) (sym is.1) ends

pub steps_same : (s : List VenueSetup) (answer : Result Bool ServeError) (error : ServeError) (start calls : Option (List VenueCall)) (v : Serving) → IsErr answer × IsErrAnd answer (λ e. e ≡ error) → EndsWith s (Err error) start calls v.units → Steps s answer start calls v
steps_same s (Ok done) error start calls v is ends = absurd (true≢false (sym is.0))
steps_same s (Err e) error start calls v is ends = subst (λ (x : ServeError). EndsWith s (Err x) start calls v.units) (sym is.1) ends

-- an answer that is Ok names no device
pub done_is_no_net : {A : Type 0} (x : A) → ◌≡◌ {A = Result A ServeError} (Ok x) (Err errors.Net) → ⊥
done_is_no_net x is = cc

-- memory ran out for what a call brought
module _ (s : List VenueSetup) (start calls : Option (List VenueCall)) (v : Serving) (what : Due) (about : IsAbout s start calls v what) (call : VenueCall) (calls' : Option (List VenueCall)) (adds : AddsVenueCall calls calls' call) where
  pub ends_unheard : AreUnheard (call ∷ []) → (units : VenueUnits) → EndsWith s (Err errors.OutOfMemory) start calls' units
  ends_unheard unheard units = record {
    ends = record {
      unheard = call ∷ [];
      run = about.run;
      now = about.now;
      adds = adds_more about.run call start calls calls' about.stands.is_run.adds adds;
      runs = about.stands.is_run.runs;
      pieces = about.stands.is_run.sent;
      feeds = about.stands.is_run.feeds;
      is_end = unheard;
    };
    stand = tt;
  }
