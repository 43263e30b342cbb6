-- What a venue's parts have once the input was heard, or a second has passed.
use Rattle.std.proofs.Common.{◌≡◌, ℕ, List, [], length, refl, sym, ap, ◌∙◌, subst, Option, None}
use Rattle.unit_commands.specs.Pieces.{read_through}
use Rattle.venue_end.specs.declared.setup.VenueSetup.{VenueSetup}
use Rattle.venue_units.specs.declared.units.VenueUnits.{VenueUnits}
use Rattle.live_venue.specs.Input.{Heard}
use Rattle.live_venue.specs.Running.{Now, SecondPasses, beaten, flushed, with_heard}
use Rattle.live_venue.specs.Standing.{ArePieces, HasHeard, Hears, Passes, Queued, Serve}
use Rattle.live_venue.specs.declared.fault.InputFault.{InputFault}
use Rattle.live_venue.specs.declared.outbox.Outbox.{Outbox}
use Rattle.live_venue.specs.declared.serving.Serving.{Serving}
use Rattle.live_venue.proofs.Going.{heard_fault, heard_text, seconds_unsent}

-- where nothing is to be sent, that is so whatever came
idle_queued : (s : List VenueSetup) (u : VenueUnits) (o : Outbox) (now now' : Now) → Serve s u o now → now.unsent ≡ [] → now'.unsent ≡ now.unsent → Queued s o now'
idle_queued s u o now now' serve none same = record {
  waiting = serve.queued.waiting ∙ sym same;
  pieces = subst (ArePieces s now'.came) (sym (same ∙ none)) tt;
}

module _ (s : List VenueSetup) (heard : Heard) (text : List ℕ) (now : Now) where
  abbrev pub before_flush : Now
  before_flush = record now { text = text; came = heard.came; fault = heard.fault }

  -- the units heard it, and nothing was to be sent
  pub serves_heard : (u u' : VenueUnits) (o : Outbox) (fault : Option InputFault) → Serve s u o now → now.unsent ≡ [] → Hears s u' fault heard → Serve s u' o before_flush
  serves_heard u u' o fault serve none hears = record { stand = hears.stand; queued = idle_queued s u o now before_flush serve none refl }

  -- and what they accepted is to be sent
  pub has_heard : (v' : Serving) (u' : VenueUnits) (fault : Option InputFault) → Hears s u' fault heard → Serve s v'.units v'.outbox (flushed s (length s) before_flush) → (fault ≡ None → v'.reader ≡ read_through text)
      → HasHeard s v' fault (with_heard s heard text now)
  has_heard v' u' fault hears serve read = record {
    serve = serve;
    fault_is = hears.fault_is ∙ sym (heard_fault s heard text now);
    read = λ none. read none ∙ ap read_through (sym (heard_text s heard text now));
  }

-- a second passed for the units, and nothing was to be sent
pub serves_second : (s : List VenueSetup) (u u' : VenueUnits) (o o' : Outbox) (now : Now) → Passes s (length s) u u' → ((after : Now) → Serve s u' o after → Serve s u' o' (beaten s (length s) after)) → Serve s u o now → now.unsent ≡ []
    → (now' : Now) × (SecondPasses s now now' × Serve s u' o' now')
serves_second s u u' o o' now passes beats serve none =
    let passed = passes now serve.stand in
    let after : Now = passed.0 in
    let queued : Queued s o after = idle_queued s u o now after serve none (seconds_unsent (length s) now after passed.1.0) in
    (beaten s (length s) after, ((after, (passed.1.0, refl)), beats after (record { stand = passed.1.1; queued = queued })))
