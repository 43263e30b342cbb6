use Rattle.std.proofs.Common.{◌≡◌, [], ◌∷◌, refl}
use Rattle.heard_items.specs.Datagrams.{IsPiece}
use Rattle.venue_end.specs.Came.{Beaten, on_lines, venue_after}
use Rattle.venue_units.proofs.Standing.{beats, of_unit}
use Rattle.venue_units.proofs.units.VenueUnits.beat.Goals as goal

pub returns-in-None-clause-stands : goal.returns-in-None-clause-stands
returns-in-None-clause-stands c = beats c.args.self.now c.args.at

pub returns-in-Some-clause-bytes : goal.returns-in-Some-clause-bytes
returns-in-Some-clause-bytes c = of_unit c.args.self.now c.args.at c.args.at refl c.in-Some.end.now c.in-Some.ensures.there.0 c.in-Some.ensures.there.1
    (λ s before. c.beat.result ∷ [] ≡ on_lines s Beaten (venue_after s before)) c.beat.ensures.bytes

pub returns-in-Some-clause-piece : goal.returns-in-Some-clause-piece
returns-in-Some-clause-piece c = of_unit c.args.self.now c.args.at c.args.at refl c.in-Some.end.now c.in-Some.ensures.there.0 c.in-Some.ensures.there.1
    (λ s before. IsPiece (venue_after s before).messages s.unit c.beat.result) c.beat.ensures.piece

pub returns-in-Some-clause-stands : goal.returns-in-Some-clause-stands
returns-in-Some-clause-stands c = beats c.args.self.now c.args.at
