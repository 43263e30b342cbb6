use Rattle.std.proofs.Common.{◌≡◌, ◌∙◌, ◌++◌, ◌∷◌, [], List, ℕ, Option, Some, ap, sym, subst, refl}
use Rattle.std.specs.Option.{IfSome}
use Rattle.venue_core.specs.Standing.{VenueState}
use Rattle.venue_core.specs.layers.Taking.{MayTake, Advances}
use Rattle.venue_core.specs.Stands.{Stands}
use Rattle.venue_core.proofs.Accepting.{one_more_possible, stands_on}
use Rattle.venue_core.proofs.venue.Venue.take_ready.Goals as goal

pub invariant_of-self : goal.invariant_of-self
invariant_of-self c = (
  one_more_possible _ _ c.self.inside.outbox c.take_in.new.outbox c.in-Some.raw c.self.invariant.0 c.take_in.ensures.book c.take_in.ensures.next,
  subst (λ (o : Option (List ℕ)). IfSome o (MayTake c.self.inside.ready_ends c.take_in.new.book.spare c.self.inside.ready_ends c.take_in.new.outbox)) (sym c.take.ensures.after) tt,
)

pub returns-clause-stands : goal.returns-clause-stands
returns-clause-stands c accepted sent raw stands is =
    let ready : c.self.inside.ready ≡ Some c.in-Some.raw = sym c.take.ensures.value ∙ c.in-Some.is in
    let same : c.in-Some.raw ≡ raw = cc (ready, is, ap (λ (v : VenueState). v.ready) c.self.view_is) in
    let may : MayTake c.self.inside.ready_ends c.self.inside.book.spare c.self.inside.ended c.self.inside.outbox c.in-Some.raw =
    subst (λ (o : Option (List ℕ)). IfSome o (MayTake c.self.inside.ready_ends c.self.inside.book.spare c.self.inside.ended c.self.inside.outbox)) ready c.self.invariant.1 in
    let old : VenueState = record { unit = c.self.inside.unit; book = c.self.inside.book.book; ended = c.self.inside.ended; last = c.self.inside.outbox.last; ready = c.self.inside.ready; pending = c.self.inside.outbox } in
    let new : VenueState = record { unit = c.self.inside.unit; book = c.take_in.new.book.book; ended = c.self.inside.ready_ends; last = c.take_in.new.outbox.last; ready = c.take.new.self; pending = c.take_in.new.outbox } in
    let advances : Advances old c.in-Some.raw new = record {
      unit = refl;
      book = c.take_in.ensures.book;
      ended = may.ends_is;
      last = c.take_in.ensures.last;
      is_raw = may.is_raw;
      bytes = may.bytes;
      next = c.take_in.ensures.next;
      waits = c.take_in.ensures.waits;
    } in
    subst (λ (r : List ℕ). Stands new (accepted ++ r ∷ []) sent) same
    (stands_on old new accepted sent c.in-Some.raw (subst (λ (v : VenueState). Stands v accepted sent) (sym c.self.view_is) stands) advances may.goes_on may.next)
