use Rattle.std.proofs.Common.{◌≡◌, ◌≤◌, length}
use Rattle.std.specs.List.{AllByRecursion}
use Rattle.shared_unit.specs.layers.Moments.{IsNew, AreNumbered}
use Rattle.shared_unit.proofs.places.place_all.Given as goal

abbrev pub invariant-servers : goal.invariant-servers
invariant-servers g l = record {
  same : l.writer ≡ l.fn.writer;
  fresh : AllByRecursion IsNew l.servers.items;
  many : length l.servers.items ≡ l.number;
  numbered : AreNumbered l.servers.items;
  later : g.P.Places.refusals l.fn.places ≤ g.P.Places.refusals l.places;
}
