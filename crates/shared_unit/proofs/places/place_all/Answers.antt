use Rattle.std.proofs.Common.{List, [], ◌∷◌, length, subst, sym, ap, ◌∙◌, arith, length-append}
use Rattle.std.specs.List.{AllByRecursion}
use Rattle.pitch_fields.proofs.Lists.{all_push}
use Rattle.shared_unit.specs.layers.Moments.{Sight, IsNew, AreNumbered}
use Rattle.shared_unit.proofs.Looking.{numbered_more}
use Rattle.shared_unit.proofs.places.place_all.Goals as goal

pub servers-preserved : goal.servers-preserved
servers-preserved g c =
    let I = c.servers.invariant in
    let pushed = c.in-Ok.ensures.items in
    let many = I.many in
    let later = I.later in
    let new = c.place.ensures.later in
    record {
      same = c.place.ensures.same ∙ I.same;
      fresh = subst (AllByRecursion IsNew) (sym pushed) (all_push IsNew c.servers.servers.items c.numbered.result I.fresh (c.numbered.ensures.new c.in_ok-server.ensures.nothing));
      many = ap (λ (l : List Sight). length l) pushed ∙ length-append c.servers.servers.items (c.numbered.result ∷ []) ∙ omega (arith, many);
      numbered = subst AreNumbered (sym pushed) (numbered_more c.servers.servers.items c.numbered.result I.numbered (c.numbered.ensures.number ∙ c.from.ensures ∙ sym many));
      later = omega (arith, later, new);
    }
