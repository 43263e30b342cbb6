use Rattle.std.proofs.Common.{◌≡◌, ◌+◌, Option, length, arith, subst, sym}
use mathlib.Core.List.{IsPrefix}
use Rattle.shared_unit.specs.declared.published.What.{What}
use Rattle.shared_unit.specs.layers.Stored.{EndsOrIsNothing, EndsWith, StandFor}
use Rattle.shared_unit.proofs.Growing.{copy_grows, grown_whole, has_room}
use Rattle.shared_unit.proofs.store.StoreAbsorbPublished.absorb_first.Goals as goal

pub take_in-requires : goal.take_in-requires
take_in-requires g c =
    let ends : EndsWith c.in-Some.what c.published.inside.past = subst (λ (p : Option What). EndsOrIsNothing p c.published.inside.past) c.in-Some.is c.published.invariant in
    let len : length c.published.inside.past ≡ length c.self.inside.past + 1 = omega (arith, c.len-had.ensures.length, c.len-has.ensures.length, c.if-has-had.true, c.if-has-had-eq1.true) in
    let all : c.learn.new.self ≡ c.published.inside.past = grown_whole _ _ _ len c.learn.ensures.one c.learn.ensures.that in
    has_room c.in-Some.what g.J.Naming.kept c.self.inside.shelves _ _ c.self.invariant ends len (subst (IsPrefix c.self.inside.past) all c.learn.ensures.this)

pub invariant_of-self : goal.invariant_of-self
invariant_of-self g c =
    let ends : EndsWith c.in-Some.what c.published.inside.past = subst (λ (p : Option What). EndsOrIsNothing p c.published.inside.past) c.in-Some.is c.published.invariant in
    let len : length c.published.inside.past ≡ length c.self.inside.past + 1 = omega (arith, c.len-had.ensures.length, c.len-has.ensures.length, c.if-has-had.true, c.if-has-had-eq1.true) in
    let all : c.learn.new.self ≡ c.published.inside.past = grown_whole _ _ _ len c.learn.ensures.one c.learn.ensures.that in
    subst (StandFor g.J.Naming.kept c.take_in.new.self) (sym all)
    (copy_grows c.in-Some.what g.J.Naming.kept c.self.inside.shelves c.take_in.new.self _ _ c.self.invariant ends len (subst (IsPrefix c.self.inside.past) all c.learn.ensures.this) c.take_in.ensures)
