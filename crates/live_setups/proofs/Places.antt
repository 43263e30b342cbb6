-- Where the lines and the doors of each unit stand.
use Rattle.std.proofs.Common.{◌≡◌, ◌+◌, ◌*◌, ℕ, zero, suc, [], ◌∷◌, Some, slice_get, arith, sym, subst}
use Rattle.live_setups.specs.Serving.{lines_of, doors_of}
use Rattle.live_setups.specs.Laws.{LinesStand, DoorsStand}

pub lines_stand : LinesStand
lines_stand [] i words is = grind arith
lines_stand (first ∷ units) zero words is = grind arith
lines_stand (first ∷ units) (suc i) words is =
    let rest = lines_stand units i words is in
    let e0 : 3 * suc i ≡ suc (suc (suc (3 * i))) = omega arith in
    let e1 : 3 * suc i + 1 ≡ suc (suc (suc (3 * i + 1))) = omega arith in
    let e2 : 3 * suc i + 2 ≡ suc (suc (suc (3 * i + 2))) = omega arith in
    let lines = lines_of (first ∷ units) in (
      subst (λ (k : ℕ). slice_get lines k ≡ Some (Some words.a)) (sym e0) rest.0,
      (
        subst (λ (k : ℕ). slice_get lines k ≡ Some words.b) (sym e1) rest.1.0,
        subst (λ (k : ℕ). slice_get lines k ≡ Some words.gap) (sym e2) rest.1.1,
      ),
    )

pub doors_stand : DoorsStand
doors_stand [] i words is = grind arith
doors_stand (first ∷ units) zero words is = grind arith
doors_stand (first ∷ units) (suc i) words is =
    let rest = doors_stand units i words is in
    let e0 : 2 * suc i ≡ suc (suc (2 * i)) = omega arith in
    let e1 : 2 * suc i + 1 ≡ suc (suc (2 * i + 1)) = omega arith in
    let doors = doors_of (first ∷ units) in (
      subst (λ (k : ℕ). slice_get doors k ≡ Some words.grp) (sym e0) rest.0,
      subst (λ (k : ℕ). slice_get doors k ≡ Some words.spin) (sym e1) rest.1,
    )
