use Rattle.std.proofs.Common.{◌≡◌, ◌≤◌, ℕ, List, refl, sym, ap, ◌∙◌, subst, arith}
use Rattle.std.specs.List.{AllByRecursion}
use mathlib.Core.List.{IsPrefix}
use Rattle.gap_store.specs.Look.{View, look}
use Rattle.gap_store.specs.layers.Looking.{PacksAt}
use Rattle.gap_store.specs.declared.found.Found.TheVariants.{Kept}
use Rattle.pitch_messages.specs.Room.{Roomy}
use Rattle.pitch_model.specs.Advertising.{accepted_by}
use Rattle.pitch_model.specs.History.{Raw}
use Rattle.heard_items.specs.Datagrams.{IsPiece}
use Rattle.shared_unit.specs.layers.Histories.{kept_at}
use Rattle.unit_packets.specs.Packing.{bytes_in}
use Rattle.venue_core.specs.Plan.{plan}
use Rattle.drill_client.specs.layers.Answered.{is_found}
use Rattle.drill_client.proofs.Answered.{range_kept, range_gone, range_packed}
use Rattle.unit_threads.proofs.Serving.{course_plan, planned_prefix, served_pieces}
use Rattle.unit_threads.proofs.service.range.Goals as goal

pub returns-in-Kept-clause-kept : goal.returns-in-Kept-clause-kept
returns-in-Kept-clause-kept g c =
    let v : View = kept_at g.J.Naming.kept c.args.server.now.history in
    let at = c.in_ok-found.ensures.found v refl in
    let first : 1 ≤ c.args.first = omega (arith, c.if-first-eq0.false) in
    let count : 1 ≤ c.args.count = omega (arith, c.if-count-eq0.false) in
    range_kept (kept_at g.J.Naming.kept c.pack.new.self.history) c.args.first c.args.count first count
    (sym c.in-Kept.is ∙ at.answer ∙ ap (λ (w : View). look w c.args.first c.args.count) at.shows)

pub returns-in-Kept-clause-datagrams : goal.returns-in-Kept-clause-datagrams
returns-in-Kept-clause-datagrams g c =
    let v : View = kept_at g.J.Naming.kept c.args.server.now.history in
    let before : List (List ℕ) = bytes_in c.make-out.result.items in
    let after : List (List ℕ) = bytes_in c.pack.new.out.items in
    let at : PacksAt (λ (w : View). w ≡ kept_at g.J.Naming.kept c.pack.new.self.history) v c.args.course.now.unit c.args.first c.args.count c.in_ok-found.found before after = c.in_ok-found.ensures.found v refl in
    range_packed at.now (kept_at g.J.Naming.kept c.pack.new.self.history) c.args.course.now.unit c.args.first c.args.count before after at.packs (ap (λ (l : List (Roomy ℕ)). bytes_in l) c.make-out.ensures)
    (sym c.in-Kept.is ∙ at.answer) at.shows

pub returns-in-Kept-clause-pieces : goal.returns-in-Kept-clause-pieces
returns-in-Kept-clause-pieces g c =
    let course = c.args.course.now in
    let V : List Raw = plan g.R.DrillRun.number g.R.DrillRun.unit g.R.DrillRun.count in
    let same = course_plan course.number g.R.DrillRun.number course.unit g.R.DrillRun.unit course.count g.R.DrillRun.count course.number_is course.unit_is course.count_is in
    let prefix : IsPrefix (accepted_by c.pack.new.self.history) V = subst (IsPrefix (accepted_by c.pack.new.self.history)) same
    (planned_prefix g.R.FixedRun.fixed g.R.FixedRun.plan course.number course.unit course.count c.pack.new.self.history course.planned c.seen-seen.ensures.run) in
    let v : View = kept_at g.J.Naming.kept c.args.server.now.history in
    let before : List (List ℕ) = bytes_in c.make-out.result.items in
    let after : List (List ℕ) = bytes_in c.pack.new.out.items in
    let at : PacksAt (λ (w : View). w ≡ kept_at g.J.Naming.kept c.pack.new.self.history) v course.unit c.args.first c.args.count c.in_ok-found.found before after = c.in_ok-found.ensures.found v refl in
    let first : 1 ≤ c.args.first = omega (arith, c.if-first-eq0.false) in
    let count : 1 ≤ c.args.count = omega (arith, c.if-count-eq0.false) in
    let begins : IsPrefix at.now.messages V = subst (λ (w : View). IsPrefix w.messages V) (sym at.shows) prefix in
    let kept : Kept ≡ look at.now c.args.first c.args.count = sym c.in-Kept.is ∙ at.answer in
    let pieces : AllByRecursion (IsPiece V course.unit) after = served_pieces at.now V course.unit c.args.first c.args.count before after begins first count kept at.packs (ap (λ (l : List (Roomy ℕ)). bytes_in l) c.make-out.ensures) in
    subst (λ (u : ℕ). AllByRecursion (IsPiece V u) after) course.unit_is pieces

pub returns-in-Ahead-clause-none : goal.returns-in-Ahead-clause-none
returns-in-Ahead-clause-none g c =
    let at = c.in_ok-found.ensures.found (kept_at g.J.Naming.kept c.args.server.now.history) refl in
    range_gone (kept_at g.J.Naming.kept c.pack.new.self.history) c.args.first c.args.count c.in_ok-found.found (ap is_found c.in-Ahead.is) (at.answer ∙ ap (λ (w : View). look w c.args.first c.args.count) at.shows)

pub returns-in-NotKept-clause-none : goal.returns-in-NotKept-clause-none
returns-in-NotKept-clause-none g c =
    let at = c.in_ok-found.ensures.found (kept_at g.J.Naming.kept c.args.server.now.history) refl in
    range_gone (kept_at g.J.Naming.kept c.pack.new.self.history) c.args.first c.args.count c.in_ok-found.found (ap is_found c.in-NotKept.is) (at.answer ∙ ap (λ (w : View). look w c.args.first c.args.count) at.shows)
