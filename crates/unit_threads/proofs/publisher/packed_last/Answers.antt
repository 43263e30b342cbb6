use Rattle.std.proofs.Common.{◌≡◌, ℕ, List, [], ◌∷◌, ◌++◌, sym, ap, ◌∙◌, subst}
use Rattle.std.specs.List.{AllByRecursion}
use Rattle.std.specs.Option.{option_copied}
use Rattle.pitch_messages.specs.Room.{Roomy}
use Rattle.pitch_model.specs.History.{Raw}
use Rattle.heard_items.specs.Datagrams.{IsPiece}
use Rattle.unit_packets.specs.Packing.{bytes_in, packed}
use Rattle.venue_core.specs.Commands.{raw_of}
use Rattle.venue_core.specs.Plan.{plan, plan_command}
use Rattle.venue_core.specs.Stands.{last_of}
use Rattle.drill_client.proofs.Playing.{last_is, last_is_there}
use Rattle.unit_threads.proofs.Publishing.{last_pieces}
use Rattle.unit_threads.proofs.Serving.{course_plan}
use Rattle.unit_threads.proofs.publisher.packed_last.Goals as goal

pub unreachable-requires : goal.unreachable-requires
unreachable-requires g c =
    let course = c.args.course.now in
    last_is_there course.number course.unit c.args.index c.requires.index.0 (sym (ap option_copied c.in_default.is) ∙ c.last_raw.ensures ∙ ap last_of c.requires.accepted.accepted)

pub returns-clause-datagrams : goal.returns-clause-datagrams
returns-clause-datagrams g c =
    let course = c.args.course.now in
    let raw : Raw = c.in-Some.raw.now in
    let is : raw ≡ raw_of (plan_command course.number course.unit c.args.index) =
    last_is course.number course.unit c.args.index raw c.requires.index.0 (sym (ap option_copied c.in-Some.is) ∙ c.last_raw.ensures ∙ ap last_of c.requires.accepted.accepted) in
    let raws : List Raw = c.raws.result in
    let list : raws ≡ raw_of (plan_command course.number course.unit c.args.index) ∷ [] =
    c.raws.ensures ∙ c.in_ok-push.ensures.ok ∙ ap (λ (l : List Raw). l ++ raw ∷ []) c.make-last.ensures ∙ ap (λ (r : Raw). r ∷ []) is in
    c.in_ok-pack.ensures.ok
    ∙ ap (λ (l : List (Roomy ℕ)). bytes_in l ++ packed course.unit c.args.index raws) c.make-out.ensures
    ∙ ap (λ (rs : List Raw). packed course.unit c.args.index rs) list

pub returns-clause-pieces : goal.returns-clause-pieces
returns-clause-pieces g c =
    let course = c.args.course.now in
    let raw : Raw = c.in-Some.raw.now in
    let is : raw ≡ raw_of (plan_command course.number course.unit c.args.index) =
    last_is course.number course.unit c.args.index raw c.requires.index.0 (sym (ap option_copied c.in-Some.is) ∙ c.last_raw.ensures ∙ ap last_of c.requires.accepted.accepted) in
    let raws : List Raw = c.raws.result in
    let list : raws ≡ raw_of (plan_command course.number course.unit c.args.index) ∷ [] =
    c.raws.ensures ∙ c.in_ok-push.ensures.ok ∙ ap (λ (l : List Raw). l ++ raw ∷ []) c.make-last.ensures ∙ ap (λ (r : Raw). r ∷ []) is in
    let own : AllByRecursion (IsPiece (plan course.number course.unit course.count) course.unit) (packed course.unit c.args.index raws) =
    last_pieces course.number course.unit c.args.index course.count raws (packed course.unit c.args.index raws) c.requires.index.0 c.requires.index.1 list c.in_ok-pack.ensures.packing in
    let whole : bytes_in c.pack.new.out.items ≡ packed course.unit c.args.index raws =
    c.in_ok-pack.ensures.ok ∙ ap (λ (l : List (Roomy ℕ)). bytes_in l ++ packed course.unit c.args.index raws) c.make-out.ensures in
    let pieces : AllByRecursion (IsPiece (plan course.number course.unit course.count) course.unit) (bytes_in c.pack.new.out.items) = subst (AllByRecursion (IsPiece (plan course.number course.unit course.count) course.unit)) (sym whole) own in
    let same = course_plan course.number g.R.DrillRun.number course.unit g.R.DrillRun.unit course.count g.R.DrillRun.count course.number_is course.unit_is course.count_is in
    subst (λ (u : ℕ). AllByRecursion (IsPiece (plan g.R.DrillRun.number g.R.DrillRun.unit g.R.DrillRun.count) u) (bytes_in c.pack.new.out.items)) course.unit_is
    (subst (λ (V : List Raw). AllByRecursion (IsPiece V course.unit) (bytes_in c.pack.new.out.items)) same pieces)
