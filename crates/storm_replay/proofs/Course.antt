-- What a unit of a storm does, one verb after another, and the worlds of units, one after another.
use Rattle.std.proofs.Common.{◌≡◌, ℕ, zero, suc, ◌+◌, ◌*◌, ◌≤◌, List, [], ◌∷◌, ◌++◌, length, take, drop, reverse, Result, Ok, Err, refl, sym, ap, ◌∙◌, subst, arith, Some, append_assoc}
use Rattle.std.specs.List.{slice_get}
use native.Mathlib.Nat.{suc-mul, zero-mul}
use Rattle.std.specs.Prelude.{IfSome, IfOk}
use Rattle.std.specs.Fork.{slice_chunk}
use Rattle.std.proofs.Math.Seq.{take-suc, take-add, drop-nil}
use Rattle.std.proofs.lemmas.List.{append-nil, reverse-append, take_all}
use Rattle.std.proofs.lemmas.Option.{slice_get_within, get_or_from_slice_get}
use Rattle.pitch_messages.specs.Room.{Roomy}
use Rattle.pitch_text.specs.declared.verb.Verb.{Verb}
use Rattle.storm_replay.specs.Storm.{step_verbs}
use Rattle.storm_replay.specs.layers.Units.{unit_steps, counting, IsUnitDone, AreUnitsDone}
use Rattle.storm_replay.specs.layers.Units.{gathered, AreWhole, AreGathered}
use Rattle.world_model.specs.declared.world.World.{World}

-- ---- Verbs, newest first
taken : {A : Type 0} (xs : List A) (i j : ℕ) (x : A) → slice_get xs i ≡ Some x → j ≡ suc i → take j xs ≡ take i xs ++ x ∷ []
taken xs i j x at e =
    ap (λ (n : ℕ). take n xs) e ∙ take-suc xs i x (slice_get_within xs i x at) ∙ ap (λ y. take i xs ++ y ∷ []) (get_or_from_slice_get xs i x x at)

-- after some verbs, others
pub course_next : (xs ys done : List Verb) → reverse ys ++ (reverse xs ++ done) ≡ reverse (xs ++ ys) ++ done
course_next xs ys done = sym (append_assoc (reverse ys) (reverse xs) done) ∙ ap (λ (l : List Verb). l ++ done) (sym (reverse-append xs ys))

pub verbs_next : (verbs : List Verb) (i j : ℕ) (v : Verb) (done : List Verb) → slice_get verbs i ≡ Some v → j ≡ suc i → v ∷ (reverse (take i verbs) ++ done) ≡ reverse (take j verbs) ++ done
verbs_next verbs i j v done at e = course_next (take i verbs) (v ∷ []) done ∙ ap (λ (l : List Verb). reverse l ++ done) (sym (taken verbs i j v at e))

-- a step more
pub steps_next : (number unit index next : ℕ) (done : List Verb) → next ≡ suc index → reverse (step_verbs number unit next) ++ (reverse (unit_steps number unit index) ++ done) ≡ reverse (unit_steps number unit next) ++ done
unfolding unit_steps
steps_next number unit index next done e =
    course_next (unit_steps number unit index) (step_verbs number unit next) done
    ∙ ap (λ (n : ℕ). reverse (unit_steps number unit index ++ step_verbs number unit n) ++ done) e ∙ ap (λ (n : ℕ). reverse (unit_steps number unit n) ++ done) (sym e)

pub no_steps : (number unit : ℕ) → unit_steps number unit 0 ≡ []
unfolding unit_steps
no_steps number unit = refl

-- start, steps and end
pub course_whole : (xs ys zs : List Verb) → reverse zs ++ (reverse ys ++ (reverse xs ++ [])) ≡ reverse (xs ++ (ys ++ zs))
course_whole xs ys zs = course_next ys zs (reverse xs ++ []) ∙ course_next xs (ys ++ zs) [] ∙ append-nil (reverse (xs ++ (ys ++ zs)))

-- ---- Units
pub count_none : counting 1 0 ≡ []
unfolding counting
count_none = refl

count_more : (n k : ℕ) → counting n k ++ (n + k) ∷ [] ≡ counting n (suc k)
unfolding counting
count_more n zero = ap (λ (m : ℕ). m ∷ []) (omega arith)
count_more n (suc k) = ap (λ (l : List ℕ). n ∷ l) (ap (λ (m : ℕ). counting (n + 1) k ++ m ∷ []) (omega arith) ∙ count_more (n + 1) k)

pub count_next : (k next : ℕ) (all more : List ℕ) → next ≡ suc k → all ≡ counting 1 k → more ≡ all ++ next ∷ [] → more ≡ counting 1 next
count_next k next all more e is put =
    put ∙ ap (λ (l : List ℕ). l ++ next ∷ []) is ∙ ap (λ (m : ℕ). counting 1 k ++ m ∷ []) (omega (arith, e)) ∙ count_more 1 k ∙ ap (λ (m : ℕ). counting 1 m) (sym e)

-- ---- Worlds of units
done_joined : (number steps : ℕ) (us vs : List ℕ) (ws xs : List World) → AreUnitsDone number steps us ws → AreUnitsDone number steps vs xs → AreUnitsDone number steps (us ++ vs) (ws ++ xs)
done_joined number steps [] vs [] xs are more = more
done_joined number steps [] vs (w ∷ ws) xs are more = absurd are
done_joined number steps (u ∷ us) vs [] xs are more = absurd are
done_joined number steps (u ∷ us) vs (w ∷ ws) xs are more = (are.0, done_joined number steps us vs ws xs are.1 more)

pub done_next : (number steps : ℕ) (us : List ℕ) (i j u : ℕ) (ws more : List World) (w : World) → slice_get us i ≡ Some u → j ≡ suc i → more ≡ ws ++ w ∷ [] → AreUnitsDone number steps (take i us) ws → IsUnitDone number steps u w
    → AreUnitsDone number steps (take j us) more
done_next number steps us i j u ws more w at e put are is =
    subst (λ (l : List ℕ). AreUnitsDone number steps l more) (sym (taken us i j u at e))
    (subst (AreUnitsDone number steps (take i us ++ u ∷ [])) (sym put) (done_joined number steps (take i us) (u ∷ []) ws (w ∷ []) are (is, tt)))

-- ---- Pieces of work
gathers_whole : {E : Type 0} (pieces : List (Result (Roomy World) E)) (piece : Roomy World) → AreWhole pieces → AreWhole (pieces ++ Ok piece ∷ [])
gathers_whole [] piece whole = tt
gathers_whole (Ok p ∷ pieces) piece whole = gathers_whole pieces piece whole
gathers_whole (Err e ∷ pieces) piece whole = absurd whole

gathers_last : {E : Type 0} (pieces : List (Result (Roomy World) E)) (piece : Roomy World) → gathered pieces ++ piece.items ≡ gathered (pieces ++ Ok piece ∷ [])
gathers_last [] piece = sym (append-nil piece.items)
gathers_last (Ok p ∷ pieces) piece = append_assoc p.items (gathered pieces) piece.items ∙ ap (λ (l : List World). p.items ++ l) (gathers_last pieces piece)
gathers_last (Err e ∷ pieces) piece = gathers_last pieces piece

pub gather_ok : {E : Type 0} (pieces : List (Result (Roomy World) E)) (piece : Roomy World) (ws more : List World) → AreGathered pieces ws → more ≡ ws ++ piece.items → AreGathered (pieces ++ Ok piece ∷ []) more
gather_ok pieces piece ws more are put =
    record { whole = gathers_whole pieces piece are.whole; are = put ∙ ap (λ (l : List World). l ++ piece.items) are.are ∙ gathers_last pieces piece }

drop_drop : {A : Type 0} (n m k : ℕ) (xs : List A) → k ≡ m + n → drop n (drop m xs) ≡ drop k xs
drop_drop n zero k xs e = ap (λ (j : ℕ). drop j xs) (omega (arith, e))
drop_drop n (suc m) zero xs e = absurd (omega (arith, e))
drop_drop n (suc m) (suc k) [] e = drop-nil n
drop_drop n (suc m) (suc k) (x ∷ xs) e = drop_drop n m k xs (omega (arith, e))

pieces_from : {E : Type 0} (number steps size k : ℕ) (us : List ℕ) (pieces : List (Result (Roomy World) E))
    → ((n : ℕ) → IfSome (slice_get pieces n) (λ piece. IfOk piece (λ worlds. AreUnitsDone number steps (slice_chunk us size (k + n)) worlds.items)))
    → AreWhole pieces → AreUnitsDone number steps (take (length pieces * size) (drop (k * size) us)) (gathered pieces)
pieces_from number steps size k us [] each whole = subst (λ (m : ℕ). AreUnitsDone number steps (take m (drop (k * size) us)) []) (sym (zero-mul size)) tt
pieces_from number steps size k us (Err e ∷ pieces) each whole = absurd whole
pieces_from number steps size k us (Ok p ∷ pieces) each whole =
    let d : List ℕ = drop (k * size) us in
    let n : ℕ = length pieces * size in
    let first : AreUnitsDone number steps (take size d) p.items = subst (λ (m : ℕ). AreUnitsDone number steps (slice_chunk us size m) p.items) (omega arith) (each 0) in
    let rest : AreUnitsDone number steps (take n (drop (suc k * size) us)) (gathered pieces) =
    pieces_from number steps size (suc k) us pieces (λ i. subst (λ (m : ℕ). IfSome (slice_get pieces i) (λ piece. IfOk piece (λ worlds. AreUnitsDone number steps (slice_chunk us size m) worlds.items))) (omega arith) (each (suc i))) whole in
    let next : drop size d ≡ drop (suc k * size) us = drop_drop size (k * size) (suc k * size) us (suc-mul k size) in
    let sum : size + n ≡ length (Ok p ∷ pieces) * size = omega (arith, suc-mul (length pieces) size) in
    let joined : take size d ++ take n (drop (suc k * size) us) ≡ take (length (Ok p ∷ pieces) * size) d =
    ap (λ (l : List ℕ). take size d ++ take n l) (sym next) ∙ sym (take-add size n d) ∙ ap (λ (m : ℕ). take m d) sum in
    subst (λ (l : List ℕ). AreUnitsDone number steps l (p.items ++ gathered pieces)) joined (done_joined number steps (take size d) (take n (drop (suc k * size) us)) p.items (gathered pieces) first rest)

-- the worlds of all pieces are those of all units
pub pieces_done : {E : Type 0} (number steps size : ℕ) (us : List ℕ) (pieces : List (Result (Roomy World) E)) (worlds : List World) → length us ≤ length pieces * size
    → ((n : ℕ) → IfSome (slice_get pieces n) (λ piece. IfOk piece (λ worlds. AreUnitsDone number steps (slice_chunk us size n) worlds.items))) → AreGathered pieces worlds → AreUnitsDone number steps us worlds
pieces_done number steps size us pieces worlds many each are =
    let all : take (length pieces * size) (drop (0 * size) us) ≡ us = ap (λ (m : ℕ). take (length pieces * size) (drop m us)) (zero-mul size) ∙ take_all (length pieces * size) us many in
    let done = pieces_from number steps size 0 us pieces (λ n. subst (λ (m : ℕ). IfSome (slice_get pieces n) (λ piece. IfOk piece (λ worlds. AreUnitsDone number steps (slice_chunk us size m) worlds.items))) (omega arith) (each n)) are.whole in
    subst (AreUnitsDone number steps us) (sym are.are) (subst (λ (l : List ℕ). AreUnitsDone number steps l (gathered pieces)) all done)
