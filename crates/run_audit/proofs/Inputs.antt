-- A log, logged block by block.
use Rattle.std.proofs.Common.{◌≡◌, ℕ, ◌+◌, ◌-◌, ◌<◌, ◌≤◌, ◌==◌, Bool, true, false, ◌||◌, cond, if◌then◌else◌, List, [], ◌∷◌, ◌++◌, length, drop, refl, sym, ap, ◌∙◌, subst, inl, inr, arith, append_assoc, Option, Some, Ok, Err, length-drop, eq-eqb}
use Rattle.std.specs.Prelude.{reverse}
use Rattle.std.specs.List.{concat}
use Rattle.std.specs.Option.{option_map}
use Rattle.std.proofs.lemmas.Bool.{ne_eqb, lt-ltb, le-ltb, or_from}
use Rattle.std.proofs.lemmas.List.{append-nil, drop-drop, reverse-append, reverse-reverse, nil_from_length}
use Rattle.pitch_model.specs.History.{Raw}
use Rattle.unit_packets.specs.Blocks.{Block}
use Rattle.unit_packets.specs.Cutting.{blocks_of, rest_of, place_of, fault_at_end}
use Rattle.unit_packets.specs.Judging.{judge}
use Rattle.unit_packets.specs.Lending.{header_for}
use Rattle.unit_packets.specs.Held.{StandsFirst}
use Rattle.unit_packets.specs.declared.header.BlockError.{BlockError}
use Rattle.unit_packets.proofs.Cuts.{none_of}
use Rattle.unit_packets.proofs.Streams.{leads, of_nothing, fault_rest, fault_no_rest}
use Rattle.std.proofs.Common.{IfOk}
use Rattle.std.proofs.Math.Path.{fun_ext}
use Rattle.run_audit.specs.Input.{gap_at, may_follow, fault_behind, in_log, fault_in_log, input_fault, log_in, log_size, messages_in, report_in, Audits, IsRefused}
use Rattle.run_audit.specs.Report.{Judges, lines_of}
use Rattle.run_audit.specs.declared.verdict.Verdict.{Verdict}
use Rattle.run_audit.specs.Log.{logged, messages_at, with_block, MayFollow}
use Rattle.std.proofs.Common.{Result, IsOk, take, take_all}
use Rattle.std.proofs.Math.Bool.{or-true}
use Rattle.run_audit.specs.layers.Logging.{LogsAll, LogsOne, IsLogRefused}
use Rattle.run_audit.specs.declared.input.InputError.{InputError}
use Rattle.run_audit.specs.declared.input.InputError.TheVariants.{Fault, OutOfMemory}
use Rattle.run_audit.specs.declared.input.AuditFault.{AuditFault}
use Rattle.run_audit.specs.declared.input.AuditFault.TheVariants.{NoSize, CutLog, Faulty}

-- what is wrong behind the whole blocks of a log
abbrev end_of : List ℕ → Option AuditFault
end_of log = option_map in_log (fault_at_end log)

-- the blocks up to a place were logged
pub record LogsSo (log : List ℕ) (audit : List (List Raw)) (at : ℕ) : Type 0 where
  pub within : at ≤ length log
  pub before : List Block
  pub has : (unit : ℕ) → messages_at audit unit ≡ logged before unit
  pub blocks : reverse before ++ blocks_of (drop at log) ≡ blocks_of log
  pub rest : rest_of (drop at log) ≡ rest_of log
  pub fault : fault_behind (end_of log) (8 + at) before (blocks_of (drop at log)) ≡ fault_in_log log

pub logs_none : (log : List ℕ) (audit : List (List Raw)) → audit ≡ [] → LogsSo log audit 0
unfolding fault_in_log
logs_none log audit none = record {
  within = omega arith;
  before = [];
  has = λ unit. ap (λ (a : List (List Raw)). messages_at a unit) none;
  blocks = refl;
  rest = refl;
  fault = refl;
}

-- ---- Whether a block may follow
may_is : (Vs Ws : ℕ → List Raw) (block : Block) → ((unit : ℕ) → Vs unit ≡ Ws unit) → MayFollow Vs block → may_follow Ws block ≡ true
may_is Vs Ws block same (inl none) = ap (λ (b : Bool). b || (block.sequence == length (Ws block.unit) + 1)) (eq-eqb (length block.raws) 0 (ap length none))
may_is Vs Ws block same (inr next) =
    ap (λ (b : Bool). (length block.raws == 0) || b) (eq-eqb block.sequence (length (Ws block.unit) + 1) (next ∙ ap (λ (V : List Raw). length V + 1) (same block.unit))) ∙ or-true (length block.raws == 0)

may_not : (Vs Ws : ℕ → List Raw) (block : Block) → ((unit : ℕ) → Vs unit ≡ Ws unit) → (MayFollow Vs block → ⊥) → may_follow Ws block ≡ false
may_not Vs Ws block same never =
    or_from (length block.raws == 0) (block.sequence == length (Ws block.unit) + 1)
    (ne_eqb (length block.raws) 0 (λ e. never (inl (nil_from_length block.raws e))))
    (ne_eqb block.sequence (length (Ws block.unit) + 1) (λ e. never (inr (e ∙ ap (λ (V : List Raw). length V + 1) (sym (same block.unit))))))

-- ---- A block more
fault_step : (end : Option AuditFault) (place : ℕ) (before : List Block) (block : Block) (blocks : List Block) (b : Bool) → may_follow (logged before) block ≡ b
    → fault_behind end place before (block ∷ blocks) ≡ cond b (fault_behind end (place + (8 + length (concat block.raws))) (block ∷ before) blocks) (Some (gap_at place block.sequence (length (logged before block.unit) + 1)))
fault_step end place before block blocks b is = ap (λ (x : Bool). cond x (fault_behind end (place + (8 + length (concat block.raws))) (block ∷ before) blocks) (Some (gap_at place block.sequence (length (logged before block.unit) + 1)))) is

pub logs_more : (log : List ℕ) (audit new : List (List Raw)) (at to : ℕ) (block : Block) → LogsSo log audit at → StandsFirst (drop at log) block → MayFollow (messages_at audit) block → ((unit : ℕ) → messages_at new unit ≡ with_block block (messages_at audit) unit)
    → to ≡ at + (header_for block).length → LogsSo log new to
logs_more log audit new at to block L stands may grows is =
    let lead = leads (drop at log) block stands in
    let left = length-drop at log in
    let fits = lead.fits in
    let within = L.within in
    let next : drop (header_for block).length (drop at log) ≡ drop to log = drop-drop (header_for block).length at log ∙ ap (λ (k : ℕ). drop k log) (sym is) in
    let here : blocks_of (drop at log) ≡ block ∷ blocks_of (drop to log) = lead.blocks ∙ ap (λ (l : List ℕ). block ∷ blocks_of l) next in
    record {
      within = omega (arith, left, fits, within, is);
      before = block ∷ L.before;
      has = λ unit. grows unit ∙ ap (λ (V : List Raw). if block.unit == unit then V ++ block.raws else V) (L.has unit);
      blocks = ap (λ (bs : List Block). bs ++ blocks_of (drop to log)) (reverse-append (block ∷ []) L.before) ∙ append_assoc (reverse L.before) (block ∷ []) (blocks_of (drop to log))
          ∙ ap (λ (bs : List Block). reverse L.before ++ bs) (sym here) ∙ L.blocks;
      rest = ap rest_of (sym next) ∙ sym lead.rest_is ∙ L.rest;
      fault = ap (λ (p : ℕ). fault_behind (end_of log) p (block ∷ L.before) (blocks_of (drop to log))) (place at to (length (concat block.raws)) is)
          ∙ sym (fault_step (end_of log) (8 + at) L.before block (blocks_of (drop to log)) true (may_is (messages_at audit) (logged L.before) block L.has may))
          ∙ ap (fault_behind (end_of log) (8 + at) L.before) (sym here) ∙ L.fault;
    }
  where
    place : (at to n : ℕ) → to ≡ at + (8 + n) → 8 + to ≡ 8 + at + (8 + n)
    place at to n e = omega (arith, e)

-- ---- How it ends
pub logs_gap : (log : List ℕ) (audit : List (List Raw)) (at : ℕ) (block : Block) (fault : AuditFault) → LogsSo log audit at → StandsFirst (drop at log) block → (MayFollow (messages_at audit) block → ⊥)
    → fault ≡ gap_at (8 + at) block.sequence (length (messages_at audit block.unit) + 1) → fault_in_log log ≡ Some fault
logs_gap log audit at block fault L stands never is =
    let lead = leads (drop at log) block stands in
    sym L.fault ∙ ap (fault_behind (end_of log) (8 + at) L.before) lead.blocks
    ∙ fault_step (end_of log) (8 + at) L.before block (blocks_of (drop (header_for block).length (drop at log))) false (may_not (messages_at audit) (logged L.before) block L.has never)
    ∙ ap (λ (V : List Raw). Some (gap_at (8 + at) block.sequence (length V + 1))) (sym (L.has block.unit)) ∙ ap (λ (f : AuditFault). Some f) (sym is)

pub logs_bad : (log : List ℕ) (audit : List (List Raw)) (at : ℕ) (e : BlockError) → LogsSo log audit at → at < length log → judge (drop at log) ≡ Err e → fault_in_log log ≡ Some (Faulty (record { place = 8 + at; error = e }))
logs_bad log audit at e L lt bad =
    let none = none_of (drop at log) e bad in
    let rest : rest_of log ≡ drop at log = sym L.rest ∙ none.rest in
    let left = length-drop at log in
    let many = ap length rest in
    let place : place_of log ≡ at = omega (arith, left, many, lt) in
    let some : 0 < length (rest_of log) = omega (arith, left, many, lt) in
    sym L.fault ∙ ap (fault_behind (end_of log) (8 + at) L.before) none.blocks
    ∙ ap (option_map in_log) (fault_rest log e some (ap judge rest ∙ bad)) ∙ ap (λ (p : ℕ). Some (Faulty (record { place = 8 + p; error = e }))) place

pub logs_end : (log : List ℕ) (audit : List (List Raw)) (at : ℕ) → LogsSo log audit at → length log ≤ at → LogsAll log audit
logs_end log audit at L end =
    let nothing : drop at log ≡ [] = nil_from_length (drop at log) (let left = length-drop at log in omega (arith, left, end)) in
    let none : blocks_of (drop at log) ≡ [] = ap blocks_of nothing ∙ of_nothing.blocks in
    let no_rest : rest_of log ≡ [] = sym L.rest ∙ ap rest_of nothing ∙ of_nothing.rest in (
      sym L.fault ∙ ap (fault_behind (end_of log) (8 + at) L.before) none ∙ ap (option_map in_log) (fault_no_rest log no_rest),
      λ unit. L.has unit ∙ ap (λ (bs : List Block). logged bs unit) (back L.before (sym (append-nil (reverse L.before)) ∙ ap (λ (bs : List Block). reverse L.before ++ bs) (sym none) ∙ L.blocks)),
    )
  where
    back : {bs : List Block} (before : List Block) → reverse before ≡ bs → before ≡ reverse bs
    back before e = sym (reverse-reverse before) ∙ ap reverse e

pub logs_refused : (log : List ℕ) (audit new : List (List Raw)) (at : ℕ) (block : Block) (e : InputError) → LogsSo log audit at → StandsFirst (drop at log) block → LogsOne audit new block (8 + at) (Err e) → IsLogRefused log e
logs_refused log audit new at block (Fault fault) L stands one = logs_gap log audit at block fault L stands one.0 one.1
logs_refused log audit new at block OutOfMemory L stands one = tt

pub logs_on : (log : List ℕ) (audit new : List (List Raw)) (at to : ℕ) (block : Block) (r : Result (Unit {0}) InputError) → LogsSo log audit at → StandsFirst (drop at log) block → LogsOne audit new block (8 + at) r → IsOk r → to ≡ at + (header_for block).length → LogsSo log new to
logs_on log audit new at to block (Ok done) L stands one ok is = logs_more log audit new at to block L stands one.0 one.1 is
logs_on log audit new at to block (Err e) L stands one ok is = absurd cc

-- the bytes from a place on, as a slice has them
pub slice_is : (log : List ℕ) (at : ℕ) → take (length log - at) (drop at log) ≡ drop at log
slice_is log at = take_all (length log - at) (drop at log) (omega (arith, length-drop at log))

-- ---- A whole input
-- which of the three is wrong
shown : (a b : Bool) (x y z : Option AuditFault) → a ≡ false → b ≡ false → (if a then x else (if b then y else z)) ≡ z
shown true b x y z e f = absurd cc
shown false true x y z e f = absurd cc
shown false false x y z e f = refl

shown_second : (a b : Bool) (x y z : Option AuditFault) → a ≡ false → b ≡ true → (if a then x else (if b then y else z)) ≡ y
shown_second true b x y z e f = absurd cc
shown_second false true x y z e f = refl
shown_second false false x y z e f = absurd cc

shown_first : (a : Bool) (x y : Option AuditFault) → a ≡ true → (if a then x else y) ≡ x
shown_first true x y e = refl
shown_first false x y e = absurd cc

pub cut_short : (bytes : List ℕ) → length bytes < 8 → input_fault bytes ≡ Some (NoSize (length bytes))
unfolding input_fault
cut_short bytes few = shown_first _ _ _ (lt-ltb (length bytes) 8 few)

pub cut_log : (bytes rest : List ℕ) (needs : ℕ) → 8 ≤ length bytes → rest ≡ drop 8 bytes → needs ≡ log_size bytes → length rest < needs → input_fault bytes ≡ Some (CutLog (length rest) needs)
unfolding input_fault
cut_log bytes rest needs many r n few =
    shown_second _ _ _ _ _ (le-ltb (length bytes) 8 many) (lt-ltb (length (drop 8 bytes)) (log_size bytes) (let l = ap length r in omega (arith, few, l, n)))
    ∙ ap (λ (l : List ℕ). Some (CutLog (length l) (log_size bytes))) (sym r) ∙ ap (λ (k : ℕ). Some (CutLog (length rest) k)) (sym n)

log_there : (bytes rest : List ℕ) (needs : ℕ) → 8 ≤ length bytes → rest ≡ drop 8 bytes → needs ≡ log_size bytes → needs ≤ length rest → input_fault bytes ≡ fault_in_log (log_in bytes)
unfolding input_fault
log_there bytes rest needs many r n le = shown _ _ _ _ _ (le-ltb (length bytes) 8 many) (le-ltb (length (drop 8 bytes)) (log_size bytes) (let l = ap length r in omega (arith, le, l, n)))

-- the log of an input
log_is : (bytes rest log : List ℕ) (needs : ℕ) → rest ≡ drop 8 bytes → needs ≡ log_size bytes → log ≡ take needs rest → log ≡ log_in bytes
log_is bytes rest log needs r n front = front ∙ ap (take needs) r ∙ ap (λ (k : ℕ). take k (drop 8 bytes)) n

report_is : (bytes rest text : List ℕ) (needs : ℕ) → rest ≡ drop 8 bytes → needs ≡ log_size bytes → text ≡ drop needs rest → text ≡ report_in bytes
report_is bytes rest text needs r n back = back ∙ ap (drop needs) r ∙ ap (λ (k : ℕ). drop k (drop 8 bytes)) n

pub input_refused : (bytes rest log : List ℕ) (needs : ℕ) (e : InputError) → 8 ≤ length bytes → rest ≡ drop 8 bytes → needs ≡ log_size bytes → needs ≤ length rest → log ≡ take needs rest → IsLogRefused log e → IsRefused bytes e
input_refused bytes rest log needs (Fault fault) many r n le front refused = log_there bytes rest needs many r n le ∙ ap fault_in_log (sym (log_is bytes rest log needs r n front)) ∙ refused
input_refused bytes rest log needs OutOfMemory many r n le front refused = tt

pub input_audited : (bytes rest log text : List ℕ) (needs : ℕ) (audit : List (List Raw)) (r : Result Verdict InputError) → 8 ≤ length bytes → rest ≡ drop 8 bytes → needs ≡ log_size bytes → needs ≤ length rest → log ≡ take needs rest → text ≡ drop needs rest
    → LogsAll log audit → IfOk r (Judges (messages_at audit) (lines_of text)) → IfOk r (Audits bytes)
input_audited bytes rest log text needs audit (Err e) many d n le front back all judged = tt
input_audited bytes rest log text needs audit (Ok verdict) many d n le front back all judged =
    let is = log_is bytes rest log needs d n front in
    let same : messages_at audit ≡ messages_in bytes = fun_ext (λ unit. all.1 unit ∙ ap (λ (l : List ℕ). logged (reverse (blocks_of l)) unit) is) in (
      log_there bytes rest needs many d n le ∙ ap fault_in_log (sym is) ∙ all.0,
      subst (λ (Vs : ℕ → List Raw). Judges Vs (lines_of (report_in bytes)) verdict) same (subst (λ (l : List ℕ). Judges (messages_at audit) (lines_of l) verdict) (report_is bytes rest text needs d n back) judged),
    )
