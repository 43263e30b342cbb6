-- The lists of messages, one for each unit.
use Rattle.std.proofs.Common.{◌≡◌, ◌⊎◌, ℕ, zero, suc, ◌+◌, ◌<◌, ◌≤◌, Bool, true, false, ◌==◌, cond, if◌then◌else◌, List, [], ◌∷◌, ◌++◌, length, refl, sym, ap, ◌∙◌, subst, inl, inr, arith, Some, slice_get, slice_set, slice_index_or, eq-eqb}
use Rattle.std.proofs.lemmas.Bool.{cases_eq, ne_eqb}
use Rattle.std.proofs.lemmas.List.{append-nil}
use Rattle.pitch_messages.specs.Room.{Roomy}
use Rattle.unit_packets.specs.Blocks.{StaysWithin}
use Rattle.pitch_model.specs.History.{Raw}
use Rattle.run_audit.specs.layers.Finding.{messages_of}
use Rattle.std.proofs.Common.{Result, Ok, Err, OnOk, OnErr, IfErr}
use Rattle.std.proofs.lemmas.Option.{same_Some}
use Rattle.run_audit.specs.declared.error.AuditError.{AuditError}
use Rattle.run_audit.specs.layers.Following.{AreShort, IsGapAt}
use Rattle.run_audit.proofs.Walking.{log_at, messages_here}

-- ---- Lists that are short
short_more : (logs : List (Roomy Raw)) (log : Roomy Raw) → AreShort logs → length log.items ≤ 4294967294 → AreShort (logs ++ log ∷ [])
short_more [] log a b = (b, tt)
short_more (x ∷ logs) log a b = (a.0, short_more logs log a.1 b)

pub short_set : (logs : List (Roomy Raw)) (i : ℕ) (log : Roomy Raw) → AreShort logs → length log.items ≤ 4294967294 → AreShort (slice_set logs i log)
short_set [] i log a b = tt
short_set (x ∷ logs) zero log a b = (b, a.1)
short_set (x ∷ logs) (suc i) log a b = (a.0, short_set logs i log a.1 b)

short_here : (logs : List (Roomy Raw)) (i : ℕ) (log : Roomy Raw) → AreShort logs → slice_get logs i ≡ Some log → length log.items ≤ 4294967294
short_here [] i log a l = absurd cc
short_here (x ∷ logs) zero log a l = subst (λ (z : Roomy Raw). length z.items ≤ 4294967294) (same_Some x log l) a.0
short_here (x ∷ logs) (suc i) log a l = short_here logs i log a.1 l

pub short_at : (logs : List (Roomy Raw)) (i : ℕ) (log : Roomy Raw) → AreShort logs → i < length logs → log ≡ slice_index_or logs i log → length log.items ≤ 4294967294
short_at logs i log a lt is = short_here logs i log a (log_at logs i log lt is)

-- ---- One list more
same_more : (logs : List (Roomy Raw)) (log : Roomy Raw) (of : ℕ) → log.items ≡ [] → messages_of (logs ++ log ∷ []) of ≡ messages_of logs of
same_more [] log zero e = e
same_more [] log (suc of) e = refl
same_more (x ∷ logs) log zero e = refl
same_more (x ∷ logs) log (suc of) e = same_more logs log of e

pub list_more : (logs new first : List (Roomy Raw)) (log : Roomy Raw) → log.items ≡ [] → new ≡ logs ++ log ∷ [] → ((of : ℕ) → messages_of logs of ≡ messages_of first of) → (of : ℕ) → messages_of new of ≡ messages_of first of
list_more logs new first log e is same of = ap (λ (ls : List (Roomy Raw)). messages_of ls of) is ∙ same_more logs log of e ∙ same of

pub still_short : (logs new : List (Roomy Raw)) (log : Roomy Raw) → log.items ≡ [] → new ≡ logs ++ log ∷ [] → AreShort logs → AreShort new
still_short logs new log e is a = subst AreShort (sym is) (short_more logs log a (let none = ap length e in omega (arith, none)))

-- ---- One list changed
put_here : (logs : List (Roomy Raw)) (i : ℕ) (new : Roomy Raw) → i < length logs → messages_of (slice_set logs i new) i ≡ new.items
put_here [] i new lt = absurd (omega arith)
put_here (x ∷ logs) zero new lt = refl
put_here (x ∷ logs) (suc i) new lt = put_here logs i new (omega arith)

put_other : (logs : List (Roomy Raw)) (i of : ℕ) (new : Roomy Raw) → (i ≡ of → ⊥) → messages_of (slice_set logs i new) of ≡ messages_of logs of
put_other [] i of new n = refl
put_other (x ∷ logs) zero zero new n = absurd (n refl)
put_other (x ∷ logs) zero (suc of) new n = refl
put_other (x ∷ logs) (suc i) zero new n = refl
put_other (x ∷ logs) (suc i) (suc of) new n = put_other logs i of new (λ e. n (ap suc e))

-- the messages of a unit, and some more of the one that was changed
pub joined_put : (logs : List (Roomy Raw)) (i : ℕ) (log new : Roomy Raw) (raws : List Raw) → i < length logs → log ≡ slice_index_or logs i log → new.items ≡ log.items ++ raws → (of : ℕ) → messages_of (slice_set logs i new) of ≡ (if i == of then messages_of logs of ++ raws else messages_of logs of)
joined_put logs i log new raws lt is e of = elim (cases_eq i of) [
  | inl h ↦ ap (messages_of (slice_set logs i new)) (sym h) ∙ put_here logs i new lt ∙ e ∙ ap (λ (V : List Raw). V ++ raws) (sym (messages_here logs i log (log_at logs i log lt is)) ∙ ap (messages_of logs) h)
      ∙ sym (ap (λ (b : Bool). cond b (messages_of logs of ++ raws) (messages_of logs of)) (eq-eqb i of h))
  | inr n ↦ put_other logs i of new n ∙ sym (ap (λ (b : Bool). cond b (messages_of logs of ++ raws) (messages_of logs of)) (ne_eqb i of n))
]

pub same_put : (logs : List (Roomy Raw)) (i : ℕ) (log new : Roomy Raw) → i < length logs → log ≡ slice_index_or logs i log → new.items ≡ log.items → (of : ℕ) → messages_of (slice_set logs i new) of ≡ messages_of logs of
same_put logs i log new lt is e of = elim (cases_eq i of) [
  | inl h ↦ ap (messages_of (slice_set logs i new)) (sym h) ∙ put_here logs i new lt ∙ e ∙ sym (messages_here logs i log (log_at logs i log lt is)) ∙ ap (messages_of logs) h
  | inr n ↦ put_other logs i of new n
]

-- no messages more are the same messages
pub none_more : (V raws : List Raw) (b : Bool) → length raws ≡ 0 → V ≡ (if b then V ++ raws else V)
none_more V [] true e = sym (append-nil V)
none_more V [] false e = refl
none_more V (x ∷ raws) b e = absurd (omega arith)

-- ---- The lists after a block
-- the list of its unit, and how many messages that had
here_is : (logs made : List (Roomy Raw)) (unit : ℕ) (log : Roomy Raw) → ((of : ℕ) → messages_of made of ≡ messages_of logs of) → unit < length made → log ≡ slice_index_or made unit log → log.items ≡ messages_of logs unit
here_is logs made unit log same lt is = sym (messages_here made unit log (log_at made unit log lt is)) ∙ same unit

pub logged_ok : {E : Type 0} (r : Result (Unit {0}) E) (logs made : List (Roomy Raw)) (unit : ℕ) (log new : Roomy Raw) (raws : List Raw) → ((of : ℕ) → messages_of made of ≡ messages_of logs of) → unit + 1 ≤ length made → log ≡ slice_index_or made unit log
    → OnOk r (new.items ≡ log.items ++ raws) → OnOk r ((of : ℕ) → messages_of (slice_set made unit new) of ≡ (if unit == of then messages_of logs of ++ raws else messages_of logs of))
logged_ok (Ok u) logs made unit log new raws same many is e = λ of. joined_put made unit log new raws (omega (arith, many)) is e of ∙ ap (λ (V : List Raw). if unit == of then V ++ raws else V) (same of)
logged_ok (Err x) logs made unit log new raws same many is e = tt

pub logged_err : {E : Type 0} (r : Result (Unit {0}) E) (logs made : List (Roomy Raw)) (unit : ℕ) (log new : Roomy Raw) → ((of : ℕ) → messages_of made of ≡ messages_of logs of) → unit + 1 ≤ length made → log ≡ slice_index_or made unit log
    → OnErr r (new.items ≡ log.items) → OnErr r ((of : ℕ) → messages_of (slice_set made unit new) of ≡ messages_of logs of)
logged_err (Ok u) logs made unit log new same many is e = tt
logged_err (Err x) logs made unit log new same many is e = λ of. same_put made unit log new (omega (arith, many)) is e of ∙ same of

pub logged_next : {E : Type 0} (r : Result (Unit {0}) E) (logs made : List (Roomy Raw)) (unit first : ℕ) (log : Roomy Raw) (raws : List Raw) → ((of : ℕ) → messages_of made of ≡ messages_of logs of) → unit + 1 ≤ length made → log ≡ slice_index_or made unit log
    → OnOk r (first ≡ length log.items + 1) → OnOk r ((raws ≡ []) ⊎ (first ≡ length (messages_of logs unit) + 1))
logged_next (Ok u) logs made unit first log raws same many is e = inr (e ∙ ap (λ (V : List Raw). length V + 1) (here_is logs made unit log same (omega (arith, many)) is))
logged_next (Err x) logs made unit first log raws same many is e = tt

pub logged_gap : (r : Result (Unit {0}) AuditError) (logs made : List (Roomy Raw)) (unit first : ℕ) (log : Roomy Raw) (raws : List Raw) → ((of : ℕ) → messages_of made of ≡ messages_of logs of) → unit + 1 ≤ length made → log ≡ slice_index_or made unit log
    → IfErr r (IsGapAt raws first (length log.items + 1)) → IfErr r (IsGapAt raws first (length (messages_of logs unit) + 1))
logged_gap r logs made unit first log raws same many is e = subst (λ (V : List Raw). IfErr r (IsGapAt raws first (length V + 1))) (here_is logs made unit log same (omega (arith, many)) is) e

-- no unit has more messages than there are sequences
pub few_all : (logs : List (Roomy Raw)) (unit : ℕ) → AreShort logs → length (messages_of logs unit) < 4294967296
few_all [] unit a = omega arith
few_all (x ∷ logs) zero a = let here = a.0 in omega (arith, here)
few_all (x ∷ logs) (suc unit) a = few_all logs unit a.1

-- where messages stay within the sequences, and have one
pub past : (sequence count : ℕ) → StaysWithin sequence count → 0 < count → 0 < sequence → sequence + count ≤ 4294967295
past sequence count (inl none) some first = absurd (omega (arith, none, first))
past sequence count (inr (inl none)) some first = absurd (omega (arith, none, some))
past sequence count (inr (inr le)) some first = omega (arith, le)
