use Rattle.std.proofs.Common.{◌≡◌, true, false, ◌||◌, ap, sym, refl, arith, rules, nat_eq}
use Rattle.gap_store.specs.declared.found.Found.TheVariants.{Ahead, NotKept}
use Rattle.grp_session.specs.Asking.{status_found}
use Rattle.grp_session.specs.Budget.{Counted}
use Rattle.grp_session.proofs.Asked.{still_shown, found_shown, packed_shown, asked_plain, status_there, status_count, status_range, asked_refused, asked_limited, asked_gone, asked_taken}
use Rattle.grp_session.proofs.asking.ask.Goals as goal

pub returns-then-not-there-clause-asked : goal.returns-then-not-there-clause-asked
returns-then-not-there-clause-asked g c = λ spent view counted shows.
    asked_plain c.args.range.unit c.args.there false _ _ _ 85 spent view _ _ _ counted shows (search rules) (status_there _ view spent _ _) refl

pub returns-then-range-gt100-clause-asked : goal.returns-then-range-gt100-clause-asked
returns-then-range-gt100-clause-asked g c = λ spent view counted shows.
    asked_plain c.args.range.unit c.args.there true _ _ _ 67 spent view _ _ _ counted shows (search rules) (status_count _ view spent _ _ (omega arith)) refl

pub returns-then-range-eq0-clause-asked : goal.returns-then-range-eq0-clause-asked
returns-then-range-eq0-clause-asked g c = λ spent view counted shows.
    let none : (nat_eq c.args.range.count 0 || nat_eq c.args.range.first 0) ≡ true = search rules in
    asked_plain c.args.range.unit c.args.there true _ _ _ 79 spent view _ _ _ counted shows (search rules) (status_range _ view spent _ _ (omega arith) none) refl

pub returns-in-Ahead-clause-asked : goal.returns-in-Ahead-clause-asked
returns-in-Ahead-clause-asked g c = λ spent view counted shows.
    let there : c.args.there ≡ true = search rules in
    let found = c.in_ok-find-in-Some.ensures.found view shows in
    asked_refused c.args.range.unit c.args.there _ _ _ spent view found.now _ c.in_ok-find-in-Some.field-0 found.later found.shows found.answer there (omega arith) (omega arith) (omega arith)
    79 (Counted c.args.budget.now) _ (sym (ap (status_found _ spent) c.in-Ahead.is)) refl counted

pub returns-in-NotKept-clause-asked : goal.returns-in-NotKept-clause-asked
returns-in-NotKept-clause-asked g c = λ spent view counted shows.
    let there : c.args.there ≡ true = search rules in
    let found = c.in_ok-find-in-Some.ensures.found view shows in
    asked_refused c.args.range.unit c.args.there _ _ _ spent view found.now _ c.in_ok-find-in-Some.field-0 found.later found.shows found.answer there (omega arith) (omega arith) (omega arith)
    79 (Counted c.args.budget.now) _ (sym (ap (status_found _ spent) c.in-NotKept.is)) refl counted

pub returns-in-Kept-clause-asked : goal.returns-in-Kept-clause-asked
returns-in-Kept-clause-asked g c = λ spent view counted shows.
    let there : c.args.there ≡ true = search rules in
    let found = c.in_ok-find-in-Some.ensures.found view shows in
    asked_limited c.args.range.unit c.args.there _ _ _ spent view found.now _ c.in_ok-find-in-Some.field-0 found.later found.shows found.answer there (omega arith) (omega arith) (omega arith)
    c.in-Some.status (Counted c.args.budget.now) _ c.in-Kept.is (c.in-Some.ensures.reached spent counted) counted

pub returns-in-Ahead-2-clause-asked : goal.returns-in-Ahead-2-clause-asked
returns-in-Ahead-2-clause-asked g c = λ spent view counted shows.
    let there : c.args.there ≡ true = search rules in
    let found = c.in_ok-pack-in-None.ensures.found view shows in
    asked_gone c.args.range.unit c.args.there _ _ _ spent view found.now _ c.in_ok-pack-in-None.field-0 found.later found.shows found.answer there (omega arith) (omega arith) (omega arith)
    (Ahead c.in-Ahead-2.last) (Counted c.args.budget.now) _ _ c.in-Ahead-2.is refl refl found.packs counted

pub returns-in-NotKept-2-clause-asked : goal.returns-in-NotKept-2-clause-asked
returns-in-NotKept-2-clause-asked g c = λ spent view counted shows.
    let there : c.args.there ≡ true = search rules in
    let found = c.in_ok-pack-in-None.ensures.found view shows in
    asked_gone c.args.range.unit c.args.there _ _ _ spent view found.now _ c.in_ok-pack-in-None.field-0 found.later found.shows found.answer there (omega arith) (omega arith) (omega arith)
    (NotKept c.in-NotKept-2.first) (Counted c.args.budget.now) _ _ c.in-NotKept-2.is refl refl found.packs counted

pub returns-in-Kept-2-clause-asked : goal.returns-in-Kept-2-clause-asked
returns-in-Kept-2-clause-asked g c = λ spent view counted shows.
    let there : c.args.there ≡ true = search rules in
    let found = c.in_ok-pack-in-None.ensures.found view shows in
    asked_taken c.args.range.unit c.args.there _ _ _ spent view found.now _ c.in_ok-pack-in-None.field-0 found.later found.shows found.answer there (omega arith) (omega arith) (omega arith)
    (Counted c.spend.new.self) _ _ c.in-Kept-2.is (c.in-None.ensures.reached spent counted) found.packs (c.spend.ensures.spent spent counted)

pub returns-then-not-there-clause-left : goal.returns-then-not-there-clause-left
returns-then-not-there-clause-left g c = λ view shows. still_shown _ view shows

pub returns-then-range-gt100-clause-left : goal.returns-then-range-gt100-clause-left
returns-then-range-gt100-clause-left g c = λ view shows. still_shown _ view shows

pub returns-then-range-eq0-clause-left : goal.returns-then-range-eq0-clause-left
returns-then-range-eq0-clause-left g c = λ view shows. still_shown _ view shows

pub returns-in_err-find-in-Some-clause-left : goal.returns-in_err-find-in-Some-clause-left
returns-in_err-find-in-Some-clause-left g c = λ view shows. still_shown _ view (c.in_err-find-in-Some.ensures.shown view shows)

pub returns-in_err-pack-in-None-clause-left : goal.returns-in_err-pack-in-None-clause-left
returns-in_err-pack-in-None-clause-left g c = λ view shows. still_shown _ view (c.in_err-pack-in-None.ensures.shown view shows)

pub returns-in-Ahead-clause-left : goal.returns-in-Ahead-clause-left
returns-in-Ahead-clause-left g c = λ view shows. found_shown _ view _ _ _ (c.in_ok-find-in-Some.ensures.found view shows)

pub returns-in-NotKept-clause-left : goal.returns-in-NotKept-clause-left
returns-in-NotKept-clause-left g c = λ view shows. found_shown _ view _ _ _ (c.in_ok-find-in-Some.ensures.found view shows)

pub returns-in-Kept-clause-left : goal.returns-in-Kept-clause-left
returns-in-Kept-clause-left g c = λ view shows. found_shown _ view _ _ _ (c.in_ok-find-in-Some.ensures.found view shows)

pub returns-in-Ahead-2-clause-left : goal.returns-in-Ahead-2-clause-left
returns-in-Ahead-2-clause-left g c = λ view shows. packed_shown _ view _ _ _ _ _ _ (c.in_ok-pack-in-None.ensures.found view shows)

pub returns-in-NotKept-2-clause-left : goal.returns-in-NotKept-2-clause-left
returns-in-NotKept-2-clause-left g c = λ view shows. packed_shown _ view _ _ _ _ _ _ (c.in_ok-pack-in-None.ensures.found view shows)

pub returns-in-Kept-2-clause-left : goal.returns-in-Kept-2-clause-left
returns-in-Kept-2-clause-left g c = λ view shows. packed_shown _ view _ _ _ _ _ _ (c.in_ok-pack-in-None.ensures.found view shows)
