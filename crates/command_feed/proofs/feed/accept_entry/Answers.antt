use Rattle.command_feed.proofs.Accepted.{none_where_ok, entry_refused}
use Rattle.command_feed.proofs.feed.accept_entry.Goals as goal

pub returns-in-Ok-clause-ok : goal.returns-in-Ok-clause-ok
returns-in-Ok-clause-ok c = λ accepted stands. record { none = none_where_ok _ _ _ (c.in-Ok.ensures.answer accepted 0 stands); stands = c.in-Ok.ensures.ok accepted 0 stands }

pub returns-in-Err-clause-err : goal.returns-in-Err-clause-err
returns-in-Err-clause-err c = λ accepted stands. entry_refused accepted c.args.entry.now c.in-Err.error _ c.refused.result (c.in-Err.ensures.answer accepted 0 stands) c.refused.ensures
