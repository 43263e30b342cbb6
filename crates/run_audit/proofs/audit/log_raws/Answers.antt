use Rattle.run_audit.proofs.Logging.{logged_err, logged_gap, logged_next, logged_ok}
use Rattle.run_audit.proofs.audit.log_raws.Goals as goal

pub returns-clause-ok : goal.returns-clause-ok
returns-clause-ok c = logged_ok c.append.result c.args.logs.now.items c.make_lists.new.logs.items c.args.unit c.index_mut.result.now c.append.new.log c.args.raws c.in_ok-make_lists.ensures.same c.in_ok-make_lists.ensures.count c.index_mut.ensures.value c.append.ensures.ok

pub returns-clause-follows : goal.returns-clause-follows
returns-clause-follows c = logged_next c.append.result c.args.logs.now.items c.make_lists.new.logs.items c.args.unit c.args.sequence c.index_mut.result.now c.args.raws c.in_ok-make_lists.ensures.same c.in_ok-make_lists.ensures.count c.index_mut.ensures.value c.append.ensures.follows

pub returns-clause-gap : goal.returns-clause-gap
returns-clause-gap c = logged_gap c.append.result c.args.logs.now.items c.make_lists.new.logs.items c.args.unit c.args.sequence c.index_mut.result.now c.args.raws c.in_ok-make_lists.ensures.same c.in_ok-make_lists.ensures.count c.index_mut.ensures.value c.append.ensures.gap

pub returns-clause-err : goal.returns-clause-err
returns-clause-err c = logged_err c.append.result c.args.logs.now.items c.make_lists.new.logs.items c.args.unit c.index_mut.result.now c.append.new.log c.in_ok-make_lists.ensures.same c.in_ok-make_lists.ensures.count c.index_mut.ensures.value c.append.ensures.err
