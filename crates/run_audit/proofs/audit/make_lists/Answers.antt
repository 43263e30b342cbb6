use Rattle.std.proofs.Common.{rules}
use Rattle.run_audit.proofs.Logging.{list_more, still_short}
use Rattle.run_audit.proofs.audit.make_lists.Goals as goal

pub lists-preserved : goal.lists-preserved
lists-preserved c = record {
  same = list_more c.lists.logs.items c.push.new.self.items c.args.logs.now.items c.make.result c.make.ensures (search rules) c.lists.invariant.same;
  short = still_short c.lists.logs.items c.push.new.self.items c.make.result c.make.ensures (search rules) c.lists.invariant.short;
}
