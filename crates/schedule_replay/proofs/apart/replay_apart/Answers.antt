use Rattle.schedule_replay.proofs.Joining.{ran_apart, apart_written, apart_worlds}
use Rattle.schedule_replay.proofs.apart.replay_apart.Goals as goal

pub returns-clause-written : goal.returns-clause-written
returns-clause-written g c =
    let runs = c.in_ok-run_lists.ensures in
    apart_written c.args.out.now.items _ (ran_apart c.in_ok-order.ensures c.deref.ensures.value c.in_ok-places.ensures c.in_ok-lefts.ensures runs.runs runs.filled) c.deref-2.ensures.value c.in_ok-merge.ensures.text

pub returns-clause-worlds : goal.returns-clause-worlds
returns-clause-worlds g c =
    let runs = c.in_ok-run_lists.ensures in
    apart_worlds c.args.worlds.now.items _ (ran_apart c.in_ok-order.ensures c.deref.ensures.value c.in_ok-places.ensures c.in_ok-lefts.ensures runs.runs runs.filled) c.in_ok-append_worlds.ensures.ok
