use Rattle.client_end.proofs.HeardItems.{hears_item}
use Rattle.client_end.proofs.hearing.hear_item.Goals as goal

pub returns-in_ok-_change-clause-hears : goal.returns-in_ok-_change-clause-hears
returns-in_ok-_change-clause-hears c =
    hears_item c.args.client.now c.hear.new.self c.args.item.now c.in_ok-_change.ensures.tracks c.in_ok-_change.ensures.keeps
