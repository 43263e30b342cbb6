use Rattle.served_laws.proofs.Hearing.{served_is_whole}
use Rattle.served_laws.proofs.Staying.{served_stays}
use Rattle.served_laws.proofs.laws.what_is_served_is_honest.Goals as goal

pub returns-clause-honest : goal.returns-clause-honest
returns-clause-honest c = λ V s came venues comes. (served_is_whole V s came venues comes).honest

pub returns-clause-whole : goal.returns-clause-whole
returns-clause-whole c = λ V s came venues comes. (served_is_whole V s came venues comes).never

pub returns-clause-stays : goal.returns-clause-stays
returns-clause-stays c = served_stays
