use Rattle.world_laws.proofs.Heartbeat.{told_all}
use Rattle.world_laws.proofs.ProxyRounds.{each_brings, left_needed, ends_current, ends_book, limits_allow}
use Rattle.world_laws.proofs.Reached.{sayable_verbs}
use Rattle.world_laws.proofs.laws.rounds_with_the_proxy_end.Goals as goal

pub returns-clause-each : goal.returns-clause-each
returns-clause-each c = λ unit limits done n small all one short accepted. each_brings unit small limits done (sayable_verbs done all) one n short accepted

pub returns-clause-left : goal.returns-clause-left
returns-clause-left c = λ unit limits done n small all one short accepted. left_needed unit small limits done (sayable_verbs done all) one n short accepted

pub returns-clause-current : goal.returns-clause-current
returns-clause-current c = λ unit limits done n top small all one is accepted told. ends_current unit small limits done (sayable_verbs done all) one n top is accepted told

pub returns-clause-book : goal.returns-clause-book
returns-clause-book c = λ unit limits done n top small all one is accepted told. ends_book unit small limits done (sayable_verbs done all) one n top is accepted told

pub returns-clause-told : goal.returns-clause-told
returns-clause-told c = λ unit limits done small all. told_all unit small limits done (sayable_verbs done all)

pub returns-clause-allowed : goal.returns-clause-allowed
returns-clause-allowed c = λ unit limits done n small all one short kept left. limits_allow unit small limits done (sayable_verbs done all) one kept n short left
