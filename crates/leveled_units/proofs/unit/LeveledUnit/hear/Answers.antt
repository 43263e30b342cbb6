use Rattle.leveled_units.proofs.unit.LeveledUnit.hear.Goals as goal

pub returns-clause-keeps : goal.returns-clause-keeps
returns-clause-keeps c = rw (← c.self.view_is) c.hear.ensures.keeps

pub returns-clause-room : goal.returns-clause-room
returns-clause-room c = rw (← c.self.view_is) c.hear.ensures.room
