use Rattle.pitch_text.proofs.ManyLines.{lines_again, items_again}
use Rattle.storm_replay.specs.Storm.{storm_entries}
use Rattle.storm_replay.proofs.Reading.{storm_given}
use Rattle.storm_replay.proofs.Sizes.{storm_size}
use Rattle.storm_replay.proofs.laws.storms_are_read.Goals as goal

pub returns-clause-reads : goal.returns-clause-reads
returns-clause-reads c number units steps few low = lines_again (storm_entries number units steps) (storm_given number units steps few low)

pub returns-clause-items : goal.returns-clause-items
returns-clause-items c number units steps few low = items_again (storm_entries number units steps) (storm_given number units steps few low)

pub returns-clause-size : goal.returns-clause-size
returns-clause-size c = storm_size
