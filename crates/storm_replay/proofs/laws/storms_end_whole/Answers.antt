use Rattle.storm_replay.proofs.Whole.{storm_whole}
use Rattle.storm_replay.proofs.laws.storms_end_whole.Goals as goal

pub returns : goal.returns
returns c = storm_whole
