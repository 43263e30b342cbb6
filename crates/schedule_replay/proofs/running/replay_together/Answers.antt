use Rattle.std.proofs.Common.{reverse}
use Rattle.schedule_replay.specs.layers.Places.{worlds_in}
use Rattle.schedule_replay.proofs.Places.{all_worlds_are}
use Rattle.schedule_replay.proofs.running.replay_together.Goals as goal

pub returns-clause-worlds : goal.returns-clause-worlds
returns-clause-worlds g c =
    let runs = c.in_ok-run_text.ensures.runs in
    record {
      added = worlds_in c.run_text.new.places.items;
      appended = c.in_ok-append_worlds.ensures.ok;
      run = record { entries = runs.entries; read = runs.read; are = all_worlds_are c.run_text.new.places.items (reverse runs.entries) runs.are };
    }
