use Rattle.storm_replay.proofs.Summing.{storm_line_written}
use Rattle.storm_replay.proofs.summary.put_storm_line.Goals as goal

pub returns-clause-text : goal.returns-clause-text
returns-clause-text c =
    storm_line_written _ _ _ _ _ _ _ _ _ _ c.from.ensures c.from-2.ensures c.put_number_field-numbered.ensures.text c.put_number_field-counted.ensures.text c.put_number_field-stepped.ensures.text c.put_byte.ensures.text
