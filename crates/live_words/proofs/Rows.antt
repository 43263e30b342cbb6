-- The values of an option in what clap found.
use Rattle.std.proofs.Common.{◌≡◌, option_map}
use Rattle.clap.specs.Matches.{first_value, matched_of, raw_values}
use Rattle.clap.specs.Walk.{Text, all_of, first_of, rows_of}
use Rattle.clap.specs.declared.parser.matches.Found.{Found}
use Rattle.clap.proofs.WalkLemmas.{first_value-rows, raw_values-rows}

pub first_is : (f : Found) (id : Text) → first_value f id ≡ first_of id (rows_of f)
first_is f id = first_value-rows f id

pub all_is : (f : Found) (id : Text) → option_map raw_values (matched_of f id) ≡ all_of id (rows_of f)
all_is f id = raw_values-rows f id
