use Rattle.std.proofs.lemmas.Bool.{and_parts}
use Rattle.clap.specs.Simple.{app_of, built, is_simple}
use Rattle.clap.specs.Faults.{is_free_app}
use Rattle.long_options.proofs.matching.matches_of.Goals as goal

pub returns-in-Ok : goal.returns-in-Ok
returns-in-Ok c =
    let app = app_of c.args.app in
    (c.in-Ok.ensures.kinds c.requires, (c.in-Ok.ensures.matches (and_parts (is_simple app) (is_free_app (built app)) c.requires).0).1)
