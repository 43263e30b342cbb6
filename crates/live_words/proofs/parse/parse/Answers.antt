use Rattle.std.proofs.Common.{◌≡◌, ◌≢◌, List, ℕ, [], map, string_bytes, subst, IfOk, MatchOption}
use Rattle.clap.specs.Faults.{fault_of}
use Rattle.clap.specs.Simple.{App, subcommand_of, subcommand_rows_of}
use Rattle.live_words.proofs.parse.parse.Goals as goal

pub returns : goal.returns
returns c =
    let words : List (List ℕ) = map string_bytes c.args.words.now in
    subst (λ (app : App). IfOk c.matches_of.result (λ read. MatchOption read (fault_of app words ≢ [])
    (λ m. (fault_of app words ≡ []) × (subcommand_rows_of m ≡ subcommand_of app words))))
    c.in-Ok.ensures.app c.matches_of.ensures
