-- clap's answer at the program's own commands.
use Rattle.std.proofs.Common.{◌≡◌, ◌≢◌, ◌∙◌, List, [], ◌∷◌, Result, refl, true, ap, subst, inl, inr}
use Rattle.clap.specs.Values.{kind_of}
use Rattle.clap.specs.Walk.{Text}
use Rattle.clap.specs.Simple.{App, HasMatchesOf, is_simple, subcommand_of, subcommand_rows_of}
use Rattle.clap.specs.Faults.{fault_of, is_simple_and_free}
use Rattle.clap.specs.Kinds.{FailsBy, HasKind, Kinds}
use Rattle.clap.specs.declared.error.Error.{Error}
use Rattle.clap.specs.declared.error.kind.ErrorKind.TheVariants.{OutOfMemory}
use Rattle.clap.specs.declared.parser.matches.ArgMatches.{ArgMatches}
use Rattle.pitch_words.specs.layers.Commands.{pitch}

pitch_simple : is_simple pitch ≡ true
pitch_simple = refl

pitch_free : is_simple_and_free pitch ≡ true
pitch_free = refl

pub found_is : (a : App) (words : List Text) (m : ArgMatches) → a ≡ pitch → HasMatchesOf a words m → subcommand_rows_of m ≡ subcommand_of pitch words
found_is a words m is h = (h (ap is_simple is ∙ pitch_simple)).1 ∙ ap (λ (x : App). subcommand_of x words) is

pub fails_by : {T : Type 0} (a : App) (words : List Text) (r : Result T Error) → a ≡ pitch → (is_simple_and_free a ≡ true → FailsBy (fault_of a words) r) → FailsBy (fault_of pitch words) r
fails_by a words r is h = subst (λ (x : App). FailsBy (fault_of x words) r) is (h (ap is_simple_and_free is ∙ pitch_free))

pub refused : (kinds : Kinds) (e : Error) → HasKind kinds e → kind_of e ≢ OutOfMemory → kinds ≢ []
refused [] e (inl memory) other = absurd (other memory)
refused [] e (inr among) other = absurd among
refused (k ∷ ks) e h other = λ x. cc
