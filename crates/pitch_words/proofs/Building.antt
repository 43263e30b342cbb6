-- A command with one option more, and a program with one command more.
use Rattle.std.proofs.Common.{◌≡◌, ◌∙◌, ◌||◌, ℕ, suc, ◌<◌, ◌+◌, false, List, [], ◌∷◌, ◌++◌, length, map, take, slice_index_or, arith, refl, ap, ap₂, sym}
use Rattle.std.proofs.lemmas.List.{map-append}
use Rattle.std.proofs.Math.Seq.{take-suc}
use Rattle.clap.specs.Built.{AddsArg, AddsSubcommand}
use Rattle.clap.specs.Simple.{App, Shape, app_of, with_rule, with_subcommand}
use Rattle.clap.specs.Walk.{Rule, rule_of}
use Rattle.clap.specs.declared.builder.arg.Arg.{Arg}
use Rattle.clap.specs.declared.builder.command.Command.{Command}
use Rattle.long_options.specs.Apps.{command_shape, option_rule}
use Rattle.long_options.specs.Words.{Described, Listed, Text}
use Rattle.pitch_words.specs.layers.Commands.{IsMade, so_far}

-- what is made of the first elements, and of one more
pub one_more : {A B : Type 0} (f : A → B) (xs : List A) (i : ℕ) (d : A) → i < length xs → map f (take (i + 1) xs) ≡ map f (take i xs) ++ f (slice_index_or xs i d) ∷ []
one_more f xs i d lt =
    let e : i + 1 ≡ suc i = omega arith in
    ap (λ (n : ℕ). map f (take n xs)) e ∙ ap (map f) (take-suc xs i d lt) ∙ map-append f (take i xs) (slice_index_or xs i d ∷ [])

pub with_option : (name : Text) (options : List Listed) (o : Listed) (old new : Command) (arg : Arg) → IsMade (name, options) old → rule_of arg ≡ option_rule o → arg.global ≡ false → AddsArg old arg new → IsMade (name, options ++ o ∷ []) new
with_option name options o old new arg made rule local adds =
    let same : map option_rule options ++ option_rule o ∷ [] ≡ map option_rule (options ++ o ∷ []) = sym (map-append option_rule options (o ∷ [])) in
    (adds.shape local ∙ ap₂ with_rule made.0 rule ∙ ap (λ (rules : List Rule). record { top = record (command_shape (name, [])) { rules = rules }; subs = [] }) same, adds.globals ∙ ap₂ ◌||◌ made.1 local)

grown : (cs : List Described) (c : Described) → with_subcommand (so_far cs) (command_shape c) ≡ so_far (cs ++ c ∷ [])
grown [] c = refl
grown (b ∷ cs) c = ap (λ (subs : List Shape). record { top = (so_far (b ∷ cs)).top; subs = command_shape b ∷ subs }) (sym (map-append command_shape cs (c ∷ [])))

pub with_command : (cs : List Described) (c : Described) (old sub new : Command) → app_of old ≡ so_far cs → IsMade c sub → AddsSubcommand old sub new → app_of new ≡ so_far (cs ++ c ∷ [])
with_command cs c old sub new is made adds =
    adds.shape made.1 ∙ ap₂ with_subcommand is (ap (λ (a : App). a.top) made.0) ∙ grown cs c
