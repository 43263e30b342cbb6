-- The default limits, by their numbers.
use Rattle.std.proofs.Common.{◌≡◌, refl, None}
use Rattle.pitch_text.specs.ScheduleGrammar.{setup_of}
use Rattle.pitch_text.specs.declared.options.Limits.{Limits}
use Rattle.pitch_text.specs.declared.verb.Verb.TheVariants as verbs

abbrev nothing_said : Limits
nothing_said = record { hold = None; kept = None; second = None; minute = None; day = None }

-- an `open` without fields
an_open_alone_has_the_default_limits : setup_of nothing_said ≡ verbs.Setup 4096 65536 10 100 10000
an_open_alone_has_the_default_limits = refl
