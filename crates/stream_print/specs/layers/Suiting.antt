-- Which carrier suits a form.
use Rattle.std.specs.Prelude.{◌≡◌}
use Rattle.stream_print.specs.declared.carrier.Carrier.{Carrier}
use Rattle.stream_print.specs.declared.carrier.Carrier.TheVariants.{Bare}
use Rattle.stream_print.specs.declared.stream_form.StreamForm.{StreamForm}
use Rattle.stream_print.specs.declared.stream_form.StreamForm.TheVariants as form

-- a relay, behind whose datagrams no line of packets can stand, reads bare blocks
abbrev pub Suits : Carrier → StreamForm → Type 0
Suits carrier (form.Relay hold) = carrier ≡ Bare
Suits carrier other = Unit {0}
