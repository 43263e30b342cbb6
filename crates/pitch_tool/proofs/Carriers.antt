-- A carrier that the words allow suits what is printed of its stream.
use Rattle.std.proofs.Common.{◌≡◌, ap, subst, sym}
use Rattle.pitch_words.specs.declared.form.Carried.{Carried}
use Rattle.pitch_words.specs.declared.form.StreamWords.{StreamWords}
use Rattle.pitch_words.specs.declared.form.StreamWords.TheVariants.{Follow, Show, Relay, Quotes}
use Rattle.pitch_words.specs.layers.Commands.{MayCarry}
use Rattle.stream_print.specs.declared.carrier.Carrier.{Carrier}
use Rattle.stream_print.specs.declared.stream_form.StreamForm.{StreamForm}
use Rattle.stream_print.specs.layers.Suiting.{Suits}
use Rattle.pitch_tool.specs.Jobs.{carrier_of, printed_of}

may_suit : (carried : Carried) (form : StreamWords) → MayCarry carried form → Suits (carrier_of carried) (printed_of form)
may_suit carried (Follow hold) may = tt
may_suit carried Show may = tt
may_suit carried (Relay hold) may = ap carrier_of may
may_suit carried (Quotes hold) may = tt

pub suits : (carried : Carried) (form : StreamWords) (carrier : Carrier) (printed : StreamForm) → carrier ≡ carrier_of carried → printed ≡ printed_of form → MayCarry carried form → Suits carrier printed
suits carried form carrier printed carries prints may =
    subst (λ (c : Carrier). Suits c printed) (sym carries) (subst (λ (p : StreamForm). Suits (carrier_of carried) p) (sym prints) (may_suit carried form may))
