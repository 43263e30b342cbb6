use Rattle.std.proofs.Common.{rules, ◌≡◌, ◌+◌, [], Bool, true, false, cond, sym, ap, ◌∙◌}
use Rattle.pitch_model.proofs.Results.{on_err}
use Rattle.stream_print.specs.Putting.{PutsSome}
use Rattle.stream_print.proofs.Printing.{puts_after}
use Rattle.live_units.specs.Coming.{live_lines}
use Rattle.live_units.specs.Units.{OfLive}
use Rattle.live_units.proofs.Growing.{grown_hears, grown_none, grown_puts}
use Rattle.live_units.proofs.Hearing.{not_memory}
use Rattle.live_units.proofs.Taking.{hears_at, hears_wait, there_is}
use Rattle.live_units.proofs.units.LiveUnits.hear_block.Goals as goal

pub returns-in_err-heard-clause-err : goal.returns-in_err-heard-clause-err
returns-in_err-heard-clause-err g c =
    let w = g.O.Sink.written c.args.out.now in
    let v = g.O.Sink.written c.hear_at.new.out in
    on_err (OfLive c.args.self.now w (λ s start came. PutsSome start v (live_lines s came))) _
    (λ s start came st. puts_after start w v [] c.args.self.now.page.text (live_lines s came) st.printed c.in_err-heard.ensures.err)

pub returns-in_err-heard-clause-heartbeat : goal.returns-in_err-heard-clause-heartbeat
returns-in_err-heard-clause-heartbeat g c = λ beat few. not_memory c.from_residual.result _ c.from_residual.ensures (c.in_err-heard.ensures.heartbeat beat)

pub returns-then-heard-clause-hears : goal.returns-then-heard-clause-hears
returns-then-heard-clause-hears g c =
    let l = c.args.self.now in
    let yes : c.in_ok-heard.heard ≡ true = search rules in
    let next : c.in-Some.number ≡ l.number + 1 = search rules in
    hears_at l c.args.block.now c.place_of.result.now c.hear_at.new.place (g.O.Sink.written c.args.out.now) (g.O.Sink.written c.hear_at.new.out) c.hear_at.new.page c.in_ok-heard.heard c.in-Some.number c.in-Some.number next
    (sym (ap (λ (b : Bool). cond b c.in-Some.number l.number) yes)) c.place_of.ensures.there c.in_ok-heard.ensures.hears c.in_ok-heard.ensures.there

pub returns-then-heard-clause-waits : goal.returns-then-heard-clause-waits
returns-then-heard-clause-waits g c =
    hears_wait c.args.self.now.units.places c.args.block.now c.in-Some.number c.place_of.result.now c.hear_at.new.place (g.O.Sink.written c.args.out.now) (g.O.Sink.written c.hear_at.new.out) c.args.self.now.page.text c.hear_at.new.page.text
    c.place_of.ensures.there c.in_ok-heard.ensures.hears

pub returns-then-heard-clause-there : goal.returns-then-heard-clause-there
returns-then-heard-clause-there g c = λ s start came st. c.in_ok-heard.ensures.there ∙ there_is s came c.args.block.now.unit c.place_of.result.now (st.units_are.each c.args.block.now.unit c.place_of.result.now c.place_of.ensures.there)

pub returns-else-heard-clause-hears : goal.returns-else-heard-clause-hears
returns-else-heard-clause-hears g c =
    let l = c.args.self.now in
    let no : c.in_ok-heard.heard ≡ false = search rules in
    let next : c.in-Some.number ≡ l.number + 1 = search rules in
    hears_at l c.args.block.now c.place_of.result.now c.hear_at.new.place (g.O.Sink.written c.args.out.now) (g.O.Sink.written c.hear_at.new.out) c.hear_at.new.page c.in_ok-heard.heard c.in-Some.number l.number next
    (sym (ap (λ (b : Bool). cond b c.in-Some.number l.number) no)) c.place_of.ensures.there c.in_ok-heard.ensures.hears c.in_ok-heard.ensures.there

pub returns-else-heard-clause-waits : goal.returns-else-heard-clause-waits
returns-else-heard-clause-waits g c =
    hears_wait c.args.self.now.units.places c.args.block.now c.in-Some.number c.place_of.result.now c.hear_at.new.place (g.O.Sink.written c.args.out.now) (g.O.Sink.written c.hear_at.new.out) c.args.self.now.page.text c.hear_at.new.page.text
    c.place_of.ensures.there c.in_ok-heard.ensures.hears

pub returns-else-heard-clause-there : goal.returns-else-heard-clause-there
returns-else-heard-clause-there g c = λ s start came st. c.in_ok-heard.ensures.there ∙ there_is s came c.args.block.now.unit c.place_of.result.now (st.units_are.each c.args.block.now.unit c.place_of.result.now c.place_of.ensures.there)

pub returns-in_default-clause-grows : goal.returns-in_default-clause-grows
returns-in_default-clause-grows g c = λ s start came st. grown_none (g.O.Sink.written c.args.out.now)

pub returns-in_err-heard-clause-grows : goal.returns-in_err-heard-clause-grows
returns-in_err-heard-clause-grows g c = λ s start came st. grown_puts (g.O.Sink.written c.args.out.now) (g.O.Sink.written c.hear_at.new.out) c.args.self.now.page.text c.in_err-heard.ensures.err

pub returns-then-heard-clause-grows : goal.returns-then-heard-clause-grows
returns-then-heard-clause-grows g c = λ s start came st.
    grown_hears s came c.args.block.now.unit (g.O.Sink.written c.args.out.now) (g.O.Sink.written c.hear_at.new.out) c.args.self.now.page.text c.hear_at.new.page.text c.in-Some.number c.args.block.now c.place_of.result.now c.hear_at.new.place
    (st.units_are.each c.args.block.now.unit c.place_of.result.now c.place_of.ensures.there) c.in_ok-heard.ensures.hears

pub returns-else-heard-clause-grows : goal.returns-else-heard-clause-grows
returns-else-heard-clause-grows g c = λ s start came st.
    grown_hears s came c.args.block.now.unit (g.O.Sink.written c.args.out.now) (g.O.Sink.written c.hear_at.new.out) c.args.self.now.page.text c.hear_at.new.page.text c.in-Some.number c.args.block.now c.place_of.result.now c.hear_at.new.place
    (st.units_are.each c.args.block.now.unit c.place_of.result.now c.place_of.ensures.there) c.in_ok-heard.ensures.hears
