use Rattle.std.proofs.Common.{ap, ◌∙◌}
use Rattle.stream_print.specs.declared.stream_form.StreamForm.TheVariants.{Follow}
use Rattle.live_listen.proofs.Standing.{stands_start}
use Rattle.live_listen.proofs.listener.Listener.make.Goals as goal

pub returns-clause-stands : goal.returns-clause-stands
returns-clause-stands c = λ start. stands_start c.args.setup.now c.in_ok-make.field-0 _ start (c.in_ok-make.ensures.form ∙ ap Follow c.hold.ensures) c.in_ok-make.ensures.known c.in_ok-make.ensures.page
