use Rattle.live_listen.proofs.listener.Listener.step.Goals as goal

pub returns-in-Some-clause-steps : goal.returns-in-Some-clause-steps
returns-in-Some-clause-steps g c = c.ask_line.ensures.steps

pub returns-in-None-clause-steps : goal.returns-in-None-clause-steps
returns-in-None-clause-steps g c = c.wait.ensures.steps c.args.setup.now
