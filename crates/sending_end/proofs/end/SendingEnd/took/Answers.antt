use Rattle.std.proofs.Common.{ℕ, OnOk, OnErr, sym, subst}
use Rattle.sending_end.specs.Waiting.{took, lost}
use Rattle.sending_end.specs.Stands.{Passes}
use Rattle.sending_end.specs.declared.session.Session.{Session}
use Rattle.sending_end.proofs.end.SendingEnd.took.Goals as goal

pub returns-in-Proxy-clause-passes : goal.returns-in-Proxy-clause-passes
returns-in-Proxy-clause-passes c = subst (λ (session : Session). OnOk c.take_from_proxy.result (Passes c.args.self.now c.take_from_proxy.new.self (took session c.args.piece.now))) (sym c.in-Proxy.is) c.take_from_proxy.ensures.passes

pub returns-in-Proxy-clause-err : goal.returns-in-Proxy-clause-err
returns-in-Proxy-clause-err c = subst (λ (session : Session). OnErr c.take_from_proxy.result ((count : ℕ) × Passes c.args.self.now c.take_from_proxy.new.self (lost session c.args.piece.now count))) (sym c.in-Proxy.is) c.take_from_proxy.ensures.err

pub returns-in-SpinServer-clause-passes : goal.returns-in-SpinServer-clause-passes
returns-in-SpinServer-clause-passes c = subst (λ (session : Session). OnOk c.take_from_spin_server.result (Passes c.args.self.now c.take_from_spin_server.new.self (took session c.args.piece.now))) (sym c.in-SpinServer.is) c.take_from_spin_server.ensures.passes

pub returns-in-SpinServer-clause-err : goal.returns-in-SpinServer-clause-err
returns-in-SpinServer-clause-err c = subst (λ (session : Session). OnErr c.take_from_spin_server.result ((count : ℕ) × Passes c.args.self.now c.take_from_spin_server.new.self (lost session c.args.piece.now count))) (sym c.in-SpinServer.is) c.take_from_spin_server.ensures.err
