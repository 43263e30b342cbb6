use Rattle.std.proofs.Common.{◌∷◌, refl, ap, arith}
use Rattle.stream_print.specs.Page.{Page}
use Rattle.stream_print.specs.declared.failure.PrintError.TheVariants.{Write}
use Rattle.live_net.specs.LineCalls.{Wait}
use Rattle.live_net.specs.declared.net.Woken.TheVariants as woken
use Rattle.live_listen.specs.Standing.{devices}
use Rattle.live_listen.proofs.Ending.{ends_unflushed, ends_cut_off, shown_now, steps_same}
use Rattle.live_listen.proofs.Placing.{wait_due}
use Rattle.live_listen.proofs.Standing.{stands_same, prints_page}
use Rattle.live_listen.proofs.listener.Listener.wait.Goals as goal

pub returns-in_err-flush-clause-steps : goal.returns-in_err-flush-clause-steps
returns-in_err-flush-clause-steps g c = λ s start run st next.
    let v = devices (g.N.LineNet.calls c.args.net.now) (g.O.Sink.written c.flush.new.out) in
    steps_same s c.from_residual.result _ start v _ c.from_residual.ensures
    (ends_unflushed s start (devices (g.N.LineNet.calls c.args.net.now) (g.O.Sink.written c.args.out.now)) c.args.self.now run st v Write refl c.in_err-flush.ensures.err)

pub returns-in-Ready-clause-steps : goal.returns-in-Ready-clause-steps
returns-in-Ready-clause-steps g c = λ s start run st next.
    let l = c.args.self.now in
    let w = g.O.Sink.written c.args.out.now in
    let v = devices (g.N.LineNet.calls c.wait.new.self) (g.O.Sink.written c.flush.new.out) in
    let page = prints_page l.printer c.flush.new.self w (g.O.Sink.written c.flush.new.out) c.in_ok-flush.ensures.ok c.in_ok-flush.ensures.empty in
    record {
      run = Wait l.place.more woken.Ready ∷ run;
      stands = stands_same s start (devices (g.N.LineNet.calls c.args.net.now) w) v l run st _ _ (Wait l.place.more woken.Ready) refl c.in-Ready.ensures.calls (wait_due s.lines l.place run next c.requires.due) page
          (shown_now s start (devices (g.N.LineNet.calls c.args.net.now) w) l run st (g.O.Sink.written c.flush.new.out) c.in_ok-flush.ensures.ok);
      next = record { within = omega arith; due_is = refl; taken_is = refl; more_is = refl };
    }

pub returns-in-Over-clause-steps : goal.returns-in-Over-clause-steps
returns-in-Over-clause-steps g c = λ s start run st next.
    let l = c.args.self.now in
    let w = g.O.Sink.written c.args.out.now in
    let v = devices (g.N.LineNet.calls c.wait.new.self) (g.O.Sink.written c.flush.new.out) in
    let page = prints_page l.printer c.flush.new.self w (g.O.Sink.written c.flush.new.out) c.in_ok-flush.ensures.ok c.in_ok-flush.ensures.empty in
    record {
      run = Wait l.place.more woken.Over ∷ run;
      stands = stands_same s start (devices (g.N.LineNet.calls c.args.net.now) w) v l run st _ l.place (Wait l.place.more woken.Over) refl c.in-Over.ensures.calls (wait_due s.lines l.place run next c.requires.due) page
          (shown_now s start (devices (g.N.LineNet.calls c.args.net.now) w) l run st (g.O.Sink.written c.flush.new.out) c.in_ok-flush.ensures.ok);
      over = tt;
    }

pub returns-in-Failed-clause-steps : goal.returns-in-Failed-clause-steps
returns-in-Failed-clause-steps g c = λ s start run st next.
    let l = c.args.self.now in
    let w = g.O.Sink.written c.args.out.now in
    let v = devices (g.N.LineNet.calls c.wait.new.self) (g.O.Sink.written c.flush.new.out) in
    let page = prints_page l.printer c.flush.new.self w (g.O.Sink.written c.flush.new.out) c.in_ok-flush.ensures.ok c.in_ok-flush.ensures.empty in
    ends_cut_off s start v _ (Wait l.place.more woken.Failed ∷ run)
    (stands_same s start (devices (g.N.LineNet.calls c.args.net.now) w) v l run st _ l.place (Wait l.place.more woken.Failed) refl c.in-Failed.ensures.calls (wait_due s.lines l.place run next c.requires.due) page
    (shown_now s start (devices (g.N.LineNet.calls c.args.net.now) w) l run st (g.O.Sink.written c.flush.new.out) c.in_ok-flush.ensures.ok))
    (ap (λ (q : Page). q.text) c.in_ok-flush.ensures.empty) tt
