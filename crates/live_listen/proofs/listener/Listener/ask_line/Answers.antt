use Rattle.std.proofs.Common.{ℕ, List, [], ◌∷◌, take, length, refl, sym, ap, subst}
use Rattle.stream_print.specs.Page.{Page}
use Rattle.stream_print.specs.declared.failure.PrintError.TheVariants.{Write}
use Rattle.stream_print.proofs.Streaming.{prints_no_block}
use Rattle.live_net.specs.LineCalls.{LineCall, Receive}
use Rattle.live_net.specs.declared.net.Received.TheVariants as received
use Rattle.live_listen.specs.Standing.{IsNext, devices}
use Rattle.live_listen.specs.declared.place.Place.{Place}
use Rattle.live_listen.proofs.Ending.{ends_unprinted, ends_unflushed, ends_cut_off, steps_same}
use Rattle.live_listen.proofs.Placing.{asked_due}
use Rattle.live_listen.proofs.Standing.{shown_on, stands_at, stands_datagram, stands_same, prints_page}
use Rattle.live_listen.proofs.listener.Listener.ask_line.Goals as goal

pub returns-in_err-hear_datagram-in-Got-clause-steps : goal.returns-in_err-hear_datagram-in-Got-clause-steps
returns-in_err-hear_datagram-in-Got-clause-steps g c = λ start run st next.
    let due = asked_due c.args.setup.now.lines c.args.line (length c.args.into.now) c.args.self.now.place run next c.requires.asked c.requires.room in
    steps_same c.args.setup.now c.from_residual.result _ start (devices (g.N.LineNet.calls c.receive.new.self) (g.O.Sink.written c.hear_datagram.new.out)) _ c.from_residual.ensures
    (ends_unprinted c.args.setup.now start (devices (g.N.LineNet.calls c.args.net.now) (g.O.Sink.written c.args.out.now)) c.args.self.now run st
    (devices (g.N.LineNet.calls c.receive.new.self) (g.O.Sink.written c.hear_datagram.new.out)) c.in_err-hear_datagram-in-Got.field-0.0 c.args.line (length c.args.into.now) c.in-Got.count
    (take c.in-Got.count c.receive.new.into) c.in-Got.ensures.calls due c.in_err-hear_datagram-in-Got.ensures.err)

pub returns-in_ok-hear_datagram-in-Got-clause-steps : goal.returns-in_ok-hear_datagram-in-Got-clause-steps
returns-in_ok-hear_datagram-in-Got-clause-steps g c = λ start run st next.
    let s = c.args.setup.now in
    let hears = c.in_ok-hear_datagram-in-Got.ensures.hears in
    let bytes : List ℕ = take c.in-Got.count c.receive.new.into in
    let room : ℕ = length c.args.into.now in
    let u = devices (g.N.LineNet.calls c.args.net.now) (g.O.Sink.written c.args.out.now) in
    let v = devices (g.N.LineNet.calls c.receive.new.self) (g.O.Sink.written c.hear_datagram.new.out) in
    let due = asked_due s.lines c.args.line room c.args.self.now.place run next c.requires.asked c.requires.room in
    let run' : List LineCall = Receive c.args.line room bytes (received.Got c.in-Got.count) ∷ run in
    record {
      run = run';
      stands = stands_at s start v v c.hear_datagram.new.self run' (stands_datagram s start u v c.args.self.now run st c.hear_datagram.new.self c.args.line room c.in-Got.count bytes c.in-Got.ensures.calls due hears) _;
      next = subst (λ (n : ℕ). IsNext n c.after_datagram-self.result run') c.lines.ensures.lines
          (c.after_datagram-self.ensures.next run room c.in-Got.count bytes (subst (λ (n : ℕ). IsNext n c.hear_datagram.new.self.place run) (sym c.lines.ensures.lines) (subst (λ (p : Place). IsNext s.lines p run) (sym hears.place) next)));
    }

pub returns-in-Quiet-clause-steps : goal.returns-in-Quiet-clause-steps
returns-in-Quiet-clause-steps g c = λ start run st next.
    let s = c.args.setup.now in
    let room : ℕ = length c.args.into.now in
    let w = g.O.Sink.written c.args.out.now in
    let due = asked_due s.lines c.args.line room c.args.self.now.place run next c.requires.asked c.requires.room in
    record {
      run = Receive c.args.line room [] received.Quiet ∷ run;
      stands = stands_same s start (devices (g.N.LineNet.calls c.args.net.now) w) (devices (g.N.LineNet.calls c.receive.new.self) w) c.args.self.now run st c.args.self.now.printer _
          (Receive c.args.line room [] received.Quiet) refl c.in-Quiet.ensures.calls due (prints_no_block c.args.self.now.printer w) st.shown;
      next = subst (λ (n : ℕ). IsNext n c.after_quiet-self.result (Receive c.args.line room [] received.Quiet ∷ run)) c.lines-in-Quiet.ensures.lines
          (c.after_quiet-self.ensures.next run room (subst (λ (n : ℕ). IsNext n c.args.self.now.place run) (sym c.lines-in-Quiet.ensures.lines) next));
    }

pub returns-in_err-flush-in-Failed-clause-steps : goal.returns-in_err-flush-in-Failed-clause-steps
returns-in_err-flush-in-Failed-clause-steps g c = λ start run st next.
    let s = c.args.setup.now in
    let room : ℕ = length c.args.into.now in
    let l = c.args.self.now in
    let w = g.O.Sink.written c.args.out.now in
    let v = devices (g.N.LineNet.calls c.receive.new.self) w in
    let due = asked_due s.lines c.args.line room l.place run next c.requires.asked c.requires.room in
    let call : LineCall = Receive c.args.line room [] received.Failed in
    steps_same s c.from_residual-in_err-flush-in-Failed.result _ start (devices (g.N.LineNet.calls c.receive.new.self) (g.O.Sink.written c.flush.new.out)) _ c.from_residual-in_err-flush-in-Failed.ensures
    (ends_unflushed s start v l (call ∷ run) (stands_same s start (devices (g.N.LineNet.calls c.args.net.now) w) v l run st l.printer l.place call refl c.in-Failed.ensures.calls due (prints_no_block l.printer w) st.shown)
    (devices (g.N.LineNet.calls c.receive.new.self) (g.O.Sink.written c.flush.new.out)) Write refl c.in_err-flush-in-Failed.ensures.err)

pub returns-in_ok-flush-in-Failed-clause-steps : goal.returns-in_ok-flush-in-Failed-clause-steps
returns-in_ok-flush-in-Failed-clause-steps g c = λ start run st next.
    let s = c.args.setup.now in
    let room : ℕ = length c.args.into.now in
    let l = c.args.self.now in
    let w = g.O.Sink.written c.args.out.now in
    let v = devices (g.N.LineNet.calls c.receive.new.self) (g.O.Sink.written c.flush.new.out) in
    let due = asked_due s.lines c.args.line room l.place run next c.requires.asked c.requires.room in
    let call : LineCall = Receive c.args.line room [] received.Failed in
    let page = prints_page l.printer c.flush.new.self w (g.O.Sink.written c.flush.new.out) c.in_ok-flush-in-Failed.ensures.ok c.in_ok-flush-in-Failed.ensures.empty in
    ends_cut_off s start v _ (call ∷ run) (stands_same s start (devices (g.N.LineNet.calls c.args.net.now) w) v l run st _ l.place call refl c.in-Failed.ensures.calls due page
    (shown_on s start (devices (g.N.LineNet.calls c.args.net.now) w) v l run st _ [] page))
    (ap (λ (q : Page). q.text) c.in_ok-flush-in-Failed.ensures.empty) tt
