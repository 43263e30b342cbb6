use Rattle.std.proofs.Common.{◌≡◌, ap, ◌∙◌, sym, nat_eq, ℕ, refl, ◌++◌}
use Rattle.std.proofs.lemmas.Bool.{ne_eqb}
use Rattle.session_ends.specs.Sending.{sent_bytes}
use Rattle.pitch_messages.specs.declared.session.SessionMessage.TheVariants.{LoginReply}
use Rattle.session_ends.specs.Closing.{login_status}
use Rattle.session_ends.proofs.Showing.{shown_same}
use Rattle.spin_server.specs.layers.Looking.{ServedLater}
use Rattle.spin_server.proofs.Serves.{later_order, hears_login}
use Rattle.spin_server.proofs.desk.Desk.answer_login.Goals as goal

pub returns-then-status-ne65 : goal.returns-then-status-ne65
returns-then-status-ne65 g c =
    let status : c.login_status-status.result ≡ login_status c.args.end.now.setup c.args.end.now.logged c.args.sub.now c.args.user.now c.args.password.now =
    c.login_status-status.ensures in
    record {
      same = λ on. refl;
      left = λ view shows. shown_same ServedLater later_order _ view shows;
      hears = λ view shows.
          hears_login c.args.end.now.setup _ c.args.self.now.spin view _ _ _ _ (ap (λ (n : ℕ). nat_eq n 65) (sym status) ∙ ne_eqb c.login_status-status.result 65 c.if-status-ne65.true)
          (c.in_ok-put.ensures.ok ∙ ap (λ (n : ℕ). c.args.reply.now.items ++ sent_bytes c.args.end.now.setup (LoginReply n)) status) refl shows;
    }

pub returns-in_err-put-clause-left : goal.returns-in_err-put-clause-left
returns-in_err-put-clause-left g c = λ view shows. shown_same ServedLater later_order _ view shows
