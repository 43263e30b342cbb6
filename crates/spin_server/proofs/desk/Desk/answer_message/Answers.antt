use Rattle.std.proofs.Common.{◌≡◌, false, rules, refl}
use Rattle.pitch_messages.specs.declared.session.SessionMessage.{SessionMessage}
use Rattle.session_ends.proofs.Showing.{shown_same}
use Rattle.spin_server.specs.Served.{Served}
use Rattle.spin_server.specs.layers.Looking.{ServedLater}
use Rattle.spin_server.specs.Serving.{spin_message_answer}
use Rattle.spin_server.proofs.Serves.{later_order, hears_none, hears_as, hears_early}
use Rattle.spin_server.proofs.desk.Desk.answer_message.Goals as goal

pub returns-then-not-logged-clause-hears : goal.returns-then-not-logged-clause-hears
returns-then-not-logged-clause-hears g c = λ view shows.
    let off : c.args.end.now.logged ≡ false = search rules in
    hears_as (λ (m : SessionMessage) (v : Served). spin_message_answer c.args.end.now.setup c.args.end.now.logged c.args.self.now.spin v m) c.args.message.now _ view _ _ _ _ c.in-SpinRequest.is
    (hears_early c.args.end.now.setup _ c.args.self.now.spin _ view _ _ _ off refl shows)

pub returns-in-LoginReply-clause-hears : goal.returns-in-LoginReply-clause-hears
returns-in-LoginReply-clause-hears g c = λ view shows. rw c.in-LoginReply.is (hears_none _ c.args.self.now.spin view _ _ _ (λ w. refl) refl shows)

pub returns-in-GapRequest-clause-hears : goal.returns-in-GapRequest-clause-hears
returns-in-GapRequest-clause-hears g c = λ view shows. rw c.in-GapRequest.is (hears_none _ c.args.self.now.spin view _ _ _ (λ w. refl) refl shows)

pub returns-in-GapReply-clause-hears : goal.returns-in-GapReply-clause-hears
returns-in-GapReply-clause-hears g c = λ view shows. rw c.in-GapReply.is (hears_none _ c.args.self.now.spin view _ _ _ (λ w. refl) refl shows)

pub returns-in-SpinAvailable-clause-hears : goal.returns-in-SpinAvailable-clause-hears
returns-in-SpinAvailable-clause-hears g c = λ view shows. rw c.in-SpinAvailable.is (hears_none _ c.args.self.now.spin view _ _ _ (λ w. refl) refl shows)

pub returns-in-SpinReply-clause-hears : goal.returns-in-SpinReply-clause-hears
returns-in-SpinReply-clause-hears g c = λ view shows. rw c.in-SpinReply.is (hears_none _ c.args.self.now.spin view _ _ _ (λ w. refl) refl shows)

pub returns-in-SpinFinished-clause-hears : goal.returns-in-SpinFinished-clause-hears
returns-in-SpinFinished-clause-hears g c = λ view shows. rw c.in-SpinFinished.is (hears_none _ c.args.self.now.spin view _ _ _ (λ w. refl) refl shows)

pub returns-then-not-logged-clause-left : goal.returns-then-not-logged-clause-left
returns-then-not-logged-clause-left g c = λ view shows. shown_same ServedLater later_order _ view shows

pub returns-in-LoginReply-clause-left : goal.returns-in-LoginReply-clause-left
returns-in-LoginReply-clause-left g c = λ view shows. shown_same ServedLater later_order _ view shows

pub returns-in-GapRequest-clause-left : goal.returns-in-GapRequest-clause-left
returns-in-GapRequest-clause-left g c = λ view shows. shown_same ServedLater later_order _ view shows

pub returns-in-GapReply-clause-left : goal.returns-in-GapReply-clause-left
returns-in-GapReply-clause-left g c = λ view shows. shown_same ServedLater later_order _ view shows

pub returns-in-SpinAvailable-clause-left : goal.returns-in-SpinAvailable-clause-left
returns-in-SpinAvailable-clause-left g c = λ view shows. shown_same ServedLater later_order _ view shows

pub returns-in-SpinReply-clause-left : goal.returns-in-SpinReply-clause-left
returns-in-SpinReply-clause-left g c = λ view shows. shown_same ServedLater later_order _ view shows

pub returns-in-SpinFinished-clause-left : goal.returns-in-SpinFinished-clause-left
returns-in-SpinFinished-clause-left g c = λ view shows. shown_same ServedLater later_order _ view shows
