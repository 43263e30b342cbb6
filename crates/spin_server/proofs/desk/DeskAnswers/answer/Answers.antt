use Rattle.std.proofs.Common.{◌∙◌, sym, refl}
use Rattle.session_ends.specs.declared.role.Said.TheVariants.{Message, TooShort, Skipped}
use Rattle.session_ends.proofs.Showing.{lasts_then}
use Rattle.spin_server.specs.layers.Looking.{ServedLater}
use Rattle.spin_server.proofs.Serves.{later_order, hears_none, hears_item, hears_kept}
use Rattle.spin_server.proofs.desk.DeskAnswers.answer.Goals as goal

pub returns-in_ok-answer_message-in-Message-clause-answered : goal.returns-in_ok-answer_message-in-Message-clause-answered
returns-in_ok-answer_message-in-Message-clause-answered g c = record {
  same = refl;
  hears = λ spin view is shows.
      hears_kept c.args.end.now.setup c.args.end.now.logged spin c.args.self.now.spin view c.args.item.now _ _ _ _ is
      (hears_item c.args.end.now.setup c.args.end.now.logged c.args.self.now.spin view (Message c.in-Message.message) c.args.item.now _ _ _ _
      (sym c.in-Message.is ∙ c.said-heard.ensures) (c.in_ok-answer_message-in-Message.ensures.hears view shows));
}

pub returns-in-TooShort-clause-answered : goal.returns-in-TooShort-clause-answered
returns-in-TooShort-clause-answered g c = record {
  same = refl;
  hears = λ spin view is shows.
      hears_item c.args.end.now.setup c.args.end.now.logged spin view TooShort c.args.item.now _ _ _ _
      (sym c.in-TooShort.is ∙ c.said-heard.ensures) (hears_none _ spin view _ _ _ (λ w. refl) is shows);
}

pub returns-in-Skipped-clause-answered : goal.returns-in-Skipped-clause-answered
returns-in-Skipped-clause-answered g c = record {
  same = refl;
  hears = λ spin view is shows.
      hears_item c.args.end.now.setup c.args.end.now.logged spin view Skipped c.args.item.now _ _ _ _
      (sym c.in-Skipped.is ∙ c.said-heard.ensures) (hears_none _ spin view _ _ _ (λ w. refl) is shows);
}

pub returns-in_ok-answer_message-in-Message-clause-kept : goal.returns-in_ok-answer_message-in-Message-clause-kept
returns-in_ok-answer_message-in-Message-clause-kept g c = λ first k.
    lasts_then _ _ ServedLater later_order first _ _ k (record { same = c.in_ok-answer_message-in-Message.ensures.same; left = c.in_ok-answer_message-in-Message.ensures.left })

pub returns-in_err-answer_message-in-Message-clause-kept : goal.returns-in_err-answer_message-in-Message-clause-kept
returns-in_err-answer_message-in-Message-clause-kept g c = λ first k.
    lasts_then _ _ ServedLater later_order first _ _ k (record { same = c.in_err-answer_message-in-Message.ensures.same; left = c.in_err-answer_message-in-Message.ensures.left })
