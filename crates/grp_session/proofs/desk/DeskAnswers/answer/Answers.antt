use Rattle.std.proofs.Common.{◌∙◌, sym, refl}
use Rattle.gap_store.specs.layers.Looking.{IsLater}
use Rattle.session_ends.specs.declared.role.Said.TheVariants.{Message, TooShort, Skipped}
use Rattle.session_ends.proofs.Showing.{lasts_then}
use Rattle.grp_session.proofs.Asked.{later_order}
use Rattle.grp_session.proofs.Serves.{hears_none, hears_item}
use Rattle.grp_session.proofs.desk.DeskAnswers.answer.Goals as goal

pub returns-in_ok-answer_message-in-Message-clause-answered : goal.returns-in_ok-answer_message-in-Message-clause-answered
returns-in_ok-answer_message-in-Message-clause-answered g c = record {
  same = cc (c.in_ok-answer_message-in-Message.ensures.there, c.in_ok-answer_message-in-Message.ensures.limits);
  hears = λ spent view counted shows.
      hears_item c.args.end.now.setup c.args.self.now.there c.args.self.now.budget.limits c.args.end.now.logged spent view (Message c.in-Message.message) c.args.item.now _ _ _ _ _ _
      (sym c.in-Message.is ∙ c.said-heard.ensures) (c.in_ok-answer_message-in-Message.ensures.hears spent view counted shows);
}

pub returns-in-TooShort-clause-answered : goal.returns-in-TooShort-clause-answered
returns-in-TooShort-clause-answered g c = record {
  same = refl;
  hears = λ spent view counted shows.
      hears_item c.args.end.now.setup c.args.self.now.there c.args.self.now.budget.limits c.args.end.now.logged spent view TooShort c.args.item.now _ _ _ _ _ _
      (sym c.in-TooShort.is ∙ c.said-heard.ensures) (hears_none IsLater _ spent view _ _ _ _ (λ w. refl) (later_order.same view) counted shows);
}

pub returns-in-Skipped-clause-answered : goal.returns-in-Skipped-clause-answered
returns-in-Skipped-clause-answered g c = record {
  same = refl;
  hears = λ spent view counted shows.
      hears_item c.args.end.now.setup c.args.self.now.there c.args.self.now.budget.limits c.args.end.now.logged spent view Skipped c.args.item.now _ _ _ _ _ _
      (sym c.in-Skipped.is ∙ c.said-heard.ensures) (hears_none IsLater _ spent view _ _ _ _ (λ w. refl) (later_order.same view) counted shows);
}

pub returns-in_ok-answer_message-in-Message-clause-kept : goal.returns-in_ok-answer_message-in-Message-clause-kept
returns-in_ok-answer_message-in-Message-clause-kept g c = λ first k.
    lasts_then _ _ IsLater later_order first _ _ k (record { same = c.in_ok-answer_message-in-Message.ensures.same; left = c.in_ok-answer_message-in-Message.ensures.left })

pub returns-in_err-answer_message-in-Message-clause-kept : goal.returns-in_err-answer_message-in-Message-clause-kept
returns-in_err-answer_message-in-Message-clause-kept g c = λ first k.
    lasts_then _ _ IsLater later_order first _ _ k (record { same = c.in_err-answer_message-in-Message.ensures.same; left = c.in_err-answer_message-in-Message.ensures.left })
