use Rattle.std.proofs.Common.{◌∙◌, ap, subst}
use Rattle.pitch_model.specs.Book.{Book}
use Rattle.client_core.specs.Client.{current_book}
use Rattle.pitch_c.specs.Lists.{ListsStates}
use Rattle.pitch_c.proofs.Telling.{of_reached}
use Rattle.pitch_c.proofs.lists.tell_states.Goals as goal

pub returns-in-Some-clause-states : goal.returns-in-Some-clause-states
returns-in-Some-clause-states c ok =
    let told = c.list_states.new.told in
    let number = c.list_states.new.number in
    of_reached c.args.units.now c.args.unit (current_book c.in-Some.client.now) (λ (book : Book). ListsStates book c.args.told.now told number) c.in-Some.ensures.book
    (subst (λ (book : Book). ListsStates book c.args.told.now told number) (c.book.ensures.same ∙ ap current_book c.client.ensures) (c.list_states.ensures.states ok))
