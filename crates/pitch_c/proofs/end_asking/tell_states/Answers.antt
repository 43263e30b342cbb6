use Rattle.pitch_model.specs.Book.{Book}
use Rattle.pitch_c.specs.Lists.{ListsStates}
use Rattle.pitch_c.proofs.Telling.{of_end_book}
use Rattle.pitch_c.proofs.end_asking.tell_states.Goals as goal

pub returns-clause-states : goal.returns-clause-states
returns-clause-states c ok =
    of_end_book c.args.end.now c.book.result.now.book (λ (book : Book). ListsStates book c.args.told.now c.list_states.new.told c.list_states.new.number) c.book.ensures (c.list_states.ensures.states ok)
