use Rattle.live_laws.proofs.Carrying.{carried_is_heard}
use Rattle.live_laws.proofs.Serving.{books_are_the_venues, hearers_are_honest, hearing_stays, no_copies_differ}
use Rattle.live_laws.proofs.laws.a_client_beside_a_run_has_its_books.Goals as goal

pub returns-clause-honest : goal.returns-clause-honest
returns-clause-honest c = hearers_are_honest

pub returns-clause-carried : goal.returns-clause-carried
returns-clause-carried c = carried_is_heard

pub returns-clause-books : goal.returns-clause-books
returns-clause-books c = books_are_the_venues

pub returns-clause-agree : goal.returns-clause-agree
returns-clause-agree c = no_copies_differ

pub returns-clause-stays : goal.returns-clause-stays
returns-clause-stays c = hearing_stays
