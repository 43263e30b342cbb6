use Rattle.std.proofs.Common.{◌≡◌, sym, subst, ◌∙◌}
use Rattle.client_core.specs.Client.{current_book}
use Rattle.client_core.specs.Tracks.{Tracks, Keeps}
use Rattle.client_core.specs.declared.client.UnitClient.{UnitClient}
use Rattle.heard_items.specs.Units.{unit_history}
use Rattle.pitch_c.proofs.Answering.{client_is}
use Rattle.pitch_c.proofs.Telling.{tracks_there, keeps_there}
use Rattle.pitch_c.proofs.asking.find_client.Goals as goal

pub returns-in-Some-clause-book : goal.returns-in-Some-clause-book
returns-in-Some-clause-book c before Image V h honest =
    let units = c.args.units.now in
    let unit = c.args.unit in
    let client = c.in-Some.client.now in
    let there = c.in-Some.ensures.there in
    let is = c.client.ensures in
    subst (λ (u : UnitClient). current_book u ≡ c.book-book.result.now.book) is (sym c.book-book.ensures.same)
    ∙ c.book-book.ensures.book units.limit (unit_history unit before) V
    (subst (λ (u : UnitClient). Tracks u units.limit (unit_history unit before)) (sym is) (tracks_there units unit client there before h))
    (subst (λ (u : UnitClient). Keeps u V) (sym is) (keeps_there units unit client there before h Image V honest))

pub returns-in-Some-clause-some : goal.returns-in-Some-clause-some
returns-in-Some-clause-some c = client_is c.args.units.now c.args.unit c.in-Some.client.now c.in-Some.ensures.there
