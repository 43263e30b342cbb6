use Rattle.std.proofs.Common.{List, refl, sym, ◌∙◌, subst}
use Rattle.std.specs.List.{AllZip}
use Rattle.session_ends.specs.Ending.{Ending}
use Rattle.grp_session.specs.Budget.{Counts}
use Rattle.unit_packets.specs.Packing.{bytes_in}
use Rattle.venue_end.specs.Came.{journal_in}
use Rattle.venue_end.specs.Sessions.{without}
use Rattle.venue_end.specs.Stands.{BudgetIs, IsProxy, PlaceIs}
use Rattle.venue_end.specs.declared.table.Place.{Place}
use Rattle.venue_end.proofs.Feeding.{fed_nowhere, fed_there}
use Rattle.venue_end.proofs.Tables.{failed_at, not_missing}
use Rattle.venue_end.proofs.servers.Servers.take_proxy.Goals as goal

pub returns-in_default-clause-stands : goal.returns-in_default-clause-stands
returns-in_default-clause-stands g c = λ s now is has.
    let fed = fed_nowhere s now c.args.id c.args.piece.now c.args.self.now.proxies.places.items is.proxies c.args.self.now.budget is.budget (bytes_in c.args.gap_line.now.items) (sym c.find.ensures ∙ c.in_default.is) in
    record { setup_is = is.setup_is; budget = fed.counts; proxies = fed.sessions; spins = is.spins }

pub returns-in_default-clause-lines : goal.returns-in_default-clause-lines
returns-in_default-clause-lines g c = λ s now is has.
    (fed_nowhere s now c.args.id c.args.piece.now c.args.self.now.proxies.places.items is.proxies c.args.self.now.budget is.budget (bytes_in c.args.gap_line.now.items) (sym c.find.ensures ∙ c.in_default.is)).lined

pub returns-in-Ok-clause-stands : goal.returns-in-Ok-clause-stands
returns-in-Ok-clause-stands g c = λ s now is has.
    let old : Place Ending = c.index_mut-place.result.now in
    let new : Place Ending = record { id = old.id; server = c.feed_proxy.new.server; said = c.feed_proxy.new.said; put = old.put } in
    let fed = fed_there s now c.args.id c.args.piece.now c.args.self.now.proxies.places.items is.proxies c.args.self.now.budget is.budget (bytes_in c.args.gap_line.now.items) c.in-Some.at old new c.feed_proxy.new.budget (bytes_in c.feed_proxy.new.lines.items)
    (sym c.find.ensures ∙ c.in-Some.is) c.index_mut-place.ensures.value refl refl c.feed_proxy.ensures.setup c.feed_proxy.ensures.limits (λ es stands. c.in-Ok.ensures.fed (journal_in s now) es now.spent has stands is.budget.counted) in
    record { setup_is = is.setup_is; budget = fed.counts; proxies = fed.sessions; spins = is.spins }

pub returns-in-Ok-clause-lines : goal.returns-in-Ok-clause-lines
returns-in-Ok-clause-lines g c = λ s now is has.
    let old : Place Ending = c.index_mut-place.result.now in
    let new : Place Ending = record { id = old.id; server = c.feed_proxy.new.server; said = c.feed_proxy.new.said; put = old.put } in
    (fed_there s now c.args.id c.args.piece.now c.args.self.now.proxies.places.items is.proxies c.args.self.now.budget is.budget (bytes_in c.args.gap_line.now.items) c.in-Some.at old new c.feed_proxy.new.budget (bytes_in c.feed_proxy.new.lines.items)
    (sym c.find.ensures ∙ c.in-Some.is) c.index_mut-place.ensures.value refl refl c.feed_proxy.ensures.setup c.feed_proxy.ensures.limits (λ es stands. c.in-Ok.ensures.fed (journal_in s now) es now.spent has stands is.budget.counted)).lined

pub returns-in-Err-clause-err : goal.returns-in-Err-clause-err
returns-in-Err-clause-err g c = λ s now is.
    let old : Place Ending = c.index_mut-place.result.now in
    let new : Place Ending = record { id = old.id; server = c.feed_proxy.new.server; said = c.feed_proxy.new.said; put = old.put } in
    record {
      setup_is = is.setup_is;
      budget = subst (λ (b : Counts). BudgetIs s b now.spent) (sym c.in-Err.ensures.err_budget) is.budget;
      proxies = subst (λ (ps : List (Place Ending)). AllZip (PlaceIs IsProxy s) ps (without c.args.id now.proxies)) (sym c.remove.ensures.items) (failed_at IsProxy s c.args.id c.in-Some.at c.args.self.now.proxies.places.items now.proxies new (sym c.find.ensures ∙ c.in-Some.is) is.proxies);
      spins = is.spins;
    }

pub returns-in-Err-clause-none : goal.returns-in-Err-clause-none
returns-in-Err-clause-none g c = λ s now is none. absurd (not_missing IsProxy s c.args.id c.in-Some.at c.args.self.now.proxies.places.items now.proxies (sym c.find.ensures ∙ c.in-Some.is) is.proxies none)
