use Rattle.std.proofs.Common.{◌≡◌, ◌++◌, ◌≤◌, List, [], length, take, drop, refl, sym, ap, ◌∙◌, subst, arith}
use Rattle.order_book.specs.Turns.{turns_of}
use Rattle.order_book.specs.declared.turn.Turn.{Turn}
use Rattle.order_book.proofs.Turning.{length-turns_of}
use Rattle.pitch_model.specs.Book.{Book, IsBook}
use Rattle.pitch_model.specs.History.{Raw}
use Rattle.pitch_model.specs.Levels.{level}
use Rattle.pitch_model.specs.Reach.{reach}
use Rattle.pitch_model.proofs.Honesty.{honest_top}
use Rattle.pitch_model.proofs.Topmost.{reach_le_top}
use Rattle.heard_items.specs.HeardBlocks.{heard_block}
use Rattle.client_core.specs.Client.{current_book}
use Rattle.best_quotes.specs.Leveling.{Has}
use Rattle.best_quotes.proofs.Following.{lines_of_block}
use Rattle.best_quotes.proofs.hearing.hear_block.Goals as goal

-- the list is empty before, so what stands in it are the turns of these messages
turns_are : (turns turns' listed : List Turn) (book : Book) (raws : List Raw) → turns ≡ [] → listed ≡ turns' → turns' ≡ turns ++ turns_of book raws → listed ≡ turns_of book raws
turns_are turns turns' listed book raws none same more = same ∙ more ∙ ap (λ (l : List Turn). l ++ turns_of book raws) none

pub returns-clause-levels : goal.returns-clause-levels
returns-clause-levels c = λ has.
    let a = c.in_ok-change.ensures.applies in
    let book = current_book c.args.client.now in
    let done = c.in_ok-turn_each.ensures.turned book a.0 (subst IsBook c.book.ensures.same c.len-orders.ensures.book)
    (turns_are _ _ c.as_slice.result.now book a.0 c.truncate.ensures.items c.as_slice.ensures a.1) has in
    subst (λ (b : Book). Has c.turn_each.new.levels.entries (level b)) (sym a.2.book_is) done.has

pub returns-clause-lines : goal.returns-clause-lines
returns-clause-lines c = λ block carries Image V H E tracks honest keeps has.
    let applied = c.in_ok-change.ensures.venues block carries Image V H E tracks honest keeps in
    let top = honest_top Image V (heard_block block E) honest in
    let below = reach_le_top H (heard_block block E) in
    let within : reach H (heard_block block E) ≤ length V = omega arith in
    let book = current_book c.args.client.now in
    let raws = drop (reach H E) (take (reach H (heard_block block E)) V) in
    let done = c.in_ok-turn_each.ensures.turned book raws (subst IsBook c.book.ensures.same c.len-orders.ensures.book)
    (turns_are _ _ c.as_slice.result.now book raws c.truncate.ensures.items c.as_slice.ensures applied) has in
    lines_of_block H V E block book raws c.args.lines.now.items c.turn_each.new.lines.items c.reach-reach.result (c.reach-reach.ensures.reach H E tracks)
    (sym c.book.ensures.same ∙ c.book.ensures.book H E V tracks keeps) refl within done.tells

-- each applied message takes the reach on by one, and the reach stays a number of 32 bits
pub turn_each-requires : goal.turn_each-requires
turn_each-requires c =
    let a = c.in_ok-change.ensures.applies in
    let book = current_book c.args.client.now in
    let up = a.2.reach_is in
    let before = c.reach-reach.ensures.reached in
    let now = c.reach-reached.ensures.reached in
    let size : length c.as_slice.result.now ≡ length a.0 = ap length (turns_are _ _ c.as_slice.result.now book a.0 c.truncate.ensures.items c.as_slice.ensures a.1) ∙ length-turns_of book a.0 in
    omega (arith, up, before, now, size)
