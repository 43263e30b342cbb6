use Rattle.std.proofs.Common.{◌≡◌, ◌≤◌, ◌<◌, List, [], ◌∷◌, length, take, drop, refl, sym, ap, ◌∙◌, subst, arith}
use Rattle.std.proofs.lemmas.Bool.{false≢true}
use Rattle.order_book.specs.Turns.{turns_of}
use Rattle.order_book.specs.declared.turn.Turn.{Turn}
use Rattle.order_book.proofs.Turning.{length-turns_of}
use Rattle.pitch_model.specs.Book.{Book, IsBook}
use Rattle.pitch_model.specs.History.{Raw}
use Rattle.pitch_model.specs.Reach.{reach}
use Rattle.pitch_model.proofs.Honesty.{honest_top}
use Rattle.pitch_model.proofs.Topmost.{reach_le_top}
use Rattle.heard_items.specs.HeardBlocks.{heard_block}
use Rattle.client_core.specs.Client.{current_book}
use Rattle.best_quotes.proofs.Following.{lines_of_block}
use Rattle.leveled_units.proofs.unit.hear_followed.Goals as goal

-- each applied message takes the reach on by one, and the reach stays a number of 32 bits
pub follow-told-requires : goal.follow-told-requires
follow-told-requires c =
    let a = c.in_ok-change.ensures.turned in
    let up = a.2.reach_is in
    let before = c.reach-reach.ensures.reached in
    let now = c.reach-reached.ensures.reached in
    let size : length c.as_slice.result.now ≡ length a.0 = ap length (c.as_slice.ensures ∙ a.1) ∙ length-turns_of (current_book c.args.client.now) a.0 in
    record { within = omega (arith, up, before, now, size) }

pub returns-clause-quotes : goal.returns-clause-quotes
returns-clause-quotes c = λ told are Image V H E tracks honest keeps.
    let block = c.args.block.now in
    let book = current_book c.args.client.now in
    let applied = c.in_ok-change.ensures.venues Image V H E tracks honest keeps in
    let top = honest_top Image V (heard_block block E) honest in
    let below = reach_le_top H (heard_block block E) in
    let within : reach H (heard_block block E) ≤ length V = omega arith in
    let raws = drop (reach H E) (take (reach H (heard_block block E)) V) in
    lines_of_block H V E block book raws [] c.follow-told.new.lines.items c.reach-reach.result (c.reach-reach.ensures.reach H E tracks)
    (sym c.book.ensures.same ∙ c.book.ensures.book H E V tracks keeps) refl within
    (c.follow-told.ensures.told told book raws (subst IsBook c.book.ensures.same c.len-orders.ensures.book) (c.as_slice.ensures ∙ applied) are)

-- where no message was applied, nothing is left untold
some_applied : (book : Book) (raws : List Raw) (turns : List Turn) → turns ≡ turns_of book raws → (turns ≡ [] → ⊥) → 0 < length raws
some_applied book [] turns are some = absurd (some are)
some_applied book (raw ∷ raws) turns are some = omega arith

pub returns-clause-untold : goal.returns-clause-untold
returns-clause-untold c = λ untold H E tracks.
    let a = c.in_ok-change.ensures.turned in
    let book = current_book c.args.client.now in
    let applied = some_applied book a.0 c.as_slice.result.now (c.as_slice.ensures ∙ a.1) (λ none. false≢true (sym untold ∙ c.follow-told.ensures.none none)) in
    let up = a.2.reach_is in
    let before = c.reach-reach.ensures.reached in
    let now = c.reach-reached.ensures.reached in
    let was = c.reach-reach.ensures.reach H E tracks in
    let is = c.reach-reached.ensures.reach H (heard_block c.args.block.now E) (c.in_ok-change.ensures.tracks H E tracks) in
    omega (arith, applied, up, before, now, was, is)
