use Rattle.std.proofs.Common.{rules, arith, ◌≡◌, ℕ, ◌+◌, ◌<◌, List, [], drop, length, refl}
use Rattle.std.proofs.lemmas.Option.{slice_get_read}
use Rattle.order_book.specs.declared.turn.Turn.{Turn}
use Rattle.std.proofs.lemmas.List.{drop_all}
use Rattle.best_quotes.proofs.Leaving.{left_all, left_more, left_none, next_turn}
use Rattle.best_quotes.proofs.lines.turn_each.Goals as goal

pub messages-init : goal.messages-init
messages-init c = record {
  left = λ book raws is are has. left_all (c.args.reach + 1) book raws c.args.turns.now c.args.levels.now.entries c.args.lines.now.items is are has;
  at = omega arith;
}

pub messages-preserved : goal.messages-preserved
messages-preserved c =
    let all : List Turn = c.args.turns.now in
    let i : ℕ = c.messages.turn-index in
    let turn : Turn = c.turn-item.result in
    let within : i < length all = search rules in
    let at = c.messages.invariant.at in
    record {
      left = λ book raws is are has.
          left_more (c.args.reach + 1) book raws c.args.lines.now.items c.messages.lines.items c.number.new.lines.items (c.messages.sequence + 1) turn (drop i all) (drop (i + 1) all)
          c.messages.levels.entries c.turn_levels.new.levels.entries c.truncate.new.self.items c.turn_levels.new.told.items
          (next_turn all i turn within (slice_get_read all (length all) i turn refl within c.turn-item.is)) c.truncate.ensures.items c.in_ok-turn_levels.ensures c.in_ok-number.ensures
          (c.messages.invariant.left book raws is are has);
      at = omega arith;
    }

pub returns-clause-turned : goal.returns-clause-turned
returns-clause-turned c = λ book raws is are has.
    let all : List Turn = c.args.turns.now in
    let i : ℕ = c.messages.turn-index in
    let none : drop i all ≡ [] = drop_all i all (omega arith) in
    left_none (c.args.reach + 1) book raws c.args.lines.now.items c.messages.lines.items (c.messages.sequence + 1) (drop i all) c.messages.levels.entries none (c.messages.invariant.left book raws is are has)
