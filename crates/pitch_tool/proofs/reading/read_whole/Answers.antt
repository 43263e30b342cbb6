use Rattle.std.proofs.Common.{refl, rules, ◌<◌, ◌≤◌, ◌+◌, ◌-◌, ◌++◌, ℕ, List, Option, take, length, arith, length-append}
use Rattle.std.specs.Io.KnownBytes.{Consumes}
use Rattle.std.proofs.lemmas.List.{length-take-le}
use Rattle.stream_print.specs.Told.{TakesAtMost, between}
use Rattle.stream_print.proofs.Feeding.{consumes_more, has_more}
use Rattle.pitch_tool.proofs.reading.read_whole.Goals as goal

pub returns-then-count-most-clause-unread : goal.returns-then-count-most-clause-unread
returns-then-count-most-clause-unread g c =
    let first = g.I.Source.left c.args.input.now in
    let now = g.I.Source.left c.take_at_most.new.input in
    let piece : List ℕ = take c.in-Got.count c.take_at_most.new.piece in
    let bytes : List ℕ = c.takes.bytes.items in
    let read = consumes_more first (g.I.Source.left c.takes.input) now bytes piece c.takes.invariant.read c.in-Got.ensures.bytes in
    let more = has_more first now (bytes ++ piece) read in
    let short = c.takes.invariant.short in
    let size = length-take-le c.in-Got.count c.take_at_most.new.piece c.in-Got.ensures.count.2 in
    let long : c.args.most - length bytes < c.in-Got.count = search rules in
    (refl, (bytes ++ piece) ++ more.0, more.1, omega (arith, length-append (bytes ++ piece) more.0, length-append bytes piece, size, long, short))

-- a piece more was taken, of at most one byte past the limit
took_more : (most count : ℕ) (first left now : Option (List ℕ)) (bytes room : List ℕ) → Consumes first left bytes → Consumes left now (take count room) → length bytes ≤ most → count ≤ most + 1 - length bytes
    → count ≤ length room → TakesAtMost (most + 1) (between first now)
took_more most count first left now bytes room read more short within size = record {
  taken = bytes ++ take count room;
  read = consumes_more first left now bytes (take count room) read more;
  within = omega (arith, length-append bytes (take count room), length-take-le count room size, within, short);
}

pub returns-then-count-most-clause-reads : goal.returns-then-count-most-clause-reads
returns-then-count-most-clause-reads g c =
    took_more c.args.most c.in-Got.count (g.I.Source.left c.args.input.now) (g.I.Source.left c.takes.input) (g.I.Source.left c.take_at_most.new.input) c.takes.bytes.items c.take_at_most.new.piece
    c.takes.invariant.read c.in-Got.ensures.bytes c.takes.invariant.short (omega (arith, c.in-Got.ensures.count.1)) c.in-Got.ensures.count.2

pub returns-then-is_err-clause-reads : goal.returns-then-is_err-clause-reads
returns-then-is_err-clause-reads g c =
    took_more c.args.most c.in-Got.count (g.I.Source.left c.args.input.now) (g.I.Source.left c.takes.input) (g.I.Source.left c.take_at_most.new.input) c.takes.bytes.items c.take_at_most.new.piece
    c.takes.invariant.read c.in-Got.ensures.bytes c.takes.invariant.short (omega (arith, c.in-Got.ensures.count.1)) c.in-Got.ensures.count.2
