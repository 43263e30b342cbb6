use Rattle.std.proofs.Common.{arith}
use Rattle.text_lines.proofs.KindLemmas.{room_for_digit}
use Rattle.text_lines.proofs.kinds.short_digits.Goals as goal

pub overflow_mul-value : goal.overflow_mul-value
overflow_mul-value c = omega (arith, room_for_digit c.loop-byte.value c.loop-byte.byte-index c.loop-byte.invariant.small (omega arith))

pub overflow_add-value : goal.overflow_add-value
overflow_add-value c =
    let room = room_for_digit c.loop-byte.value c.loop-byte.byte-index c.loop-byte.invariant.small (omega arith) in
    omega (arith, room, c.if-not-is_ascii_digit.ensures.cases)
