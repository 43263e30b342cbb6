use Rattle.std.proofs.Common.{◌≡◌, ◌++◌, map, string_bytes, take}
use Rattle.std.specs.List.{flat_map}
use Rattle.live_setups.specs.Given.{line_words}
use Rattle.live_setups.proofs.given.add_lines.Given as goal

-- the words of the lines so far were added
abbrev pub invariant-lines : goal.invariant-lines
invariant-lines l = map string_bytes l.words.items ≡ map string_bytes l.fn.words.items ++ flat_map (λ t. line_words t.now) (take l.line-index l.lines)
