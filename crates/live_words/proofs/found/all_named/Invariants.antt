use Rattle.std.proofs.Common.{map, take}
use Rattle.live_words.specs.Options.{AreNamed}
use Rattle.live_words.proofs.found.all_named.Given as goal

-- the values so far are those of the texts so far
abbrev pub invariant-loop-text : goal.invariant-loop-text
invariant-loop-text g l = AreNamed g.T.Named.names (take l.text-index (map (λ t. t.now) l.fn.texts)) l.values.items
