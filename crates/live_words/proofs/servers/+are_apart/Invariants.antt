use Rattle.std.proofs.Common.{length}
use Rattle.live_words.proofs.servers.+are_apart.Given as goal

abbrev pub decreases-are_apart : goal.decreases-are_apart
decreases-are_apart l = length l.servers.now
