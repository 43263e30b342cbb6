use Rattle.std.proofs.Common.{◌≡◌, ◌++◌, map, take}
use Rattle.drill_client.specs.declared.words.Word.TheVariants.{Sent}
use Rattle.unit_threads.proofs.publisher.send_copies.Given as goal

abbrev pub invariant-shared : goal.invariant-shared
invariant-shared g l = l.words ≡ l.fn.words ++ map Sent (take l.datagram-index l.datagrams)
