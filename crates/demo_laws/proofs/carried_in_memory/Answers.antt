use Rattle.std.proofs.Common.{List, Option, subst}
use Rattle.pitch_io.specs.Nets.{Call}
use Rattle.memory_devices.specs.layers.MemoryNets.{CarriesAll, CameInOrder}
use Rattle.demo_laws.proofs.InMemory.{run_carried}
use Rattle.demo_laws.proofs.carried_in_memory.Goals as goal

pub returns : goal.returns
returns c = λ s before after text text' demo are.
    let carries = subst (λ (calls : Option (List Call)). CarriesAll calls c.args.net.now.coming) are c.carries.ensures in
    run_carried s demo.run before demo.steps demo.end.short (subst CameInOrder demo.calls carries.1)
