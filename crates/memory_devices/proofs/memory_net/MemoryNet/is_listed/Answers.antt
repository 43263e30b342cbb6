use Rattle.std.proofs.Common.{◌≡◌, ◌↔◌, true, subst, ap}
use Rattle.std.specs.Prelude.{Bool, Contains, ℕ, List}
use Rattle.memory_devices.specs.declared.memory_net.NetCall.{NetCall}
use Rattle.memory_devices.specs.declared.memory_net.NetVerb.{NetVerb}
use Rattle.memory_devices.specs.layers.MemoryNets.{Carried}
use Rattle.memory_devices.proofs.memory_net.MemoryNet.is_listed.Goals as goal

-- the answer says whether a call of this number is one of these
abbrev Says : Bool → NetVerb → List NetCall → ℕ → Type 0
Says answer verb calls number = (answer ≡ true) ↔ Contains calls (record { verb = verb; number = number })

-- src/memory_net.rt:113:5
pub returns-clause-listed : goal.returns-clause-listed
returns-clause-listed c =
    let field : Says c.holds_call.result c.args.verb _ c.count-number.result
    = subst (λ (calls : List NetCall). Says c.holds_call.result c.args.verb calls c.count-number.result) c.deref.ensures.value c.holds_call.ensures in
    let list : Says c.holds_call.result c.args.verb c.args.self.now.failing c.count-number.result
    = subst (λ (calls : List NetCall). Says c.holds_call.result c.args.verb calls c.count-number.result) (ap (λ (net : Carried). net.failing) c.self.view_is) field in
    subst (λ (number : ℕ). Says c.holds_call.result c.args.verb c.args.self.now.failing number) c.count-number.ensures.number list
