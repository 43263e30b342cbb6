use Rattle.std.proofs.Common.{◌≡◌, ◌≤◌, ◌∙◌, [], length, ap, refl, arith, ℕ, subst, sym}
use Rattle.pitch_messages.specs.Room.{Roomy}
use Rattle.unit_packets.specs.Packing.{bytes_in}
use Rattle.venue_core.specs.Waiting.{Waiting}
use Rattle.venue_core.specs.layers.Taking.{late_of}
use Rattle.venue_core.proofs.Sending.{few_given, full_few, none_is_some}
use Rattle.venue_core.proofs.outbox.Outbox.flush_settled.Goals as goal

pub overflow_add-len : goal.overflow_add-len
overflow_add-len c =
    let few : length c.self.inside.full.items ≤ c.self.inside.next =
    full_few (record { first = c.self.inside.first; next = c.self.inside.next; packing = c.self.inside.packer; full = bytes_in c.self.inside.full.items; last = c.self.inside.last; late = late_of c.self.inside.late c.self.inside.last }) c.self.inside.full.items c.self.invariant refl in
    omega (arith, few, c.len.ensures, c.self.ranges)

pub overflow_cast-count : goal.overflow_cast-count
overflow_cast-count c =
    let none : late_of c.self.inside.late c.self.inside.last ≡ [] = subst (λ (w : Waiting). w.late ≡ []) (sym c.self.view_is) c.requires in
    let few : length c.finish.new.out.items ≤ c.self.inside.next =
    few_given (record { first = c.self.inside.first; next = c.self.inside.next; packing = c.self.inside.packer; full = bytes_in c.self.inside.full.items; last = c.self.inside.last; late = late_of c.self.inside.late c.self.inside.last }) c.finish.new.self c.self.inside.full.items c.finish.new.out.items c.self.invariant refl none c.in_ok-finish.ensures.ok in
    let was : c.replace-datagrams.result.items ≡ c.finish.new.out.items = ap (λ (l : Roomy (Roomy ℕ)). l.items) c.replace-datagrams.ensures.value in
    omega (arith, few, ap length was, c.self.ranges)

pub invariant_of-self-2 : goal.invariant_of-self-2
invariant_of-self-2 c =
    let none : late_of c.self.inside.late c.self.inside.last ≡ [] = subst (λ (w : Waiting). w.late ≡ []) (sym c.self.view_is) c.requires in
    none_is_some (record { first = c.self.inside.first; next = c.self.inside.next; packing = c.self.inside.packer; full = bytes_in c.self.inside.full.items; last = c.self.inside.last; late = late_of c.self.inside.late c.self.inside.last }) _
    (record {
      before = c.self.inside.full.items;
      after = c.finish.new.out.items;
      finishes = c.in_ok-finish.ensures.ok;
      was = refl;
      full = ap (λ (l : Roomy (Roomy ℕ)). bytes_in l.items) c.replace-datagrams.ensures.after ∙ ap bytes_in c.make-none.ensures;
      first = refl;
      next = refl;
      none_late = none;
      settled = none;
    })
    c.self.invariant
