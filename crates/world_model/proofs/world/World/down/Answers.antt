use Rattle.std.proofs.Common.{◌≡◌, ℕ, List, length, take, sym, ap, ◌∙◌, subst}
use Rattle.sending_end.specs.Waiting.{took}
use Rattle.sending_end.specs.Stands.{Passes}
use Rattle.sending_end.specs.declared.session.Session.{Session as LinkSession}
use Rattle.world_model.specs.Ends.{at_client, server_waits, stands}
use Rattle.world_model.proofs.Acting.{seen_venue}
use Rattle.world_model.proofs.Sessions.{after_down, acts_carried, acts_too_few, acts_unopened, passes_put, settles_then}
use Rattle.world_model.proofs.world.World.down.Goals as goal

pub returns-then-not-has_connection : goal.returns-then-not-has_connection
returns-then-not-has_connection c = λ s has.
    let w = c.args.self.now in
    acts_unopened w c.calm.result s (after_down w c.args.session s) c.args.bytes (server_waits c.args.session s.venue) (stands c.args.session s.client) has (sym (c.has_connection.ensures s has) ∙ c.if-not-has_connection.true) c.calm.ensures

pub returns-in-Err : goal.returns-in-Err
returns-in-Err c = λ s has.
    let w = c.args.self.now in
    let waits = seen_venue w s has (λ v now. c.waiting-waiting.result.now ≡ server_waits c.args.session now) c.waiting-waiting.ensures in
    acts_too_few w c.too_few.result s (after_down w c.args.session s) c.args.bytes (server_waits c.args.session s.venue) (stands c.args.session s.client) (sym (c.has_connection.ensures s has) ∙ c.if-not-has_connection.false) (length c.waiting-waiting.result.now) c.in-Err.asked
    (ap length waits) c.in-Err.ensures.few.0 has c.in-Err.ensures.few.1 c.too_few.ensures

pub returns-in_ok-took-in-Ok : goal.returns-in_ok-took-in-Ok
returns-in_ok-took-in-Ok c = λ s has.
    let w = c.args.self.now in
    let session = c.args.session in
    let n : ℕ = c.in-Ok.count in
    let waits : c.waiting-waiting.result.now ≡ server_waits session s.venue = seen_venue w s has (λ v now. c.waiting-waiting.result.now ≡ server_waits session now) c.waiting-waiting.ensures in
    let took_it = subst (λ (bytes : List ℕ). Passes w.client c.took.new.self (took (at_client session) (take n bytes))) waits
    (subst (λ (x : LinkSession). Passes w.client c.took.new.self (took x (take n c.waiting-waiting.result.now))) c.at_client.ensures c.in_ok-took-in-Ok.ensures.passes) in
    let put = passes_put session w c.put.new.venue c.took.new.self s n has c.put.ensures took_it in
    acts_carried w c.carried.result s (after_down w session s) c.args.bytes (server_waits session s.venue) (stands session s.client)
    (sym (c.has_connection.ensures s has) ∙ c.if-not-has_connection.false) (length c.waiting-waiting.result.now) n (ap length waits) c.in-Ok.ensures.count.0 _ c.in-Ok.ensures.count.1
    (settles_then session w _ _ s _ put c.settle.ensures) c.carried.ensures
