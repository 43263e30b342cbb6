use Rattle.std.proofs.Common.{ℕ, List, length, drop, take, sym, ap, ◌∙◌, subst, ◌≡◌}
use Rattle.sending_end.specs.Stands.{waiting}
use Rattle.sending_end.specs.declared.session.Session.{Session as LinkSession}
use Rattle.unit_packets.specs.Packing.{bytes_in}
use Rattle.world_model.specs.Ends.{stands}
use Rattle.world_model.specs.State.{up_taken, up_waits}
use Rattle.world_model.specs.Verbs.{server_fed}
use Rattle.world_model.specs.layers.Feeding.{Feeds}
use Rattle.world_model.proofs.Acting.{passes_then}
use Rattle.world_model.proofs.Sessions.{after_up, acts_carried, acts_too_few, acts_unopened, passes_fed, passes_taken, waits_there}
use Rattle.world_model.proofs.world.World.up.Goals as goal

pub returns-then-not-has_connection : goal.returns-then-not-has_connection
returns-then-not-has_connection c = λ s has.
    let w = c.args.self.now in
    acts_unopened w c.calm.result s (after_up w c.args.session s) c.args.bytes (up_waits c.args.session s) (stands c.args.session s.client) has (sym (c.has_connection.ensures s has) ∙ c.if-not-has_connection.true) c.calm.ensures

pub returns-in-Err : goal.returns-in-Err
returns-in-Err c = λ s has.
    let w = c.args.self.now in
    let waits = c.waiting_bytes-waiting.ensures ∙ ap (λ (session : LinkSession). waiting session w.client) c.at_client-end.ensures ∙ waits_there c.args.session w s has in
    acts_too_few w c.too_few.result s (after_up w c.args.session s) c.args.bytes (up_waits c.args.session s) (stands c.args.session s.client) (sym (c.has_connection.ensures s has) ∙ c.if-not-has_connection.false) (length c.waiting_bytes-waiting.result.now) c.in-Err.asked
    (ap length waits) c.in-Err.ensures.few.0 has c.in-Err.ensures.few.1 c.too_few.ensures

pub returns-in_ok-feed-in-Ok : goal.returns-in_ok-feed-in-Ok
returns-in_ok-feed-in-Ok c = λ s has.
    let w = c.args.self.now in
    let end = c.at_client-end.ensures in
    let waits : c.waiting_bytes-waiting.result.now ≡ up_waits c.args.session s = c.waiting_bytes-waiting.ensures ∙ ap (λ (session : LinkSession). waiting session w.client) end ∙ waits_there c.args.session w s has in
    let n : ℕ = c.in-Ok.count in
    let piece : List ℕ = take n (up_waits c.args.session s) in
    let taken = passes_taken c.args.session w c.sent.new.self s n has (subst (λ (x : LinkSession). waiting x c.sent.new.self ≡ drop n (waiting x w.client)) end c.sent.ensures.left)
    (λ other apart. c.sent.ensures.other other (λ e. apart (e ∙ end))) c.sent.ensures.stands in
    let feeds = subst (λ (bytes : List ℕ). Feeds w.venue c.feed.new.venue c.args.session (take n bytes) (bytes_in w.replayed.items) (bytes_in c.feed.new.gap_line.items)) waits c.in_ok-feed-in-Ok.ensures in
    let t = up_taken c.args.session n s in
    let fed = passes_fed c.args.session (record w { client = c.sent.new.self }) c.feed.new.venue c.feed.new.gap_line piece t taken.has feeds in
    acts_carried w c.carried.result s (after_up w c.args.session s) c.args.bytes (up_waits c.args.session s) (stands c.args.session s.client)
    (sym (c.has_connection.ensures s has) ∙ c.if-not-has_connection.false) (length c.waiting_bytes-waiting.result.now) n (ap length waits) c.in-Ok.ensures.count.0 _ c.in-Ok.ensures.count.1
    (passes_then w (record w { client = c.sent.new.self }) _ s t (server_fed w.unit w.limits c.args.session piece t) taken fed) c.carried.ensures
