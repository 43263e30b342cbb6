use Rattle.std.proofs.Common.{ℕ, ◌+◌, List, ◌∷◌, length, drop, sym, ap, ◌∙◌, subst, arith}
use Rattle.unit_packets.specs.Packing.{packed}
use Rattle.pitch_model.specs.History.{Raw, Ticked}
use Rattle.client_core.specs.Tracks.{Tracks}
use Rattle.client_core.specs.Client.{current_book}
use Rattle.order_book.specs.Standing.{Standing}
use Rattle.relay_unit.specs.Hearing.{heard_merged, relay_heard}
use Rattle.relay_unit.specs.Relayed.{relayed}
use Rattle.relay_unit.proofs.Counted.{counted, added_is, block_sends}
use Rattle.relay_unit.proofs.Following.{block_sends_more, block_lacks}
use Rattle.relay_unit.proofs.Speaking.{venue_ticked, venue_before}
use Rattle.relay_unit.proofs.relay.Relay.take.Goals as goal

pub returns-then-more-self-clause-outrun : goal.returns-then-more-self-clause-outrun
returns-then-more-self-clause-outrun c = λ V H E S v.
    let block = c.args.block.now in
    let sent = S.sent_is V (venue_before H V block E v) in
    let all = counted c.args.self.now.sent c.len-more.result (relayed H V E) (relayed H V (relay_heard H block E)) c.hear_merged.new.sent.items (block_sends H V block E c.truncate.new.self.items c.hear_merged.new.sent.items c.truncate.ensures.items
    (c.in-Ok.ensures.sends V H E S.tracks (venue_ticked H V block E v) (S.keeps V (venue_before H V block E v)))) sent c.len-more.ensures.length in
    let more = c.if-more-self.true in
    (sent, all, omega (arith, all, more))

pub returns-clause-stands : goal.returns-clause-stands
returns-clause-stands c = λ H E S.
    let block = c.args.block.now in
    let F = heard_merged block E in
    let tracks = c.in-Ok.ensures.tracks H E S.tracks in
    let fits = c.if-more-self.false in
    let within = S.within in
    record {
      tracks = subst (λ ask. Tracks c.tick.new.self H (Ticked ask ∷ F)) (c.tick.ensures.asks H F tracks) (c.tick.ensures.tracks H F tracks);
      keeps = λ V v. c.tick.ensures.keeps V (c.in-Ok.ensures.keeps V H E S.tracks (venue_ticked H V block E v) (S.keeps V (venue_before H V block E v)));
      sent_is = λ V v. counted c.args.self.now.sent c.len-more.result (relayed H V E) (relayed H V (relay_heard H block E)) c.hear_merged.new.sent.items (block_sends H V block E c.truncate.new.self.items c.hear_merged.new.sent.items c.truncate.ensures.items
          (c.in-Ok.ensures.sends V H E S.tracks (venue_ticked H V block E v) (S.keeps V (venue_before H V block E v))))
          (S.sent_is V (venue_before H V block E v)) c.len-more.ensures.length;
      within = omega (arith, fits, within);
      goes_on = S.goes_on;
    }

pub returns-clause-adds : goal.returns-clause-adds
returns-clause-adds c = λ V H E S v.
    let block = c.args.block.now in
    let sent = S.sent_is V (venue_before H V block E v) in
    let all : List Raw = relayed H V (relay_heard H block E) in
    let unit = c.args.self.now.unit in
    ap (packed unit (c.args.self.now.sent + 1)) (sym (added_is c.args.self.now.sent (relayed H V E) all c.hear_merged.new.sent.items (block_sends H V block E c.truncate.new.self.items c.hear_merged.new.sent.items c.truncate.ensures.items
    (c.in-Ok.ensures.sends V H E S.tracks (venue_ticked H V block E v) (S.keeps V (venue_before H V block E v)))) sent))
    ∙ ap (λ n. packed unit (n + 1) (drop n all)) sent

pub returns-clause-heard : goal.returns-clause-heard
returns-clause-heard c = λ count heard.
    let none = ap (λ (raws : List Raw). length raws) c.truncate.ensures.items in
    let few = heard.sends_few in
    let added = c.in-Ok.ensures.weighs in
    let ticked = c.tick.ensures.weighs in
    let more = c.len-more.ensures.length in
    record { goes_on = heard.goes_on; sends_few = omega arith }

pub returns-then-more-self-clause-many : goal.returns-then-more-self-clause-many
returns-then-more-self-clause-many c = λ count heard.
    let none = ap (λ (raws : List Raw). length raws) c.truncate.ensures.items in
    let few = heard.sends_few in
    let added = c.in-Ok.ensures.weighs in
    let more = c.len-more.ensures.length in
    let past = c.if-more-self.true in
    omega arith

pub returns-then-more-self-clause-exact : goal.returns-then-more-self-clause-exact
returns-then-more-self-clause-exact c = λ on before S.
    let heard = c.in-Ok.ensures in
    let past = c.if-more-self.true in
    block_lacks c.args.self.now _ (current_book c.hear_merged.new.client) c.args.block.now c.truncate.new.self.items c.hear_merged.new.sent.items
    c.truncate.ensures.items heard.any heard.line (ap (λ (b : Standing). b.book) c.tick.ensures.still.book_is) before S
    c.len-more.result c.len-more.ensures.length (omega (arith, past))

pub returns-clause-any : goal.returns-clause-any
returns-clause-any c = λ sent S.
    let heard = c.in-Ok.ensures in
    block_sends_more c.args.self.now _ (current_book c.hear_merged.new.client) c.args.block.now c.truncate.new.self.items c.hear_merged.new.sent.items
    c.truncate.ensures.items heard.any heard.line (ap (λ (b : Standing). b.book) c.tick.ensures.still.book_is) sent S
    (ap (λ (n : ℕ). c.args.self.now.sent + n) c.len-more.ensures.length)
