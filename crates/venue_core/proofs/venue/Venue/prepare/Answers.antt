use Rattle.std.proofs.Common.{◌≡◌, ◌∙◌, ◌≤◌, List, ℕ, Ok, ap, sym, subst, arith}
use Rattle.std.specs.FinMap as map
use Rattle.pitch_fields.specs.Fields.{AreBytes}
use Rattle.pitch_messages.specs.Raw.{IsRaw}
use Rattle.pitch_messages.specs.Reading.{reads}
use Rattle.pitch_model.specs.Book.{Book}
use Rattle.venue_core.specs.Commands.{raw_of, message_of}
use Rattle.venue_core.specs.Refusals.{reads_end}
use Rattle.venue_core.specs.Standing.{VenueState}
use Rattle.venue_core.proofs.Accepting.{ends_as_command}
use Rattle.venue_core.proofs.venue.Venue.prepare.Goals as goal

pub invariant_of-self-2 : goal.invariant_of-self-2
invariant_of-self-2 c =
    let len : map.len c.make_room.new.book.book.orders ≡ map.len c.self.inside.book.book.orders = ap (λ (b : Book). map.len b.orders) c.make_room.ensures.book in
    let written : c.known_raw-raw.result ≡ raw_of c.args.command.now = c.known_raw-raw.ensures.written in
    let known : reads (raw_of c.args.command.now) ≡ Ok (message_of c.args.command.now) = subst (λ (r : List ℕ). reads r ≡ Ok (message_of c.args.command.now)) written c.known_raw-raw.ensures.says in
    let few : c.self.inside.outbox.next ≤ 4294967294 = subst (λ (v : VenueState). v.pending.next ≤ 4294967294) (sym c.self.view_is) c.in_default.ensures.room in (
      omega (arith, len, c.make_room.ensures.next, c.self.invariant.0),
      record {
        is_raw = subst IsRaw (sym c.copy.ensures) c.known_raw-raw.ensures.raw;
        bytes = subst AreBytes (sym c.copy.ensures) c.known_raw-raw.ensures.bytes;
        ends_is = c.ends_session-self-inside.ensures ∙ ends_as_command c.args.command.now known ∙ ap (λ (r : List ℕ). reads_end (reads r)) (sym written ∙ sym c.copy.ensures);
        room = c.in-Ok.ensures.room;
        goes_on = ap (λ (v : VenueState). v.ended) c.self.view_is ∙ c.in_default.ensures.goes_on;
        next = omega (arith, c.make_room.ensures.next, few);
        none_late = c.in-Ok.ensures.settled;
      },
    )
