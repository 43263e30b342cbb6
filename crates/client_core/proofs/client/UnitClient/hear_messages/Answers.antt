use Rattle.std.proofs.Common.{◌+◌, ◌∙◌, length, arith}
use Rattle.client_core.specs.Client.{held_number, current_book}
use Rattle.client_core.proofs.Applying.{notes_after, venues_after}
use Rattle.client_core.proofs.client.UnitClient.hear_messages.Goals as goal

pub returns-clause-room : goal.returns-clause-room
returns-clause-room g c = λ more r.
    let roomy = c.make_room.ensures.same.held_is in
    let looked = c.look_up.ensures.same.held_is in
    c.hear_raws.ensures.room more
    (g.met.N.Notes.fewer c.reserve.new.self ((length c.args.raws + held_number c.look_up.new.self) + more) ((length c.args.raws + held_number c.args.self.now) + more) (omega arith)
    (c.reserve.ensures.keeps ((length c.args.raws + held_number c.args.self.now) + more) r))

pub returns-clause-notes : goal.returns-clause-notes
returns-clause-notes g c =
    let roomy = c.make_room.ensures.same in
    let looked = c.look_up.ensures.same in
    let more = roomy.spare in
    let same = looked.spare in
    notes_after g.N.Notes.noted g.met.N.Notes.both _ _ _ c.args.self.now.book c.look_up.new.self.book _ c.args.notes.now c.reserve.new.self _
    (looked.reached_is ∙ roomy.reached_is) (looked.book_is ∙ roomy.book_is) (omega arith) (c.reserve.ensures.noted (current_book c.args.self.now)) c.hear_raws.ensures.notes

pub returns-clause-venues : goal.returns-clause-venues
returns-clause-venues g c = λ V are K.
    let roomy = c.make_room.ensures.same in
    let looked = c.look_up.ensures.same in
    venues_after g.N.Notes.noted g.met.N.Notes.both c.args.self.now c.look_up.new.self c.hear_raws.new.self V c.args.notes.now c.reserve.new.self c.hear_raws.new.notes
    (looked.reached_is ∙ roomy.reached_is) (looked.book_is ∙ roomy.book_is) (c.reserve.ensures.noted (current_book c.args.self.now)) (c.hear_raws.ensures.venues V are (looked.keeps V (roomy.keeps V K)))
