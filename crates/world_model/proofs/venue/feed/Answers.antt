use Rattle.std.proofs.Common.{◌≡◌, ◌++◌, OnOk, ◌∷◌, subst, sym}
use Rattle.std.proofs.lemmas.Result.{on_ok_weaker}
use Rattle.pitch_text.specs.declared.verb.Session.{Session}
use Rattle.pitch_text.specs.declared.verb.Session.TheVariants.{Spin}
use Rattle.unit_packets.specs.Packing.{bytes_in}
use Rattle.venue_end.specs.Came.{on_gap_line, venue_after}
use Rattle.venue_end.specs.Stands.{Comes, OfVenue}
use Rattle.world_model.specs.Ends.{server_took}
use Rattle.world_model.specs.layers.Feeding.{Feeds}
use Rattle.world_model.proofs.venue.feed.Goals as goal

pub returns-in-Grp : goal.returns-in-Grp
returns-in-Grp c =
    let piece = c.args.piece.now in
    let lines = bytes_in c.args.gap_line.now.items in
    let lines' = bytes_in c.take.new.gap_line.items in
    subst (λ (session : Session). Feeds c.args.venue.now c.take.new.venue session piece lines lines') (sym c.in-Grp.is) (record {
      stands = subst (λ (x : Session). Comes c.args.venue.now c.take.new.venue (server_took x piece)) c.in-Grp.is c.in_ok-take.ensures.comes;
      lined = subst (λ (x : Session). OfVenue c.args.venue.now (λ s before. lines' ≡ lines ++ on_gap_line s (server_took x piece) (venue_after s before))) c.in-Grp.is c.in_ok-take.ensures.lines;
    })

pub returns-in-Spin : goal.returns-in-Spin
returns-in-Spin c =
    let piece = c.args.piece.now in
    let lines = bytes_in c.args.gap_line.now.items in
    let lines' = bytes_in c.take.new.gap_line.items in
    let comes = subst (λ (x : Session). Comes c.args.venue.now c.take.new.venue (server_took x piece)) c.in-Spin.is c.in_ok-take.ensures.comes in
    let lined = subst (λ (x : Session). OfVenue c.args.venue.now (λ s before. lines' ≡ lines ++ on_gap_line s (server_took x piece) (venue_after s before))) c.in-Spin.is c.in_ok-take.ensures.lines in
    subst (λ (session : Session). OnOk c.send_whole.result (Feeds c.args.venue.now c.send_whole.new.venue session piece lines lines')) (sym c.in-Spin.is)
    (on_ok_weaker c.send_whole.result (λ whole. record { stands = λ s before is. whole s (server_took Spin piece ∷ before) (comes s before is); lined = lined }) c.send_whole.ensures)
