use Rattle.std.proofs.Common.{refl, subst}
use Rattle.pitch_model.specs.Advertising.{accepted_by}
use Rattle.spin_server.specs.Shelves.{Shelf}
use Rattle.spin_server.specs.layers.ShelfViews.{ShelfShows, seen_of}
use Rattle.spin_server.proofs.Shelving.{shelf_seen}
use Rattle.spin_path.specs.Paths.{path_of}
use Rattle.spin_path.proofs.Pumps.{served_on, views_are_shown}
use Rattle.spin_path.proofs.serving.serve.Goals as goal

pub returns-clause-serves : goal.returns-clause-serves
returns-clause-serves c = λ operations setup moves stands are same serves.
    let f = c.in_ok-feed.ensures.fed (path_of setup moves).served (seen_of operations) serves (shelf_seen c.args.shelf.now operations stands) in
    let shows = subst (λ (shelf : Shelf). ShelfShows shelf f.now) (c.in_ok-feed.ensures.same refl) f.shows in
    served_on (accepted_by operations) setup moves c.args.piece.now c.args.server.now c.feed.new.self c.pump.new.self c.args.down.now.items c.feed.new.reply.items c.pump.new.reply.items (seen_of operations) _ c.in_ok-more.more f
    (views_are_shown c.args.shelf.now operations f.views f.now stands f.rises shows) are same c.in_ok-feed.ensures.setup (c.in_ok-more.ensures.stands _ f.stands) (c.in_ok-more.ensures.says _ f.stands) (c.in_ok-more.ensures.more _ f.stands)
