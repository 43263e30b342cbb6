use Rattle.spin_path.specs.Paths.{path_of}
use Rattle.spin_path.proofs.Carries.{carried}
use Rattle.spin_path.proofs.carrying.carry.Goals as goal

pub returns-clause-carries : goal.returns-clause-carries
returns-clause-carries c = λ V setup moves later feed are same stands none said.
    carried V setup c.args.link.now.setup moves c.args.piece.now later c.args.items.now.items c.feed.new.items.items c.feed.new.self feed are same none said c.requires.empty
    (c.in_ok-feed.ensures.tells (path_of setup moves).linked stands) (c.in_ok-feed.ensures.stands (path_of setup moves).linked stands)
