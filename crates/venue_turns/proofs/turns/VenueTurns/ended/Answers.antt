use Rattle.std.proofs.Common.{◌∷◌, Some, sym, ap, ◌∙◌}
use Rattle.venue_turns.specs.declared.link.Link.TheVariants.{Free}
use Rattle.venue_turns.proofs.Linking.{knows_ended}
use Rattle.venue_turns.proofs.Placing.{is_over}
use Rattle.venue_turns.proofs.Standing.{goes_on_kept, more_kept, ways_kept}
use Rattle.venue_turns.proofs.turns.VenueTurns.ended.Goals as goal

pub returns : goal.returns
returns c = λ call is w e e' run st here.
    let place = c.args.place in
    let t = c.args.self.now in
    let over = is_over w e' run place call is in
    let knows = knows_ended place run call is in
    let t' = c.keep.new.self in
    let ways = ways_kept w e e' t run call st t' place Free c.keep.ensures.kept c.keep.ensures.same over.called knows in
    goes_on_kept w e e' t run call st t' place Free c.keep.ensures.kept c.keep.ensures.same over.called knows c.after_place-self.result t'.more
    (c.after_place-self.ensures.place w (call ∷ run) ways over.none) (over.due_is ∙ ap Some (sym (c.after_place-self.ensures.due w e' (call ∷ run) ways)))
    (more_kept w e e' t run call st t' place Free c.keep.ensures.kept c.keep.ensures.same over.called knows over.more_is) over.read_is
