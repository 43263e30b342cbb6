use Rattle.std.proofs.Common.{◌≡◌, length, sym, ap, ◌∙◌, subst}
use Rattle.pitch_model.specs.History.{adds}
use Rattle.pitch_model.specs.Honest.{Honest}
use Rattle.pitch_model.specs.Image.{image}
use Rattle.client_core.specs.Tracks.{Tracks}
use Rattle.drill_client.specs.layers.Following.{imaged_whole}
use Rattle.drill_client.proofs.Ends.{whole_honest}
use Rattle.drill_client.proofs.Closing.{at_imaged}
use Rattle.drill_client.proofs.ending.hear_all.Goals as goal

pub returns : goal.returns
returns c H V many is a =
    let raws : c.args.raws.items ≡ image V (length V) = is.raws_are ∙ ap (image V) (sym many) in
    let orders : c.args.orders ≡ adds (image V (length V)) = is.orders_are ∙ ap adds raws in
    let same : imaged_whole c.args.count c.args.orders c.args.raws.items a.history ≡ imaged_whole (length V) (adds (image V (length V))) (image V (length V)) a.history =
    λ i. imaged_whole (sym many i) (orders i) (raws i) a.history in
    let can = c.images_leave_their_books.ensures.promise V (length V) a.few in
    let honest = whole_honest H V a.history a.honest a.below can a.asked a.top_is in
    at_imaged c.args.client.now c.hear_whole.new.client H V a can
    (subst (Tracks c.hear_whole.new.client H) same (c.in_ok-hear_whole.ensures.tracks H a.history a.tracks))
    (c.in_ok-hear_whole.ensures.keeps image V (c.images_of_bytes_are_images.ensures V a.bytes) H a.history a.tracks (subst (Honest image V) (sym same) honest) a.keeps)
