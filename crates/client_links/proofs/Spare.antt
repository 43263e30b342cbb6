-- Room that a list has to spare makes no difference to what is heard.
use Rattle.std.proofs.Common.{◌≡◌, List, [], ◌∷◌, refl, ap, ◌∙◌, map}
use Rattle.pitch_model.specs.History.{Entry}
use Rattle.heard_items.specs.declared.item.Item.{Item}
use Rattle.heard_items.specs.declared.item.Item.TheVariants as item
use Rattle.heard_items.specs.Heard.{heard, heard_all}
use Rattle.client_links.specs.Telling.{without_spare}

spare_one : (i : Item) (E : List Entry) → heard (without_spare i) E ≡ heard i E
spare_one (item.Messages first raws) E = refl
spare_one (item.Next next) E = refl
spare_one item.Nothing E = refl
spare_one item.GrpUp E = refl
spare_one item.GrpDown E = refl
spare_one (item.GapReply sequence count status) E = refl
spare_one item.SpinUp E = refl
spare_one item.SpinDown E = refl
spare_one (item.Advertised sequence) E = refl
spare_one (item.SpinReply sequence orders status) E = refl
spare_one (item.ImageMessages raws) E = refl
spare_one (item.SpinFinished sequence) E = refl

pub spare_is_unheard : (items : List Item) (E : List Entry) → heard_all (map without_spare items) E ≡ heard_all items E
spare_is_unheard [] E = refl
spare_is_unheard (i ∷ items) E = ap (heard_all (map without_spare items)) (spare_one i E) ∙ spare_is_unheard items (heard i E)
