-- What a client hears of the next bytes.
use Rattle.std.proofs.Common.{◌≡◌, ℕ, List, [], ◌∷◌, ◌++◌, map, sym, ap, ◌∙◌, subst}
use Rattle.pitch_model.specs.History.{Raw}
use Rattle.heard_items.specs.declared.item.Item.{Item}
use Rattle.session_ends.specs.declared.role.Role.TheVariants.{SpinLink}
use Rattle.session_ends.specs.Closing.{Setup}
use Rattle.session_ends.specs.Events.{Fed, fed_of}
use Rattle.client_links.specs.Linking.{NoLookup, LinkStands, link_setup, link_tells}
use Rattle.session_ends.specs.Ending.{Ending}
use Rattle.client_links.specs.Telling.{without_spare}
use Rattle.spin_path.specs.Paths.{Path, Move, Links, path_of, all_said, AreMoves}
use Rattle.heard_items.specs.Heard.{heard_all}
use Rattle.spin_path.specs.PathLaws.{takes_all, IsFeed, HasWholeImages, CarriesOn}
use Rattle.client_links.proofs.Spare.{spare_is_unheard}
use Rattle.spin_path.proofs.Moves.{all_are_taken}
use Rattle.spin_path.proofs.Whole.{images_are_whole}

pub carried : (V : List Raw) (setup s : Setup) (moves : List Move) (piece later : List ℕ) (before after : List Item) (new : Ending) → IsFeed V → AreMoves V setup moves → s ≡ link_setup SpinLink (path_of setup moves).setup.unit → (path_of setup moves).told ≡ []
    → all_said (path_of setup moves).setup (path_of setup moves).served ≡ (fed_of (path_of setup moves).linked ++ piece) ++ later → before ≡ [] → map without_spare after ≡ map without_spare before ++ link_tells s (path_of setup moves).linked piece
    → LinkStands new (Fed piece NoLookup ∷ (path_of setup moves).linked) → CarriesOn V setup moves piece new after
carried V setup s moves piece later before after new feed are same none said empty tells stands =
    let p : Path = path_of setup moves in
    let more : List Move = Links (Fed piece NoLookup) ∷ moves in
    let all = all_are_taken V setup more ((later, said), are) in
    let told : List Item = link_tells (link_setup SpinLink p.setup.unit) p.linked piece in
    let items : p.told ++ told ≡ map without_spare after =
    ap (λ (l : List Item). l ++ told) none
    ∙ sym (tells ∙ ap (λ (l : List Item). map without_spare l ++ link_tells s p.linked piece) empty ∙ ap (λ (x : Setup). link_tells x p.linked piece) same) in
    let history : (path_of setup (takes_all setup more)).history ≡ heard_all after p.history =
    ap (λ (q : Path). q.history) all.1 ∙ ap (λ (l : List Item). heard_all l p.history) items ∙ spare_is_unheard after p.history in
    record {
      are = all.0;
      stands = subst (LinkStands new) (sym (ap (λ (q : Path). q.linked) all.1)) stands;
      told = ap (λ (q : Path). q.told) all.1;
      heard = history;
      whole = subst (HasWholeImages V) history (images_are_whole V setup (takes_all setup more) feed all.0);
    }
