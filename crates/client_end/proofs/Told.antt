-- What a client hears of what a link tells.
use Rattle.std.proofs.Common.{◌≡◌, ℕ, zero, suc, List, [], ◌∷◌, ◌++◌, take, map, refl, sym, ap, ◌∙◌, subst}
use Rattle.std.specs.List.{AllByRecursion}
use Rattle.pitch_model.specs.History.{Entry}
use Rattle.heard_items.specs.declared.item.Item.{Item}
use Rattle.session_ends.specs.Ending.{Ending}
use Rattle.session_ends.specs.Events.{Event}
use Rattle.client_core.specs.declared.client.UnitClient.{UnitClient}
use Rattle.client_links.specs.Linking.{Lookups, LinkStands, link_tells}
use Rattle.client_links.specs.Telling.{without_spare}
use Rattle.heard_items.specs.Heard.{heard_all}
use Rattle.client_links.proofs.Spare.{spare_is_unheard}
use Rattle.client_end.specs.layers.Hearing.{IsTold, HearsItems}
use Rattle.client_end.specs.Parts.{ClientHeard}
use Rattle.client_end.proofs.HeardItems.{venue_first}
use Rattle.client_end.proofs.LinkItems.{link_told, told_spare}

-- what was told, or its beginning, was heard
heard_part : (H : ℕ) (client client' : UnitClient) (items told : List Item) (E : List Entry) → map without_spare items ≡ told → AllByRecursion IsTold told
    → HearsItems client client' items → ClientHeard H client E → ClientHeard H client' (heard_all told E)
heard_part H client client' items told E same are hears has =
    let all : AllByRecursion IsTold items = told_spare items (subst (AllByRecursion IsTold) (sym same) are) in
    let is : heard_all items E ≡ heard_all told E = sym (spare_is_unheard items E) ∙ ap (λ (xs : List Item). heard_all xs E) same in
    subst (ClientHeard H client') is (record {
      tracks = hears.tracks all H E has.tracks;
      keeps = λ V v. hears.keeps all V H E has.tracks v (has.keeps V (venue_first V items E all v));
    })

told_of_link : (link : Ending) (none items : List Item) (piece : List ℕ) (es : List (Event Lookups)) → LinkStands link es → none ≡ []
    → ((es : List (Event Lookups)) → LinkStands link es → map without_spare items ≡ map without_spare none ++ link_tells link.setup es piece) → map without_spare items ≡ link_tells link.setup es piece
told_of_link link none items piece es is nothing tells = tells es is ∙ ap (λ (xs : List Item). map without_spare xs ++ link_tells link.setup es piece) nothing

first_told : (n : ℕ) (items : List Item) → AllByRecursion IsTold items → AllByRecursion IsTold (take n items)
first_told zero items all = tt
first_told (suc n) [] all = tt
first_told (suc n) (x ∷ items) all = (all.0, first_told n items all.1)

first_spare : (n : ℕ) (items : List Item) → map without_spare (take n items) ≡ take n (map without_spare items)
first_spare zero items = refl
first_spare (suc n) [] = refl
first_spare (suc n) (x ∷ items) = ap (λ (xs : List Item). without_spare x ∷ xs) (first_spare n items)

-- the first so many of what a link told
pub heard_first : (n H : ℕ) (link : Ending) (client client' : UnitClient) (none items : List Item) (piece : List ℕ) (es : List (Event Lookups)) (E : List Entry) → LinkStands link es → ClientHeard H client E → none ≡ []
    → ((es : List (Event Lookups)) → LinkStands link es → map without_spare items ≡ map without_spare none ++ link_tells link.setup es piece)
    → HearsItems client client' (take n items) → ClientHeard H client' (heard_all (take n (link_tells link.setup es piece)) E)
heard_first n H link client client' none items piece es E is has nothing tells hears =
    heard_part H client client' (take n items) (take n (link_tells link.setup es piece)) E (first_spare n items ∙ ap (take n) (told_of_link link none items piece es is nothing tells))
    (first_told n (link_tells link.setup es piece) (link_told link.setup es piece)) hears has

pub heard_told : (H : ℕ) (link : Ending) (client client' : UnitClient) (none items : List Item) (piece : List ℕ) (es : List (Event Lookups)) (E : List Entry) → LinkStands link es → ClientHeard H client E → none ≡ []
    → ((es : List (Event Lookups)) → LinkStands link es → map without_spare items ≡ map without_spare none ++ link_tells link.setup es piece)
    → HearsItems client client' items → ClientHeard H client' (heard_all (link_tells link.setup es piece) E)
heard_told H link client client' none items piece es E is has nothing tells hears =
    heard_part H client client' items (link_tells link.setup es piece) E (told_of_link link none items piece es is nothing tells) (link_told link.setup es piece) hears has
