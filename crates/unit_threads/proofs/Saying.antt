-- What a publisher has said, step by step.
use Rattle.std.proofs.Common.{◌≡◌, ℕ, suc, ◌+◌, List, [], ◌∷◌, ◌++◌, map, take, Some, refl, sym, ap, ◌∙◌, arith, append_assoc}
use Rattle.std.proofs.lemmas.List.{map-append, take_more}
use Rattle.std.proofs.lemmas.Option.{get_or_from_slice_get, slice_get_within}
use Rattle.std.specs.List.{slice_get}
use Rattle.unit_packets.proofs.Packs.{bytes_more}
use Rattle.pitch_messages.specs.Room.{Roomy}
use Rattle.unit_packets.specs.Packing.{bytes_in}
use Rattle.drill_client.specs.declared.words.Word.{Word}
use Rattle.unit_threads.specs.layers.Saying.{words_for_command, words_through}

-- and so of what is sent
pub one_sent_more : {X M : Type 0} (wrap : X → M) (before now after : List M) (items : List X) (i : ℕ) (item copy : X) → slice_get items i ≡ Some item → copy ≡ item
    → now ≡ before ++ map wrap (take i items) → after ≡ now ++ wrap copy ∷ [] → after ≡ before ++ map wrap (take (i + 1) items)
one_sent_more {X} {M} wrap before now after items i item copy at same is_now is_after =
    let one : take (i + 1) items ≡ take i items ++ item ∷ [] = take_more items i item (slice_get_within items i item at) ∙ ap (λ (x : X). take i items ++ x ∷ []) (get_or_from_slice_get items i item item at) in
    is_after
    ∙ ap (λ (l : List M). l ++ wrap copy ∷ []) is_now
    ∙ append_assoc before (map wrap (take i items)) (wrap copy ∷ [])
    ∙ ap (λ (x : X). before ++ (map wrap (take i items) ++ wrap x ∷ [])) same
    ∙ ap (λ (l : List M). before ++ l) (sym (map-append wrap (take i items) (item ∷ [])))
    ∙ ap (λ (l : List X). before ++ map wrap l) (sym one)

-- also where it is sent by its bytes
pub sent_one_more : {M : Type 0} (wrap : List ℕ → M) (before now after : List M) (lists : List (Roomy ℕ)) (i : ℕ) (list : Roomy ℕ) (copy : List ℕ) → slice_get lists i ≡ Some list → copy ≡ list.items
    → now ≡ before ++ map wrap (bytes_in (take i lists)) → after ≡ now ++ wrap copy ∷ [] → after ≡ before ++ map wrap (bytes_in (take (i + 1) lists))
sent_one_more {M} wrap before now after lists i list copy at same is_now is_after =
    is_after
    ∙ ap (λ (l : List M). l ++ wrap copy ∷ []) is_now
    ∙ append_assoc before (map wrap (bytes_in (take i lists))) (wrap copy ∷ [])
    ∙ ap (λ (d : List ℕ). before ++ (map wrap (bytes_in (take i lists)) ++ wrap d ∷ [])) same
    ∙ ap (λ (l : List M). before ++ l) (sym (map-append wrap (bytes_in (take i lists)) (list.items ∷ [])))
    ∙ ap (λ (ds : List (List ℕ)). before ++ map wrap ds) (sym (bytes_more lists i list at))

-- ---- All words
pub words_begin : {R : Type 0} (number unit count : ℕ) → words_through {R = R} number unit count 0 ≡ []
unfolding words_through
words_begin number unit count = refl

pub words_next : {R : Type 0} (number unit count index : ℕ) (now after : List (Word R)) → now ≡ words_through number unit count index → after ≡ now ++ words_for_command number unit count (index + 1)
    → after ≡ words_through number unit count (index + 1)
unfolding words_through
words_next {R} number unit count index now after is_now is_after =
    let e : index + 1 ≡ suc index = omega arith in
    is_after
    ∙ ap (λ (l : List (Word R)). l ++ words_for_command number unit count (index + 1)) is_now
    ∙ ap (λ (n : ℕ). words_through {R = R} number unit count index ++ words_for_command number unit count n) e
    ∙ ap (λ (n : ℕ). words_through {R = R} number unit count n) (sym e)
