-- Bytes that flow.
use Rattle.std.proofs.Common.{◌≡◌, ◌+◌, ◌-◌, ℕ, List, [], ◌++◌, length, take, drop, Option, Some, None, sym, ap, ◌∙◌, subst, append_assoc}
use Rattle.std.proofs.lemmas.List.{append-nil, take_rest}
use Rattle.std.proofs.Math.Seq.{take-add}
use Rattle.pitch_io.specs.Putting.{Grows}

pub grows_none : (o : Option (List ℕ)) → Grows o o []
grows_none None = tt
grows_none (Some xs) = sym (append-nil xs)

pub grows_more : (a b c : Option (List ℕ)) (x y : List ℕ) → Grows a b x → Grows b c y → Grows a c (x ++ y)
grows_more a b None x y g h = tt
grows_more None (Some q) (Some r) x y g h = g
grows_more None None (Some r) x y g h = h
grows_more (Some p) None (Some r) x y g h = absurd h
grows_more (Some p) (Some q) (Some r) x y g h = h ∙ ap (λ (l : List ℕ). l ++ y) g ∙ append_assoc p x y

pub puts_more : (a b c : Option (List ℕ)) (bytes view : List ℕ) (at count : ℕ) → Grows a b (take at bytes) → Grows b c (take count view) → view ≡ take (length bytes - at) (drop at bytes) → Grows a c (take (at + count) bytes)
puts_more a b c bytes view at count g h is =
    let rest : view ≡ drop at bytes = is ∙ take_rest bytes at in
    subst (λ (l : List ℕ). Grows a c l) (sym (take-add at count bytes ∙ ap (λ (v : List ℕ). take at bytes ++ take count v) (sym rest))) (grows_more a b c (take at bytes) (take count view) g h)
