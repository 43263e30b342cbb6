use Rattle.std.proofs.Common.{◌≡◌, ℕ, ◌<◌, List, [], ◌∷◌, ◌++◌, drop, length, ap, sym, ◌∙◌, subst, arith}
use Rattle.std.proofs.lemmas.List.{append-nil}
use Rattle.pitch_messages.specs.Raw.{raws_of}
use Rattle.pitch_messages.proofs.Chains.{no_raws}
use Rattle.pitch_messages.specs.Room.{Roomy}
use Rattle.unit_packets.specs.Pushing.{Packing}
use Rattle.unit_packets.proofs.OnePacking.{gives_packing}
use Rattle.unit_packets.proofs.Packs.{finishes, nothing_begun, none_given, one_given}
use Rattle.unit_packets.proofs.packer.Packer.finish.Goals as goal

nothing : (n : ℕ) (bytes : List ℕ) → n ≡ 0 → raws_of n (drop 8 bytes) ≡ []
nothing n bytes none = ap (λ (k : ℕ). raws_of k (drop 8 bytes)) none ∙ no_raws (drop 8 bytes)

pub returns-then-self-eq0-clause-after : goal.returns-then-self-eq0-clause-after
returns-then-self-eq0-clause-after c = nothing_begun _ (sym (ap (λ (p : Packing). p.begun) c.self.view_is) ∙ nothing _ c.self.inside.bytes.items c.if-self-eq0.true)

pub returns-then-self-eq0-clause-ok : goal.returns-then-self-eq0-clause-ok
returns-then-self-eq0-clause-ok c =
    let none : c.args.self.now.begun ≡ [] = sym (ap (λ (p : Packing). p.begun) c.self.view_is) ∙ nothing _ c.self.inside.bytes.items c.if-self-eq0.true in
    finishes _ _ _ _ [] (sym (append-nil c.args.out.now.items)) (none_given c.args.self.now none) (nothing_begun _ none)

pub returns-clause-ok : goal.returns-clause-ok
returns-clause-ok c =
    let some : 0 < length c.args.self.now.begun = subst (λ (rs : List (List ℕ)). 0 < length rs) (ap (λ (p : Packing). p.begun) c.self.view_is) (omega (arith, c.self.invariant.chain.many)) in
    finishes _ _ _ _ (c.of_vec.result ∷ []) (c.in_ok-push.ensures.ok ∙ ap (λ (l : List (Roomy ℕ)). l ++ c.of_vec.result ∷ []) c.in_ok-reserve.ensures.items)
    (one_given _ _ _ c.of_vec.result some (c.of_vec.ensures ∙ c.close-datagram.ensures.bytes)) c.close-datagram.ensures.after

pub returns-then-self-eq0-clause-packing : goal.returns-then-self-eq0-clause-packing
returns-then-self-eq0-clause-packing c = gives_packing _ _ _ _ (subst (λ (p : Packing). p.unit < 256) c.self.view_is (omega arith)) (returns-then-self-eq0-clause-ok c)

pub returns-clause-packing : goal.returns-clause-packing
returns-clause-packing c = gives_packing _ _ _ _ (subst (λ (p : Packing). p.unit < 256) c.self.view_is (omega arith)) (returns-clause-ok c)
