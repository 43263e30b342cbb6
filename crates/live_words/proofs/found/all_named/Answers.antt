use Rattle.std.proofs.Common.{◌≡◌, List, ℕ, [], ◌∷◌, ◌++◌, map, take, length, ◌<◌, Bor, ◌+◌, rules, subst, sym}
use Rattle.std.proofs.lemmas.List.{length-map, get_or-map}
use Rattle.live_words.specs.Options.{AreNamed}
use Rattle.live_words.proofs.Naming.{named_at, named_next}
use Rattle.live_words.proofs.found.all_named.Goals as goal

pub returns-in_default : goal.returns-in_default
returns-in_default g c values named =
    let texts : List (List ℕ) = map (λ (t : Bor (List ℕ)). t.now) c.args.texts.now in
    let place : c.loop-text.text-index < length texts = search (rules, length-map) in
    let found = named_at g.T.Named.names texts values [] c.loop-text.text-index place named in
    c.in_default.ensures.none found.0 (search (rules, found.1, get_or-map))

pub loop-text-preserved : goal.loop-text-preserved
loop-text-preserved g c =
    let items : c.push.new.self.items ≡ c.loop-text.values.items ++ c.in-Some.value ∷ [] = search rules in
    let place : c.loop-text.text-index < length c.args.texts.now = search rules in
    subst (λ xs. AreNamed g.T.Named.names (take (c.loop-text.text-index + 1) (map (λ (t : Bor (List ℕ)). t.now) c.args.texts.now)) xs) (sym items)
    (named_next g.T.Named.names c.args.texts.now c.loop-text.text-index _ _ c.in-Some.value place c.loop-text.invariant c.in-Some.ensures.some)
