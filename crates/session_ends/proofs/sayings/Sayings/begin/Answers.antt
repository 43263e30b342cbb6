use Rattle.std.proofs.Common.{ℕ, ◌+◌, List, ◌∷◌, ◌++◌, ◌∙◌, ap, sym, subst, drop}
use Rattle.std.proofs.lemmas.Bool.{eq-eqb, ne_eqb}
use Rattle.unit_packets.specs.Held.{StandsFirst}
use Rattle.unit_packets.specs.declared.header.Header.{Header}
use Rattle.session_ends.specs.declared.closed.CloseCause.TheVariants.{Sequenced}
use Rattle.session_ends.specs.declared.inbox.Heard.TheVariants.{Broken}
use Rattle.session_ends.specs.layers.Hearing.{Saying, says, block_left, follows}
use Rattle.session_ends.specs.Items.{closed_at, onward, messages_from}
use Rattle.session_ends.proofs.Through.{begun_broken, begun_block, cut_more}
use Rattle.session_ends.proofs.sayings.Sayings.begin.Goals as goal

pub invariant_of-self : goal.invariant_of-self
invariant_of-self c = cut_more c.self.inside.bytes.now c.self.inside.passed c.self.inside.place c.self.inside.message c.self.inside.raws c.self.inside.inside c.self.inside.stop c.args.block.now c.header-size.result.length
    (subst (λ (s : Saying). StandsFirst (drop s.passed s.bytes) c.args.block.now) (sym c.self.view_is) c.requires.stands)
    (ap (λ (s : Saying). s.inside) c.self.view_is ∙ c.requires.shut) (ap (λ (s : Saying). s.stop) c.self.view_is ∙ c.requires.on) (ap (λ (h : Header). h.length) c.header-size.ensures) c.self.invariant

pub returns-then-header-ne0-clause-says : goal.returns-then-header-ne0-clause-says
returns-then-header-ne0-clause-says c = ap says (sym c.self.view_is)
    ∙ begun_broken c.self.inside.bytes.now c.self.inside.passed c.self.inside.place c.self.inside.message c.self.inside.raws c.self.inside.inside c.self.inside.stop c.args.block.now c.header-size.result.length
    (subst (λ (s : Saying). StandsFirst (drop s.passed s.bytes) c.args.block.now) (sym c.self.view_is) c.requires.stands)
    (ap (λ (s : Saying). s.inside) c.self.view_is ∙ c.requires.shut) (ap (λ (s : Saying). s.stop) c.self.view_is ∙ c.requires.on) (ap (λ (h : Header). h.length) c.header-size.ensures)
    (ne_eqb c.args.block.now.sequence 0 (λ e. c.if-header-ne0.true (ap (λ (h : Header). h.sequence) c.header.ensures ∙ e)))
    ∙ ap (λ (n : ℕ). Broken (closed_at Sequenced c.self.inside.place) ∷ (block_left c.self.inside.inside c.self.inside.message c.self.inside.raws ++ follows c.self.inside.stop n (drop (c.self.inside.passed + c.header-size.result.length) c.self.inside.bytes.now))) (sym c.onward-self-inside.ensures)

pub invariant_of-self-2 : goal.invariant_of-self-2
invariant_of-self-2 c = cut_more c.self.inside.bytes.now c.self.inside.passed c.self.inside.place c.self.inside.message c.self.inside.raws c.self.inside.inside c.self.inside.stop c.args.block.now c.header-size.result.length
    (subst (λ (s : Saying). StandsFirst (drop s.passed s.bytes) c.args.block.now) (sym c.self.view_is) c.requires.stands)
    (ap (λ (s : Saying). s.inside) c.self.view_is ∙ c.requires.shut) (ap (λ (s : Saying). s.stop) c.self.view_is ∙ c.requires.on) (ap (λ (h : Header). h.length) c.header-size.ensures) c.self.invariant

pub returns-clause-says : goal.returns-clause-says
returns-clause-says c = ap says (sym c.self.view_is)
    ∙ begun_block c.self.inside.bytes.now c.self.inside.passed c.self.inside.place c.self.inside.message c.self.inside.raws c.self.inside.inside c.self.inside.stop c.args.block.now c.header-size.result.length
    (subst (λ (s : Saying). StandsFirst (drop s.passed s.bytes) c.args.block.now) (sym c.self.view_is) c.requires.stands)
    (ap (λ (s : Saying). s.inside) c.self.view_is ∙ c.requires.shut) (ap (λ (s : Saying). s.stop) c.self.view_is ∙ c.requires.on) (ap (λ (h : Header). h.length) c.header-size.ensures)
    (eq-eqb c.args.block.now.sequence 0 (sym (ap (λ (h : Header). h.sequence) c.header.ensures) ∙ c.if-header-ne0.false))
    ∙ ap (λ (n : ℕ). messages_from n c.args.block.now.raws ++ follows c.self.inside.stop (onward c.self.inside.place c.header-size.result.length) (drop (c.self.inside.passed + c.header-size.result.length) c.self.inside.bytes.now)) (sym c.onward-self-inside-2.ensures)
    ∙ ap (λ (r : List (List ℕ)). messages_from c.onward-self-inside-2.result r ++ follows c.self.inside.stop (onward c.self.inside.place c.header-size.result.length) (drop (c.self.inside.passed + c.header-size.result.length) c.self.inside.bytes.now)) (sym c.raws-self-inside.ensures.raws)
    ∙ ap (λ (n : ℕ). messages_from c.onward-self-inside-2.result c.raws-self-inside.result ++ follows c.self.inside.stop n (drop (c.self.inside.passed + c.header-size.result.length) c.self.inside.bytes.now)) (sym c.onward-self-inside.ensures)
    ∙ c.next_of_block.ensures.says
