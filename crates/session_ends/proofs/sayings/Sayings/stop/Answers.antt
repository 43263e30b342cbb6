use Rattle.std.proofs.Common.{◌≡◌, ◌∷◌, [], ◌∙◌, ap, sym, subst, arith, drop, Err, MatchOption}
use Rattle.unit_packets.specs.Judging.{judge}
use Rattle.session_ends.specs.layers.Hearing.{Saying, says}
use Rattle.session_ends.proofs.Through.{stopped}
use Rattle.session_ends.proofs.sayings.Sayings.stop.Goals as goal

pub returns-clause-says : goal.returns-clause-says
returns-clause-says c =
    subst (λ (s : Saying). MatchOption c.trouble.result (says s ≡ []) (λ item. says s ≡ item ∷ [])) c.self.view_is
    (stopped c.self.inside.bytes.now c.self.inside.passed c.self.inside.place c.self.inside.message c.self.inside.raws c.self.inside.inside c.self.inside.stop c.args.error c.trouble.result
    (ap (λ (s : Saying). s.inside) c.self.view_is ∙ c.requires.shut) (ap (λ (s : Saying). s.stop) c.self.view_is ∙ c.requires.on) (omega arith)
    (subst (λ (s : Saying). judge (drop s.passed s.bytes) ≡ Err c.args.error) (sym c.self.view_is) c.requires.stands) c.trouble.ensures)
