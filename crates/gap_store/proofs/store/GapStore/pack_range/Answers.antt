use Rattle.std.proofs.Common.{◌∙◌, sym}
use Rattle.gap_store.specs.declared.found.Found.TheVariants.{Ahead, NotKept}
use Rattle.gap_store.proofs.Keeping.{packs_none}
use Rattle.gap_store.proofs.store.GapStore.pack_range.Goals as goal

pub returns-in-Ahead-clause-found : goal.returns-in-Ahead-clause-found
returns-in-Ahead-clause-found c = λ v is.
    packs_none v c.args.self.now c.args.unit c.args.first c.args.count (Ahead c.in-Ahead.last) _ is (sym c.in-Ahead.is ∙ c.found.ensures.found v is) (λ e. cc)

pub returns-in-NotKept-clause-found : goal.returns-in-NotKept-clause-found
returns-in-NotKept-clause-found c = λ v is.
    packs_none v c.args.self.now c.args.unit c.args.first c.args.count (NotKept c.in-NotKept.first) _ is (sym c.in-NotKept.is ∙ c.found.ensures.found v is) (λ e. cc)
