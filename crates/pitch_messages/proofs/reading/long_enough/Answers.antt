use Rattle.std.proofs.Common.{◌≡◌, ℕ, List, Option, length, sym, ap, ◌∙◌, arith}
use Rattle.std.specs.Option.{option_map}
use Rattle.pitch_messages.specs.Raw.{kind_of}
use Rattle.pitch_messages.specs.Table.{needs}
use Rattle.pitch_messages.specs.Reading.{MessageRow, row_of}
use Rattle.pitch_messages.proofs.Rows.{row_long, row_unknown, short}
use Rattle.pitch_messages.proofs.reading.long_enough.Goals as goal

-- what the type of a raw needs, where the type is another name of its kind
needed : (least : Option ℕ) (kind : ℕ) (raw : List ℕ) → kind ≡ kind_of raw → least ≡ option_map (λ (row : MessageRow). needs row) (row_of kind) → least ≡ option_map (λ (row : MessageRow). needs row) (row_of (kind_of raw))
needed least kind raw is of = of ∙ ap (λ (k : ℕ). option_map (λ (row : MessageRow). needs row) (row_of k)) is

pub returns-in-Some-clause-err : goal.returns-in-Some-clause-err
returns-in-Some-clause-err c =
    short c.args.bytes.now c.in-Some.needs (needed _ c.args.kind c.args.bytes.now c.requires.kind (sym c.in-Some.is ∙ c.needs_of.ensures)) (omega arith) c.requires.raw

pub returns-in_default-clause-ok : goal.returns-in_default-clause-ok
returns-in_default-clause-ok c =
    row_long c.in-Some.needs (length c.args.bytes.now) (row_of (kind_of c.args.bytes.now)) (needed _ c.args.kind c.args.bytes.now c.requires.kind (sym c.in-Some.is ∙ c.needs_of.ensures)) (omega arith)

pub returns-in_default-2-clause-ok : goal.returns-in_default-2-clause-ok
returns-in_default-2-clause-ok c =
    row_unknown (length c.args.bytes.now) (row_of (kind_of c.args.bytes.now)) (needed _ c.args.kind c.args.bytes.now c.requires.kind (sym c.in_default.is ∙ c.needs_of.ensures))
