-- The words for why a piece of a text was not taken.
use Rattle.std.specs.Prelude.{ℕ, List, ◌++◌, codes, decimal}
use Rattle.unit_commands.specs.declared.pieces.PieceError.{PieceError}
use Rattle.unit_commands.specs.declared.pieces.PieceError.TheVariants.{TooLong, OutOfMemory}
use Rattle.unit_commands.specs.Pieces.{rest_limit}

-- why a piece was not taken
abbrev pub piece_error_text : PieceError → List ℕ
piece_error_text TooLong = codes "a line of more than "
    ++ (decimal rest_limit ++ codes " bytes")
piece_error_text OutOfMemory = codes "out of memory"
