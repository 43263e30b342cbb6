-- Reading a text in pieces.
use Rattle.std.proofs.Common.{◌≡◌, ℕ, ◌+◌, List, [], ◌∷◌, ◌++◌, refl, sym, ap, ◌∙◌, arith, append_assoc}
use Rattle.std.proofs.lemmas.List.{append-nil}
use Rattle.std.specs.List.{concat, fold}
use Rattle.unit_commands.specs.Pieces.{UnreadText, counted_lines, line_feeds, whole_lines, last_line, piece_pushed, lines_passed, read_through}
use Rattle.unit_commands.proofs.CutLemmas.{feeds_append, grown, rest_counts, whole_counts}

counted_on : (before more all : ℕ) → all ≡ before + more → counted_lines (counted_lines before + more) ≡ counted_lines all
counted_on before more all e = omega (arith, e)

-- one piece more
pub piece_read : (text piece : List ℕ) → lines_passed (piece_pushed (read_through text) piece) ≡ read_through (text ++ piece)
piece_read text piece =
    let read : ℕ = line_feeds (whole_lines (last_line text ++ piece)) in
    let feeds : read ≡ line_feeds piece = whole_counts (last_line text ++ piece) ∙ feeds_append (last_line text) piece ∙ ap (λ (n : ℕ). n + line_feeds piece) (rest_counts text) ∙ omega arith in
    let all : line_feeds (text ++ piece) ≡ line_feeds text + read = feeds_append text piece ∙ ap (λ (n : ℕ). line_feeds text + n) (sym feeds) in
    let rest : last_line (last_line text ++ piece) ≡ last_line (text ++ piece) = sym (grown text piece).1 in
    let lines : counted_lines (counted_lines (line_feeds text) + read) ≡ counted_lines (line_feeds (text ++ piece)) = counted_on (line_feeds text) read (line_feeds (text ++ piece)) all in
    same_left _ _ _ _ rest lines
  where
    same_left : (rest rest' : List ℕ) (lines lines' : ℕ) → rest ≡ rest' → lines ≡ lines' → ◌≡◌ {A = UnreadText} (record { whole = []; rest = rest; lines = lines }) (record { whole = []; rest = rest'; lines = lines' })
    same_left rest rest' lines lines' r l = rw (r, l) refl

read_on : (text : List ℕ) (pieces : List (List ℕ)) → fold (λ unread piece. lines_passed (piece_pushed unread piece)) (read_through text) pieces ≡ read_through (text ++ concat pieces)
read_on text [] = ap read_through (sym (append-nil text))
read_on text (piece ∷ pieces) =
    ap (λ (unread : UnreadText). fold (λ unread piece. lines_passed (piece_pushed unread piece)) unread pieces) (piece_read text piece) ∙ read_on (text ++ piece) pieces
    ∙ ap read_through (append_assoc text piece (concat pieces))

-- many pieces
pub pieces_read : (pieces : List (List ℕ)) → fold (λ unread piece. lines_passed (piece_pushed unread piece)) (read_through []) pieces ≡ read_through (concat pieces)
pieces_read pieces = read_on [] pieces
