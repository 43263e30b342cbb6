-- What is printed where only blocks came.
use Rattle.std.proofs.Common.{◌≡◌, ◌<◌, ℕ, zero, suc, ◌+◌, Bool, true, false, ◌&&◌, ◌||◌, ◌==◌, cond, List, [], ◌∷◌, ◌++◌, length, map, reverse, take, eqb, refl, sym, ap, ◌∙◌, subst, append_assoc, arith, inl, inr, true≢false}
use Rattle.std.specs.Prelude.{filter, nat_lt}
use Rattle.std.specs.List.{AllByRecursion, flat_map, list_any}
use Rattle.std.proofs.lemmas.Bool.{cases_eq, eq-eqb, ne_eqb}
use Rattle.std.proofs.lemmas.Grind.{reverse_onto}
use Rattle.std.proofs.lemmas.List.{append-nil}
use Rattle.unit_packets.specs.Blocks.{Block}
use Rattle.pitch_model.specs.Book.{book_after}
use Rattle.pitch_model.specs.History.{Entry, Raw}
use Rattle.pitch_model.specs.Reach.{reach, reach_of}
use Rattle.heard_items.specs.Units.{unit_history}
use Rattle.feed_lines.specs.BookText.{book_text}
use Rattle.feed_lines.specs.Follow.{books_of, line_after, line_at, lines_after, unit_text}
use Rattle.feed_lines.proofs.Texts.{texts_none, texts_first}
use Rattle.client_end.specs.Came.{Came, EndSetup, Heard, end_history}
use Rattle.client_end.proofs.Lines.{blocks_are_followed}
use Rattle.unit_clients.specs.Clients.{is_named}
use Rattle.stream_print.specs.Rising.{named_below}
use Rattle.stream_print.proofs.Naming.{units_below}
use Rattle.live_units.specs.Coming.{LiveSetup, UnitCame, block_count, book_at, came_to, end_setup, has_book, has_unit, live_books, live_lines, to_unit, with_blocks}
use Rattle.live_units.specs.layers.Laws.{BooksAreFollows, LinesAreFollows, TextIsFollows}
use Rattle.live_units.specs.layers.Laws.{listened_of, only_blocks}
use Rattle.live_units.specs.LiveText.{came_text, end_book, is_block, is_told_of}

-- ---- One unit
pub lines_are : LinesAreFollows
lines_are s blocks block ours =
    ap (λ (E : List Entry). line_at s.hold (length blocks + 1) block E) (blocks_are_followed s blocks ∙ ap (λ (unit : ℕ). unit_history unit blocks) (sym ours))

pub books_are : BooksAreFollows
books_are s Vs blocks =
    ap (λ (E : List Entry). book_text s.unit (reach s.hold E) (book_after (take (reach s.hold E) (Vs s.unit)))) (blocks_are_followed s blocks)

-- ---- All units, to which these blocks came, the newest first
abbrev all_to : List Block → List UnitCame
all_to blocks = map (λ (block : Block). to_unit block.unit (Heard block)) blocks

came_blocks : (unit : ℕ) (before : List Block) → came_to unit (all_to before) ≡ only_blocks unit before
came_blocks unit [] = refl
came_blocks unit (block ∷ before) = by (came_blocks unit before) (eqb block.unit unit)
  where
    ours : List Block
    ours = filter (λ (x : Block). x.unit == unit) before

    by : came_to unit (all_to before) ≡ map (λ (x : Block). Heard x) ours → (c : Bool)
        → cond c (Heard block ∷ came_to unit (all_to before)) (came_to unit (all_to before)) ≡ map (λ (x : Block). Heard x) (cond c (block ∷ ours) ours)
    by same true = ap (λ (l : List Came). Heard block ∷ l) same
    by same false = same

count_blocks : (before : List Block) → block_count (all_to before) ≡ length before
count_blocks [] = refl
count_blocks (block ∷ before) =
    let same = count_blocks before in
    let more : length (block ∷ before) ≡ length before + 1 = omega arith in
    ap (λ (n : ℕ). n + 1) same ∙ sym more

reverse_cons : (x : Block) (xs before : List Block) → reverse (x ∷ xs) ++ before ≡ reverse xs ++ (x ∷ before)
reverse_cons x xs before = ap (λ (ys : List Block). ys ++ before) (reverse_onto xs x []) ∙ append_assoc (reverse xs) (x ∷ []) before

-- the numbers that pass one test or another that is the same
named_same : (p q : ℕ → Bool) → ((n : ℕ) → p n ≡ q n) → (n : ℕ) → named_below p n ≡ named_below q n
unfolding named_below
named_same p q same zero = refl
named_same p q same (suc n) =
    ap (λ (l : List ℕ). l ++ cond (p n) (n ∷ []) []) (named_same p q same n) ∙ ap (λ (b : Bool). named_below q n ++ cond b (n ∷ []) []) (same n)

flat_same : (f g : ℕ → List ℕ) → ((n : ℕ) → f n ≡ g n) → (xs : List ℕ) → flat_map f xs ≡ flat_map g xs
flat_same f g same [] = refl
flat_same f g same (x ∷ xs) = ap (λ (t : List ℕ). t ++ flat_map f xs) (same x) ∙ ap (λ (t : List ℕ). g x ++ t) (flat_same f g same xs)

eqb_turned : (a b : ℕ) → eqb a b ≡ eqb b a
eqb_turned a b = elim (cases_eq a b) [
  | inl same ↦ eq-eqb a b same ∙ sym (eq-eqb b a (sym same))
  | inr apart ↦ ne_eqb a b apart ∙ sym (ne_eqb b a (λ e. apart (sym e)))
]

-- ---- Which units were told of
any_block : (unit : ℕ) (before : List Block) → list_any is_block (only_blocks unit before) ≡ is_named before unit
any_block unit [] = refl
any_block unit (block ∷ before) = by (any_block unit before) (eqb block.unit unit) ∙ ap (λ (c : Bool). c || is_named before unit) (eqb_turned block.unit unit)
  where
    ours : List Block
    ours = filter (λ (x : Block). x.unit == unit) before

    by : list_any is_block (map (λ (x : Block). Heard x) ours) ≡ is_named before unit → (c : Bool) → list_any is_block (map (λ (x : Block). Heard x) (cond c (block ∷ ours) ours)) ≡ (c || is_named before unit)
    by same true = refl
    by same false = same

no_blocks : (blocks : List Block) → list_any is_block (map (λ (x : Block). Heard x) blocks) ≡ false → map (λ (x : Block). Heard x) blocks ≡ []
no_blocks [] none = refl
no_blocks (block ∷ blocks) none = absurd (true≢false none)

told_none : (s : EndSetup) → is_told_of s [] ≡ false
unfolding reach_of
told_none s = refl

told_blocks : (s : EndSetup) (before : List Block) (named : Bool) → is_named before s.unit ≡ named → is_told_of s (only_blocks s.unit before) ≡ named
told_blocks s before true is = ap (λ (b : Bool). b || nat_lt 0 (reach s.hold (end_history s (only_blocks s.unit before)))) (any_block s.unit before ∙ is)
told_blocks s before false is = ap (is_told_of s) (no_blocks (filter (λ (x : Block). x.unit == s.unit) before) (any_block s.unit before ∙ is)) ∙ told_none s

-- all of them are of units that are listened to, each named by one byte
abbrev Fit : LiveSetup → List Block → Type 0
Fit s before = AllByRecursion (λ (block : Block). (has_unit s block.unit ≡ true) × (block.unit < 256)) before

named_fit : (s : LiveSetup) (before : List Block) (unit : ℕ) → Fit s before → is_named before unit ≡ true → (has_unit s unit ≡ true) × (unit < 256)
named_fit s [] unit fit named = absurd (true≢false (sym named))
named_fit s (block ∷ before) unit fit named = elim (cases_eq unit block.unit) [
  | inl same ↦ subst (λ (n : ℕ). (has_unit s n ≡ true) × (n < 256)) (sym same) fit.0
  | inr apart ↦ named_fit s before unit fit.1 (sym (ap (λ (b : Bool). b || is_named before unit) (ne_eqb unit block.unit apart)) ∙ named)
]

module _ (s : LiveSetup) where
  told_at : (before : List Block) (unit : ℕ) → Fit s before → has_book s (all_to before) unit ≡ is_named before unit
  told_at before unit fit =
      ap (λ (l : List Came). has_unit s unit && is_told_of (end_setup s unit) l) (came_blocks unit before)
      ∙ by (is_named before unit) refl
    where
      none : (b : Bool) → (b && false) ≡ false
      none true = refl
      none false = refl

      by : (named : Bool) → is_named before unit ≡ named → (has_unit s unit && is_told_of (end_setup s unit) (only_blocks unit before)) ≡ named
      by true is = ap (λ (b : Bool). b && is_told_of (end_setup s unit) (only_blocks unit before)) (named_fit s before unit fit is).0 ∙ told_blocks (end_setup s unit) before true is
      by false is = ap (λ (b : Bool). has_unit s unit && b) (told_blocks (end_setup s unit) before false is) ∙ none (has_unit s unit)

  -- ---- Lines
  lines_follow : (blocks before : List Block) → live_lines s (with_blocks s blocks (all_to before)) ≡ live_lines s (all_to before) ++ lines_after s.hold before (listened_of s blocks)
  lines_follow [] before =
      sym (append-nil (live_lines s (all_to before)))
      ∙ ap (λ (t : List ℕ). live_lines s (all_to before) ++ t) (sym (texts_none (line_after s.hold) before))
  lines_follow (block ∷ blocks) before = by (lines_follow blocks (block ∷ before)) (lines_follow blocks before) (has_unit s block.unit)
    where
      rest : List ℕ
      rest = lines_after s.hold (block ∷ before) (listened_of s blocks)

      line_is : came_text (end_setup s block.unit) (block_count (all_to before) + 1) (Heard block) (came_to block.unit (all_to before)) ≡ line_after s.hold before block
      line_is =
          ap (λ (n : ℕ). came_text (end_setup s block.unit) (n + 1) (Heard block) (came_to block.unit (all_to before))) (count_blocks before)
          ∙ ap (came_text (end_setup s block.unit) (length before + 1) (Heard block)) (came_blocks block.unit before)
          ∙ lines_are (end_setup s block.unit) before block refl

      by : live_lines s (with_blocks s blocks (all_to (block ∷ before))) ≡ live_lines s (all_to (block ∷ before)) ++ lines_after s.hold (block ∷ before) (listened_of s blocks)
          → live_lines s (with_blocks s blocks (all_to before)) ≡ live_lines s (all_to before) ++ lines_after s.hold before (listened_of s blocks)
          → (c : Bool) → live_lines s (with_blocks s blocks (cond c (all_to (block ∷ before)) (all_to before))) ≡ live_lines s (all_to before) ++ lines_after s.hold before (cond c (block ∷ listened_of s blocks) (listened_of s blocks))
      by ours others true =
          ours
          ∙ ap (λ (t : List ℕ). (live_lines s (all_to before) ++ t) ++ rest) line_is
          ∙ append_assoc (live_lines s (all_to before)) (line_after s.hold before block) rest
          ∙ ap (λ (t : List ℕ). live_lines s (all_to before) ++ t) (sym (texts_first (line_after s.hold) before block (listened_of s blocks)))
      by ours others false = others

  -- ---- What came
  came_follow : (blocks before : List Block) → with_blocks s blocks (all_to before) ≡ all_to (reverse (listened_of s blocks) ++ before)
  came_follow [] before = refl
  came_follow (block ∷ blocks) before = by (came_follow blocks (block ∷ before)) (came_follow blocks before) (has_unit s block.unit)
    where
      by : with_blocks s blocks (all_to (block ∷ before)) ≡ all_to (reverse (listened_of s blocks) ++ (block ∷ before)) → with_blocks s blocks (all_to before) ≡ all_to (reverse (listened_of s blocks) ++ before)
          → (c : Bool) → with_blocks s blocks (cond c (all_to (block ∷ before)) (all_to before)) ≡ all_to (reverse (cond c (block ∷ listened_of s blocks) (listened_of s blocks)) ++ before)
      by ours others true = ours ∙ ap all_to (sym (reverse_cons block (listened_of s blocks) before))
      by ours others false = others

  fit_after : (blocks before : List Block) → AllByRecursion (λ (block : Block). block.unit < 256) blocks → Fit s before → Fit s (reverse (listened_of s blocks) ++ before)
  fit_after [] before low fit = fit
  fit_after (block ∷ blocks) before low fit = by (λ ours. fit_after blocks (block ∷ before) low.1 ((ours, low.0), fit)) (fit_after blocks before low.1 fit) (has_unit s block.unit) refl
    where
      by : (has_unit s block.unit ≡ true → Fit s (reverse (listened_of s blocks) ++ (block ∷ before))) → Fit s (reverse (listened_of s blocks) ++ before)
          → (c : Bool) → has_unit s block.unit ≡ c → Fit s (reverse (cond c (block ∷ listened_of s blocks) (listened_of s blocks)) ++ before)
      by ours others true is = subst (Fit s) (sym (reverse_cons block (listened_of s blocks) before)) (ours is)
      by ours others false is = others

  -- ---- Books
  books_follow : (Vs : ℕ → List Raw) (before : List Block) → Fit s before → live_books s Vs (all_to before) ≡ books_of s.hold Vs before
  books_follow Vs before fit =
      ap (flat_map (book_at s Vs (all_to before))) (named_same (has_book s (all_to before)) (is_named before) (λ unit. told_at before unit fit) 256)
      ∙ flat_same (book_at s Vs (all_to before)) (unit_text s.hold Vs before) book_is (named_below (is_named before) 256)
      ∙ ap (flat_map (unit_text s.hold Vs before)) (sym (units_below 256 before (λ unit named. (named_fit s before unit fit named).1)))
    where
      book_is : (unit : ℕ) → book_at s Vs (all_to before) unit ≡ unit_text s.hold Vs before unit
      book_is unit = ap (end_book (end_setup s unit) (Vs unit)) (came_blocks unit before) ∙ books_are (end_setup s unit) Vs before

-- ---- The whole text
pub text_is : TextIsFollows
text_is s Vs blocks low =
    let heard : List Block = listened_of s blocks in
    let same : with_blocks s blocks [] ≡ all_to (reverse heard) = came_follow s blocks [] ∙ ap all_to (append-nil (reverse heard)) in
    let fit : Fit s (reverse heard) = subst (Fit s) (append-nil (reverse heard)) (fit_after s blocks [] low tt) in
    ap (λ (t : List ℕ). t ++ live_books s Vs (with_blocks s blocks [])) (lines_follow s blocks [])
    ∙ ap (λ (t : List ℕ). lines_after s.hold [] heard ++ t) (ap (live_books s Vs) same ∙ books_follow s Vs (reverse heard) fit)
