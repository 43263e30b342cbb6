-- Cutting a text at its last line feed.
use Rattle.std.proofs.Common.{◌≡◌, ◌≢◌, inl, inr, ℕ, ◌+◌, ◌-◌, ◌<◌, ◌≤◌, Bool, true, false, ◌||◌, cond, List, [], ◌∷◌, ◌++◌, length, take, drop, get_or, refl, sym, ap, ◌∙◌, arith, append_assoc, length-append}
use Rattle.std.specs.List.{list_any}
use Rattle.std.proofs.lemmas.Bool.{ne_eqb}
use Rattle.std.proofs.lemmas.List.{append-nil, take_more, take_at, drop_at, length-take-le, length-drop}
use Rattle.std.proofs.lemmas.List.Folds.{list_any-append}
use Rattle.std.proofs.lemmas.List.Sums.{sum_by-cons, sum_by-append}
use Rattle.unit_commands.specs.Pieces.{UnreadText, AreKept, is_line_feed, line_feeds, whole_lines, last_line, piece_limit, rest_limit, piece_pushed}
use Rattle.unit_commands.specs.layers.PiecesLaws.{EndsLine}

-- ---- whether a text has a line feed

either_false : (a b : Bool) → (a || b) ≡ false → (a ≡ false) × (b ≡ false)
either_false true b h = absurd cc
either_false false b h = (refl, h)

feeds_cons : (b : ℕ) (bs : List ℕ) → line_feeds (b ∷ bs) ≡ cond (is_line_feed b) 1 0 + line_feeds bs
feeds_cons b bs = sum_by-cons (λ x. cond (is_line_feed x) 1 0) b bs

pub feeds_append : (xs ys : List ℕ) → line_feeds (xs ++ ys) ≡ line_feeds xs + line_feeds ys
feeds_append xs ys = sum_by-append (λ x. cond (is_line_feed x) 1 0) xs ys

-- a text without a line feed has none of them
none_counted : (bs : List ℕ) → list_any is_line_feed bs ≡ false → line_feeds bs ≡ 0
none_counted [] none = refl
none_counted (b ∷ bs) none =
    let parts = either_false (is_line_feed b) (list_any is_line_feed bs) none in
    let rest : line_feeds bs ≡ 0 = none_counted bs parts.1 in
    feeds_cons b bs ∙ ap (λ (s : Bool). cond s 1 0 + line_feeds bs) parts.0 ∙ omega (arith, rest)

counted_by : (b : ℕ) (bs : List ℕ) (s : Bool) → is_line_feed b ≡ s → cond s 1 0 + line_feeds bs ≡ 0 → (line_feeds bs ≡ 0 → list_any is_line_feed bs ≡ false) → list_any is_line_feed (b ∷ bs) ≡ false
counted_by b bs true is zero rest = absurd (omega (arith, zero))
counted_by b bs false is zero rest = ap (λ (s : Bool). s || list_any is_line_feed bs) is ∙ rest (omega (arith, zero))

pub counted_none : (bs : List ℕ) → line_feeds bs ≡ 0 → list_any is_line_feed bs ≡ false
counted_none [] zero = refl
counted_none (b ∷ bs) zero =
    counted_by b bs (is_line_feed b) refl (sym (feeds_cons b bs) ∙ zero) (counted_none bs)

any_more : (bs more : List ℕ) → list_any is_line_feed bs ≡ true → list_any is_line_feed (bs ++ more) ≡ true
any_more bs more some = list_any-append is_line_feed bs more ∙ ap (λ (s : Bool). s || list_any is_line_feed more) some

-- ---- one cut

joined_by : (b : ℕ) (bs : List ℕ) (s : Bool) → list_any is_line_feed (b ∷ bs) ≡ s → whole_lines bs ++ last_line bs ≡ bs → whole_lines (b ∷ bs) ++ last_line (b ∷ bs) ≡ b ∷ bs
joined_by b bs true is rest = rw is (ap (λ (l : List ℕ). b ∷ l) rest)
joined_by b bs false is rest = rw is refl

-- the two parts are the text
pub joined : (text : List ℕ) → whole_lines text ++ last_line text ≡ text
joined [] = refl
joined (b ∷ bs) = joined_by b bs (list_any is_line_feed (b ∷ bs)) refl (joined bs)

none_whole_by : (b : ℕ) (bs : List ℕ) (s : Bool) → list_any is_line_feed (b ∷ bs) ≡ s → whole_lines (b ∷ bs) ≡ [] → s ≡ false
none_whole_by b bs true is none = let some : b ∷ whole_lines bs ≡ [] = rw is at none in absurd cc
none_whole_by b bs false is none = refl

-- without whole lines there is no line feed
pub none_whole : (text : List ℕ) → whole_lines text ≡ [] → list_any is_line_feed text ≡ false
none_whole [] none = refl
none_whole (b ∷ bs) none = none_whole_by b bs (list_any is_line_feed (b ∷ bs)) refl none

-- and the other way round
pub no_feeds : (text : List ℕ) → list_any is_line_feed text ≡ false → (whole_lines text ≡ []) × (last_line text ≡ text)
no_feeds [] none = (refl, refl)
no_feeds (b ∷ bs) none = (rw none refl, rw none refl)

ends_more : (b : ℕ) (bs : List ℕ) → list_any is_line_feed (b ∷ bs) ≡ true → EndsLine (whole_lines bs) → EndsLine (b ∷ whole_lines bs)
ends_more b bs some (inl none) =
    let rest : list_any is_line_feed bs ≡ false = none_whole bs none in
    let is : is_line_feed b ≡ true = first_is (is_line_feed b) (list_any is_line_feed bs) some rest in
    let feed : b ≡ 10 = grind (arith, is) in
    inr ([], ap (λ (x : ℕ). x ∷ whole_lines bs) feed ∙ ap (λ (l : List ℕ). 10 ∷ l) none)
  where
    first_is : (s t : Bool) → (s || t) ≡ true → t ≡ false → s ≡ true
    first_is true t h e = refl
    first_is false t h e = sym e ∙ h
ends_more b bs some (inr (front, e)) = inr (b ∷ front, ap (λ (l : List ℕ). b ∷ l) e)

ends_by : (b : ℕ) (bs : List ℕ) (s : Bool) → list_any is_line_feed (b ∷ bs) ≡ s → EndsLine (whole_lines bs) → EndsLine (whole_lines (b ∷ bs))
ends_by b bs true is rest = rw is (ends_more b bs is rest)
ends_by b bs false is rest = rw is (inl refl)

-- whole lines end with a line feed
pub ends : (text : List ℕ) → EndsLine (whole_lines text)
ends [] = inl refl
ends (b ∷ bs) = ends_by b bs (list_any is_line_feed (b ∷ bs)) refl (ends bs)

rest_by : (b : ℕ) (bs : List ℕ) (s : Bool) → list_any is_line_feed (b ∷ bs) ≡ s → list_any is_line_feed (last_line bs) ≡ false → list_any is_line_feed (last_line (b ∷ bs)) ≡ false
rest_by b bs true is rest = rw is rest
rest_by b bs false is rest = rw is is

-- the last line has no line feed
pub rest_none : (text : List ℕ) → list_any is_line_feed (last_line text) ≡ false
rest_none [] = refl
rest_none (b ∷ bs) = rest_by b bs (list_any is_line_feed (b ∷ bs)) refl (rest_none bs)

pub rest_counts : (text : List ℕ) → line_feeds (last_line text) ≡ 0
rest_counts text = none_counted (last_line text) (rest_none text)

-- so it has no whole lines, and is its own last line
pub rest_again : (text : List ℕ) → (whole_lines (last_line text) ≡ []) × (last_line (last_line text) ≡ last_line text)
rest_again text = no_feeds (last_line text) (rest_none text)

pub texts_are_cut : (text : List ℕ) → (whole_lines text ++ last_line text ≡ text) × EndsLine (whole_lines text) × (line_feeds (last_line text) ≡ 0)
texts_are_cut text = (joined text, ends text, rest_counts text)

-- ---- a text that grows

grown_by : (b : ℕ) (bs piece : List ℕ) (s : Bool) → list_any is_line_feed (b ∷ bs) ≡ s
    → (whole_lines (bs ++ piece) ≡ whole_lines bs ++ whole_lines (last_line bs ++ piece)) × (last_line (bs ++ piece) ≡ last_line (last_line bs ++ piece))
    → (whole_lines ((b ∷ bs) ++ piece) ≡ whole_lines (b ∷ bs) ++ whole_lines (last_line (b ∷ bs) ++ piece)) × (last_line ((b ∷ bs) ++ piece) ≡ last_line (last_line (b ∷ bs) ++ piece))
grown_by b bs piece true is rest =
    let more : list_any is_line_feed ((b ∷ bs) ++ piece) ≡ true = any_more (b ∷ bs) piece is in
    (rw (more, is) (ap (λ (l : List ℕ). b ∷ l) rest.0), rw (more, is) rest.1)
grown_by b bs piece false is rest = (rw is refl, rw is refl)

pub grown : (text piece : List ℕ) → (whole_lines (text ++ piece) ≡ whole_lines text ++ whole_lines (last_line text ++ piece)) × (last_line (text ++ piece) ≡ last_line (last_line text ++ piece))
grown [] piece = (refl, refl)
grown (b ∷ bs) piece = grown_by b bs piece (list_any is_line_feed (b ∷ bs)) refl (grown bs piece)

-- a text that ends with a line feed is whole
ended : (front : List ℕ) → (whole_lines (front ++ 10 ∷ []) ≡ front ++ 10 ∷ []) × (last_line (front ++ 10 ∷ []) ≡ [])
ended [] = (refl, refl)
ended (b ∷ bs) =
    let rest = ended bs in
    let some : list_any is_line_feed (b ∷ bs ++ 10 ∷ []) ≡ true = list_any-append is_line_feed (b ∷ bs) (10 ∷ []) ∙ or_true (list_any is_line_feed (b ∷ bs)) in
    (rw some (ap (λ (l : List ℕ). b ∷ l) rest.0), rw some rest.1)
  where
    or_true : (s : Bool) → (s || true) ≡ true
    or_true true = refl
    or_true false = refl

-- there is one cut alone
pub cuts_are_one : (front back : List ℕ) → EndsLine front → line_feeds back ≡ 0 → (whole_lines (front ++ back) ≡ front) × (last_line (front ++ back) ≡ back)
cuts_are_one front back (inl none) zero = rw none (no_feeds back (counted_none back zero))
cuts_are_one front back (inr (f, e)) zero =
    let behind = no_feeds back (counted_none back zero) in
    let here = ended f in
    let both = grown (f ++ 10 ∷ []) back in
    rw e (
      both.0 ∙ ap (λ (l : List ℕ). l ++ whole_lines (last_line (f ++ 10 ∷ []) ++ back)) here.0
          ∙ ap (λ (l : List ℕ). (f ++ 10 ∷ []) ++ whole_lines (l ++ back)) here.1
          ∙ ap (λ (l : List ℕ). (f ++ 10 ∷ []) ++ l) behind.0 ∙ append-nil (f ++ 10 ∷ []),
      both.1 ∙ ap (λ (l : List ℕ). last_line (l ++ back)) here.1 ∙ behind.1,
    )

-- the line feeds of a text are those of its whole lines
pub whole_counts : (text : List ℕ) → line_feeds (whole_lines text) ≡ line_feeds text
whole_counts text =
    let all : line_feeds text ≡ line_feeds (whole_lines text) + line_feeds (last_line text) =
    ap line_feeds (sym (joined text)) ∙ feeds_append (whole_lines text) (last_line text) in
    omega (arith, all, rest_counts text)

-- ---- looking for the last line feed from the end

-- a byte more that is no line feed
without : (text : List ℕ) (b : ℕ) → is_line_feed b ≡ false → whole_lines (text ++ b ∷ []) ≡ whole_lines text
without text b not =
    let none : list_any is_line_feed (last_line text ++ b ∷ []) ≡ false =
    list_any-append is_line_feed (last_line text) (b ∷ []) ∙ ap (λ (s : Bool). s || (is_line_feed b || false)) (rest_none text) ∙ ap (λ (s : Bool). s || false) not in
    (grown text (b ∷ [])).0 ∙ ap (λ (l : List ℕ). whole_lines text ++ l) (no_feeds (last_line text ++ b ∷ []) none).0 ∙ append-nil (whole_lines text)

-- the loop's turn
pub turned : (bytes : List ℕ) (end left : ℕ) → left + 1 ≡ end → end ≤ length bytes → get_or bytes left 0 ≢ 10 → whole_lines (take left bytes) ≡ whole_lines (take end bytes)
turned bytes end left next within not =
    sym (ap (λ (n : ℕ). whole_lines (take n bytes)) (sym next) ∙ ap whole_lines (take_more bytes left 0 (omega arith)) ∙ without (take left bytes) (get_or bytes left 0) (ne_eqb _ _ not))

-- a line feed stands last
at_feed : (bytes : List ℕ) (end left : ℕ) → left + 1 ≡ end → end ≤ length bytes → get_or bytes left 0 ≡ 10 → whole_lines (take end bytes) ≡ take end bytes
at_feed bytes end left next within is =
    let front : take end bytes ≡ take left bytes ++ 10 ∷ [] =
    ap (λ (n : ℕ). take n bytes) (sym next) ∙ take_more bytes left 0 (omega arith) ∙ ap (λ (b : ℕ). take left bytes ++ b ∷ []) is in
    rw front (ended (take left bytes)).0

-- the loop's end
pub stops_at_feed : (bytes : List ℕ) (end left : ℕ) → left + 1 ≡ end → end ≤ length bytes → get_or bytes left 0 ≡ 10 → whole_lines (take end bytes) ≡ whole_lines bytes → end ≡ length (whole_lines bytes)
stops_at_feed bytes end left next within is same =
    sym (ap (λ (l : List ℕ). length l) (sym same ∙ at_feed bytes end left next within is) ∙ length-take-le end bytes within)

pub stops_at_start : (bytes : List ℕ) → whole_lines (take 0 bytes) ≡ whole_lines bytes → 0 ≡ length (whole_lines bytes)
stops_at_start bytes same = ap (λ (l : List ℕ). length l) same

-- ---- where a text is cut

pub record CutAt (text : List ℕ) (n : ℕ) : Type 0 where
  pub front : take n text ≡ whole_lines text
  pub back : drop n text ≡ last_line text
  pub sum : n + length (last_line text) ≡ length text

cut_parts : (text whole rest : List ℕ) (n : ℕ) → whole ++ rest ≡ text → n ≡ length whole → (take n text ≡ whole) × (drop n text ≡ rest) × (n + length rest ≡ length text)
cut_parts text whole rest n e is = rw (← e) (take_at whole rest n (sym is), drop_at whole rest n (sym is), rw is (sym (length-append whole rest)))

pub cut_at : (text : List ℕ) (n : ℕ) → n ≡ length (whole_lines text) → CutAt text n
cut_at text n is =
    let parts = cut_parts text (whole_lines text) (last_line text) n (joined text) is in
    record { front = parts.0; back = parts.1; sum = parts.2 }

-- ---- a piece behind an unfinished line

-- the piece has no line feed
pub behind_none : (rest piece : List ℕ) → whole_lines rest ≡ [] → 0 ≡ length (whole_lines piece) → 0 ≡ length (whole_lines (rest ++ piece))
behind_none rest piece none zero =
    let feeds : list_any is_line_feed (rest ++ piece) ≡ false = list_any-append is_line_feed rest piece ∙ neither (list_any is_line_feed rest) (list_any is_line_feed piece) (none_whole rest none) (none_whole piece (empty (whole_lines piece) zero)) in
    ap (λ (l : List ℕ). length l) (sym (no_feeds (rest ++ piece) feeds).0)
  where
    neither : (a b : Bool) → a ≡ false → b ≡ false → (a || b) ≡ false
    neither a b x y = rw (x, y) refl

    empty : (l : List ℕ) → 0 ≡ length l → l ≡ []
    empty [] e = refl
    empty (x ∷ l) e = absurd (omega (arith, e))

ends_behind : (rest whole : List ℕ) → 0 < length whole → EndsLine whole → EndsLine (rest ++ whole)
ends_behind rest whole some (inl none) = absurd (omega (arith, ap (λ (l : List ℕ). length l) none))
ends_behind rest whole some (inr (f, e)) = inr (rest ++ f, ap (λ (l : List ℕ). rest ++ l) e ∙ sym (append_assoc rest f (10 ∷ [])))

-- the piece has one
pub behind_some : (rest piece : List ℕ) → 0 < length (whole_lines piece) → length rest + length (whole_lines piece) ≡ length (whole_lines (rest ++ piece))
behind_some rest piece some =
    let cut = cuts_are_one (rest ++ whole_lines piece) (last_line piece) (ends_behind rest (whole_lines piece) some (ends piece)) (rest_counts piece) in
    let all : (rest ++ whole_lines piece) ++ last_line piece ≡ rest ++ piece = append_assoc rest (whole_lines piece) (last_line piece) ∙ ap (λ (l : List ℕ). rest ++ l) (joined piece) in
    sym (ap (λ (l : List ℕ). length (whole_lines l)) (sym all) ∙ ap (λ (l : List ℕ). length l) cut.0 ∙ length-append rest (whole_lines piece))

-- both have the bytes of both
pub sum_behind : (rest piece : List ℕ) (n : ℕ) → n ≡ length (whole_lines (rest ++ piece)) → n + length (last_line (rest ++ piece)) ≡ length rest + length piece
sum_behind rest piece n is = (cut_at (rest ++ piece) n is).sum ∙ length-append rest piece

-- ---- what is kept

-- bytes whose whole lines were counted
pub are_kept : (bytes : List ℕ) (n : ℕ) → n ≡ length (whole_lines bytes) → length (last_line bytes) ≤ rest_limit → length bytes ≤ rest_limit + piece_limit → AreKept bytes n
are_kept bytes n is short few =
    let cut = cut_at bytes n is in
    let sum : n + length (last_line bytes) ≡ length bytes = cut.sum in
    record { cut = cut.front; within = omega (arith, sum); unfinished = omega (arith, sum, short); few = few }

-- what is left where these were dropped
pub are_left : (bytes left : List ℕ) (n : ℕ) → AreKept bytes n → left ≡ drop n bytes → AreKept left 0
are_left bytes left n kept is =
    let counted : n ≡ length (whole_lines bytes) = sym (length-take-le n bytes kept.within) ∙ ap (λ (l : List ℕ). length l) kept.cut in
    let rest : left ≡ last_line bytes = is ∙ (cut_at bytes n counted).back in
    let size : length left ≡ length bytes - n = ap (λ (l : List ℕ). length l) is ∙ length-drop n bytes in
    record {
      cut = sym (ap whole_lines rest ∙ (rest_again bytes).0);
      within = omega arith;
      unfinished = omega (arith, size, kept.unfinished);
      few = omega (arith, size, kept.few);
    }

-- nothing whole is kept
pub record AllUnfinished (bytes rest : List ℕ) : Type 0 where
  pub same : rest ≡ bytes
  pub unfinished : whole_lines bytes ≡ []
  pub short : length bytes ≤ rest_limit

pub all_unfinished : (bytes whole rest : List ℕ) (n : ℕ) → AreKept bytes n → take n bytes ≡ whole → drop n bytes ≡ rest → whole ≡ [] → AllUnfinished bytes rest
all_unfinished bytes whole rest n kept front back none =
    let zero : n ≡ 0 = sym (length-take-le n bytes kept.within) ∙ ap (λ (l : List ℕ). length l) (front ∙ none) in
    record {
      same = sym back ∙ ap (λ (k : ℕ). drop k bytes) zero;
      unfinished = sym kept.cut ∙ front ∙ none;
      short = omega (arith, kept.unfinished, zero);
    }

-- bytes that are cut there, behind so many lines
abbrev pub with_lines : List ℕ → ℕ → ℕ → UnreadText
with_lines bytes n lines = record { whole = take n bytes; rest = drop n bytes; lines = lines }

-- one piece more is kept
pub pushed_is : (old : UnreadText) (bytes new piece : List ℕ) (n : ℕ) → AllUnfinished bytes old.rest → new ≡ bytes ++ piece → n ≡ length (whole_lines new) → with_lines new n old.lines ≡ piece_pushed old piece
pushed_is old bytes new piece n all is counted =
    let cut = cut_at new n counted in
    let whole : new ≡ old.rest ++ piece = is ∙ ap (λ (l : List ℕ). l ++ piece) (sym all.same) in
    rw (cut.front, cut.back, whole) refl
