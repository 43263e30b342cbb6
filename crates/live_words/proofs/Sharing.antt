-- The shares of lines, and what texts of them say.
use Rattle.std.proofs.Common.{◌≡◌, ◌∙◌, ℕ, Bool, true, false, cond, ◌||◌, List, [], ◌∷◌, map, filter, Option, Some, None, codes, nat_eq, true≢false, refl, ap, sym, subst}
use Rattle.std.specs.Prelude.{IfNone, IfSome, MatchOption}
use Rattle.std.specs.List.{list_any}
use Rattle.long_options.specs.Words.{Text}
use Rattle.pitch_io.specs.declared.line.Line.{Line}
use Rattle.pitch_io.specs.declared.line.Line.TheVariants.{A, B, Gap}
use Rattle.live_words.specs.Options.{AreNamed}
use Rattle.live_words.specs.Trials.{AreShares, HaveShares, IsShareText, is_line, is_share_of, line_name, one_share, share_of}
use Rattle.live_words.specs.declared.trial_words.LineShare.{LineShare}
use Rattle.live_words.specs.declared.trial_words.ShareWords.{ShareWords}

-- ---- names of lines
first_byte : Text → ℕ
first_byte [] = 0
first_byte (b ∷ bs) = b

-- the names begin with other bytes
lines_apart : (a b : Line) → line_name a ≡ line_name b → a ≡ b
unfolding first_byte
lines_apart A A e = refl
lines_apart A B e = absurd (true≢false (ap (λ (t : Text). nat_eq (first_byte t) 97) e))
lines_apart A Gap e = absurd (true≢false (ap (λ (t : Text). nat_eq (first_byte t) 97) e))
lines_apart B A e = absurd (true≢false (ap (λ (t : Text). nat_eq (first_byte t) 98) e))
lines_apart B B e = refl
lines_apart B Gap e = absurd (true≢false (ap (λ (t : Text). nat_eq (first_byte t) 98) e))
lines_apart Gap A e = absurd (true≢false (ap (λ (t : Text). nat_eq (first_byte t) 103) e))
lines_apart Gap B e = absurd (true≢false (ap (λ (t : Text). nat_eq (first_byte t) 103) e))
lines_apart Gap Gap e = refl

-- a text that is none of the names names no line
pub names_no_line : (name : Text) → (name ≡ codes "a" → ⊥) → (name ≡ codes "b" → ⊥) → (name ≡ codes "gap" → ⊥) → (line : Line) → name ≡ line_name line → ⊥
names_no_line name a b gap A e = a e
names_no_line name a b gap B e = b e
names_no_line name a b gap Gap e = gap e

-- ---- shares of a line
none_passes : (line : Line) (xs : List LineShare) → list_any (is_share_of line) xs ≡ false → filter (is_share_of line) xs ≡ []
none_passes line [] e = refl
none_passes line (x ∷ xs) e = by (none_passes line xs) (is_share_of line x) refl
  where
    by : (list_any (is_share_of line) xs ≡ false → filter (is_share_of line) xs ≡ []) → (b : Bool) → is_share_of line x ≡ b → filter (is_share_of line) (x ∷ xs) ≡ []
    by others true h = absurd (true≢false (sym (ap (λ (t : Bool). t || list_any (is_share_of line) xs) h) ∙ e))
    by others false h =
        ap (λ (t : Bool). cond t (x ∷ filter (is_share_of line) xs) (filter (is_share_of line) xs)) h
        ∙ others (sym (ap (λ (t : Bool). t || list_any (is_share_of line) xs) h) ∙ e)

-- some shares pass, and the first of them
abbrev SomePass : Line → List LineShare → Type 0
SomePass line xs = (y : LineShare) × ((ys : List LineShare) × (filter (is_share_of line) xs ≡ y ∷ ys))

some_passes : (line : Line) (xs : List LineShare) → list_any (is_share_of line) xs ≡ true → SomePass line xs
some_passes line [] e = absurd (true≢false (sym e))
some_passes line (x ∷ xs) e = by (some_passes line xs) (is_share_of line x) refl
  where
    by : (list_any (is_share_of line) xs ≡ true → SomePass line xs) → (b : Bool) → is_share_of line x ≡ b → SomePass line (x ∷ xs)
    by others true h = (x, (filter (is_share_of line) xs, ap (λ (t : Bool). cond t (x ∷ filter (is_share_of line) xs) (filter (is_share_of line) xs)) h))
    by others false h =
        let more = others (sym (ap (λ (t : Bool). t || list_any (is_share_of line) xs) h) ∙ e) in
        (more.0, (more.1.0, ap (λ (t : Bool). cond t (x ∷ filter (is_share_of line) xs) (filter (is_share_of line) xs)) h ∙ more.1.1))

of_first : (line : Line) (x : LineShare) (xs : List LineShare) (b : Bool) → is_line line x.line ≡ b
    → share_of line (x ∷ xs) ≡ one_share (map (λ (of : LineShare). of.share) (cond b (x ∷ filter (is_share_of line) xs) (filter (is_share_of line) xs)))
of_first line x xs b e = ap (λ (t : Bool). one_share (map (λ (of : LineShare). of.share) (cond t (x ∷ filter (is_share_of line) xs) (filter (is_share_of line) xs)))) e

-- the first is of another line
pub share_passed : (line : Line) (x : LineShare) (xs : List LineShare) → is_line line x.line ≡ false → share_of line (x ∷ xs) ≡ share_of line xs
share_passed line x xs e = of_first line x xs false e

-- the first is of this line, and so is another, or none is
pub share_twice : (line : Line) (x : LineShare) (xs : List LineShare) → is_line line x.line ≡ true → list_any (is_share_of line) xs ≡ true → share_of line (x ∷ xs) ≡ None
share_twice line x xs e more =
    let some = some_passes line xs more in
    of_first line x xs true e ∙ ap (λ (ys : List LineShare). one_share (map (λ (of : LineShare). of.share) (x ∷ ys))) some.1.1

pub share_once : (line : Line) (x : LineShare) (xs : List LineShare) → is_line line x.line ≡ true → list_any (is_share_of line) xs ≡ false → share_of line (x ∷ xs) ≡ Some x.share
share_once line x xs e none =
    of_first line x xs true e ∙ ap (λ (ys : List LineShare). one_share (map (λ (of : LineShare). of.share) (x ∷ ys))) (none_passes line xs none)

-- ---- what texts say
share_alike : (text : Text) (x y : LineShare) → IsShareText text x → IsShareText text y → x ≡ y
share_alike text x y a b =
    let line = lines_apart x.line y.line (sym a.line ∙ b.line) in
    let share = sym a.share.2 ∙ b.share.2 in
    λ i. record { line = line i; share = share i }

shares_alike : (texts : List Text) (xs ys : List LineShare) → AreNamed IsShareText texts xs → AreNamed IsShareText texts ys → xs ≡ ys
shares_alike [] [] [] a b = refl
shares_alike [] [] (y ∷ ys) a b = absurd b
shares_alike [] (x ∷ xs) ys a b = absurd a
shares_alike (t ∷ ts) [] ys a b = absurd a
shares_alike (t ∷ ts) (x ∷ xs) [] a b = absurd b
shares_alike (t ∷ ts) (x ∷ xs) (y ∷ ys) a b =
    let first = share_alike t x y a.0 b.0 in
    let others = shares_alike ts xs ys a.1 b.1 in
    λ i. first i ∷ others i

-- so they say whether there are shares, and which
pub shares_answer : (texts : List Text) (given : List LineShare) (read : Option ShareWords) → AreNamed IsShareText texts given
    → IfSome read (HaveShares given) → IfNone read ((shares : ShareWords) → HaveShares given shares → ⊥)
    → MatchOption read ((shares : ShareWords) → AreShares texts shares → ⊥) (AreShares texts)
shares_answer texts given (Some shares) named some none = record { given = given; named = named; are = some }
shares_answer texts given None named some none =
    λ shares is. none shares (subst (λ (g : List LineShare). HaveShares g shares) (shares_alike texts is.given given is.named named) is.are)
