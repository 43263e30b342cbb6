-- The texts of blocks by the messages of their units' venues.
use Rattle.std.proofs.Common.{◌≡◌, ◌==◌, ℕ, Bool, true, false, cond, List, [], ◌∷◌, ◌++◌, reverse, sym, ap, ◌∙◌, subst, append_assoc}
use Rattle.std.proofs.lemmas.List.{append-nil}
use Rattle.unit_packets.specs.Blocks.{Block}
use Rattle.pitch_model.specs.History.{Raw}
use Rattle.heard_items.specs.Units.{AllHonest}
use Rattle.heard_items.proofs.Units.{all_honest_before}
use Rattle.feed_lines.specs.Follow.{line_after, lines_after}
use Rattle.feed_lines.specs.Show.{shown_after}
use Rattle.feed_lines.specs.Texts.{texts_after}
use Rattle.feed_lines.proofs.Texts.{texts_none, texts_first}
use Rattle.best_quotes.specs.QuotesText.{quoted_after, quotes_text}
use Rattle.relay_unit.specs.Hearing.{relay_heard, relay_history}
use Rattle.client_core.specs.Venues.{IsVenue}
use Rattle.relay_unit.specs.RelayText.{AreRelayVenues, relayed_after, relay_text}
use Rattle.relay_unit.proofs.Speaking.{venue_before}
use Rattle.stream_print.specs.Texts.{IsBlockText, AreTexts, AreTextsAfter, BeginTextsAfter}
use Rattle.stream_print.specs.declared.stream_form.StreamForm.{StreamForm}
use Rattle.stream_print.specs.declared.stream_form.StreamForm.TheVariants.{Follow, Show, Relay, Quotes}
use Rattle.stream_print.proofs.Streaming.{reverse_append}

-- what holds of blocks and of those before the last of them, and fixes the text of the last, fixes
-- the texts of all
module _ (form : StreamForm) (text : List Block → Block → List ℕ) (P : List Block → Type 0) (earlier : (block : Block) (before : List Block) → P (block ∷ before) → P before)
    (is : (before : List Block) (block : Block) (t : List ℕ) → P (block ∷ before) → IsBlockText form before block t → t ≡ text before block) where
  all_earlier : (more before : List Block) → P (more ++ before) → P before
  all_earlier [] before all = all
  all_earlier (block ∷ more) before all = all_earlier more before (earlier block (more ++ before) all)

  pub texts_are : (blocks before : List Block) (t : List ℕ) → P (reverse blocks ++ before) → AreTextsAfter form before blocks t → t ≡ texts_after text before blocks
  texts_are [] before t all are = are ∙ sym (texts_none text before)
  texts_are (block ∷ blocks) before t all (first, (here, (others, (are, joined)))) =
      let behind : P (reverse blocks ++ (block ∷ before)) = subst P (reverse_append (block ∷ []) blocks before) all in
      joined ∙ ap (λ (l : List ℕ). l ++ others) (is before block first (all_earlier (reverse blocks) (block ∷ before) behind) here)
      ∙ ap (λ (l : List ℕ). text before block ++ l) (texts_are blocks (block ∷ before) others behind are)
      ∙ sym (texts_first text before block blocks)

-- ---- Texts that rest on no venue
pub lines_are : (H : ℕ) (before blocks : List Block) (t : List ℕ) → AreTextsAfter (Follow H) before blocks t → t ≡ lines_after H before blocks
lines_are H before blocks t are = texts_are (Follow H) (line_after H) (λ bs. Unit {0}) (λ block bs all. all) (λ bs block l all is. is) blocks before t tt are

pub shown_are : (before blocks : List Block) (t : List ℕ) → AreTextsAfter Show before blocks t → t ≡ texts_after shown_after before blocks
shown_are before blocks t are = texts_are Show shown_after (λ bs. Unit {0}) (λ block bs all. all) (λ bs block l all is. is) blocks before t tt are

texts_append : (text : List Block → Block → List ℕ) (xs before ys : List Block) → texts_after text before (xs ++ ys) ≡ texts_after text before xs ++ texts_after text (reverse xs ++ before) ys
texts_append text [] before ys = ap (λ (t : List ℕ). t ++ texts_after text before ys) (sym (texts_none text before))
texts_append text (x ∷ xs) before ys =
    texts_first text before x (xs ++ ys) ∙ ap (λ (t : List ℕ). text before x ++ t) (texts_append text xs (x ∷ before) ys)
    ∙ sym (append_assoc (text before x) (texts_after text (x ∷ before) xs) (texts_after text (reverse xs ++ (x ∷ before)) ys))
    ∙ ap (λ (t : List ℕ). t ++ texts_after text (reverse xs ++ (x ∷ before)) ys) (sym (texts_first text before x xs))
    ∙ ap (λ (bs : List Block). texts_after text before (x ∷ xs) ++ texts_after text bs ys) (sym (reverse_append (x ∷ []) xs before))

-- what begins the texts of `follow` begins the lines
pub lines_begin : (H : ℕ) (before blocks : List Block) (t : List ℕ) → BeginTextsAfter (Follow H) before blocks t → (more : List ℕ) × (lines_after H before blocks ≡ t ++ more)
lines_begin H before blocks t some =
    let others : List ℕ = lines_after H (reverse some.done ++ before) some.left in (
      others,
      ap (lines_after H before) some.blocks_are ∙ texts_append (line_after H) some.done before some.left
          ∙ ap (λ (l : List ℕ). l ++ others) (sym (lines_are H before some.done t some.are_texts)),
    )

-- ---- Where the blocks of all units speak honestly
relay_before : (H : ℕ) (Vs : ℕ → List Raw) (block : Block) (before : List Block) → AreRelayVenues H Vs (block ∷ before) → AreRelayVenues H Vs before
relay_before H Vs block before all = λ unit. by unit (block.unit == unit) (all unit)
  where
    by : (unit : ℕ) (b : Bool) → IsVenue (Vs unit) (cond b (relay_heard H block (relay_history H unit before)) (relay_history H unit before)) → IsVenue (Vs unit) (relay_history H unit before)
    by unit true v = venue_before H (Vs unit) block (relay_history H unit before) v
    by unit false v = v

pub relay_text_of_all : (H : ℕ) (blocks : List Block) (t : List ℕ) → AreTexts (Relay H) blocks t → (Vs : ℕ → List Raw) → AreRelayVenues H Vs (reverse blocks) → t ≡ relay_text H Vs blocks
relay_text_of_all H blocks t are Vs venues =
    texts_are (Relay H) (λ before block. relayed_after H (Vs block.unit) before block) (AreRelayVenues H Vs) (relay_before H Vs)
    (λ before block l all is. is (Vs block.unit) (all block.unit)) blocks [] t (subst (AreRelayVenues H Vs) (sym (append-nil (reverse blocks))) venues) are

pub quotes_text_of_all : (H : ℕ) (blocks : List Block) (t : List ℕ) → AreTexts (Quotes H) blocks t → (Image : List Raw → ℕ → List Raw) (Vs : ℕ → List Raw) → AllHonest Image Vs (reverse blocks) → t ≡ quotes_text H Vs blocks
quotes_text_of_all H blocks t are Image Vs honest =
    texts_are (Quotes H) (λ before block. quoted_after H (Vs block.unit) before block) (AllHonest Image Vs) (all_honest_before Image Vs)
    (λ before block l all is. is Image (Vs block.unit) (all block.unit)) blocks [] t (subst (AllHonest Image Vs) (sym (append-nil (reverse blocks))) honest) are
