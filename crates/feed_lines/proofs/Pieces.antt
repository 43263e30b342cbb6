-- Pieces of text, one after another.
use Rattle.std.proofs.Common.{◌≡◌, ℕ, List, ◌++◌, sym, ap, ◌∙◌, append_assoc}
use Rattle.pitch_messages.specs.declared.message.Message.{Message}
use Rattle.feed_lines.specs.Show.{message_text}

pub two : (s t u a b : List ℕ) → t ≡ s ++ a → u ≡ t ++ b → u ≡ s ++ (a ++ b)
two s t u a b h1 h2 = h2 ∙ ap (λ (l : List ℕ). l ++ b) h1 ∙ append_assoc s a b

pub three : (s t u v a b c : List ℕ) → t ≡ s ++ a → u ≡ t ++ b → v ≡ u ++ c → v ≡ s ++ (a ++ (b ++ c))
three s t u v a b c h1 h2 h3 = two s t v a (b ++ c) h1 (two t u v b c h2 h3)

pub four : (s t u v w a b c d : List ℕ) → t ≡ s ++ a → u ≡ t ++ b → v ≡ u ++ c → w ≡ v ++ d → w ≡ s ++ (a ++ (b ++ (c ++ d)))
four s t u v w a b c d h1 h2 h3 h4 = two s t w a (b ++ (c ++ d)) h1 (three t u v w b c d h2 h3 h4)

pub five : (s t u v w x a b c d e : List ℕ) → t ≡ s ++ a → u ≡ t ++ b → v ≡ u ++ c → w ≡ v ++ d → x ≡ w ++ e → x ≡ s ++ (a ++ (b ++ (c ++ (d ++ e))))
five s t u v w x a b c d e h1 h2 h3 h4 h5 = two s t x a (b ++ (c ++ (d ++ e))) h1 (four t u v w x b c d e h2 h3 h4 h5)

pub six : (s t u v w x y a b c d e f : List ℕ) → t ≡ s ++ a → u ≡ t ++ b → v ≡ u ++ c → w ≡ v ++ d → x ≡ w ++ e → y ≡ x ++ f → y ≡ s ++ (a ++ (b ++ (c ++ (d ++ (e ++ f)))))
six s t u v w x y a b c d e f h1 h2 h3 h4 h5 h6 = two s t y a (b ++ (c ++ (d ++ (e ++ f)))) h1 (five t u v w x y b c d e f h2 h3 h4 h5 h6)

-- the text of a message is that of the same message
pub told : (s t x : List ℕ) (m m' : Message) → t ≡ s ++ x → x ≡ message_text m → m' ≡ m → t ≡ s ++ message_text m'
told s t x m m' at is same = at ∙ ap (λ (y : List ℕ). s ++ y) (is ∙ ap message_text (sym same))
