-- What is counted of a datagram.
use Rattle.std.proofs.Common.{◌≡◌, ℕ, ◌+◌, Bool, true, false, cond, List, refl, ap, ◌∙◌}
use mir.Val.{bool_byte}
use Rattle.stream_print.specs.Carriers.{is_faulty}
use Rattle.sending_end.specs.declared.end.Passed.{Passed}
use Rattle.live_units.specs.Coming.{LiveSetup, passed_of}
use Rattle.live_recovery.specs.Counting.{with_counted}
use Rattle.live_recovery.specs.declared.counts.Counts.{Counts}

pub one_or_none : (b : Bool) → bool_byte b ≡ cond b 1 0
one_or_none true = refl
one_or_none false = refl

abbrev counted : ℕ → ℕ → ℕ → ℕ → Counts
counted a b c d = record { datagrams = a; faulty = b; blocks = c; stray = d }

module _ (s : LiveSetup) (bytes : List ℕ) (before : Counts) (passed : Passed) (is : passed ≡ passed_of s bytes) where
  pub counted_so : (a b c d : ℕ) (faulty : Bool) → faulty ≡ is_faulty bytes → a ≡ before.datagrams + 1 → b ≡ before.faulty + cond faulty 1 0 → c ≡ before.blocks + passed.heard → d ≡ before.stray + passed.others
      → ◌≡◌ {A = Counts} (record { datagrams = a; faulty = b; blocks = c; stray = d }) (with_counted s bytes before)
  counted_so a b c d faulty f p q r t =
      ap (λ (n : ℕ). counted n b c d) p ∙ ap (λ (n : ℕ). counted (before.datagrams + 1) n c d) (q ∙ ap (λ (x : Bool). before.faulty + cond x 1 0) f)
      ∙ ap (λ (n : ℕ). counted (before.datagrams + 1) (before.faulty + cond (is_faulty bytes) 1 0) n d) (r ∙ ap (λ (x : Passed). before.blocks + x.heard) is)
      ∙ ap (λ (n : ℕ). counted (before.datagrams + 1) (before.faulty + cond (is_faulty bytes) 1 0) (before.blocks + (passed_of s bytes).heard) n) (t ∙ ap (λ (x : Passed). before.stray + x.others) is)
