-- Lines that were written before the last wait of a run.
use Rattle.std.proofs.Common.{ℕ, List, [], ◌++◌, sym, ap, subst, append_assoc, Option}
use Rattle.std.proofs.lemmas.List.{append-nil}
use Rattle.pitch_io.specs.Putting.{Grows}
use Rattle.feed_lines.specs.Follow.{line_after}
use Rattle.feed_lines.proofs.Texts.{texts_none}
use Rattle.stream_print.proofs.Flow.{grows_none, grows_more}
use Rattle.live_listen.specs.Listening.{Setup, lines_shown}

-- what was written begins with these bytes
abbrev pub HasShown : Option (List ℕ) → Option (List ℕ) → List ℕ → Type 0
HasShown old new bytes = (more : List ℕ) × Grows old new (bytes ++ more)

pub shown_none : (s : Setup) (a : Option (List ℕ)) → HasShown a a (lines_shown s [])
shown_none s a = ([], subst (Grows a a) (sym (ap (λ (t : List ℕ). t ++ []) (texts_none (line_after s.hold) []))) (grows_none a))

pub shown_all : (a b : Option (List ℕ)) (bytes : List ℕ) → Grows a b bytes → HasShown a b bytes
shown_all a b bytes grows = ([], subst (Grows a b) (sym (append-nil bytes)) grows)

pub shown_more : (a b c : Option (List ℕ)) (bytes added : List ℕ) → HasShown a b bytes → Grows b c added → HasShown a c bytes
shown_more a b c bytes added shown grows = (shown.0 ++ added, subst (Grows a c) (append_assoc bytes shown.0 added) (grows_more a b c (bytes ++ shown.0) added shown.1 grows))
