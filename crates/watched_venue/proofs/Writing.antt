-- The lines of a stream's items, written one after another.
use Rattle.std.proofs.Common.{◌≡◌, ℕ, List, [], ◌∷◌, ◌++◌, sym, ap, ◌∙◌, subst, append_assoc, Option}
use Rattle.std.proofs.lemmas.Grind.{flat_map-append}
use Rattle.std.proofs.lemmas.List.{append-nil}
use Rattle.pitch_io.specs.Putting.{Grows}
use Rattle.session_ends.specs.declared.inbox.Heard.{Heard}
use Rattle.stream_print.specs.Putting.{PutsSome}
use Rattle.stream_print.proofs.Flow.{grows_more, grows_none}
use Rattle.stream_print.proofs.Printing.{prints_written, puts_longer, puts_then}
use Rattle.watched_venue.specs.layers.Asked.{asked_lines, item_line}
use Rattle.watched_venue.specs.declared.line.Client.{Client}

-- nothing is a prefix, and was written
pub nothing_written : (w : Option (List ℕ)) → Grows w w []
nothing_written w = grows_none w

-- the lines of some items were written, and these are left
pub record Going (client : Client) (all left : List Heard) (w w' : Option (List ℕ)) : Type 0 where
  pub heard : List Heard
  pub all_are : all ≡ heard ++ left
  pub grows : Grows w w' (asked_lines client heard)

module _ (client : Client) (all : List Heard) (w : Option (List ℕ)) where
  pub going_none : (left : List Heard) → left ≡ all → Going client all left w w
  going_none left is = record { heard = []; all_are = sym is; grows = grows_none w }

  module _ (w' w'' : Option (List ℕ)) (left left' : List Heard) (item : Heard) (on : Going client all left w w') (d : left ≡ item ∷ left') where
    -- the lines so far, and that of one item more
    lines_more : asked_lines client (on.heard ++ item ∷ []) ≡ asked_lines client on.heard ++ item_line client item
    lines_more = flat_map-append (item_line client) on.heard (item ∷ []) ∙ ap (λ (t : List ℕ). asked_lines client on.heard ++ t) (append-nil (item_line client item))

    pub going_more : Grows w' w'' (item_line client item) → Going client all left' w w''
    going_more grows = record {
      heard = on.heard ++ item ∷ [];
      all_are = on.all_are ∙ ap (λ (xs : List Heard). on.heard ++ xs) d ∙ sym (append_assoc on.heard (item ∷ []) left');
      grows = subst (Grows w w'') (sym lines_more) (grows_more w w' w'' (asked_lines client on.heard) (item_line client item) on.grows grows);
    }

    -- a sink that failed has some prefix of all lines
    pub going_fail : PutsSome w' w'' (item_line client item) → PutsSome w w'' (asked_lines client all)
    going_fail fails =
        let so_far : List ℕ = asked_lines client on.heard ++ item_line client item in
        let whole : asked_lines client all ≡ so_far ++ asked_lines client left' =
        ap (asked_lines client) (on.all_are ∙ ap (λ (xs : List Heard). on.heard ++ xs) d ∙ sym (append_assoc on.heard (item ∷ []) left'))
        ∙ flat_map-append (item_line client) (on.heard ++ item ∷ []) left'
        ∙ ap (λ (t : List ℕ). t ++ asked_lines client left') lines_more in
        subst (PutsSome w w'') (sym whole) (puts_longer w w'' so_far (asked_lines client left')
        (puts_then w w' w'' [] [] (asked_lines client on.heard) (item_line client item) (prints_written w w' (asked_lines client on.heard) on.grows) fails))

  pub going_end : (w' : Option (List ℕ)) (left : List Heard) → Going client all left w w' → left ≡ [] → Grows w w' (asked_lines client all)
  going_end w' left on none =
      subst (Grows w w') (ap (asked_lines client) (sym (on.all_are ∙ ap (λ (xs : List Heard). on.heard ++ xs) none ∙ append-nil on.heard))) on.grows
