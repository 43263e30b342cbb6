-- What can be served.
use Rattle.std.proofs.Common.{◌≤◌, List, [], ◌∷◌, map, subst, sym, ℕ}
use Rattle.std.proofs.lemmas.List.{length-map}
use Rattle.pitch_fields.specs.Limits.{most_held}
use Rattle.live_venue.specs.Standing.{CanServe}
use Rattle.live_words.specs.declared.serve_words.ServeWords.{ServeWords}
use Rattle.live_words.specs.declared.serve_words.UnitWords.{UnitWords}
use Rattle.venue_units.specs.Units.{EachKeeps}
use Rattle.live_setups.specs.Serving.{CanBeServed, setup_of, setups_of}

-- each proxy keeps as many messages as all do
each_keeps : (asked : ServeWords) (units : List UnitWords) → (1 ≤ asked.kept) × (asked.kept ≤ most_held) → EachKeeps (map (setup_of asked) units)
each_keeps asked [] keeps = tt
each_keeps asked (unit ∷ units) keeps = (keeps, each_keeps asked units keeps)

pub can_serve : (asked : ServeWords) → CanBeServed asked → CanServe (setups_of asked)
can_serve asked can = record {
  few = subst (λ (n : ℕ). n ≤ 64) (sym (length-map asked.units.items (setup_of asked))) can.few;
  keep = each_keeps asked asked.units.items can.keeps;
}
