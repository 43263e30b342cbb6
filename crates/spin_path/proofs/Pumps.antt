-- What a spin server does over a shelf.
use Rattle.std.proofs.Common.{◌≡◌, Bool, ℕ, ◌-◌, ◌≤◌, List, [], ◌∷◌, ◌++◌, length, sym, ap, ◌∙◌, subst, append_assoc}
use Rattle.std.specs.List.{AllByRecursion}
use Rattle.std.proofs.lemmas.List.{append-nil}
use Rattle.pitch_fields.proofs.Lists.{all_drop, all_replicate}
use Rattle.pitch_model.specs.Advertising.{Operation, accepted_by, advertised_by}
use Rattle.pitch_model.specs.History.{Raw}
use Rattle.pitch_model.proofs.Advertising.{advertised_within}
use Rattle.session_ends.specs.layers.Hearings.{Rises}
use Rattle.session_ends.specs.Closing.{Setup}
use Rattle.session_ends.specs.Events.{Event, Fed, Pumped}
use Rattle.session_ends.proofs.Runs.{rises_to, rises_nowhere}
use Rattle.spin_server.specs.Served.{Served}
use Rattle.spin_server.specs.layers.Looking.{ServedLater}
use Rattle.spin_server.specs.Serving.{Serving, SpinStands, runs, spin_sends}
use Rattle.spin_server.specs.layers.Feeding.{SpinFeeds}
use Rattle.spin_server.specs.Shelves.{Shelf}
use Rattle.spin_server.specs.Stands.{ShelfStands}
use Rattle.spin_server.specs.layers.ShelfViews.{ShelfShows, seen_of}
use Rattle.spin_server.proofs.Serves.{later_order}
use Rattle.spin_server.proofs.Shelving.{one_served, later_both, shelf_seen}
use Rattle.spin_path.specs.Paths.{Move, path_of, all_said, IsShown, AreMoves}
use Rattle.spin_path.specs.PathLaws.{ServesOn}

seen_is_shown : (operations : List Operation) → IsShown (accepted_by operations) (seen_of operations)
seen_is_shown operations = record {
  more = [];
  messages_are = sym (append-nil (accepted_by operations));
  within = all_drop (λ n. n ≤ length (accepted_by operations)) (length (advertised_by operations) - 10) (advertised_by operations) (advertised_within operations);
}

-- over a shelf that stays as it was, all views of a feeding are one
pub views_are_shown : (shelf : Shelf) (operations : List Operation) (views : List Served) (now : Served) → ShelfStands shelf operations → Rises ServedLater (seen_of operations) views now → ShelfShows shelf now → AllByRecursion (IsShown (accepted_by operations)) views
views_are_shown shelf operations views now stands rises shows =
    let first : Served = seen_of operations in
    let same : now ≡ first = one_served shelf first now (shelf_seen shelf operations stands) shows (rises_to ServedLater later_order first views now rises) in
    subst (AllByRecursion (IsShown (accepted_by operations))) (sym (rises_nowhere ServedLater later_order later_both first now views rises same)) (all_replicate (IsShown (accepted_by operations)) (length views) first (seen_is_shown operations))

-- the two moves of a server that was fed and then pumped
pub served_on : (V : List Raw) (setup : Setup) (moves : List Move) (piece : List ℕ) (old fed new : Serving) (before middle after : List ℕ) (view : Served) (shown : Served → Type 0) (more : Bool) (f : SpinFeeds (path_of setup moves).served piece old fed view shown before middle)
    → AllByRecursion (IsShown V) f.views → AreMoves V setup moves → old.end.setup ≡ (path_of setup moves).setup → fed.end.setup ≡ old.end.setup → SpinStands new (Pumped ∷ Fed piece f.views ∷ (path_of setup moves).served)
    → after ≡ middle ++ spin_sends fed.end.setup Pumped (Fed piece f.views ∷ (path_of setup moves).served) → more ≡ runs fed.end.setup (Pumped ∷ Fed piece f.views ∷ (path_of setup moves).served) → ServesOn V setup moves piece new before after more
served_on V setup moves piece old fed new before middle after view shown more f all are same still stands pumps goes =
    let es : List (Event (List Served)) = (path_of setup moves).served in
    let s : Setup = (path_of setup moves).setup in
    let says : List ℕ = spin_sends s (Fed piece f.views) es in
    let block : List ℕ = spin_sends s Pumped (Fed piece f.views ∷ es) in
    record {
      views = f.views;
      are = (_, (all, are));
      stands = stands;
      said = says ++ block;
      appended = pumps ∙ ap (λ (x : Setup). middle ++ spin_sends x Pumped (Fed piece f.views ∷ es)) (still ∙ same)
          ∙ ap (λ (x : List ℕ). x ++ block) (f.replied ∙ ap (λ (x : Setup). before ++ spin_sends x (Fed piece f.views) es) same)
          ∙ append_assoc before says block;
      says = append_assoc (all_said s es) says block;
      goes_on = goes ∙ ap (λ (x : Setup). runs x (Pumped ∷ Fed piece f.views ∷ es)) (still ∙ same);
    }
