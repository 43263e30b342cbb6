-- What a link makes of one thing that it reads.
use Rattle.std.specs.Prelude.{◌≡◌, ℕ, Bool, List, ◌∷◌, ◌++◌}
use Rattle.heard_items.specs.declared.item.Item.{Item}
use Rattle.session_ends.specs.declared.inbox.Heard.{Heard}
use Rattle.session_ends.specs.Closing.{Setup}
use Rattle.session_ends.specs.layers.Driving.{At}
use Rattle.client_links.specs.Telling.{tells_on}

-- nothing is sent; and whatever comes next, what was told and the run that has begun tell with it
-- what they told before with this in front of it
pub record Tells {D L : Type 0} (told : D → List Item) (run : D → List (List ℕ))
    (s : Setup) (logged : Bool) (item : Heard) (from to : At D L) : Type 0 where
  pub said : to.said ≡ from.said
  pub tells : (rest : List Heard) → told to.desk ++ tells_on s.role (run to.desk) rest
      ≡ told from.desk ++ tells_on s.role (run from.desk) (item ∷ rest)
