-- What a server answers at a history.
use Rattle.std.specs.Prelude.{◌≡◌, ℕ, List, ◌++◌}
use Rattle.spin_server.specs.Served.{Served}
use Rattle.spin_server.specs.layers.Looking.{imaged, image_given}
use Rattle.spin_server.specs.declared.lookup.Imaged.{Imaged}

-- the answer is that at a view, and what is handed out was appended
pub record AnswersImage (v : Served)
    (sequence : ℕ) (answer : Imaged) (before after : List (List ℕ)) : Type 0 where
  pub answer_is : answer ≡ imaged v sequence
  pub given : after ≡ before ++ image_given v sequence
