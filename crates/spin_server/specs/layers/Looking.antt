-- What a look-up of an image answers, whoever else advertises meanwhile.
use Rattle.std.specs.Prelude.{◌≡◌, ℕ, Bool, List, [], ◌++◌, Option, if◌then◌else◌}
use Rattle.pitch_model.specs.Advertising.{newest_of}
use Rattle.pitch_model.specs.History.{adds}
use Rattle.pitch_model.specs.Image.{image}
use Rattle.spin_server.specs.declared.lookup.Imaged.{Imaged}
use Rattle.spin_server.specs.declared.lookup.Imaged.TheVariants.{Image, NotAdvertised}
use Rattle.spin_server.specs.Served.{Served, is_served}

-- what looking up an image answers: the number of adds in it
abbrev pub imaged : Served → ℕ → Imaged
imaged v sequence =
    if is_served v sequence then Image (adds (image v.messages sequence)) else NotAdvertised

-- and what it hands out
abbrev pub image_given : Served → ℕ → List (List ℕ)
image_given v sequence = if is_served v sequence then image v.messages sequence else []

-- ---- Over time
-- later there are more messages and more advertised sequences
pub record ServedLater (old new : Served) : Type 0 where
  pub more : List (List ℕ)
  pub messages_are : new.messages ≡ old.messages ++ more
  pub others : List ℕ
  pub advertised_are : new.advertised ≡ old.advertised ++ others

-- the newest sequence is that of a view after the call, which is no earlier than that before it
pub record SeesNewest (shown : Served → Type 0) (old : Served) (newest : Option ℕ) : Type 0 where
  pub now : Served
  pub later : ServedLater old now
  pub shows : shown now
  pub answer : newest ≡ newest_of now.advertised

-- whether an image can be had is said of a view after the call, which is no earlier
pub record SeesServed (shown : Served → Type 0) (old : Served) (sequence : ℕ) (served : Bool) :
    Type 0 where
  pub now : Served
  pub later : ServedLater old now
  pub shows : shown now
  pub answer : served ≡ is_served now sequence

-- an image is looked up in a view after the call, which is no earlier than that before it
pub record LooksUpImage (shown : Served → Type 0)
    (old : Served) (sequence : ℕ) (answer : Imaged) (before after : List (List ℕ)) : Type 0 where
  pub now : Served
  pub later : ServedLater old now
  pub shows : shown now
  pub answer_is : answer ≡ imaged now sequence
  pub given : after ≡ before ++ image_given now sequence
