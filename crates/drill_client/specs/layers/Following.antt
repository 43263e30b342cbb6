-- A client that heard of one venue's messages only what is so.
use Rattle.std.specs.Prelude.{◌≡◌, ℕ, ◌≤◌, true, List, [], ◌∷◌, length, refl}
use Rattle.std.specs.List.{AllByRecursion}
use Rattle.std.specs.Coded.{Coded, code_by, coded×, coded_ℕ, coded_list}
use Rattle.pitch_fields.specs.Fields.{AreBytes}
use Rattle.unit_packets.specs.Cutting.{blocks_of}
use Rattle.pitch_model.specs.History.{Entry, Raw, Spinning, NoSpin, Asked, Running, SpinReply}
use Rattle.pitch_model.specs.History.{ImageMessages, SpinFinished, spin_of, adds}
use Rattle.pitch_model.specs.Honest.{Honest}
use Rattle.pitch_model.specs.Image.{image}
use Rattle.heard_items.specs.Datagrams.{heard_blocks}
use Rattle.client_core.specs.Tracks.{Tracks, Keeps}
use Rattle.client_core.specs.declared.client.UnitClient.{UnitClient}

-- no image is under way: what comes of one is heard whole, before anything else
abbrev pub NoImageRuns : Spinning → Type 0
NoImageRuns NoSpin = Unit {0}
NoImageRuns (Asked sequence) = Unit {0}
NoImageRuns (Running sequence orders raws) = ⊥

-- it heard E, which is honest for the messages V of a venue, and these are bytes; it keeps to V,
-- and no image is under way
pub record Follows (client : UnitClient) (H : ℕ) (V : List Raw) (E : List Entry) : Type 0 where
  pub tracks : Tracks client H E
  pub honest : Honest image V E
  pub keeps : Keeps client V
  pub between : NoImageRuns (spin_of E)
  pub bytes : AllByRecursion AreBytes V

-- it heard something, and follows V
abbrev pub FollowsOn : UnitClient → ℕ → List Raw → Type 0
FollowsOn client H V = (E : List Entry) × Follows client H V E

-- whatever history it followed V over, it then follows V over what `more` makes of that
abbrev pub FollowsWith : UnitClient → UnitClient → List Raw → (List Entry → List Entry) → Type 0
FollowsWith old new V more =
    (H : ℕ) (E : List Entry) → Follows old H V E → Follows new H V (more E)

-- where the one follows V, the other does
abbrev pub KeepsFollowing : UnitClient → UnitClient → List Raw → Type 0
KeepsFollowing old new V = (H : ℕ) → FollowsOn old H V → FollowsOn new H V

-- ---- What is heard
-- datagrams, one after another
abbrev pub heard_datagrams : List (List ℕ) → List Entry → List Entry
heard_datagrams [] E = E
heard_datagrams (datagram ∷ datagrams) E =
    heard_datagrams datagrams (heard_blocks (blocks_of datagram) E)

-- an image whole: that it comes and how many orders it has, its messages, and its end
abbrev pub imaged_whole : ℕ → ℕ → List Raw → List Entry → List Entry
imaged_whole sequence orders raws E =
    SpinFinished sequence ∷ ImageMessages raws ∷ SpinReply sequence orders true ∷ E

-- ---- Images
-- an image through a sequence, with the number of its orders
pub record ImageParts : Type 0 where
  pub sequence : ℕ
  pub orders : ℕ
  pub raws : List Raw

-- it is that of the messages V ("Spin Server")
pub record IsImageOf (V : List Raw) (parts : ImageParts) : Type 0 where
  pub within : parts.sequence ≤ length V
  pub raws_are : parts.raws ≡ image V parts.sequence
  pub orders_are : parts.orders ≡ adds parts.raws

-- its code: numbers and lists
abbrev pub image_code : Coded ImageParts
image_code = code_by (ℕ × (ℕ × List (List ℕ)))
    (coded× coded_ℕ (coded× coded_ℕ (coded_list (coded_list coded_ℕ))))
    (λ i. (i.sequence, (i.orders, i.raws)))
    (λ p. record { sequence = p.0; orders = p.1.0; raws = p.1.1 }) (λ _. refl)
