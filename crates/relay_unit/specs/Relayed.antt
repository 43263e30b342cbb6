-- What a relay sends: messages of its own that leave the book which it follows.
use Rattle.std.specs.Prelude.{ℕ, Bool, List, [], ◌∷◌, ◌++◌, nat_lt, take, drop, length, ◌+◌}
use Rattle.std.specs.Prelude.{if◌then◌else◌}
use Rattle.std.specs.List.{list_any}
use Rattle.pitch_messages.specs.declared.message.Message.TheVariants.{UnitClear}
use Rattle.pitch_messages.specs.Writing.{written}
use Rattle.unit_packets.specs.Packing.{packed}
use Rattle.pitch_model.specs.History.{Entry, Raw, images_at, spin_of}
use Rattle.pitch_model.specs.Reach.{reach, sequences}
use Rattle.pitch_model.specs.Image.{image}

-- an entry finishes an image that is above the reach
abbrev pub takes_image : ℕ → List Entry → Entry → Bool
takes_image H E entry =
    list_any (λ s. nat_lt (reach H E) s) (sequences (images_at entry (spin_of E)))

-- what is sent for an entry that takes the reach from r to t: where an image was taken, Unit Clear
-- and the image of the book through t; else the messages r + 1 to t
abbrev pub sent_for : Bool → List Raw → ℕ → ℕ → List Raw
sent_for taken V r t = if taken then written (UnitClear 0) ∷ image V t else drop r (take t V)

-- what is sent over a history, where V are the venue's messages and the hold has H places
abbrev pub relayed : ℕ → List Raw → List Entry → List Raw
relayed H V [] = []
relayed H V (entry ∷ E) =
    relayed H V E ++ sent_for (takes_image H E entry) V (reach H E) (reach H (entry ∷ E))

-- how many messages that are
abbrev pub relayed_count : ℕ → List Raw → List Entry → ℕ
relayed_count H V E = length (relayed H V E)

-- the datagrams of what is sent up to E' and was not up to E, which runs on in sequence from 1
abbrev pub relayed_datagrams : ℕ → List Raw → ℕ → List Entry → List Entry → List (List ℕ)
relayed_datagrams H V unit E E' =
    packed unit (relayed_count H V E + 1) (drop (relayed_count H V E) (relayed H V E'))
