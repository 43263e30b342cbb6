-- What a client is told of what a stream says to its link.
use Rattle.std.specs.Prelude.{ℕ, Bool, true, false, ◌||◌, ◌==◌, List, [], ◌∷◌, ◌++◌, Option, None}
use Rattle.std.specs.Prelude.{Some, is_some, if◌then◌else◌}
use Rattle.pitch_messages.specs.declared.session.SessionMessage.{SessionMessage}
use Rattle.pitch_messages.specs.declared.session.SessionMessage.TheVariants.{Login, LoginReply}
use Rattle.pitch_messages.specs.declared.session.SessionMessage.TheVariants.{GapRequest, GapReply}
use Rattle.pitch_messages.specs.declared.session.SessionMessage.TheVariants.{SpinAvailable}
use Rattle.pitch_messages.specs.declared.session.SessionMessage.TheVariants.{SpinRequest, SpinReply}
use Rattle.pitch_messages.specs.declared.session.SessionMessage.TheVariants.{SpinFinished}
use Rattle.heard_items.specs.declared.item.Item.{Item}
use Rattle.heard_items.specs.declared.item.Item.TheVariants as item
use Rattle.session_ends.specs.declared.inbox.Heard.{Heard}
use Rattle.session_ends.specs.declared.inbox.Heard.TheVariants as heard
use Rattle.session_ends.specs.declared.role.Role.{Role}
use Rattle.session_ends.specs.declared.role.Role.TheVariants.{SpinLink}
use Rattle.session_ends.specs.declared.role.Said.{Said}
use Rattle.session_ends.specs.declared.role.Said.TheVariants.{Skipped, Message}
use Rattle.session_ends.specs.Closing.{Setup, cause_of, logs_in}
use Rattle.session_ends.specs.Saying.{heard_by, said_to}

-- ---- Items
-- an item, whatever room its list has for more
abbrev pub without_spare : Item → Item
without_spare (item.ImageMessages raws) =
    item.ImageMessages (record { items = raws.items; spare = 0 })
without_spare other = other

-- ---- One message
-- only the link to the Spin Server hands other messages out: they are an image's ("Spin Servers")
abbrev pub hands_out : Role → Bool
hands_out SpinLink = true
hands_out role = false

-- the item of a session message ("Login Response Message", "Gap Response Message", "Spin Image
-- Available Message", "Spin Response Message", "Spin Finished Message"); a login that is refused
-- gives none
abbrev pub told_of : Bool → SessionMessage → List Item
told_of spin (LoginReply status) =
    if status == 65 then ((if spin then item.SpinUp else item.GrpUp) ∷ []) else []
told_of spin (GapReply unit sequence count status) = item.GapReply sequence count status ∷ []
told_of spin (SpinAvailable sequence) = item.Advertised sequence ∷ []
told_of spin (SpinReply sequence orders status) = item.SpinReply sequence orders status ∷ []
told_of spin (SpinFinished sequence) = item.SpinFinished sequence ∷ []
told_of spin (Login sub user password) = []
told_of spin (GapRequest unit sequence count) = []
told_of spin (SpinRequest sequence) = []

-- nothing is told of what is skipped or too short
abbrev pub told_said : Role → Said → List Item
told_said role (Message message) = told_of (hands_out role) message
told_said role said = []

-- ---- Other messages
-- the message, where it is one that is skipped
abbrev pub other_in : Said → List ℕ → Option (List ℕ)
other_in Skipped raw = Some raw
other_in said raw = None

abbrev pub other_of : Role → Heard → Option (List ℕ)
other_of role (heard.Message place raw) = other_in (said_to role raw) raw
other_of role item = None

-- the other messages that come first, up to the end of their block at most
abbrev pub before_more : Option (List ℕ) → List (List ℕ) → List (List ℕ)
before_more None raws = []
before_more (Some raw) raws = raw ∷ raws

abbrev pub others : Role → List Heard → List (List ℕ)
others role [] = []
others role (item ∷ items) = before_more (other_of role item) (others role items)

-- a run of them is one item
abbrev pub run_of : Role → List (List ℕ) → List Item
run_of SpinLink (raw ∷ raws) = item.ImageMessages (record { items = raw ∷ raws; spare = 0 }) ∷ []
run_of role raws = []

-- ---- All messages
-- what is told after a message that is another one, or else what is told of it
abbrev pub or_items : Option (List ℕ) → List Item → List Item → List Item
or_items (Some raw) more mine = more
or_items None more mine = mine

-- what is told after the other messages that come first
abbrev pub after_others : Role → List Heard → List Item
after_others role [] = []
after_others role (item ∷ items) =
    or_items (other_of role item) (after_others role items) (told_said role (heard_by role item)
    ++ (run_of role (others role items) ++ after_others role items))

-- what is told where a run of other messages has begun: each longest run within a block is one item
abbrev pub tells_on : Role → List (List ℕ) → List Heard → List Item
tells_on role run items = run_of role (run ++ others role items) ++ after_others role items

-- the same where a message comes next, and what it says is known
abbrev pub message_tells : Role → Said → List ℕ → List (List ℕ) → List Heard → List Item
message_tells role said raw run rest =
    run_of role (run ++ before_more (other_in said raw) (others role rest))
    ++ or_items (other_in said raw)
    (after_others role rest) (told_said role said ++ tells_on role [] rest)

-- the messages up to the one that closes the link, if there is one
abbrev pub until : Setup → Bool → List Heard → List Heard
until s logged [] = []
until s logged (item ∷ items) =
    item ∷ (if is_some (cause_of s logged item)
    then [] else until s (logged || logs_in s.role item) items)

-- what is told of what the stream says, up to the message that closes the link
abbrev pub tells : Setup → Bool → List Heard → List Item
tells s logged items = tells_on s.role [] (until s logged items)
