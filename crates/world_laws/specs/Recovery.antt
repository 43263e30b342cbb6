-- The verbs with which a recovery ends, wherever it begins.
use Rattle.std.specs.Prelude.{List, [], ◌∷◌, None}
use Rattle.pitch_text.specs.declared.verb.Session.TheVariants.{Grp, Spin}
use Rattle.pitch_text.specs.declared.verb.Verb.{Verb}
use Rattle.pitch_text.specs.declared.verb.Verb.TheVariants as verbs

-- a new connection with the Spin Server: the login is carried, the image of all that was accepted
-- is advertised, the client ticks, and what it asks for is carried
abbrev pub image_round : List Verb
image_round =
    verbs.Connect Spin ∷ verbs.Up Spin None ∷ verbs.Advertise ∷ verbs.Down Spin None
    ∷ verbs.Tick ∷ verbs.Up Spin None ∷ verbs.Down Spin None ∷ []

-- the connections that stand are cut, and then there is such a round. The first verb comes first.
abbrev pub recovery : List Verb
recovery = verbs.Cut Grp ∷ verbs.Cut Spin ∷ image_round
