-- What holds of every run of a live venue.
use Rattle.std.specs.Prelude.{◌≡◌, ◌^◌, ◌<◌, ℕ, List, ◌++◌, Option, None, Result, Ok, Err}
use Rattle.std.specs.List.{AllByRecursion}
use Rattle.stream_print.specs.Told.{Told}
use Rattle.live_net.specs.LiveCalls.{LiveCall}
use Rattle.live_units.specs.Coming.{AreHonest, LiveSetup, UnitCame, live_books, live_lines}
use Rattle.live_recovery.specs.Recovering.{RecoverEnds}
use Rattle.live_recovery.specs.Running.{Setup}
use Rattle.live_recovery.specs.Running as client
use Rattle.live_recovery.specs.declared.copies.Disagreement.{Disagreement}
use Rattle.live_recovery.specs.declared.counts.Counts.{Counts}
use Rattle.live_recovery.specs.declared.error.RecoverError.TheVariants.{Disagree}
use Rattle.venue_end.specs.declared.setup.VenueSetup.{VenueSetup}
use Rattle.venue_net.specs.VenueCalls.{VenueCall}
use Rattle.venue_turns.specs.Due.{is_read}
use Rattle.live_venue.specs.Running.{Now, Runs}
use Rattle.live_venue.specs.Serving.{ServeEnds}
use Rattle.live_venue.specs.declared.error.ServeError.{ServeError}
use Rattle.live_laws.specs.Carried.{AllCarried, AreApart}
use Rattle.live_laws.specs.Sent.{Hears, messages_of}
use Rattle.live_laws.specs.Text.{HaveCommandsOf, HaveOf, text_heard, told_by}

-- ---- What is served
-- each unit is named by one byte
abbrev pub AreNumbered : List VenueSetup → Type 0
AreNumbered s = AllByRecursion (λ setup. setup.unit < 2 ^ 8) s

-- a live client that hears a run of a live venue speaks honestly of all that its units accepted
abbrev pub HearersAreHonest : Type 0
HearersAreHonest = (s : List VenueSetup) (result : Result (Unit {0}) ServeError)
    (old new : Option (List VenueCall)) (served : ServeEnds s result old new)
    (c : LiveSetup) (came : List UnitCame)
    → AreNumbered s → Hears s served.run came → AreHonest c (messages_of s served.now.came) came

-- and what the net of a client carried of a run, by the calls of both, its units heard of it
abbrev pub CarriedIsHeard : Type 0
CarriedIsHeard = (s : List VenueSetup) (run : List VenueCall)
    (c : Setup) (calls : List LiveCall) (now : client.Now)
    → AreApart c.peers → client.Runs c calls now → AllCarried s run c.peers calls
    → Hears s run now.came

-- so where it ends well each book that it wrote is that of the venue's unit, its first n messages,
-- n the unit's reach
abbrev pub BooksAreTheVenues : Type 0
BooksAreTheVenues = (s : List VenueSetup) (result : Result (Unit {0}) ServeError)
    (old new : Option (List VenueCall)) (served : ServeEnds s result old new)
    (c : Setup) (counts : Counts) (before after : Option (List LiveCall)) (out : Told)
    (heard : RecoverEnds c (Ok counts) before after out)
    → AreNumbered s → AreApart c.peers → AllCarried s served.run c.peers heard.run
    → heard.text ≡ live_lines c.listens heard.now.came
    ++ live_books c.listens (messages_of s served.now.came) heard.now.came

-- and it finds no copies that differ
abbrev pub NoCopiesDiffer : Type 0
NoCopiesDiffer = (s : List VenueSetup) (result : Result (Unit {0}) ServeError)
    (old new : Option (List VenueCall)) (served : ServeEnds s result old new)
    (c : Setup) (d : Disagreement) (before after : Option (List LiveCall)) (out : Told)
    (heard : RecoverEnds c (Err (Disagree d)) before after out)
    → AreNumbered s → AreApart c.peers → AllCarried s served.run c.peers heard.run → ⊥

-- what comes of a run still does, whatever calls follow
abbrev pub HearingStays : Type 0
HearingStays = (s : List VenueSetup) (later run : List VenueCall) (came : List UnitCame)
    → Hears s run came → Hears s (later ++ run) came

-- ---- What is accepted
-- the units have the messages that they have of the text that was read, and its fault
abbrev pub RunsHaveTheText : Type 0
RunsHaveTheText = (s : List VenueSetup) (run : List VenueCall) (now : Now)
    → Runs s run now → HaveOf s (told_by (is_read run) now.text) now

-- where a text has none, those are the messages of its commands
abbrev pub TextsAreCommands : Type 0
TextsAreCommands = (s : List VenueSetup) (text : List ℕ)
    → (text_heard s text).fault ≡ None → HaveCommandsOf s text (text_heard s text).came

-- so in a run whose input has no fault
abbrev pub RunsHaveTheCommands : Type 0
RunsHaveTheCommands = (s : List VenueSetup) (run : List VenueCall) (now : Now) → Runs s run now
    → now.fault ≡ None → HaveCommandsOf s (told_by (is_read run) now.text) now.came
