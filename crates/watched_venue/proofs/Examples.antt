-- Worked examples of lines, computed by the definitions.
use Rattle.std.proofs.Common.{◌≡◌, ℕ, true, false, List, [], ◌∷◌, codes, refl}
use Rattle.std.specs.Fmt.{digits}
use Rattle.pitch_messages.specs.Session.{session_reads}
use Rattle.feed_lines.specs.Show.{number_field}
use Rattle.session_ends.specs.declared.inbox.Heard.TheVariants.{BlockEnd, Message}
use Rattle.watched_venue.specs.layers.Asked.{asked_line, asked_lines, client_head}
use Rattle.watched_venue.specs.declared.line.Client.{Client}

-- the third client of a venue, at the proxy of unit 7 and at its Spin Server
abbrev of_proxy : Client
of_proxy = record { unit = 7; spin = false; number = 3 }

abbrev of_spin : Client
of_spin = record { unit = 7; spin = true; number = 3 }

-- "Login Message", "Gap Request Message" and "Spin Request Message"
abbrev login : List ℕ
login = 22 ∷ 1 ∷ 48 ∷ 48 ∷ 48 ∷ 49 ∷ 70 ∷ 69 ∷ 69 ∷ 68 ∷ 32 ∷ 32 ∷ 80 ∷ 73 ∷ 84 ∷ 67 ∷ 72 ∷ 32 ∷ 32 ∷ 32 ∷ 32 ∷ 32 ∷ []

abbrev gap_request : List ℕ
gap_request = 9 ∷ 3 ∷ 7 ∷ 40 ∷ 1 ∷ 0 ∷ 0 ∷ 2 ∷ 0 ∷ []

abbrev spin_request : List ℕ
spin_request = 6 ∷ 0x81 ∷ 0 ∷ 1 ∷ 0 ∷ 0 ∷ []

-- each server reads its own requests alone, and the end of a block asks nothing
asked_of_a_proxy : asked_lines of_proxy (Message 8 login ∷ BlockEnd ∷ Message 38 gap_request ∷ Message 47 spin_request ∷ BlockEnd ∷ []) ≡ codes "unit 7 grp 3 login\nunit 7 grp 3 request 296 count 2\n"
unfolding session_reads asked_line client_head number_field digits
asked_of_a_proxy = refl

asked_of_a_spin_server : asked_lines of_spin (Message 8 login ∷ BlockEnd ∷ Message 38 gap_request ∷ Message 47 spin_request ∷ BlockEnd ∷ []) ≡ codes "unit 7 spin 3 login\nunit 7 spin 3 spin 256\n"
unfolding session_reads asked_line client_head number_field digits
asked_of_a_spin_server = refl

-- a request that is shorter than its type asks nothing
a_short_request : asked_lines of_proxy (Message 8 (8 ∷ 3 ∷ 7 ∷ 40 ∷ 1 ∷ 0 ∷ 0 ∷ 2 ∷ []) ∷ []) ≡ []
unfolding session_reads asked_line client_head number_field digits
a_short_request = refl
