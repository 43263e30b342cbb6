-- What a message says to an end.
use Rattle.std.specs.Prelude.{ℕ, Bool, true, false, ◌||◌, ◌==◌, List, Result, Ok, Err}
use Rattle.std.specs.Prelude.{if◌then◌else◌}
use Rattle.pitch_messages.specs.Raw.{kind_of}
use Rattle.pitch_messages.specs.Session.{session_reads}
use Rattle.pitch_messages.specs.declared.session.SessionMessage.{SessionMessage}
use Rattle.pitch_messages.specs.declared.session.SessionMessage.TheVariants.{Login}
use Rattle.pitch_messages.specs.declared.session.SessionError.{SessionError}
use Rattle.session_ends.specs.declared.role.Role.{Role}
use Rattle.session_ends.specs.declared.role.Role.TheVariants.{GrpServer, SpinServer, GapLink}
use Rattle.session_ends.specs.declared.role.Role.TheVariants.{SpinLink}
use Rattle.session_ends.specs.declared.role.Said.{Said}
use Rattle.session_ends.specs.declared.role.Said.TheVariants.{Skipped, TooShort, Message}
use Rattle.session_ends.specs.declared.inbox.Heard.{Heard}
use Rattle.session_ends.specs.declared.inbox.Heard.TheVariants as heard

-- the types that an end reads: logins and requests at a server ("Login Message", "Gap Request
-- Message", "Spin Request Message"), and their replies at a link ("Login Response Message", "Gap
-- Response Message", "Spin Image Available Message", "Spin Response Message", "Spin Finished
-- Message")
abbrev pub is_read : Role → ℕ → Bool
is_read GrpServer kind = kind == 0x01 || kind == 0x03
is_read SpinServer kind = kind == 0x01 || kind == 0x81
is_read GapLink kind = kind == 0x02 || kind == 0x04
is_read SpinLink kind = kind == 0x02 || (kind == 0x80 || (kind == 0x82 || kind == 0x83))

abbrev pub said_by : Result SessionMessage SessionError → Said
said_by (Ok message) = Message message
said_by (Err error) = TooShort

-- what a raw says to an end; types that it does not read are skipped
abbrev pub said_to : Role → List ℕ → Said
said_to role raw = if is_read role (kind_of raw) then said_by (session_reads raw) else Skipped

-- what the stream says next says to an end
abbrev pub heard_by : Role → Heard → Said
heard_by role (heard.Message place raw) = said_to role raw
heard_by role heard.BlockEnd = Skipped
heard_by role (heard.Broken closed) = Skipped

abbrev pub is_login : Said → Bool
is_login (Message (Login sub user password)) = true
is_login said = false
