-- The default limits: what holds of a unit where no `open` line says otherwise, and wherever else
-- no other limit is said.
use Rattle.std.specs.Prelude.{ℕ}

-- how many messages a client holds of those that came too early
abbrev pub default_hold : ℕ
default_hold = 4096

-- how many of the last messages the Gap Request Proxy keeps
abbrev pub default_kept : ℕ
default_kept = 65536

-- how many gap requests the proxy accepts in a second, in a minute and in a day
abbrev pub default_second : ℕ
default_second = 10

abbrev pub default_minute : ℕ
default_minute = 100

abbrev pub default_day : ℕ
default_day = 10000
