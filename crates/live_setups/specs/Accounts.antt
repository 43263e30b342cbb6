-- Whose logins are made, or allowed.
use Rattle.std.specs.Prelude.{Option, replicate, unwrap_or}
use Rattle.session_ends.specs.declared.account.Account.{Account}

-- nobody's account: spaces, of which no account is made that is given
abbrev pub nobody : Account
nobody = record { sub = replicate 4 32; user = replicate 4 32; password = replicate 10 32 }

-- the account that is given, or nobody's where none is
abbrev pub account_or_nobodys : Option Account → Account
account_or_nobodys given = unwrap_or given nobody
