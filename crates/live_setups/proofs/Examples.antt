-- Worked examples of what the words set up: the words are those of docs/LIVE.md.
use Rattle.std.proofs.Common.{◌≡◌, ◌<◌, ◌^◌, ◌++◌, ℕ, List, [], ◌∷◌, length, Some, None, Ok, Err, Global, Vec, codes, refl, le_refl, arith}
use Rattle.std.specs.declared.net.socket_addr.SocketAddr.{SocketAddr}
use Rattle.std.specs.declared.net.socket_addr.SocketAddr.TheVariants.{V4}
use Rattle.line_sockets.specs.declared.port.Port.TheVariants.{Bound, Given}
use Rattle.session_ends.specs.declared.account.Account.{Account}
use Rattle.sending_end.specs.declared.session.Session.TheVariants.{Proxy, SpinServer}
use Rattle.live_listen.specs.declared.error.ListenError.TheVariants as listening
use Rattle.live_recovery.specs.declared.error.RecoverError.TheVariants as recovering
use Rattle.live_venue.specs.declared.error.ReportError.TheVariants as reporting
use Rattle.live_venue.specs.declared.error.ServeError.TheVariants as serving
use Rattle.live_venue.specs.declared.fault.InputFault.TheVariants.{NoUnit}
use Rattle.watched_venue.specs.declared.trouble.WatchTrouble.TheVariants as watching
use Rattle.live_words.specs.declared.listen_words.ListenWords.{ListenWords}
use Rattle.live_words.specs.declared.listen_words.Server.{Server}
use Rattle.live_words.specs.declared.serve_words.ServeWords.{ServeWords}
use Rattle.live_words.specs.declared.serve_words.UnitWords.{UnitWords}
use Rattle.std.specs.Str.{chars, trim_start, trim_end}
use Rattle.long_options.specs.Words.{Text}
use Rattle.live_setups.specs.Given.{setup_words}
use Rattle.live_setups.specs.Hearing.{addrs_of, hearing_of, peers_of, ports_of, units_heard}
use Rattle.live_setups.specs.Serving.{doors_of, harm_of, lines_of, plan_of, setups_of, time_of}
use Rattle.live_setups.specs.Statuses.{listen_status, recover_status, report_status, serve_status, status_number}
use Rattle.live_setups.specs.declared.hearing.Hearing.TheVariants.{Every, Named}
use denote.RawPtr.{null_ptr}
use lib.Utf8.{encode}

-- a port of 127.0.0.1
abbrev at : ℕ → SocketAddr
at port = V4 (record { ip = record { octets = 127 ∷ 0 ∷ 0 ∷ 1 ∷ [] }; port = port })

-- a vector of these elements
abbrev vec : {X : Type 0} → Global → (xs : List X) → length xs < 2 ^ 63 → Vec X Global
vec heap xs small = record { ptr = null_ptr; len = length xs; cap = length xs; alloc = heap; items = xs; ok = (refl, le_refl (length xs)); small = small }

abbrev account : Account
account = record { sub = codes "0001"; user = codes "FEED"; password = codes "PITCH     " }

-- ---- listening
-- `--a 127.0.0.1:30501 --b 127.0.0.1:31501 --gap fd:9` alone: every unit is heard, and nobody is asked
abbrev alone : Global → ListenWords
alone heap = record {
  lines = record {
    a = vec heap (Bound (at 30501) ∷ []) (omega arith);
    b = vec heap (Bound (at 31501) ∷ []) (omega arith);
    gap = vec heap (Given 9 ∷ []) (omega arith);
    from = vec heap [] (omega arith);
  };
  units = vec heap [] (omega arith);
  servers = record { grp = vec heap [] (omega arith); spin = vec heap [] (omega arith); account = None };
  hold = 4096;
  seconds = None;
}

the_lines_are_a_b_and_gap : (heap : Global) → ports_of (alone heap).lines ≡ Bound (at 30501) ∷ Bound (at 31501) ∷ Given 9 ∷ []
the_lines_are_a_b_and_gap heap = refl

every_unit_is_heard : (heap : Global) → hearing_of (alone heap) ≡ Every (record { lines = 3; units = []; hold = 4096 })
every_unit_is_heard heap = refl

-- with `--unit 9 --unit 9`, a proxy of unit 2, a proxy and a Spin Server of unit 1, and an account
abbrev proxies : List Server
proxies = record { unit = 2; addr = at 30602 } ∷ record { unit = 1; addr = at 30601 } ∷ []

abbrev spins : List Server
spins = record { unit = 1; addr = at 30701 } ∷ []

abbrev asks : Global → ListenWords
asks heap = record (alone heap) {
  units = vec heap (9 ∷ 9 ∷ []) (omega arith);
  servers = record {
    grp = vec heap proxies (omega arith);
    spin = vec heap spins (omega arith);
    account = Some account;
  };
}

the_units_are_those_once : (heap : Global) → units_heard (asks heap) ≡ 9 ∷ 2 ∷ 1 ∷ []
the_units_are_those_once heap = refl

the_peers_are_proxies_and_spins : (heap : Global)
    → peers_of (asks heap).servers ≡ record { unit = 2; session = Proxy } ∷ record { unit = 1; session = Proxy } ∷ record { unit = 1; session = SpinServer } ∷ []
the_peers_are_proxies_and_spins heap = refl

they_are_there : (heap : Global) → addrs_of (asks heap).servers ≡ at 30602 ∷ at 30601 ∷ at 30701 ∷ []
they_are_there heap = refl

the_units_are_heard : (heap : Global) → hearing_of (asks heap) ≡ Named (record {
  lines = 3;
  peers = record { unit = 2; session = Proxy } ∷ record { unit = 1; session = Proxy } ∷ record { unit = 1; session = SpinServer } ∷ [];
  listens = record { units = 9 ∷ 2 ∷ 1 ∷ []; account = account; hold = 4096 };
})
the_units_are_heard heap = refl

-- with `--unit 9` alone no login is made, by an account of spaces
abbrev named : Global → ListenWords
named heap = record (alone heap) { units = vec heap (9 ∷ []) (omega arith) }

nobody_logs_in : (heap : Global) → hearing_of (named heap) ≡ Named (record {
  lines = 3;
  peers = [];
  listens = record {
    units = 9 ∷ [];
    account = record { sub = codes "    "; user = codes "    "; password = codes "          " };
    hold = 4096;
  };
})
nobody_logs_in heap = refl

-- ---- serving
-- the venue to try a handler with: unit 1 with all its places, and unit 2 with a line A alone
abbrev one : UnitWords
one = record { unit = 1; a = at 30501; b = Some (at 31501); gap = Some (at 32501); grp = Some (at 30601); spin = Some (at 30701) }

abbrev two : UnitWords
two = record { unit = 2; a = at 30502; b = None; gap = None; grp = None; spin = None }

the_lines_lead_there : lines_of (one ∷ two ∷ []) ≡ Some (at 30501) ∷ Some (at 31501) ∷ Some (at 32501) ∷ Some (at 30502) ∷ None ∷ None ∷ []
the_lines_lead_there = refl

the_doors_are_there : doors_of (two ∷ one ∷ []) ≡ None ∷ None ∷ Some (at 30601) ∷ Some (at 30701) ∷ []
the_doors_are_there = refl

abbrev tried : Global → ServeWords
tried heap = record {
  units = vec heap (one ∷ two ∷ []) (omega arith);
  account = Some account;
  kept = 65536;
  second = 10;
  minute = 100;
  day = 10000;
  seconds = None;
  after = Some 5;
  trial = record {
    plan = Some (record { number = 7; count = 5000; rate = 500 });
    harm = record {
      number = 1;
      lose = record { a = 20; b = 20; gap = 0 };
      repeat = record { a = 10; b = 0; gap = 0 };
      swap = record { a = 0; b = 10; gap = 0 };
      cut = Some 4;
    };
    report = None;
  };
}

each_unit_is_served_so : (heap : Global) → setups_of (tried heap)
    ≡ record { unit = 1; account = account; kept = 65536; second = 10; minute = 100; day = 10000 }
    ∷ record { unit = 2; account = account; kept = 65536; second = 10; minute = 100; day = 10000 } ∷ []
each_unit_is_served_so heap = refl

-- the first 500 commands of each unit are due at once
the_plan_begins : (heap : Global) → plan_of (tried heap)
    ≡ Some (record { number = 7; units = 1 ∷ 2 ∷ []; count = 5000; rate = 500; due = 500; made = 0; left = [] })
the_plan_begins heap = refl

-- two units have 6 lines and 256 places
the_harm_is_this : (heap : Global) → harm_of (tried heap).trial.harm 2 ≡ record {
  number = 1;
  lose = record { a = 20; b = 20; gap = 0 };
  repeat = record { a = 10; b = 0; gap = 0 };
  swap = record { a = 0; b = 10; gap = 0 };
  cut = Some 4;
  lines = 6;
  places = 256;
}
the_harm_is_this heap = refl

it_ends_5_seconds_after_its_input : (heap : Global) → time_of (tried heap) ≡ record { seconds = None; after = Some 5 }
it_ends_5_seconds_after_its_input heap = refl

-- ---- statuses
a_write_that_failed : status_number (listen_status (Err listening.Write) None) ≡ 5
a_write_that_failed = refl

a_net_that_failed : status_number (recover_status (Err recovering.Net) None) ≡ 7
a_net_that_failed = refl

no_memory : status_number (recover_status (Err recovering.OutOfMemory) None) ≡ 6
no_memory = refl

copies_that_differ : status_number (recover_status (Err (recovering.Disagree (record { unit = 7; sequence = 2 }))) None) ≡ 8
copies_that_differ = refl

a_line_of_no_unit : status_number (serve_status (Err (serving.Input (NoUnit 3))) None) ≡ 3
a_line_of_no_unit = refl

a_run_that_is_over : status_number (report_status (Ok tt) None None) ≡ 0
a_run_that_is_over = refl

lines_missing_of_what_was_asked : status_number (report_status (Ok tt) None (Some watching.Write)) ≡ 5
lines_missing_of_what_was_asked = refl

a_report_that_failed : status_number (report_status (Err (reporting.Write (Some (NoUnit 3)))) None None) ≡ 5
a_report_that_failed = refl

-- ---- a setup file
-- the setup file of examples/live, in short
abbrev setup : Text
setup = codes "# Unit 1." ++ 10 ∷ codes "--a 127.0.0.1:30501" ++ 10 ∷ 10 ∷ codes "  --user   FEED " ++ 13 ∷ 10 ∷ codes "--ask"

its_words : setup_words setup ≡ codes "--a" ∷ codes "127.0.0.1:30501" ∷ codes "--user" ∷ codes "FEED" ∷ codes "--ask" ∷ []
unfolding chars trim_start trim_end encode
its_words = refl
