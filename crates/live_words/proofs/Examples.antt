-- Worked examples of which words ask for what.
use Rattle.std.proofs.Common.{◌≡◌, ◌<◌, ◌++◌, ◌^◌, ◌-◌, ℕ, true, false, List, [], ◌∷◌, length, Option, Some, None, Global, Vec, string_bytes, codes, refl, ap, ◌≤◌, arith, le_refl}
use Rattle.std.specs.declared.string.String.{String}
use Rattle.std.specs.List.{before_first, after_first, range_with_len}
use Rattle.std.specs.Str.Parse.{digits_value}
use Rattle.std.specs.Char.{digit_value}
use Rattle.std.specs.Fmt.{digits}
use Rattle.std.specs.declared.net.socket_addr.SocketAddr.{SocketAddr}
use Rattle.std.specs.declared.net.socket_addr.SocketAddr.TheVariants.{V4}
use Rattle.clap.specs.Faults.{walk_fault, defaults_fault}
use Rattle.clap.specs.Walk.{walked}
use Rattle.long_options.specs.Words.{Text}
use Rattle.live_words.specs.Options.{IsAccount, IsLoginWord, IsServerText, are_apart, can_ask, is_at}
use Rattle.live_words.specs.Serving.{can_serve}
use Rattle.live_words.specs.Asked.{IsAsked}
use Rattle.pitch_io.specs.declared.line.Line.TheVariants.{A, B, Gap}
use Rattle.pitch_words.specs.Numbers.{IsNumber}
use Rattle.live_words.specs.Trials.{AreShares, IsPlan, IsShareText, share_of}
use Rattle.live_words.specs.declared.serve_words.ServeWords.{ServeWords}
use Rattle.live_words.specs.declared.trial_words.PlanWords.{PlanWords}
use Rattle.live_words.specs.declared.trial_words.LineShare.{LineShare}
use Rattle.live_words.specs.declared.trial_words.ShareWords.{ShareWords}
use Rattle.live_words.specs.declared.words.Asked.{Asked}
use Rattle.live_words.specs.declared.words.Asked.TheVariants.{Listen, Serve}
use denote.RawPtr.{null_ptr}

-- a server's unit stands before the first `@`, and its address behind it
the_unit_is_before_it : before_first is_at (codes "7@10.0.0.5:1") ≡ codes "7"
the_unit_is_before_it = refl

the_address_is_behind_it : after_first is_at (codes "7@10.0.0.5:1") ≡ codes "10.0.0.5:1"
the_address_is_behind_it = refl

-- a word of a login is filled up with spaces
two_bytes_are_filled_up : IsLoginWord 4 (codes "AB") (65 ∷ 66 ∷ 32 ∷ 32 ∷ [])
two_bytes_are_filled_up = (omega arith, omega arith, refl)

-- none of its three words is given, and so there is no account
no_account : IsAccount None None None None
no_account = record {}

-- two units once each, and one of them twice
two_units : are_apart (1 ∷ 2 ∷ []) ≡ true
two_units = refl

one_unit_twice : are_apart (1 ∷ 2 ∷ 1 ∷ []) ≡ false
one_unit_twice = refl

-- a proxy and a Spin Server of one unit can be asked, but not without an account; without a server
-- none is wanted
both_of_a_unit : can_ask (1 ∷ []) (1 ∷ []) true ≡ true
both_of_a_unit = refl

not_without_an_account : can_ask (1 ∷ []) [] false ≡ false
not_without_an_account = refl

nobody_is_asked : can_ask [] [] false ≡ true
nobody_is_asked = refl

-- ---- serving
-- two units with their lines need no account, and a server does
lines_alone : can_serve (7 ∷ 8 ∷ []) (8 ∷ []) (7 ∷ 8 ∷ []) [] [] false ≡ true
lines_alone = refl

a_proxy_with_an_account : can_serve (7 ∷ 8 ∷ []) [] [] (8 ∷ []) [] true ≡ true
a_proxy_with_an_account = refl

a_proxy_without_one : can_serve (7 ∷ 8 ∷ []) [] [] (8 ∷ []) [] false ≡ false
a_proxy_without_one = refl

-- 1 to 64 units are served, each has one place of a kind at most, and there is none of others
no_unit : can_serve [] [] [] [] [] true ≡ false
no_unit = refl

sixty_four_units : can_serve (range_with_len 1 64) [] [] [] [] false ≡ true
sixty_four_units = refl

one_more : can_serve (range_with_len 1 65) [] [] [] [] false ≡ false
one_more = refl

a_unit_twice : can_serve (7 ∷ 7 ∷ []) [] [] [] [] true ≡ false
a_unit_twice = refl

two_lines_of_a_unit : can_serve (7 ∷ []) (7 ∷ 7 ∷ []) [] [] [] true ≡ false
two_lines_of_a_unit = refl

two_proxies_of_a_unit : can_serve (7 ∷ []) [] [] (7 ∷ 7 ∷ []) [] true ≡ false
two_proxies_of_a_unit = refl

a_gap_line_alone : can_serve (7 ∷ []) [] (8 ∷ []) [] [] true ≡ false
a_gap_line_alone = refl

a_server_alone : can_serve (7 ∷ []) [] [] [] (8 ∷ []) true ≡ false
a_server_alone = refl

-- words of `serve`, and what they ask for: a line A and a proxy of unit 7, an account, the limits
-- of an `open` that says none, an end 3 seconds after the input's, 50 commands of the number 7,
-- 1,000 a second, of a hundred datagrams 9 lost on line A and 8 on the gap line, by the number 1,
-- cuts each 6 seconds, and a report
abbrev words : List Text
words = codes "serve" ∷ codes "--a" ∷ codes "7@10.0.0.5:1" ∷ codes "--grp=7@10.0.0.5:2"
    ∷ codes "--sub=S" ∷ codes "--user" ∷ codes "U" ∷ codes "--password=P" ∷ codes "--after" ∷ codes "3"
    ∷ codes "--plan" ∷ codes "7" ∷ codes "--count=50" ∷ codes "--lose" ∷ codes "a:9" ∷ codes "--lose=gap:8"
    ∷ codes "--cut=6" ∷ codes "--report" ∷ codes "R" ∷ []

-- a port of 10.0.0.5
abbrev at : ℕ → SocketAddr
at port = V4 (record { ip = record { octets = 10 ∷ 0 ∷ 0 ∷ 5 ∷ [] }; port = port })

-- a vector of these elements
abbrev vec : {X : Type 0} → Global → (xs : List X) → length xs < 2 ^ 63 → Vec X Global
vec heap xs small = record { ptr = null_ptr; len = length xs; cap = length xs; alloc = heap; items = xs; ok = (refl, le_refl (length xs)); small = small }

-- no share is given of any line
abbrev none_harmed : ShareWords
none_harmed = record { a = 0; b = 0; gap = 0 }

abbrev asked : Global → String Global → ServeWords
asked heap name = record {
  units = vec heap (record { unit = 7; a = at 1; b = None; gap = None; grp = Some (at 2); spin = None } ∷ []) (omega arith);
  account = Some (record { sub = 83 ∷ 32 ∷ 32 ∷ 32 ∷ []; user = 85 ∷ 32 ∷ 32 ∷ 32 ∷ []; password = 80 ∷ 32 ∷ 32 ∷ 32 ∷ 32 ∷ 32 ∷ 32 ∷ 32 ∷ 32 ∷ 32 ∷ [] });
  kept = 65536;
  second = 10;
  minute = 100;
  day = 10000;
  seconds = None;
  after = Some 3;
  trial = record {
    plan = Some (record { number = 7; count = 50; rate = 1000 });
    harm = record {
      number = 1;
      lose = record { a = 9; b = 0; gap = 8 };
      repeat = none_harmed;
      swap = none_harmed;
      cut = Some 6;
    };
    report = Some name;
  };
}

-- a unit's place whose port is a digit
place : (c port : ℕ) → digit_value c < 10 → digits_value 10 (c ∷ []) ≡ port → port < 2 ^ 16 → IsServerText (codes "7@10.0.0.5:" ++ c ∷ []) (record { unit = 7; addr = at port })
unfolding digits
place c port digit value fits = record {
  has_at = omega arith;
  unit = ((omega arith, (omega arith, tt)), omega arith, refl, omega arith, omega arith);
  addr = (
    codes "10.0.0.5",
    codes ":" ++ c ∷ [],
    refl,
    record { a = 10; b = 0; c = 0; d = 5; fit = (omega arith, omega arith, omega arith, omega arith); value = refl; spelled = refl },
    (c ∷ [], refl, ((omega arith, (digit, tt)), value), fits),
  );
}

-- a number of one digit
one_digit : (c n least most : ℕ) → digit_value c < 10 → digits_value 10 (c ∷ []) ≡ n → least ≤ n → n ≤ most → IsNumber least most (c ∷ []) n
unfolding digits
one_digit c n least most digit value low high = ((omega arith, (digit, tt)), omega arith, value, low, high)

-- no texts give no shares
none_given : AreShares [] none_harmed
none_given = record { given = []; named = tt; are = record { a = refl; b = refl; gap = refl } }

they_ask_for_it : (heap : Global) (name : String Global) → string_bytes name ≡ codes "R" → IsAsked words (Serve (asked heap name))
unfolding walk_fault defaults_fault walked
they_ask_for_it heap name is = record {
  taken = refl;
  plain = refl;
  found = (
    refl,
    record {
      units = record {
        places = record {
          a = vec heap (record { unit = 7; addr = at 1 } ∷ []) (omega arith);
          b = vec heap [] (omega arith);
          gap = vec heap [] (omega arith);
          grp = vec heap (record { unit = 7; addr = at 2 } ∷ []) (omega arith);
          spin = vec heap [] (omega arith);
        };
        named = record {
          a = (place 49 1 (omega arith) refl (omega arith), tt);
          b = tt;
          gap = tt;
          grp = (place 50 2 (omega arith) refl (omega arith), tt);
          spin = tt;
        };
        serves = refl;
        are = refl;
      };
      account = (
        (omega arith, omega arith, refl),
        (omega arith, omega arith, refl),
        (omega arith, omega arith, refl),
      );
      kept = refl;
      second = refl;
      minute = refl;
      day = refl;
      seconds = refl;
      after = ((omega arith, (omega arith, tt)), omega arith, refl, omega arith, omega arith);
      trial = record {
        plan = (
          one_digit 55 7 0 (2 ^ 64 - 1) (omega arith) refl (omega arith) (omega arith),
          ((omega arith, (omega arith, (omega arith, tt))), omega arith, refl, omega arith, omega arith),
          refl,
        );
        harm = record {
          number = refl;
          lose = record {
            given = record { line = A; share = 9 } ∷ record { line = Gap; share = 8 } ∷ [];
            named = (
              record { has_colon = omega arith; line = refl; share = one_digit 57 9 0 100 (omega arith) refl (omega arith) (omega arith) },
              (record { has_colon = omega arith; line = refl; share = one_digit 56 8 0 100 (omega arith) refl (omega arith) (omega arith) }, tt),
            );
            are = record { a = refl; b = refl; gap = refl };
          };
          repeat = none_given;
          swap = none_given;
          cut = one_digit 54 6 1 (2 ^ 64 - 1) (omega arith) refl (omega arith) (omega arith);
        };
        report = ap Some is;
      };
    },
  );
}

-- a proxy keeps one message at least
none_kept : (asked : Asked) → IsAsked (codes "serve" ∷ codes "--a" ∷ codes "7@10.0.0.5:1" ∷ codes "--kept=0" ∷ []) asked → ⊥
unfolding walked
none_kept (Listen words) is = let e = is.found.0 in cc
none_kept (Serve words) is = let (digits, short, value, least, most) = is.found.1.kept in omega arith

-- ---- to try a handler
-- a plan is no plan without its count, and neither a count nor a rate is one
no_plan_without_a_count : (plan : Option PlanWords) → IsPlan (Some (codes "7")) None None plan → ⊥
no_plan_without_a_count plan is = is

no_count_alone : (plan : Option PlanWords) → IsPlan None (Some (codes "7")) None plan → ⊥
no_count_alone plan is = is

no_rate_alone : (plan : Option PlanWords) → IsPlan None None (Some (codes "7")) plan → ⊥
no_rate_alone plan is = is

-- of lines the one share that is given, none as 0, and no two
abbrev of_a_and_b : List LineShare
of_a_and_b = record { line = A; share = 5 } ∷ record { line = B; share = 7 } ∷ []

the_share_of_b : share_of B of_a_and_b ≡ Some 7
the_share_of_b = refl

no_share_of_the_gap_line : share_of Gap of_a_and_b ≡ Some 0
no_share_of_the_gap_line = refl

two_shares_of_a : share_of A (record { line = A; share = 5 } ∷ of_a_and_b) ≡ None
two_shares_of_a = refl

-- a share is of a hundred
not_101 : (of : LineShare) → IsShareText (codes "b:101") of → ⊥
not_101 of is = let (digits, short, value, least, most) = is.share in omega arith

-- a unit makes a command at least
not_no_command : (plan : Option PlanWords) → IsPlan (Some (codes "7")) (Some (codes "0")) None plan → ⊥
not_no_command None is = is
not_no_command (Some plan) is = let (digits, short, value, least, most) = is.1 in omega arith

-- no cut is at each moment
not_each_0_seconds : (cut : ℕ) → IsNumber 1 (2 ^ 64 - 1) (codes "0") cut → ⊥
not_each_0_seconds cut is = let (digits, short, value, least, most) = is in omega arith
