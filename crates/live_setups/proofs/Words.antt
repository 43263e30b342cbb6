-- A run is made of what the words ask for.
use Rattle.std.proofs.Common.{◌≡◌, ◌∙◌, ◌<◌, ◌≤◌, ◌++◌, ◌==◌, ℕ, true, false, List, [], ◌∷◌, length, map, Option, Some, None, codes, arith, ap, sym, subst, inl, inr}
use Rattle.std.specs.List.{AllByRecursion, IsDistinct, list_any}
use Rattle.std.proofs.Math.Dec.{eqb}
use Rattle.std.proofs.lemmas.Bool.{cases_eq}
use Rattle.std.proofs.lemmas.Bool.Decides.{nat_tests}
use Rattle.std.proofs.lemmas.List.{length-append, length-map}
use Rattle.std.proofs.lemmas.Map.Steps.{length-le_from_distinct_below}
use Rattle.clap.specs.Simple.{subcommand_of}
use Rattle.clap.specs.Walk.{Row, first_of}
use Rattle.long_options.specs.Words.{Text}
use Rattle.pitch_fields.specs.Limits.{most_held}
use Rattle.pitch_text.specs.Defaults.{default_hold, default_kept}
use Rattle.pitch_words.specs.Numbers.{IsGivenOr}
use Rattle.sending_end.specs.declared.session.Session.TheVariants.{Proxy, SpinServer}
use Rattle.live_words.specs.Asked.{HasAsked, pitch_live}
use Rattle.live_words.specs.Options.{AreNamed, IsServerText, are_apart, units_of}
use Rattle.live_words.specs.Serving.{most_kept, unit_of}
use Rattle.live_words.specs.Trials.{IsPlan}
use Rattle.live_words.specs.declared.listen_words.ListenWords.{ListenWords}
use Rattle.live_words.specs.declared.listen_words.Server.{Server}
use Rattle.live_words.specs.declared.serve_words.ServeWords.{ServeWords}
use Rattle.live_words.specs.declared.trial_words.PlanWords.{PlanWords}
use Rattle.live_words.specs.declared.words.Asked.TheVariants.{Listen, Serve}
use Rattle.live_setups.specs.Hearing.{CanBeHeard, peer_by, ports_of}
use Rattle.live_setups.specs.Serving.{CanBeServed, CanPlan}
use Rattle.live_setups.specs.Laws.{WordsAreHeard, WordsAreServed}

-- a number that is given, and its default, lie within its range
within : (default most : ℕ) → 1 ≤ default → default ≤ most → (text : Option Text) (n : ℕ) → IsGivenOr default 1 most text n → (1 ≤ n) × (n ≤ most)
within default most low high (Some text) n is = let (digits, short, value, least, up) = is in (least, up)
within default most low high None n is = (subst (λ (m : ℕ). 1 ≤ m) (sym is) low, subst (λ (m : ℕ). m ≤ most) (sym is) high)

-- ---- the servers of a kind: each is of another unit, so they are few
none_equal : (unit : ℕ) (others : List ℕ) → list_any (λ other. other == unit) others ≡ false → AllByRecursion (λ other. eqb unit other ≡ false) others
none_equal unit [] none = tt
none_equal unit (first ∷ others) none = (grind (arith, nat_tests), none_equal unit others (grind arith))

distinct : (units : List ℕ) → are_apart units ≡ true → IsDistinct eqb units
unfolding IsDistinct
distinct [] apart = tt
distinct (unit ∷ others) apart = (none_equal unit others (grind arith), distinct others (grind arith))

below : (texts : List Text) (servers : List Server) → AreNamed IsServerText texts servers → (unit : ℕ) → list_any (eqb unit) (units_of servers) ≡ true → unit < 256
below [] [] named unit is = grind arith
below [] (server ∷ servers) named unit is = absurd named
below (text ∷ texts) [] named unit is = absurd named
below (text ∷ texts) (server ∷ servers) named unit is = elim (cases_eq unit server.unit) [
  | inl same ↦ let (digits, short, value, least, most) = named.0.unit in omega arith
  | inr differ ↦ below texts servers named.1 unit (grind (arith, nat_tests))
]

few_servers : (texts : List Text) (servers : List Server) → AreNamed IsServerText texts servers → are_apart (units_of servers) ≡ true → length servers ≤ 256
few_servers texts servers named apart =
    let few = length-le_from_distinct_below (units_of servers) 256 (distinct (units_of servers) apart) (below texts servers named) in
    let same = length-map servers (λ (server : Server). server.unit) in
    omega arith

-- ---- what is heard
heard_by : (found : Option (Text × List Row)) (asked : ListenWords) → HasAsked found (Listen asked) → length (ports_of asked.lines) ≤ 65535 → CanBeHeard asked
heard_by None asked is few = absurd is
heard_by (Some found) asked is few =
    let lines = asked.lines in
    let servers = asked.servers in
    let some = is.1.lines.some in
    let asks = is.1.servers.asks in
    let apart_grp : are_apart (units_of servers.grp.items) ≡ true = grind arith in
    let apart_spin : are_apart (units_of servers.spin.items) ≡ true = grind arith in
    let grp = few_servers _ servers.grp.items is.1.servers.grp apart_grp in
    let spin = few_servers _ servers.spin.items is.1.servers.spin apart_spin in
    let a = length-append lines.a.items (lines.b.items ++ lines.gap.items) in
    let b = length-append lines.b.items lines.gap.items in
    let peers = length-append (map (peer_by Proxy) servers.grp.items) (map (peer_by SpinServer) servers.spin.items) in
    let proxies = length-map servers.grp.items (peer_by Proxy) in
    let spins = length-map servers.spin.items (peer_by SpinServer) in
    record {
      some = omega arith;
      lines = few;
      peers = omega arith;
      hold = within default_hold most_held (omega arith) (omega arith) (first_of (codes "hold") found.1) asked.hold is.1.hold;
    }

pub are_heard : WordsAreHeard
are_heard words asked is few = heard_by (subcommand_of pitch_live words) asked is.found few

-- ---- what is served
plan_within : (number count rate : Option Text) (plan : Option PlanWords) (units : ℕ) → 0 < units → IsPlan number count rate plan → CanPlan units plan
plan_within number count rate None units some is = tt
plan_within (Some number) (Some count) rate (Some plan) units some is =
    let (digits, short, value, least, most) = is.1 in (some, most)
plan_within (Some number) None rate (Some plan) units some is = absurd is
plan_within None (Some count) rate (Some plan) units some is = absurd is
plan_within None None (Some rate) (Some plan) units some is = absurd is
plan_within None None None (Some plan) units some is = absurd is

served_by : (found : Option (Text × List Row)) (asked : ServeWords) → HasAsked found (Serve asked) → CanBeServed asked
served_by None asked is = absurd is
served_by (Some found) asked is =
    let places = is.1.units.places in
    let serves = is.1.units.serves in
    let units : length asked.units.items ≡ length places.a.items =
    ap length is.1.units.are ∙ length-map places.a.items (unit_of places) in
    let lines = length-map places.a.items (λ (server : Server). server.unit) in
    let some : 0 < length (units_of places.a.items) = grind (arith, nat_tests) in
    let few : length (units_of places.a.items) ≤ 64 = grind (arith, nat_tests) in
    record {
      few = omega arith;
      keeps = within default_kept most_kept (omega arith) (omega arith) (first_of (codes "kept") found.1) asked.kept is.1.kept;
      plan = plan_within (first_of (codes "plan") found.1) (first_of (codes "count") found.1) (first_of (codes "rate") found.1) asked.trial.plan (length asked.units.items) (omega arith) is.1.trial.plan;
    }

pub are_served : WordsAreServed
are_served words asked is = served_by (subcommand_of pitch_live words) asked is.found
