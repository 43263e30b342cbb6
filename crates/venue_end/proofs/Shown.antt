-- Every Spin Server saw the venue's messages alone.
use Rattle.std.proofs.Common.{◌≡◌, ℕ, zero, suc, ◌-◌, ◌≤◌, ◌==◌, Bool, true, false, cond, List, [], ◌∷◌, ◌++◌, length, map, drop, replicate, Option, Some, None, refl, sym, ap, ◌∙◌, subst, arith, append_assoc, length-append}
use Rattle.std.proofs.lemmas.List.{append-nil}
use Rattle.std.specs.List.{AllByRecursion}
use Rattle.std.specs.Set.{is_member}
use Rattle.std.specs.Prelude.{nat_eq}
use Rattle.pitch_fields.proofs.Lists.{all_follows}
use Rattle.pitch_model.specs.Advertising.{with_sequence}
use Rattle.pitch_model.specs.History.{Raw}
use Rattle.pitch_text.specs.declared.command.Command.{Command}
use Rattle.venue_core.specs.Commands.{raw_of}
use Rattle.venue_core.specs.Refusals.{refusal}
use Rattle.venue_core.specs.declared.error.VenueError.{VenueError}
use Rattle.session_ends.specs.Events.{Event, Fed, Ticked, Asked, Pumped, Told}
use Rattle.session_ends.specs.Sending.{new_items}
use Rattle.spin_server.specs.Served.{Served}
use Rattle.spin_path.specs.Paths.{IsShown, MayServe}
use Rattle.unit_market.specs.Views.{image_view}
use Rattle.venue_end.specs.Came.{VenueCame, VenueState, Commanded, Flushed, Beaten, Advertised, ProxyMade, ProxyTook, ProxyPut, ProxyCut, SpinMade, SpinTook, SpinPumped, SpinPut, SpinCut, Second, AllCut, commanded_on, spin_fed, venue_after, venue_step}
use Rattle.venue_end.specs.layers.Laws.{IsShownTo, ImagesAreTheVenues}
use Rattle.venue_end.specs.Servers.{spin_says}
use Rattle.venue_end.specs.Sessions.{Session, at_session, without, with_new, new_session, happens_at, puts}
use Rattle.venue_end.specs.declared.setup.VenueSetup.{VenueSetup}

abbrev Spin : Type 0
Spin = Session (List Served)

-- what is kept: of the sessions, and of the sequences
record Shown (now : VenueState) : Type 0 where
  spins : AllByRecursion (IsShownTo now.messages) now.spins
  advertised : AllByRecursion (λ n. n ≤ length now.messages) now.advertised

-- ---- Lists
all_joined : {A : Type 0} (P : A → Type 0) (xs ys : List A) → AllByRecursion P xs → AllByRecursion P ys → AllByRecursion P (xs ++ ys)
all_joined P [] ys a b = b
all_joined P (x ∷ xs) ys a b = (a.0, all_joined P xs ys a.1 b)

all_dropped : {A : Type 0} (P : A → Type 0) (n : ℕ) (xs : List A) → AllByRecursion P xs → AllByRecursion P (drop n xs)
all_dropped P zero xs a = a
all_dropped P (suc n) [] a = tt
all_dropped P (suc n) (x ∷ xs) a = all_dropped P n xs a.1

all_same : {A : Type 0} (P : A → Type 0) (n : ℕ) (x : A) → P x → AllByRecursion P (replicate n x)
all_same P zero x a = tt
all_same P (suc n) x a = (a, all_same P n x a)

-- ---- Sessions
module _ (P : Spin → Type 0) where
  at_one : (id : ℕ) (f : Spin → Spin) → ((k : Spin) → P k → P (f k)) → (ks : List Spin) → AllByRecursion P ks → AllByRecursion P (at_session id f ks)
  at_one id f does [] are = tt
  at_one id f does (k ∷ ks) are = by (k.id == id) (at_one id f does ks are.1)
    where
      by : (b : Bool) → AllByRecursion P (at_session id f ks) → AllByRecursion P (cond b (f k ∷ ks) (k ∷ at_session id f ks))
      by true rest = (does k are.0, are.1)
      by false rest = (are.0, rest)

  but_one : (id : ℕ) (ks : List Spin) → AllByRecursion P ks → AllByRecursion P (without id ks)
  but_one id [] are = tt
  but_one id (k ∷ ks) are = by (k.id == id) (but_one id ks are.1)
    where
      by : (b : Bool) → AllByRecursion P (without id ks) → AllByRecursion P (cond b ks (k ∷ without id ks))
      by true rest = are.1
      by false rest = (are.0, rest)

  at_each : (f : Spin → Spin) → ((k : Spin) → P k → P (f k)) → (ks : List Spin) → AllByRecursion P ks → AllByRecursion P (map f ks)
  at_each f does [] are = tt
  at_each f does (k ∷ ks) are = (does k are.0, at_each f does ks are.1)

-- ---- More messages
shown_more : (V more : List Raw) (view : Served) → IsShown V view → IsShown (V ++ more) view
shown_more V more view is = record {
  more = is.more ++ more;
  messages_are = ap (λ (l : List Raw). l ++ more) is.messages_are ∙ append_assoc view.messages is.more more;
  within = is.within;
}

serves_more : (V more : List Raw) (event : Event (List Served)) → MayServe V event → MayServe (V ++ more) event
serves_more V more (Fed bytes views) may = all_follows (IsShown V) (IsShown (V ++ more)) (shown_more V more) views may
serves_more V more (Told n) may = omega (arith, may, length-append V more)
serves_more V more Ticked may = tt
serves_more V more (Asked request) may = tt
serves_more V more Pumped may = tt

shown_with : (V : List Raw) (raw : Raw) (now : VenueState) → now.messages ≡ V → Shown now → Shown (record now { messages = V ++ raw ∷ [] })
shown_with V raw now is shown = record {
  spins = all_follows (IsShownTo V) (IsShownTo (V ++ raw ∷ [])) (λ k. all_follows (MayServe V) (MayServe (V ++ raw ∷ [])) (serves_more V (raw ∷ [])) k.happened) now.spins (subst (λ (W : List Raw). AllByRecursion (IsShownTo W) now.spins) is shown.spins);
  advertised = all_follows (λ n. n ≤ length V) (λ n. n ≤ length (V ++ raw ∷ [])) (λ n le. omega (arith, le, length-append V (raw ∷ []))) now.advertised (subst (λ (W : List Raw). AllByRecursion (λ n. n ≤ length W) now.advertised) is shown.advertised);
}

-- ---- Each step
commanded : (r : Option VenueError) (command : Command) (now : VenueState) → Shown now → Shown (commanded_on r command now)
commanded (Some error) command now shown = shown
commanded None command now shown = shown_with now.messages (raw_of command) now refl shown

told : (advertised : List ℕ) (n : ℕ) → AllByRecursion (λ m. m ≤ n) advertised → AllByRecursion (λ m. m ≤ n) (with_sequence advertised n)
told advertised n are = by (is_member nat_eq advertised n)
  where
    by : (b : Bool) → AllByRecursion (λ m. m ≤ n) (cond b advertised (advertised ++ n ∷ []))
    by true = are
    by false = all_joined (λ m. m ≤ n) advertised (n ∷ []) are (omega arith, tt)

-- all sessions but these stay
spins_become : (now : VenueState) (spins : List Spin) → Shown now → AllByRecursion (IsShownTo now.messages) spins → Shown (record now { spins = spins })
spins_become now spins shown are = record { spins = are; advertised = shown.advertised }

seen : (now : VenueState) → Shown now → IsShown now.messages (image_view now.messages now.advertised)
seen now shown = record {
  more = [];
  messages_are = sym (append-nil now.messages);
  within = all_dropped (λ n. n ≤ length now.messages) (length now.advertised - 10) now.advertised shown.advertised;
}

step : (s : VenueSetup) (came : VenueCame) (now : VenueState) → Shown now → Shown (venue_step s came now)
step s (Commanded command) now shown = commanded (refusal now.messages command) command now shown
step s Flushed now shown = record { spins = shown.spins; advertised = shown.advertised }
step s Beaten now shown = shown
step s Advertised now shown = record {
  spins = at_each (IsShownTo now.messages) (happens_at (spin_says s) (Told (length now.messages))) (λ k may. (omega arith, may)) now.spins shown.spins;
  advertised = told now.advertised (length now.messages) shown.advertised;
}
step s (ProxyMade id) now shown = record { spins = shown.spins; advertised = shown.advertised }
step s (ProxyTook id bytes) now shown = record { spins = shown.spins; advertised = shown.advertised }
step s (ProxyPut id count) now shown = record { spins = shown.spins; advertised = shown.advertised }
step s (ProxyCut id) now shown = record { spins = shown.spins; advertised = shown.advertised }
step s (SpinMade id) now shown =
    spins_become now (with_new id now.spins) shown (all_joined (IsShownTo now.messages) (without id now.spins) (new_session id ∷ []) (but_one (IsShownTo now.messages) id now.spins shown.spins) (tt, tt))
step s (SpinTook id bytes) now shown = spins_become now (at_session id (spin_fed s now bytes) now.spins) shown
    (at_one (IsShownTo now.messages) id (spin_fed s now bytes) (λ k may. (all_same (IsShown now.messages) (length (new_items k.happened bytes)) (image_view now.messages now.advertised) (seen now shown), may)) now.spins shown.spins)
step s (SpinPumped id) now shown = spins_become now (at_session id (happens_at (spin_says s) Pumped) now.spins) shown (at_one (IsShownTo now.messages) id (happens_at (spin_says s) Pumped) (λ k may. (tt, may)) now.spins shown.spins)
step s (SpinPut id count) now shown = spins_become now (at_session id (puts count) now.spins) shown (at_one (IsShownTo now.messages) id (puts count) (λ k may. may) now.spins shown.spins)
step s (SpinCut id) now shown = spins_become now (without id now.spins) shown (but_one (IsShownTo now.messages) id now.spins shown.spins)
step s Second now shown = record { spins = at_each (IsShownTo now.messages) (happens_at (spin_says s) Ticked) (λ k may. (tt, may)) now.spins shown.spins; advertised = shown.advertised }
step s AllCut now shown = record { spins = tt; advertised = shown.advertised }

shown_after : (s : VenueSetup) (before : List VenueCame) → Shown (venue_after s before)
shown_after s [] = record { spins = tt; advertised = tt }
shown_after s (came ∷ before) = step s came (venue_after s before) (shown_after s before)

pub images_are_the_venues : ImagesAreTheVenues
images_are_the_venues s before = (shown_after s before).spins
