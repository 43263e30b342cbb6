-- What a client hears of what it asked for.
use Rattle.std.proofs.Common.{◌≡◌, ℕ, ◌+◌, ◌≤◌, ◌<◌, ◌&&◌, Bool, true, false, nat_lt, List, [], ◌∷◌, ◌++◌, Option, None, inl, inr, ◌⊎◌, refl, sym, ap, ◌∙◌, subst, arith}
use Rattle.std.proofs.lemmas.Bool.{cases_lt}
use Rattle.std.proofs.lemmas.Bool.Decides.{nat_tests}
use Rattle.gap_store.proofs.OneView.{one_view}
use Rattle.unit_packets.specs.Packing.{packed}
use Rattle.pitch_model.specs.Asking.{ask_of}
use Rattle.pitch_model.specs.History.{Entry, Raw, Ticked, GapReply, SpinReply, adds}
use Rattle.pitch_model.specs.Image.{image}
use Rattle.pitch_model.specs.declared.ask.Ask.{Ask}
use Rattle.gap_store.specs.Look.{View, Store, store_of, look, slice_of}
use Rattle.gap_store.specs.layers.Looking.{given, IsLater, PacksRange}
use Rattle.gap_store.specs.declared.found.Found.{Found}
use Rattle.gap_store.specs.declared.found.Found.TheVariants.{Kept}
use Rattle.spin_server.specs.Served.{Served, is_served}
use Rattle.client_core.specs.declared.client.UnitClient.{UnitClient}
use Rattle.drill_client.specs.layers.Following.{Follows, heard_datagrams, imaged_whole}
use Rattle.drill_client.specs.layers.Answered.{with_tick, tick_ask, is_found, keeps_range}
use Rattle.drill_client.specs.layers.Answered.{heard_of_gap, heard_of_spin, heard_of_ask}
use Rattle.drill_client.specs.layers.Answered.{heard_of_copy}

-- ---- Ranges
pub range_kept : (v : View) (first count : ℕ) → 1 ≤ first → 1 ≤ count → Kept ≡ look v first count → keeps_range v first count ≡ true
range_kept v first count low some kept =
    let a : nat_lt 0 first ≡ true = grind (arith, nat_tests, low) in
    let b : nat_lt 0 count ≡ true = grind (arith, nat_tests, some) in
    rw (a, b) (sym (ap is_found kept))

pub range_gone : (v : View) (first count : ℕ) (found : Found) → is_found found ≡ false → found ≡ look v first count → keeps_range v first count ≡ false
range_gone v first count found gone is = by (nat_lt 0 first && nat_lt 0 count)
  where
    by : (b : Bool) → (b && is_found (look v first count)) ≡ false
    by true = sym (ap is_found is) ∙ gone
    by false = refl

pub range_from_none : (v : View) (first count : ℕ) → first ≡ 0 → keeps_range v first count ≡ false
range_from_none v first count e = rw e refl

pub range_of_none : (v : View) (first count : ℕ) → count ≡ 0 → keeps_range v first count ≡ false
range_of_none v first count e = rw e (by (nat_lt 0 first))
  where
    by : (b : Bool) → ((b && false) && is_found (look v first 0)) ≡ false
    by true = refl
    by false = refl

-- what is handed out is the packing of the range
pub range_packed : (v now : View) (unit first count : ℕ) (before after : List (List ℕ)) → PacksRange unit first (given (look v first count) v first count) before after → before ≡ [] → Kept ≡ look v first count → v ≡ now
    → after ≡ packed unit first (slice_of now first count)
range_packed v now unit first count before after packs none kept is =
    packs.appended
    ∙ ap (λ (ds : List (List ℕ)). ds ++ packed unit first (given (look v first count) v first count)) none
    ∙ ap (λ (f : Found). packed unit first (given f v first count)) (sym kept)
    ∙ ap (λ (w : View). packed unit first (slice_of w first count)) is

-- a store that nobody pushes to is looked up at its one view
pub kept_is : (s s' : Store) (v now : View) → s ≡ store_of v → s' ≡ s → s' ≡ store_of now → IsLater v now → now ≡ v
kept_is s s' v now keeps same shows later = one_view v now later (ap (λ (t : Store). t.pushed) (sym shows ∙ same ∙ keeps))

-- ---- What is heard
module _ (client : UnitClient) (H : ℕ) (V : List Raw) (E : List Entry) where
  pub heard_range : (v : View) (unit first count : ℕ) (datagrams : List (List ℕ)) → keeps_range v first count ≡ true → datagrams ≡ packed unit first (slice_of v first count)
      → Follows client H V (heard_datagrams datagrams (GapReply true ∷ E)) → Follows client H V (heard_of_gap v unit first count E)
  heard_range v unit first count datagrams kept whole f = rw kept (subst (λ (ds : List (List ℕ)). Follows client H V (heard_datagrams ds (GapReply true ∷ E))) whole f)

  pub heard_refusal : (v : View) (unit first count : ℕ) → keeps_range v first count ≡ false → Follows client H V (GapReply false ∷ E) → Follows client H V (heard_of_gap v unit first count E)
  heard_refusal v unit first count gone f = rw gone f

  pub heard_image : (v : Served) (sequence orders : ℕ) (raws : List Raw) → is_served v sequence ≡ true → raws ≡ image v.messages sequence → orders ≡ adds raws
      → Follows client H V (imaged_whole sequence orders raws E) → Follows client H V (heard_of_spin v sequence E)
  heard_image v sequence orders raws served are promised f =
      rw served (subst (λ (rs : List Raw). Follows client H V (imaged_whole sequence (adds rs) rs E)) are (subst (λ (n : ℕ). Follows client H V (imaged_whole sequence n raws E)) promised f))

  pub heard_no_image : (v : Served) (sequence : ℕ) → is_served v sequence ≡ false → Follows client H V (SpinReply sequence 0 false ∷ E) → Follows client H V (heard_of_spin v sequence E)
  heard_no_image v sequence none f = rw none f

  -- a copy that is not lost
  pub heard_copy : (gaps : View) (images : Served) (unit heard : ℕ) (lost : Bool) (datagrams : List (List ℕ)) (ask : Option Ask) → lost ≡ false → ask ≡ tick_ask H heard (heard_datagrams datagrams E)
      → Follows client H V (heard_of_ask gaps images unit ask (with_tick H heard (heard_datagrams datagrams E))) → Follows client H V (heard_of_copy gaps images unit H heard lost datagrams E)
  heard_copy gaps images unit heard lost datagrams ask comes asked f =
      rw comes (subst (λ (a : Option Ask). Follows client H V (heard_of_ask gaps images unit a (with_tick H heard (heard_datagrams datagrams E)))) asked f)

-- ---- Ticks
-- a datagram that is counted: what is asked, and the history then
pub counted : (old new : UnitClient) (n n' : ℕ) (ask : Option Ask) → (n < 9 → (n' ≡ n + 1) × (ask ≡ None) × (new ≡ old))
    → (9 ≤ n → (V : List Raw) (H : ℕ) (E : List Entry) → Follows old H V E → (ask ≡ ask_of H E) × Follows new H V (Ticked ask ∷ E)) → (V : List Raw) (H : ℕ) (E : List Entry) → Follows old H V E
    → (ask ≡ tick_ask H n E) × Follows new H V (with_tick H n E)
counted old new n n' ask more asks V H E f = by (cases_lt n 9)
  where
    by : (n < 9) ⊎ (9 ≤ n) → (ask ≡ tick_ask H n E) × Follows new H V (with_tick H n E)
    by (inl low) = let t : nat_lt n 9 ≡ true = grind (arith, nat_tests, low) in rw t ((more low).1, subst (λ (c : UnitClient). Follows c H V E) (sym (more low).2) f)
    by (inr high) =
        let t : nat_lt n 9 ≡ false = grind (arith, nat_tests, high) in
        let then = asks high V H E f in
        rw t (then.0, subst (λ (a : Option Ask). Follows new H V (Ticked a ∷ E)) then.0 then.1)
