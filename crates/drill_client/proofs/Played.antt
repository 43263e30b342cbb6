-- What a drill on one thread does with each command, step by step.
use Rattle.std.proofs.Common.{◌≡◌, ℕ, zero, suc, ◌+◌, ◌-◌, ◌≤◌, Bool, true, false, cond, List, [], ◌∷◌, refl, sym, ap, ◌∙◌, subst, arith}
use Rattle.pitch_model.specs.Advertising.{with_sequence}
use Rattle.pitch_model.specs.History.{Entry, Raw, GrpUp, SpinUp, Advertised}
use Rattle.unit_market.specs.Views.{image_view}
use Rattle.venue_core.specs.Losses.{is_lost}
use Rattle.venue_core.specs.Plan.{plan}
use Rattle.client_core.specs.declared.client.UnitClient.{UnitClient}
use Rattle.drill_client.specs.layers.Following.{Follows}
use Rattle.drill_client.specs.layers.Answered.{last_kept, heard_of_copy}
use Rattle.drill_client.specs.layers.Played.{command_datagrams, is_round, with_round}
use Rattle.drill_client.specs.layers.Played.{advertised_through, heard_on_line, heard_of_round}
use Rattle.drill_client.specs.layers.Played.{heard_of_command, counted_with, counted_through}
use Rattle.drill_client.specs.layers.Played.{plain_history}

-- ---- Rounds
module _ (index count : ℕ) where
  pub no_round : (advertised : List ℕ) → is_round index count ≡ false → with_round advertised index count ≡ advertised
  no_round advertised off = ap (λ (b : Bool). cond b (with_sequence advertised index) advertised) off

  pub round_done : (advertised : List ℕ) → is_round index count ≡ true → with_round advertised index count ≡ with_sequence advertised index
  round_done advertised on = ap (λ (b : Bool). cond b (with_sequence advertised index) advertised) on

  pub round_unheard : (client : UnitClient) (H : ℕ) (V : List Raw) (E : List Entry) → is_round index count ≡ false → Follows client H V E → Follows client H V (heard_of_round index count E)
  round_unheard client H V E off f = subst (λ (b : Bool). Follows client H V (cond b (Advertised index ∷ E) E)) (sym off) f

  pub round_heard : (client : UnitClient) (H : ℕ) (V : List Raw) (E : List Entry) (sequence : ℕ) → is_round index count ≡ true → sequence ≡ index → Follows client H V (Advertised sequence ∷ E) → Follows client H V (heard_of_round index count E)
  round_heard client H V E sequence on is f =
      subst (λ (b : Bool). Follows client H V (cond b (Advertised index ∷ E) E)) (sym on) (subst (λ (n : ℕ). Follows client H V (Advertised n ∷ E)) is f)

-- ---- Lines
pub on_line : (client : UnitClient) (V : List Raw) (E : List Entry) (number unit count index line heard : ℕ) (lost : Bool) (datagrams : List (List ℕ)) → lost ≡ is_lost number unit index line → datagrams ≡ command_datagrams number unit index
    → Follows client 4096 V (heard_of_copy (last_kept (plan number unit index)) (image_view (plan number unit index) (advertised_through count (index - 1))) unit 4096 heard lost datagrams E)
    → Follows client 4096 V (heard_on_line number unit count index line heard E)
unfolding heard_on_line
on_line client V E number unit count index line heard lost datagrams is are f =
    let copy : Bool → List (List ℕ) → List Entry = λ (b : Bool) (ds : List (List ℕ)). heard_of_copy (last_kept (plan number unit index)) (image_view (plan number unit index) (advertised_through count (index - 1))) unit 4096 heard b ds E in
    subst (λ (b : Bool). Follows client 4096 V (copy b (command_datagrams number unit index))) is
    (subst (λ (ds : List (List ℕ)). Follows client 4096 V (copy lost ds)) are f)

-- ---- Commands
pub rounds_begin : (count : ℕ) → advertised_through count 0 ≡ []
unfolding advertised_through
rounds_begin count = refl

pub rounds_next : (count index : ℕ) → 1 ≤ index → with_round (advertised_through count (index - 1)) index count ≡ advertised_through count index
unfolding advertised_through
rounds_next count (suc index) low =
    let e : suc index - 1 ≡ index = omega arith in
    ap (λ (n : ℕ). with_round (advertised_through count n) (suc index) count) e
rounds_next count zero low = absurd (omega (arith, low))

pub count_begins : (number unit : ℕ) → counted_through number unit 0 ≡ 0
unfolding counted_through
count_begins number unit = refl

pub count_next : (number unit index heard : ℕ) → heard ≡ counted_through number unit index → counted_with number unit (index + 1) heard ≡ counted_through number unit (index + 1)
unfolding counted_through
count_next number unit index heard is =
    let e : index + 1 ≡ suc index = omega arith in
    ap (λ (n : ℕ). counted_with number unit (index + 1) n) is
    ∙ ap (λ (n : ℕ). counted_with number unit n (counted_through number unit index)) e
    ∙ ap (λ (n : ℕ). counted_through number unit n) (sym e)

pub history_begins : (number unit count : ℕ) → plain_history number unit count 0 ≡ SpinUp ∷ GrpUp ∷ []
unfolding plain_history
history_begins number unit count = refl

pub history_next : (number unit count index heard : ℕ) → heard ≡ counted_through number unit index
    → heard_of_command number unit count (index + 1) heard (plain_history number unit count index) ≡ plain_history number unit count (index + 1)
unfolding plain_history
history_next number unit count index heard is =
    let e : index + 1 ≡ suc index = omega arith in
    ap (λ (n : ℕ). heard_of_command number unit count (index + 1) n (plain_history number unit count index)) is
    ∙ ap (λ (n : ℕ). heard_of_command number unit count n (counted_through number unit index) (plain_history number unit count index)) e
    ∙ ap (λ (n : ℕ). plain_history number unit count n) (sym e)
