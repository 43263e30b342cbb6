-- What a service hands out is of its run.
use Rattle.std.proofs.Common.{◌≡◌, ℕ, ◌≤◌, Bool, true, false, ◌||◌, List, [], ◌∷◌, ◌++◌, length, cond, nat_eq, Some, refl, sym, ap, ◌∙◌, subst, arith, append_assoc}
use Rattle.std.proofs.lemmas.Bool.{cond-true, cond-false}
use Rattle.std.proofs.lemmas.List.{append-nil}
use Rattle.std.specs.List.{AllByRecursion}
use Rattle.std.specs.Set.{is_member}
use Rattle.spin_server.proofs.Shelving.{seen_newest}
use Rattle.pitch_model.proofs.Advertising.{advertised_within, advertised_accept, advertised_advertise, newest_repeats, newest_is_advertised}
use mathlib.Core.List.{IsPrefix}
use Rattle.pitch_model.specs.Advertising.{Operation, Accept, Advertise, accepted_by, advertised_by, with_sequence, last_ten, newest_of}
use Rattle.pitch_model.specs.History.{Raw}
use Rattle.heard_items.specs.Datagrams.{IsPiece}
use Rattle.heard_items.proofs.Datagrams.{pieces_more}
use Rattle.gap_store.specs.Look.{View, look}
use Rattle.gap_store.specs.layers.Looking.{given, PacksRange}
use Rattle.gap_store.specs.declared.found.Found.TheVariants.{Kept}
use Rattle.spin_server.specs.Served.{is_served}
use Rattle.spin_server.specs.declared.lookup.Imaged.{Imaged}
use Rattle.spin_server.specs.declared.lookup.Imaged.TheVariants as answers
use Rattle.shared_unit.specs.layers.Answers.{AnswersImage}
use Rattle.shared_unit.specs.layers.Histories.{IsLegal, served_at}
use Rattle.shared_unit.proofs.Fronts.{prefix_length, prefix_trans}
use Rattle.venue_core.specs.Plan.{plan}
use Rattle.venue_core.proofs.PlanBooks.{plan_length}
use Rattle.drill_client.specs.layers.Following.{IsImageOf}
use Rattle.drill_client.proofs.Answering.{image_of_more, newest_there, image_is, range_pieces}
use Rattle.unit_threads.specs.layers.Publishing.{IsPlanned, HasAll}

-- the messages of a history of the run are the first of the plan
pub planned_prefix : (fixed : Bool) (messages : List Raw) (number unit count : ℕ) (history : List Operation) → IsPlanned fixed messages number unit count → IsLegal fixed messages history
    → IsPrefix (accepted_by history) (plan number unit count)
planned_prefix fixed messages number unit count history planned legal = subst (IsPrefix (accepted_by history)) planned.1 (legal planned.0)

-- a plan of equal numbers
pub course_plan : (number number' unit unit' count count' : ℕ) → number ≡ number' → unit ≡ unit' → count ≡ count' → plan number unit count ≡ plan number' unit' count'
course_plan number number' unit unit' count count' a b c = ap (λ (n : ℕ). plan n unit count) a ∙ ap (λ (u : ℕ). plan number' u count) b ∙ ap (plan number' unit') c

-- ---- Gaps
-- the datagrams of a range that is kept are pieces of a feed that begins with the messages
pub served_pieces : (now : View) (V : List Raw) (unit first count : ℕ) (before after : List (List ℕ)) → IsPrefix now.messages V → 1 ≤ first → 1 ≤ count → Kept ≡ look now first count
    → PacksRange unit first (given (look now first count) now first count) before after → before ≡ [] → AllByRecursion (IsPiece V unit) after
served_pieces now V unit first count before after prefix low some kept packs none =
    subst (λ (W : List Raw). AllByRecursion (IsPiece W unit) after) prefix.1 (pieces_more now.messages prefix.0 unit after (range_pieces now unit first count before after low some kept packs none))

-- ---- Images
-- an image that is handed out is that of all messages that begin with those of the history
pub served_image : (history : List Operation) (sequence : ℕ) (answer : Imaged) (before after : List Raw) → AnswersImage (served_at history) sequence answer before after
    → (V : List Raw) (orders : ℕ) → IsPrefix (accepted_by history) V → before ≡ [] → answer ≡ answers.Image orders → IsImageOf V (record { sequence = sequence; orders = orders; raws = after })
served_image history sequence answer before after looks V orders prefix none e =
    subst (λ (W : List Raw). IsImageOf W (record { sequence = sequence; orders = orders; raws = after })) prefix.1
    (image_of_more (accepted_by history) prefix.0 sequence orders after
    (image_is (served_at history) sequence answer looks.answer_is orders before after looks.given (advertised_within history) none e))

-- ---- The image of all
member_longer : (xs ys : List ℕ) (s : ℕ) → is_member nat_eq xs s ≡ true → is_member nat_eq (xs ++ ys) s ≡ true
member_longer [] ys s e = absurd (apart e)
  where
    apart : false ≡ true → ⊥
    apart e = cc
member_longer (x ∷ xs) ys s e = by (member_longer xs ys s) (nat_eq s x) refl
  where
    by : (is_member nat_eq xs s ≡ true → is_member nat_eq (xs ++ ys) s ≡ true) → (b : Bool) → nat_eq s x ≡ b → is_member nat_eq ((x ∷ xs) ++ ys) s ≡ true
    by later true t = ap (λ (b : Bool). b || is_member nat_eq (xs ++ ys) s) t
    by later false f = ap (λ (b : Bool). b || is_member nat_eq (xs ++ ys) s) f ∙ later (sym (ap (λ (b : Bool). b || is_member nat_eq xs s) f) ∙ e)

member_with : (xs : List ℕ) (n s : ℕ) → is_member nat_eq xs s ≡ true → is_member nat_eq (with_sequence xs n) s ≡ true
member_with xs n s e = by (is_member nat_eq xs n) refl
  where
    by : (b : Bool) → is_member nat_eq xs n ≡ b → is_member nat_eq (cond (is_member nat_eq xs n) xs (xs ++ n ∷ [])) s ≡ true
    by true t = ap (λ (l : List ℕ). is_member nat_eq l s) (cond-true (is_member nat_eq xs n) xs (xs ++ n ∷ []) t) ∙ e
    by false f = ap (λ (l : List ℕ). is_member nat_eq l s) (cond-false (is_member nat_eq xs n) xs (xs ++ n ∷ []) f) ∙ member_longer xs (n ∷ []) s e

-- what was advertised stays so
stays_advertised : (history rest : List Operation) (s : ℕ) → is_member nat_eq (advertised_by history) s ≡ true → is_member nat_eq (advertised_by (history ++ rest)) s ≡ true
stays_advertised history [] s e = ap (λ (h : List Operation). is_member nat_eq (advertised_by h) s) (append-nil history) ∙ e
stays_advertised history (Accept raw ∷ rest) s e =
    let step : is_member nat_eq (advertised_by (history ++ Accept raw ∷ [])) s ≡ true = ap (λ (l : List ℕ). is_member nat_eq l s) (advertised_accept history raw) ∙ e in
    subst (λ (h : List Operation). is_member nat_eq (advertised_by h) s ≡ true) (append_assoc history (Accept raw ∷ []) rest) (stays_advertised (history ++ Accept raw ∷ []) rest s step)
stays_advertised history (Advertise ∷ rest) s e =
    let step : is_member nat_eq (advertised_by (history ++ Advertise ∷ [])) s ≡ true = ap (λ (l : List ℕ). is_member nat_eq l s) (advertised_advertise history) ∙ member_with (advertised_by history) (length (accepted_by history)) s e in
    subst (λ (h : List Operation). is_member nat_eq (advertised_by h) s ≡ true) (append_assoc history (Advertise ∷ []) rest) (stays_advertised (history ++ Advertise ∷ []) rest s step)

accepted_longer : (history rest : List Operation) → length (accepted_by history) ≤ length (accepted_by (history ++ rest))
accepted_longer [] rest = omega arith
accepted_longer (Accept raw ∷ history) rest = let e = accepted_longer history rest in omega (arith, e)
accepted_longer (Advertise ∷ history) rest = accepted_longer history rest

-- a server that was told of all serves the image of all
pub serves_all : (old now : List Operation) (number unit count : ℕ) → HasAll old number unit count → IsPrefix old now → IsPrefix (accepted_by now) (plan number unit count)
    → is_served (served_at now) count ≡ true
serves_all old now number unit count has later legal =
    let begins = prefix_trans has.told old now has.begins later in
    let told_count : length (accepted_by has.told) ≡ count = ap (λ (V : List Raw). length V) has.accepted ∙ plan_length number unit count in
    let longer : length (accepted_by has.told) ≤ length (accepted_by now) = subst (λ (h : List Operation). length (accepted_by has.told) ≤ length (accepted_by h)) begins.1 (accepted_longer has.told begins.0) in
    let most = prefix_length (accepted_by now) (plan number unit count) legal in
    let size = plan_length number unit count in
    let is : length (accepted_by now) ≡ count = omega (arith, told_count, longer, most, size) in
    let there : is_member nat_eq (advertised_by now) count ≡ true = subst (λ (h : List Operation). is_member nat_eq (advertised_by h) count ≡ true) begins.1 (stays_advertised has.told begins.0 count has.advertised) in
    let newest : newest_of (advertised_by now) ≡ Some count = subst (λ (n : ℕ). newest_of (advertised_by now) ≡ Some n) is (newest_repeats now (subst (λ (n : ℕ). is_member nat_eq (advertised_by now) n ≡ true) (sym is) there)) in
    newest_there (last_ten (advertised_by now)) count (newest_is_advertised (last_ten (advertised_by now)) count (seen_newest now ∙ newest))
