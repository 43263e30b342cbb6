-- The words are a form exactly where clap takes them and finds the form.
use Rattle.std.proofs.Common.{◌≡◌, ◌∙◌, ℕ, ◌≤◌, ◌-◌, ◌^◌, arith, Bool, true, false, refl, sym, ap, ap₂, subst, List, [], Option, Some, None, true≢false}
use Rattle.std.specs.Prelude.{IfSome, MatchOption, codes}
use Rattle.std.specs.List.{All, list_all}
use Rattle.std.specs.Str.{IsUtf8, bytes_eq}
use Rattle.std.proofs.lemmas.Slice.Eq.{bytes_eq-Decides}
use Rattle.clap.specs.Walk.{Row, first_of}
use Rattle.clap.specs.Simple.{subcommand_of}
use Rattle.clap.specs.Faults.{fault_of}
use Rattle.long_options.specs.Words.{Described, IsCall, Text}
use Rattle.long_options.specs.Plain.{described, has_dashes, is_plain}
use Rattle.long_options.specs.Found.{Options}
use Rattle.long_options.specs.layers.Finding.{found_options}
use Rattle.long_options.proofs.Program.{calls_taken, takes_calls}
use Rattle.pitch_fields.specs.Limits.{IsHoldLimit, most_held}
use Rattle.pitch_text.specs.Defaults.{default_hold}
use Rattle.pitch_words.specs.Numbers.{IsGivenNumber, IsGivenOr, IsGivenMaybe}
use Rattle.pitch_words.specs.Forms.{HasNumbers, IsCarried, IsForm, command_of}
use Rattle.pitch_words.specs.layers.Commands.{HasForm, IsInRange, commands, pitch}
use Rattle.pitch_words.specs.declared.form.Form.{Form}
use Rattle.pitch_words.specs.declared.form.Form.TheVariants as form
use Rattle.pitch_words.specs.declared.form.Form.TheVariants.{Stream, Storm, Drill, Demo, Audit}
use Rattle.pitch_words.specs.declared.form.Carried.{Carried}
use Rattle.pitch_words.specs.declared.form.Carried.TheVariants.{Bare, Capture}
use Rattle.pitch_words.specs.declared.form.StreamWords.TheVariants.{Follow, Show, Relay, Quotes}
use Rattle.pitch_words.specs.declared.form.TextWords.TheVariants.{Pack, Replay}

-- ---- a line for each form

-- a form's command is one of the program's
command_is : (form : Form) → described commands (command_of form).0 ≡ Some (command_of form)
command_is (Stream carried (Follow hold)) = refl
command_is (Stream carried Show) = refl
command_is (Stream carried (Relay hold)) = refl
command_is (Stream carried (Quotes hold)) = refl
command_is (form.Text (Pack unit)) = refl
command_is (form.Text (Replay workers)) = refl
command_is (Storm number units steps workers) = refl
command_is (Drill number units count) = refl
command_is (Demo number count) = refl
command_is Audit = refl

given_or_same : (default least most : ℕ) (o : Option Text) (m n : ℕ) → IsGivenOr default least most o m → IsGivenOr default least most o n → m ≡ n
given_or_same default least most None m n a b = a ∙ sym b
given_or_same default least most (Some t) m n a b = sym a.2 ∙ b.2

given_same : (least most : ℕ) (o : Option Text) (m n : ℕ) → IsGivenNumber least most o m → IsGivenNumber least most o n → m ≡ n
given_same least most None m n a b = absurd a
given_same least most (Some t) m n a b = sym a.2 ∙ b.2

maybe_same : (least most : ℕ) (o : Option Text) (m n : Option ℕ) → IsGivenMaybe least most o m → IsGivenMaybe least most o n → m ≡ n
maybe_same least most None m n a b = a ∙ sym b
maybe_same least most (Some t) None n a b = absurd a
maybe_same least most (Some t) (Some m) None a b = absurd b
maybe_same least most (Some t) (Some m) (Some n) a b = ap (λ (k : ℕ). Some k) (sym a.2 ∙ b.2)

carried_same : (pcap : Bool) (port : Option Text) (a b : Carried) → IsCarried pcap port a → IsCarried pcap port b → a ≡ b
carried_same pcap port Bare Bare a b = refl
carried_same pcap port Bare (Capture q) a b = absurd (true≢false (sym b.0 ∙ a.0))
carried_same pcap port (Capture p) Bare a b = absurd (true≢false (sym a.0 ∙ b.0))
carried_same pcap port (Capture p) (Capture q) a b = ap Capture (maybe_same 0 65535 port p q a.1 b.1)

-- options have the numbers of one form of a command
numbers_same : (options : Options) (a b : Form) → bytes_eq (command_of a).0 (command_of b).0 ≡ true → HasNumbers options a → HasNumbers options b → a ≡ b
numbers_same options (Stream c (Follow m)) (Stream d (Follow n)) e a b =
    ap₂ (λ (x : Carried) (k : ℕ). Stream x (Follow k)) (carried_same (options.has (codes "pcap")) (options.value (codes "port")) c d a.0 b.0) (given_or_same default_hold 1 most_held (options.value (codes "hold")) m n a.1 b.1)
numbers_same options (Stream c Show) (Stream d Show) e a b =
    ap (λ (x : Carried). Stream x Show) (carried_same (options.has (codes "pcap")) (options.value (codes "port")) c d a.0 b.0)
numbers_same options (Stream c (Relay m)) (Stream d (Relay n)) e a b =
    ap₂ (λ (x : Carried) (k : ℕ). Stream x (Relay k)) (carried_same (options.has (codes "pcap")) (options.value (codes "port")) c d a.0 b.0) (given_or_same default_hold 1 most_held (options.value (codes "hold")) m n a.1 b.1)
numbers_same options (Stream c (Quotes m)) (Stream d (Quotes n)) e a b =
    ap₂ (λ (x : Carried) (k : ℕ). Stream x (Quotes k)) (carried_same (options.has (codes "pcap")) (options.value (codes "port")) c d a.0 b.0) (given_or_same default_hold 1 most_held (options.value (codes "hold")) m n a.1 b.1)
numbers_same options (form.Text (Pack m)) (form.Text (Pack n)) e a b =
    ap (λ (k : ℕ). form.Text (Pack k)) (given_same 1 255 (options.value (codes "unit")) m n a b)
numbers_same options (form.Text (Replay m)) (form.Text (Replay n)) e a b =
    ap (λ (k : ℕ). form.Text (Replay k)) (given_or_same 1 1 64 (options.value (codes "workers")) m n a b)
numbers_same options (Storm number units steps workers) (Storm number' units' steps' workers') e a b =
    ap (λ (n : ℕ). Storm n units steps workers) (given_same 0 (2 ^ 64 - 1) (options.value (codes "number")) number number' a.0 b.0)
    ∙ ap (λ (n : ℕ). Storm number' n steps workers) (given_same 1 16 (options.value (codes "units")) units units' a.1 b.1)
    ∙ ap (λ (n : ℕ). Storm number' units' n workers) (given_same 1 10000 (options.value (codes "steps")) steps steps' a.2 b.2)
    ∙ ap (λ (n : ℕ). Storm number' units' steps' n) (given_or_same 1 1 64 (options.value (codes "workers")) workers workers' a.3 b.3)
numbers_same options (Drill number units count) (Drill number' units' count') e a b =
    ap (λ (n : ℕ). Drill n units count) (given_same 0 (2 ^ 64 - 1) (options.value (codes "number")) number number' a.0 b.0)
    ∙ ap (λ (n : ℕ). Drill number' n count) (given_same 1 16 (options.value (codes "units")) units units' a.1 b.1)
    ∙ ap (λ (n : ℕ). Drill number' units' n) (given_same 1 100000 (options.value (codes "count")) count count' a.2 b.2)
numbers_same options (Demo number count) (Demo number' count') e a b =
    ap (λ (n : ℕ). Demo n count) (given_same 0 (2 ^ 64 - 1) (options.value (codes "number")) number number' a.0 b.0)
    ∙ ap (λ (n : ℕ). Demo number' n) (given_same 1 1000 (options.value (codes "count")) count count' a.1 b.1)
numbers_same options Audit Audit e a b = refl
numbers_same options _ (Stream d Show) e a b = cc
numbers_same options _ (form.Text (Pack n)) e a b = cc
numbers_same options _ _ e a b = cc

given_in_range : (least most : ℕ) (o : Option Text) (n : ℕ) → IsGivenNumber least most o n → (least ≤ n) × (n ≤ most)
given_in_range least most None n a = absurd a
given_in_range least most (Some t) n a = (a.3, a.4)

given_or_in_range : (default least most : ℕ) (o : Option Text) (n : ℕ) → (least ≤ default) × (default ≤ most) → IsGivenOr default least most o n → (least ≤ n) × (n ≤ most)
given_or_in_range default least most None n fits a = subst (λ (m : ℕ). (least ≤ m) × (m ≤ most)) (sym a) fits
given_or_in_range default least most (Some t) n fits a = (a.3, a.4)

hold_in_range : (o : Option Text) (n : ℕ) → IsGivenOr default_hold 1 most_held o n → IsHoldLimit n
hold_in_range o n a = given_or_in_range default_hold 1 most_held o n (omega arith, omega arith) a

workers_in_range : (o : Option Text) (n : ℕ) → IsGivenOr 1 1 64 o n → (1 ≤ n) × (n ≤ 64)
workers_in_range o n a = given_or_in_range 1 1 64 o n (omega arith, omega arith) a

-- a command without `--pcap` reads what nothing carries
bare : (port : Option Text) (carried : Carried) → IsCarried false port carried → carried ≡ Bare
bare port Bare a = refl
bare port (Capture p) a = absurd (true≢false (sym a.0))

-- the numbers of a form, among the options of its command, lie within their ranges
in_range : (rows : List Row) (form : Form) → HasNumbers (found_options (command_of form).1 rows) form → IsInRange form
in_range rows (Stream carried (Follow hold)) a = (tt, hold_in_range (first_of (codes "hold") rows) hold a.1)
in_range rows (Stream carried Show) a = (bare None carried a.0, tt)
in_range rows (Stream carried (Relay hold)) a = (bare None carried a.0, hold_in_range (first_of (codes "hold") rows) hold a.1)
in_range rows (Stream carried (Quotes hold)) a = (bare None carried a.0, hold_in_range (first_of (codes "hold") rows) hold a.1)
in_range rows (form.Text (Pack unit)) a = given_in_range 1 255 (first_of (codes "unit") rows) unit a
in_range rows (form.Text (Replay workers)) a = workers_in_range (first_of (codes "workers") rows) workers a
in_range rows (Storm number units steps workers) a =
    (given_in_range 1 16 (first_of (codes "units") rows) units a.1, given_in_range 1 10000 (first_of (codes "steps") rows) steps a.2, workers_in_range (first_of (codes "workers") rows) workers a.3)
in_range rows (Drill number units count) a =
    (given_in_range 1 16 (first_of (codes "units") rows) units a.1, given_in_range 1 100000 (first_of (codes "count") rows) count a.2)
in_range rows (Demo number count) a = given_in_range 1 1000 (first_of (codes "count") rows) count a.1
in_range rows Audit a = tt

-- ---- whatever the forms are

commands_plain : list_all is_plain commands ≡ true
commands_plain = refl

-- a form is taken by clap, which finds it
form_taken : (words : List Text) (form : Form) → IsForm words form → (fault_of pitch words ≡ []) × HasForm (subcommand_of pitch words) form × (has_dashes words ≡ false)
form_taken words form (given, call, numbers) =
    let (takes, finds, dashes) = calls_taken (codes "pitch") commands words (command_of form) given commands_plain (command_is form) call in
    let (rows, is, same) = finds in
    (takes, subst (λ found. HasForm found form) (sym is) (refl, subst (λ o. HasNumbers o form) (sym same) numbers), dashes)

same_command : (c d : Described) → described commands c.0 ≡ Some c → described commands d.0 ≡ Some d → c.0 ≡ d.0 → c ≡ d
same_command c d at_c at_d e = let both : Some c ≡ Some d = sym at_c ∙ ap (described commands) e ∙ at_d in cc

-- what clap takes and finds as a form is that form
form_found : (words : List Text) (form : Form) → All IsUtf8 words → has_dashes words ≡ false → fault_of pitch words ≡ [] → HasForm (subcommand_of pitch words) form → IsForm words form
form_found words form texts dashes takes h =
    let (c, given, found, call, finds) = takes_calls (codes "pitch") commands words commands_plain texts dashes takes in
    let (rows, is, same) = finds in
    let has : HasForm (Some (c.0, rows)) form = subst (λ x. HasForm x form) is h in
    let same_c : c ≡ command_of form = same_command c (command_of form) found (command_is form) has.0 in
    (given, subst (λ (x : Described). IsCall x words given) same_c call, subst (λ o. HasNumbers o form) (ap (λ (x : Described). found_options x.1 rows) (sym same_c) ∙ same) has.1)

has_same : (found : Option (Text × List Row)) (a b : Form) → HasForm found a → HasForm found b → a ≡ b
has_same None a b x y = absurd x
has_same (Some found) a b x y =
    let named : (command_of a).0 ≡ (command_of b).0 = sym x.0 ∙ y.0 in
    let same : command_of a ≡ command_of b = same_command (command_of a) (command_of b) (command_is a) (command_is b) named in
    numbers_same (found_options (command_of b).1 found.1) a b ((bytes_eq-Decides (command_of a).0 (command_of b).0).1 named)
    (subst (λ (c : Described). HasNumbers (found_options c.1 found.1) a) same x.1) y.1

pub at_most_one : (words : List Text) (a b : Form) → IsForm words a → IsForm words b → a ≡ b
at_most_one words a b x y = has_same (subcommand_of pitch words) a b (form_taken words a x).1 (form_taken words b y).1

-- ---- the three answers

abbrev IsNone : List Text → Type 0
IsNone words = (form : Form) → IsForm words form → ⊥

pub none_with_dashes : (words : List Text) (b : Bool) → b ≡ has_dashes words → b ≡ true → IsNone words
none_with_dashes words b is e form h = true≢false (sym e ∙ is ∙ (form_taken words form h).2)

pub none_refused : (words : List Text) → (fault_of pitch words ≡ [] → ⊥) → IsNone words
none_refused words fails form h = fails (form_taken words form h).0

pub as_found : (words : List Text) (texts : All IsUtf8 words) (b : Bool) (rows : Option (Text × List Row)) (r : Option Form) → b ≡ has_dashes words → b ≡ false
    → (fault_of pitch words ≡ []) × (rows ≡ subcommand_of pitch words) → MatchOption r ((form : Form) → HasForm rows form → ⊥) (HasForm rows) → MatchOption r (IsNone words) (IsForm words)
as_found words texts b rows None is e (takes, at) h = λ form f. h form (subst (λ x. HasForm x form) (sym at) (form_taken words form f).1)
as_found words texts b rows (Some form) is e (takes, at) h = form_found words form texts (sym is ∙ e) takes (subst (λ x. HasForm x form) at h)

pub found_in_range : (rows : Option (Text × List Row)) (r : Option Form) → MatchOption r ((form : Form) → HasForm rows form → ⊥) (HasForm rows) → IfSome r IsInRange
found_in_range rows None found = tt
found_in_range None (Some form) found = absurd found
found_in_range (Some rows) (Some form) found = in_range rows.1 form found.1
