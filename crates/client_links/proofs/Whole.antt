-- However the bytes are cut: a cut never parts a run, since the messages of a block are said
-- together.
use Rattle.std.proofs.Common.{◌≡◌, ℕ, Bool, true, false, cond, ◌||◌, List, [], ◌∷◌, ◌++◌, length, refl, sym, ap, ◌∙◌, append_assoc, Option, Some, None, is_some, nat_eq}
use Rattle.std.specs.List.{list_any}
use Rattle.std.proofs.lemmas.List.{append-nil}
use Rattle.std.proofs.Math.Bool.{or-false}
use Rattle.unit_packets.specs.Blocks.{Block}
use Rattle.unit_packets.specs.Causes.{counted}
use Rattle.unit_packets.specs.Cutting.{blocks_of, rest_of, place_of}
use Rattle.unit_packets.specs.Feeding.{fed_fault}
use Rattle.unit_packets.specs.declared.header.BlockFault.{BlockFault}
use Rattle.unit_packets.proofs.Cuts.{appends}
use Rattle.heard_items.specs.declared.item.Item.{Item}
use Rattle.session_ends.specs.declared.closed.Closed.{Closed}
use Rattle.session_ends.specs.declared.inbox.Heard.{Heard}
use Rattle.session_ends.specs.declared.closed.CloseCause.TheVariants.{Sequenced}
use Rattle.session_ends.specs.declared.inbox.Heard.TheVariants.{Message, BlockEnd, Broken}
use Rattle.session_ends.specs.declared.role.Role.{Role}
use Rattle.session_ends.specs.declared.role.Role.TheVariants.{GrpServer, SpinServer, GapLink, SpinLink}
use Rattle.session_ends.specs.Closing.{Setup, cause_of, first_cause, or_else, closed_of, logged_in, logs_in}
use Rattle.session_ends.specs.Events.{Event, Fed, fed_of}
use Rattle.session_ends.specs.Items.{onward, block_size, block_items, messages_from, stream_items_from, stream_items, trouble}
use Rattle.session_ends.specs.Saying.{heard_by}
use Rattle.session_ends.specs.Sending.{new_items}
use Rattle.session_ends.proofs.Cuts.{new_cut, first_are}
use Rattle.session_ends.proofs.Ends.{new_are, closed_on, logged_on, no_trouble, still_items, bool_assoc}
use Rattle.session_ends.proofs.Inboxes.{items_more}
use Rattle.client_links.specs.Linking.{Lookups, NoLookup, link_tells, TellsOnce}
use Rattle.client_links.specs.Telling.{run_of, others, other_of, before_more, after_others, or_items, told_said, tells_on, tells, until}

-- the last of some messages ends a block, or there are none: `done` says so of what stood before
ends : Bool → List Heard → Bool
ends done [] = done
ends done (Message place raw ∷ items) = ends false items
ends done (BlockEnd ∷ items) = ends true items
ends done (Broken closed ∷ items) = ends true items

ends_append : (done : Bool) (xs ys : List Heard) → ends done (xs ++ ys) ≡ ends (ends done xs) ys
unfolding ends
ends_append done [] ys = refl
ends_append done (Message place raw ∷ xs) ys = ends_append false xs ys
ends_append done (BlockEnd ∷ xs) ys = ends_append true xs ys
ends_append done (Broken closed ∷ xs) ys = ends_append true xs ys

ends_messages : (done : Bool) (place : ℕ) (raws : List (List ℕ)) → ends done (messages_from place raws) ≡ true
unfolding ends
ends_messages done place [] = refl
ends_messages done place (raw ∷ raws) = ends_messages false (onward place (length raw)) raws

ends_block : (done : Bool) (place : ℕ) (block : Block) → ends done (block_items place block) ≡ true
unfolding ends
ends_block done place block = by (nat_eq block.sequence 0)
  where
    by : (b : Bool) → ends done (cond b (messages_from (onward place 8) block.raws) (Broken (record { cause = Sequenced; place = place }) ∷ [])) ≡ true
    by true = ends_messages done (onward place 8) block.raws
    by false = refl

ends_items : (place : ℕ) (blocks : List Block) → ends true (stream_items_from place blocks) ≡ true
unfolding ends
ends_items place [] = refl
ends_items place (block ∷ blocks) =
    ends_append true (block_items place block) (stream_items_from (onward place (block_size block)) blocks)
    ∙ ap (λ (b : Bool). ends b (stream_items_from (onward place (block_size block)) blocks)) (ends_block true place block)
    ∙ ends_items (onward place (block_size block)) blocks

ends_trouble : (o : Option BlockFault) → ends true (trouble o) ≡ true
unfolding ends
ends_trouble None = refl
ends_trouble (Some fault) = refl

-- ---- A run does not reach behind them
no_run : (role : Role) → run_of role [] ≡ []
no_run GrpServer = refl
no_run SpinServer = refl
no_run GapLink = refl
no_run SpinLink = refl

tells_none : (role : Role) → tells_on role [] [] ≡ []
tells_none role = append-nil (run_of role []) ∙ no_run role

-- another message joins the run
tells_other : (role : Role) (run : List (List ℕ)) (item : Heard) (items : List Heard) (raw : List ℕ) → other_of role item ≡ Some raw → tells_on role run (item ∷ items) ≡ tells_on role (run ++ raw ∷ []) items
tells_other role run item items raw is =
    ap (λ (o : Option (List ℕ)). run_of role (run ++ before_more o (others role items)) ++ or_items o (after_others role items) (told_said role (heard_by role item) ++ (run_of role (others role items) ++ after_others role items))) is
    ∙ ap (λ (l : List (List ℕ)). run_of role l ++ after_others role items) (sym (append_assoc run (raw ∷ []) (others role items)))

-- anything else ends it
tells_else : (role : Role) (run : List (List ℕ)) (item : Heard) (items : List Heard) → other_of role item ≡ None → tells_on role run (item ∷ items) ≡ run_of role run ++ (told_said role (heard_by role item) ++ tells_on role [] items)
tells_else role run item items is =
    ap (λ (o : Option (List ℕ)). run_of role (run ++ before_more o (others role items)) ++ or_items o (after_others role items) (told_said role (heard_by role item) ++ (run_of role (others role items) ++ after_others role items))) is
    ∙ ap (λ (l : List (List ℕ)). run_of role l ++ (told_said role (heard_by role item) ++ tells_on role [] items)) (append-nil run)

tells_step : (role : Role) (run : List (List ℕ)) (item : Heard) (done : Bool) (xs ys : List Heard)
    → ((r : List (List ℕ)) → (done ≡ true → r ≡ []) → tells_on role r (xs ++ ys) ≡ tells_on role r xs ++ tells_on role [] ys) → (o : Option (List ℕ)) → other_of role item ≡ o → (is_some o ≡ true → done ≡ false)
    → tells_on role run (item ∷ xs ++ ys) ≡ tells_on role run (item ∷ xs) ++ tells_on role [] ys
tells_step role run item done xs ys rest (Some raw) is off =
    tells_other role run item (xs ++ ys) raw is
    ∙ rest (run ++ raw ∷ []) (λ on. cc (on, off refl))
    ∙ ap (λ (l : List Item). l ++ tells_on role [] ys) (sym (tells_other role run item xs raw is))
tells_step role run item done xs ys rest None is off =
    tells_else role run item (xs ++ ys) is
    ∙ ap (λ (l : List Item). run_of role run ++ (told_said role (heard_by role item) ++ l)) (rest [] (λ on. refl))
    ∙ ap (λ (l : List Item). run_of role run ++ l) (sym (append_assoc (told_said role (heard_by role item)) (tells_on role [] xs) (tells_on role [] ys)))
    ∙ sym (append_assoc (run_of role run) (told_said role (heard_by role item) ++ tells_on role [] xs) (tells_on role [] ys))
    ∙ ap (λ (l : List Item). l ++ tells_on role [] ys) (sym (tells_else role run item xs is))

tells_append : (role : Role) (done : Bool) (run : List (List ℕ)) (xs ys : List Heard) → ends done xs ≡ true → (done ≡ true → run ≡ []) → tells_on role run (xs ++ ys) ≡ tells_on role run xs ++ tells_on role [] ys
unfolding ends
tells_append role done run [] ys e none =
    ap (λ (r : List (List ℕ)). tells_on role r ys) (none e)
    ∙ ap (λ (l : List Item). l ++ tells_on role [] ys) (sym (tells_none role))
    ∙ ap (λ (r : List (List ℕ)). tells_on role r [] ++ tells_on role [] ys) (sym (none e))
tells_append role done run (Message place raw ∷ xs) ys e none =
    tells_step role run (Message place raw) false xs ys (λ r empty. tells_append role false r xs ys e empty) (other_of role (Message place raw)) refl (λ h. refl)
tells_append role done run (BlockEnd ∷ xs) ys e none = tells_step role run BlockEnd true xs ys (λ r empty. tells_append role true r xs ys e empty) None refl (λ h. cc h)
tells_append role done run (Broken closed ∷ xs) ys e none = tells_step role run (Broken closed) true xs ys (λ r empty. tells_append role true r xs ys e empty) None refl (λ h. cc h)

-- ---- Up to the message that closes the link
until_append : (s : Setup) (logged : Bool) (xs ys : List Heard)
    → until s logged (xs ++ ys) ≡ until s logged xs ++ cond (is_some (first_cause s logged xs)) [] (until s (logged || list_any (logs_in s.role) xs) ys)
until_append s logged [] ys = ap (λ (b : Bool). until s b ys) (sym (or-false logged))
until_append s logged (x ∷ xs) ys = by (cause_of s logged x) (until_append s (logged || logs_in s.role x) xs ys)
  where
    on : Bool
    on = logged || logs_in s.role x

    by : (o : Option Closed) → until s on (xs ++ ys) ≡ until s on xs ++ cond (is_some (first_cause s on xs)) [] (until s (on || list_any (logs_in s.role) xs) ys)
        → x ∷ cond (is_some o) [] (until s on (xs ++ ys))
        ≡ x ∷ (cond (is_some o) [] (until s on xs) ++ cond (is_some (or_else o (first_cause s on xs))) [] (until s (logged || (logs_in s.role x || list_any (logs_in s.role) xs)) ys))
    by (Some c) h = refl
    by None h = ap (λ (l : List Heard). x ∷ l) (h ∙ ap (λ (b : Bool). until s on xs ++ cond (is_some (first_cause s on xs)) [] (until s b ys)) (sym (bool_assoc logged (logs_in s.role x) (list_any (logs_in s.role) xs))))

until_all : (s : Setup) (logged : Bool) (xs : List Heard) → first_cause s logged xs ≡ None → until s logged xs ≡ xs
until_all s logged [] none = refl
until_all s logged (x ∷ xs) none = by (cause_of s logged x) none (λ rest. until_all s (logged || logs_in s.role x) xs rest)
  where
    by : (o : Option Closed) → or_else o (first_cause s (logged || logs_in s.role x) xs) ≡ None → (first_cause s (logged || logs_in s.role x) xs ≡ None → until s (logged || logs_in s.role x) xs ≡ xs)
        → x ∷ cond (is_some o) [] (until s (logged || logs_in s.role x) xs) ≡ x ∷ xs
    by (Some c) e h = cc e
    by None e h = ap (λ (l : List Heard). x ∷ l) (h e)

tells_both : (s : Setup) (logged : Bool) (xs ys : List Heard) → ends true xs ≡ true
    → tells s logged (xs ++ ys) ≡ tells s logged xs ++ cond (is_some (first_cause s logged xs)) [] (tells s (logged || list_any (logs_in s.role) xs) ys)
tells_both s logged xs ys e = by (first_cause s logged xs) refl
  where
    by : (o : Option Closed) → first_cause s logged xs ≡ o
        → tells s logged (xs ++ ys) ≡ tells s logged xs ++ cond (is_some (first_cause s logged xs)) [] (tells s (logged || list_any (logs_in s.role) xs) ys)
    by (Some c) is =
        ap (tells_on s.role []) (until_append s logged xs ys ∙ ap (λ (o : Option Closed). until s logged xs ++ cond (is_some o) [] (until s (logged || list_any (logs_in s.role) xs) ys)) is ∙ append-nil (until s logged xs))
        ∙ sym (append-nil (tells s logged xs)) ∙ ap (λ (o : Option Closed). tells s logged xs ++ cond (is_some o) [] (tells s (logged || list_any (logs_in s.role) xs) ys)) (sym is)
    by None is =
        ap (tells_on s.role []) (until_append s logged xs ys ∙ ap (λ (o : Option Closed). until s logged xs ++ cond (is_some o) [] (until s (logged || list_any (logs_in s.role) xs) ys)) is
        ∙ ap (λ (l : List Heard). l ++ until s (logged || list_any (logs_in s.role) xs) ys) (until_all s logged xs is))
        ∙ tells_append s.role true [] xs (until s (logged || list_any (logs_in s.role) xs) ys) e (λ on. refl)
        ∙ ap (λ (l : List Heard). tells_on s.role [] l ++ tells s (logged || list_any (logs_in s.role) xs) ys) (sym (until_all s logged xs is))
        ∙ ap (λ (o : Option Closed). tells s logged xs ++ cond (is_some o) [] (tells s (logged || list_any (logs_in s.role) xs) ys)) (sym is)

-- ---- Over events
new_ends : (s : Setup) (es : List (Event Lookups)) (a : List ℕ) → closed_of s es ≡ None → ends true (new_items es a) ≡ true
new_ends s es a still =
    let added : List Block = blocks_of (rest_of (fed_of es) ++ a) in
    let later : List Heard = trouble (fed_fault (fed_of es ++ a)) in
    let more : List Heard = stream_items_from (counted (place_of (fed_of es))) added ++ later in
    let are : stream_items (fed_of es ++ a) ≡ stream_items (fed_of es) ++ more = items_more (fed_of es) a added (appends (fed_of es) a).blocks (no_trouble s (fed_of es) (still_items s es still)) in
    ap (ends true) (new_are s es a NoLookup more are)
    ∙ ends_append true (stream_items_from (counted (place_of (fed_of es))) added) later
    ∙ ap (λ (b : Bool). ends b later) (ends_items (counted (place_of (fed_of es))) added)
    ∙ ends_trouble (fed_fault (fed_of es ++ a))

-- bytes that come to a link that is open, or closed
told_open : (s : Setup) (es : List (Event Lookups)) (bytes : List ℕ) → closed_of s es ≡ None → link_tells s es bytes ≡ tells s (logged_in s.role es) (new_items es bytes)
told_open s es bytes none = ap (λ (o : Option Closed). cond (is_some o) [] (tells s (logged_in s.role es) (new_items es bytes))) none

told_closed : (s : Setup) (es : List (Event Lookups)) (bytes : List ℕ) (c : Closed) → closed_of s es ≡ Some c → link_tells s es bytes ≡ []
told_closed s es bytes c some = ap (λ (o : Option Closed). cond (is_some o) [] (tells s (logged_in s.role es) (new_items es bytes))) some

pub tells_once : TellsOnce
tells_once s es a b = by (closed_of s es) refl
  where
    by : (o : Option Closed) → closed_of s es ≡ o → link_tells s es (a ++ b) ≡ link_tells s es a ++ link_tells s (Fed a NoLookup ∷ es) b
    by None is =
        let xs : List Heard = new_items es a in
        let ys : List Heard = new_items (Fed a NoLookup ∷ es) b in
        told_open s es (a ++ b) is
        ∙ ap (tells s (logged_in s.role es)) (new_cut es a b NoLookup)
        ∙ tells_both s (logged_in s.role es) xs ys (new_ends s es a is)
        ∙ ap (λ (on : Bool). tells s (logged_in s.role es) xs ++ cond (is_some (first_cause s (logged_in s.role es) xs)) [] (tells s on ys)) (sym (logged_on s es a NoLookup xs (first_are es a b NoLookup)))
        ∙ ap (λ (o : Option Closed). tells s (logged_in s.role es) xs ++ cond (is_some o) [] (tells s (logged_in s.role (Fed a NoLookup ∷ es)) ys)) (sym (closed_on s es a NoLookup xs (first_are es a b NoLookup) is))
        ∙ ap (λ (l : List Item). l ++ link_tells s (Fed a NoLookup ∷ es) b) (sym (told_open s es a is))
    by (Some c) is =
        told_closed s es (a ++ b) c is
        ∙ sym (told_closed s (Fed a NoLookup ∷ es) b c (ap (λ (o : Option Closed). or_else o (first_cause s false (stream_items (fed_of es ++ a)))) is))
        ∙ ap (λ (l : List Item). l ++ link_tells s (Fed a NoLookup ∷ es) b) (sym (told_closed s es a c is))
