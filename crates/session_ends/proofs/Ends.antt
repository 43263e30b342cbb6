-- An end over what happens to it.
use Rattle.std.proofs.Common.{◌≡◌, ℕ, Bool, true, false, not, ◌||◌, ◌&&◌, List, [], ◌∷◌, ◌++◌, length, drop, refl, sym, ap, ◌∙◌, subst, arith, Option, Some, None, is_some, nat_eq}
use Rattle.std.specs.List.{list_any}
use Rattle.std.proofs.lemmas.List.{drop_at}
use Rattle.std.proofs.lemmas.Bool.{ne_eqb}
use Rattle.std.proofs.Math.Bool.{or-false, or_comm}
use Rattle.unit_packets.specs.Cutting.{blocks_of}
use Rattle.unit_packets.specs.Feeding.{fed_fault}
use Rattle.unit_packets.specs.declared.header.BlockFault.{BlockFault}
use Rattle.session_ends.specs.declared.closed.Closed.{Closed}
use Rattle.session_ends.specs.declared.inbox.Heard.{Heard}
use Rattle.session_ends.specs.declared.role.Role.{Role}
use Rattle.session_ends.specs.Closing.{Setup, cause_of, first_cause, or_else, logs_in, closes_at, closed_of, logged_in}
use Rattle.session_ends.specs.Ending.{Ending, Known, EndKnows, known_of}
use Rattle.session_ends.specs.layers.Driving.{Pieced}
use Rattle.session_ends.specs.layers.Ticking.{nothing_known, sending}
use Rattle.session_ends.specs.Events.{Event, Fed, Ticked, Asked, Pumped, Told, fed_of, is_quiet}
use Rattle.session_ends.specs.Inboxes.{Inboxed, HasTaken}
use Rattle.session_ends.specs.layers.Hearing.{TakesPiece}
use Rattle.session_ends.specs.Items.{stream_items, stream_items_from, trouble}
use Rattle.session_ends.specs.Sending.{some_bytes, sent_since, new_items}
use Rattle.session_ends.proofs.Inboxes.{items_none}

-- ---- Tests
pub bool_assoc : (a b c : Bool) → (a || (b || c)) ≡ ((a || b) || c)
bool_assoc true b c = refl
bool_assoc false b c = refl

pub bytes_some : (xs : List ℕ) → not (nat_eq (length xs) 0) ≡ some_bytes xs
bytes_some [] = refl
bytes_some (x ∷ xs) = ap not (ne_eqb (length (x ∷ xs)) 0 (λ e. omega arith))

not_quiet : (b q : Bool) (n : ℕ) → not (nat_eq n 0) ≡ b → (not q || b) ≡ not (nat_eq n 0 && q)
not_quiet b q n e = ap (λ (x : Bool). not q || x) (sym e) ∙ both (nat_eq n 0) q
  where
    both : (z q : Bool) → (not q || not z) ≡ not (z && q)
    both true true = refl
    both true false = refl
    both false true = refl
    both false false = refl

pub none_is : (o : Option Closed) → is_some o ≡ false → o ≡ None
none_is None h = refl
none_is (Some c) h = cc

pub some_is : (o : Option Closed) → is_some o ≡ true → (c : Closed) × (o ≡ Some c)
some_is None h = cc
some_is (Some c) h = (c, refl)

-- ---- Causes
pub or_parts : (a b : Option Closed) → or_else a b ≡ None → (a ≡ None) × (b ≡ None)
or_parts None b e = (refl, e)
or_parts (Some c) b e = cc

pub or_assoc : (a b c : Option Closed) → or_else a (or_else b c) ≡ or_else (or_else a b) c
or_assoc None b c = refl
or_assoc (Some x) b c = refl

pub any_append : (role : Role) (xs ys : List Heard) → list_any (logs_in role) (xs ++ ys) ≡ (list_any (logs_in role) xs || list_any (logs_in role) ys)
any_append role [] ys = refl
any_append role (x ∷ xs) ys = ap (λ (b : Bool). logs_in role x || b) (any_append role xs ys) ∙ bool_assoc (logs_in role x) (list_any (logs_in role) xs) (list_any (logs_in role) ys)

-- the first cause of messages after others
pub cause_append : (s : Setup) (logged : Bool) (xs ys : List Heard) → first_cause s logged (xs ++ ys) ≡ or_else (first_cause s logged xs) (first_cause s (logged || list_any (logs_in s.role) xs) ys)
cause_append s logged [] ys = ap (λ (b : Bool). first_cause s b ys) (sym (or-false logged))
cause_append s logged (x ∷ xs) ys =
    ap (or_else (cause_of s logged x)) (cause_append s (logged || logs_in s.role x) xs ys
    ∙ ap (λ (b : Bool). or_else (first_cause s (logged || logs_in s.role x) xs) (first_cause s b ys)) (sym (bool_assoc logged (logs_in s.role x) (list_any (logs_in s.role) xs))))
    ∙ or_assoc (cause_of s logged x) (first_cause s (logged || logs_in s.role x) xs) (first_cause s (logged || list_any (logs_in s.role) (x ∷ xs)) ys)

-- while an end is open, nothing that the stream said closes it
pub still_items : {X : Type 0} (s : Setup) (es : List (Event X)) → closed_of s es ≡ None → first_cause s false (stream_items (fed_of es)) ≡ None
still_items s [] e = ap (first_cause s false) items_none
still_items s (Fed bytes seen ∷ es) e = (or_parts (closed_of s es) _ e).1
still_items s (Ticked ∷ es) e = still_items s es (or_parts (closed_of s es) _ e).0
still_items s (Asked request ∷ es) e = still_items s es (or_parts (closed_of s es) _ e).0
still_items s (Pumped ∷ es) e = still_items s es (or_parts (closed_of s es) _ e).0
still_items s (Told sequence ∷ es) e = still_items s es (or_parts (closed_of s es) _ e).0

untroubled : (s : Setup) (logged : Bool) (o : Option BlockFault) → first_cause s logged (trouble o) ≡ None → o ≡ None
untroubled s logged None e = refl
untroubled s logged (Some f) e = cc

pub no_trouble : (s : Setup) (bytes : List ℕ) → first_cause s false (stream_items bytes) ≡ None → fed_fault bytes ≡ None
unfolding stream_items
no_trouble s bytes e =
    untroubled s (false || list_any (logs_in s.role) (stream_items_from 0 (blocks_of bytes))) (fed_fault bytes)
    ((or_parts (first_cause s false (stream_items_from 0 (blocks_of bytes))) _ (sym (cause_append s false (stream_items_from 0 (blocks_of bytes)) (trouble (fed_fault bytes))) ∙ e)).1)

-- ---- Feeding
module _ {X : Type 0} (s : Setup) (es : List (Event X)) (bytes : List ℕ) (seen : X) (added : List Heard) (are : stream_items (fed_of es ++ bytes) ≡ stream_items (fed_of es) ++ added) where
  pub new_are : new_items es bytes ≡ added
  new_are = ap (drop (length (stream_items (fed_of es)))) are ∙ drop_at (stream_items (fed_of es)) added (length (stream_items (fed_of es))) refl

  pub logged_on : logged_in s.role (Fed bytes seen ∷ es) ≡ (logged_in s.role es || list_any (logs_in s.role) added)
  logged_on = ap (list_any (logs_in s.role)) are ∙ any_append s.role (stream_items (fed_of es)) added

  pub closed_on : closed_of s es ≡ None → closed_of s (Fed bytes seen ∷ es) ≡ first_cause s (logged_in s.role es) added
  closed_on none =
      ap (λ (o : Option Closed). or_else o (first_cause s false (stream_items (fed_of es ++ bytes)))) none
      ∙ ap (first_cause s false) are ∙ cause_append s false (stream_items (fed_of es)) added
      ∙ ap (λ (o : Option Closed). or_else o (first_cause s (false || logged_in s.role es) added)) (still_items s es none)

-- what an open end makes of a piece
pub record Takes {X : Type 0} (s : Setup) (es : List (Event X)) (piece : List ℕ) (logged : Bool) (inbox : Inboxed) (items : List Heard) : Type 0 where
  pub open_is : closed_of s es ≡ None
  pub logged_is : logged ≡ logged_in s.role es
  pub are : stream_items (fed_of es ++ piece) ≡ stream_items (fed_of es) ++ items
  pub new_is : new_items es piece ≡ items
  pub taken : HasTaken inbox (fed_of es ++ piece)

pub takes : {X : Type 0} (sends : Event X → List (Event X) → List ℕ) (s : Setup) (es : List (Event X)) (piece : List ℕ) (seen : X) (old : Ending) (inbox : Inboxed) (none items : List Heard)
    → old.closed ≡ None → EndKnows old (known_of sends s es) → none ≡ []
    → ((fed : List ℕ) → HasTaken old.inbox fed → fed_fault fed ≡ None → TakesPiece fed piece inbox none items) → Takes s es piece old.logged inbox items
takes sends s es piece seen old inbox none items still is empty take =
    let o = is.still still in
    let open_is : closed_of s es ≡ None = sym is.closed_is ∙ still in
    let t = take (fed_of es) o.inbox_is (no_trouble s (fed_of es) (still_items s es open_is)) in
    let are : stream_items (fed_of es ++ piece) ≡ stream_items (fed_of es) ++ items = t.are ∙ ap (λ (x : List Heard). stream_items (fed_of es) ++ x) (sym (t.appended ∙ ap (λ (l : List Heard). l ++ t.added) empty)) in
    record { open_is = open_is; logged_is = o.logged_is; are = are; new_is = new_are s es piece seen items are; taken = t.stands }

-- it took the piece in, then heard all, then noted what it said
pub pieced : (old taken heard new : Ending) (piece said : List ℕ) (items : List Heard) → taken ≡ record old { inbox = taken.inbox; heard = taken.heard } → taken.heard ≡ (old.heard || some_bytes piece)
    → heard ≡ record taken { closed = heard.closed; logged = heard.logged } → heard.closed ≡ first_cause taken.setup taken.logged items
    → (heard.closed ≡ None → heard.logged ≡ (taken.logged || list_any (logs_in taken.setup.role) items)) → new ≡ record heard { sent = (heard.sent || some_bytes said) }
    → Pieced old new piece said items
pieced old taken heard new piece said items first hears then closed logged last =
    let setup : taken.setup ≡ old.setup = ap (λ (v : Ending). v.setup) first in
    let was : taken.logged ≡ old.logged = ap (λ (v : Ending). v.logged) first in
    let shut : new.closed ≡ heard.closed = ap (λ (v : Ending). v.closed) last in
    record {
      setup_is = ap (λ (v : Ending). v.setup) last ∙ ap (λ (v : Ending). v.setup) then ∙ setup;
      closed_is = shut ∙ closed ∙ ap (λ (s : Setup). first_cause s taken.logged items) setup ∙ ap (λ (b : Bool). first_cause old.setup b items) was;
      logged_is = λ on. ap (λ (v : Ending). v.logged) last ∙ logged (sym shut ∙ on) ∙ ap (λ (b : Bool). b || list_any (logs_in taken.setup.role) items) was ∙ ap (λ (s : Setup). old.logged || list_any (logs_in s.role) items) setup;
      heard_is = ap (λ (v : Ending). v.heard) last ∙ ap (λ (v : Ending). v.heard) then ∙ hears;
      silent_is = ap (λ (v : Ending). v.silent) last ∙ ap (λ (v : Ending). v.silent) then ∙ ap (λ (v : Ending). v.silent) first;
      sent_is = ap (λ (v : Ending). v.sent) last ∙ ap (λ (v : Ending). v.sent || some_bytes said) then ∙ ap (λ (v : Ending). v.sent || some_bytes said) first;
    }

-- so it stands for one event more, at which it sends what it said
pub fed_end : {X : Type 0} (sends : Event X → List (Event X) → List ℕ) (es : List (Event X)) (piece : List ℕ) (seen : X) (old new : Ending) (items : List Heard) (said : List ℕ)
    → old.closed ≡ None → EndKnows old (known_of sends old.setup es) → Takes old.setup es piece old.logged new.inbox items → Pieced old new piece said items → said ≡ sends (Fed piece seen) es
    → EndKnows new (known_of sends old.setup (Fed piece seen ∷ es))
fed_end sends es piece seen old new items said still is t p same =
    let s : Setup = old.setup in
    let o = is.still still in
    record {
      closed_is = p.closed_is ∙ ap (λ (b : Bool). first_cause s b items) t.logged_is ∙ sym (closed_on s es piece seen items t.are t.open_is);
      still = λ on. record {
        inbox_is = t.taken;
        logged_is = p.logged_is on ∙ ap (λ (b : Bool). b || list_any (logs_in s.role) items) t.logged_is ∙ sym (logged_on s es piece seen items t.are);
        heard_is = p.heard_is ∙ ap (λ (b : Bool). b || some_bytes piece) o.heard_is ∙ not_quiet (some_bytes piece) (is_quiet es) (length piece) (bytes_some piece);
        silent_is = p.silent_is ∙ o.silent_is;
        sent_is = p.sent_is ∙ ap (λ (x : List ℕ). old.sent || some_bytes x) same ∙ ap (λ (b : Bool). b || some_bytes (sends (Fed piece seen) es)) o.sent_is
            ∙ or_comm (sent_since sends s.role es) (some_bytes (sends (Fed piece seen) es));
      };
    }

-- an end that was closed stays as it was
pub shut_end : {X : Type 0} (sends : Event X → List (Event X) → List ℕ) (s : Setup) (es : List (Event X)) (event : Event X) (v : Ending) (c : Closed)
    → v.closed ≡ Some c → EndKnows v (known_of sends s es) → EndKnows v (known_of sends s (event ∷ es))
shut_end sends s es event v c some is = record {
  closed_is = some ∙ sym (ap (λ (x : Option Closed). or_else x (closes_at s event es)) (sym is.closed_is ∙ some));
  still = λ none. cc (none, some);
}

-- an end to which nothing happened yet
pub known_none : {X : Type 0} (sends : Event X → List (Event X) → List ℕ) (s : Setup) → known_of sends s [] ≡ nothing_known s.role
known_none sends s = ap (λ (b : Bool). record (nothing_known s.role) { logged = b }) (ap (list_any (logs_in s.role)) items_none)

-- an end that sends something at an event that is neither a tick nor a feeding
pub sent_end : (v new : Ending) (k : Known) (bytes : List ℕ) → v.closed ≡ None → EndKnows v k → new ≡ record v { sent = (v.sent || some_bytes bytes) } → EndKnows new (sending k bytes)
sent_end v new k bytes still is e =
    let o = is.still still in
    subst (λ (n : Ending). EndKnows n (sending k bytes)) (sym e) (record {
      closed_is = is.closed_is;
      still = λ on. record {
        inbox_is = o.inbox_is;
        logged_is = o.logged_is;
        heard_is = o.heard_is;
        silent_is = o.silent_is;
        sent_is = ap (λ (b : Bool). b || some_bytes bytes) o.sent_is ∙ or_comm k.sent (some_bytes bytes);
      };
    })
