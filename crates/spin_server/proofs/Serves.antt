-- The Spin Server's end over what happens to it.
use Rattle.std.proofs.Common.{◌≡◌, ℕ, ◌+◌, ◌<◌, zero, suc, Bool, true, false, cond, ◌||◌, ◌&&◌, List, [], ◌∷◌, ◌++◌, length, drop, replicate, refl, sym, ap, ◌∙◌, subst, arith, append_assoc, Option, Some, None, is_some, is_none, map, slice_get, nat_eq}
use Rattle.std.proofs.lemmas.List.{append-nil}
use Rattle.pitch_messages.specs.declared.session.SessionMessage.{SessionMessage}
use Rattle.pitch_messages.specs.declared.session.SessionMessage.TheVariants.{LoginReply, SpinRequest}
use Rattle.session_ends.specs.declared.closed.Closed.{Closed}
use Rattle.session_ends.specs.declared.inbox.Heard.{Heard}
use Rattle.session_ends.specs.declared.role.Role.{Role}
use Rattle.session_ends.specs.declared.role.Said.{Said}
use Rattle.session_ends.specs.Answering.{Answer, no_answer, answers}
use Rattle.session_ends.specs.layers.Hearings.{Hears, HearsAll, Serves}
use Rattle.session_ends.specs.Closing.{Setup, or_else, closed_of, closes_at, logged_in}
use Rattle.session_ends.specs.Ending.{Ending, EndKnows, known_of}
use Rattle.session_ends.specs.layers.Ticking.{nothing_known, known_ticked, sending}
use Rattle.session_ends.specs.Events.{Event, Fed, Ticked, Pumped, Told}
use Rattle.session_ends.specs.Sending.{sent_bytes, some_bytes, new_items}
use Rattle.session_ends.specs.layers.Driving.{At, HearsPiece}
use Rattle.session_ends.specs.Saying.{heard_by}
use Rattle.session_ends.proofs.Ends.{Takes, takes, fed_end, shut_end, sent_end, known_none, or_parts}
use Rattle.session_ends.proofs.Runs.{IsOrder, rises_rest, size_rest, served_all}
use Rattle.pitch_model.specs.Advertising.{newest_of}
use Rattle.spin_server.specs.Served.{Served}
use Rattle.spin_server.specs.layers.Looking.{ServedLater}
use Rattle.spin_server.specs.Serving.{Spin, Serving, available_bytes, spin_login_answer, SpinStands}
use Rattle.spin_server.specs.Serving.{spin_fed_answer, running_spin, spin_sends, spin_answer}
use Rattle.spin_server.specs.Serving.{spin_said_answer, spin_message_answer, spin_request_answer}
use Rattle.spin_server.specs.Serving.{pumped, pump_bytes, tell_bytes, runs}
use Rattle.spin_server.specs.layers.Feeding.{SpinFeeds}
use Rattle.spin_server.proofs.Shelving.{later_same}

later_then : (a b c : Served) → ServedLater a b → ServedLater b c → ServedLater a c
later_then a b c p q = record {
  more = p.more ++ q.more;
  messages_are = q.messages_are ∙ ap (λ (x : List (List ℕ)). x ++ q.more) p.messages_are ∙ append_assoc a.messages p.more q.more;
  others = p.others ++ q.others;
  advertised_are = q.advertised_are ∙ ap (λ (x : List ℕ). x ++ q.others) p.advertised_are ∙ append_assoc a.advertised p.others q.others;
}

pub later_order : IsOrder ServedLater
later_order = record { same = later_same; then = later_then }

-- ---- The datagrams that are left
pub left_len : (left : List (List ℕ)) (datagrams : List (List ℕ)) (n : ℕ) → left ≡ drop n datagrams → 0 < length left → n < length datagrams
left_len left datagrams n is lt = by datagrams n (ap length (sym is))
  where
    by : (ds : List (List ℕ)) (n : ℕ) → length (drop n ds) ≡ length left → n < length ds
    by [] zero e = omega (arith, e, lt)
    by [] (suc n) e = omega (arith, e, lt)
    by (d ∷ ds) zero e = omega arith
    by (d ∷ ds) (suc n) e = let l = by ds n e in omega (arith, l)

-- ---- Events
pub stands_none : (v : Serving) (role : Role) → v.end.setup.role ≡ role → EndKnows v.end (nothing_known role) → v.spin ≡ None → SpinStands v []
stands_none v role same is none = record {
  end_is = subst (EndKnows v.end) (ap nothing_known (sym same) ∙ sym (known_none (spin_sends v.end.setup) v.end.setup)) is;
  spin_is = λ on. none;
}

-- while the end is open, the spin is kept
pub spin_on : (v : Serving) (es : List (Event (List Served))) → SpinStands v es → closed_of v.end.setup es ≡ None → v.spin ≡ running_spin v.end.setup es
spin_on v es stands still = stands.spin_is (stands.end_is.closed_is ∙ still)

pub stands_ticked : (old new : Serving) (es : List (Event (List Served))) → new.end.setup ≡ old.end.setup → EndKnows new.end (known_ticked (known_of (spin_sends old.end.setup) old.end.setup es)) → new.spin ≡ old.spin → SpinStands old es → SpinStands new (Ticked ∷ es)
stands_ticked old new es same is kept stands = record {
  end_is = subst (λ (s : Setup). EndKnows new.end (known_of (spin_sends s) s (Ticked ∷ es))) (sym same) is;
  spin_is = λ on. kept ∙ spin_on old es stands (or_parts (closed_of old.end.setup es) (closes_at old.end.setup Ticked es) (sym is.closed_is ∙ on)).0 ∙ ap (λ (s : Setup). running_spin s es) (sym same);
}

-- an end that was closed keeps nothing
pub stands_shut : (v : Serving) (c : Closed) (event : Event (List Served)) (es : List (Event (List Served))) → v.end.closed ≡ Some c → SpinStands v es → SpinStands v (event ∷ es)
stands_shut v c event es some stands = record {
  end_is = shut_end (spin_sends v.end.setup) v.end.setup es event v.end c some stands.end_is;
  spin_is = λ none. cc (none, some);
}

-- ---- Messages
-- nothing is answered
pub hears_none : (at : Served → Answer (Option Spin)) (state : Option Spin) (view : Served) (knows : Option Spin → Type 0) (shown : Served → Type 0) (reply : List ℕ)
    → ((v : Served) → at v ≡ no_answer state) → knows state → shown view → Hears at ServedLater view knows shown reply reply [] []
hears_none at state view knows shown reply is k v = record {
  now = view;
  later = later_order.same view;
  shows = v;
  state_is = subst (λ (a : Answer (Option Spin)). knows a.knows) (sym (is view)) k;
  replied = sym (append-nil reply) ∙ ap (λ (a : Answer (Option Spin)). reply ++ a.reply) (sym (is view));
  lined = ap (λ (a : Answer (Option Spin)). a.lines) (sym (is view));
}

-- an answer at a message, where it is one of them
pub hears_as : (at : SessionMessage → Served → Answer (Option Spin)) (message known : SessionMessage) (view : Served) (knows : Option Spin → Type 0) (shown : Served → Type 0) (reply reply' : List ℕ)
    → message ≡ known → Hears (at known) ServedLater view knows shown reply reply' [] [] → Hears (at message) ServedLater view knows shown reply reply' [] []
hears_as at message known view knows shown reply reply' is h = subst (λ (m : SessionMessage). Hears (at m) ServedLater view knows shown reply reply' [] []) (sym is) h

pub hears_request : (s : Setup) (logged : Bool) (spin : Option Spin) (sequence : ℕ) (view : Served) (knows : Option Spin → Type 0) (shown : Served → Type 0) (reply reply' : List ℕ)
    → logged ≡ true → Hears (λ (v : Served). spin_request_answer s v sequence spin) ServedLater view knows shown reply reply' [] []
    → Hears (λ (v : Served). spin_message_answer s logged spin v (SpinRequest sequence)) ServedLater view knows shown reply reply' [] []
hears_request s logged spin sequence view knows shown reply reply' on h =
    subst (λ (b : Bool). Hears (λ (v : Served). spin_message_answer s b spin v (SpinRequest sequence)) ServedLater view knows shown reply reply' [] []) (sym on) h

pub hears_early : (s : Setup) (logged : Bool) (spin : Option Spin) (sequence : ℕ) (view : Served) (knows : Option Spin → Type 0) (shown : Served → Type 0) (reply : List ℕ)
    → logged ≡ false → knows spin → shown view
    → Hears (λ (v : Served). spin_message_answer s logged spin v (SpinRequest sequence)) ServedLater view knows shown reply reply [] []
hears_early s logged spin sequence view knows shown reply off k v =
    hears_none (λ (w : Served). spin_message_answer s logged spin w (SpinRequest sequence)) spin view knows shown reply (λ w. ap (λ (b : Bool). spin_message_answer s b spin w (SpinRequest sequence)) off) k v

-- what was said is what the stream says next
pub hears_item : (s : Setup) (logged : Bool) (spin : Option Spin) (view : Served) (said : Said) (item : Heard) (knows : Option Spin → Type 0) (shown : Served → Type 0) (reply reply' : List ℕ)
    → said ≡ heard_by s.role item → Hears (λ (v : Served). spin_said_answer s logged spin v said) ServedLater view knows shown reply reply' [] []
    → Hears (λ (v : Served). spin_answer s logged spin v item) ServedLater view knows shown reply reply' [] []
hears_item s logged spin view said item knows shown reply reply' is h =
    subst (λ (x : Said). Hears (λ (v : Served). spin_said_answer s logged spin v x) ServedLater view knows shown reply reply' [] []) is h

-- the same of a spin that is known otherwise
pub hears_kept : (s : Setup) (logged : Bool) (spin' spin : Option Spin) (view : Served) (item : Heard) (knows : Option Spin → Type 0) (shown : Served → Type 0) (reply reply' : List ℕ)
    → spin' ≡ spin → Hears (λ (v : Served). spin_answer s logged spin v item) ServedLater view knows shown reply reply' [] [] → Hears (λ (v : Served). spin_answer s logged spin' v item) ServedLater view knows shown reply reply' [] []
hears_kept s logged spin' spin view item knows shown reply reply' is h =
    subst (λ (o : Option Spin). Hears (λ (v : Served). spin_answer s logged o v item) ServedLater view knows shown reply reply' [] []) (sym is) h

-- a piece was heard while the end was open
pub fed_serves : {D L : Type 0} (spin : D → Option Spin) (shows : L → Served → Type 0) (es : List (Event (List Served))) (piece said : List ℕ) (old new : Serving) (from to : At D L) (view : Served)
    → old.end.closed ≡ None → SpinStands old es → from.said ≡ [] → to.said ≡ said → old.spin ≡ spin from.desk → new.spin ≡ spin to.desk
    → HearsPiece (Serves (λ (desk : D). tt) (λ (terms : Unit {0}) (s : Setup). spin_answer s) (λ (desk : D) (o : Option Spin). o ≡ spin desk) (λ (desk : D). []) shows ServedLater) old.end new.end piece said from to
    → shows from.source view → SpinFeeds es piece old new view (shows to.source) [] said
fed_serves {D} spin shows es piece said old new from to view still stands none_said said_is kept keeps w shown =
    let s : Setup = old.end.setup in
    let before : Option Spin = running_spin s es in
    let h : HearsAll s (spin_answer s) ServedLater old.end.logged w.items before view (λ (o : Option Spin). o ≡ spin to.desk) (shows to.source) from.said to.said [] [] =
    served_all (λ (desk : D). tt) (λ (terms : Unit {0}) (s : Setup). spin_answer s) (λ (desk : D) (o : Option Spin). o ≡ spin desk) (λ (desk : D). []) shows ServedLater later_order s old.end.logged w.items from to w.drives before view
    (sym (stands.spin_is still) ∙ kept) shown in
    let t : Takes s es piece old.end.logged new.end.inbox w.items = takes (spin_sends s) s es piece h.views old.end new.end.inbox [] w.items still stands.end_is refl w.takes in
    let a : Answer (Option Spin) = answers s (spin_answer s) old.end.logged before h.views w.items in
    let answered : spin_fed_answer s es piece h.views before ≡ a =
    ap (λ (o : Option Closed). cond (is_some o) (no_answer before) (answers s (spin_answer s) (logged_in s.role es) before h.views (new_items es piece))) t.open_is
    ∙ ap (λ (x : List Heard). answers s (spin_answer s) (logged_in s.role es) before h.views x) t.new_is
    ∙ ap (λ (b : Bool). answers s (spin_answer s) b before h.views w.items) (sym t.logged_is) in
    let bytes : said ≡ (spin_fed_answer s es piece h.views before).reply = sym said_is ∙ h.replied ∙ ap (λ (x : List ℕ). x ++ a.reply) none_said ∙ ap (λ (x : Answer (Option Spin)). x.reply) (sym answered) in
    record {
      views = h.views;
      each = h.each ∙ ap length (sym t.new_is);
      now = h.now;
      rises = h.rises;
      shows = h.shows;
      stands = record {
        end_is = subst (λ (x : Setup). EndKnows new.end (known_of (spin_sends x) x (Fed piece h.views ∷ es))) (sym w.did.setup_is) (fed_end (spin_sends s) es piece h.views old.end new.end w.items said still stands.end_is t w.did bytes);
        spin_is = λ on. keeps ∙ sym h.state_is ∙ ap (λ (x : Answer (Option Spin)). x.knows) (sym answered) ∙ ap (λ (x : Setup). running_spin x (Fed piece h.views ∷ es)) (sym w.did.setup_is);
      };
      replied = bytes;
    }

-- an end that was closed stays as it was, and says nothing
pub fed_shut : (es : List (Event (List Served))) (piece : List ℕ) (v : Serving) (c : Closed) (view : Served) (shown : Served → Type 0) (reply : List ℕ)
    → v.end.closed ≡ Some c → SpinStands v es → shown view → SpinFeeds es piece v v view shown reply reply
fed_shut es piece v c view shown reply some stands shows =
    let s : Setup = v.end.setup in
    let n : ℕ = length (new_items es piece) in
    let views : List Served = replicate n view in
    let said : spin_fed_answer s es piece views (running_spin s es) ≡ no_answer (running_spin s es) =
    ap (λ (o : Option Closed). cond (is_some o) (no_answer (running_spin s es)) (answers s (spin_answer s) (logged_in s.role es) (running_spin s es) views (new_items es piece))) (sym stands.end_is.closed_is ∙ some) in
    record {
      views = views;
      each = size_rest n view;
      now = view;
      rises = rises_rest ServedLater later_order view n;
      shows = shows;
      stands = stands_shut v c (Fed piece views) es some stands;
      replied = sym (append-nil reply) ∙ ap (λ (x : Answer (Option Spin)). reply ++ x.reply) (sym said);
    }

-- what was said into an empty list is appended to another
pub feeds_behind : (es : List (Event (List Served))) (piece : List ℕ) (old new : Serving) (view : Served) (shown : Served → Type 0) (said reply reply' : List ℕ)
    → SpinFeeds es piece old new view shown [] said → reply' ≡ reply ++ said → SpinFeeds es piece old new view shown reply reply'
feeds_behind es piece old new view shown said reply reply' f r = record {
  views = f.views;
  each = f.each;
  now = f.now;
  rises = f.rises;
  shows = f.shows;
  stands = f.stands;
  replied = r ∙ ap (λ (x : List ℕ). reply ++ x) f.replied;
}

-- ---- Pumping and telling
-- an open end sends something of its own accord
module _ (old : Serving) (end' : Ending) (spin' : Option Spin) (es : List (Event (List Served))) (bytes : List ℕ) (still : old.end.closed ≡ None) (stands : SpinStands old es)
    (is : end' ≡ record old.end { sent = (old.end.sent || some_bytes bytes) }) where
  abbrev s : Setup
  s = old.end.setup

  open_is : closed_of s es ≡ None
  open_is = sym stands.end_is.closed_is ∙ still

  same : end'.setup ≡ s
  same = ap (λ (v : Ending). v.setup) is

  none_more : closed_of s es ≡ or_else (closed_of s es) None
  none_more = open_is ∙ ap (λ (o : Option Closed). or_else o None) (sym open_is)

  sent_to : (new : Serving) → new.end ≡ end' → EndKnows new.end (sending (known_of (spin_sends s) s es) bytes)
  sent_to new e = subst (λ (v : Ending). EndKnows v (sending (known_of (spin_sends s) s es) bytes)) (sym e) (sent_end old.end end' (known_of (spin_sends s) s es) bytes still stands.end_is is)

  pub pump_says : pump_bytes s old.spin ≡ spin_sends s Pumped es
  pump_says = ap (pump_bytes s) (stands.spin_is still) ∙ ap (λ (o : Option Closed). cond (is_some o) [] (pump_bytes s (running_spin s es))) (sym open_is)

  pub stands_pumped : (new : Serving) → new.end ≡ end' → new.spin ≡ pumped old.spin → bytes ≡ pump_bytes s old.spin → SpinStands new (Pumped ∷ es)
  stands_pumped new e kept b = record {
    end_is = subst (λ (x : Setup). EndKnows new.end (known_of (spin_sends x) x (Pumped ∷ es))) (sym (ap (λ (v : Ending). v.setup) e ∙ same))
        (subst (λ (o : Option Closed). EndKnows new.end (record (known_of (spin_sends s) s (Pumped ∷ es)) { closed = o })) none_more
        (subst (λ (x : List ℕ). EndKnows new.end (sending (known_of (spin_sends s) s es) x)) (b ∙ pump_says) (sent_to new e)));
    spin_is = λ on. kept ∙ ap pumped (stands.spin_is still) ∙ ap (λ (x : Setup). running_spin x (Pumped ∷ es)) (sym (ap (λ (v : Ending). v.setup) e ∙ same));
  }

  pub pump_runs : is_some (pumped old.spin) ≡ runs s (Pumped ∷ es)
  pump_runs = ap (λ (o : Option Spin). is_some (pumped o)) (stands.spin_is still) ∙ ap (λ (o : Option Closed). is_none o && is_some (pumped (running_spin s es))) (sym open_is ∙ none_more)

  pub tell_says : (sequence : ℕ) → tell_bytes s old.end.logged old.spin sequence ≡ spin_sends s (Told sequence) es
  tell_says sequence = ap (λ (o : Option Spin). tell_bytes s old.end.logged o sequence) (stands.spin_is still) ∙ ap (λ (b : Bool). tell_bytes s b (running_spin s es) sequence) (stands.end_is.still still).logged_is
      ∙ ap (λ (o : Option Closed). cond (is_some o) [] (tell_bytes s (logged_in s.role es) (running_spin s es) sequence)) (sym open_is)

  pub stands_told : (sequence : ℕ) (new : Serving) → new.end ≡ end' → new.spin ≡ old.spin → bytes ≡ tell_bytes s old.end.logged old.spin sequence → SpinStands new (Told sequence ∷ es)
  stands_told sequence new e kept b = record {
    end_is = subst (λ (x : Setup). EndKnows new.end (known_of (spin_sends x) x (Told sequence ∷ es))) (sym (ap (λ (v : Ending). v.setup) e ∙ same))
        (subst (λ (o : Option Closed). EndKnows new.end (record (known_of (spin_sends s) s (Told sequence ∷ es)) { closed = o })) none_more
        (subst (λ (x : List ℕ). EndKnows new.end (sending (known_of (spin_sends s) s es) x)) (b ∙ tell_says sequence) (sent_to new e)));
    spin_is = λ on. kept ∙ stands.spin_is still ∙ ap (λ (x : Setup). running_spin x es) (sym (ap (λ (v : Ending). v.setup) e ∙ same));
  }

-- the datagrams that are left, from the bytes of all
pub left_none : {A B : Type 0} (f : A → B) (xs : List A) (n : ℕ) → slice_get xs n ≡ None → drop n (map f xs) ≡ []
left_none f [] zero is = refl
left_none f [] (suc n) is = refl
left_none f (x ∷ xs) zero is = cc
left_none f (x ∷ xs) (suc n) is = left_none f xs n is

pub left_some : {A B : Type 0} (f : A → B) (xs : List A) (n : ℕ) (x : A) → slice_get xs n ≡ Some x → drop n (map f xs) ≡ f x ∷ drop (n + 1) (map f xs)
left_some f [] n x is = cc
left_some f (y ∷ xs) zero x is = cc
left_some f (y ∷ xs) (suc n) x is =
    let e : suc (n + 1) ≡ suc n + 1 = omega arith in
    left_some f xs n x is ∙ ap (λ (m : ℕ). f x ∷ drop m (map f (y ∷ xs))) e

map_len : {A B : Type 0} (f : A → B) (xs : List A) → length (map f xs) ≡ length xs
map_len f [] = refl
map_len f (x ∷ xs) = ap suc (map_len f xs)

pub left_more : {A : Type 0} (f : A → List ℕ) (xs : List A) (n : ℕ) → 0 < length (drop n (map f xs)) → n < length xs
left_more f xs n lt = let l = left_len (drop n (map f xs)) (map f xs) n refl lt in omega (arith, l, map_len f xs)

-- a login that is not accepted
pub hears_login : (s : Setup) (status : ℕ) (spin : Option Spin) (view : Served) (knows : Option Spin → Type 0) (shown : Served → Type 0) (reply reply' : List ℕ)
    → nat_eq status 65 ≡ false → reply' ≡ reply ++ sent_bytes s (LoginReply status) → knows spin → shown view
    → Hears (λ (v : Served). spin_login_answer s status v spin) ServedLater view knows shown reply reply' [] []
hears_login s status spin view knows shown reply reply' off more k v = record {
  now = view;
  later = later_order.same view;
  shows = v;
  state_is = k;
  replied = more ∙ ap (λ (x : List ℕ). reply ++ x) (sym (append-nil (sent_bytes s (LoginReply status))) ∙ ap (λ (b : Bool). sent_bytes s (LoginReply status) ++ cond b (available_bytes s (newest_of view.advertised)) []) (sym off));
  lined = refl;
}
