-- What a venue stands for once it has taken in the message of a command.
use Rattle.std.proofs.Common.{◌≡◌, ℕ, ◌+◌, ◌-◌, ◌≤◌, Bool, false, ◌||◌, nat_le, List, [], ◌∷◌, ◌++◌, length, Option, None, Some, Ok, refl, sym, ap, ◌∙◌, arith, subst, length-append, length-drop, drop}
use Rattle.std.specs.List.{slice_get}
use Rattle.std.specs.FinMap as map
use Rattle.std.specs.Ordering.{nat_cmp}
use Rattle.std.proofs.lemmas.Bool.{cond_both}
use Rattle.std.proofs.lemmas.List.{drop-append-le, drop_all}
use Rattle.std.proofs.lemmas.List.Folds.{list_any-append}
use Rattle.std.proofs.Math.Bool.{or-false}
use Rattle.pitch_fields.proofs.Lists.{all_push, get_last}
use Rattle.pitch_messages.specs.declared.order.Order.{Order}
use Rattle.pitch_messages.specs.declared.message.Message.{Message}
use Rattle.pitch_messages.specs.declared.message.Message.TheVariants.{ReduceLong, ReduceShort}
use Rattle.pitch_messages.specs.Forms.{add_in_form, add_message, plain_symbol, short_price, trade_in_form, trade_message, reduce_message, modify_in_form, modify_message}
use Rattle.pitch_fields.specs.Fields.{AreBytes}
use Rattle.pitch_fields.specs.Name.{six_of}
use Rattle.pitch_messages.specs.Raw.{IsRaw}
use Rattle.pitch_messages.specs.Reading.{reads}
use Rattle.pitch_model.specs.Book.{Book, empty_book, after}
use Rattle.pitch_model.proofs.Books.{after_len}
use Rattle.pitch_model.proofs.Folding.{book_after-append}
use Rattle.pitch_text.specs.declared.command.Command.{Command}
use Rattle.pitch_text.specs.declared.command.Command.TheVariants as commands
use Rattle.venue_core.specs.Commands.{message_of, raw_of, ends_session}
use Rattle.venue_core.specs.Refusals.{is_end, reads_end, is_ended}
use Rattle.venue_core.specs.Standing.{VenueState}
use Rattle.venue_core.specs.layers.Taking.{HaveMessages, Advances}
use Rattle.venue_core.specs.Stands.{Stands, last_of}
use Rattle.venue_core.specs.Waiting.{Waiting, Waits}

-- ---- Which commands end the session
add_goes_on : (six : Option (List ℕ)) (cents : Option ℕ) (order : Order) (offset : ℕ) → is_end (add_in_form six cents order offset) ≡ false
add_goes_on None cents order offset = refl
add_goes_on (Some six) (Some cents) order offset = refl
add_goes_on (Some six) None order offset = refl

trade_goes_on : (six : Option (List ℕ)) (cents : Option ℕ) (order : Order) (execution offset : ℕ) → is_end (trade_in_form six cents order execution offset) ≡ false
trade_goes_on None cents order execution offset = refl
trade_goes_on (Some six) (Some cents) order execution offset = refl
trade_goes_on (Some six) None order execution offset = refl

modify_goes_on : (cents : Option ℕ) (id quantity price : ℕ) (display : Bool) (offset : ℕ) → is_end (modify_in_form cents id quantity price display offset) ≡ false
modify_goes_on (Some cents) id quantity price display offset = refl
modify_goes_on None id quantity price display offset = refl

pub ends_by_message : (command : Command) → is_end (message_of command) ≡ ends_session command
unfolding add_message trade_message reduce_message modify_message
ends_by_message (commands.Time second) = refl
ends_by_message (commands.Add order offset) = add_goes_on (plain_symbol order) (short_price order.quantity order.price) order offset
ends_by_message (commands.Exec id quantity execution offset) = refl
ends_by_message (commands.ExecAt id quantity remaining execution price offset) = refl
ends_by_message (commands.Reduce id quantity offset) =
    cond_both (nat_le quantity 65535) (ReduceShort offset id quantity) (ReduceLong offset id quantity) (λ (m : Message). is_end m ≡ false) (λ t. refl) (λ f. refl)
ends_by_message (commands.Modify id quantity price display offset) = modify_goes_on (short_price quantity price) id quantity price display offset
ends_by_message (commands.Delete id offset) = refl
ends_by_message (commands.Trade order execution offset) = trade_goes_on (six_of order.symbol) (short_price order.quantity order.price) order execution offset
ends_by_message (commands.Break execution offset) = refl
ends_by_message (commands.Clear offset) = refl
ends_by_message (commands.EndSession offset) = refl
ends_by_message (commands.Status symbol halt sho offset) = refl

-- the message of a command says whether the command ends the session
pub ends_as_command : (command : Command) → reads (raw_of command) ≡ Ok (message_of command) → ends_session command ≡ reads_end (reads (raw_of command))
ends_as_command command known = sym (ap reads_end known ∙ ends_by_message command)

ended_more : (accepted : List (List ℕ)) (raw : List ℕ) → is_ended accepted ≡ false → reads_end (reads raw) ≡ is_ended (accepted ++ raw ∷ [])
ended_more accepted raw goes_on = sym
    (list_any-append (λ (raw : List ℕ). reads_end (reads raw)) accepted (raw ∷ [])
    ∙ ap (λ (b : Bool). b || (reads_end (reads raw) || false)) goes_on
    ∙ or-false (reads_end (reads raw)))

-- ---- The last message
pub last_there : (accepted : List (List ℕ)) (raw : List ℕ) → last_of (accepted ++ raw ∷ []) ≡ Some raw
last_there accepted raw =
    let l : length (accepted ++ raw ∷ []) - 1 ≡ length accepted = omega (arith, length-append accepted (raw ∷ [])) in
    ap (slice_get (accepted ++ raw ∷ [])) l ∙ get_last accepted raw

-- ---- All messages
-- ---- The whole venue
pub stands_on : (old new : VenueState) (accepted : List (List ℕ)) (sent : ℕ) (raw : List ℕ) → Stands old accepted sent → Advances old raw new → old.ended ≡ false → old.pending.next ≤ 4294967294 → Stands new (accepted ++ raw ∷ []) sent
stands_on old new accepted sent raw stands advances goes_on room = record {
  book = advances.book ∙ ap (λ (b : Book). after b raw) stands.book ∙ sym (book_after-append accepted (raw ∷ []));
  next = advances.next ∙ ap (λ (n : ℕ). n + 1) (stands.next ∙ sym (length-append accepted (raw ∷ [])));
  ended = advances.ended ∙ ended_more accepted raw (sym stands.ended ∙ goes_on);
  last = advances.last ∙ sym (last_there accepted raw);
  pending =
      let waits : Waits new.pending old.unit (sent + 1) (drop sent accepted ++ raw ∷ []) = advances.waits old.unit (sent + 1) (drop sent accepted) stands.pending in
      let same : Waits new.pending new.unit (sent + 1) (drop sent accepted ++ raw ∷ []) = subst (λ (u : ℕ). Waits new.pending u (sent + 1) (drop sent accepted ++ raw ∷ [])) (sym advances.unit) waits in
      subst (Waits new.pending new.unit (sent + 1)) (sym (drop-append-le sent accepted (raw ∷ []) stands.within)) same;
  within = let w = stands.within in omega (arith, w, length-append accepted (raw ∷ []));
  raws = all_push IsRaw accepted raw stands.raws advances.is_raw;
  bytes = all_push AreBytes accepted raw stands.bytes advances.bytes;
  few = let n = stands.next in omega (arith, n, room, length-append accepted (raw ∷ []));
}

-- the same messages wait, however they are kept
pub stands_still : (old new : VenueState) (accepted : List (List ℕ)) (sent : ℕ) → Stands old accepted sent → new.unit ≡ old.unit → new.book ≡ old.book → new.ended ≡ old.ended → new.last ≡ old.last → new.pending.next ≡ old.pending.next
    → ((unit first : ℕ) (messages : List (List ℕ)) → Waits old.pending unit first messages → Waits new.pending unit first messages) → Stands new accepted sent
stands_still old new accepted sent stands unit book ended last next waits = record {
  book = book ∙ stands.book;
  next = next ∙ stands.next;
  ended = ended ∙ stands.ended;
  last = last ∙ stands.last;
  pending = subst (λ (u : ℕ). Waits new.pending u (sent + 1) (drop sent accepted)) (sym unit) (waits old.unit (sent + 1) (drop sent accepted) stands.pending);
  within = stands.within;
  raws = stands.raws;
  bytes = stands.bytes;
  few = stands.few;
}

-- all that was accepted is sent
pub stands_sent : (venue : VenueState) (pending : Waiting) (accepted : List (List ℕ)) (sent : ℕ) → Stands venue accepted sent → pending.next ≡ venue.pending.next → pending.last ≡ venue.pending.last → venue.last ≡ venue.pending.last
    → ((unit first : ℕ) (messages : List (List ℕ)) → Waits venue.pending unit first messages → Waits pending unit (first + length messages) [])
    → Stands (record { unit = venue.unit; book = venue.book; ended = venue.ended; last = pending.last; ready = None; pending = pending }) accepted (length accepted)
stands_sent venue pending accepted sent stands next last was sends = record {
  book = stands.book;
  next = next ∙ stands.next;
  ended = stands.ended;
  last = last ∙ sym was ∙ stands.last;
  pending =
      let waits : Waits pending venue.unit ((sent + 1) + length (drop sent accepted)) [] = sends venue.unit (sent + 1) (drop sent accepted) stands.pending in
      let within = stands.within in
      let at : (sent + 1) + length (drop sent accepted) ≡ length accepted + 1 = omega (arith, within, length-drop sent accepted) in
      let none : drop (length accepted) accepted ≡ [] = drop_all (length accepted) accepted (omega arith) in
      subst (Waits pending venue.unit (length accepted + 1)) (sym none) (subst (λ (n : ℕ). Waits pending venue.unit n []) at waits);
  within = omega arith;
  raws = stands.raws;
  bytes = stands.bytes;
  few = stands.few;
}

-- ---- What is possible
pub none_possible : (book : Book) (pending : Waiting) (unit : ℕ) → book ≡ empty_book → Waits pending unit 1 [] → HaveMessages book pending
none_possible book pending unit empty waits =
    let l : map.len book.orders ≡ 0 = ap (λ (b : Book). map.len b.orders) empty ∙ map.len-empty nat_cmp Order in
    let n = waits.next_is in
    omega (arith, l, n)

pub one_more_possible : (book new : Book) (pending waiting : Waiting) (raw : List ℕ) → HaveMessages book pending → new ≡ after book raw → waiting.next ≡ pending.next + 1 → HaveMessages new waiting
one_more_possible book new pending waiting raw possible applied next =
    let l : map.len new.orders ≡ map.len (after book raw).orders = ap (λ (b : Book). map.len b.orders) applied in
    let m = after_len book raw in
    omega (arith, l, m, possible, next)
