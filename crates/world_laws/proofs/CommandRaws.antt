-- The message of a command that a schedule can give is a raw of bytes, and has a sequence.
use Rattle.std.proofs.Common.{◌≡◌, refl, ℕ, suc, ◌^◌, ◌<◌, ◌≤◌, Bool, true, false, not, ◌==◌, nat_le, cond, List, [], ◌∷◌, ◌++◌, length, take, drop, sym, ap, ◌∙◌, subst, arith, Option, Some, None, inl, inr}
use Rattle.std.specs.List.{list_all}
use Rattle.std.proofs.lemmas.Bool.{and_parts, or_cases, eqb-true, cond_both}
use Rattle.std.proofs.lemmas.Bool.Decides.{nat_tests}
use Rattle.std.proofs.lemmas.List.{length-take}
use Rattle.std.proofs.lemmas.Option.{none-some, same_Some}
use Rattle.pitch_fields.proofs.Lists.{all_take}
use Rattle.pitch_fields.specs.Fields.{AreBytes}
use Rattle.pitch_fields.specs.Limits.{last_sequence}
use Rattle.pitch_fields.specs.Name.{is_blank, is_printing, is_well_formed, is_participant, six_of, without_spaces}
use Rattle.pitch_messages.specs.declared.message.Message.{Message}
use Rattle.pitch_messages.specs.declared.message.Message.TheVariants as messages
use Rattle.pitch_messages.specs.declared.order.Order.{Order}
use Rattle.pitch_messages.specs.Forms.{add_in_form, add_message, flags_of, modify_in_form, modify_message, plain_symbol, reduce_message, short_price, trade_in_form, trade_message}
use Rattle.pitch_messages.specs.Raw.{IsRaw}
use Rattle.pitch_messages.specs.Writing.{written}
use Rattle.pitch_messages.proofs.Widths.{message_raw}
use Rattle.pitch_model.specs.Book.{book_after}
use Rattle.pitch_model.specs.History.{Raw}
use Rattle.pitch_model.specs.layers.Widths.{FitsWire}
use Rattle.pitch_model.proofs.Images.{plain_is, short_is}
use Rattle.pitch_text.specs.WellFormed.{IsCommand, IsOrder, IsOffset}
use Rattle.pitch_text.specs.declared.command.Command.{Command}
use Rattle.pitch_text.specs.declared.command.Command.TheVariants as commands
use Rattle.venue_core.specs.Commands.{raw_of}
use Rattle.venue_core.specs.Refusals.{refusal, refused_if, first_refusal, is_ended, has_no_shares, has_bad_name, adds_open_order, names_no_order, takes_too_much, overfills, are_spent}
use Rattle.venue_core.specs.declared.error.VenueError.{VenueError}
use Rattle.venue_core.specs.declared.error.VenueError.TheVariants.{Ended, ZeroQuantity, BadSymbol, KnownId, UnknownId, BookFull, SequencesSpent}

-- ---- Names are bytes
blank_bytes : (bs : List ℕ) → is_blank bs ≡ true → AreBytes bs
blank_bytes [] blank = tt
blank_bytes (b ∷ bs) blank =
    let both = and_parts (b == 32) (is_blank bs) blank in
    let space = eqb-true b 32 both.0 in
    (omega (arith, space), blank_bytes bs both.1)

printing_byte : (b : ℕ) → is_printing b ≡ true → b < 256
printing_byte b is = grind (arith, nat_tests, is)

name_bytes : (bs : List ℕ) → list_all is_printing (without_spaces bs) ≡ true → AreBytes bs
name_bytes [] is = tt
name_bytes (b ∷ bs) is = by (is_blank (b ∷ bs)) refl is (name_bytes bs)
  where
    by : (blank : Bool) → is_blank (b ∷ bs) ≡ blank → list_all is_printing (cond blank [] (b ∷ without_spaces bs)) ≡ true → (list_all is_printing (without_spaces bs) ≡ true → AreBytes bs) → AreBytes (b ∷ bs)
    by true all e rest = blank_bytes (b ∷ bs) all
    by false other e rest =
        let both = and_parts (is_printing b) (list_all is_printing (without_spaces bs)) e in
        (printing_byte b both.0, rest both.1)

formed_bytes : (bs : List ℕ) → is_well_formed bs ≡ true → AreBytes bs
formed_bytes bs is = name_bytes bs (and_parts (not (is_blank bs)) (list_all is_printing (without_spaces bs)) is).1

participant_bytes : (bs : List ℕ) → is_participant bs ≡ true → AreBytes bs
participant_bytes bs is = elim (or_cases (is_blank bs) (is_well_formed bs) is) [
  | inl blank ↦ blank_bytes bs blank
  | inr formed ↦ formed_bytes bs formed
]

-- six bytes of eight
six_bytes : (xs ys : List ℕ) → AreBytes (xs ++ ys) → AreBytes xs
six_bytes [] ys all = tt
six_bytes (x ∷ xs) ys all = (all.0, six_bytes xs ys all.1)

pub record SixBytes (six : List ℕ) : Type 0 where
  pub size : length six ≡ 6
  pub bytes : AreBytes six

six_is : (symbol six : List ℕ) → length symbol ≡ 8 → AreBytes symbol → six_of symbol ≡ Some six → SixBytes six
six_is symbol six size all e = by (is_blank (drop 6 symbol)) e
  where
    by : (b : Bool) → cond b (Some (take 6 symbol)) None ≡ Some six → SixBytes six
    by true f =
        let same = same_Some (take 6 symbol) six f in
        record { size = ap (λ (xs : List ℕ). length xs) (sym same) ∙ omega (arith, length-take {A = ℕ}, size); bytes = subst AreBytes same (all_take (λ byte. byte < 2 ^ 8) 6 symbol all) }
    by false f = absurd (none-some six f)

flags_byte : (display : Bool) → flags_of display < 256
flags_byte true = omega arith
flags_byte false = omega arith

-- ---- Orders
order_fits : (order : Order) → IsOrder order → FitsWire order
order_fits order is = record {
  id = (let l = is.id in omega (arith, l));
  quantity = (let l = is.quantity in omega (arith, l));
  symbol = is.symbol.0;
  price = (let l = is.price in omega (arith, l));
  participant = is.participant.0;
  symbol_bytes = formed_bytes order.symbol is.symbol.1;
  participant_bytes = participant_bytes order.participant is.participant.1;
}

-- ---- Commands
abbrev pub IsByteRaw : Raw → Type 0
IsByteRaw raw = IsRaw raw × AreBytes raw

add_raw : (order : Order) (offset : ℕ) → FitsWire order → offset < 256 ^ 4 → IsByteRaw (written (add_message order offset))
unfolding add_message
add_raw order offset fits low = by (plain_symbol order) (short_price order.quantity order.price) refl refl
  where
    flags : flags_of order.display < 256
    flags = flags_byte order.display

    by : (six : Option (List ℕ)) (cents : Option ℕ) → plain_symbol order ≡ six → short_price order.quantity order.price ≡ cents → IsByteRaw (written (add_in_form six cents order offset))
    by None cents s c =
        message_raw (messages.AddExpanded offset order.id order.side order.quantity order.symbol order.price (flags_of order.display) order.participant) (omega arith, omega arith)
        (low, (fits.id, (tt, (fits.quantity, ((fits.symbol, fits.symbol_bytes), (fits.price, (flags, ((fits.participant, fits.participant_bytes), tt))))))))
    by (Some six) None s c =
        let plain = (plain_is order six fits s).0 in
        let bytes : AreBytes six = six_bytes six (32 ∷ 32 ∷ []) (subst AreBytes (sym plain.padded) fits.symbol_bytes) in
        message_raw (messages.AddLong offset order.id order.side order.quantity six order.price (flags_of order.display)) (omega arith, omega arith)
        (low, (fits.id, (tt, (fits.quantity, ((plain.size, bytes), (fits.price, (flags, tt)))))))
    by (Some six) (Some cents) s c =
        let plain = (plain_is order six fits s).0 in
        let bytes : AreBytes six = six_bytes six (32 ∷ 32 ∷ []) (subst AreBytes (sym plain.padded) fits.symbol_bytes) in
        let short = short_is order.quantity order.price cents c in
        message_raw (messages.AddShort offset order.id order.side order.quantity six cents (flags_of order.display)) (omega arith, omega arith)
        (low, (fits.id, (tt, (short.few, ((plain.size, bytes), (short.low, (flags, tt)))))))

trade_raw : (order : Order) (execution offset : ℕ) → FitsWire order → execution < 256 ^ 8 → offset < 256 ^ 4 → IsByteRaw (written (trade_message order execution offset))
unfolding trade_message
trade_raw order execution offset fits e low = by (six_of order.symbol) (short_price order.quantity order.price) refl refl
  where
    by : (six : Option (List ℕ)) (cents : Option ℕ) → six_of order.symbol ≡ six → short_price order.quantity order.price ≡ cents → IsByteRaw (written (trade_in_form six cents order execution offset))
    by None cents s c =
        message_raw (messages.TradeExpanded offset order.id order.side order.quantity order.symbol order.price execution) (omega arith, omega arith)
        (low, (fits.id, (tt, (fits.quantity, ((fits.symbol, fits.symbol_bytes), (fits.price, (e, tt)))))))
    by (Some six) None s c =
        let plain = six_is order.symbol six fits.symbol fits.symbol_bytes s in
        message_raw (messages.TradeLong offset order.id order.side order.quantity six order.price execution) (omega arith, omega arith)
        (low, (fits.id, (tt, (fits.quantity, ((plain.size, plain.bytes), (fits.price, (e, tt)))))))
    by (Some six) (Some cents) s c =
        let plain = six_is order.symbol six fits.symbol fits.symbol_bytes s in
        let short = short_is order.quantity order.price cents c in
        message_raw (messages.TradeShort offset order.id order.side order.quantity six cents execution) (omega arith, omega arith)
        (low, (fits.id, (tt, (short.few, ((plain.size, plain.bytes), (short.low, (e, tt)))))))

reduce_raw : (id quantity offset : ℕ) → id < 256 ^ 8 → quantity < 256 ^ 4 → offset < 256 ^ 4 → IsByteRaw (written (reduce_message id quantity offset))
unfolding reduce_message
reduce_raw id quantity offset i q low =
    cond_both (nat_le quantity 65535) (messages.ReduceShort offset id quantity) (messages.ReduceLong offset id quantity) (λ (m : Message). IsByteRaw (written m))
    (λ t. message_raw (messages.ReduceShort offset id quantity) (omega arith, omega arith) (low, (i, (few t, tt))))
    (λ f. message_raw (messages.ReduceLong offset id quantity) (omega arith, omega arith) (low, (i, (q, tt))))
  where
    few : nat_le quantity 65535 ≡ true → quantity < 256 ^ 2
    few t = let le : quantity ≤ 65535 = grind (arith, nat_tests, t) in omega (arith, le)

modify_raw : (id quantity price : ℕ) (display : Bool) (offset : ℕ) → id < 256 ^ 8 → quantity < 256 ^ 4 → price < 256 ^ 8 → offset < 256 ^ 4 → IsByteRaw (written (modify_message id quantity price display offset))
unfolding modify_message
modify_raw id quantity price display offset i q p low = by (short_price quantity price) refl
  where
    by : (cents : Option ℕ) → short_price quantity price ≡ cents → IsByteRaw (written (modify_in_form cents id quantity price display offset))
    by None c = message_raw (messages.ModifyLong offset id quantity price (flags_of display)) (omega arith, omega arith) (low, (i, (q, (p, (flags_byte display, tt)))))
    by (Some cents) c =
        let short = short_is quantity price cents c in
        message_raw (messages.ModifyShort offset id quantity cents (flags_of display)) (omega arith, omega arith) (low, (i, (short.few, (short.low, (flags_byte display, tt)))))

offset_low : (offset : ℕ) → IsOffset offset → offset < 256 ^ 4
offset_low offset is = omega (arith, is)

eight : (n : ℕ) → n < 2 ^ 64 → n < 256 ^ 8
eight n is = omega (arith, is)

four : (n : ℕ) → n < 2 ^ 32 → n < 256 ^ 4
four n is = omega (arith, is)

pub command_raw : (command : Command) → IsCommand command → IsByteRaw (raw_of command)
command_raw (commands.Time second) is = message_raw (messages.Time second) (omega arith, omega arith) (omega (arith, is), tt)
command_raw (commands.Add order offset) is = add_raw order offset (order_fits order is.0) (offset_low offset is.1)
command_raw (commands.Exec id quantity execution offset) is =
    message_raw (messages.Executed offset id quantity execution) (omega arith, omega arith) (offset_low offset is.3, (eight id is.0, (four quantity is.1, (eight execution is.2, tt))))
command_raw (commands.ExecAt id quantity remaining execution price offset) is =
    message_raw (messages.ExecutedAt offset id quantity remaining execution price) (omega arith, omega arith)
    (offset_low offset is.5, (eight id is.0, (four quantity is.1, (four remaining is.2, (eight execution is.3, (eight price is.4, tt))))))
command_raw (commands.Reduce id quantity offset) is = reduce_raw id quantity offset (eight id is.0) (four quantity is.1) (offset_low offset is.2)
command_raw (commands.Modify id quantity price display offset) is = modify_raw id quantity price display offset (eight id is.0) (four quantity is.1) (eight price is.2) (offset_low offset is.3)
command_raw (commands.Delete id offset) is = message_raw (messages.Delete offset id) (omega arith, omega arith) (offset_low offset is.1, (eight id is.0, tt))
command_raw (commands.Trade order execution offset) is = trade_raw order execution offset (order_fits order is.0) (eight execution is.3) (offset_low offset is.4)
command_raw (commands.Break execution offset) is = message_raw (messages.TradeBreak offset execution) (omega arith, omega arith) (offset_low offset is.1, (eight execution is.0, tt))
command_raw (commands.Clear offset) is = message_raw (messages.UnitClear offset) (omega arith, omega arith) (offset_low offset is, tt)
command_raw (commands.EndSession offset) is = message_raw (messages.EndOfSession offset) (omega arith, omega arith) (offset_low offset is, tt)
command_raw (commands.Status symbol halt sho offset) is =
    message_raw (messages.TradingStatus offset symbol halt sho) (omega arith, omega arith)
    (offset_low offset is.3, ((is.0.0, formed_bytes symbol is.0.1), (printing_byte halt is.1, (printing_byte sho is.2, (tt, tt)))))

-- ---- Its sequence
some_none : {X : Type 0} (x : X) → ◌≡◌ {A = Option X} (Some x) None → ⊥
some_none x e = cc

last_not_refused : (xs : List (Option VenueError)) (last : Option VenueError) → first_refusal (xs ++ last ∷ []) ≡ None → last ≡ None
last_not_refused [] None e = e
last_not_refused [] (Some error) e = e
last_not_refused (None ∷ xs) last e = last_not_refused xs last e
last_not_refused (Some error ∷ xs) last e = absurd (some_none error e)

-- a command that is not refused has a sequence for its message
pub next_there : (V : List Raw) (command : Command) → length V ≤ last_sequence → refusal V command ≡ None → suc (length V) ≤ last_sequence
next_there V command few fine = by (are_spent (length V)) refl
    (last_not_refused (refused_if (is_ended V) Ended ∷ refused_if (has_no_shares command) ZeroQuantity ∷ refused_if (has_bad_name command) BadSymbol ∷ refused_if (adds_open_order (book_after V) command) KnownId
    ∷ refused_if (names_no_order (book_after V) command) UnknownId ∷ takes_too_much (book_after V) command ∷ refused_if (overfills (book_after V) command) BookFull ∷ [])
    (refused_if (are_spent (length V)) SequencesSpent) fine)
  where
    by : (spent : Bool) → are_spent (length V) ≡ spent → refused_if spent SequencesSpent ≡ None → suc (length V) ≤ last_sequence
    by true is e = absurd (some_none SequencesSpent e)
    by false is e = grind (arith, nat_tests, is, few)
