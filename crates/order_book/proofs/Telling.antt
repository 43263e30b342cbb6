-- What the bytes of a message tell of its effect on a book.
use Rattle.std.proofs.Common.{◌≡◌, ℕ, ◌≤◌, ◌==◌, ◌||◌, true, false, List, length, None, Some, Ok, Err, Result, IfOk, refl, sym, ap, ◌∙◌, arith}
use Rattle.std.proofs.lemmas.Bool.{both_ways}
use Rattle.pitch_fields.specs.Fields.{number_at}
use Rattle.pitch_messages.specs.declared.message.Message.{Message}
use Rattle.pitch_messages.specs.declared.message.Message.TheVariants as messages
use Rattle.pitch_messages.specs.declared.message.ReadError.{ReadError}
use Rattle.pitch_messages.specs.Raw.{kind_of}
use Rattle.pitch_messages.specs.Reading.{reads, row_of}
use Rattle.pitch_messages.specs.Reading as rows
use Rattle.pitch_messages.specs.Writing.{in_row}
use Rattle.pitch_messages.proofs.Rows.{said}
use Rattle.pitch_messages.proofs.Rewriting.{ReadAt, read_at}
use Rattle.pitch_model.specs.Book.{Book, Effect, ShowsSecond, ClearsOrders, AddsOrder, ChangesOrder, RemovesOrder, GivesStatus, DoesNothing, after_effect, effect_of, after_read, after}
use Rattle.pitch_model.specs.History.{is_add}
use Rattle.order_book.specs.Naming.{names_order}

-- the bytes name an order
pub record Names (raw : List ℕ) (order : ℕ) : Type 0 where
  pub kind : names_order (kind_of raw) ≡ true
  pub long : 14 ≤ length raw
  pub id : order ≡ number_at 8 6 raw

-- they are a Unit Clear, and as long as one
pub record IsClear (raw : List ℕ) : Type 0 where
  pub kind : kind_of raw ≡ 0x97
  pub long : 6 ≤ length raw

-- they name the order that the effect touches, and say whether it touches all
abbrev pub Tells : List ℕ → Effect → Type 0
Tells raw (AddsOrder order) = Names raw order.id × (is_add raw ≡ true)
Tells raw (ChangesOrder id change) = Names raw id
Tells raw (RemovesOrder id) = Names raw id
Tells raw ClearsOrders = IsClear raw
Tells raw (ShowsSecond second) = IsClear raw → ⊥
Tells raw (GivesStatus symbol status) = IsClear raw → ⊥
Tells raw DoesNothing = IsClear raw → ⊥

module _ (raw : List ℕ) where
  names : {kind order : ℕ} → kind_of raw ≡ kind → names_order kind ≡ true → 14 ≤ length raw → order ≡ number_at 8 6 raw → Names raw order
  names is tells long id = record { kind = ap names_order is ∙ tells; long = long; id = id }

  add : {kind : ℕ} → kind_of raw ≡ kind → (kind == 0x21 || kind == 0x22 || kind == 0x2f) ≡ true → is_add raw ≡ true
  add is adds = ap (λ (k : ℕ). k == 0x21 || k == 0x22 || k == 0x2f) is ∙ adds

  apart : {kind : ℕ} → kind_of raw ≡ kind → (kind == 0x97) ≡ false → IsClear raw → ⊥
  apart is other clear = both_ways _ other (ap (λ (k : ℕ). k == 0x97) (sym is ∙ clear.kind))

  -- each message tells its effect
  message_tells : (message : Message) → ReadAt raw (in_row message) → Tells raw (effect_of message)
  message_tells (messages.AddLong offset id side quantity symbol price flags) at = (names at.kind refl (omega (arith, at.long)) at.all.1.0, add at.kind refl)
  message_tells (messages.AddShort offset id side quantity symbol price flags) at = (names at.kind refl (omega (arith, at.long)) at.all.1.0, add at.kind refl)
  message_tells (messages.Executed offset id executed execution) at = names at.kind refl (omega (arith, at.long)) at.all.1.0
  message_tells (messages.ExecutedAt offset id executed remaining execution price) at = names at.kind refl (omega (arith, at.long)) at.all.1.0
  message_tells (messages.ReduceLong offset id quantity) at = names at.kind refl (omega (arith, at.long)) at.all.1.0
  message_tells (messages.ReduceShort offset id quantity) at = names at.kind refl (omega (arith, at.long)) at.all.1.0
  message_tells (messages.ModifyLong offset id quantity price flags) at = names at.kind refl (omega (arith, at.long)) at.all.1.0
  message_tells (messages.ModifyShort offset id quantity price flags) at = names at.kind refl (omega (arith, at.long)) at.all.1.0
  message_tells (messages.Delete offset id) at = names at.kind refl (omega (arith, at.long)) at.all.1.0
  message_tells (messages.AddExpanded offset id side quantity symbol price flags participant) at = (names at.kind refl (omega (arith, at.long)) at.all.1.0, add at.kind refl)
  message_tells (messages.UnitClear offset) at = record { kind = at.kind; long = at.long }
  message_tells (messages.Other other) at = λ clear. let e : Some rows.unit_clear_row ≡ None = ap row_of (sym clear.kind) ∙ at.0 in absurd cc
  message_tells message at = apart at.kind refl

  -- what says nothing is no Unit Clear
  unsaid : (error : ReadError) → reads raw ≡ Err error → IsClear raw → ⊥
  unsaid error e clear = absurd (let same : Ok (messages.UnitClear (number_at 4 2 raw)) ≡ Err error = said rows.unit_clear_row raw 0x97 clear.kind refl clear.long ∙ e in cc)

-- what holds of a book after each effect that the bytes tell of holds of it after the raw message
pub after_told : (P : Book → Type 0) (book : Book) (raw : List ℕ) → ((effect : Effect) → Tells raw effect → P (after_effect book effect)) → P (after book raw)
unfolding after
after_told P book raw each = by (reads raw) refl (read_at raw)
  where
    by : (read : Result Message ReadError) → reads raw ≡ read → IfOk read (λ message. ReadAt raw (in_row message)) → P (after_read book read)
    by (Err error) e at = each DoesNothing (unsaid raw error e)
    by (Ok message) e at = each (effect_of message) (message_tells raw message at)
