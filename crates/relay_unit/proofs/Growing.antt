-- What an item adds to what is sent.
use Rattle.std.proofs.Common.{Option, ◌≡◌, ℕ, ◌+◌, ◌==◌, ◌&&◌, ◌||◌, ◌^◌, ◌-◌, min, Bool, true, false, cond, not, nat_lt, List, [], ◌∷◌, ◌++◌, take, drop, refl, sym, ap, ◌∙◌, append_assoc}
use Rattle.std.specs.List.{list_any}
use Rattle.std.proofs.lemmas.List.{append-nil}
use Rattle.unit_packets.specs.Blocks.{Block}
use Rattle.pitch_messages.specs.declared.message.Message.TheVariants.{UnitClear}
use Rattle.pitch_messages.specs.Writing.{written}
use Rattle.pitch_model.specs.History.{Entry, Raw, Message, Spinning, NoSpin, Asked, Running, spin_of, image_finished, bad_image, adds, Ticked}
use Rattle.pitch_model.specs.Image.{image, image_of}
use Rattle.pitch_model.specs.Book.{Book, book_after}
use Rattle.pitch_model.specs.Reach.{reach, sequences}
use Rattle.pitch_model.specs.declared.ask.Ask.{Ask}
use Rattle.pitch_model.proofs.Rises.{reach_rises}
use Rattle.heard_items.proofs.Hearing.{messages_rise}
use Rattle.heard_items.specs.Heard.{heard, heard_messages, heard_sequenced, heard_block}
use Rattle.heard_items.specs.Changes.{image_end, image_end_at}
use Rattle.heard_items.specs.declared.item.Item.{Item}
use Rattle.heard_items.specs.declared.item.Item.TheVariants as item
use Rattle.heard_items.specs.declared.change.ImageEnd.{ImageEnd}
use Rattle.heard_items.specs.declared.change.ImageEnd.TheVariants as end
use Rattle.client_core.proofs.Slices.{slices, no_slice}
use Rattle.relay_unit.specs.layers.Sending.{SendsOn}
use Rattle.relay_unit.specs.Relayed.{sent_for, relayed}

-- the entries of messages add the messages up to the reach
relayed_messages : (H first : ℕ) (V raws : List Raw) (E : List Entry)
    → relayed H V (heard_messages first raws E) ≡ relayed H V E ++ drop (reach H E) (take (reach H (heard_messages first raws E)) V)
relayed_messages H first V [] E = sym (append-nil (relayed H V E)) ∙ ap (λ rs. relayed H V E ++ rs) (sym (no_slice (reach H E) V))
relayed_messages H first V (raw ∷ raws) E =
    let F : List Entry = Message first raw ∷ E in
    let G : List Entry = heard_messages (first + 1) raws F in
    relayed_messages H (first + 1) V raws F
    ∙ append_assoc (relayed H V E) (drop (reach H E) (take (reach H F) V)) (drop (reach H F) (take (reach H G) V))
    ∙ ap (λ rs. relayed H V E ++ rs) (slices (reach H E) (reach H F) (reach H G) V (reach_rises H E (Message first raw)) (messages_rise H (first + 1) raws F))

no_end : ◌≡◌ {A = ImageEnd} end.NoImage end.Taken → ⊥
no_end e = cc

stale_end : ◌≡◌ {A = ImageEnd} end.Stale end.Taken → ⊥
stale_end e = cc

bad_end : (p g : ℕ) → ◌≡◌ {A = ImageEnd} (end.Bad p g) end.Taken → ⊥
bad_end p g e = cc

is_true : (c : Bool) → ◌≡◌ {A = ImageEnd} (cond c end.Taken end.Stale) end.Taken → (c || false) ≡ true
is_true true e = refl
is_true false e = absurd (stale_end e)

is_false : (c : Bool) → (◌≡◌ {A = ImageEnd} (cond c end.Taken end.Stale) end.Taken → ⊥) → (c || false) ≡ false
is_false true e = absurd (e refl)
is_false false e = refl

-- an image is taken exactly where its end says so
taken_is : (n : ℕ) (spin : Spinning) (s : ℕ) → image_end_at n (image_finished spin s) (bad_image spin s) ≡ end.Taken → list_any (λ k. nat_lt n k) (sequences (image_finished spin s)) ≡ true
taken_is n NoSpin s e = absurd (no_end e)
taken_is n (Asked a) s e = absurd (no_end e)
taken_is n (Running running orders raws) s e = by (running == s) (adds raws == orders) e
  where
    by : (a b : Bool) → image_end_at n (cond (a && b) ((running, raws) ∷ []) []) (cond (a && not b) ((orders, raws) ∷ []) []) ≡ end.Taken → list_any (λ k. nat_lt n k) (sequences (cond (a && b) ((running, raws) ∷ []) [])) ≡ true
    by true true e = is_true (nat_lt n running) e
    by true false e = absurd (bad_end orders (min (adds raws) (2 ^ 64 - 1)) e)
    by false b e = absurd (no_end e)

untaken_is : (n : ℕ) (spin : Spinning) (s : ℕ) → (image_end_at n (image_finished spin s) (bad_image spin s) ≡ end.Taken → ⊥) → list_any (λ k. nat_lt n k) (sequences (image_finished spin s)) ≡ false
untaken_is n NoSpin s e = refl
untaken_is n (Asked a) s e = refl
untaken_is n (Running running orders raws) s e = by (running == s) (adds raws == orders) e
  where
    by : (a b : Bool) → (image_end_at n (cond (a && b) ((running, raws) ∷ []) []) (cond (a && not b) ((orders, raws) ∷ []) []) ≡ end.Taken → ⊥) → list_any (λ k. nat_lt n k) (sequences (cond (a && b) ((running, raws) ∷ []) [])) ≡ false
    by true true e = is_false (nat_lt n running) e
    by true false e = refl
    by false b e = refl

-- where an item takes no image, the messages up to the reach are added
relayed_untaken : (H : ℕ) (V : List Raw) (E : List Entry) (it : Item) → (image_end H E it ≡ end.Taken → ⊥)
    → relayed H V (heard it E) ≡ relayed H V E ++ drop (reach H E) (take (reach H (heard it E)) V)
relayed_untaken H V E (item.Messages first raws) not = relayed_messages H first V raws.items E
relayed_untaken H V E (item.Next next) not = refl
relayed_untaken H V E item.Nothing not = sym (append-nil (relayed H V E)) ∙ ap (λ rs. relayed H V E ++ rs) (sym (no_slice (reach H E) V))
relayed_untaken H V E item.GrpUp not = refl
relayed_untaken H V E item.GrpDown not = refl
relayed_untaken H V E (item.GapReply sequence count status) not = refl
relayed_untaken H V E item.SpinUp not = refl
relayed_untaken H V E item.SpinDown not = refl
relayed_untaken H V E (item.Advertised sequence) not = refl
relayed_untaken H V E (item.SpinReply sequence orders status) not = refl
relayed_untaken H V E (item.ImageMessages raws) not = refl
relayed_untaken H V E (item.SpinFinished s) not = ap (λ b. relayed H V E ++ sent_for b V (reach H E) (reach H (heard (item.SpinFinished s) E))) (untaken_is (reach H E) (spin_of E) s not)

-- where it takes one, Unit Clear and the image of the book are
relayed_taken : (H : ℕ) (V : List Raw) (E : List Entry) (it : Item) → image_end H E it ≡ end.Taken
    → relayed H V (heard it E) ≡ relayed H V E ++ (written (UnitClear 0) ∷ image V (reach H (heard it E)))
relayed_taken H V E (item.Messages first raws) is = absurd (no_end is)
relayed_taken H V E (item.Next next) is = absurd (no_end is)
relayed_taken H V E item.Nothing is = absurd (no_end is)
relayed_taken H V E item.GrpUp is = absurd (no_end is)
relayed_taken H V E item.GrpDown is = absurd (no_end is)
relayed_taken H V E (item.GapReply sequence count status) is = absurd (no_end is)
relayed_taken H V E item.SpinUp is = absurd (no_end is)
relayed_taken H V E item.SpinDown is = absurd (no_end is)
relayed_taken H V E (item.Advertised sequence) is = absurd (no_end is)
relayed_taken H V E (item.SpinReply sequence orders status) is = absurd (no_end is)
relayed_taken H V E (item.ImageMessages raws) is = absurd (no_end is)
relayed_taken H V E (item.SpinFinished s) is = ap (λ b. relayed H V E ++ sent_for b V (reach H E) (reach H (heard (item.SpinFinished s) E))) (taken_is (reach H E) (spin_of E) s is)

-- a block adds them too
relayed_sequenced : (H sequence : ℕ) (V raws : List Raw) (E : List Entry)
    → relayed H V (heard_sequenced sequence raws E) ≡ relayed H V E ++ drop (reach H E) (take (reach H (heard_sequenced sequence raws E)) V)
relayed_sequenced H sequence V [] E = refl
relayed_sequenced H sequence V (raw ∷ raws) E = relayed_messages H sequence V (raw ∷ raws) E

relayed_block : (H : ℕ) (V : List Raw) (E : List Entry) (block : Block) → relayed H V (heard_block block E) ≡ relayed H V E ++ drop (reach H E) (take (reach H (heard_block block E)) V)
relayed_block H V E block = by (block.sequence == 0)
  where
    by : (none : Bool) → let F : List Entry = cond none E (heard_sequenced block.sequence block.raws E) in relayed H V F ≡ relayed H V E ++ drop (reach H E) (take (reach H F) V)
    by true = sym (append-nil (relayed H V E)) ∙ ap (λ rs. relayed H V E ++ rs) (sym (no_slice (reach H E) V))
    by false = relayed_sequenced H block.sequence V block.raws E

-- ---- The same of what the code appends
sends_more : (H : ℕ) (V : List Raw) (E F : List Entry) (sent sent' more : List Raw) → relayed H V F ≡ relayed H V E ++ more → sent' ≡ sent ++ more → SendsOn H V E F sent sent'
sends_more H V E F sent sent' more grown appended before e =
    grown ∙ ap (λ xs. xs ++ more) e ∙ append_assoc before sent more ∙ ap (λ xs. before ++ xs) (sym appended)

pub sends_block : (H : ℕ) (V : List Raw) (E : List Entry) (block : Block) (sent sent' : List Raw)
    → sent' ≡ sent ++ drop (reach H E) (take (reach H (heard_block block E)) V) → SendsOn H V E (heard_block block E) sent sent'
sends_block H V E block sent sent' more = sends_more H V E (heard_block block E) sent sent' _ (relayed_block H V E block) more

pub sends_untaken : (H : ℕ) (V : List Raw) (E : List Entry) (it : Item) (sent sent' : List Raw) → (image_end H E it ≡ end.Taken → ⊥)
    → sent' ≡ sent ++ drop (reach H E) (take (reach H (heard it E)) V) → SendsOn H V E (heard it E) sent sent'
sends_untaken H V E it sent sent' not more = sends_more H V E (heard it E) sent sent' _ (relayed_untaken H V E it not) more

pub sends_taken : (H : ℕ) (V : List Raw) (E : List Entry) (it : Item) (book : Book) (clear : Raw) (sent sent1 sent2 sent3 : List Raw) → image_end H E it ≡ end.Taken
    → sent1 ≡ sent → sent2 ≡ sent1 ++ clear ∷ [] → clear ≡ written (UnitClear 0) → sent3 ≡ sent2 ++ image_of book → book ≡ book_after (take (reach H (heard it E)) V)
    → SendsOn H V E (heard it E) sent sent3
unfolding image
sends_taken H V E it book clear sent sent1 sent2 sent3 is one two clears three book_is =
    let t = reach H (heard it E) in
    let messages = image_of (book_after (take t V)) in
    let all : sent3 ≡ sent ++ (written (UnitClear 0) ∷ messages) =
    three ∙ ap (λ (b : Book). sent2 ++ image_of b) book_is ∙ ap (λ (xs : List Raw). xs ++ messages) two
    ∙ ap (λ (xs : List Raw). (xs ++ clear ∷ []) ++ messages) one ∙ ap (λ (c : Raw). (sent ++ c ∷ []) ++ messages) clears
    ∙ append_assoc sent (written (UnitClear 0) ∷ []) messages in
    sends_more H V E (heard it E) sent sent3 (written (UnitClear 0) ∷ messages) (relayed_taken H V E it is) all

-- a tick adds nothing
pub relayed_ticked : (H : ℕ) (V : List Raw) (E : List Entry) (ask : Option Ask) → relayed H V (Ticked ask ∷ E) ≡ relayed H V E
relayed_ticked H V E ask = ap (λ rs. relayed H V E ++ rs) (no_slice (reach H E) V) ∙ append-nil (relayed H V E)
