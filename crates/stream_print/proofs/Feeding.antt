-- A stream that comes in pieces, from its start to its end.
use Rattle.std.proofs.Common.{◌≡◌, ℕ, zero, suc, ◌-◌, ◌≤◌, ◌<◌, inl, inr, Bool, true, cond, List, [], ◌∷◌, ◌++◌, length, take, drop, reverse, refl, sym, ap, ◌∙◌, subst, arith, append_assoc, length-append, nat_lt, Option, Some, None}
use Rattle.std.specs.Io.KnownBytes.{Consumes, Keeps, IsAtEnd}
use Rattle.std.proofs.lemmas.List.{append-nil, reverse-append, take-append-le, take_at}
use Rattle.std.proofs.Math.Seq.{take-length, drop-length}
use Rattle.std.proofs.lemmas.Bool.{lt-ltb, le-ltb}
use Rattle.pitch_io.specs.Putting.{Grows}
use Rattle.unit_packets.specs.Blocks.{Block}
use Rattle.relay_unit.proofs.Bytes.{heard_within}
use Rattle.stream_print.specs.Carriers.{carried_blocks, with_counts}
use Rattle.stream_print.specs.layers.Suiting.{Suits}
use Rattle.stream_print.specs.Told.{between}
use Rattle.stream_print.specs.declared.carrier.Carrier.{Carrier}
use Rattle.stream_print.specs.declared.stream_form.StreamForm.{StreamForm}
use Rattle.stream_print.specs.declared.stream_form.StreamForm.TheVariants.{Follow, Show, Relay, Quotes}
use Rattle.stream_print.specs.layers.Feeding.{Fed}
use Rattle.stream_print.specs.Inputs.{lasting_trouble, end_trouble, or_trouble, trouble_of, AreAll, WritesAll, WritesTexts, Has, Refuses, WritesSome}
use Rattle.stream_print.specs.Knowing.{HasPrinted}
use Rattle.stream_print.specs.Page.{Prints, PrintsSuch}
use Rattle.stream_print.specs.Printing.{PrintsPiece}
use Rattle.stream_print.specs.Putting.{PutsSome}
use Rattle.stream_print.specs.Sinks.{PutsSuch}
use Rattle.stream_print.specs.Readers.{blocks_with}
use Rattle.stream_print.specs.Texts.{AreTexts, AreTextsAfter, BeginTexts, BeginTextsAfter, IsText}
use Rattle.stream_print.specs.TextLaws.{Outruns, OutrunsAmong}
use Rattle.stream_print.specs.TextLaws.{IsEnd}
use Rattle.stream_print.specs.declared.printer.Printer.{Printer}
use Rattle.stream_print.specs.declared.reader.StreamReader.{StreamReader}
use Rattle.stream_print.specs.declared.failure.StreamTrouble.{StreamTrouble}
use Rattle.stream_print.specs.declared.failure.StreamTrouble.TheVariants.{TooLong}
use Rattle.stream_print.proofs.Carriers.{blocks_split, blocks_longer, trouble_lasts, counts_behind}
use Rattle.stream_print.proofs.Printing.{prints_more, prints_whole, prints_written, puts_after, puts_longer, such_more, such_then}
use Rattle.stream_print.proofs.Streaming.{texts_joined, begin_joined, begin_longer, texts_begin}
use Rattle.stream_print.proofs.Venues.{lines_are, shown_are}

-- ---- Texts of longer bytes
module _ (form : StreamForm) (xs ys all : List Block) (are : all ≡ xs ++ ys) where
  texts_then : (t u : List ℕ) → AreTexts form xs t → AreTextsAfter form (reverse xs) ys u → AreTexts form all (t ++ u)
  texts_then t u one other = texts_joined form [] xs ys all are t u one (subst (λ (bs : List Block). AreTextsAfter form bs ys u) (sym (append-nil (reverse xs))) other)

  begin_then : (t u : List ℕ) → AreTexts form xs t → BeginTextsAfter form (reverse xs) ys u → BeginTexts form all (t ++ u)
  begin_then t u one other = begin_joined form [] xs ys all are t u one (subst (λ (bs : List Block). BeginTextsAfter form bs ys u) (sym (append-nil (reverse xs))) other)

  begin_more : (t : List ℕ) → BeginTexts form xs t → BeginTexts form all t
  begin_more t some = begin_longer form [] xs ys all are t some

-- some prefix of the texts of fewer bytes is some prefix of those of more
pub puts_texts : (carrier : Carrier) (form : StreamForm) (a b : Option (List ℕ)) (bytes piece : List ℕ) → PutsSuch (BeginTexts form (carried_blocks carrier bytes)) a [] b
    → PutsSuch (BeginTexts form (carried_blocks carrier (bytes ++ piece))) a [] b
puts_texts carrier form a b bytes piece p =
    let longer = blocks_longer carrier bytes piece in
    record { text = p.text; puts = p.puts; such = begin_more form (carried_blocks carrier bytes) longer.0 (carried_blocks carrier (bytes ++ piece)) longer.1 p.text p.such }

-- what was printed, once the page is written out
pub prints_out : (a b c : Option (List ℕ)) (t x : List ℕ) → Prints a [] b t x → Grows b c t → Grows a c x
prints_out a b c t x p g = prints_whole a c [] x (subst (Prints a [] c []) (append-nil x) (prints_more a b c [] t [] x [] p (record {
  count = length t;
  within = omega (arith, length-append t []);
  written = subst (Grows b c) (sym (take-append-le (length t) t [] (omega arith) ∙ take-length t)) g;
  rest = sym (ap (drop (length t)) (append-nil t) ∙ drop-length t);
})))

-- all that was printed was written, since nothing stands on the page
pub fed_printed : (carrier : Carrier) (form : StreamForm) (start u : Option (List ℕ)) (f : Printer) (r : StreamReader) (bytes : List ℕ) → (fed : Fed carrier form start u f r bytes) → Prints start [] u f.page.text fed.wrote.text
fed_printed carrier form start u f r bytes fed = subst (λ (t : List ℕ). Prints start [] u t fed.wrote.text) (sym fed.empty) (prints_written start u fed.wrote.text fed.wrote.wrote)

fed_texts : (carrier : Carrier) (form : StreamForm) (start u : Option (List ℕ)) (f : Printer) (r : StreamReader) (bytes : List ℕ) → Fed carrier form start u f r bytes → PrintsSuch (AreTexts form (carried_blocks carrier bytes)) start [] u f.page.text
fed_texts carrier form start u f r bytes fed = record { text = fed.wrote.text; printed = fed_printed carrier form start u f r bytes fed; such = fed.wrote.are_texts }

-- the texts of the blocks that a piece more completes
printed_more : (carrier : Carrier) (form : StreamForm) (start u v : Option (List ℕ)) (f g : Printer) (r s : StreamReader) (bytes piece : List ℕ) → Fed carrier form start u f r bytes → PrintsPiece f g r s piece u v
    → PrintsSuch (AreTexts form (carried_blocks carrier (bytes ++ piece))) start [] v g.page.text
printed_more carrier form start u v f g r s bytes piece fed all =
    let xs : List Block = carried_blocks carrier bytes in
    let more : List Block = blocks_with r piece in
    let whole : List Block = carried_blocks carrier (bytes ++ piece) in
    such_more (AreTexts form xs) (AreTextsAfter form (reverse xs) more) (AreTexts form whole) (texts_then form xs more whole (blocks_split carrier r bytes piece fed.read))
    start u v [] f.page.text g.page.text (fed_texts carrier form start u f r bytes fed)
    (subst (λ (k : StreamForm). PrintsSuch (AreTextsAfter k (reverse xs) more) u f.page.text v g.page.text) fed.form_is (all.prints.printed (reverse xs) fed.known))

-- a piece more, after which the page was written out
pub fed_piece : (carrier : Carrier) (form : StreamForm) (start u v w : Option (List ℕ)) (f g h : Printer) (r s : StreamReader) (bytes piece : List ℕ) → Fed carrier form start u f r bytes
    → PrintsPiece f g r s piece u v → Grows v w g.page.text → h ≡ record g { page = record g.page { text = [] } } → Fed carrier form start w h s (bytes ++ piece)
fed_piece carrier form start u v w f g h r s bytes piece fed all grows emptied =
    let more : List Block = blocks_with r piece in
    let few = fed.few in
    let few' = all.few in
    let joined = length-append bytes piece in
    let split : reverse (carried_blocks carrier (bytes ++ piece)) ≡ reverse more ++ reverse (carried_blocks carrier bytes) =
    ap reverse (blocks_split carrier r bytes piece fed.read) ∙ reverse-append (carried_blocks carrier bytes) more in
    let known : HasPrinted g (reverse (carried_blocks carrier (bytes ++ piece))) = subst (HasPrinted g) (sym split) (all.prints.known (reverse (carried_blocks carrier bytes)) fed.known) in
    let printed = printed_more carrier form start u v f g r s bytes piece fed all in
    subst (λ (p : Printer). Fed carrier form start w p s (bytes ++ piece)) (sym emptied) (record {
      suits = fed.suits;
      form_is = all.prints.form_is ∙ fed.form_is;
      read = all.read carrier bytes fed.read;
      known = record { number_is = known.number_is; knows = known.knows };
      empty = refl;
      wrote = record { text = printed.text; wrote = prints_out start v w g.page.text printed.text printed.printed grows; are_texts = printed.such };
      few = omega (arith, few, few', joined);
    })

-- a sink that fails when the page is written out after a piece
pub fed_unflushed : (carrier : Carrier) (form : StreamForm) (start u v w : Option (List ℕ)) (f g : Printer) (r s : StreamReader) (bytes piece : List ℕ) → Fed carrier form start u f r bytes → PrintsPiece f g r s piece u v
    → PutsSome v w g.page.text → PutsSuch (BeginTexts form (carried_blocks carrier (bytes ++ piece))) start [] w
fed_unflushed carrier form start u v w f g r s bytes piece fed all puts =
    let printed = printed_more carrier form start u v f g r s bytes piece fed all in
    record {
      text = printed.text;
      puts = puts_after start v w [] g.page.text printed.text printed.printed puts;
      such = texts_begin form [] (carried_blocks carrier (bytes ++ piece)) printed.text printed.such;
    }

-- a sink that fails at a piece
pub fed_fails : (carrier : Carrier) (form : StreamForm) (start u v : Option (List ℕ)) (f : Printer) (r : StreamReader) (bytes piece : List ℕ) → Fed carrier form start u f r bytes
    → PutsSuch (BeginTextsAfter form (reverse (carried_blocks carrier bytes)) (blocks_with r piece)) u f.page.text v → PutsSuch (BeginTexts form (carried_blocks carrier (bytes ++ piece))) start [] v
fed_fails carrier form start u v f r bytes piece fed fails =
    let xs : List Block = carried_blocks carrier bytes in
    let more : List Block = blocks_with r piece in
    let whole : List Block = carried_blocks carrier (bytes ++ piece) in
    such_then (AreTexts form xs) (BeginTextsAfter form (reverse xs) more) (BeginTexts form whole) (begin_then form xs more whole (blocks_split carrier r bytes piece fed.read))
    start u v [] f.page.text (fed_texts carrier form start u f r bytes fed) fails

-- ---- The sequences are never spent
never_outruns : (carrier : Carrier) (form : StreamForm) (bytes : List ℕ) (done left : List Block) (block : Block) → Suits carrier form → length bytes ≤ 1073741824 → carried_blocks carrier bytes ≡ done ++ (block ∷ left)
    → Outruns form (reverse done) block → ⊥
never_outruns carrier (Follow hold) bytes done left block suits small are spent = spent
never_outruns carrier Show bytes done left block suits small are spent = spent
never_outruns carrier (Relay hold) bytes done left block bare small are spent =
    let few = heard_within block.unit bytes done left block (ap (λ (k : Carrier). carried_blocks k bytes) (sym bare) ∙ are) in
    absurd (omega (arith, few, small, spent))
never_outruns carrier (Quotes hold) bytes done left block suits small are spent = spent

-- within the limit no block outruns the last sequence
pub never_spent : (carrier : Carrier) (form : StreamForm) (start u : Option (List ℕ)) (f : Printer) (r : StreamReader) (bytes piece : List ℕ) → Fed carrier form start u f r bytes → length (bytes ++ piece) ≤ 1073741824
    → OutrunsAmong form (reverse (carried_blocks carrier bytes)) (blocks_with r piece) → ⊥
never_spent carrier form start u f r bytes piece fed small o =
    let xs : List Block = carried_blocks carrier bytes in
    never_outruns carrier form (bytes ++ piece) (xs ++ o.done) o.left o.block fed.suits small
    (blocks_split carrier r bytes piece fed.read ∙ ap (λ (bs : List Block). xs ++ bs) o.blocks_are ∙ sym (append_assoc xs o.done (o.block ∷ o.left)))
    (subst (λ (bs : List Block). Outruns form bs o.block) (sym (reverse-append xs o.done)) o.outruns)

-- ---- How it ends
pub take_prefix : (most : ℕ) (bytes more : List ℕ) → length bytes ≤ most → take most (bytes ++ more) ≡ bytes ++ take (most - length bytes) more
take_prefix most [] more le = ap (λ (n : ℕ). take n more) (omega arith)
take_prefix zero (x ∷ bytes) more le = absurd (omega arith)
take_prefix (suc most) (x ∷ bytes) more le = ap (λ (l : List ℕ). x ∷ l) (take_prefix most bytes more (omega arith) ∙ ap (λ (n : ℕ). bytes ++ take n more) (omega arith))

pub take_all : (most : ℕ) (bytes : List ℕ) → length bytes ≤ most → take most bytes ≡ bytes
take_all most bytes le =
    ap (take most) (sym (append-nil bytes)) ∙ take_prefix most bytes [] le ∙ ap (λ (l : List ℕ). bytes ++ l) (take_none (most - length bytes)) ∙ append-nil bytes
  where
    take_none : (n : ℕ) → ◌≡◌ {A = List ℕ} (take n []) []
    take_none zero = refl
    take_none (suc n) = refl

-- too many bytes
pub long_trouble : (carrier : Carrier) (most : ℕ) (bytes more : List ℕ) → length bytes ≡ most → 0 < length more → lasting_trouble carrier bytes ≡ None → trouble_of carrier most (bytes ++ more) ≡ Some TooLong
unfolding trouble_of
long_trouble carrier most bytes more size some none =
    let long : nat_lt most (length (bytes ++ more)) ≡ true = lt-ltb most (length (bytes ++ more)) (omega (arith, length-append bytes more, size, some)) in
    let rest = cond (nat_lt most (length (bytes ++ more))) (Some TooLong) (end_trouble carrier (bytes ++ more)) in
    ap (λ (o : Option StreamTrouble). or_trouble o rest) (ap (lasting_trouble carrier) (take_at bytes more most size) ∙ none)
    ∙ ap (λ (b : Bool). cond b (Some TooLong) (end_trouble carrier (bytes ++ more))) long

-- a trouble that lasts
pub lasts_trouble : (carrier : Carrier) (most : ℕ) (bytes more : List ℕ) (trouble : StreamTrouble) → length bytes ≤ most → lasting_trouble carrier bytes ≡ Some trouble
    → (trouble_of carrier most (bytes ++ more) ≡ Some trouble) × (carried_blocks carrier (take most (bytes ++ more)) ≡ carried_blocks carrier bytes)
unfolding trouble_of
lasts_trouble carrier most bytes more trouble le is =
    let prefix = take_prefix most bytes more le in
    let stays = trouble_lasts carrier bytes (take (most - length bytes) more) trouble is in
    let rest = cond (nat_lt most (length (bytes ++ more))) (Some TooLong) (end_trouble carrier (bytes ++ more)) in (
      ap (λ (o : Option StreamTrouble). or_trouble o rest) (ap (lasting_trouble carrier) prefix ∙ stays.0),
      ap (carried_blocks carrier) prefix ∙ stays.1,
    )

-- a stream that ended
pub ended : (carrier : Carrier) (most : ℕ) (bytes : List ℕ) → length bytes ≤ most → lasting_trouble carrier bytes ≡ None → trouble_of carrier most bytes ≡ end_trouble carrier bytes
unfolding trouble_of
ended carrier most bytes le none =
    let rest = cond (nat_lt most (length bytes)) (Some TooLong) (end_trouble carrier bytes) in
    ap (λ (o : Option StreamTrouble). or_trouble o rest) (ap (lasting_trouble carrier) (take_all most bytes le) ∙ none)
    ∙ ap (λ (b : Bool). cond b (Some TooLong) (end_trouble carrier bytes)) (le-ltb most (length bytes) le)

-- where the source tells its bytes, it has those that were taken and those that are left
pub has_more : (first now : Option (List ℕ)) (bytes : List ℕ) → Consumes first now bytes → (more : List ℕ) × Has first (bytes ++ more)
has_more None now bytes read = ([], tt)
has_more (Some all) None bytes read = absurd read
has_more (Some all) (Some left) bytes read = (left, read)

pub has_all : (first before now : Option (List ℕ)) (bytes : List ℕ) → Consumes first before bytes → IsAtEnd before × Keeps before now → Has first bytes × AreAll first now bytes
has_all None before now bytes read end = (tt, tt)
has_all (Some all) None now bytes read end = absurd read
has_all (Some all) (Some left) None bytes read end = absurd end.1
has_all (Some all) (Some left) (Some now) bytes read end =
    let whole : all ≡ bytes = read ∙ ap (λ (l : List ℕ). bytes ++ l) end.0 ∙ append-nil bytes in
    (whole, (whole, ap Some (end.1 ∙ end.0)))

-- a trouble that lasts, wherever the input ends
pub refuses_lasting : (carrier : Carrier) (form : StreamForm) (most : ℕ) (first now start written : Option (List ℕ)) (bytes extra : List ℕ) (trouble : StreamTrouble) → length bytes ≤ most → Consumes first now (bytes ++ extra)
    → lasting_trouble carrier bytes ≡ Some trouble → WritesTexts form (between start written) (carried_blocks carrier bytes) → Refuses carrier form most trouble (between first now) (between start written)
refuses_lasting carrier form most first now start written bytes extra trouble le read is wrote =
    let more = has_more first now (bytes ++ extra) read in
    let lasts = lasts_trouble carrier most bytes (extra ++ more.0) trouble le is in
    record {
      bytes = bytes ++ (extra ++ more.0);
      has = subst (Has first) (append_assoc bytes extra more.0) more.1;
      trouble_is = lasts.0;
      wrote = subst (WritesTexts form (between start written)) (sym lasts.1) wrote;
    }

pub refuses_long : (carrier : Carrier) (form : StreamForm) (most : ℕ) (first now start written : Option (List ℕ)) (bytes extra : List ℕ) → length bytes ≡ most → 0 < length extra → Consumes first now (bytes ++ extra)
    → lasting_trouble carrier bytes ≡ None → WritesTexts form (between start written) (carried_blocks carrier bytes) → Refuses carrier form most TooLong (between first now) (between start written)
refuses_long carrier form most first now start written bytes extra size some read none wrote =
    let more = has_more first now (bytes ++ extra) read in
    record {
      bytes = bytes ++ (extra ++ more.0);
      has = subst (Has first) (append_assoc bytes extra more.0) more.1;
      trouble_is = long_trouble carrier most bytes (extra ++ more.0) size (omega (arith, length-append extra more.0, some)) none;
      wrote = subst (λ (bs : List ℕ). WritesTexts form (between start written) (carried_blocks carrier bs)) (sym (take_at bytes (extra ++ more.0) most size)) wrote;
    }

-- the input ended inside a block or a packet
pub refuses_end : (carrier : Carrier) (form : StreamForm) (most : ℕ) (first before now start written : Option (List ℕ)) (bytes : List ℕ) (trouble : StreamTrouble) → length bytes ≤ most → Consumes first before bytes → IsAtEnd before × Keeps before now
    → lasting_trouble carrier bytes ≡ None → end_trouble carrier bytes ≡ Some trouble → WritesTexts form (between start written) (carried_blocks carrier bytes) → Refuses carrier form most trouble (between first now) (between start written)
refuses_end carrier form most first before now start written bytes trouble le read end none is wrote = record {
  bytes = bytes;
  has = (has_all first before now bytes read end).0;
  trouble_is = ended carrier most bytes le none ∙ is;
  wrote = subst (λ (bs : List ℕ). WritesTexts form (between start written) (carried_blocks carrier bs)) (sym (take_all most bytes le)) wrote;
}

-- ---- The whole text
-- the texts of the blocks, and nothing at the end
no_end : (texts end : List ℕ) → ◌≡◌ {A = List ℕ} end [] → texts ++ end ≡ texts
no_end texts end is = ap (λ (t : List ℕ). texts ++ t) is ∙ append-nil texts

is_text : (carrier : Carrier) (form : StreamForm) (bytes texts end : List ℕ) → AreTexts form (carried_blocks carrier bytes) texts → IsEnd form (reverse (carried_blocks carrier bytes)) end → IsText carrier form bytes (with_counts carrier bytes (texts ++ end))
is_text carrier (Follow hold) bytes texts end are is = (
  texts ++ end,
  (record { books = end; are_books = is; text_is = ap (λ (t : List ℕ). t ++ end) (lines_are hold [] (carried_blocks carrier bytes) texts are) }, refl),
)
is_text carrier Show bytes texts end are is = ap (with_counts carrier bytes) (no_end texts end is ∙ shown_are [] (carried_blocks carrier bytes) texts are)
is_text carrier (Relay hold) bytes texts end are is = (texts, (are, ap (with_counts carrier bytes) (no_end texts end is)))
is_text carrier (Quotes hold) bytes texts end are is = (texts, (are, ap (with_counts carrier bytes) (no_end texts end is)))

-- all was written
pub writes_whole : (carrier : Carrier) (form : StreamForm) (most : ℕ) (first before now start written : Option (List ℕ)) (bytes texts end counts : List ℕ) → length bytes ≤ most → Consumes first before bytes → IsAtEnd before × Keeps before now
    → lasting_trouble carrier bytes ≡ None → end_trouble carrier bytes ≡ None → AreTexts form (carried_blocks carrier bytes) texts → IsEnd form (reverse (carried_blocks carrier bytes)) end
    → with_counts carrier bytes (texts ++ end) ≡ (texts ++ end) ++ counts
    → Grows start written ((texts ++ end) ++ counts) → WritesAll carrier form most (between first now) (between start written)
writes_whole carrier form most first before now start written bytes texts end counts le read ends none sound are is whole wrote = record {
  bytes = bytes;
  read = (has_all first before now bytes read ends).1;
  sound = ended carrier most bytes le none ∙ sound;
  text = with_counts carrier bytes (texts ++ end);
  is_text = is_text carrier form bytes texts end are is;
  wrote = subst (Grows start written) (sym whole) wrote;
}

-- a prefix of the texts was written
pub writes_texts : (carrier : Carrier) (form : StreamForm) (first now start written : Option (List ℕ)) (bytes : List ℕ) → Consumes first now bytes → PutsSuch (BeginTexts form (carried_blocks carrier bytes)) start [] written
    → WritesSome carrier form (between first now) (between start written)
writes_texts carrier form first now start written bytes read some = record { bytes = bytes; read = read; text = some.text; wrote = some.puts; is_text = inl some.such }

-- a prefix of the whole text was written
pub writes_prefix : (carrier : Carrier) (form : StreamForm) (first before now start written : Option (List ℕ)) (bytes texts end : List ℕ) → Consumes first now bytes → Consumes first before bytes → IsAtEnd before × Keeps before now
    → AreTexts form (carried_blocks carrier bytes) texts → IsEnd form (reverse (carried_blocks carrier bytes)) end → PutsSome start written (texts ++ end) → WritesSome carrier form (between first now) (between start written)
writes_prefix carrier form first before now start written bytes texts end read so_far ends are is puts =
    let behind = counts_behind carrier bytes (texts ++ end) in
    record {
      bytes = bytes;
      read = read;
      text = with_counts carrier bytes (texts ++ end);
      wrote = subst (PutsSome start written) (sym behind.1) (puts_longer start written (texts ++ end) behind.0 puts);
      is_text = inr ((has_all first before now bytes so_far ends).1, is_text carrier form bytes texts end are is);
    }

pub writes_counts : (carrier : Carrier) (form : StreamForm) (first before now start written : Option (List ℕ)) (bytes texts end counts : List ℕ) → Consumes first now bytes → Consumes first before bytes → IsAtEnd before × Keeps before now
    → AreTexts form (carried_blocks carrier bytes) texts → IsEnd form (reverse (carried_blocks carrier bytes)) end → with_counts carrier bytes (texts ++ end) ≡ (texts ++ end) ++ counts
    → PutsSome start written ((texts ++ end) ++ counts) → WritesSome carrier form (between first now) (between start written)
writes_counts carrier form first before now start written bytes texts end counts read so_far ends are is whole puts = record {
  bytes = bytes;
  read = read;
  text = with_counts carrier bytes (texts ++ end);
  wrote = subst (PutsSome start written) (sym whole) puts;
  is_text = inr ((has_all first before now bytes so_far ends).1, is_text carrier form bytes texts end are is);
}

-- what was kept of the bytes taken
pub consumes_more : (a b c : Option (List ℕ)) (x y : List ℕ) → Consumes a b x → Consumes b c y → Consumes a c (x ++ y)
consumes_more None b c x y g h = tt
consumes_more (Some p) None c x y g h = absurd g
consumes_more (Some p) (Some q) None x y g h = absurd h
consumes_more (Some p) (Some q) (Some r) x y g h = g ∙ ap (λ (l : List ℕ). x ++ l) h ∙ sym (append_assoc x y r)

pub consumes_kept : (a b c : Option (List ℕ)) (x : List ℕ) → Consumes a b x → Keeps b c → Consumes a c x
consumes_kept None b c x g h = tt
consumes_kept (Some p) None c x g h = absurd g
consumes_kept (Some p) (Some q) None x g h = absurd h
consumes_kept (Some p) (Some q) (Some r) x g h = g ∙ ap (λ (l : List ℕ). x ++ l) (sym h)

pub consumes_none : (a : Option (List ℕ)) → Consumes a a []
consumes_none None = tt
consumes_none (Some xs) = refl
