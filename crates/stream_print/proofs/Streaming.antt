-- Blocks that are printed one after another, and packets that are.
use Rattle.std.proofs.Common.{◌≡◌, ℕ, ◌+◌, ◌-◌, ◌*◌, ◌≤◌, List, [], ◌∷◌, ◌++◌, length, drop, reverse, refl, sym, ap, ◌∙◌, subst, arith, append_assoc, Option}
use Rattle.std.proofs.lemmas.List.{append-nil, length-drop, reverse-append}
use Rattle.pitch_fields.proofs.Lists.{reverse_then}
use Rattle.unit_packets.specs.Blocks.{Block}
use Rattle.unit_packets.specs.Cutting.{blocks_of, rest_of}
use Rattle.unit_packets.specs.Lending.{header_for}
use Rattle.unit_packets.specs.Held.{StandsFirst}
use Rattle.unit_packets.proofs.Streams.{leads}
use Rattle.unit_packets.proofs.Cuts.{rest_short, rest_stands}
use Rattle.unit_packets.proofs.Walking.{Walked, walked_none, walked_more, walked_all}
use Rattle.stream_print.specs.Knowing.{task_form, HasPrinted}
use Rattle.stream_print.specs.Page.{Prints, PrintsSuch}
use Rattle.stream_print.specs.Printing.{PrintsBlock, PrintsBlocks, Fails, FailsBlock, FailsBlocks, PrintsWhole}
use Rattle.stream_print.specs.Putting.{PutsSome}
use Rattle.stream_print.specs.Sinks.{PutsSuch}
use Rattle.stream_print.specs.Texts.{IsBlockText, AreTextsAfter, BeginTextsAfter}
use Rattle.stream_print.specs.TextLaws.{Outruns, OutrunsAmong}
use Rattle.stream_print.specs.declared.failure.TaskError.{TaskError}
use Rattle.stream_print.specs.declared.failure.TaskError.TheVariants.{SequencesSpent, Write, OutOfMemory}
use Rattle.stream_print.specs.declared.printer.Printer.{Printer}
use Rattle.stream_print.specs.declared.stream_form.StreamForm.{StreamForm}
use Rattle.stream_print.proofs.Flow.{grows_none}
use Rattle.stream_print.proofs.Printing.{prints_none, such_more, such_then}

-- ---- Blocks behind others
pub reverse_append : (xs ys before : List Block) → reverse (xs ++ ys) ++ before ≡ reverse ys ++ (reverse xs ++ before)
reverse_append xs [] before = ap (λ (bs : List Block). reverse bs ++ before) (append-nil xs)
reverse_append xs (y ∷ ys) before =
    ap (λ (bs : List Block). reverse bs ++ before) (sym (append_assoc xs (y ∷ []) ys))
    ∙ reverse_append (xs ++ y ∷ []) ys before
    ∙ ap (λ (bs : List Block). reverse ys ++ bs) (reverse_then xs y before)
    ∙ sym (append_assoc (reverse ys) (y ∷ []) (reverse xs ++ before))
    ∙ ap (λ (bs : List Block). bs ++ (reverse xs ++ before)) (sym (reverse_first y ys))
  where
    reverse_first : (y : Block) (ys : List Block) → reverse (y ∷ ys) ≡ reverse ys ++ y ∷ []
    reverse_first y ys = reverse-append (y ∷ []) ys

-- ---- The texts of blocks behind those of others
texts_then : (form : StreamForm) (xs before ys : List Block) (t u : List ℕ) → AreTextsAfter form before xs t → AreTextsAfter form (reverse xs ++ before) ys u → AreTextsAfter form before (xs ++ ys) (t ++ u)
texts_then form [] before ys t u one other = subst (λ (l : List ℕ). AreTextsAfter form before ys (l ++ u)) (sym one) other
texts_then form (x ∷ xs) before ys t u (first, (here, (others, (are, is)))) other =
    let behind : AreTextsAfter form (reverse xs ++ (x ∷ before)) ys u = subst (λ (bs : List Block). AreTextsAfter form bs ys u) (reverse_append (x ∷ []) xs before) other in
    (first, (here, (others ++ u, (texts_then form xs (x ∷ before) ys others u are behind, ap (λ (l : List ℕ). l ++ u) is ∙ append_assoc first others u))))

module _ (form : StreamForm) (before xs ys all : List Block) (are : all ≡ xs ++ ys) where
  pub texts_joined : (t u : List ℕ) → AreTextsAfter form before xs t → AreTextsAfter form (reverse xs ++ before) ys u → AreTextsAfter form before all (t ++ u)
  texts_joined t u one other = subst (λ (bs : List Block). AreTextsAfter form before bs (t ++ u)) (sym are) (texts_then form xs before ys t u one other)

  pub begin_joined : (t u : List ℕ) → AreTextsAfter form before xs t → BeginTextsAfter form (reverse xs ++ before) ys u → BeginTextsAfter form before all (t ++ u)
  begin_joined t u one other = record {
    done = xs ++ other.done;
    left = other.left;
    blocks_are = are ∙ ap (λ (bs : List Block). xs ++ bs) other.blocks_are ∙ sym (append_assoc xs other.done other.left);
    are_texts = texts_then form xs before other.done t u one other.are_texts;
  }

  -- what begins the texts of fewer blocks begins those of more
  pub begin_longer : (t : List ℕ) → BeginTextsAfter form before xs t → BeginTextsAfter form before all t
  begin_longer t some = record {
    done = some.done;
    left = some.left ++ ys;
    blocks_are = are ∙ ap (λ (bs : List Block). bs ++ ys) some.blocks_are ∙ append_assoc some.done some.left ys;
    are_texts = some.are_texts;
  }

-- nothing begins the texts of any blocks
pub begin_none : (form : StreamForm) (before blocks : List Block) → BeginTextsAfter form before blocks []
begin_none form before blocks = record { done = []; left = blocks; blocks_are = refl; are_texts = refl }

-- the texts of some blocks begin themselves
pub texts_begin : (form : StreamForm) (before blocks : List Block) (t : List ℕ) → AreTextsAfter form before blocks t → BeginTextsAfter form before blocks t
texts_begin form before blocks t are = record { done = blocks; left = []; blocks_are = sym (append-nil blocks); are_texts = are }

-- ---- A block more
pub prints_no_block : (p : Printer) (written : Option (List ℕ)) → PrintsBlocks p p written written []
prints_no_block p written = record {
  form_is = refl;
  known = λ before h. h;
  printed = λ before h. record {
    text = [];
    printed = prints_none written p.page.text;
    such = refl;
  };
}

one_text : (form : StreamForm) (before : List Block) (block : Block) (x : List ℕ) → IsBlockText form before block x → AreTextsAfter form before (block ∷ []) x
one_text form before block x is = (x, (is, ([], (refl, sym (append-nil x)))))

-- the text of a block was printed
pub prints_text : (form : StreamForm) (before : List Block) (block : Block) (a b : Option (List ℕ)) (t u x : List ℕ) → Prints a t b u x → IsBlockText form before block x → PrintsSuch (AreTextsAfter form before (block ∷ [])) a t b u
prints_text form before block a b t u x printed is = record { text = x; printed = printed; such = one_text form before block x is }

-- or some prefix of it
pub puts_text : (form : StreamForm) (before : List Block) (block : Block) (a b : Option (List ℕ)) (t x : List ℕ) → PutsSome a b (t ++ x) → IsBlockText form before block x → PutsSuch (BeginTextsAfter form before (block ∷ [])) a t b
puts_text form before block a b t x puts is = record { text = x; puts = puts; such = texts_begin form before (block ∷ []) x (one_text form before block x is) }

-- or of what stood on the page alone
pub puts_page : (form : StreamForm) (before : List Block) (block : Block) (a b : Option (List ℕ)) (t : List ℕ) → PutsSome a b t → PutsSuch (BeginTextsAfter form before (block ∷ [])) a t b
puts_page form before block a b t puts = record {
  text = [];
  puts = subst (PutsSome a b) (sym (append-nil t)) puts;
  such = begin_none form before (block ∷ []);
}

-- nothing was written
pub puts_nothing : (o : Option (List ℕ)) (t : List ℕ) → PutsSome o o t
puts_nothing o t = record { count = 0; within = omega arith; grows = grows_none o }

-- a printer's task printed a block
pub prints_one : (f g : Printer) (n : ℕ) (u v : Option (List ℕ)) (block : Block) → n ≡ f.number + 1 → g.number ≡ n → PrintsBlock f.task g.task n u f.page.text v g.page.text block → PrintsBlocks f g u v (block ∷ [])
prints_one f g n u v block more same one = record {
  form_is = one.form_is;
  known = λ before h. let count = h.number_is in record { number_is = omega (arith, count, more, same); knows = one.known before h.knows };
  printed = λ before h. let count = h.number_is in one.printed before h.knows (omega (arith, count, more));
}

pub fails_one : (f : Printer) (e : TaskError) (n : ℕ) (u v : Option (List ℕ)) (block : Block) → n ≡ f.number + 1 → FailsBlock e f.task n u f.page.text v block → FailsBlocks e f u v (block ∷ [])
fails_one f e n u v block more fails = λ before h. let count = h.number_is in fails before h.knows (omega (arith, count, more))

-- some blocks after others
pub prints_blocks_more : (f g h : Printer) (u v w : Option (List ℕ)) (blocks more : List Block) → PrintsBlocks f g u v blocks → PrintsBlocks g h v w more → PrintsBlocks f h u w (blocks ++ more)
prints_blocks_more f g h u v w blocks more some then = record {
  form_is = then.form_is ∙ some.form_is;
  known = λ before stands. subst (HasPrinted h) (sym (reverse_append blocks more before)) (then.known (reverse blocks ++ before) (some.known before stands));
  printed = λ before stands.
      let form = task_form f.task in
      let earlier : List Block = reverse blocks ++ before in
      such_more (AreTextsAfter form before blocks) (AreTextsAfter form earlier more) (AreTextsAfter form before (blocks ++ more))
      (texts_joined form before blocks more (blocks ++ more) refl) u v w f.page.text g.page.text h.page.text (some.printed before stands)
      (subst (λ (k : StreamForm). PrintsSuch (AreTextsAfter k earlier more) v g.page.text w h.page.text) some.form_is (then.printed earlier (some.known before stands)));
}

-- ---- Some blocks that are not printed, behind others
outruns_more : (form : StreamForm) (before all done more left : List Block) → all ≡ done ++ (more ++ left) → OutrunsAmong form (reverse done ++ before) more → OutrunsAmong form before all
outruns_more form before all done more left are o = record {
  done = done ++ o.done;
  block = o.block;
  left = o.left ++ left;
  blocks_are = are ∙ ap (λ (bs : List Block). done ++ (bs ++ left)) o.blocks_are
      ∙ ap (λ (bs : List Block). done ++ bs) (append_assoc o.done (o.block ∷ o.left) left) ∙ sym (append_assoc done o.done (o.block ∷ (o.left ++ left)));
  outruns = subst (λ (bs : List Block). Outruns form bs o.block) (sym (reverse_append done o.done before)) o.outruns;
}

-- some prefix of more was written
puts_more_blocks : (form : StreamForm) (before all done more left : List Block) (u v w : Option (List ℕ)) (t s : List ℕ) → all ≡ done ++ (more ++ left) → PrintsSuch (AreTextsAfter form before done) u t v s
    → PutsSuch (BeginTextsAfter form (reverse done ++ before) more) v s w → PutsSuch (BeginTextsAfter form before all) u t w
puts_more_blocks form before all done more left u v w t s are some fails =
    such_then (AreTextsAfter form before done) (BeginTextsAfter form (reverse done ++ before) (more ++ left)) (BeginTextsAfter form before all)
    (begin_joined form before done (more ++ left) all are) u v w t s some
    (record { text = fails.text; puts = fails.puts; such = begin_longer form (reverse done ++ before) more left (more ++ left) refl fails.text fails.such })

pub fails_more : (f g : Printer) (e : TaskError) (u v w : Option (List ℕ)) (all done more left : List Block) → all ≡ done ++ (more ++ left) → PrintsBlocks f g u v done → FailsBlocks e g v w more → FailsBlocks e f u w all
fails_more f g e u v w all done more left are some fails = λ before known.
    let earlier : List Block = reverse done ++ before in
    by before e (some.printed before known)
    (subst (λ (form : StreamForm). Fails e form earlier more v g.page.text w) some.form_is (fails earlier (some.known before known)))
  where
    by : (before : List Block) (e : TaskError) → PrintsSuch (AreTextsAfter (task_form f.task) before done) u f.page.text v g.page.text
        → Fails e (task_form f.task) (reverse done ++ before) more v g.page.text w → Fails e (task_form f.task) before all u f.page.text w
    by before SequencesSpent printed fails = outruns_more (task_form f.task) before all done more left are fails
    by before Write printed fails = puts_more_blocks (task_form f.task) before all done more left u v w f.page.text g.page.text are printed fails
    by before OutOfMemory printed fails = puts_more_blocks (task_form f.task) before all done more left u v w f.page.text g.page.text are printed fails

-- ---- The blocks of some bytes
-- the blocks in front of what is left were printed
pub record Taking (f f' : Printer) (bytes left : List ℕ) (written written' : Option (List ℕ)) : Type 0 where
  pub done : List Block
  pub prints : PrintsBlocks f f' written written' done
  pub walked : Walked bytes left done
  pub few : 8 * f'.number + length left ≤ 8 * f.number + length bytes

pub taking_start : (f : Printer) (bytes left : List ℕ) (written : Option (List ℕ)) → left ≡ bytes → Taking f f bytes left written written
taking_start f bytes left written same = record { done = []; prints = prints_no_block f written; walked = walked_none bytes left same; few = omega (arith, ap length same) }

pub taking_more : (f g h : Printer) (bytes left less : List ℕ) (u v w : Option (List ℕ)) (block : Block) → Taking f g bytes left u v → blocks_of left ≡ block ∷ blocks_of less → rest_of less ≡ rest_of left
    → StandsFirst left block × (less ≡ drop (header_for block).length left) → PrintsBlocks g h v w (block ∷ []) → h.number ≡ g.number + 1 → Taking f h bytes less u w
taking_more f g h bytes left less u v w block so_far first rest stands more number =
    let l = leads left block stands.0 in
    let few = so_far.few in
    let header = l.header in
    let fits = l.fits in
    record {
      done = so_far.done ++ block ∷ [];
      prints = prints_blocks_more f g h u v w so_far.done (block ∷ []) so_far.prints more;
      walked = walked_more bytes left less so_far.done block so_far.walked first rest;
      few = omega (arith, few, number, header, fits, ap length stands.1, length-drop (header_for block).length left);
    }

pub taking_end : (f g : Printer) (bytes left last : List ℕ) (u v : Option (List ℕ)) → Taking f g bytes left u v → blocks_of left ≡ [] → last ≡ rest_of left → PrintsWhole f g bytes (length bytes - length last) u v
taking_end f g bytes left last u v so_far none rest =
    let few = so_far.few in
    let end : last ≡ rest_of bytes = rest ∙ so_far.walked.rest in
    let short : length last ≤ length left = subst (λ (r : List ℕ). length r ≤ length left) (sym rest) (rest_short left) in
    record {
      prints = subst (PrintsBlocks f g u v) (walked_all bytes left so_far.done so_far.walked none) so_far.prints;
      within = omega arith;
      rest = rest_stands bytes ∙ ap (λ (r : List ℕ). drop (length bytes - length r) bytes) (sym end);
      few = omega (arith, few, short, ap length end, rest_short bytes);
    }

-- a block that is not printed, behind others
pub taking_fails : (f g : Printer) (e : TaskError) (bytes left less : List ℕ) (u v w : Option (List ℕ)) (block : Block) → Taking f g bytes left u v → blocks_of left ≡ block ∷ blocks_of less
    → FailsBlocks e g v w (block ∷ []) → FailsBlocks e f u w (blocks_of bytes)
taking_fails f g e bytes left less u v w block so_far first fails =
    fails_more f g e u v w (blocks_of bytes) so_far.done (block ∷ []) (blocks_of less)
    (sym so_far.walked.blocks ∙ ap (λ (bs : List Block). so_far.done ++ bs) first) so_far.prints fails
