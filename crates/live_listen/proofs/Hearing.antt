-- Blocks of a datagram that are heard one after another.
use Rattle.std.proofs.Common.{◌≡◌, ℕ, ◌+◌, Bool, true, false, not, cond, List, [], ◌∷◌, ◌++◌, refl, sym, ap, ◌∙◌, subst, arith, Option}
use Rattle.std.specs.Prelude.{filter}
use Rattle.std.specs.List.{count_by}
use Rattle.std.proofs.lemmas.List.Elements.{filter-append}
use Rattle.std.proofs.lemmas.List.Sums.{sum_by-append}
use Rattle.unit_packets.specs.Blocks.{Block}
use Rattle.unit_packets.specs.Cutting.{blocks_of, rest_of}
use Rattle.unit_packets.proofs.Walking.{Walked, walked_none, walked_more, walked_all}
use Rattle.stream_print.specs.Carriers.{is_faulty}
use Rattle.stream_print.specs.Knowing.{task_form}
use Rattle.stream_print.specs.Printing.{PrintsBlocks, FailsBlocks}
use Rattle.stream_print.specs.declared.failure.TaskError.{TaskError}
use Rattle.stream_print.specs.declared.failure.TaskError.TheVariants.{OutOfMemory}
use Rattle.stream_print.specs.declared.printer.Printer.{Printer}
use Rattle.stream_print.proofs.Streaming.{begin_none, prints_no_block, prints_blocks_more, fails_more, puts_nothing}
use Rattle.live_listen.specs.Counting.{is_stray}
use Rattle.live_listen.specs.Heard.{is_wanted, heard_in}
use Rattle.live_listen.specs.Standing.{HearsBlocks, Hears}
use Rattle.live_listen.specs.declared.listener.Listener.{Listener}

-- memory ran out before anything was printed
pub fails_unprinted : (p : Printer) (w : Option (List ℕ)) (blocks : List Block) → FailsBlocks OutOfMemory p w w blocks
fails_unprinted p w blocks = λ before known. record {
  text = [];
  puts = puts_nothing w (p.page.text ++ []);
  such = begin_none (task_form p.task) before blocks;
}

module _ (units : List ℕ) where
  pub hears_none : (l : Listener) (w : Option (List ℕ)) → HearsBlocks units l l w w []
  hears_none l w = record { prints = prints_no_block l.printer w; stray = omega arith; datagrams = refl; faulty = refl; place = refl }

  pub hears_more : (f g h : Listener) (u v w : Option (List ℕ)) (done more : List Block) → HearsBlocks units f g u v done → HearsBlocks units g h v w more → HearsBlocks units f h u w (done ++ more)
  hears_more f g h u v w done more a b =
      let one = a.stray in
      let two = b.stray in
      let both : count_by (is_stray units) (done ++ more) ≡ count_by (is_stray units) done + count_by (is_stray units) more = sum_by-append (λ (x : Block). cond (is_stray units x) 1 0) done more in
      record {
        prints = subst (PrintsBlocks f.printer h.printer u w) (sym (filter-append (is_wanted units) done more))
            (prints_blocks_more f.printer g.printer h.printer u v w (filter (is_wanted units) done) (filter (is_wanted units) more) a.prints b.prints);
        stray = omega (arith, one, two, both);
        datagrams = b.datagrams ∙ a.datagrams;
        faulty = b.faulty ∙ a.faulty;
        place = b.place ∙ a.place;
      }

  -- ---- One block
  pub hears_wanted : (l : Listener) (p : Printer) (u v : Option (List ℕ)) (block : Block) → is_wanted units block ≡ true → PrintsBlocks l.printer p u v (block ∷ []) → HearsBlocks units l (record l { printer = p }) u v (block ∷ [])
  hears_wanted l p u v block is prints =
      let none : count_by (is_stray units) (block ∷ []) ≡ 0 = ap (λ (b : Bool). 0 + cond (not b) 1 0) is in
      record {
        prints = subst (λ (b : Bool). PrintsBlocks l.printer p u v (cond b (block ∷ []) [])) (sym is) prints;
        stray = omega (arith, none);
        datagrams = refl;
        faulty = refl;
        place = refl;
      }

  pub hears_stray : (l : Listener) (n : ℕ) (w : Option (List ℕ)) (block : Block) → is_wanted units block ≡ false → n ≡ l.stray + 1 → HearsBlocks units l (record l { stray = n }) w w (block ∷ [])
  hears_stray l n w block is more =
      let one : count_by (is_stray units) (block ∷ []) ≡ 1 = ap (λ (b : Bool). 0 + cond (not b) 1 0) is in
      record {
        prints = subst (λ (b : Bool). PrintsBlocks l.printer l.printer w w (cond b (block ∷ []) [])) (sym is) (prints_no_block l.printer w);
        stray = omega (arith, one, more);
        datagrams = refl;
        faulty = refl;
        place = refl;
      }

  pub fails_wanted : (e : TaskError) (p : Printer) (u v : Option (List ℕ)) (block : Block) → is_wanted units block ≡ true → FailsBlocks e p u v (block ∷ []) → FailsBlocks e p u v (filter (is_wanted units) (block ∷ []))
  fails_wanted e p u v block is fails = subst (λ (b : Bool). FailsBlocks e p u v (cond b (block ∷ []) [])) (sym is) fails

  -- ---- The blocks of some bytes
  -- those in front of what is left were heard
  pub record Hearing (f g : Listener) (bytes left : List ℕ) (u v : Option (List ℕ)) : Type 0 where
    pub done : List Block
    pub hears : HearsBlocks units f g u v done
    pub walked : Walked bytes left done

  pub hearing_start : (f : Listener) (bytes left : List ℕ) (u : Option (List ℕ)) → left ≡ bytes → Hearing f f bytes left u u
  hearing_start f bytes left u same = record { done = []; hears = hears_none f u; walked = walked_none bytes left same }

  pub hearing_more : (f g h : Listener) (bytes left less : List ℕ) (u v w : Option (List ℕ)) (block : Block) → Hearing f g bytes left u v → blocks_of left ≡ block ∷ blocks_of less → rest_of less ≡ rest_of left
      → HearsBlocks units g h v w (block ∷ []) → Hearing f h bytes less u w
  hearing_more f g h bytes left less u v w block so_far first rest more = record {
    done = so_far.done ++ block ∷ [];
    hears = hears_more f g h u v w so_far.done (block ∷ []) so_far.hears more;
    walked = walked_more bytes left less so_far.done block so_far.walked first rest;
  }

  pub hearing_end : (f g : Listener) (bytes left : List ℕ) (u v : Option (List ℕ)) → Hearing f g bytes left u v → blocks_of left ≡ [] → HearsBlocks units f g u v (blocks_of bytes)
  hearing_end f g bytes left u v so_far none = subst (HearsBlocks units f g u v) (walked_all bytes left so_far.done so_far.walked none) so_far.hears

  pub hearing_fails : (f g : Listener) (e : TaskError) (bytes left less : List ℕ) (u v w : Option (List ℕ)) (block : Block) → Hearing f g bytes left u v → blocks_of left ≡ block ∷ blocks_of less
      → FailsBlocks e g.printer v w (filter (is_wanted units) (block ∷ [])) → FailsBlocks e f.printer u w (heard_in units bytes)
  hearing_fails f g e bytes left less u v w block so_far first fails =
      fails_more f.printer g.printer e u v w (heard_in units bytes) (filter (is_wanted units) so_far.done) (filter (is_wanted units) (block ∷ [])) (filter (is_wanted units) (blocks_of less))
      (ap (filter (is_wanted units)) (sym so_far.walked.blocks) ∙ filter-append (is_wanted units) so_far.done (blocks_of left)
      ∙ ap (λ (bs : List Block). filter (is_wanted units) so_far.done ++ bs) (ap (filter (is_wanted units)) first ∙ filter-append (is_wanted units) (block ∷ []) (blocks_of less)))
      so_far.hears.prints fails

  -- ---- A datagram
  -- its blocks were heard, and it was counted, among the faulty ones where it is one
  pub hears_datagram : (l g : Listener) (n k : ℕ) (b : Bool) (u v : Option (List ℕ)) (datagram : List ℕ) → n ≡ l.datagrams + 1 → HearsBlocks units (record l { datagrams = n }) g u v (blocks_of datagram)
      → is_faulty datagram ≡ b → k ≡ g.faulty + cond b 1 0 → Hears units l (record g { faulty = k }) u v datagram
  hears_datagram l g n k b u v datagram one hears is more =
      let stray = hears.stray in
      let came = hears.datagrams in
      let faulty = hears.faulty in
      let counted : count_by is_faulty (datagram ∷ []) ≡ 0 + cond b 1 0 = ap (λ (c : Bool). 0 + cond c 1 0) is in
      record {
        prints = hears.prints;
        stray = stray;
        datagrams = came ∙ one;
        faulty = omega (arith, faulty, more, counted);
        place = hears.place;
      }
