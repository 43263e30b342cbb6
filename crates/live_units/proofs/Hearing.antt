-- The blocks of a datagram, heard one after another.
use Rattle.std.proofs.Common.{◌≡◌, ℕ, ◌+◌, ◌≤◌, suc, Bool, true, false, not, cond, List, [], ◌∷◌, ◌++◌, length, refl, sym, ap, ◌∙◌, subst, append_assoc, arith, Option, length-append, ◌<◌, ◌^◌, ◌≢◌, Result, Ok, Err, true≢false}
use Rattle.std.specs.List.{AllByRecursion, count_by}
use Rattle.std.specs.Result.{IsErr, IsErrAnd}
use Rattle.std.proofs.lemmas.List.{append-nil}
use Rattle.std.proofs.lemmas.List.Sums.{sum_by-append}
use Rattle.unit_packets.specs.Blocks.{Block}
use Rattle.unit_packets.specs.Cutting.{blocks_of, rest_of}
use Rattle.unit_packets.proofs.Walking.{Walked, walked_none, walked_more, walked_all}
use Rattle.client_end.specs.Came.{Heard}
use Rattle.sending_end.specs.declared.end.Passed.{Passed}
use Rattle.sending_end.proofs.Hearing.{few_blocks}
use Rattle.stream_print.specs.Putting.{PutsSome}
use Rattle.stream_print.proofs.Printing.{puts_longer}
use Rattle.live_units.specs.Coming.{HasBeatsAlone, LiveSetup, UnitCame, block_count, came_to, end_setup, has_unit, live_lines, passed_of, to_unit, with_blocks, with_came, with_datagram}
use Rattle.live_units.specs.LiveText.{came_text}
use Rattle.live_units.specs.Units.{AllWait, HasGrown, LiveStands, OfLive}
use Rattle.stream_print.specs.declared.failure.PrintError.{PrintError}
use Rattle.stream_print.specs.declared.failure.PrintError.TheVariants as printing
use Rattle.live_units.specs.declared.units.LiveUnits.{LiveUnits}
use Rattle.live_units.proofs.Growing.{grown_more, grown_none}

module _ (s : LiveSetup) where
  pub with_rest : (done more : List Block) (came : List UnitCame) → with_blocks s (done ++ more) came ≡ with_blocks s more (with_blocks s done came)
  with_rest [] more came = refl
  with_rest (block ∷ done) more came = with_rest done more (with_came s (to_unit block.unit (Heard block)) came)

  -- ---- More blocks have more lines
  one_line : (next : UnitCame) (came : List UnitCame) → (more : List ℕ) × (live_lines s (with_came s next came) ≡ live_lines s came ++ more)
  one_line next came = by (has_unit s next.unit)
    where
      by : (b : Bool) → (more : List ℕ) × (live_lines s (cond b (next ∷ came) came) ≡ live_lines s came ++ more)
      by true = (came_text (end_setup s next.unit) (block_count came + 1) next.came (came_to next.unit came), refl)
      by false = ([], sym (append-nil (live_lines s came)))

  more_lines : (blocks : List Block) (came : List UnitCame) → (more : List ℕ) × (live_lines s (with_blocks s blocks came) ≡ live_lines s came ++ more)
  more_lines [] came = ([], sym (append-nil (live_lines s came)))
  more_lines (block ∷ blocks) came =
      let one = one_line (to_unit block.unit (Heard block)) came in
      let rest = more_lines blocks (with_came s (to_unit block.unit (Heard block)) came) in
      (one.0 ++ rest.0, rest.1 ∙ ap (λ (t : List ℕ). t ++ rest.0) one.1 ∙ append_assoc (live_lines s came) one.0 rest.0)

  puts_blocks : (a b : Option (List ℕ)) (blocks : List Block) (came : List UnitCame) → PutsSome a b (live_lines s came) → PutsSome a b (live_lines s (with_blocks s blocks came))
  puts_blocks a b blocks came puts =
      let more = more_lines blocks came in
      subst (PutsSome a b) (sym more.1) (puts_longer a b (live_lines s came) more.0 puts)

  -- ---- How many
  abbrev heard_of : List Block → ℕ
  heard_of blocks = count_by (λ (block : Block). has_unit s block.unit) blocks

  abbrev others_of : List Block → ℕ
  others_of blocks = count_by (λ (block : Block). not (has_unit s block.unit)) blocks

  one_heard : (done : List Block) (block : Block) (b : Bool) → b ≡ has_unit s block.unit → heard_of (done ++ block ∷ []) ≡ heard_of done + cond b 1 0
  one_heard done block b is =
      let split : heard_of (done ++ block ∷ []) ≡ heard_of done + heard_of (block ∷ []) = sum_by-append (λ (x : Block). cond (has_unit s x.unit) 1 0) done (block ∷ []) in
      let here : heard_of (block ∷ []) ≡ 0 + cond b 1 0 = sym (ap (λ (c : Bool). 0 + cond c 1 0) is) in
      omega (arith, split, here)

  one_other : (done : List Block) (block : Block) (b : Bool) → b ≡ has_unit s block.unit → others_of (done ++ block ∷ []) ≡ others_of done + cond b 0 1
  one_other done block b is =
      let split : others_of (done ++ block ∷ []) ≡ others_of done + others_of (block ∷ []) = sum_by-append (λ (x : Block). cond (not (has_unit s x.unit)) 1 0) done (block ∷ []) in
      let here : others_of (block ∷ []) ≡ 0 + cond (not b) 1 0 = sym (ap (λ (c : Bool). 0 + cond (not c) 1 0) is) in
      let turned : ◌≡◌ {A = ℕ} (cond (not b) 1 0) (cond b 0 1) = by b in
      omega (arith, split, here, turned)
    where
      by : (b : Bool) → ◌≡◌ {A = ℕ} (cond (not b) 1 0) (cond b 0 1)
      by true = refl
      by false = refl

-- ---- Blocks without messages
abbrev IsBeat : Block → Type 0
IsBeat block = block.raws ≡ []

all_at : (xs ys : List Block) (x : Block) → AllByRecursion IsBeat (xs ++ x ∷ ys) → IsBeat x
all_at [] ys x all = all.0
all_at (y ∷ xs) ys x all = all_at xs ys x all.1

-- the error that a `?` answers is that of the call
pub not_memory : {A B : Type 0} (answer : Result A PrintError) (error : PrintError) → IsErr answer × IsErrAnd answer (λ e. e ≡ error) → ◌≢◌ {A = Result B PrintError} (Err error) (Err printing.OutOfMemory) → ◌≢◌ {A = Result A PrintError} answer (Err printing.OutOfMemory)
not_memory (Ok done) error is other = absurd (true≢false (sym is.0))
not_memory (Err e) error is other = λ same.
    let here : e ≡ printing.OutOfMemory = cc in
    other (ap Err (sym is.1 ∙ here))

-- ---- A loop over the blocks of a datagram
pub record HeardTo (old now : LiveUnits) (w v : Option (List ℕ)) (bytes left : List ℕ) (heard others : ℕ) : Type 0 where
  pub done : List Block
  pub walked : Walked bytes left done
  pub stand : OfLive old w (λ s start came. LiveStands s start v now (with_blocks s done came))
  pub grown : OfLive old w (λ s start came. HasGrown w v)
  pub heard_is : OfLive old w (λ s start came. heard ≡ heard_of s done)
  pub others_are : OfLive old w (λ s start came. others ≡ others_of s done)
  pub wait : AllWait old now
  pub few : now.number ≤ old.number + length done
  pub all : heard + others ≡ length done

pub heard_none : (l : LiveUnits) (w : Option (List ℕ)) (bytes left : List ℕ) → left ≡ bytes → HeardTo l l w w bytes left 0 0
heard_none l w bytes left same = record {
  done = [];
  walked = walked_none bytes left same;
  stand = λ s start came st. st;
  grown = λ s start came st. grown_none w;
  heard_is = λ s start came st. refl;
  others_are = λ s start came st. refl;
  wait = λ unit session. refl;
  few = omega arith;
  all = refl;
}

module _ (old now : LiveUnits) (w v : Option (List ℕ)) (bytes left : List ℕ) (heard others : ℕ) (so : HeardTo old now w v bytes left heard others) where
  pub heard_few : (block : Block) (more : List Block) → blocks_of left ≡ block ∷ more → suc (heard + others) ≤ length bytes
  heard_few block more first =
      let few = few_blocks bytes in
      let all : length (so.done ++ block ∷ more) ≡ length (blocks_of bytes) = ap (λ (blocks : List Block). length (so.done ++ blocks)) (sym first) ∙ ap length so.walked.blocks in
      let split = length-append so.done (block ∷ more) in
      omega (arith, few, all, split, so.all)

  module _ (less : List ℕ) (block : Block) (first : blocks_of left ≡ block ∷ blocks_of less) where
    pub heard_more : (new : LiveUnits) (z : Option (List ℕ)) (b : Bool) (heard' others' : ℕ) → rest_of less ≡ rest_of left
        → OfLive now v (λ s start came. LiveStands s start z new (with_came s (to_unit block.unit (Heard block)) came)) → OfLive now v (λ s start came. HasGrown v z) → OfLive now v (λ s start came. b ≡ has_unit s block.unit) → AllWait now new → new.number ≤ now.number + 1
        → heard' ≡ heard + cond b 1 0 → others' ≡ others + cond b 0 1 → cond b 1 0 + cond b 0 1 ≡ 1 → HeardTo old new w z bytes less heard' others'
    heard_more new z b heard' others' rest stands grows is waits number one other both = record {
      done = so.done ++ block ∷ [];
      walked = walked_more bytes left less so.done block so.walked first rest;
      stand = λ s start came st. subst (LiveStands s start z new) (sym (with_rest s so.done (block ∷ []) came)) (stands s start (with_blocks s so.done came) (so.stand s start came st));
      grown = λ s start came st. grown_more w v z (so.grown s start came st) (grows s start (with_blocks s so.done came) (so.stand s start came st));
      heard_is = λ s start came st.
          let ours = is s start (with_blocks s so.done came) (so.stand s start came st) in
          one ∙ ap (λ (n : ℕ). n + cond b 1 0) (so.heard_is s start came st) ∙ sym (one_heard s so.done block b ours);
      others_are = λ s start came st.
          let ours = is s start (with_blocks s so.done came) (so.stand s start came st) in
          other ∙ ap (λ (n : ℕ). n + cond b 0 1) (so.others_are s start came st) ∙ sym (one_other s so.done block b ours);
      wait = λ unit session. waits unit session ∙ so.wait unit session;
      few =
          let split : length (so.done ++ block ∷ []) ≡ length so.done + 1 = length-append so.done (block ∷ []) in
          let so_far = so.few in
          omega (arith, split, so_far, number);
      all =
          let split : length (so.done ++ block ∷ []) ≡ length so.done + 1 = length-append so.done (block ∷ []) in
          let so_far = so.all in
          omega (arith, split, so_far, one, other, both);
    }

    -- where no block has messages, this one has none
    pub heard_beat : OfLive old w (λ s start came. HasBeatsAlone bytes came → (block.raws ≡ []) × (now.number + 1 < 2 ^ 64))
    heard_beat s start came st alone =
        let are : so.done ++ block ∷ blocks_of less ≡ blocks_of bytes = ap (λ (blocks : List Block). so.done ++ blocks) (sym first) ∙ so.walked.blocks in
        let split : length (so.done ++ block ∷ blocks_of less) ≡ length so.done + length (block ∷ blocks_of less) = length-append so.done (block ∷ blocks_of less) in
        let more : length (block ∷ blocks_of less) ≡ length (blocks_of less) + 1 = omega arith in
        let same : length (so.done ++ block ∷ blocks_of less) ≡ length (blocks_of bytes) = ap length are in
        let so_far = so.few in
        let number = st.number_is in
        let few = alone.few in
        (all_at so.done (blocks_of less) block (subst (AllByRecursion IsBeat) (sym are) alone.beats), omega (arith, split, more, same, so_far, number, few))

  -- a block was not heard
  pub heard_begun : (z : Option (List ℕ)) → OfLive now v (λ s start came. PutsSome start z (live_lines s came)) → OfLive old w (λ s start came. PutsSome start z (live_lines s (with_datagram s bytes came)))
  heard_begun z fails s start came st =
      subst (λ (blocks : List Block). PutsSome start z (live_lines s (with_blocks s blocks came))) so.walked.blocks
      (subst (λ (all : List UnitCame). PutsSome start z (live_lines s all)) (sym (with_rest s so.done (blocks_of left) came))
      (puts_blocks s start z (blocks_of left) (with_blocks s so.done came) (fails s start (with_blocks s so.done came) (so.stand s start came st))))

  pub heard_grown : (z : Option (List ℕ)) → OfLive now v (λ s start came. HasGrown v z) → OfLive old w (λ s start came. HasGrown w z)
  heard_grown z grows s start came st = grown_more w v z (so.grown s start came st) (grows s start (with_blocks s so.done came) (so.stand s start came st))

  -- none is left
  module _ (none : blocks_of left ≡ []) where
    all_done : so.done ≡ blocks_of bytes
    all_done = walked_all bytes left so.done so.walked none

    pub heard_all : OfLive old w (λ s start came. LiveStands s start v now (with_datagram s bytes came))
    heard_all s start came st = subst (λ (blocks : List Block). LiveStands s start v now (with_blocks s blocks came)) all_done (so.stand s start came st)

    pub counted_all : (rest : ℕ) → rest ≡ length (rest_of bytes) → OfLive old w (λ s start came. ◌≡◌ {A = Passed} (record { heard = heard; others = others; rest = rest }) (passed_of s bytes))
    counted_all rest is s start came st =
        ap (λ (n : ℕ). passed n others rest) (so.heard_is s start came st ∙ ap (heard_of s) all_done)
        ∙ ap (λ (n : ℕ). passed (heard_of s (blocks_of bytes)) n rest) (so.others_are s start came st ∙ ap (others_of s) all_done)
        ∙ ap (passed (heard_of s (blocks_of bytes)) (others_of s (blocks_of bytes))) is
      where
        passed : ℕ → ℕ → ℕ → Passed
        passed heard others rest = record { heard = heard; others = others; rest = rest }
