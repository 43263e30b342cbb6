-- The blocks of a datagram, heard one after another.
use Rattle.std.proofs.Common.{◌≡◌, ◌≤◌, ◌+◌, ℕ, zero, suc, List, [], ◌∷◌, ◌++◌, length, map, reverse, drop, sym, ap, subst, ◌∙◌, append_assoc, Result, Ok, Err, arith}
use Rattle.std.specs.Prelude.{◌==◌}
use Rattle.std.proofs.lemmas.List.{map-append, reverse-append, length-append}
use Rattle.std.proofs.lemmas.List.Elements.{filter-append}
use Rattle.unit_packets.specs.Blocks.{Block}
use Rattle.unit_packets.specs.Cutting.{blocks_of, blocks_by, blocks_on, rest_of}
use Rattle.unit_packets.specs.Judging.{judge}
use Rattle.unit_packets.specs.declared.header.Header.{Header}
use Rattle.unit_packets.specs.declared.header.BlockError.{BlockError}
use Rattle.unit_packets.proofs.Walking.{Walked, walked_more, walked_all}
use Rattle.client_end.specs.Came.{Came, Heard}
use Rattle.sending_end.specs.Stands.{SendingStands, HearsBlocks, HearsBegun, StaysSo, blocks_came}
use Rattle.sending_end.specs.Waiting.{of_unit}
use Rattle.sending_end.specs.declared.end.SendingEnd.{SendingEnd}

abbrev all_came : List Block → List Came
all_came blocks = map (λ (block : Block). Heard block) blocks

unit_append : (unit : ℕ) (done more : List Block) → of_unit unit (done ++ more) ≡ of_unit unit done ++ of_unit unit more
unit_append unit done more = filter-append (λ (block : Block). block.unit == unit) done more

came_append : (done more : List Block) (before : List Came) → blocks_came (done ++ more) before ≡ blocks_came more (blocks_came done before)
came_append done more before =
    ap (λ (all : List Came). reverse all ++ before) (map-append (λ (block : Block). Heard block) done more)
    ∙ ap (λ (all : List Came). all ++ before) (reverse-append (all_came done) (all_came more))
    ∙ append_assoc (reverse (all_came more)) (reverse (all_came done)) before

-- those of its unit, and then those of more blocks
came_then : (unit : ℕ) (done more : List Block) (before : List Came)
    → blocks_came (of_unit unit more) (blocks_came (of_unit unit done) before) ≡ blocks_came (of_unit unit (done ++ more)) before
came_then unit done more before = sym (ap (λ (blocks : List Block). blocks_came blocks before) (unit_append unit done more) ∙ came_append (of_unit unit done) (of_unit unit more) before)

pub hears_then : (old now new : SendingEnd) (done more : List Block) → HearsBlocks old now done → HearsBlocks now new more → HearsBlocks old new (done ++ more)
hears_then old now new done more first second = record {
  stands = λ s before is. subst (λ (came : List Came). SendingStands s new came)
      (ap (λ (unit : ℕ). blocks_came (of_unit unit more) (blocks_came (of_unit old.unit done) before)) first.same_unit ∙ came_then old.unit done more before)
      (second.stands s (blocks_came (of_unit old.unit done) before) (first.stands s before is));
  waits = record { proxy = second.waits.proxy ∙ first.waits.proxy; spin_server = second.waits.spin_server ∙ first.waits.spin_server };
  same_unit = second.same_unit ∙ first.same_unit;
}

pub hears_still : (old now new : SendingEnd) (done : List Block) → HearsBlocks old now done → StaysSo now new → new.unit ≡ now.unit → HearsBlocks old new done
hears_still old now new done first stays same = record {
  stands = λ s before is. stays.stands s (blocks_came (of_unit old.unit done) before) (first.stands s before is);
  waits = record { proxy = stays.waits.proxy ∙ first.waits.proxy; spin_server = stays.waits.spin_server ∙ first.waits.spin_server };
  same_unit = same ∙ first.same_unit;
}

-- ---- No more blocks than bytes
few_by : (n : ℕ) (bytes : List ℕ) → length (blocks_by n bytes) ≤ n
unfolding blocks_by
few_by zero bytes = omega arith
few_by (suc n) bytes = by (judge bytes) (few_by n)
  where
    by : (r : Result Header BlockError) → ((left : List ℕ) → length (blocks_by n left) ≤ n) → length (blocks_on (blocks_by n) bytes r) ≤ suc n
    by (Ok h) few = let less = few (drop h.length bytes) in omega (arith, less)
    by (Err e) few = omega arith

pub few_blocks : (bytes : List ℕ) → length (blocks_of bytes) ≤ length bytes
unfolding blocks_of
few_blocks bytes = few_by (length bytes) bytes

-- ---- A loop over the blocks of a datagram
pub record HeardTo (old now : SendingEnd) (bytes left : List ℕ) (heard others : ℕ) : Type 0 where
  pub done : List Block
  pub hears : HearsBlocks old now done
  pub walked : Walked bytes left done
  pub counted : heard ≡ length (of_unit old.unit done)
  pub all : heard + others ≡ length done

pub heard_few : (old now : SendingEnd) (bytes left : List ℕ) (heard others : ℕ) → HeardTo old now bytes left heard others → (block : Block) (more : List Block) → blocks_of left ≡ block ∷ more → suc (heard + others) ≤ length bytes
heard_few old now bytes left heard others so block more first =
    let few = few_blocks bytes in
    let all : length (so.done ++ block ∷ more) ≡ length (blocks_of bytes) = ap (λ (blocks : List Block). length (so.done ++ blocks)) (sym first) ∙ ap length so.walked.blocks in
    let split = length-append so.done (block ∷ more) in
    omega (arith, few, all, split, so.all)

pub heard_more : (old now new : SendingEnd) (bytes left less : List ℕ) (heard others heard' others' mine : ℕ) (block : Block) → HeardTo old now bytes left heard others
    → blocks_of left ≡ block ∷ blocks_of less → rest_of less ≡ rest_of left → HearsBlocks now new (block ∷ []) → length (of_unit now.unit (block ∷ [])) ≡ mine
    → heard' ≡ heard + mine → heard' + others' ≡ heard + others + 1 → HeardTo old new bytes less heard' others'
heard_more old now new bytes left less heard others heard' others' mine block so first rest hears count more one = record {
  done = so.done ++ block ∷ [];
  hears = hears_then old now new so.done (block ∷ []) so.hears hears;
  walked = walked_more bytes left less so.done block so.walked first rest;
  counted =
      let here : length (of_unit old.unit (block ∷ [])) ≡ mine = ap (λ (unit : ℕ). length (of_unit unit (block ∷ []))) (sym so.hears.same_unit) ∙ count in
      let split : length (of_unit old.unit (so.done ++ block ∷ [])) ≡ length (of_unit old.unit so.done) + length (of_unit old.unit (block ∷ [])) =
      ap length (unit_append old.unit so.done (block ∷ [])) ∙ length-append (of_unit old.unit so.done) (of_unit old.unit (block ∷ [])) in
      omega (arith, here, split, so.counted, more);
  all =
      let split : length (so.done ++ block ∷ []) ≡ length so.done + 1 = length-append so.done (block ∷ []) in
      omega (arith, split, so.all, one);
}

-- where none is left, all were heard
pub heard_all : (old now : SendingEnd) (bytes left : List ℕ) (heard others : ℕ) (so : HeardTo old now bytes left heard others) → blocks_of left ≡ [] → so.done ≡ blocks_of bytes
heard_all old now bytes left heard others so none = walked_all bytes left so.done so.walked none

-- where memory runs out at a block, those before it were heard
pub heard_begun : (old now new : SendingEnd) (bytes left less : List ℕ) (heard others : ℕ) (block : Block) → HeardTo old now bytes left heard others → blocks_of left ≡ block ∷ blocks_of less
    → StaysSo now new → new.unit ≡ now.unit → block.unit ≡ now.unit → (block.raws ≡ [] → ⊥) → HearsBegun old new bytes
heard_begun old now new bytes left less heard others block so first stays same ours some = record {
  done = so.done;
  block = block;
  left = blocks_of less;
  are = ap (λ (blocks : List Block). so.done ++ blocks) (sym first) ∙ so.walked.blocks;
  ours = ours ∙ so.hears.same_unit;
  has_messages = some;
  heard = hears_still old now new so.done so.hears stays same;
}
