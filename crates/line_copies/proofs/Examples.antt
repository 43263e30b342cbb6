-- Worked examples, computed by the definitions. The sums were computed beside them by other means.
use Rattle.std.proofs.Common.{◌≡◌, ℕ, List, [], ◌∷◌, Some, None, refl}
use Rattle.unit_packets.specs.Blocks.{Block}
use Rattle.pitch_model.specs.History.{Message}
use Rattle.heard_items.specs.Units.{unit_history}
use Rattle.line_copies.specs.Sums.{mixed, sum_of}
use Rattle.line_copies.specs.Copies.{kept_at, block_differing}

-- ---- Sums
-- 1 is laid over nothing
one_word : mixed 0 1 ≡ 0x9e3779b97f4a7c15
unfolding mixed
one_word = refl

-- the upper half is laid over the lower one
upper_half : mixed 1 0x100000000 ≡ 0x7f4a7c1500000000
unfolding mixed
upper_half = refl

-- the clock at 34,200, of six bytes
clock_is_summed : sum_of (6 ∷ 0x20 ∷ 0x98 ∷ 0x85 ∷ 0 ∷ 0 ∷ []) ≡ 0x2137b750314e6672
unfolding sum_of mixed
clock_is_summed = refl

-- a delete, of fourteen bytes: a word, and the last eight
abbrev delete : ℕ → List ℕ
delete id = 14 ∷ 0x29 ∷ 0 ∷ 0 ∷ 0 ∷ 0 ∷ id ∷ 0 ∷ 0 ∷ 0 ∷ 0 ∷ 0 ∷ 0 ∷ 0 ∷ []

delete_is_summed : sum_of (delete 5) ≡ 0x0966e8a452df014b
unfolding sum_of mixed
delete_is_summed = refl

other_delete_is_summed : sum_of (delete 6) ≡ 0xadaede397701db5e
unfolding sum_of mixed
other_delete_is_summed = refl

-- sixteen bytes are a word and the last eight, seventeen two words and the last eight
sixteen_bytes : sum_of (16 ∷ 0x26 ∷ 0 ∷ 1 ∷ 2 ∷ 3 ∷ 4 ∷ 5 ∷ 6 ∷ 7 ∷ 8 ∷ 9 ∷ 10 ∷ 11 ∷ 12 ∷ 13 ∷ []) ≡ 0x177a765ec0dc61ea
unfolding sum_of mixed
sixteen_bytes = refl

seventeen_bytes : sum_of (17 ∷ 0x26 ∷ 0 ∷ 1 ∷ 2 ∷ 3 ∷ 4 ∷ 5 ∷ 6 ∷ 7 ∷ 8 ∷ 9 ∷ 10 ∷ 11 ∷ 12 ∷ 13 ∷ 14 ∷ []) ≡ 0x7027f6e8e446d437
unfolding sum_of mixed
seventeen_bytes = refl

-- ---- What is kept
-- message 65,537 has the slot of message 1, and that of message 2 stays
later : kept_at (Message 65537 (delete 6) ∷ Message 2 (delete 5) ∷ Message 1 (delete 5) ∷ []) 1 ≡ record { sequence = 65537; sum = 0xadaede397701db5e }
unfolding sum_of mixed
later = refl

stays : kept_at (Message 65537 (delete 6) ∷ Message 2 (delete 5) ∷ Message 1 (delete 5) ∷ []) 2 ≡ record { sequence = 2; sum = 0x0966e8a452df014b }
unfolding sum_of mixed
stays = refl

-- and an older message that comes late leaves the newer one there
late : kept_at (Message 1 (delete 5) ∷ Message 65537 (delete 6) ∷ []) 1 ≡ record { sequence = 65537; sum = 0xadaede397701db5e }
unfolding sum_of mixed
late = refl

-- ---- Which copies differ
abbrev block : ℕ → ℕ → List (List ℕ) → Block
block unit sequence raws = record { unit = unit; sequence = sequence; raws = raws }

-- messages 1 and 2 on line A
abbrev heard : List Block
heard = block 7 1 (delete 5 ∷ delete 6 ∷ []) ∷ []

-- the same on line B
same_again : block_differing (block 7 1 (delete 5 ∷ delete 6 ∷ [])) (unit_history 7 heard) ≡ None
unfolding sum_of mixed
same_again = refl

-- the second one is another
second_differs : block_differing (block 7 1 (delete 5 ∷ delete 8 ∷ delete 9 ∷ [])) (unit_history 7 heard) ≡ Some 2
unfolding sum_of mixed
second_differs = refl

-- the venue starts anew, and its first message is another
begins_anew : block_differing (block 7 1 (delete 9 ∷ [])) (unit_history 7 (block 7 3 (delete 8 ∷ []) ∷ heard)) ≡ Some 1
unfolding sum_of mixed
begins_anew = refl

-- another unit has other messages, and what is not sequenced, or a heartbeat, has no copies
other_unit : block_differing (block 8 1 (delete 8 ∷ [])) (unit_history 8 heard) ≡ None
unfolding sum_of mixed
other_unit = refl

unsequenced : block_differing (block 7 0 (delete 8 ∷ [])) (unit_history 7 heard) ≡ None
unsequenced = refl

heartbeat : block_differing (block 7 1 []) (unit_history 7 heard) ≡ None
heartbeat = refl

-- of message 1 nothing is kept any more once message 65,537 came
not_kept : block_differing (block 7 1 (delete 9 ∷ [])) (unit_history 7 (block 7 65537 (delete 8 ∷ []) ∷ heard)) ≡ None
unfolding sum_of mixed
not_kept = refl
