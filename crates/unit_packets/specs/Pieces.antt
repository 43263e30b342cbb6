-- What feeding a piece does, and that it does not matter how a stream is cut into pieces.
use Rattle.std.specs.Prelude.{◌≡◌, ℕ, true, List, [], ◌∷◌, ◌++◌, Option, None, Some, Result, Ok}
use Rattle.std.specs.Prelude.{Err, take, drop, ◌+◌}
use Rattle.std.specs.List.{concat}
use Rattle.unit_packets.specs.Blocks.{Block}
use Rattle.unit_packets.specs.Causes.{counted}
use Rattle.unit_packets.specs.Cutting.{blocks_of, rest_of, place_of, fault_in}
use Rattle.unit_packets.specs.Reading.{Reading}
use Rattle.unit_packets.specs.declared.header.BlockFault.{BlockFault}
use Rattle.unit_packets.specs.declared.block.FeedError.{FeedError}
use Rattle.unit_packets.specs.declared.block.FeedError.TheVariants.{Fault, OutOfMemory}
use Rattle.unit_packets.specs.Feeding.{fed_fault, kept_fault, StandsFor}

-- nothing was loaded yet
abbrev pub unread : Reading
unread = record { place = 0; rest = [] }

-- one more piece of the stream is there
abbrev pub loaded : Reading → List ℕ → Reading
loaded reading piece = record { place = reading.place; rest = reading.rest ++ piece }

-- the first n bytes of the rest were passed
abbrev pub passed : Reading → ℕ → Reading
passed reading n = record { place = counted (reading.place + n); rest = drop n reading.rest }

-- of the rest only the first n bytes are kept
abbrev pub kept : Reading → ℕ → Reading
kept reading n = record { place = reading.place; rest = take n reading.rest }

-- the fault of the bytes that were fed, where the stream ends with them
abbrev pub ended_fault : List ℕ → Option BlockFault
ended_fault fed = fault_in true (counted (place_of fed)) (rest_of fed)

-- what feeding answers, and what ending does
abbrev pub fed_answer : Option BlockFault → Result (Unit {0}) FeedError
fed_answer None = Ok tt
fed_answer (Some fault) = Err (Fault fault)

abbrev pub ended_answer : Option BlockFault → Result (Unit {0}) BlockFault
ended_answer None = Ok tt
ended_answer (Some fault) = Err fault

-- one piece more was fed: the reader stands for all bytes, the blocks that became whole were put
-- out, and the answer is the fault of all bytes
pub record Feeds (fed piece : List ℕ) (new : Reading)
    (before after : List Block) (answer : Result (Unit {0}) FeedError) : Type 0 where
  pub stands : StandsFor new (fed ++ piece)
  pub added : List Block
  pub given : after ≡ before ++ added
  pub blocks : blocks_of (fed ++ piece) ≡ blocks_of fed ++ added
  pub fault : answer ≡ fed_answer (fed_fault (fed ++ piece))

-- unless there was no memory
abbrev pub WithMemory : Result (Unit {0}) FeedError → Type 0 → Type 0
WithMemory (Ok done) P = P
WithMemory (Err (Fault fault)) P = P
WithMemory (Err OutOfMemory) P = Unit {0}

-- a fault that was kept is answered again, and nothing else happens
abbrev pub IsRepeated : Option BlockFault → Result (Unit {0}) FeedError → Type 0 → Type 0
IsRepeated None answer P = Unit {0}
IsRepeated (Some fault) answer P = (answer ≡ Err (Fault fault)) × P

-- ---- Laws
-- pieces that were fed one after the other, with memory for each, where `does` says what one does
-- to a reader and to what it has put out
abbrev pub FeedsEach : {Reader Item Answer : Type 0}
    → (Reader → List ℕ → Reader → List Item → List Item → Answer → Type 0)
    → List (List ℕ) → Reader → Reader → List Item → List Item → Type 0
FeedsEach does [] old new before after = (new ≡ old) × (after ≡ before)
FeedsEach {Reader} {Item} {Answer} does (piece ∷ pieces) old new before after =
    (next : Reader) × (middle : List Item) × (answer : Answer)
    × does old piece next before middle answer × FeedsEach does pieces next new middle after

-- a reader of blocks was fed these
abbrev pub FeedsAll : List (List ℕ) → Reading → Reading → List Block → List Block → Type 0
FeedsAll = FeedsEach (λ old piece new before after answer.
    (fed : List ℕ) → StandsFor old fed → Feeds fed piece new before after answer)

-- what was fed in pieces is cut as all bytes in one are
abbrev pub PiecesAreCut : Type 0
PiecesAreCut = (pieces : List (List ℕ)) (reading : Reading) (blocks : List Block)
    → FeedsAll pieces unread reading [] blocks
    → (blocks ≡ blocks_of (concat pieces))
    × (kept_fault reading ≡ fed_fault (concat pieces)) × StandsFor reading (concat pieces)

-- so other pieces of the same bytes give the same blocks and the same fault
abbrev pub PiecesDoNotMatter : Type 0
PiecesDoNotMatter =
    (pieces others : List (List ℕ)) (reading left : Reading) (blocks some : List Block)
    → concat pieces ≡ concat others
    → FeedsAll pieces unread reading [] blocks → FeedsAll others unread left [] some
    → (blocks ≡ some) × (kept_fault reading ≡ kept_fault left)
