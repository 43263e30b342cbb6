-- What a reader stands for after a piece.
use Rattle.std.proofs.Common.{◌≡◌, ℕ, ◌+◌, ◌⊎◌, Bool, true, false, List, [], ◌∷◌, ◌++◌, length, drop, refl, sym, ap, ◌∙◌, subst, arith, Option, Some, None, Ok, Err, Result, length-append, append_assoc, inl, inr, is_some}
use Rattle.std.specs.List.{concat}
use Rattle.std.proofs.lemmas.List.{append-nil}
use Rattle.unit_packets.specs.Blocks.{Block}
use Rattle.unit_packets.specs.Causes.{counted}
use Rattle.unit_packets.specs.Judging.{judge}
use Rattle.unit_packets.specs.Cutting.{blocks_of, rest_of, place_of, fault_in}
use Rattle.unit_packets.specs.Reading.{Reading}
use Rattle.unit_packets.specs.Pieces.{unread}
use Rattle.unit_packets.specs.Feeding.{fed_fault, kept_fault, StandsFor}
use Rattle.unit_packets.specs.Pieces.{fed_answer, Feeds, WithMemory, FeedsEach, FeedsAll}
use Rattle.unit_packets.specs.Pieces.{PiecesAreCut, PiecesDoNotMatter}
use Rattle.unit_packets.specs.declared.header.BlockFault.{BlockFault}
use Rattle.unit_packets.specs.declared.block.FeedError.{FeedError}
use Rattle.unit_packets.specs.declared.block.FeedError.TheVariants.{Fault, OutOfMemory}
use Rattle.unit_packets.proofs.Cuts.{appends, rest_short, rest_stands}
use Rattle.unit_packets.specs.Cutting.{rest_by}
use Rattle.unit_packets.proofs.Stable.{IsFinal, judge_more}
use Rattle.unit_packets.proofs.Walking.{Walked, walked_more}
use Rattle.unit_packets.proofs.Streams.{of_nothing, lasting_of, lasting_more, fault_stays}

-- ---- Cutting a piece
-- the blocks before `left` were appended
pub record Cutting (bytes left : List ℕ) (before so_far : List Block) : Type 0 where
  pub added : List Block
  pub are : so_far ≡ before ++ added
  pub walked : Walked bytes left added

pub cutting_more : (bytes left less : List ℕ) (before so_far longer : List Block) (block : Block) → Cutting bytes left before so_far → blocks_of left ≡ block ∷ blocks_of less → rest_of less ≡ rest_of left → longer ≡ so_far ++ block ∷ []
    → Cutting bytes less before longer
cutting_more bytes left less before so_far longer block c first rest more = record {
  added = c.added ++ block ∷ [];
  are = more ∙ ap (λ (bs : List Block). bs ++ block ∷ []) c.are ∙ append_assoc before c.added (block ∷ []);
  walked = walked_more bytes left less c.added block c.walked first rest;
}

-- ---- Standing for bytes
pub counted_on : (a b : ℕ) → counted (counted a + b) ≡ counted (a + b)
counted_on a b = omega arith

no_some : (o : Option BlockFault) → o ≡ None → is_some o ≡ true → ⊥
no_some o none some = cc

all_kept : (reading : Reading) (fed : List ℕ) → StandsFor reading fed → kept_fault reading ≡ None → rest_of fed ≡ reading.rest
all_kept reading fed stands none = elim stands.keeps [
  | inl all ↦ stands.rest_is ∙ ap (λ (d : List ℕ). reading.rest ++ d) all ∙ append-nil reading.rest
  | inr some ↦ absurd (no_some (kept_fault reading) none some)
]

-- a piece was cut, behind no fault
pub fed_on : (fed piece all : List ℕ) (at : ℕ) (old new : Reading) (before after : List Block) (answer : Result (Unit {0}) FeedError)
    → StandsFor old fed → kept_fault old ≡ None → all ≡ old.rest ++ piece → at ≡ place_of all → after ≡ before ++ blocks_of all
    → new.place ≡ counted (old.place + at) → new.rest ≡ drop at all → answer ≡ fed_answer (fault_in false new.place new.rest)
    → Feeds fed piece new before after answer
fed_on fed piece all at old new before after answer stands none are there given place rest gives =
    let more = appends fed piece in
    let kept : rest_of fed ≡ old.rest = all_kept old fed stands none in
    let bytes : rest_of fed ++ piece ≡ all = ap (λ (r : List ℕ). r ++ piece) kept ∙ sym are in
    let behind : new.rest ≡ rest_of all = rest ∙ ap (λ (n : ℕ). drop n all) there ∙ sym (rest_stands all) in
    let left : rest_of (fed ++ piece) ≡ new.rest = more.rest ∙ ap rest_of bytes ∙ sym behind in
    let size : length all ≡ length (rest_of fed) + length piece = sym (ap length bytes) ∙ length-append (rest_of fed) piece in
    let on : place_of fed + at ≡ place_of (fed ++ piece) = omega (arith, rest_short fed, rest_short all, size, there, ap length left, ap length behind, length-append fed piece) in
    let here : new.place ≡ counted (place_of (fed ++ piece)) = place ∙ ap (λ (p : ℕ). counted (p + at)) stands.place_is ∙ counted_on (place_of fed) at ∙ ap counted on in
    record {
      stands = record { place_is = here; dropped = []; rest_is = left ∙ sym (append-nil new.rest); keeps = inl refl };
      added = blocks_of all;
      given = given;
      blocks = more.blocks ∙ ap (λ (r : List ℕ). blocks_of fed ++ blocks_of r) bytes;
      fault = gives
          ∙ ap (λ (p : ℕ). fed_answer (fault_in false p new.rest)) here
          ∙ ap (λ (r : List ℕ). fed_answer (fault_in false (counted (place_of (fed ++ piece))) r)) (sym left);
    }

-- behind a fault nothing becomes whole
pub fed_past : (fed piece : List ℕ) (reading : Reading) (fault : BlockFault) (before : List Block) → StandsFor reading fed → kept_fault reading ≡ Some fault → Feeds fed piece reading before before (Err (Fault fault))
fed_past fed piece reading fault before stands some =
    let l = lasting_of reading.place reading.rest fault some in
    let final : IsFinal (judge reading.rest) = subst (λ r. IsFinal r) (sym l.judged) l.lasts in
    let there : judge (rest_of fed) ≡ Err l.error = ap judge stands.rest_is ∙ judge_more reading.rest stands.dropped final ∙ l.judged in
    let stays = fault_stays fed piece l.error there l.lasts in
    let left : rest_of (fed ++ piece) ≡ reading.rest ++ (stands.dropped ++ piece) = stays.rest_is ∙ ap (λ (r : List ℕ). r ++ piece) stands.rest_is ∙ append_assoc reading.rest stands.dropped piece in
    let here : reading.place ≡ counted (place_of (fed ++ piece)) = stands.place_is ∙ ap counted (sym stays.place_is) in
    record {
      stands = record { place_is = here; dropped = stands.dropped ++ piece; rest_is = left; keeps = inr (ap is_some some) };
      added = [];
      given = sym (append-nil before);
      blocks = stays.blocks ∙ sym (append-nil (blocks_of fed));
      fault = ap (λ (f : BlockFault). Err (Fault f)) l.is
          ∙ ap fed_answer (sym (lasting_more false reading.place reading.rest (stands.dropped ++ piece) l.error l.judged l.lasts))
          ∙ ap (λ (p : ℕ). fed_answer (fault_in false p (reading.rest ++ (stands.dropped ++ piece)))) here
          ∙ ap (λ (r : List ℕ). fed_answer (fault_in false (counted (place_of (fed ++ piece))) r)) (sym left);
    }

-- the fault of a rest and of more bytes behind a lasting fault is one
same_fault : (ended : Bool) (place : ℕ) (rest dropped : List ℕ) (o : Option BlockFault) → fault_in false place rest ≡ o → (dropped ≡ []) ⊎ (is_some o ≡ true) → fault_in ended place (rest ++ dropped) ≡ fault_in ended place rest
same_fault ended place rest dropped None is (inl none) = ap (fault_in ended place) (ap (λ (d : List ℕ). rest ++ d) none ∙ append-nil rest)
same_fault ended place rest dropped None is (inr some) = cc
same_fault ended place rest dropped (Some fault) is either =
    let l = lasting_of place rest fault is in
    lasting_more ended place rest dropped l.error l.judged l.lasts
    ∙ sym (lasting_more ended place rest [] l.error l.judged l.lasts)
    ∙ ap (fault_in ended place) (append-nil rest)

pub stands_fault : (ended : Bool) (reading : Reading) (fed : List ℕ) → StandsFor reading fed → fault_in ended reading.place reading.rest ≡ fault_in ended (counted (place_of fed)) (rest_of fed)
stands_fault ended reading fed stands =
    sym (same_fault ended reading.place reading.rest stands.dropped (kept_fault reading) refl stands.keeps)
    ∙ ap (fault_in ended reading.place) (sym stands.rest_is)
    ∙ ap (λ (p : ℕ). fault_in ended p (rest_of fed)) stands.place_is

-- ---- Pieces
pub stands_unread : StandsFor unread []
unfolding rest_of rest_by
stands_unread = record { place_is = refl; dropped = []; rest_is = refl; keeps = inl refl }

-- whatever a reader stands for and puts out, where one piece more is fed
pub record FedOn {Reader Item : Type 0} (Stands : Reader → List ℕ → Type 0) (cut : List ℕ → List Item)
    (fed piece : List ℕ) (new : Reader) (before after : List Item) : Type 0 where
  pub stands : Stands new (fed ++ piece)
  pub puts : before ≡ cut fed → after ≡ cut (fed ++ piece)

pub all_fed : {Reader Item Answer : Type 0} (Stands : Reader → List ℕ → Type 0) (cut : List ℕ → List Item)
    (does : Reader → List ℕ → Reader → List Item → List Item → Answer → Type 0)
    → ((old new : Reader) (fed piece : List ℕ) (before after : List Item) (answer : Answer) → Stands old fed → does old piece new before after answer → FedOn Stands cut fed piece new before after)
    → (pieces : List (List ℕ)) (fed : List ℕ) (old new : Reader) (before after : List Item) → Stands old fed → FeedsEach does pieces old new before after → FedOn Stands cut fed (concat pieces) new before after
all_fed {Reader} Stands cut does one [] fed old new before after stands (same, none) = record {
  stands = subst (λ (r : Reader). Stands r (fed ++ [])) (sym same) (subst (λ (b : List ℕ). Stands old b) (sym (append-nil fed)) stands);
  puts = λ was. none ∙ was ∙ ap cut (sym (append-nil fed));
}
all_fed Stands cut does one (piece ∷ pieces) fed old new before after stands (next, middle, answer, feeds, others) =
    let first = one old next fed piece before middle answer stands feeds in
    let then = all_fed Stands cut does one pieces (fed ++ piece) next new middle after first.stands others in
    let join : (fed ++ piece) ++ concat pieces ≡ fed ++ concat (piece ∷ pieces) = append_assoc fed piece (concat pieces) in
    record {
      stands = subst (λ (b : List ℕ). Stands new b) join then.stands;
      puts = λ was. then.puts (first.puts was) ∙ ap cut join;
    }

blocks_fed : (pieces : List (List ℕ)) (old new : Reading) (before after : List Block) → StandsFor old [] → FeedsAll pieces old new before after → FedOn StandsFor blocks_of [] (concat pieces) new before after
blocks_fed pieces = all_fed StandsFor blocks_of _
    (λ old new fed piece before after answer stands feeds.
    let did = feeds fed stands in
    record { stands = did.stands; puts = λ was. did.given ∙ ap (λ (bs : List Block). bs ++ did.added) was ∙ sym did.blocks })
    pieces []

pub pieces_are_cut : PiecesAreCut
pieces_are_cut pieces reading blocks all =
    let a = blocks_fed pieces unread reading [] blocks stands_unread all in
    (a.puts (sym of_nothing.blocks), stands_fault false reading (concat pieces) a.stands, a.stands)

pub pieces_do_not_matter : PiecesDoNotMatter
pieces_do_not_matter pieces others reading left blocks some same one other =
    let a = pieces_are_cut pieces reading blocks one in
    let b = pieces_are_cut others left some other in
    (a.0 ∙ ap blocks_of same ∙ sym b.0, a.1 ∙ ap fed_fault same ∙ sym b.1)

pub with_memory : (answer : Result (Unit {0}) FeedError) (P : Type 0) → P → WithMemory answer P
with_memory (Ok done) P p = p
with_memory (Err (Fault fault)) P p = p
with_memory (Err OutOfMemory) P p = tt

pub same_kept : (a b : Reading) → a.place ≡ b.place → a.rest ≡ b.rest → a ≡ b
same_kept a b place rest = ap (λ (p : ℕ). record { place = p; rest = a.rest }) place ∙ ap (λ (r : List ℕ). record { place = b.place; rest = r }) rest
