-- What printing the blocks of some bytes does.
use Rattle.std.specs.Prelude.{◌≡◌, ℕ, ◌≤◌, ◌+◌, ◌*◌, List, [], ◌∷◌, ◌++◌, length, drop, reverse}
use Rattle.std.specs.Prelude.{Option}
use Rattle.std.specs.List.{flat_map}
use Rattle.unit_packets.specs.Blocks.{Block}
use Rattle.unit_packets.specs.Cutting.{blocks_of, rest_of}
use Rattle.pcap_feed.specs.Capture.{front_of, packets_from, left_from, order_told_from}
use Rattle.pcap_feed.specs.Stream.{items_within, left_over}
use Rattle.pcap_feed.specs.declared.fault.ByteOrder.{ByteOrder}
use Rattle.unit_packets.specs.Causes.{counted}
use Rattle.unit_packets.specs.Reading.{Reading}
use Rattle.unit_packets.specs.Pieces.{passed}
use Rattle.stream_print.specs.Carriers.{blocks_in}
use Rattle.stream_print.specs.Counting.{use_of, CountsMore}
use Rattle.stream_print.specs.Knowing.{task_form, Knows, HasPrinted}
use Rattle.stream_print.specs.Page.{PrintsSuch}
use Rattle.stream_print.specs.Sinks.{PutsSuch}
use Rattle.stream_print.specs.Readers.{HasRead, rest_size, blocks_with}
use Rattle.stream_print.specs.TextLaws.{OutrunsAmong}
use Rattle.stream_print.specs.Texts.{AreTextsAfter, BeginTextsAfter}
use Rattle.stream_print.specs.declared.carrier.Carrier.{Carrier}
use Rattle.stream_print.specs.declared.counts.PacketCounts.{PacketCounts}
use Rattle.stream_print.specs.declared.counts.PacketUse.{PacketUse}
use Rattle.stream_print.specs.declared.packets.PacketReader.{PacketReader}
use Rattle.stream_print.specs.declared.failure.TaskError.{TaskError}
use Rattle.stream_print.specs.declared.failure.TaskError.TheVariants.{SequencesSpent, Write}
use Rattle.stream_print.specs.declared.failure.TaskError.TheVariants.{OutOfMemory}
use Rattle.stream_print.specs.declared.printer.Printer.{Printer}
use Rattle.stream_print.specs.declared.stream_form.StreamForm.{StreamForm}
use Rattle.stream_print.specs.declared.task.Task.{Task}
use Rattle.stream_print.specs.declared.reader.StreamReader.{StreamReader}

-- a task printed a block; whatever blocks came before, the task then knows of this one too
pub record PrintsBlock (t t' : Task) (number : ℕ) (written : Option (List ℕ)) (page : List ℕ)
    (written' : Option (List ℕ)) (page' : List ℕ) (block : Block) : Type 0 where
  pub form_is : task_form t' ≡ task_form t
  pub known : (before : List Block) → Knows t before → Knows t' (block ∷ before)
  pub printed : (before : List Block) → Knows t before → number ≡ length before + 1
      → PrintsSuch (AreTextsAfter (task_form t) before (block ∷ [])) written page written' page'

-- some blocks were printed, one after another
pub record PrintsBlocks (p p' : Printer) (written written' : Option (List ℕ))
    (blocks : List Block) : Type 0 where
  pub form_is : task_form p'.task ≡ task_form p.task
  pub known : (before : List Block) → HasPrinted p before → HasPrinted p' (reverse blocks ++ before)
  pub printed : (before : List Block) → HasPrinted p before
      → PrintsSuch (AreTextsAfter (task_form p.task) before blocks)
      written p.page.text written' p'.page.text

-- why some blocks behind others were not printed: one of them outruns the last sequence; or the
-- sink failed, or memory ran out, and some prefix was written
abbrev pub Fails : TaskError → StreamForm → (before blocks : List Block)
    → (written : Option (List ℕ)) (page : List ℕ) (written' : Option (List ℕ)) → Type 0
Fails SequencesSpent form before blocks written page written' = OutrunsAmong form before blocks
Fails Write form before blocks written page written' =
    PutsSuch (BeginTextsAfter form before blocks) written page written'
Fails OutOfMemory form before blocks written page written' =
    PutsSuch (BeginTextsAfter form before blocks) written page written'

-- likewise of one block, by its task
abbrev pub FailsBlock : TaskError → Task → ℕ → (written : Option (List ℕ)) (page : List ℕ)
    (written' : Option (List ℕ)) → Block → Type 0
FailsBlock error t number written page written' block =
    (before : List Block) → Knows t before → number ≡ length before + 1
    → Fails error (task_form t) before (block ∷ []) written page written'

-- and of some, by their printer
abbrev pub FailsBlocks : TaskError → Printer → (written written' : Option (List ℕ)) → List Block
    → Type 0
FailsBlocks error p written written' blocks =
    (before : List Block) → HasPrinted p before
    → Fails error (task_form p.task) before blocks written p.page.text written'

-- all the blocks that are whole in some bytes were printed; they end behind the first n bytes
pub record PrintsWhole (p p' : Printer) (bytes : List ℕ) (n : ℕ)
    (written written' : Option (List ℕ)) : Type 0 where
  pub prints : PrintsBlocks p p' written written' (blocks_of bytes)
  pub within : n ≤ length bytes
  pub rest : rest_of bytes ≡ drop n bytes
  pub few : 8 * p'.number ≤ 8 * p.number + n

-- the blocks of the datagrams of a packet of so many bytes were printed
pub record PrintsDatagrams (p p' : Printer) (size : ℕ) (datagrams : List (List ℕ)) (is : PacketUse)
    (written written' : Option (List ℕ)) : Type 0 where
  pub prints : PrintsBlocks p p' written written' (flat_map blocks_of datagrams)
  pub use_is : is ≡ use_of datagrams
  pub few : 8 * p'.number ≤ 8 * p.number + size

-- the blocks of all whole packets of some bytes were printed, and the packets counted; they end
-- behind the first n bytes
pub record PrintsPackets (order : ByteOrder) (port : Option ℕ) (p p' : Printer)
    (counts counts' : PacketCounts) (bytes : List ℕ) (n : ℕ)
    (written written' : Option (List ℕ)) : Type 0 where
  pub prints :
      PrintsBlocks p p' written written' (blocks_in port (items_within (front_of order) bytes))
  pub counts_are : CountsMore port (items_within (front_of order) bytes) counts counts'
  pub within : n ≤ length bytes
  pub rest : left_over (front_of order) bytes ≡ drop n bytes
  pub few : 8 * p'.number ≤ 8 * p.number + n

-- likewise of all that a reader of a capture has loaded, which is then behind them
pub record PrintsLoaded (p p' : Printer) (r r' : PacketReader)
    (written written' : Option (List ℕ)) : Type 0 where
  pub prints :
      PrintsBlocks p p' written written'
      (blocks_in r.port (packets_from r.reader.told r.reader.rest))
  pub counts_are : CountsMore r.port (packets_from r.reader.told r.reader.rest) r.counts r'.counts
  pub port : r'.port ≡ r.port
  pub told : r'.reader.told ≡ order_told_from r.reader.told r.reader.rest
  pub rest : r'.reader.rest ≡ left_from r.reader.told r.reader.rest
  pub behind : ℕ
  pub within : length r.reader.rest ≡ behind + length r'.reader.rest
  pub place : (at : ℕ) → r.reader.place ≡ counted at → r'.reader.place ≡ counted (at + behind)
  pub fault : r'.reader.fault ≡ r.reader.fault
  pub few : 8 * p'.number + length r'.reader.rest ≤ 8 * p.number + length r.reader.rest

-- likewise of all that a reader of bare blocks has loaded
pub record PrintsBare (p p' : Printer) (r r' : Reading)
    (written written' : Option (List ℕ)) : Type 0 where
  pub behind : ℕ
  pub printed : PrintsWhole p p' r.rest behind written written'
  pub reader : r' ≡ passed r behind

-- a piece more was loaded, the blocks that it completes were printed, and the reader is behind them
pub record PrintsPiece (p p' : Printer) (r r' : StreamReader) (piece : List ℕ)
    (written written' : Option (List ℕ)) : Type 0 where
  pub prints : PrintsBlocks p p' written written' (blocks_with r piece)
  pub read : (carrier : Carrier) (bytes : List ℕ)
      → HasRead carrier r bytes → HasRead carrier r' (bytes ++ piece)
  pub few : 8 * p'.number + rest_size r' ≤ 8 * p.number + rest_size r + length piece
