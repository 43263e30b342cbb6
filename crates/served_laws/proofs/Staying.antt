-- What may come of a venue may also come of it once it has accepted more.
use Rattle.std.proofs.Common.{ℕ, List, [], ◌∷◌, ◌++◌, arith, length-append}
use Rattle.pitch_fields.proofs.Lists.{all_follows}
use Rattle.unit_packets.specs.Blocks.{Block}
use Rattle.pitch_model.specs.History.{Raw}
use Rattle.pitch_model.proofs.Growing.{venues_more}
use Rattle.heard_items.specs.Datagrams.{IsVenueBlock}
use Rattle.session_ends.specs.Closing.{Setup}
use Rattle.session_ends.specs.Events.{Event}
use Rattle.spin_server.specs.Served.{Served}
use Rattle.spin_path.specs.Paths.{IsSpinServer, MayServe, Serves}
use Rattle.spin_path.proofs.Moves.{moves_stay}
use Rattle.client_end.specs.Came.{Came, Heard, GrpMade, GrpTook, GrpCut, GrpLost, SpinMade, SpinTook, SpinCut, SpinLost, Second}
use Rattle.served_laws.specs.Coming.{IsSaid, MayCome}
use Rattle.served_laws.specs.Laws.{ServedStays}

module _ (V more : List Raw) (unit : ℕ) where
  -- an event of a server is a move of its own
  serves_more : (setup : Setup) → IsSpinServer setup → (event : Event (List Served)) → MayServe V event → MayServe (V ++ more) event
  serves_more setup server event may = (moves_stay V more setup (Serves event ∷ []) (may, server)).0

  pub said_more : (bytes : List ℕ) → IsSaid V unit bytes → IsSaid (V ++ more) unit bytes
  said_more bytes is = record {
    setup = is.setup;
    server = is.server;
    unit_is = is.unit_is;
    happened = is.happened;
    served = all_follows (MayServe V) (MayServe (V ++ more)) (serves_more is.setup is.server) is.happened is.served;
    begins = is.begins;
  }

  block_more : (block : Block) → IsVenueBlock V unit block → IsVenueBlock (V ++ more) unit block
  block_more block of = record {
    unit_is = of.unit_is;
    sequenced = of.sequenced;
    messages = venues_more V more block.sequence block.raws of.messages;
    within = omega (arith, of.within, length-append V more);
  }

  comes_more : (came : Came) (before : List Came) → MayCome V unit came before → MayCome (V ++ more) unit came before
  comes_more (Heard block) before may = block_more block may
  comes_more (SpinTook bytes) before may = said_more _ may
  comes_more (SpinLost bytes count) before may = said_more _ may
  comes_more GrpMade before may = tt
  comes_more (GrpTook bytes) before may = tt
  comes_more GrpCut before may = tt
  comes_more (GrpLost bytes count) before may = tt
  comes_more SpinMade before may = tt
  comes_more SpinCut before may = tt
  comes_more Second before may = tt

pub served_stays : ServedStays
served_stays V more unit [] comes = tt
served_stays V more unit (came ∷ before) comes = (comes_more V more unit came before comes.0, served_stays V more unit before comes.1)
