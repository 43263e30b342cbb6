-- What the words that cross add to what a client heard.
use Rattle.std.specs.Prelude.{List, ◌∷◌, false}
use Rattle.unit_packets.specs.Cutting.{blocks_of}
use Rattle.pitch_model.specs.History.{Entry, GapReply, SpinReply}
use Rattle.pitch_model.specs.History as entry
use Rattle.heard_items.specs.Datagrams.{heard_blocks}
use Rattle.drill_client.specs.layers.Following.{imaged_whole}
use Rattle.drill_client.specs.declared.words.Word.{Word}
use Rattle.drill_client.specs.declared.words.Word.TheVariants.{Sent, Advertised, Last}
use Rattle.drill_client.specs.declared.words.Reply.{Reply}
use Rattle.drill_client.specs.declared.words.Reply.TheVariants.{Gap, Again, Spin, NoSpin}

-- of a publisher: a datagram, or that an image can be had
abbrev pub heard_word : {R : Type 0} → Word R → List Entry → List Entry
heard_word (Sent datagram) E = heard_blocks (blocks_of datagram) E
heard_word (Advertised sequence) E = entry.Advertised sequence ∷ E
heard_word Last E = E

-- of a service: whether a gap ask is accepted, a datagram, an image whole, or that none comes
abbrev pub heard_reply : {R : Type 0} → Reply R → List Entry → List Entry
heard_reply (Gap accepted) E = GapReply accepted ∷ E
heard_reply (Again datagram) E = heard_blocks (blocks_of datagram) E
heard_reply (Spin image) E = imaged_whole image.sequence image.orders image.raws E
heard_reply (NoSpin sequence) E = SpinReply sequence 0 false ∷ E
