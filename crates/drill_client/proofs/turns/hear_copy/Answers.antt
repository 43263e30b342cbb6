use Rattle.std.proofs.Common.{List, ◌++◌}
use Rattle.heard_items.proofs.Datagrams.{pieces_more}
use Rattle.pitch_model.specs.History.{Entry, Raw}
use Rattle.unit_market.specs.Views.{image_view}
use Rattle.unit_market.specs.Markets.{kept_view}
use Rattle.unit_packets.specs.Packing.{bytes_in}
use Rattle.drill_client.specs.layers.Following.{Follows, heard_datagrams}
use Rattle.drill_client.proofs.Answered.{counted, heard_copy}
use Rattle.drill_client.proofs.turns.hear_copy.Goals as goal

pub returns-clause-heard : goal.returns-clause-heard
returns-clause-heard c j more has pieces H E f =
    let V : List Raw = j.messages ++ more in
    let then : List Entry = heard_datagrams (bytes_in c.args.datagrams.now) E in
    let came : Follows c.hear_datagrams.new.client H V then = c.in_ok-hear_datagrams.ensures V c.args.unit (pieces_more j.messages more c.args.unit _ pieces) H E f in
    let tick =
    counted c.hear_datagrams.new.client c.count_datagram-ask.new.client c.args.heard.now c.count_datagram-ask.new.count c.count_datagram-ask.result c.count_datagram-ask.ensures.more c.count_datagram-ask.ensures.asks V H then came in
    heard_copy c.answer.new.client H V E (kept_view j) (image_view j.messages j.advertised) c.args.unit c.args.heard.now c.args.is_lost (bytes_in c.args.datagrams.now) c.count_datagram-ask.result c.if-is_lost.false tick.0
    (c.in_ok-answer.ensures.heard j more has H _ tick.1)
