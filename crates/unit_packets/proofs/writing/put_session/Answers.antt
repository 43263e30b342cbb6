use Rattle.unit_packets.proofs.Written.{session_is, session_bytes}
use Rattle.unit_packets.proofs.writing.put_session.Goals as goal

pub returns-in_err-reserve-clause-block : goal.returns-in_err-reserve-clause-block
returns-in_err-reserve-clause-block c = session_is c.args.unit c.args.raw.now c.ranges.unit.fits c.bytes-bytes.ensures.raw

pub returns-clause-ok : goal.returns-clause-ok
returns-clause-ok c =
    session_bytes c.args.unit c.args.raw.now c.bytes-bytes.result.now c.args.out.now.items _ _ _ _ c.bytes-bytes.ensures.bytes c.header_bytes-header.ensures c.in_ok-reserve.ensures.items c.in_ok-extend_from_slice.ensures.items c.in_ok-extend_from_slice-2.ensures.items

pub returns-clause-block : goal.returns-clause-block
returns-clause-block c = session_is c.args.unit c.args.raw.now c.ranges.unit.fits c.bytes-bytes.ensures.raw
