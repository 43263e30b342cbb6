-- The calls of a net as they are noted.
use Rattle.venue_net.specs.VenueCalls.{VenueCall, Wait, Read, Send, Accept, Take, Put, Close}
use Rattle.harmed_venue.specs.declared.call_log.Made.{Made}
use Rattle.harmed_venue.specs.declared.call_log.Made.TheVariants as made

-- a call as it is noted
abbrev pub call_of : Made → VenueCall
call_of (made.Wait more answer) = Wait more answer
call_of (made.Read room bytes answer) = Read room bytes.now answer
call_of (made.Send line datagram) = Send line datagram.now
call_of (made.Accept place came) = Accept place came
call_of (made.Take place room bytes answer) = Take place room bytes.now answer
call_of (made.Put place piece answer) = Put place piece.now answer
call_of (made.Close place) = Close place
