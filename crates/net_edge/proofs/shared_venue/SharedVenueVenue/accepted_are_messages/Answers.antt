use Rattle.net_edge.proofs.shared_venue.SharedVenueVenue.accepted_are_messages.Goals as goal

pub returns : goal.returns
returns g c = λ now is. is.has.messages
