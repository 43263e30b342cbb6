use Rattle.pcap_feed.proofs.Feeding.{stands_unfed, pieces_are_cut, pieces_do_not_matter}
use Rattle.pcap_feed.proofs.laws.feeding_laws.Goals as goal

pub returns-clause-begins : goal.returns-clause-begins
returns-clause-begins c = stands_unfed

pub returns-clause-cut : goal.returns-clause-cut
returns-clause-cut c = pieces_are_cut

pub returns-clause-pieces : goal.returns-clause-pieces
returns-clause-pieces c = pieces_do_not_matter
