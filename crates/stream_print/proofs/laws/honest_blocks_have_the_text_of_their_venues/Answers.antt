use Rattle.stream_print.proofs.Uniting.{follow_text_of_all}
use Rattle.stream_print.proofs.Venues.{relay_text_of_all, quotes_text_of_all}
use Rattle.stream_print.proofs.laws.honest_blocks_have_the_text_of_their_venues.Goals as goal

pub returns-clause-follow : goal.returns-clause-follow
returns-clause-follow c = λ H blocks text Image Vs is honest. follow_text_of_all H blocks text is Image Vs honest

pub returns-clause-relay : goal.returns-clause-relay
returns-clause-relay c = λ H blocks text Vs are venues. relay_text_of_all H blocks text are Vs venues

pub returns-clause-quotes : goal.returns-clause-quotes
returns-clause-quotes c = λ H blocks text Image Vs are honest. quotes_text_of_all H blocks text are Image Vs honest
