use Rattle.pitch_words.proofs.Exact.{at_most_one}
use Rattle.pitch_words.proofs.reading.one_form.Goals as goal

pub returns : goal.returns
returns c = at_most_one
