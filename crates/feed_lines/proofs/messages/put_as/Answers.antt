use Rattle.std.proofs.Common.{Result, subst, arith}
use Rattle.pitch_messages.specs.declared.message.Message.{Message}
use Rattle.pitch_messages.specs.declared.message.ReadError.{ReadError}
use Rattle.feed_lines.specs.layers.Puts.{Puts}
use Rattle.feed_lines.specs.Show.{said_texts}
use Rattle.feed_lines.proofs.Putting.{as_one}
use Rattle.feed_lines.proofs.messages.put_as.Goals as goal

pub returns : goal.returns
returns c = as_one _ _ _ _ _ _ (omega arith) (subst (λ (read : Result Message ReadError). Puts (c.args.out.now, c.args.at) (c.put_read.new.out, c.put_read.result) (said_texts c.args.raw.now read) 400) c.read_as.ensures c.put_read.ensures)
