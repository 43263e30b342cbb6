use Rattle.drill_client.proofs.hearing.hear_reply.Goals as goal

pub returns-in-Gap : goal.returns-in-Gap
returns-in-Gap g c H E f = rw c.in-Gap.is (c.hear_gap_reply.ensures _ H E f)

pub returns-in-NoSpin : goal.returns-in-NoSpin
returns-in-NoSpin g c H E f = rw c.in-NoSpin.is (c.hear_no_image.ensures _ H E f)
