use Rattle.drill_client.proofs.items.hear_whole.Goals as goal

pub returns-clause-tracks : goal.returns-clause-tracks
returns-clause-tracks c H E t = c.in_ok-hear-2.ensures.tracks H _ (c.in_ok-hear.ensures.tracks H _ (c.hear_without_memory.ensures.tracks H E t))

pub returns-clause-keeps : goal.returns-clause-keeps
returns-clause-keeps c Image V is H E t honest k =
    let t1 = c.hear_without_memory.ensures.tracks H E t in
    let t2 = c.in_ok-hear.ensures.tracks H _ t1 in
    c.in_ok-hear-2.ensures.keeps Image V is H _ t2 honest
    (c.in_ok-hear.ensures.keeps Image V is H _ t1 honest.1
    (c.hear_without_memory.ensures.keeps Image V is H E t honest.1.1 k))
