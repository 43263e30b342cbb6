use Rattle.drill_client.proofs.ending.hear_of_all.Goals as goal

pub returns-clause-tracks : goal.returns-clause-tracks
returns-clause-tracks c H E t =
    c.hear_without_memory-5.ensures.tracks H _ (c.hear_without_memory-4.ensures.tracks H _ (c.hear_without_memory-3.ensures.tracks H _ (c.hear_without_memory-2.ensures.tracks H _ (c.hear_without_memory.ensures.tracks H E t))))

pub returns-clause-keeps : goal.returns-clause-keeps
returns-clause-keeps c Image V is H E t honest k =
    let t1 = c.hear_without_memory.ensures.tracks H E t in
    let t2 = c.hear_without_memory-2.ensures.tracks H _ t1 in
    let t3 = c.hear_without_memory-3.ensures.tracks H _ t2 in
    let t4 = c.hear_without_memory-4.ensures.tracks H _ t3 in
    c.hear_without_memory-5.ensures.keeps Image V is H _ t4 honest
    (c.hear_without_memory-4.ensures.keeps Image V is H _ t3 honest.1
    (c.hear_without_memory-3.ensures.keeps Image V is H _ t2 honest.1.1
    (c.hear_without_memory-2.ensures.keeps Image V is H _ t1 honest.1.1.1
    (c.hear_without_memory.ensures.keeps Image V is H E t honest.1.1.1.1 k))))
