use Rattle.std.proofs.Common.{rules, ◌≡◌, true, false, sym, ◌∙◌, arith}
use Rattle.live_turns.proofs.Answering.{knows_here, place_here, answers_close, answers_take, answers_open, moves_to_put, moves_on}
use Rattle.live_turns.proofs.turns.LiveTurns.in_turn.Goals as goal

pub returns-then-not-has : goal.returns-then-not-has
returns-then-not-has c = λ w e run st here has.
    let peer = c.args.peer in
    let knows = knows_here w e c.args.self.now run peer c.args.taken st here c.retry-kept.result c.retry-kept.ensures in
    let stood : c.stands.result ≡ true = search rules in
    let shut : c.args.has ≡ false = search rules in
    answers_close w e c.args.self.now run peer c.args.taken st here (sym (c.stands.ensures peer run knows) ∙ stood) (sym has ∙ shut)

pub returns-then-taken-lt-MOST_PIECES : goal.returns-then-taken-lt-MOST_PIECES
returns-then-taken-lt-MOST_PIECES c = λ w e run st here has.
    let peer = c.args.peer in
    let knows = knows_here w e c.args.self.now run peer c.args.taken st here c.retry-kept.result c.retry-kept.ensures in
    let stood : c.stands.result ≡ true = search rules in
    let open_now : c.args.has ≡ true = search rules in
    answers_take w e c.args.self.now run peer c.args.taken st here (sym (c.stands.ensures peer run knows) ∙ stood) (sym has ∙ open_now) (omega arith)

pub returns-then-stands : goal.returns-then-stands
returns-then-stands c = λ w e run st here has.
    let peer = c.args.peer in
    let knows = knows_here w e c.args.self.now run peer c.args.taken st here c.retry-kept.result c.retry-kept.ensures in
    let stood : c.stands.result ≡ true = search rules in
    let open_now : c.args.has ≡ true = search rules in
    moves_to_put w e c.args.self.now run peer c.args.taken st here (sym (c.stands.ensures peer run knows) ∙ stood) (sym has ∙ open_now) (omega arith)

pub returns-then-may_begin : goal.returns-then-may_begin
returns-then-may_begin c = λ w e run st here has.
    let peer = c.args.peer in
    let knows = knows_here w e c.args.self.now run peer c.args.taken st here c.retry-kept.result c.retry-kept.ensures in
    let down : c.stands.result ≡ false = search rules in
    let may : c.may_begin.result ≡ true = search rules in
    answers_open w e c.args.self.now run peer c.args.taken st here (sym (c.stands.ensures peer run knows) ∙ down) (sym (c.may_begin.ensures peer run knows) ∙ may)

pub returns : goal.returns
returns c = λ w e run st here has.
    let peer = c.args.peer in
    let knows = knows_here w e c.args.self.now run peer c.args.taken st here c.retry-kept.result c.retry-kept.ensures in
    let down : c.stands.result ≡ false = search rules in
    let may_not : c.may_begin.result ≡ false = search rules in
    let place = place_here w e c.args.self.now run peer c.args.taken st here in
    moves_on w e c.args.self.now run peer c.args.taken st here (sym (c.stands.ensures peer run knows) ∙ down) (sym (c.may_begin.ensures peer run knows) ∙ may_not)
    c.after_peer-self.result (c.after_peer-self.ensures.due w e run st.ways) (c.after_peer-self.ensures.place w run st.ways place.2) c.after_peer-self.ensures.from
