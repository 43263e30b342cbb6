-- When the connection with a peer is begun again.
use Rattle.std.proofs.Common.{◌≡◌, ◌<◌, ◌≤◌, ℕ, ◌+◌, ◌-◌, ◌^◌, ◌==◌, nat_le, min, Bool, true, false, not, cond, zero, suc, ◌&&◌, ◌||◌, List, ◌∷◌, refl, sym, ap, ◌∙◌, subst, arith}
use Rattle.std.proofs.lemmas.Grind.{pow_more}
use Rattle.std.proofs.lemmas.Nat.{pow_pos}
use Rattle.std.proofs.lemmas.Bool.{ne_eqb, le-leb, lt-leb}
use Rattle.live_net.specs.LiveCalls.{LiveCall, Wait, Receive, Open, Take, Put, Close}
use Rattle.live_net.specs.declared.live.PeerOpened.TheVariants as opened
use Rattle.live_turns.specs.Retry.{begins_by, ends_by, is_second, stands, seconds_since, has_lasted, with_end, ends_in_row, pause_after}
use Rattle.live_turns.specs.Turning.{IsLink, Knows}
use Rattle.live_turns.specs.declared.retry.Link.TheVariants.{Up, Down}
use Rattle.live_turns.specs.declared.retry.Link.{Link}
use Rattle.live_turns.specs.declared.retry.Retry.{Retry}

-- ---- Pauses
-- a pause is as long as two of the one before, up to the longest
pause_doubles : (ends : ℕ) → pause_after (ends + 1 + 1) ≡ min (pause_after (ends + 1) + pause_after (ends + 1)) 64
pause_doubles ends =
    let one : ends + 1 - 1 ≡ ends = omega arith in
    let two : ends + 1 + 1 - 1 ≡ ends + 1 = omega arith in
    let some : (ends + 1 == 0) ≡ false = ne_eqb (ends + 1) 0 (λ is. omega (arith, is)) in
    let more : (ends + 1 + 1 == 0) ≡ false = ne_eqb (ends + 1 + 1) 0 (λ is. omega (arith, is)) in
    let pow = pow_more 2 ends in
    ap (λ (b : Bool). cond b 0 (min (2 ^ (ends + 1 + 1 - 1)) 64)) more
    ∙ ap (λ (n : ℕ). min (2 ^ n) 64) two
    ∙ (let here : min (2 ^ (ends + 1)) 64 ≡ min (min (2 ^ ends) 64 + min (2 ^ ends) 64) 64 = omega (arith, pow) in here)
    ∙ sym (ap (λ (b : Bool). min (cond b 0 (min (2 ^ (ends + 1 - 1)) 64) + cond b 0 (min (2 ^ (ends + 1 - 1)) 64)) 64) some ∙ ap (λ (n : ℕ). min (min (2 ^ n) 64 + min (2 ^ n) 64) 64) one)

-- that of some ends is some, and no longer than the longest
some_pause : (ends : ℕ) → pause_after (ends + 1) ≡ min (2 ^ ends) 64
some_pause ends =
    let one : ends + 1 - 1 ≡ ends = omega arith in
    ap (λ (b : Bool). cond b 0 (min (2 ^ (ends + 1 - 1)) 64)) (ne_eqb (ends + 1) 0 (λ is. omega (arith, is))) ∙ ap (λ (n : ℕ). min (2 ^ n) 64) one

grows_again : (ends pause : ℕ) → pause ≡ pause_after (ends + 1) → cond (pause == 0) 1 (min (pause + pause) 64) ≡ pause_after (ends + 1 + 1)
grows_again ends pause is =
    let some = some_pause ends in
    let pos = pow_pos ends in
    ap (λ (b : Bool). cond b 1 (min (pause + pause) 64)) (ne_eqb pause 0 (λ none. omega (arith, is, some, pos, none)))
    ∙ ap (λ (p : ℕ). min (p + p) 64) is ∙ sym (pause_doubles ends)

-- the pause after one more end
pub pause_grows : (ends pause : ℕ) → pause ≡ pause_after ends → cond (pause == 0) 1 (min (pause + pause) 64) ≡ pause_after (ends + 1)
pause_grows zero pause is = ap (λ (p : ℕ). cond (p == 0) 1 (min (p + p) 64)) is
pause_grows (suc e) pause is =
    subst (λ (n : ℕ). pause ≡ pause_after n → cond (pause == 0) 1 (min (pause + pause) 64) ≡ pause_after (n + 1))
    (let one : e + 1 ≡ suc e = omega arith in one) (grows_again e pause) is

pause_most : (ends : ℕ) → pause_after ends ≤ 64
pause_most zero = omega arith
pause_most (suc e) =
    let some = some_pause e in
    subst (λ (n : ℕ). pause_after n ≤ 64) (let one : e + 1 ≡ suc e = omega arith in one) (omega (arith, some))

-- ---- Calls of a peer
-- what begins a connection ends none, and is no second
pub record Begins (peer : ℕ) (call : LiveCall) : Type 0 where
  pub begins : begins_by peer call ≡ true
  pub not_ends : ends_by peer call ≡ false

pub begins : (peer : ℕ) (call : LiveCall) → begins_by peer call ≡ true → Begins peer call
begins peer (Open p opened.Begun) is = record { begins = is; not_ends = refl }
begins peer (Open p opened.Refused) is = cc
begins peer (Wait more answer) is = cc
begins peer (Receive line room bytes answer) is = cc
begins peer (Take p room bytes answer) is = cc
begins peer (Put p piece answer) is = cc
begins peer (Close p) is = cc

-- what ends one begins none
pub not_begins : (peer other : ℕ) (call : LiveCall) → ends_by peer call ≡ true → begins_by other call ≡ false
not_begins peer other (Open p opened.Refused) is = refl
not_begins peer other (Open p opened.Begun) is = cc
not_begins peer other (Wait more answer) is = cc
not_begins peer other (Receive line room bytes answer) is = cc
not_begins peer other (Take p room bytes answer) is = refl
not_begins peer other (Put p piece answer) is = refl
not_begins peer other (Close p) is = refl

-- ---- How its connection is
module _ (peer : ℕ) (run : List LiveCall) (r : Retry) (knows : Knows peer run r) where
  link_at : (link : Link) → r.link ≡ link → IsLink link (stands peer run) (seconds_since peer run) (pause_after (ends_in_row peer run))
  link_at link is = subst (λ (l : Link). IsLink l (stands peer run) (seconds_since peer run) (pause_after (ends_in_row peer run))) is knows.link_is

  abbrev pause : ℕ
  pause = pause_after (ends_in_row peer run)

  -- the pause is no longer than the longest
  pause_within : pause ≤ 64
  pause_within = pause_most (ends_in_row peer run)

  -- it has lasted, or not
  lasts : (b : Bool) → stands peer run ≡ true → nat_le pause (seconds_since peer run) ≡ b → has_lasted peer (ends_in_row peer run) run ≡ b
  lasts b s so = ap (λ (x : Bool). x && nat_le pause (seconds_since peer run)) s ∙ so

  pause_by : (b : Bool) → has_lasted peer (ends_in_row peer run) run ≡ b → pause_after (with_end peer (ends_in_row peer run) run) ≡ pause_after (cond b 0 (ends_in_row peer run) + 1)
  pause_by b lasted = ap (λ (x : Bool). pause_after (cond x 0 (ends_in_row peer run) + 1)) lasted

  pub pause_lasted : (n : ℕ) → r.link ≡ Up n → r.pause ≤ n → 1 ≡ pause_after (with_end peer (ends_in_row peer run) run)
  pause_lasted n is long =
      let at = (link_at (Up n) is).1 in
      let known = knows.pause_is in
      sym (pause_by true (lasts true (link_at (Up n) is).0 (le-leb pause (seconds_since peer run) (omega (arith, at, long, known)))))

  pub pause_short : (n longer : ℕ) → r.link ≡ Up n → n < r.pause → longer ≡ cond (r.pause == 0) 1 (min (r.pause + r.pause) 64) → longer ≡ pause_after (with_end peer (ends_in_row peer run) run)
  pause_short n longer is short grows =
      let at = (link_at (Up n) is).1 in
      let known = knows.pause_is in
      let within = pause_within in
      grows ∙ pause_grows (ends_in_row peer run) r.pause known
      ∙ sym (pause_by false (lasts false (link_at (Up n) is).0 (lt-leb pause (seconds_since peer run) (omega (arith, at, short, known, within)))))

  pub pause_down : (n longer : ℕ) → r.link ≡ Down n → longer ≡ cond (r.pause == 0) 1 (min (r.pause + r.pause) 64) → longer ≡ pause_after (with_end peer (ends_in_row peer run) run)
  pause_down n longer is grows =
      grows ∙ pause_grows (ends_in_row peer run) r.pause knows.pause_is
      ∙ sym (pause_by false (ap (λ (x : Bool). x && nat_le pause (seconds_since peer run)) (link_at (Down n) is).0))

-- ---- What is known of a peer
module _ (peer : ℕ) (run : List LiveCall) (call : LiveCall) where
  -- the connection is begun
  pub stands_begun : begins_by peer call ≡ true → stands peer (call ∷ run) ≡ true
  stands_begun is = ap (λ (b : Bool). b || (not (ends_by peer call) && stands peer run)) is

  pub since_begun : begins_by peer call ≡ true → seconds_since peer (call ∷ run) ≡ 0
  since_begun is = ap (λ (b : Bool). cond (b || ends_by peer call) 0 (cond (is_second call) (seconds_since peer run + 1) (seconds_since peer run))) is

  pub same_ends : ends_by peer call ≡ false → ends_in_row peer (call ∷ run) ≡ ends_in_row peer run
  same_ends is = ap (λ (b : Bool). cond b (with_end peer (ends_in_row peer run) run) (ends_in_row peer run)) is

  pub knows_begun : (r : Retry) → Knows peer run r → begins_by peer call ≡ true → Knows peer (call ∷ run) (record r { link = Up 0 })
  knows_begun r knows is =
      let known = begins peer call is in
      record {
        link_is = (stands_begun is, sym (ap (λ (n : ℕ). min n 64) (since_begun is)));
        pause_is = knows.pause_is ∙ ap pause_after (sym (same_ends known.not_ends));
      }

  -- it ended
  module _ (is : ends_by peer call ≡ true) where
    none : begins_by peer call ≡ false
    none = not_begins peer peer call is

    stands_ended : stands peer (call ∷ run) ≡ false
    stands_ended = ap (λ (b : Bool). b || (not (ends_by peer call) && stands peer run)) none ∙ ap (λ (b : Bool). not b && stands peer run) is

    since_ended : seconds_since peer (call ∷ run) ≡ 0
    since_ended =
        ap (λ (b : Bool). cond (b || ends_by peer call) 0 (cond (is_second call) (seconds_since peer run + 1) (seconds_since peer run))) none
        ∙ ap (λ (b : Bool). cond b 0 (cond (is_second call) (seconds_since peer run + 1) (seconds_since peer run))) is

    row_ended : ends_in_row peer (call ∷ run) ≡ with_end peer (ends_in_row peer run) run
    row_ended = ap (λ (x : Bool). cond x (with_end peer (ends_in_row peer run) run) (ends_in_row peer run)) is

    pub knows_ended : (left : ℕ) → left ≡ pause_after (with_end peer (ends_in_row peer run) run) → Knows peer (call ∷ run) (record { link = Down left; pause = left })
    knows_ended left first =
        let row = row_ended in
        let since = since_ended in
        let at : left ≡ pause_after (ends_in_row peer (call ∷ run)) = first ∙ ap pause_after (sym row) in
        record { link_is = (stands_ended, omega (arith, at, since)); pause_is = at }

  -- it was another's call, and no second
  pub knows_other : (r : Retry) → Knows peer run r → begins_by peer call ≡ false → ends_by peer call ≡ false → is_second call ≡ false → Knows peer (call ∷ run) r
  knows_other r knows b n s =
      let stood : stands peer (call ∷ run) ≡ stands peer run = ap (λ (x : Bool). x || (not (ends_by peer call) && stands peer run)) b ∙ ap (λ (x : Bool). not x && stands peer run) n in
      let since : seconds_since peer (call ∷ run) ≡ seconds_since peer run =
      ap (λ (x : Bool). cond (x || ends_by peer call) 0 (cond (is_second call) (seconds_since peer run + 1) (seconds_since peer run))) b
      ∙ ap (λ (x : Bool). cond x 0 (cond (is_second call) (seconds_since peer run + 1) (seconds_since peer run))) n
      ∙ ap (λ (x : Bool). cond x (seconds_since peer run + 1) (seconds_since peer run)) s in
      let row = same_ends n in
      record {
        link_is = subst (λ (x : Bool). IsLink r.link x (seconds_since peer (call ∷ run)) (pause_after (ends_in_row peer (call ∷ run)))) (sym stood)
            (subst (λ (x : ℕ). IsLink r.link (stands peer run) x (pause_after (ends_in_row peer (call ∷ run)))) (sym since)
            (subst (λ (x : ℕ). IsLink r.link (stands peer run) (seconds_since peer run) (pause_after x)) (sym row) knows.link_is));
        pause_is = knows.pause_is ∙ ap pause_after (sym row);
      }
