-- Over a net that carries all in order, what came was sent, and what came to an end begins what was
-- put at the other.
use Rattle.std.proofs.Common.{◌≡◌, ◌≤◌, ℕ, ◌++◌, List, [], ◌∷◌, length, take, drop, refl, sym, ap, ◌∙◌, subst, append_assoc, arith, ◌⊎◌, inl, inr}
use Rattle.std.specs.List.{Contains}
use Rattle.std.proofs.lemmas.List.{append-nil, take_all, take-append-drop}
use Rattle.std.proofs.lemmas.List.Elements.{All-from_recursion, All-contains, Contains-append_cases, Contains-append_left, Contains-append_right, Contains-push, Contains-push_cases}
use Rattle.pitch_io.specs.declared.line.Line.{Line}
use Rattle.pitch_io.specs.declared.line.Line.TheVariants.{A, B, Gap}
use Rattle.pitch_io.specs.declared.net.LinkEnd.{LinkEnd}
use Rattle.pitch_io.specs.declared.net.LinkEnd.TheVariants.{GrpClient, GrpServer, SpinClient, SpinServer}
use Rattle.pitch_io.specs.declared.net.NetDone.{NetDone}
use Rattle.pitch_io.specs.declared.net.NetDone.TheVariants as done
use Rattle.pitch_io.specs.declared.net.NetTaken.{NetTaken}
use Rattle.pitch_io.specs.declared.net.NetTaken.TheVariants.{Got, Quiet, End, Failed}
use Rattle.pitch_io.specs.declared.sink.Put.TheVariants as puts
use Rattle.pitch_io.specs.Nets.{Call, Begin, Send, Next, Put, Take, other_end}
use Rattle.memory_devices.specs.layers.MemoryNets.{OnItsWay, CameInOrder, FirstCame, as_carried}
use Rattle.memory_devices.specs.layers.MemoryNets.{nothing_coming, way_after}
use Rattle.unit_packets.specs.Packing.{datagram_size}
use Rattle.net_edge.specs.Acting.{scene_after, scene_of}
use Rattle.net_edge.specs.Demo.{AreShort, IsCarried}
use Rattle.net_edge.specs.Due.{Setting, call_room}
use Rattle.net_edge.specs.Scene.{Scene, OnLine, line_in, at_end, first_scene}
use Rattle.net_edge.specs.Steps.{Step, Did, Beat, Turn, call_at, calls_of}
use Rattle.net_edge.specs.Turns.{AreSteps, MayCome}

-- ---- A line
-- what came on it and what is on its way was sent
abbrev LineOk : OnLine → List (List ℕ) → Type 0
LineOk on way = ((d : List ℕ) → Contains on.came d → Contains on.sent d) × ((d : List ℕ) → Contains way d → Contains on.sent d)

fits_before : (xs ys : List (List ℕ)) → AreShort (xs ++ ys) → AreShort xs
fits_before [] ys fits = tt
fits_before (x ∷ xs) ys fits = (fits.0, fits_before xs ys fits.1)

line_sent : (on : OnLine) (way : List (List ℕ)) (d : List ℕ) → LineOk on way → LineOk (record on { sent = on.sent ++ d ∷ [] }) (way ++ as_carried d)
line_sent on way d ok = (λ x came. Contains-append_left on.sent (d ∷ []) x (ok.0 x came), λ x waits. by x (Contains-append_cases way (as_carried d) x waits))
  where
    carried : (d x : List ℕ) → Contains (as_carried d) x → Contains (d ∷ []) x
    carried [] x there = absurd (omega (arith, there.1))
    carried (byte ∷ bytes) x there = there

    by : (x : List ℕ) → Contains way x ⊎ Contains (as_carried d) x → Contains (on.sent ++ d ∷ []) x
    by x (inl waits) = Contains-append_left on.sent (d ∷ []) x (ok.1 x waits)
    by x (inr new) = Contains-append_right on.sent (d ∷ []) x (carried d x new)

-- the first that was on its way came, whole
first_whole : (way : List (List ℕ)) (room count : ℕ) (bytes : List ℕ) → room ≡ call_room → ((d : List ℕ) → Contains way d → length d ≤ datagram_size) → FirstCame way room count bytes → Contains way bytes
first_whole [] room count bytes roomy fits first = absurd first
first_whole (d ∷ ds) room count bytes roomy fits first =
    let here : Contains (d ∷ ds) d = Contains-append_left (d ∷ []) ds d (Contains-push [] d) in
    let fit : length d ≤ datagram_size = fits d here in
    let all : length d ≤ count = omega (arith, first.0, roomy, fit) in
    subst (λ (x : List ℕ). Contains (d ∷ ds) x) (sym (first.1 ∙ take_all count d all)) here

rest_waits : (way : List (List ℕ)) (x : List ℕ) → Contains (drop 1 way) x → Contains way x
rest_waits [] x there = there
rest_waits (d ∷ ds) x there = Contains-append_right (d ∷ []) ds x there

line_came : (on : OnLine) (way : List (List ℕ)) (room count : ℕ) (bytes : List ℕ) (answers : List NetTaken) → room ≡ call_room → AreShort on.sent → FirstCame way room count bytes → LineOk on way
    → LineOk (record { sent = on.sent; came = on.came ++ bytes ∷ []; answers = answers }) (drop 1 way)
line_came on way room count bytes answers roomy fits first ok = (λ x there. by x (Contains-push_cases on.came bytes x there), λ x waits. ok.1 x (rest_waits way x waits))
  where
    fit : (d : List ℕ) → Contains way d → length d ≤ datagram_size
    fit d waits = All-contains (λ (x : List ℕ). length x ≤ datagram_size) on.sent d (All-from_recursion (λ (x : List ℕ). length x ≤ datagram_size) on.sent fits) (ok.1 d waits)

    by : (x : List ℕ) → Contains on.came x ⊎ (bytes ≡ x) → Contains on.sent x
    by x (inl came) = ok.0 x came
    by x (inr is) = subst (λ (y : List ℕ). Contains on.sent y) is (ok.1 bytes (first_whole way room count bytes roomy fit first))

-- a call on it brought nothing
line_none : (on : OnLine) (way : List (List ℕ)) (answers : List NetTaken) → LineOk on way → LineOk (record { sent = on.sent; came = on.came ++ []; answers = answers }) way
line_none on way answers ok = (λ x there. ok.0 x (subst (λ (ds : List (List ℕ)). Contains ds x) (append-nil on.came) there), ok.1)

-- ---- An end
-- what was put at the other end is what came, and then what is on its way
abbrev EndOk : List ℕ → List ℕ → List ℕ → Type 0
EndOk put came way = put ≡ came ++ way

end_put : (put came way more : List ℕ) → EndOk put came way → EndOk (put ++ more) came (way ++ more)
end_put put came way more ok = ap (λ (b : List ℕ). b ++ more) ok ∙ append_assoc came way more

end_took : (put came way bytes : List ℕ) (count : ℕ) → bytes ≡ take count way → EndOk put came way → EndOk put (came ++ bytes) (drop count way)
end_took put came way bytes count are ok =
    ok ∙ ap (λ (b : List ℕ). came ++ b) (sym (take-append-drop count way)) ∙ sym (append_assoc came (take count way) (drop count way)) ∙ ap (λ (b : List ℕ). (came ++ b) ++ drop count way) (sym are)

end_none : (put came way : List ℕ) → EndOk put came way → EndOk put (came ++ []) way
end_none put came way ok = ok ∙ ap (λ (b : List ℕ). b ++ way) (sym (append-nil came))

-- ---- All of them
abbrev Balance : Scene → OnItsWay → Type 0
Balance n w =
    LineOk n.a w.a × LineOk n.b w.b × LineOk n.gap w.gap × EndOk n.grp_server.put n.grp_client.came w.grp_client × EndOk n.grp_client.put n.grp_server.came w.grp_server
    × EndOk n.spin_server.put n.spin_client.came w.spin_client × EndOk n.spin_client.put n.spin_server.came w.spin_server

abbrev FitLines : Scene → Type 0
FitLines n = AreShort n.a.sent × AreShort n.b.sent × AreShort n.gap.sent

-- each datagram that was sent before a step fits, where each that was sent after it does
fit_before : (s : Setting) (step : Step) (n : Scene) → FitLines (scene_after s step n) → FitLines n
fit_before s (Did (Begin answer)) n f = f
fit_before s (Did (Send A datagram answer)) n f = (fits_before n.a.sent (datagram ∷ []) f.0, f.1, f.2)
fit_before s (Did (Send B datagram answer)) n f = (f.0, fits_before n.b.sent (datagram ∷ []) f.1, f.2)
fit_before s (Did (Send Gap datagram answer)) n f = (f.0, f.1, fits_before n.gap.sent (datagram ∷ []) f.2)
fit_before s (Did (Next A room bytes answer)) n f = f
fit_before s (Did (Next B room bytes answer)) n f = f
fit_before s (Did (Next Gap room bytes answer)) n f = f
fit_before s (Did (Put GrpClient piece answer)) n f = f
fit_before s (Did (Put GrpServer piece answer)) n f = f
fit_before s (Did (Put SpinClient piece answer)) n f = f
fit_before s (Did (Put SpinServer piece answer)) n f = f
fit_before s (Did (Take GrpServer room bytes (Got count))) n f = f
fit_before s (Did (Take GrpServer room bytes Quiet)) n f = f
fit_before s (Did (Take GrpServer room bytes End)) n f = f
fit_before s (Did (Take GrpServer room bytes Failed)) n f = f
fit_before s (Did (Take SpinServer room bytes answer)) n f = f
fit_before s (Did (Take GrpClient room bytes (Got count))) n f = f
fit_before s (Did (Take GrpClient room bytes Quiet)) n f = f
fit_before s (Did (Take GrpClient room bytes End)) n f = f
fit_before s (Did (Take GrpClient room bytes Failed)) n f = f
fit_before s (Did (Take SpinClient room bytes (Got count))) n f = f
fit_before s (Did (Take SpinClient room bytes Quiet)) n f = f
fit_before s (Did (Take SpinClient room bytes End)) n f = f
fit_before s (Did (Take SpinClient room bytes Failed)) n f = f
fit_before s (Beat heartbeat answer) n f = (f.0, fits_before n.b.sent (heartbeat ∷ []) f.1, f.2)
fit_before s Turn n f = f

module _ (s : Setting) (base : List Call) where
  abbrev left : List Call → OnItsWay
  left calls = way_after (calls ++ base)

  -- a step keeps them, where what came by it was first on its way
  abbrev Keeps : Step → List Call → Scene → Type 0
  Keeps step calls n =
      MayCome s step n → FitLines n → CameInOrder ((call_at step ++ calls) ++ base) → Balance n (left calls) → Balance (scene_after s step n) (left (call_at step ++ calls))

  sends : (line : Line) (datagram : List ℕ) (answer : NetDone) (calls : List Call) (n : Scene) → Keeps (Did (Send line datagram answer)) calls n
  sends line datagram done.Failed calls n may fits came b = absurd (may.0 tt)
  sends A datagram done.Done calls n may fits came b = (line_sent n.a (left calls).a datagram b.0, b.1, b.2, b.3, b.4, b.5, b.6)
  sends B datagram done.Done calls n may fits came b = (b.0, line_sent n.b (left calls).b datagram b.1, b.2, b.3, b.4, b.5, b.6)
  sends Gap datagram done.Done calls n may fits came b = (b.0, b.1, line_sent n.gap (left calls).gap datagram b.2, b.3, b.4, b.5, b.6)

  nexts : (line : Line) (room : ℕ) (bytes : List ℕ) (answer : NetTaken) (calls : List Call) (n : Scene) → Keeps (Did (Next line room bytes answer)) calls n
  nexts A room bytes (Got count) calls n may fits came b = (line_came n.a (left calls).a room count bytes (Got count ∷ n.a.answers) may.1.0 fits.0 came.0 b.0, b.1, b.2, b.3, b.4, b.5, b.6)
  nexts B room bytes (Got count) calls n may fits came b = (b.0, line_came n.b (left calls).b room count bytes (Got count ∷ n.b.answers) may.1.0 fits.1 came.0 b.1, b.2, b.3, b.4, b.5, b.6)
  nexts Gap room bytes (Got count) calls n may fits came b = (b.0, b.1, line_came n.gap (left calls).gap room count bytes (Got count ∷ n.gap.answers) may.1.0 fits.2 came.0 b.2, b.3, b.4, b.5, b.6)
  nexts A room bytes Quiet calls n may fits came b = (line_none n.a (left calls).a (Quiet ∷ n.a.answers) b.0, b.1, b.2, b.3, b.4, b.5, b.6)
  nexts B room bytes Quiet calls n may fits came b = (b.0, line_none n.b (left calls).b (Quiet ∷ n.b.answers) b.1, b.2, b.3, b.4, b.5, b.6)
  nexts Gap room bytes Quiet calls n may fits came b = (b.0, b.1, line_none n.gap (left calls).gap (Quiet ∷ n.gap.answers) b.2, b.3, b.4, b.5, b.6)
  nexts A room bytes End calls n may fits came b = (line_none n.a (left calls).a (End ∷ n.a.answers) b.0, b.1, b.2, b.3, b.4, b.5, b.6)
  nexts B room bytes End calls n may fits came b = (b.0, line_none n.b (left calls).b (End ∷ n.b.answers) b.1, b.2, b.3, b.4, b.5, b.6)
  nexts Gap room bytes End calls n may fits came b = (b.0, b.1, line_none n.gap (left calls).gap (End ∷ n.gap.answers) b.2, b.3, b.4, b.5, b.6)
  nexts line room bytes Failed calls n may fits came b = absurd (may.0 tt)

  puts_on : (at : LinkEnd) (piece : List ℕ) (count : ℕ) (calls : List Call) (n : Scene) → Keeps (Did (Put at piece (puts.Wrote count))) calls n
  puts_on GrpServer piece count calls n may fits came b = (b.0, b.1, b.2, end_put n.grp_server.put n.grp_client.came (left calls).grp_client (take count piece) b.3, b.4, b.5, b.6)
  puts_on GrpClient piece count calls n may fits came b = (b.0, b.1, b.2, b.3, end_put n.grp_client.put n.grp_server.came (left calls).grp_server (take count piece) b.4, b.5, b.6)
  puts_on SpinServer piece count calls n may fits came b = (b.0, b.1, b.2, b.3, b.4, end_put n.spin_server.put n.spin_client.came (left calls).spin_client (take count piece) b.5, b.6)
  puts_on SpinClient piece count calls n may fits came b = (b.0, b.1, b.2, b.3, b.4, b.5, end_put n.spin_client.put n.spin_server.came (left calls).spin_server (take count piece) b.6)

  takes : (at : LinkEnd) (room : ℕ) (bytes : List ℕ) (answer : NetTaken) (calls : List Call) (n : Scene) → Keeps (Did (Take at room bytes answer)) calls n
  takes GrpClient room bytes (Got count) calls n may fits came b = (b.0, b.1, b.2, end_took n.grp_server.put n.grp_client.came (left calls).grp_client bytes count came.0 b.3, b.4, b.5, b.6)
  takes GrpServer room bytes (Got count) calls n may fits came b = (b.0, b.1, b.2, b.3, end_took n.grp_client.put n.grp_server.came (left calls).grp_server bytes count came.0 b.4, b.5, b.6)
  takes SpinClient room bytes (Got count) calls n may fits came b = (b.0, b.1, b.2, b.3, b.4, end_took n.spin_server.put n.spin_client.came (left calls).spin_client bytes count came.0 b.5, b.6)
  takes SpinServer room bytes (Got count) calls n may fits came b = (b.0, b.1, b.2, b.3, b.4, b.5, end_took n.spin_client.put n.spin_server.came (left calls).spin_server bytes count came.0 b.6)
  takes GrpClient room bytes Quiet calls n may fits came b = (b.0, b.1, b.2, end_none n.grp_server.put n.grp_client.came (left calls).grp_client b.3, b.4, b.5, b.6)
  takes GrpServer room bytes Quiet calls n may fits came b = (b.0, b.1, b.2, b.3, end_none n.grp_client.put n.grp_server.came (left calls).grp_server b.4, b.5, b.6)
  takes SpinClient room bytes Quiet calls n may fits came b = (b.0, b.1, b.2, b.3, b.4, end_none n.spin_server.put n.spin_client.came (left calls).spin_client b.5, b.6)
  takes SpinServer room bytes Quiet calls n may fits came b = (b.0, b.1, b.2, b.3, b.4, b.5, end_none n.spin_client.put n.spin_server.came (left calls).spin_server b.6)
  takes GrpClient room bytes End calls n may fits came b = (b.0, b.1, b.2, end_none n.grp_server.put n.grp_client.came (left calls).grp_client b.3, b.4, b.5, b.6)
  takes GrpServer room bytes End calls n may fits came b = (b.0, b.1, b.2, b.3, end_none n.grp_client.put n.grp_server.came (left calls).grp_server b.4, b.5, b.6)
  takes SpinClient room bytes End calls n may fits came b = (b.0, b.1, b.2, b.3, b.4, end_none n.spin_server.put n.spin_client.came (left calls).spin_client b.5, b.6)
  takes SpinServer room bytes End calls n may fits came b = (b.0, b.1, b.2, b.3, b.4, b.5, end_none n.spin_client.put n.spin_server.came (left calls).spin_server b.6)
  takes at room bytes Failed calls n may fits came b = absurd (may.0 tt)

  beats : (heartbeat : List ℕ) (answer : NetDone) (calls : List Call) (n : Scene) → Keeps (Beat heartbeat answer) calls n
  beats heartbeat done.Failed calls n may fits came b = absurd (may.0 tt)
  beats heartbeat done.Done calls n may fits came b = (b.0, line_sent n.b (left calls).b heartbeat b.1, b.2, b.3, b.4, b.5, b.6)

  keeps : (step : Step) (calls : List Call) (n : Scene) → Keeps step calls n
  keeps (Did (Begin answer)) calls n may fits came b = absurd may.0
  keeps (Did (Send line datagram answer)) calls n may fits came b = sends line datagram answer calls n may fits came b
  keeps (Did (Next line room bytes answer)) calls n may fits came b = nexts line room bytes answer calls n may fits came b
  keeps (Did (Put at piece (puts.Wrote count))) calls n may fits came b = puts_on at piece count calls n may fits came b
  keeps (Did (Put at piece puts.Failed)) calls n may fits came b = absurd (may.0 tt)
  keeps (Did (Take at room bytes answer)) calls n may fits came b = takes at room bytes answer calls n may fits came b
  keeps (Beat heartbeat answer) calls n may fits came b = beats heartbeat answer calls n may fits came b
  keeps Turn calls n may fits came b = b

  -- what came before a step came in order too
  order_before : (call : Call) (calls : List Call) → CameInOrder (call ∷ calls) → CameInOrder calls
  order_before (Begin answer) calls came = came
  order_before (Send line datagram answer) calls came = came
  order_before (Next line room bytes (Got count)) calls came = came.1
  order_before (Next line room bytes Quiet) calls came = came
  order_before (Next line room bytes End) calls came = came
  order_before (Next line room bytes Failed) calls came = came
  order_before (Put at piece answer) calls came = came
  order_before (Take at room bytes (Got count)) calls came = came.1
  order_before (Take at room bytes Quiet) calls came = came
  order_before (Take at room bytes End) calls came = came
  order_before (Take at room bytes Failed) calls came = came

  step_before : (step : Step) (calls : List Call) → CameInOrder ((call_at step ++ calls) ++ base) → CameInOrder (calls ++ base)
  step_before (Did call) calls came = order_before call (calls ++ base) came
  step_before (Beat heartbeat answer) calls came = came
  step_before Turn calls came = came

  -- ---- A whole run
  balanced : (run : List Step) → left [] ≡ nothing_coming → AreSteps s run → FitLines (scene_of s run) → CameInOrder (calls_of run ++ base) → Balance (scene_of s run) (left (calls_of run))
  balanced [] none steps fits came = subst (Balance (first_scene s)) (sym none) ((λ d there. there, λ d there. there), (λ d there. there, λ d there. there), (λ d there. there, λ d there. there), refl, refl, refl, refl)
  balanced (step ∷ before) none steps fits came =
      let n : Scene = scene_of s before in
      let fit : FitLines n = fit_before s step n fits in
      keeps step (calls_of before) n steps.0 fit came (balanced before none steps.1 fit (step_before step (calls_of before) came))

-- the network carries
pub run_carried : (s : Setting) (run : List Step) (before : List Call) → AreSteps s run → ((line : Line) → AreShort (line_in line (scene_of s run)).sent) → CameInOrder (calls_of run ++ (Begin done.Done ∷ before)) → IsCarried (scene_of s run)
run_carried s run before steps fits came =
    let n : Scene = scene_of s run in
    let w : OnItsWay = way_after (calls_of run ++ (Begin done.Done ∷ before)) in
    let b : Balance n w = balanced s (Begin done.Done ∷ before) run refl steps (fits A, fits B, fits Gap) came in
    record { lines = lines n w b; ends = ends n w b }
  where
    lines : (n : Scene) (w : OnItsWay) → Balance n w → (line : Line) (d : List ℕ) → Contains (line_in line n).came d → Contains (line_in line n).sent d
    lines n w b A = b.0.0
    lines n w b B = b.1.0
    lines n w b Gap = b.2.0

    ends : (n : Scene) (w : OnItsWay) → Balance n w → (at : LinkEnd) → (later : List ℕ) × ((at_end (other_end at) n).put ≡ (at_end at n).came ++ later)
    ends n w b GrpClient = (w.grp_client, b.3)
    ends n w b GrpServer = (w.grp_server, b.4)
    ends n w b SpinClient = (w.spin_client, b.5)
    ends n w b SpinServer = (w.spin_server, b.6)
