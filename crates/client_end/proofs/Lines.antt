-- An end to which only what comes on lines came, and seconds.
use Rattle.std.proofs.Common.{◌≡◌, Bool, true, false, ◌==◌, cond, List, [], ◌∷◌, map, refl, ap, ◌∙◌, Option, Some, None}
use Rattle.std.specs.Prelude.{filter}
use Rattle.std.specs.List.{AllByRecursion}
use Rattle.unit_packets.specs.Blocks.{Block}
use Rattle.pitch_model.specs.Asking.{ask_of}
use Rattle.pitch_model.specs.History.{Entry, Ticked}
use Rattle.pitch_model.specs.declared.ask.Ask.{Ask}
use Rattle.pitch_model.specs.declared.ask.Ask.TheVariants.{Gap, Spin}
use Rattle.heard_items.specs.Heard.{heard_block}
use Rattle.heard_items.specs.Units.{unit_history}
use Rattle.client_end.specs.Came.{Came, EndSetup, EndState, Heard, GrpMade, GrpTook, GrpCut, GrpLost, SpinMade, SpinTook, SpinCut, SpinLost, Second, end_after, end_history, asks_proxy, asks_spin_server, ask_sent, end_step, to_proxy, to_spin_server}
use Rattle.client_end.specs.layers.Laws.{BlocksAreFollowed, IsOfLines, NoneIsAsked}

pub blocks_are_followed : BlocksAreFollowed
blocks_are_followed s [] = refl
blocks_are_followed s (block ∷ blocks) = by (block.unit == s.unit) (blocks_are_followed s blocks)
  where
    ours : List Block
    ours = filter (λ (b : Block). b.unit == s.unit) blocks

    by : (b : Bool) → end_history s (map (λ (x : Block). Heard x) ours) ≡ unit_history s.unit blocks
        → end_history s (map (λ (x : Block). Heard x) (cond b (block ∷ ours) ours)) ≡ cond b (heard_block block (unit_history s.unit blocks)) (unit_history s.unit blocks)
    by true same = ap (λ (E : List Entry). heard_block block E) same
    by false same = same

-- ---- No connection stands
abbrev alone_with : List Entry → EndState
alone_with E = record { heard = E; grp = None; spin = None }

unasked : (s : EndSetup) (ask : Option Ask) (E : List Entry) → ask_sent s ask (alone_with E) ≡ alone_with E
unasked s None E = refl
unasked s (Some (Gap first count)) E = refl
unasked s (Some (Spin sequence)) E = refl

alone : (s : EndSetup) (before : List Came) → AllByRecursion IsOfLines before → (E : List Entry) × (end_after s before ≡ alone_with E)
alone s [] all = ([], refl)
alone s (Heard block ∷ before) all = let is = alone s before all.1 in (heard_block block is.0, ap (end_step s (Heard block)) is.1)
alone s (Second ∷ before) all =
    let is = alone s before all.1 in
    let E : List Entry = is.0 in
    let ask : Option Ask = ask_of s.hold E in
    (Ticked ask ∷ E, ap (end_step s Second) is.1 ∙ unasked s ask (Ticked ask ∷ E))
alone s (GrpMade ∷ before) all = absurd all.0
alone s (GrpTook bytes ∷ before) all = absurd all.0
alone s (GrpCut ∷ before) all = absurd all.0
alone s (GrpLost bytes count ∷ before) all = absurd all.0
alone s (SpinLost bytes count ∷ before) all = absurd all.0
alone s (SpinMade ∷ before) all = absurd all.0
alone s (SpinTook bytes ∷ before) all = absurd all.0
alone s (SpinCut ∷ before) all = absurd all.0

no_proxy : (s : EndSetup) (ask : Option Ask) → asks_proxy s ask None ≡ []
no_proxy s None = refl
no_proxy s (Some (Gap first count)) = refl
no_proxy s (Some (Spin sequence)) = refl

no_spin_server : (s : EndSetup) (ask : Option Ask) → asks_spin_server s ask None ≡ []
no_spin_server s None = refl
no_spin_server s (Some (Gap first count)) = refl
no_spin_server s (Some (Spin sequence)) = refl

pub none_is_asked : NoneIsAsked
none_is_asked s before all =
    let is = alone s before all in
    (ap (to_proxy s Second) is.1 ∙ no_proxy s (ask_of s.hold is.0), ap (to_spin_server s Second) is.1 ∙ no_spin_server s (ask_of s.hold is.0))
