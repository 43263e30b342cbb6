use Rattle.std.proofs.Common.{◌≡◌, ◌∷◌, Option, sym, ap, ◌∙◌, subst, inl, inr}
use Rattle.pitch_model.specs.declared.ask.Ask.{Ask}
use Rattle.pitch_model.specs.Asking.{ask_of}
use Rattle.pitch_model.specs.History.{Ticked}
use Rattle.pitch_model.proofs.Results.{on_err}
use Rattle.client_core.specs.declared.client.UnitClient.{UnitClient}
use Rattle.session_ends.specs.Events as event
use Rattle.client_end.specs.Links.{gap_link, spin_link}
use Rattle.client_end.specs.Sessions.{place_says}
use Rattle.client_end.specs.Came.{EndState, end_after, of_grp, of_spin, grp_link_ticks, both_links_tick, asks_proxy, asks_spin_server}
use Rattle.client_end.specs.Stands.{Failed}
use Rattle.client_end.specs.Parts.{ClientHeard}
use Rattle.client_end.specs.declared.end.ClientEnd.{ClientEnd}
use Rattle.client_end.proofs.Losing.{asks_loosely}
use Rattle.client_end.proofs.Places.{there_is}
use Rattle.client_end.proofs.Seconds.{ticked, asks_so, said_twice}
use Rattle.client_end.proofs.end.ClientEnd.pass_second.Goals as goal

pub returns-clause-stands : goal.returns-clause-stands
returns-clause-stands c = λ s before is.
    let now : EndState = end_after s before in
    let one = c.in_ok-hear_second.ensures.has s.hold gap_link (of_grp now) (record { link_is = is.parts.grp_is; has = is.parts.has }) in
    let two = c.in_ok-hear_second-2.ensures.has s.hold (spin_link s.unit) (of_spin (grp_link_ticks now)) (record { link_is = is.parts.spin_is; has = one.has }) in
    let both : EndState = both_links_tick s now in
    let asks : c.tick-ask.result ≡ ask_of s.hold both.heard = c.tick-ask.ensures.asks s.hold both.heard two.has.tracks in
    let has = ticked s.hold c.hear_second-2.new.client c.tick-ask.new.self c.tick-ask.result both.heard c.tick-ask.ensures.tracks c.tick-ask.ensures.keeps two.has in
    let parts = c.in_ok-ask_through.ensures.has s c.tick-ask.new.self (record both { heard = Ticked c.tick-ask.result ∷ both.heard }) is.unit_is (record { has = has; grp_is = one.link_is; spin_is = two.link_is }) in
    record { unit_is = is.unit_is; account_is = is.account_is; parts = asks_so s _ _ _ both c.tick-ask.result asks parts }

pub returns-clause-ask : goal.returns-clause-ask
returns-clause-ask c = λ s before is.
    let now : EndState = end_after s before in
    let one = c.in_ok-hear_second.ensures.has s.hold gap_link (of_grp now) (record { link_is = is.parts.grp_is; has = is.parts.has }) in
    let two = c.in_ok-hear_second-2.ensures.has s.hold (spin_link s.unit) (of_spin (grp_link_ticks now)) (record { link_is = is.parts.spin_is; has = one.has }) in
    c.tick-ask.ensures.asks s.hold (both_links_tick s now).heard two.has.tracks

pub returns-clause-says_grp : goal.returns-clause-says_grp
returns-clause-says_grp c = λ s before is.
    let now : EndState = end_after s before in
    let one = c.in_ok-hear_second.ensures.has s.hold gap_link (of_grp now) (record { link_is = is.parts.grp_is; has = is.parts.has }) in
    let two = c.in_ok-hear_second-2.ensures.has s.hold (spin_link s.unit) (of_spin (grp_link_ticks now)) (record { link_is = is.parts.spin_is; has = one.has }) in
    let both : EndState = both_links_tick s now in
    let asks : c.tick-ask.result ≡ ask_of s.hold both.heard = c.tick-ask.ensures.asks s.hold both.heard two.has.tracks in
    said_twice c.args.grp_said.now.items _ _ (place_says gap_link event.Ticked now.grp) _ _ (c.in_ok-hear_second.ensures.says gap_link now.grp is.parts.grp_is)
    (c.in_ok-ask_through.ensures.says_grp s both.grp is.unit_is one.link_is) (ap (λ (a : Option Ask). asks_proxy s a both.grp) asks)

pub returns-clause-says_spin : goal.returns-clause-says_spin
returns-clause-says_spin c = λ s before is.
    let now : EndState = end_after s before in
    let one = c.in_ok-hear_second.ensures.has s.hold gap_link (of_grp now) (record { link_is = is.parts.grp_is; has = is.parts.has }) in
    let two = c.in_ok-hear_second-2.ensures.has s.hold (spin_link s.unit) (of_spin (grp_link_ticks now)) (record { link_is = is.parts.spin_is; has = one.has }) in
    let both : EndState = both_links_tick s now in
    let asks : c.tick-ask.result ≡ ask_of s.hold both.heard = c.tick-ask.ensures.asks s.hold both.heard two.has.tracks in
    said_twice c.args.spin_said.now.items _ _ (place_says (spin_link s.unit) event.Ticked now.spin) _ _ (c.in_ok-hear_second-2.ensures.says (spin_link s.unit) now.spin is.parts.spin_is)
    (c.in_ok-ask_through.ensures.says_spin s both.spin two.link_is) (ap (λ (a : Option Ask). asks_spin_server s a both.spin) asks)

pub returns-in_err-hear_second-clause-err : goal.returns-in_err-hear_second-clause-err
returns-in_err-hear_second-clause-err c =
    let e : ClientEnd = record c.args.self.now { client = c.hear_second.new.client; grp = c.hear_second.new.place } in
    on_err (Failed c.args.self.now e) c.from_residual.result (inl (λ s before is.
    let now : EndState = end_after s before in
    record {
      unit_is = is.unit_is;
      account_is = is.account_is;
      has = subst (λ (client : UnitClient). ClientHeard s.hold client now.heard) (sym c.in_err-hear_second.ensures.err) is.parts.has;
      grp_there = c.in_err-hear_second.ensures.err_there ∙ there_is gap_link c.args.self.now.grp now.grp is.parts.grp_is;
      spin_there = there_is (spin_link s.unit) c.args.self.now.spin now.spin is.parts.spin_is;
    }))

pub returns-in_err-hear_second-2-clause-err : goal.returns-in_err-hear_second-2-clause-err
returns-in_err-hear_second-2-clause-err c =
    let e : ClientEnd = record c.args.self.now { client = c.hear_second-2.new.client; grp = c.hear_second.new.place; spin = c.hear_second-2.new.place } in
    on_err (Failed c.args.self.now e) c.from_residual-in_err-hear_second-2.result (inr (inl (λ s before is.
    let now : EndState = end_after s before in
    let one = c.in_ok-hear_second.ensures.has s.hold gap_link (of_grp now) (record { link_is = is.parts.grp_is; has = is.parts.has }) in
    let first : EndState = grp_link_ticks now in
    record {
      unit_is = is.unit_is;
      account_is = is.account_is;
      has = subst (λ (client : UnitClient). ClientHeard s.hold client first.heard) (sym c.in_err-hear_second-2.ensures.err) one.has;
      grp_there = there_is gap_link c.hear_second.new.place first.grp one.link_is;
      spin_there = c.in_err-hear_second-2.ensures.err_there ∙ there_is (spin_link s.unit) c.args.self.now.spin now.spin is.parts.spin_is;
    })))

pub returns-in_err-ask_through-clause-err : goal.returns-in_err-ask_through-clause-err
returns-in_err-ask_through-clause-err c =
    let e : ClientEnd = record c.args.self.now { client = c.tick-ask.new.self; grp = c.ask_through.new.grp; spin = c.ask_through.new.spin } in
    on_err (Failed c.args.self.now e) c.from_residual-in_err-ask_through.result (inr (inr (λ s before is.
    let now : EndState = end_after s before in
    let one = c.in_ok-hear_second.ensures.has s.hold gap_link (of_grp now) (record { link_is = is.parts.grp_is; has = is.parts.has }) in
    let two = c.in_ok-hear_second-2.ensures.has s.hold (spin_link s.unit) (of_spin (grp_link_ticks now)) (record { link_is = is.parts.spin_is; has = one.has }) in
    let both : EndState = both_links_tick s now in
    let asks : c.tick-ask.result ≡ ask_of s.hold both.heard = c.tick-ask.ensures.asks s.hold both.heard two.has.tracks in
    let has = ticked s.hold c.hear_second-2.new.client c.tick-ask.new.self c.tick-ask.result both.heard c.tick-ask.ensures.tracks c.tick-ask.ensures.keeps two.has in
    asks_loosely s e both c.tick-ask.result asks (record {
      unit_is = is.unit_is;
      account_is = is.account_is;
      has = has;
      grp_there = c.in_err-ask_through.ensures.grp_there ∙ there_is gap_link c.hear_second.new.place both.grp one.link_is;
      spin_there = c.in_err-ask_through.ensures.spin_there ∙ there_is (spin_link s.unit) c.hear_second-2.new.place both.spin two.link_is;
    }))))
