use Rattle.std.proofs.lemmas.Result.{on_ok_weaker}
use Rattle.client_end.specs.Links.{spin_link}
use Rattle.client_end.specs.Came.{EndState, end_after, of_spin}
use Rattle.client_end.proofs.Places.{none_is, on_err_both}
use Rattle.client_end.proofs.end.ClientEnd.take_spin.Goals as goal

pub returns-clause-stands : goal.returns-clause-stands
returns-clause-stands c = on_ok_weaker c.hear_bytes.result (λ has s before is.
    let now : EndState = end_after s before in
    let after = has s.hold (spin_link s.unit) (of_spin now) (record { link_is = is.parts.spin_is; has = is.parts.has }) in
    record {
      unit_is = is.unit_is;
      account_is = is.account_is;
      parts = record { has = after.has; spin_is = after.link_is; grp_is = is.parts.grp_is };
    }) c.hear_bytes.ensures.has

pub returns-clause-err : goal.returns-clause-err
returns-clause-err c = on_err_both c.hear_bytes.result (λ first none. (
  first.0,
  λ s before is.
      let now : EndState = end_after s before in
      record {
        unit_is = is.unit_is;
        account_is = is.account_is;
        parts = record {
          has = first.1 s.hold (spin_link s.unit) (of_spin now) (record { link_is = is.parts.spin_is; has = is.parts.has });
          spin_is = none_is (spin_link s.unit) c.hear_bytes.new.place none;
          grp_is = is.parts.grp_is;
        };
      },
)) c.hear_bytes.ensures.err c.hear_bytes.ensures.err_none
