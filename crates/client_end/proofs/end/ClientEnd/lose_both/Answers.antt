use Rattle.client_end.specs.Links.{gap_link, spin_link}
use Rattle.client_end.specs.Came.{GrpCut, end_step}
use Rattle.client_end.proofs.Places.{none_is}
use Rattle.client_end.proofs.end.ClientEnd.lose_both.Goals as goal

pub returns : goal.returns
returns c = λ s now is. record {
  unit_is = is.unit_is;
  account_is = is.account_is;
  parts = record {
    has = c.hear_cut-2.ensures.has s.hold (end_step s GrpCut now).heard now.spin is.spin_there (c.hear_cut.ensures.has s.hold now.heard now.grp is.grp_there is.has);
    grp_is = none_is gap_link c.hear_cut.new.place c.hear_cut.ensures.none;
    spin_is = none_is (spin_link s.unit) c.hear_cut-2.new.place c.hear_cut-2.ensures.none;
  };
}
