use Rattle.client_end.specs.Links.{spin_link}
use Rattle.client_end.specs.Came.{EndState, end_after}
use Rattle.client_end.proofs.Places.{none_is, there_is}
use Rattle.client_end.proofs.end.ClientEnd.cut_spin.Goals as goal

pub returns : goal.returns
returns c = record {
  stands = λ s before is.
      let now : EndState = end_after s before in
      record {
        unit_is = is.unit_is;
        account_is = is.account_is;
        parts = record {
          has = c.hear_cut.ensures.has s.hold now.heard now.spin (there_is (spin_link s.unit) c.args.self.now.spin now.spin is.parts.spin_is) is.parts.has;
          spin_is = none_is (spin_link s.unit) c.hear_cut.new.place c.hear_cut.ensures.none;
          grp_is = is.parts.grp_is;
        };
      };
}
