use Rattle.client_end.specs.Links.{gap_link}
use Rattle.client_end.specs.Came.{EndState, end_after}
use Rattle.client_end.proofs.Places.{none_is, there_is}
use Rattle.client_end.proofs.end.ClientEnd.cut_grp.Goals as goal

pub returns : goal.returns
returns c = record {
  stands = λ s before is.
      let now : EndState = end_after s before in
      record {
        unit_is = is.unit_is;
        account_is = is.account_is;
        parts = record {
          has = c.hear_cut.ensures.has s.hold now.heard now.grp (there_is gap_link c.args.self.now.grp now.grp is.parts.grp_is) is.parts.has;
          grp_is = none_is gap_link c.hear_cut.new.place c.hear_cut.ensures.none;
          spin_is = is.parts.spin_is;
        };
      };
}
