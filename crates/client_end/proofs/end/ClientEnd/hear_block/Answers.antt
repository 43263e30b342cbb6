use Rattle.std.proofs.Common.{sym, ap}
use Rattle.unit_packets.specs.declared.header.Header.{Header}
use Rattle.heard_items.proofs.Units.{honest_block}
use Rattle.heard_items.specs.Heard.{heard_block}
use Rattle.client_core.specs.layers.Blocks.{Carries}
use Rattle.client_core.specs.Client.{IsAsBefore}
use Rattle.pitch_model.proofs.Results.{on_err}
use Rattle.client_core.proofs.Venues.{venue_by}
use Rattle.client_end.specs.Came.{end_history}
use Rattle.client_end.specs.Stands.{StandsStill}
use Rattle.client_end.proofs.end.ClientEnd.hear_block.Goals as goal

pub returns-clause-stands : goal.returns-clause-stands
returns-clause-stands c = λ s before is.
    let E = end_history s before in
    let carries : Carries c.args.block.now c.header.result.sequence c.raws.result =
    record { sequence_is = sym (ap (λ (h : Header). h.sequence) c.header.ensures); raws_are = sym c.raws.ensures.raws } in
    record {
      unit_is = is.unit_is;
      account_is = is.account_is;
      parts = record {
        has = record {
          tracks = c.in_ok-change.ensures.tracks c.args.block.now carries s.hold E is.parts.has.tracks;
          keeps = λ V v. c.in_ok-change.ensures.keeps c.args.block.now carries v.Image V E v.honest
              (is.parts.has.keeps V (venue_by V (heard_block c.args.block.now E) E (λ Image. honest_block Image V c.args.block.now E) v));
        };
        grp_is = is.parts.grp_is;
        spin_is = is.parts.spin_is;
      };
    }

pub returns-in_err-change-clause-err : goal.returns-in_err-change-clause-err
returns-in_err-change-clause-err c =
    on_err (StandsStill c.args.self.now (record c.args.self.now { client = c.hear_block.new.self })) c.from_residual.result (λ s before is.
    let still : IsAsBefore c.args.self.now.client c.hear_block.new.self = c.in_err-change.ensures.err in
    record {
      unit_is = is.unit_is;
      account_is = is.account_is;
      parts = record {
        has = record {
          tracks = still.tracks s.hold (end_history s before) is.parts.has.tracks;
          keeps = λ V v. still.keeps V (is.parts.has.keeps V v);
        };
        grp_is = is.parts.grp_is;
        spin_is = is.parts.spin_is;
      };
    })
