use Rattle.std.proofs.Common.{rules, ◌≡◌, true, length, sym, ap, ◌∙◌}
use Rattle.unit_packets.specs.Lending.{header_for}
use Rattle.unit_packets.specs.declared.header.Header.{Header}
use Rattle.heard_items.specs.Units.{unit_history}
use Rattle.best_quotes.specs.Quoting.{quotes_of_block}
use Rattle.pitch_c.specs.Reports.{quote_shown, heard_shown}
use Rattle.pitch_c.proofs.Filling.{fills_list}
use Rattle.pitch_c.proofs.quoting.hear_block.Goals as goal

pub returns-clause-quoted : goal.returns-clause-quoted
returns-clause-quoted c zero =
    let units = c.args.units.now in
    let block = c.args.block.now in
    let told : c.in-Ok.heard.told ≡ true = search rules in
    record {
      hears = record {
        limit = c.in-Ok.ensures.limit;
        heard = c.in-Ok.ensures.heard;
        told_is = λ before h. c.heard_out.ensures
            ∙ ap (λ (header : Header). heard_shown header c.in-Ok.heard.change) c.header.ensures
            ∙ ap (heard_shown (header_for block)) (c.in-Ok.ensures.change before h);
        room = c.in-Ok.ensures.room;
        others = c.in-Ok.ensures.others;
      };
      quotes_told = λ before Image V h honest.
          fills_list quote_shown (quotes_of_block units.limit V (unit_history block.unit before) block) c.as_slice.result.now c.args.quotes.now c.fill_quotes.new.told c.len.result
          (c.as_slice.ensures ∙ c.in-Ok.ensures.quotes told before Image V h honest) c.fill_quotes.ensures (c.len.ensures ∙ ap length (sym c.as_slice.ensures));
    }
