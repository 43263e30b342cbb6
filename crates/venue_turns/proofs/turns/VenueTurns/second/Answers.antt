use Rattle.std.proofs.Common.{◌≡◌, ◌∷◌, Some, length, refl, sym, ap, ◌∙◌}
use Rattle.live_net.specs.declared.live.WaitEnd.TheVariants as wait_end
use Rattle.venue_net.specs.VenueCalls.{VenueCall, Wait}
use Rattle.venue_turns.specs.Due.{is_read}
use Rattle.venue_turns.specs.declared.turns.VenueTurns.{VenueTurns}
use Rattle.venue_turns.proofs.turns.VenueTurns.second.Goals as goal

pub returns : goal.returns
returns c = λ more w e e' run st here.
    let call : VenueCall = Wait more wait_end.Second in
    let places : length c.pass_second.new.self.links.items ≡ w.places = c.pass_second.ensures.many ∙ st.ways.places_are in
    let over : c.pass_second.new.self.over ≡ is_read run = ap (λ (x : VenueTurns). x.over) c.pass_second.ensures.same ∙ st.over_is in
    record {
      ways = record { places_are = places; few = st.ways.few };
      each = λ place l has. c.pass_second.ensures.each run more st.each place l has;
      place_is = c.from_input-self.ensures.place w (call ∷ run) (record { places_are = places; few = st.ways.few }) refl refl;
      due_is = ap Some (sym (c.from_input-self.ensures.due w e' (call ∷ run) (record { places_are = places; few = st.ways.few }) over));
      more_is = refl;
      over_is = over;
    }
