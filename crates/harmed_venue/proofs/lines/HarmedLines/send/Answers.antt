use Rattle.std.proofs.Common.{◌≡◌, ℕ, ◌≤◌, List, ◌∷◌, [], Option, Some, None, length, slice_get, refl, sym, ap, ◌∙◌, subst}
use Rattle.std.proofs.lemmas.Option.{slice_get_past, slice_get_read}
use Rattle.venue_net.specs.VenueCalls.{Send}
use Rattle.harmed_venue.specs.Harmed.{sent_on}
use Rattle.harmed_venue.specs.Lines.{LineNow, goes_out, sendings}
use Rattle.harmed_venue.specs.Venues.{Makes}
use Rattle.harmed_venue.proofs.Calling.{makes_as, makes_one}
use Rattle.harmed_venue.proofs.lines.HarmedLines.send.Goals as goal
use Rattle.harmed_venue.proofs.lines.HarmedLines.send.Goals.{in-Some, in-None}

-- by the lines in their room
seen_at : (items lines : List LineNow) (from line : ℕ) (at : Option LineNow) → items ≡ lines → from ≡ line → slice_get items from ≡ at → slice_get lines line ≡ at
seen_at items lines from line at e f there = ap (λ (l : List LineNow). slice_get l line) (sym e) ∙ ap (λ (n : ℕ). slice_get items n) (sym f) ∙ there

pub returns-clause-makes : goal.returns-clause-makes
returns-clause-makes g c =
    let items : List LineNow = c.self.inside.lines.items in
    let lines : List LineNow = c.args.self.now in
    let line : ℕ = c.args.line in
    let datagram : List ℕ = c.args.datagram.now in
    let calls = g.N.VenueNet.calls in
    let x = calls c.args.net.now in
    elim c.match-get_mut.branch [
      | in-Some w ↦ (let found : LineNow = w.in-Some.found.now in
          let there : slice_get lines line ≡ Some found = seen_at items lines c.from.result line (Some found) c.self.view_is c.from.ensures
          (slice_get_read items (length items) c.from.result found refl w.in-Some.ensures.item.3.0 w.in-Some.ensures.value) in
          subst (λ (net : g.row.N.Denot). Makes x (calls net) (sent_on line datagram (slice_get lines line))) (sym w.net-is)
          (makes_as x (calls w.send.new.net) (sendings found (goes_out found datagram)) (sent_on line datagram (slice_get lines line))
          (ap (λ (at : Option LineNow). sent_on line datagram at) (sym there)) w.send.ensures.makes))
      | in-None w ↦ (let past : length items ≤ c.from.result = w.in-None.ensures.item.3 in
          let there : slice_get lines line ≡ None = seen_at items lines c.from.result line None c.self.view_is c.from.ensures (slice_get_past items c.from.result past) in
          subst (λ (net : g.row.N.Denot). Makes x (calls net) (sent_on line datagram (slice_get lines line))) (sym w.net-is)
          (makes_as x (calls w.send-in-None.new.self) (Send line datagram ∷ []) (sent_on line datagram (slice_get lines line))
          (ap (λ (at : Option LineNow). sent_on line datagram at) (sym there)) (makes_one x (calls w.send-in-None.new.self) (Send line datagram) w.send-in-None.ensures.calls)))
    ]
