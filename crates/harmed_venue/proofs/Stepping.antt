-- A harmed net stands after each call as it is defined.
use Rattle.std.proofs.Common.{◌≡◌, ℕ, Bool, true, false, ◌&&◌, List, [], ◌∷◌, ◌++◌, Option, map, set, slice_get, if◌then◌else◌, sym, ap, ◌∙◌, subst, append_assoc}
use Rattle.live_net.specs.declared.live.WaitEnd.{WaitEnd}
use Rattle.live_net.specs.declared.live.PeerTaken.{PeerTaken}
use Rattle.live_net.specs.declared.live.PeerPut.{PeerPut}
use Rattle.venue_net.specs.VenueCalls.{VenueCall, AddsVenueCall, Wait, Read, Send, Accept, Take, Put, Close}
use Rattle.venue_net.specs.declared.net.InputRead.{InputRead}
use Rattle.harmed_venue.specs.declared.cuts.Cuts.{Cuts}
use Rattle.harmed_venue.specs.declared.harm.Harm.{Harm}
use Rattle.harmed_venue.specs.Harmed.{after_sent, all_held_if, harmed, is_cut, is_due, is_put_ended, is_second, is_taken_ended, lets_go, passed_by, seconds_left, sent_on, told_if, unless_cut}
use Rattle.harmed_venue.specs.Lines.{LineNow, let_go}
use Rattle.harmed_venue.specs.layers.Standing.{HarmedStands}
use Rattle.harmed_venue.specs.Venues.{Lists, Makes}
use Rattle.harmed_venue.proofs.Calling.{lists_more}

module _ (harm : Harm) (lines : List LineNow) (cuts : Cuts) (calls : List VenueCall) (below : Option (List VenueCall)) (s : HarmedStands harm lines cuts calls below) where
  pub after_read : (room : ℕ) (bytes : List ℕ) (answer : InputRead) (now : Option (List VenueCall)) → AddsVenueCall below now (Read room bytes answer) → HarmedStands harm lines cuts (Read room bytes answer ∷ calls) now
  after_read room bytes answer now adds = record {
    lines_are = s.lines_are;
    every_is = s.every_is;
    passed_is = s.passed_is;
    places_are = s.places_are;
    made = lists_more (harmed harm calls) below now (Read room bytes answer) adds s.made;
  }

  pub after_send : (line : ℕ) (datagram : List ℕ) (lines' : List LineNow) (now : Option (List VenueCall))
      → lines' ≡ after_sent line datagram (slice_get lines line) lines → Makes below now (sent_on line datagram (slice_get lines line))
      → HarmedStands harm lines' cuts (Send line datagram ∷ calls) now
  after_send line datagram lines' now e makes = record {
    lines_are = e ∙ ap (λ (ls : List LineNow). after_sent line datagram (slice_get ls line) ls) s.lines_are;
    every_is = s.every_is;
    passed_is = s.passed_is;
    places_are = s.places_are;
    made = subst (λ (ls : List LineNow). Lists (sent_on line datagram (slice_get ls line) ++ harmed harm calls) now) s.lines_are (makes (harmed harm calls) s.made);
  }

  pub after_wait : (more : Bool) (answer : WaitEnd) (lines' : List LineNow) (cuts' : Cuts) (between now : Option (List VenueCall))
      → AddsVenueCall below between (Wait more answer)
      → lines' ≡ (if lets_go answer then map let_go lines else lines) → Makes between now (all_held_if (lets_go answer) lines)
      → cuts'.every ≡ cuts.every → cuts'.passed ≡ (if is_second answer then passed_by cuts.every cuts.passed else cuts.passed)
      → cuts'.places.items ≡ (if is_second answer && is_due cuts.every cuts.passed then map (λ (cut : Bool). true) cuts.places.items else cuts.places.items)
      → HarmedStands harm lines' cuts' (Wait more answer ∷ calls) now
  after_wait more answer lines' cuts' between now adds lines_are makes every_is passed_is places_are = record {
    lines_are = lines_are ∙ ap (λ (ls : List LineNow). if lets_go answer then map let_go ls else ls) s.lines_are;
    every_is = every_is ∙ s.every_is;
    passed_is = passed_is ∙ ap (λ (every : Option ℕ). if is_second answer then passed_by every cuts.passed else cuts.passed) s.every_is
        ∙ ap (λ (passed : ℕ). if is_second answer then passed_by harm.cut passed else passed) s.passed_is;
    places_are = places_are ∙ ap (λ (every : Option ℕ). if is_second answer && is_due every cuts.passed then map (λ (cut : Bool). true) cuts.places.items else cuts.places.items) s.every_is
        ∙ ap (λ (passed : ℕ). if is_second answer && is_due harm.cut passed then map (λ (cut : Bool). true) cuts.places.items else cuts.places.items) s.passed_is
        ∙ ap (λ (places : List Bool). if is_second answer && is_due harm.cut (seconds_left harm calls) then map (λ (cut : Bool). true) places else places) s.places_are;
    made = subst (λ (ls : List LineNow). Lists ((all_held_if (lets_go answer) ls ++ Wait more answer ∷ []) ++ harmed harm calls) now) s.lines_are
        (subst (λ (l : List VenueCall). Lists l now) (sym (append_assoc (all_held_if (lets_go answer) lines) (Wait more answer ∷ []) (harmed harm calls)))
        (makes (Wait more answer ∷ harmed harm calls) (lists_more (harmed harm calls) below between (Wait more answer) adds s.made)));
  }

  pub after_accept : (place : ℕ) (came : Bool) (cuts' : Cuts) (now : Option (List VenueCall)) → AddsVenueCall below now (Accept place came)
      → cuts'.every ≡ cuts.every → cuts'.passed ≡ cuts.passed → cuts'.places.items ≡ set cuts.places.items place false
      → HarmedStands harm lines cuts' (Accept place came ∷ calls) now
  after_accept place came cuts' now adds every_is passed_is places_are = record {
    lines_are = s.lines_are;
    every_is = every_is ∙ s.every_is;
    passed_is = passed_is ∙ s.passed_is;
    places_are = places_are ∙ ap (λ (places : List Bool). set places place false) s.places_are;
    made = lists_more (harmed harm calls) below now (Accept place came) adds s.made;
  }

  pub after_close : (place : ℕ) (cuts' : Cuts) (now : Option (List VenueCall)) → AddsVenueCall below now (Close place)
      → cuts'.every ≡ cuts.every → cuts'.passed ≡ cuts.passed → cuts'.places.items ≡ set cuts.places.items place false
      → HarmedStands harm lines cuts' (Close place ∷ calls) now
  after_close place cuts' now adds every_is passed_is places_are = record {
    lines_are = s.lines_are;
    every_is = every_is ∙ s.every_is;
    passed_is = passed_is ∙ s.passed_is;
    places_are = places_are ∙ ap (λ (places : List Bool). set places place false) s.places_are;
    made = lists_more (harmed harm calls) below now (Close place) adds s.made;
  }

  pub after_take : (cut : Bool) (place room : ℕ) (bytes : List ℕ) (answer : PeerTaken) (cuts' : Cuts) (now : Option (List VenueCall))
      → cut ≡ is_cut cuts.places.items place → Makes below now (unless_cut cut place (Take place room bytes answer))
      → cuts'.every ≡ cuts.every → cuts'.passed ≡ cuts.passed → cuts'.places.items ≡ told_if (is_taken_ended answer) place cuts.places.items
      → HarmedStands harm lines cuts' (Take place room bytes answer ∷ calls) now
  after_take cut place room bytes answer cuts' now cut_is makes every_is passed_is places_are = record {
    lines_are = s.lines_are;
    every_is = every_is ∙ s.every_is;
    passed_is = passed_is ∙ s.passed_is;
    places_are = places_are ∙ ap (λ (places : List Bool). told_if (is_taken_ended answer) place places) s.places_are;
    made = subst (λ (b : Bool). Lists (unless_cut b place (Take place room bytes answer) ++ harmed harm calls) now)
        (cut_is ∙ ap (λ (places : List Bool). is_cut places place) s.places_are) (makes (harmed harm calls) s.made);
  }

  pub after_put : (cut : Bool) (place : ℕ) (piece : List ℕ) (answer : PeerPut) (cuts' : Cuts) (now : Option (List VenueCall))
      → cut ≡ is_cut cuts.places.items place → Makes below now (unless_cut cut place (Put place piece answer))
      → cuts'.every ≡ cuts.every → cuts'.passed ≡ cuts.passed → cuts'.places.items ≡ told_if (is_put_ended answer) place cuts.places.items
      → HarmedStands harm lines cuts' (Put place piece answer ∷ calls) now
  after_put cut place piece answer cuts' now cut_is makes every_is passed_is places_are = record {
    lines_are = s.lines_are;
    every_is = every_is ∙ s.every_is;
    passed_is = passed_is ∙ s.passed_is;
    places_are = places_are ∙ ap (λ (places : List Bool). told_if (is_put_ended answer) place places) s.places_are;
    made = subst (λ (b : Bool). Lists (unless_cut b place (Put place piece answer) ++ harmed harm calls) now)
        (cut_is ∙ ap (λ (places : List Bool). is_cut places place) s.places_are) (makes (harmed harm calls) s.made);
  }
