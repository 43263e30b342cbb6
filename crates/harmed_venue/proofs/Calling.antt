-- Calls that are made of a net below, one after another.
use Rattle.std.proofs.Common.{◌≡◌, ℕ, List, [], ◌∷◌, ◌++◌, Option, None, Some, map, reverse, sym, ap, ◌∙◌, subst, append_assoc}
use Rattle.std.proofs.lemmas.List.{map-append, reverse-append}
use Rattle.venue_net.specs.VenueCalls.{VenueCall, AddsVenueCall, Send}
use Rattle.harmed_venue.specs.Lines.{LineNow, sendings}
use Rattle.harmed_venue.specs.Venues.{Lists, Makes}

-- one more
pub lists_more : (before : List VenueCall) (old new : Option (List VenueCall)) (call : VenueCall) → AddsVenueCall old new call → Lists before old → Lists (call ∷ before) new
lists_more before old None call adds lists = tt
lists_more before None (Some calls) call adds lists = absurd adds
lists_more before (Some listed) (Some calls) call adds lists = adds ∙ ap (λ (l : List VenueCall). call ∷ l) lists

-- none, one, and some behind others
pub makes_none : (x : Option (List VenueCall)) → Makes x x []
makes_none x before lists = lists

pub makes_one : (x y : Option (List VenueCall)) (call : VenueCall) → AddsVenueCall x y call → Makes x y (call ∷ [])
makes_one x y call adds before lists = lists_more before x y call adds lists

pub makes_more : (x y z : Option (List VenueCall)) (first second : List VenueCall) → Makes x y first → Makes y z second → Makes x z (second ++ first)
makes_more x y z first second p q before lists =
    subst (λ (l : List VenueCall). Lists l z) (sym (append_assoc second first before)) (q (first ++ before) (p before lists))

pub makes_as : (x y : Option (List VenueCall)) (run run' : List VenueCall) → run ≡ run' → Makes x y run → Makes x y run'
makes_as x y run run' e p = subst (λ (l : List VenueCall). Makes x y l) e p

-- datagrams that are sent one after another
pub sendings_more : (line : LineNow) (first second : List (List ℕ)) → sendings line (first ++ second) ≡ sendings line second ++ sendings line first
sendings_more line first second =
    ap (λ (l : List VenueCall). reverse l) (map-append (λ (datagram : List ℕ). Send line.number datagram) first second)
    ∙ reverse-append (map (λ (datagram : List ℕ). Send line.number datagram) first) (map (λ (datagram : List ℕ). Send line.number datagram) second)
