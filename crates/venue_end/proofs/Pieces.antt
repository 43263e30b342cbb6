-- What goes on the gap line has accepted messages alone.
use Rattle.std.proofs.Common.{ℕ, ◌<◌, List, length, Option, Some, None, refl}
use Rattle.std.specs.List.{AllByRecursion}
use Rattle.heard_items.specs.Datagrams.{IsPiece}
use Rattle.session_ends.specs.Sending.{new_items}
use Rattle.grp_session.specs.Serving.{Source}
use Rattle.grp_session.proofs.Replies.{proxy_pieces, views_same}
use Rattle.unit_market.specs.Markets.{MarketHas, kept_view}
use Rattle.unit_market.specs.Standing.{MarketState}
use Rattle.venue_end.specs.Came.{VenueState, ProxyTook, answers_in, journal_in, on_gap_line, proxy_source}
use Rattle.venue_end.specs.Servers.{proxy_setup}
use Rattle.venue_end.specs.Sessions.{Session, session_of}
use Rattle.venue_end.specs.declared.setup.VenueSetup.{VenueSetup}

module _ (s : VenueSetup) (now : VenueState) (market : MarketState) (small : s.unit < 256) (has : MarketHas market (journal_in s now)) (bytes : List ℕ) where
  answer_pieces : (session : Option (Session Source)) → AllByRecursion (IsPiece now.messages s.unit) (answers_in s now bytes session).lines
  answer_pieces None = tt
  answer_pieces (Some session) =
      proxy_pieces now.messages s.unit small has.venue.raws has.venue.few (proxy_setup s) session.happened bytes (proxy_source s now session.happened bytes) refl
      (views_same (length (new_items session.happened bytes)) (kept_view (journal_in s now)) now.messages refl)

  pub gap_pieces : (id : ℕ) → AllByRecursion (IsPiece now.messages s.unit) (on_gap_line s (ProxyTook id bytes) now)
  gap_pieces id = answer_pieces (session_of id now.proxies)
