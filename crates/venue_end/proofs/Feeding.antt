-- What feeding does to sessions. A market that nobody else changes is seen at one view.
use Rattle.std.proofs.Common.{◌≡◌, ℕ, ◌==◌, true, List, ◌∷◌, ◌++◌, length, replicate, set, get_or, position, Option, Some, None, sym, ap, ◌∙◌, subst}
use Rattle.std.proofs.lemmas.List.{append-nil}
use Rattle.std.specs.List.{AllZip}
use Rattle.gap_store.specs.Look.{View, Store, store_of}
use Rattle.session_ends.specs.Answering.{Answer}
use Rattle.session_ends.specs.Closing.{Setup}
use Rattle.session_ends.specs.Ending.{Ending}
use Rattle.session_ends.specs.Events.{Event, Fed}
use Rattle.session_ends.specs.Sending.{new_items}
use Rattle.grp_session.specs.Budget.{Counts, Counted, Limits, Spent}
use Rattle.grp_session.specs.Serving.{ProxyStands, Source, proxy_answer}
use Rattle.grp_session.specs.layers.Feeding.{Answered, ProxyFeeds, StoreHasOneView}
use Rattle.spin_server.specs.Served.{Served}
use Rattle.spin_server.specs.Serving.{Serving, SpinStands, spin_sends}
use Rattle.spin_server.specs.layers.Feeding.{SpinFeeds}
use Rattle.spin_server.specs.Shelves.{Shelf}
use Rattle.spin_server.specs.layers.ShelfViews.{ShelfHasOneView, ShelfShows}
use Rattle.unit_market.specs.Markets.{Journal, KeepsShelf, kept_view}
use Rattle.unit_market.specs.Views.{image_view}
use Rattle.unit_market.proofs.Showing.{shows_view}
use Rattle.venue_end.specs.Servers.{proxy_says, spin_says}
use Rattle.venue_end.specs.Sessions.{Session, session_of, at_session}
use Rattle.venue_end.specs.Came.{VenueState, answers_in, gap_source, journal_in, proxy_fed, proxy_source, spin_fed, spin_views}
use Rattle.venue_end.specs.Stands.{BudgetIs, IsProxy, IsSpinServer, PlaceIs}
use Rattle.venue_end.specs.layers.Serving.{SpinFed}
use Rattle.venue_end.specs.declared.setup.VenueSetup.{VenueSetup}
use Rattle.venue_end.specs.declared.table.Place.{Place}
use Rattle.venue_end.proofs.Places.{happens_so}
use Rattle.venue_end.proofs.Tables.{found_at, missing_at, stood, becomes_there}

-- ---- A market
module _ (j : Journal) (piece : List ℕ) (said said' : List ℕ) where
  pub market_answers : (store store' : Store) (limits : Limits) (spent : Spent) (es : List (Event Source)) (old new : Ending) (counted : Spent → Type 0) (lines lines' : List (List ℕ)) → StoreHasOneView → store ≡ store_of (kept_view j) → store' ≡ store
      → ProxyFeeds es piece old new true limits spent (kept_view j) counted (λ v. store' ≡ store_of v) said said' lines lines'
      → Answered es piece (gap_source j limits spent es piece) old new counted said said' lines lines'
  market_answers store store' limits spent es old new counted lines lines' one stored still feeds =
      let views_are : feeds.views ≡ replicate (length (new_items es piece)) (kept_view j) =
      (one (kept_view j) feeds.now feeds.views feeds.rises (sym feeds.shows ∙ still ∙ stored)).1 ∙ ap (λ (n : ℕ). replicate n (kept_view j)) feeds.each in
      subst (λ (vs : List View). Answered es piece (record { there = true; views = vs; limits = limits; spent = spent }) old new counted said said' lines lines') views_are feeds.answered

  pub market_shows : (shelf shelf' : Shelf) (es : List (Event (List Served))) (old new : Serving) → ShelfHasOneView → KeepsShelf shelf j.messages j.advertised → shelf' ≡ shelf
      → ((view : Served) → ShelfShows shelf view → SpinFeeds es piece old new view (λ v. ShelfShows shelf' v) said said')
      → SpinFed es piece (image_view j.messages j.advertised) old new said said'
  market_shows shelf shelf' es old new one keeps still feeding =
      let view : Served = image_view j.messages j.advertised in
      let shows : ShelfShows shelf view = shows_view shelf j.messages j.advertised keeps in
      let feeds = feeding view shows in
      let views_are : feeds.views ≡ replicate (length (new_items es piece)) view =
      (one shelf view feeds.now feeds.views shows (subst (λ (x : Shelf). ShelfShows x feeds.now) still feeds.shows) feeds.rises).1 ∙ ap (λ (n : ℕ). replicate n view) feeds.each in
      record {
        stands = subst (λ (vs : List Served). SpinStands new (Fed piece vs ∷ es)) views_are feeds.stands;
        replied = subst (λ (vs : List Served). said' ≡ said ++ spin_sends old.end.setup (Fed piece vs) es) views_are feeds.replied;
      }

-- ---- The sessions with the proxy
-- bytes came to that of a number, where there is one, and so the budget and the gap line became this
pub record ProxyFed (s : VenueSetup) (now : VenueState) (id : ℕ) (bytes : List ℕ) (places : List (Place Ending)) (counter : Counts) (lines lines' : List (List ℕ)) : Type 0 where
  pub sessions : AllZip (PlaceIs IsProxy s) places (at_session id (proxy_fed s now bytes) now.proxies)
  pub counts : BudgetIs s counter (answers_in s now bytes (session_of id now.proxies)).knows
  pub lined : lines' ≡ lines ++ (answers_in s now bytes (session_of id now.proxies)).lines

module _ (s : VenueSetup) (now : VenueState) (id : ℕ) (bytes : List ℕ) (ps : List (Place Ending)) (are : AllZip (PlaceIs IsProxy s) ps now.proxies) (counter : Counts) (has : BudgetIs s counter now.spent) (lines : List (List ℕ)) where
  pub fed_nowhere : position (λ (p : Place Ending). p.id == id) ps ≡ None → ProxyFed s now id bytes ps counter lines lines
  fed_nowhere e =
      let none = missing_at IsProxy s id ps now.proxies e are in
      record {
        sessions = subst (λ (ks : List (Session Source)). AllZip (PlaceIs IsProxy s) ps ks) (sym (none.becomes (proxy_fed s now bytes))) are;
        counts = subst (λ (o : Option (Session Source)). BudgetIs s counter (answers_in s now bytes o).knows) (sym none.none) has;
        lined = sym (append-nil lines) ∙ ap (λ (o : Option (Session Source)). lines ++ (answers_in s now bytes o).lines) (sym none.none);
      }

  pub fed_there : (at : ℕ) (old new : Place Ending) (counter' : Counts) (lines' : List (List ℕ)) → position (λ (p : Place Ending). p.id == id) ps ≡ Some at → old ≡ get_or ps at old
      → new.id ≡ old.id → new.put ≡ old.put → new.server.setup ≡ old.server.setup → counter'.limits ≡ counter.limits
      → ((es : List (Event Source)) → ProxyStands old.server es → Answered es bytes (gap_source (journal_in s now) counter.limits now.spent es bytes) old.server new.server (Counted counter') old.said.items new.said.items lines lines')
      → ProxyFed s now id bytes (set ps at new) counter' lines lines'
  fed_there at old new counter' lines' e read numbered put setup counts answers =
      let is = found_at IsProxy s id at ps now.proxies e are in
      let stands : PlaceIs IsProxy s old is.session = stood IsProxy s id at ps now.proxies old read is in
      let es : List (Event Source) = is.session.happened in
      let there : Answered es bytes (proxy_source s now es bytes) old.server new.server (Counted counter') old.said.items new.said.items lines lines' =
      subst (λ (m : Limits). Answered es bytes (gap_source (journal_in s now) m now.spent es bytes) old.server new.server (Counted counter') old.said.items new.said.items lines lines') has.limits_are (answers es stands.server.stands) in
      let answer : Setup → Answer Spent = λ m. proxy_answer m es bytes (proxy_source s now es bytes) in
      record {
        sessions = becomes_there IsProxy s id at ps now.proxies new (proxy_fed s now bytes) is (happens_so IsProxy s (proxy_says s) (Fed bytes (proxy_source s now es bytes)) old new is.session stands numbered put
            (record { made = setup ∙ stands.server.made; stands = there.stands }) (there.replied ∙ ap (λ (m : Setup). old.said.items ++ (answer m).reply) stands.server.made));
        counts = subst (λ (o : Option (Session Source)). BudgetIs s counter' (answers_in s now bytes o).knows) (sym is.there)
            (record { limits_are = counts ∙ has.limits_are; counted = subst (λ (m : Setup). Counted counter' (answer m).knows) stands.server.made there.counts });
        lined = there.lined ∙ ap (λ (m : Setup). lines ++ (answer m).lines) stands.server.made ∙ ap (λ (o : Option (Session Source)). lines ++ (answers_in s now bytes o).lines) (sym is.there);
      }

-- ---- A session with the Spin Server
pub spin_place_fed : (s : VenueSetup) (now : VenueState) (session : Session (List Served)) (old new : Place Serving) (bytes : List ℕ)
    → PlaceIs IsSpinServer s old session → new.id ≡ old.id → new.put ≡ old.put → new.server.end.setup ≡ old.server.end.setup
    → SpinFed session.happened bytes (image_view now.messages now.advertised) old.server new.server old.said.items new.said.items
    → PlaceIs IsSpinServer s new (spin_fed s now bytes session)
spin_place_fed s now session old new bytes is numbered put setup fed =
    let event : Event (List Served) = Fed bytes (spin_views now session.happened bytes) in
    happens_so IsSpinServer s (spin_says s) event old new session is numbered put (record { made = setup ∙ is.server.made; stands = fed.stands })
    (fed.replied ∙ ap (λ (m : Setup). old.said.items ++ spin_sends m event session.happened) is.server.made)
