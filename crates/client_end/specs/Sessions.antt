-- One of the two sessions of an end: what the client heard, and what happened at the link.
use Rattle.std.specs.Prelude.{ℕ, List, [], ◌∷◌, take, Option, None, Some, is_some}
use Rattle.std.specs.Prelude.{if◌then◌else◌}
use Rattle.pitch_model.specs.History.{Entry}
use Rattle.session_ends.specs.Closing.{Setup, closed_of}
use Rattle.session_ends.specs.Events.{Event, Fed}
use Rattle.client_links.specs.Linking.{Lookups, NoLookup, link_tells}
use Rattle.heard_items.specs.Heard.{heard_all}
use Rattle.client_end.specs.Links.{link_says}

-- what the client heard, and what happened at the session's link since it was made, where there is
-- one, the newest first
pub record SessionState : Type 0 where
  pub heard : List Entry
  pub link : Option (List (Event Lookups))

-- ---- What comes, at a link of this setup whose end the client hears so
-- the connection ends, where there is one
abbrev pub heard_cut : Entry → List Entry → Option (List (Event Lookups)) → List Entry
heard_cut down E None = E
heard_cut down E (Some events) = down ∷ E

abbrev pub link_cut : Entry → SessionState → SessionState
link_cut down session =
    record { heard = heard_cut down session.heard session.link; link = None }

-- a connection is made; one that stood before has ended
abbrev pub link_made : Entry → SessionState → SessionState
link_made down session =
    record { heard = heard_cut down session.heard session.link; link = Some [] }

-- a connection whose link has closed is cut at once
abbrev pub settled_at : Setup → Entry → List Entry → Option (List (Event Lookups)) → SessionState
settled_at setup down E None = record { heard = E; link = None }
settled_at setup down E (Some events) =
    if is_some (closed_of setup events)
    then record { heard = down ∷ E; link = None }
    else record { heard = E; link = Some events }

abbrev pub link_settled : Setup → Entry → SessionState → SessionState
link_settled setup down session = settled_at setup down session.heard session.link

-- bytes come, and the client hears what the link tells of them
abbrev pub fed_at : Setup → List ℕ → List Entry → Option (List (Event Lookups)) → SessionState
fed_at setup bytes E None = record { heard = E; link = None }
fed_at setup bytes E (Some events) = record {
  heard = heard_all (link_tells setup events bytes) E;
  link = Some (Fed bytes NoLookup ∷ events);
}

abbrev pub link_took : Setup → Entry → List ℕ → SessionState → SessionState
link_took setup down bytes session =
    link_settled setup down (fed_at setup bytes session.heard session.link)

-- bytes come, but memory runs out: the client hears no more than the first so many items that the
-- link tells of them, and the connection ends
abbrev pub heard_in_part : Setup → List ℕ → ℕ → List Entry → Option (List (Event Lookups))
    → List Entry
heard_in_part setup bytes count E None = E
heard_in_part setup bytes count E (Some events) =
    heard_all (take count (link_tells setup events bytes)) E

abbrev pub link_lost : Setup → Entry → List ℕ → ℕ → SessionState → SessionState
link_lost setup down bytes count session = record {
  heard =
      heard_cut down (heard_in_part setup bytes count session.heard session.link) session.link;
  link = None;
}

-- something else happens at the link
abbrev pub happened : Event Lookups → Option (List (Event Lookups)) → Option (List (Event Lookups))
happened event None = None
happened event (Some events) = Some (event ∷ events)

abbrev pub link_happened : Event Lookups → SessionState → SessionState
link_happened event session =
    record { heard = session.heard; link = happened event session.link }

-- ---- What is said
-- what the link says at an event, where there is one
abbrev pub place_says : Setup → Event Lookups → Option (List (Event Lookups)) → List ℕ
place_says setup event None = []
place_says setup event (Some events) = link_says setup event events
