-- Venues and what they keep as pairs, lists and numbers. The prover asks for this of each model; no
-- caller needs it.
use Rattle.std.specs.Prelude.{ℕ, Bool, List, Option, refl}
use Rattle.std.specs.Coded.{Coded, code_by, coded×, coded_ℕ, coded_bool, coded_list, coded_option}
use Rattle.pitch_model.specs.Book.{Book}
use Rattle.order_book.specs.Standing.{book_code}
use Rattle.venue_core.specs.Standing.{VenueState}
use Rattle.venue_core.specs.Waiting.{Waiting}

-- ---- Messages that wait
abbrev pub WaitingParts : Type 0
WaitingParts =
    ℕ × (ℕ × (ℕ × (ℕ × (List (List ℕ) × (List (List ℕ) × (Option (List ℕ) × List (List ℕ)))))))

abbrev pub waiting_parts : Waiting → WaitingParts
waiting_parts w = (
  w.first,
  (w.next, (w.packing.unit, (w.packing.sequence, (w.packing.begun, (w.full, (w.last, w.late)))))),
)

abbrev pub waiting_from : WaitingParts → Waiting
waiting_from p = record {
  first = p.0;
  next = p.1.0;
  packing = record { unit = p.1.1.0; sequence = p.1.1.1.0; begun = p.1.1.1.1.0 };
  full = p.1.1.1.1.1.0;
  last = p.1.1.1.1.1.1.0;
  late = p.1.1.1.1.1.1.1;
}

abbrev pub waiting_code : Coded Waiting
waiting_code =
    code_by WaitingParts (coded× coded_ℕ (coded× coded_ℕ (coded× coded_ℕ (coded× coded_ℕ
    (coded× (coded_list (coded_list coded_ℕ)) (coded× (coded_list (coded_list coded_ℕ))
    (coded× (coded_option (coded_list coded_ℕ)) (coded_list (coded_list coded_ℕ)))))))))
    waiting_parts waiting_from (λ _. refl)

-- ---- A venue
abbrev pub VenueParts : Type 0
VenueParts = Book × (ℕ × (Bool × (Option (List ℕ) × (Option (List ℕ) × Waiting))))

abbrev pub venue_parts : VenueState → VenueParts
venue_parts v = (v.book, (v.unit, (v.ended, (v.last, (v.ready, v.pending)))))

abbrev pub venue_from : VenueParts → VenueState
venue_from p = record {
  unit = p.1.0;
  book = p.0;
  ended = p.1.1.0;
  last = p.1.1.1.0;
  ready = p.1.1.1.1.0;
  pending = p.1.1.1.1.1;
}

abbrev pub venue_code : Coded VenueState
venue_code =
    code_by VenueParts (coded× book_code (coded× coded_ℕ (coded× coded_bool (coded× (coded_option
    (coded_list coded_ℕ)) (coded× (coded_option (coded_list coded_ℕ)) waiting_code)))))
    venue_parts venue_from (λ _. refl)
