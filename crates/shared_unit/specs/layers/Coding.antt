-- Operations, what happens and what is known of it, as options, lists and pairs of numbers. The
-- prover asks for this of each model; no caller needs it.
use Rattle.std.specs.Prelude.{◌≡◌, ℕ, Bool, List, Option, None, Some, refl}
use Rattle.std.specs.Coded.{Coded, code_by, coded_ℕ, coded_bool, coded_list, coded_option, coded×}
use Rattle.pitch_model.specs.Advertising.{Operation, Accept, Advertise}
use Rattle.shared_unit.specs.layers.Moments.{Moment, Opening, Doing, Publishing, Answering, Account}
use Rattle.shared_unit.specs.layers.Moments.{Sight}
use Rattle.shared_unit.specs.layers.Moments.{Writing}

-- an operation with a message accepts it, and one without advertises
abbrev pub operation_from : Option (List ℕ) → Operation
operation_from None = Advertise
operation_from (Some raw) = Accept raw

abbrev pub operation_raw : Operation → Option (List ℕ)
operation_raw (Accept raw) = Some raw
operation_raw Advertise = None

abbrev pub operation_back : (operation : Operation)
    → operation_from (operation_raw operation) ≡ operation
operation_back (Accept raw) = refl
operation_back Advertise = refl

abbrev pub operation_code : Coded Operation
operation_code = code_by (Option (List ℕ))
    (coded_option (coded_list coded_ℕ)) operation_raw operation_from operation_back

abbrev pub history_code : Coded (List Operation)
history_code = coded_list operation_code

-- where there is an operation it is done, where there is a server it begins an answer, where there
-- is a right alone it is the first, and else something is published
abbrev pub moment_from : Option (Option (List ℕ)) → Option ℕ → Option ℕ → Moment
moment_from (Some raw) server (Some right) = Doing (operation_from raw) right
moment_from (Some raw) server None = Doing (operation_from raw) 0
moment_from None (Some server) right = Answering server
moment_from None None (Some right) = Opening right
moment_from None None None = Publishing

abbrev pub moment_parts : Moment → Option (Option (List ℕ)) × (Option ℕ × Option ℕ)
moment_parts (Opening right) = (None, (None, Some right))
moment_parts (Doing operation right) = (Some (operation_raw operation), (None, Some right))
moment_parts Publishing = (None, (None, None))
moment_parts (Answering server) = (None, (Some server, None))

abbrev pub moment_back : (moment : Moment)
    → moment_from (moment_parts moment).0 (moment_parts moment).1.0 (moment_parts moment).1.1
    ≡ moment
moment_back (Opening right) = refl
moment_back (Doing (Accept raw) right) = refl
moment_back (Doing Advertise right) = refl
moment_back Publishing = refl
moment_back (Answering server) = refl

abbrev pub moment_code : Coded Moment
moment_code = code_by (Option (Option (List ℕ)) × (Option ℕ × Option ℕ))
    (coded× (coded_option (coded_option (coded_list coded_ℕ)))
    (coded× (coded_option coded_ℕ) (coded_option coded_ℕ))) moment_parts
    (λ (p : Option (Option (List ℕ)) × (Option ℕ × Option ℕ)). moment_from p.0 p.1.0 p.1.1)
    moment_back

abbrev pub moments_code : Coded (List Moment)
moments_code = coded_list moment_code

abbrev pub account_code : Coded Account
account_code = code_by (List Operation × List Moment)
    (coded× history_code moments_code) (λ (a : Account). (a.history, a.moments))
    (λ (p : List Operation × List Moment). record { history = p.0; moments = p.1 }) (λ _. refl)

abbrev pub writing_code : Coded Writing
writing_code = code_by (Bool × (List Operation × List Moment))
    (coded× coded_bool (coded× history_code moments_code))
    (λ (w : Writing). (w.cut_off, (w.history, w.moments)))
    (λ (p : Bool × (List Operation × List Moment)).
    record { cut_off = p.0; history = p.1.0; moments = p.1.1 }) (λ _. refl)

abbrev pub sight_code : Coded Sight
sight_code = code_by ((ℕ × Bool) × (List Operation × List Moment))
    (coded× (coded× coded_ℕ coded_bool) (coded× history_code moments_code))
    (λ (s : Sight). ((s.number, s.cut_off), (s.history, s.moments)))
    (λ (p : (ℕ × Bool) × (List Operation × List Moment)).
    record { number = p.0.0; cut_off = p.0.1; history = p.1.0; moments = p.1.1 }) (λ _. refl)
