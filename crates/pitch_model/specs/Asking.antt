-- What a client makes of its history: which ends are up, what is owed, and what it asks for.
use Rattle.std.specs.Prelude.{ℕ, ◌+◌, ◌-◌, Bool, true, false, ◌&&◌, ◌||◌, not, List, [], ◌∷◌}
use Rattle.std.specs.Prelude.{Option, Some, None, nat_lt, ◌==◌, min, option_map, unwrap_or}
use Rattle.std.specs.Prelude.{if◌then◌else◌}
use Rattle.std.specs.Option.{option_map_or}
use Rattle.pitch_model.specs.History.{Entry, GrpUp, GrpDown, GapReply, SpinUp, SpinDown, Advertised}
use Rattle.pitch_model.specs.History.{Ticked, Spinning, NoSpin, spin_of}
use Rattle.pitch_model.specs.Reach.{reach, is_overflow, since_overflow, held_of}
use Rattle.pitch_model.specs.Status.{raised, top_of}
use Rattle.pitch_model.specs.declared.ask.Ask.{Ask}
use Rattle.pitch_model.specs.declared.ask.Ask.TheVariants.{Gap, Spin}

-- ---- The ends
-- the Gap Request Proxy is up: the last of its Up and Down entries is Up
abbrev pub grp_at : Entry → Bool → Bool
grp_at GrpUp up = true
grp_at GrpDown up = false
grp_at entry up = up

abbrev pub is_grp_up : List Entry → Bool
is_grp_up [] = false
is_grp_up (entry ∷ E) = grp_at entry (is_grp_up E)

-- the Spin Server is up, likewise
abbrev pub spin_end_at : Entry → Bool → Bool
spin_end_at SpinUp up = true
spin_end_at SpinDown up = false
spin_end_at entry up = up

abbrev pub is_spin_up : List Entry → Bool
is_spin_up [] = false
is_spin_up (entry ∷ E) = spin_end_at entry (is_spin_up E)

-- the Gap Request Proxy owes a reply: the last of the gap asks, the gap replies and its falls is an
-- ask
abbrev pub asked_at : Option Ask → Bool → Bool
asked_at (Some (Gap first count)) owes = true
asked_at ask owes = owes

abbrev pub owes_at : Entry → Bool → Bool
owes_at (Ticked ask) owes = asked_at ask owes
owes_at (GapReply accepted) owes = false
owes_at GrpDown owes = false
owes_at entry owes = owes

abbrev pub owes : List Entry → Bool
owes [] = false
owes (entry ∷ E) = owes_at entry (owes E)

-- the greatest sequence advertised since the Spin Server last fell
abbrev pub advertised_at : Entry → Option ℕ → Option ℕ
advertised_at SpinDown greatest = None
advertised_at (Advertised sequence) greatest = raised (sequence ∷ []) greatest
advertised_at entry greatest = greatest

abbrev pub advertised_of : List Entry → Option ℕ
advertised_of [] = None
advertised_of (entry ∷ E) = advertised_at entry (advertised_of E)

-- ---- What is wanted
-- a gap request was not accepted
abbrev pub is_refusal : Entry → Bool
is_refusal (GapReply accepted) = not accepted
is_refusal entry = false

-- an overflow or a refusal came since the reach last rose
abbrev pub is_troubled : ℕ → List Entry → Bool
is_troubled H [] = false
is_troubled H (entry ∷ E) =
    if nat_lt (reach H E) (reach H (entry ∷ E)) then false
    else (is_overflow H E entry || is_refusal entry) || is_troubled H E

-- an image is wanted: more than 1,000 messages are missing up to the top, or there is trouble
abbrev pub wants : ℕ → List Entry → ℕ → Bool
wants H E top = nat_lt 1000 (top - reach H E) || is_troubled H E

-- ---- What is asked
-- the least of some numbers
abbrev pub least_of : List ℕ → Option ℕ
least_of [] = None
least_of (k ∷ ks) = Some (option_map_or (min k) (least_of ks) k)

-- the least sequence held
abbrev pub least_held : ℕ → List Entry → Option ℕ
least_held H E = least_of (held_of (since_overflow H E))

-- no spin is asked for or runs
abbrev pub is_idle : Spinning → Bool
is_idle NoSpin = true
is_idle spin = false

-- the messages from n + 1 to the one before the first that is held, or to the top where none is,
-- but at most 100
abbrev pub gap_ask : ℕ → Option ℕ → ℕ → Ask
gap_ask n first top = Gap (n + 1) (min 100 (unwrap_or (option_map (λ k. k - 1) first) top - n))

-- an image through the advertised sequence is asked for: one is wanted or the Gap Request Proxy is
-- not up, the Spin Server is up and no spin is under way, and the image is above the reach
abbrev pub asks_spin : ℕ → List Entry → ℕ → ℕ → Bool
asks_spin H E top advertised =
    (wants H E top || not (is_grp_up E))
    && (is_spin_up E && (is_idle (spin_of E) && nat_lt (reach H E) advertised))

-- a gap is asked for where the Gap Request Proxy is up and owes no reply
abbrev pub gap_or_none : ℕ → List Entry → ℕ → Option Ask
gap_or_none H E top =
    if is_grp_up E && not (owes E) then Some (gap_ask (reach H E) (least_held H E) top) else None

abbrev pub spin_or_gap : ℕ → List Entry → ℕ → Option ℕ → Option Ask
spin_or_gap H E top None = gap_or_none H E top
spin_or_gap H E top (Some advertised) =
    if asks_spin H E top advertised then Some (Spin advertised) else gap_or_none H E top

-- nothing is asked for where the client is silent or current
abbrev pub ask_with : ℕ → List Entry → Option ℕ → Option Ask
ask_with H E None = None
ask_with H E (Some top) = if reach H E == top then None else spin_or_gap H E top (advertised_of E)

-- what a client asks for at a tick
abbrev pub ask_of : ℕ → List Entry → Option Ask
ask_of H E = ask_with H E (top_of E)
