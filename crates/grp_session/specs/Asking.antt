-- How a gap request is answered ("Gap Response Message"; the order of the statuses and the limits
-- are this project's own).
use Rattle.std.specs.Prelude.{ℕ, Bool, not, ◌||◌, ◌==◌, nat_lt, List, [], unwrap_or, if◌then◌else◌}
use Rattle.unit_packets.specs.Packing.{packed}
use Rattle.gap_store.specs.Look.{View, look, slice_of}
use Rattle.gap_store.specs.declared.found.Found.{Found}
use Rattle.gap_store.specs.declared.found.Found.TheVariants.{Kept, Ahead, NotKept}
use Rattle.grp_session.specs.Budget.{Limits, Spent, limit_reached, spending}

-- a range that is not there is refused with `O`, and one that is with `D`, `M` or `S` where a limit
-- is reached; else `A`
abbrev pub status_found : Limits → Spent → Found → ℕ
status_found l spent Kept = unwrap_or (limit_reached l spent) 65
status_found l spent (Ahead last) = 79
status_found l spent (NotKept first) = 79

-- the first status that applies to a request of the server's unit: `U` where there is no gap
-- source, `C` where the count is above 100, `O` where the range is empty or not there
unfoldable pub status_here : Bool → Limits → View → Spent → ℕ → ℕ → ℕ
status_here there l view spent sequence count =
    if not there then 85
    else if nat_lt 100 count then 67
    else if (count == 0) || (sequence == 0) then 79
    else status_found l spent (look view sequence count)

-- the same of any unit: `I` where it is another
abbrev pub gap_status : Bool → Bool → Limits → View → Spent → ℕ → ℕ → ℕ
gap_status mine there l view spent sequence count =
    if mine then status_here there l view spent sequence count else 73

-- what goes on the gap line: the range, packed from its first sequence on, where it is accepted
abbrev pub datagrams_of : ℕ → ℕ → View → ℕ → ℕ → List (List ℕ)
datagrams_of status unit view sequence count =
    if status == 65 then packed unit sequence (slice_of view sequence count) else []

-- only what is accepted counts
abbrev pub spent_after : ℕ → Spent → Spent
spent_after status spent = if status == 65 then spending spent else spent
