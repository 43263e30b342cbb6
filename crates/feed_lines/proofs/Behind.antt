-- What stands behind texts that were written one after another.
use Rattle.std.proofs.Common.{◌≡◌, ℕ, ◌≤◌, ◌++◌, List, length, take, drop}
use Rattle.pitch_fields.proofs.Placing.{untouched, ends_later}

-- what a text that is written behind others leaves behind it is what stood there before them
pub left_behind : (first second third text : List ℕ) (end later : ℕ) → drop later third ≡ drop later second → take later third ≡ take end second ++ text → end ≤ length second → drop end second ≡ drop end first → drop later third ≡ drop later first
left_behind first second third text end later after written le before = untouched first second third end later after before (ends_later third second text end later le written)
