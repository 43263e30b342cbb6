-- A net in memory, of which the maker says which calls fail.
use Rattle.std.specs.Prelude.{◌≡◌, ℕ, zero, suc, ◌<◌, ◌+◌, ◌-◌, ◌^◌, Bool, true, false, List, []}
use Rattle.std.specs.Prelude.{◌∷◌, ◌++◌, ◌⊎◌, map, reverse, Contains, Option, None, Some, min}
use Rattle.std.specs.Prelude.{length, take, drop, if◌then◌else◌}
use Rattle.std.specs.Global.{Vec}
use Rattle.pitch_io.specs.declared.line.Line.{Line}
use Rattle.pitch_io.specs.declared.line.Line.TheVariants as line
use Rattle.pitch_io.specs.declared.net.LinkEnd.{LinkEnd}
use Rattle.pitch_io.specs.declared.net.LinkEnd.TheVariants as link
use Rattle.pitch_io.specs.declared.sink.Put.{Put as PutAnswer}
use Rattle.pitch_io.specs.declared.sink.Put.TheVariants as put
use Rattle.pitch_io.specs.declared.net.NetDone.{NetDone}
use Rattle.pitch_io.specs.declared.net.NetDone.TheVariants as done
use Rattle.pitch_io.specs.declared.net.NetTaken.{NetTaken}
use Rattle.pitch_io.specs.declared.net.NetTaken.TheVariants as taken
use Rattle.memory_devices.specs.declared.memory_net.NetVerb.{NetVerb}
use Rattle.memory_devices.specs.declared.memory_net.NetVerb.TheVariants as verb
use Rattle.memory_devices.specs.declared.memory_net.NetCall.{NetCall}
use Rattle.memory_devices.specs.declared.memory_net.VerbCounts.{VerbCounts}
use Rattle.memory_devices.specs.declared.call_log.KeptCall.{KeptCall}
use Rattle.memory_devices.specs.declared.call_log.KeptCall.TheVariants as kept
use Rattle.memory_devices.specs.declared.call_log.CallLog.{CallLog}
use Rattle.std.specs.List.{AllByRecursion}
use Rattle.pitch_io.specs.Nets.{Call, other_end}
use Rattle.pitch_io.specs.layers.Coming.{Coming}
use Rattle.pitch_io.specs.Nets as call

-- what is on its way on the three lines and to the four ends
pub record OnItsWay : Type 0 where
  pub a : List (List ℕ)
  pub b : List (List ℕ)
  pub gap : List (List ℕ)
  pub grp_client : List ℕ
  pub grp_server : List ℕ
  pub spin_client : List ℕ
  pub spin_server : List ℕ

abbrev pub nothing_coming : OnItsWay
nothing_coming = record {
  a = [];
  b = [];
  gap = [];
  grp_client = [];
  grp_server = [];
  spin_client = [];
  spin_server = [];
}

-- a net in memory: what is on its way, its calls where it lists them, the calls that fail, how
-- often each verb was called, and how many faults there were
pub record Carried : Type 0 where
  pub coming : OnItsWay
  pub calls : Option (List Call)
  pub failing : List NetCall
  pub counts : VerbCounts
  pub faults : ℕ

abbrev pub on_line : OnItsWay → Line → List (List ℕ)
on_line way line.A = way.a
on_line way line.B = way.b
on_line way line.Gap = way.gap

abbrev pub to_end : OnItsWay → LinkEnd → List ℕ
to_end way link.GrpClient = way.grp_client
to_end way link.GrpServer = way.grp_server
to_end way link.SpinClient = way.spin_client
to_end way link.SpinServer = way.spin_server

-- this line's datagrams changed, and nothing else
abbrev pub line_changed : OnItsWay → Line → (List (List ℕ) → List (List ℕ)) → OnItsWay
line_changed w line.A f = record w { a = f w.a }
line_changed w line.B f = record w { b = f w.b }
line_changed w line.Gap f = record w { gap = f w.gap }

-- the bytes to this end changed, and nothing else
abbrev pub end_changed : OnItsWay → LinkEnd → (List ℕ → List ℕ) → OnItsWay
end_changed w link.GrpClient f = record w { grp_client = f w.grp_client }
end_changed w link.GrpServer f = record w { grp_server = f w.grp_server }
end_changed w link.SpinClient f = record w { spin_client = f w.spin_client }
end_changed w link.SpinServer f = record w { spin_server = f w.spin_server }

-- a datagram as a line carries it: one without bytes is not carried
abbrev pub as_carried : List ℕ → List (List ℕ)
as_carried [] = []
as_carried (byte ∷ bytes) = (byte ∷ bytes) ∷ []

-- the first datagram came, as much of it as there was room for; no byte came where there is none
abbrev pub ComesFirst : List (List ℕ) → ℕ → List ℕ → Type 0
ComesFirst [] count into = count ≡ 0
ComesFirst (datagram ∷ datagrams) count into =
    (count ≡ min (length datagram) (length into)) × (take count into ≡ take count datagram)

-- how often a verb was called
abbrev pub times_called : VerbCounts → NetVerb → ℕ
times_called counts verb.Begin = counts.begins
times_called counts verb.Send = counts.sends
times_called counts verb.Next = counts.nexts
times_called counts verb.Put = counts.puts
times_called counts verb.Take = counts.takes

-- a count is counted up to the greatest number of its type
abbrev pub one_more : ℕ → ℕ
one_more count = min (count + 1) (2 ^ 64 - 1)

-- one call more of a verb
abbrev pub call_counted : VerbCounts → NetVerb → VerbCounts
call_counted c verb.Begin = record c { begins = one_more c.begins }
call_counted c verb.Send = record c { sends = one_more c.sends }
call_counted c verb.Next = record c { nexts = one_more c.nexts }
call_counted c verb.Put = record c { puts = one_more c.puts }
call_counted c verb.Take = record c { takes = one_more c.takes }

-- the last call of a verb is listed as one that fails
abbrev pub IsListed : List NetCall → VerbCounts → NetVerb → Type 0
IsListed failing counts verb =
    Contains failing (record { verb = verb; number = times_called counts verb })

-- a call of a verb under the same script: it is counted; it fails where it is listed, and where
-- memory was refused; then the net lists no more
pub record FollowsScript (old new : Carried) (verb : NetVerb) (failed : Type 0) : Type 0 where
  pub counts : new.counts ≡ call_counted old.counts verb
  pub failing : new.failing ≡ old.failing
  pub listed : IsListed old.failing new.counts verb → failed
  pub others : failed → IsListed old.failing new.counts verb ⊎ (new.calls ≡ None)

-- what is on its way after a call that is done; where it failed, nothing has changed, unless memory
-- was refused
abbrev pub LeavesDone : Carried → Carried → OnItsWay → NetDone → Type 0
LeavesDone old new way done.Done = new.coming ≡ way
LeavesDone old new way done.Failed = (new.coming ≡ old.coming) ⊎ (new.calls ≡ None)

abbrev pub LeavesTaken : Carried → Carried → OnItsWay → NetTaken → Type 0
LeavesTaken old new way taken.Failed = (new.coming ≡ old.coming) ⊎ (new.calls ≡ None)
LeavesTaken old new way answer = new.coming ≡ way

abbrev pub LeavesPut : Carried → Carried → OnItsWay → PutAnswer → Type 0
LeavesPut old new way put.Failed = (new.coming ≡ old.coming) ⊎ (new.calls ≡ None)
LeavesPut old new way answer = new.coming ≡ way

-- how many bytes came
abbrev pub size_of : NetTaken → ℕ
size_of (taken.Got n) = n
size_of answer = 0

abbrev pub taken_of : ℕ → NetTaken
taken_of zero = taken.Quiet
taken_of (suc n) = taken.Got (suc n)

-- only the faults may have changed
pub record IsSameButFaults (old new : Carried) : Type 0 where
  pub coming : new.coming ≡ old.coming
  pub calls : new.calls ≡ old.calls
  pub failing : new.failing ≡ old.failing
  pub counts : new.counts ≡ old.counts

-- only how often each verb was called has changed
pub record IsRest (old new : Carried) : Type 0 where
  pub coming : new.coming ≡ old.coming
  pub calls : new.calls ≡ old.calls
  pub failing : new.failing ≡ old.failing
  pub faults : new.faults ≡ old.faults

-- a call as it is kept
abbrev pub call_of : KeptCall → Call
call_of (kept.Begin answer) = call.Begin answer
call_of (kept.Send on datagram answer) = call.Send on datagram.items answer
call_of (kept.Next on room bytes answer) = call.Next on room bytes.items answer
call_of (kept.Put at piece answer) = call.Put at piece.items answer
call_of (kept.Take at room bytes answer) = call.Take at room bytes.items answer

-- the calls that are kept, the newest first, where none is missing
abbrev pub listed_calls : CallLog → Option (List Call)
listed_calls log = if log.whole then Some (reverse (map call_of log.calls.items)) else None

abbrev pub with_call : Option (List Call) → Call → Option (List Call)
with_call None newest = None
with_call (Some calls) newest = Some (newest ∷ calls)

-- a call was kept, or memory was refused, and the net lists no more
abbrev pub LogsCall : CallLog → CallLog → Call → Bool → Type 0
LogsCall old new newest true = listed_calls new ≡ with_call (listed_calls old) newest
LogsCall old new newest false = listed_calls new ≡ None

abbrev pub datagram_items : List (Vec ℕ) → List (List ℕ)
datagram_items datagrams = map (λ (d : Vec ℕ). d.items) datagrams

-- each datagram has bytes
abbrev pub AreFull : List (List ℕ) → Type 0
AreFull datagrams = AllByRecursion (λ datagram. 0 < length datagram) datagrams

-- nothing in memory is ended
abbrev pub coming_items : {A : Type 0} → List A → Coming A
coming_items items = record { items = items; ended = false }

-- ---- What its calls leave
-- what is on its way after these calls: all that was sent and put since the net last began, in its
-- order, but what came
abbrev pub way_after : List Call → OnItsWay
way_after [] = nothing_coming
way_after (call.Begin done.Done ∷ calls) = nothing_coming
way_after (call.Send line datagram done.Done ∷ calls) =
    line_changed (way_after calls) line (λ datagrams. datagrams ++ as_carried datagram)
way_after (call.Next line room bytes (taken.Got n) ∷ calls) =
    line_changed (way_after calls) line (drop 1)
way_after (call.Put at piece (put.Wrote n) ∷ calls) =
    end_changed (way_after calls) (other_end at) (λ bytes. bytes ++ take n piece)
way_after (call.Take at room bytes (taken.Got n) ∷ calls) =
    end_changed (way_after calls) at (drop n)
way_after (call ∷ calls) = way_after calls

-- so many bytes of the first datagram came, as many as there was room for
abbrev pub FirstCame : List (List ℕ) → ℕ → ℕ → List ℕ → Type 0
FirstCame [] room count bytes = ⊥
FirstCame (datagram ∷ datagrams) room count bytes =
    (count ≡ min (length datagram) room) × (bytes ≡ take count datagram)

-- what came by each call was the first that was on its way
abbrev pub CameInOrder : List Call → Type 0
CameInOrder [] = Unit {0}
CameInOrder (call.Next line room bytes (taken.Got n) ∷ calls) =
    FirstCame (on_line (way_after calls) line) room n bytes × CameInOrder calls
CameInOrder (call.Take at room bytes (taken.Got n) ∷ calls) =
    (bytes ≡ take n (to_end (way_after calls) at)) × CameInOrder calls
CameInOrder (call ∷ calls) = CameInOrder calls

-- where a net lists its calls, these were carried: what is on its way is what they leave, and what
-- came was that
abbrev pub CarriesAll : Option (List Call) → OnItsWay → Type 0
CarriesAll None way = Unit {0}
CarriesAll (Some calls) way = (way ≡ way_after calls) × CameInOrder calls
