-- The calls that made the turns of one order. A pass makes one call at a time (this project's
-- profile).
use Rattle.std.specs.Prelude.{◌≡◌, ℕ, ◌==◌, ◌&&◌, Bool, true, false, not, List, [], All, filter, map, if◌then◌else◌}
use Rattle.std.specs.List.{flat_map}
use Rattle.sysv_model.specs.declared.cred.Cred.{Cred}
use Rattle.sysv_model.specs.History.{ReadRow}
use Rattle.sysv_model.specs.Turn.{Op, AtSlot}
use Rattle.sysv_model.specs.Turns.{Numbered}
use Rattle.sysv_steps.specs.Call.{SystemCall, kind_of}
use Rattle.sysv_steps.specs.State.{State}
use Rattle.sysv_steps.specs.Begin.{begin}
use Rattle.sysv_steps.specs.Played.{Plays}

-- The turn reads the row of a slot. It belongs to no call: a pass makes it to list the queues, or
-- to stop.
abbrev pub shows_row : Op → Bool
shows_row (AtSlot slot ReadRow reply) = true
shows_row op = false

-- ---- the calls

-- A call of a pass: the number of the pass, the caller's credentials, the call's arguments, the
-- released count that it read at its start, the turns that it made, in order, and its state. The
-- call is over, or it was left at a wait and remains there for good, or it is still pending.
pub record Called : Type 0 where
  pub by : ℕ
  pub cred : Cred
  pub asked : SystemCall
  pub released : ℕ
  pub ops : List Op
  pub state : State (kind_of asked)

-- The step table, taken along the call's turns from its start, leads to its state. This does not
-- hold of a call that found a gate worn out.
abbrev pub IsPlayed : Called → Type 0
IsPlayed c = Plays (begin c.cred c.asked c.released) c.ops c.state

-- The pass of this number made the turn in a call.
abbrev pub is_in_call_of : ℕ → Numbered → Bool
is_in_call_of number t = (t.by == number) && not (shows_row t.op)

-- The operations of a pass in calls, by the order of all turns.
abbrev pub ops_by : ℕ → List Numbered → List Op
ops_by number order = map (λ (t : Numbered). t.op) (filter (is_in_call_of number) order)

-- The operations of a pass in calls, by its calls, one after the other.
abbrev pub ops_in : ℕ → List Called → List Op
ops_in number calls = flat_map (λ (c : Called). if c.by == number then c.ops else []) calls

-- The calls are all that the passes made, with those of each pass in the order in which it made
-- them.
pub record AreAll (order : List Numbered) (calls : List Called) : Type 0 where
  -- Each call is played along its turns.
  pub played : All IsPlayed calls
  -- Each pass made the turns of its calls, one call after the other, and no others except to read
  -- rows.
  pub whole : (number : ℕ) → ops_by number order ≡ ops_in number calls

-- No call reads a row. So leaving those turns out removes no turn of a call.
abbrev pub NoCallReadsARow : Type 0
NoCallReadsARow = (c : Called) → IsPlayed c → All (λ (op : Op). shows_row op ≡ false) c.ops
