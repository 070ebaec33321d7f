-- What the laws of waits and of removals admit and refuse: a receive of any message on the queue
-- that a preset made, a removal of that queue while the receive waits, a forget that finds no row,
-- and an identifier that is installed twice.
use Rattle.std.specs.Prelude.{pos, List, [], ◌∷◌, ◌++◌, Bool, true, false}
use Rattle.sysv_model.specs.declared.errno.Errno.TheVariants.{EIDRM, EINVAL}
use Rattle.sysv_model.specs.declared.selector.Selector.TheVariants.{Any}
use Rattle.sysv_model.specs.History.{Take, Remove, Gone, NoMatch, Accepted, Discarded, History}
use Rattle.sysv_model.specs.Registry.{Forget, Changed}
use Rattle.sysv_model.specs.Turn.{Op, AtSlot, AtRegistry, Turn, slot_history}
use Rattle.sysv_steps.specs.State.{Refused}
use Rattle.sysv_core.specs.World.{preset_who, preset_install, with_preset_turns}
use Rattle.sysv_core.specs.Parked.{HasNothingToTake}
use Rattle.sysv_core.specs.Removed.{AreRemovedForGood}
use Rattle.sysv_core.specs.Forgotten.{AllTakeTheirRows}
use Rattle.sysv_core.specs.LastWords.{IsToldSo}
use Rattle.sysv_core.specs.WorkedRun.{sender, place_hello}

-- A turn that no actor made.
abbrev pub by_preset : Op → Turn
by_preset op = record { who = preset_who; op = op }

abbrev pub slot_0 : List Turn → History
slot_0 turns = slot_history 0 turns

-- The turns of the preset, and then one that puts a message on the queue.
abbrev pub after_hello : List Turn
after_hello = with_preset_turns [] ++ by_preset (AtSlot 0 place_hello (Accepted 0)) ∷ []

-- The turns of the preset, and then one that removes the queue.
abbrev pub after_removal : List Turn
after_removal = with_preset_turns [] ++ by_preset (AtSlot 0 (Remove (pos 0) sender) (Discarded [])) ∷ []

-- These turns, and then one that forgets the identifier, with that reply.
abbrev pub after_forget : Bool → List Turn
after_forget done = after_removal ++ by_preset (AtRegistry (Forget (pos 0)) (Changed done)) ∷ []

-- A turn of the receive that finds no message.
abbrev pub finds_none : Op
finds_none = AtSlot 0 (Take (pos 0) sender Any 9 true 0) (NoMatch 0)

-- A turn of the receive that finds the identifier gone.
abbrev pub finds_it_gone : Op
finds_it_gone = AtSlot 0 (Take (pos 0) sender Any 9 true 0) Gone

-- What the laws admit and refuse.
pub record WorkedWaits : Type 0 where
  -- The receive waits rightly on the empty queue, but not after a message is queued or the queue is
  -- removed.
  pub waits : HasNothingToTake (slot_0 (with_preset_turns [])) (pos 0) sender Any
  pub sleeps_on : ¬ HasNothingToTake (slot_0 after_hello) (pos 0) sender Any
  pub sleeps_for_ever : ¬ HasNothingToTake (slot_0 after_removal) (pos 0) sender Any
  -- A receive that had come to the queue reports that it was removed; one that comes only
  -- afterwards reports that there is none.
  pub told : IsToldSo (finds_none ∷ []) (finds_it_gone ∷ []) (Refused EIDRM ∷ [])
  pub told_never : ¬ IsToldSo (finds_none ∷ []) (finds_it_gone ∷ []) (Refused EINVAL ∷ [])
  pub told_to_a_later_one : IsToldSo [] (finds_it_gone ∷ []) (Refused EINVAL ∷ [])
  -- After the removal the queue is not empty but gone.
  pub found_again : ¬ IsToldSo (finds_none ∷ []) (finds_none ∷ []) []
  -- The forget of the removal takes the row of the preset away; it does not find that there is none.
  pub forgets : AllTakeTheirRows (after_forget true)
  pub forgets_nothing : ¬ AllTakeTheirRows (after_forget false)
  -- An identifier is not installed again.
  pub comes_back : ¬ AreRemovedForGood (after_removal ++ by_preset preset_install ∷ [])
