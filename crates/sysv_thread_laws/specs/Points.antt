-- The points of an order: after each of its turns, the calls were as far as those of their turns
-- that came before. The part of the order up to there is a run with these calls, and each of them
-- that waits below its goal has its reason. So the law of waits holds all along an order, and not
-- only at its end (this project's profile).
use Rattle.std.specs.Prelude.{◌≡◌, ◌<◌, ◌⊎◌, ℕ, List, [], ◌∷◌, ◌++◌, Some, slice_get}
use Rattle.sysv_model.specs.Turn.{Op}
use Rattle.sysv_model.specs.Turns.{Numbered, turns_of}
use Rattle.sysv_objects.specs.LegalOp.{AreLegal}
use Rattle.sysv_steps.specs.Call.{Kind, kind_of}
use Rattle.sysv_steps.specs.State.{Phase, Wait, State, Waits}
use Rattle.sysv_steps.specs.Begin.{begin}
use Rattle.sysv_steps.specs.Next.{next}
use Rattle.sysv_steps.specs.Resume.{awaited, goal_of}
use Rattle.sysv_core.specs.World.{value_of}
use Rattle.sysv_bank.specs.Banks.{Each2}
use Rattle.sysv_thread_laws.specs.Order.{Called, AreAll}
use Rattle.sysv_thread_laws.specs.OrderIsRun.{name_at, IsRunWith}
use Rattle.sysv_thread_laws.specs.ParkedOnThreads.{HasReasonOnThreads}

-- The state is the one to which the last of the operations led, or the first one if there is none.
-- A call that waited then has not gone on.
abbrev pub IsJustAfter : {kind : Kind} → State kind → List Op → State kind → Type 0
IsJustAfter {kind} from ops state =
    ((ops ≡ []) × (state ≡ from))
    ⊎ ((before : List Op) × (phase : Phase kind) × (op : Op) × (ops ≡ before ++ op ∷ [])
    × (next phase op ≡ Some state))

-- The call as it was just after some of its turns.
pub record IsCut (call now : Called) : Type 0 where
  pub by : now.by ≡ call.by
  pub cred : now.cred ≡ call.cred
  pub asked : now.asked ≡ call.asked
  pub released : now.released ≡ call.released
  pub rest : List Op
  pub ops : call.ops ≡ now.ops ++ rest
  pub state : IsJustAfter (begin now.cred now.asked now.released) now.ops now.state

-- What holds after this part of an order with these calls.
pub record IsPoint (generation blocks : ℕ) (front : List Numbered) (calls : List Called) : Type 0 where
  pub now : List Called
  -- Each call is as far as its turns in this part.
  pub cut : Each2 IsCut calls now
  pub run : IsRunWith generation blocks front now
  -- Each call that waits below its goal has its reason.
  pub parks : (place : ℕ) (c : Called) (wait : Wait (kind_of c.asked)) → slice_get now place ≡ Some c →
      c.state ≡ Waits wait → value_of run.world.turns (awaited wait) < goal_of wait →
      HasReasonOnThreads run.world (name_at place) c.cred c.asked wait

-- This holds after each part of each order with legal replies.
abbrev pub EachPointParksRightly : Type 0
EachPointParksRightly = (generation blocks : ℕ) (order : List Numbered) (calls : List Called) →
    AreLegal generation blocks (turns_of order) → AreAll order calls → (front back : List Numbered) →
    order ≡ front ++ back → IsPoint generation blocks front calls
