-- The meanings of the lines of a script (this project's script language): nothing, the size of the
-- pool, the preset queue, the credentials of an actor's later calls, the time of later steps, a
-- call that an actor starts, or steps of pending calls.
use Rattle.std.specs.Prelude.{ℕ, Bool}
use Rattle.sysv_model.specs.declared.cred.Cred.{Cred}
use Rattle.sysv_steps.specs.Call.{SystemCall}

pub data Said : Type 0 where
  Nothing : Said
  MakesPreset : Said
  -- The number of blocks of the pool.
  GivesBlocks : (blocks : ℕ) → Said
  GivesCred : (actor : ℕ) (cred : Cred) → Said
  GivesMoment : (moment : ℕ) → Said
  -- A call that continues after its start, or is only started.
  Starts : (actor : ℕ) (asked : SystemCall) (goes : Bool) → Said
  -- One step of an actor.
  StepsOnce : (actor : ℕ) → Said
  -- An actor continues its call.
  Continues : (actor : ℕ) → Said
  -- Each pending call continues.
  AllContinue : Said
