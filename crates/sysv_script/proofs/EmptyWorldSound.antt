-- The world in which nothing has happened is sound.
use Rattle.std.proofs.Common.{ℕ}
use Rattle.sysv_core.specs.Sound.{IsSound, OpensSound}
use Rattle.sysv_script.specs.declared.actor.TheConstants.{SCRIPT_ACTORS}
use Rattle.sysv_script.specs.ScriptState.{opening_world}

pub opening_sound : OpensSound → (blocks : ℕ) → IsSound (opening_world blocks)
opening_sound opens blocks = opens record { actors = SCRIPT_ACTORS; blocks = blocks; first = 0; generation = 0 }
