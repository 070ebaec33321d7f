-- A turn at the registry: how the code's requests and replies appear in the registry's history
-- (this profile's).
use Rattle.std.specs.Prelude.{◌≡◌, false, ⊤}
use Rattle.sysv_model.specs.Registry.{RegistryCall, Begin, Settle, Forget, RegistryReply, Changed}
use Rattle.sysv_keys.specs.declared.registry.Begun.TheVariants as begun
use Rattle.sysv_keys.specs.Replies.{begun_reply}
use Rattle.sysv_keys.specs.State.{Registry}
use Rattle.sysv_keys.specs.Represents.{MakesTurn}
use Rattle.sysv_objects.specs.declared.registry.RegistryCall.{RegistryCall as Asked}
use Rattle.sysv_objects.specs.declared.registry.RegistryCall.TheVariants as asked
use Rattle.sysv_objects.specs.declared.registry.RegistryReply.{RegistryReply as Told}
use Rattle.sysv_objects.specs.declared.registry.RegistryReply.TheVariants as told

-- The request in the registry's history.
abbrev pub registry_call : Asked → RegistryCall
registry_call (asked.Begin key flags) = Begin key flags
registry_call (asked.Settle id) = Settle id
registry_call (asked.Forget id) = Forget id

-- The reply in the registry's history.
abbrev pub registry_reply : Told → RegistryReply
registry_reply (told.Begun begun) = begun_reply begun
registry_reply (told.Changed done) = Changed done

-- The reply fits the request: it is of the same kind.
abbrev pub FitsRegistryCall : Asked → Told → Type 0
FitsRegistryCall (asked.Begin key flags) (told.Begun begun) = ⊤
FitsRegistryCall (asked.Settle id) (told.Changed done) = ⊤
FitsRegistryCall (asked.Forget id) (told.Changed done) = ⊤
FitsRegistryCall call reply = ⊥

-- The replies after which the registry is unchanged: no row was made or changed.
abbrev pub LeavesRegistry : Told → Type 0
LeavesRegistry (told.Begun (begun.Made id)) = ⊥
LeavesRegistry (told.Begun found) = ⊤
LeavesRegistry (told.Changed done) = done ≡ false

-- The registry makes the turn, and the reply fits.
pub record RegistryMoves (before : Registry) (call : Asked) (reply : Told) (after : Registry) : Type 0 where
  pub turn : MakesTurn before (registry_call call) (registry_reply reply) after
  pub fits : FitsRegistryCall call reply
  pub leaves : LeavesRegistry reply → after ≡ before
