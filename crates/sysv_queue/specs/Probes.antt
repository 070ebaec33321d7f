-- When a receive reads no entry of the index (this profile's).
use Rattle.std.specs.Prelude.{Result, Ok, Err, ⊤}
use Rattle.sysv_queue.specs.declared.slot.TakeRefused.{TakeRefused}
use Rattle.sysv_queue.specs.declared.slot.TakeRefused.TheVariants as untaken

-- The receive failed before it searched the messages: the identifier is not live, or permission is
-- denied.
abbrev pub IsBarred : {X : Type 0} → Result X TakeRefused → Type 0
IsBarred (Ok taken) = ⊥
IsBarred (Err untaken.Gone) = ⊤
IsBarred (Err untaken.Denied) = ⊤
IsBarred (Err why) = ⊥
