use Rattle.std.proofs.Common.{◌≤◌}
use Rattle.indexmap.specs.IndexMap.{index_map_len}
use Rattle.sysv_keys.specs.State.{places_in}
use Rattle.sysv_keys.specs.Kept.{IsIndex}
use Rattle.sysv_keys.proofs.registry.index_keys.Given as goal

-- The index has the keys of the places so far.
abbrev pub invariant-loop-slot : goal.invariant-loop-slot
invariant-loop-slot l = IsIndex (places_in l.places) l.slot l.by_key × (index_map_len l.by_key ≤ l.slot)
