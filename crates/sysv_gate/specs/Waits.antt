-- The result of a wait for a count. This project's profile.
use Rattle.std.specs.Prelude.{◌≡◌, ℕ, ◌<◌, ◌≤◌}
use Rattle.sysv_gate.specs.declared.count.Count.{Count}
use Rattle.sysv_gate.specs.declared.awaited.Awaited.{Awaited}
use Rattle.sysv_gate.specs.declared.awaited.Awaited.TheVariants.{Reached, Worn}
use Rattle.sysv_gate.specs.Gates.{Holding, marked, read_to, Learns}

-- If the result is `Reached`, the count is at least the goal, and at least what the seat knew of
-- it. If it is `Worn`, the count that was read last is below the goal, and the seat has found that
-- the tickets have reached 2^62.
abbrev pub Waited : {O C R : Type 0} → (O → ℕ × ℕ) → Count → ℕ → Holding O C R → Awaited → Holding O C R → Type 0
Waited counted count goal before (Reached n) after =
    (goal ≤ n) × Learns counted count before n × (after ≡ read_to count n before)
Waited counted count goal before Worn after =
    (n : ℕ) × (n < goal) × Learns counted count before n × (after ≡ marked (read_to count n before))
