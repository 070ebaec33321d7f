-- What the refusals mean. Each hands back what was handed in. This project's profile.
use Rattle.std.specs.Prelude.{◌≡◌, ℕ, ◌^◌, ◌<◌, ◌≤◌, false}
use Rattle.sysv_gate.specs.declared.refusals.OpenRefused.{OpenRefused}
use Rattle.sysv_gate.specs.declared.refusals.OpenRefused.TheVariants.{NoMemory, BadStart}
use Rattle.sysv_gate.specs.declared.refusals.TryRefused.{TryRefused}
use Rattle.sysv_gate.specs.declared.refusals.TryRefused.TheVariants.{Busy, Worn}
use Rattle.sysv_gate.specs.Gates.{Holding, marked, SeesMore}

-- The object is handed back. The refusal is `BadStart` only if the first ticket is above 2^62, and
-- `NoMemory` only if it is not.
abbrev pub HandsBack : {O : Type 0} → ℕ → O → OpenRefused O → Type 0
HandsBack first object (NoMemory o) = (o ≡ object) × (first ≤ 2 ^ 62)
HandsBack first object (BadStart o) = (o ≡ object) × (2 ^ 62 < first)

-- The call is handed back. After `Busy` the seat may have seen more, and has made no turn; it was
-- not marked before. After `Worn` the seat is marked.
abbrev pub Refuses : {O C R : Type 0} → (O → C → R → O → Type 0) → Holding O C R → C → TryRefused C → Holding O C R →
    Type 0
Refuses moves before call (Busy c) after = (c ≡ call) × SeesMore moves before after × (before.worn ≡ false)
Refuses moves before call (Worn c) after = (c ≡ call) × (after ≡ marked before)
