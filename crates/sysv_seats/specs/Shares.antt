-- How many places of a worker may hold messages (this project's profile).
use Rattle.std.specs.Prelude.{◌≡◌, ◌+◌, ◌-◌, ◌*◌, ◌^◌, ◌≤◌, ◌<◌, min, ℕ, Bool, true, false}

-- At least one, and of `places` places all but an eighth, rounded down.
abbrev pub IsShare : (places most : ℕ) → Type 0
IsShare places most = (places ≡ 0 → most ≡ 1) × (1 ≤ places → (most ≤ places) × (8 * (places - most) ≤ places)
    × (places < 8 * (places - most) + 8))

-- One more, or one less. The number stays between 0 and the maximum.
abbrev pub with_one : (begins : Bool) → ℕ → ℕ
with_one true count = min (count + 1) (2 ^ 64 - 1)
with_one false count = count - 1
