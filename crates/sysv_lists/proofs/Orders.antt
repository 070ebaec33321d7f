-- Two numbers, of which one is at most the other.
use Rattle.std.proofs.Common.{ℕ, zero, suc, ◌<◌, ◌≤◌, ◌⊎◌, inl, inr, arith}

-- A number is at most another, or above it.
pub at_most : (a b : ℕ) → (a ≤ b) ⊎ (b < a)
at_most zero b = inl (omega arith)
at_most (suc a) zero = inr (omega arith)
at_most (suc a) (suc b) = elim (at_most a b) [ inl h ↦ inl (omega arith) | inr h ↦ inr (omega arith) ]
