-- Bytes that are known.
use Rattle.std.proofs.Common.{◌≡◌, Option, Some, None, ap}

replaced : {A : Type 0} → A → Option A → Option A
replaced y None = None
replaced y (Some x) = Some y

-- What is known is not unknown.
pub never_none : {A : Type 0} (x y : A) → Some x ≡ None → Some y ≡ None
unfolding replaced
never_none x y is = ap (replaced y) is
