-- The share that a pass has of its table, as a list of depths. Depth d is the part 2^-d, so depth 0
-- alone is the whole. This project's profile.
use Rattle.std.specs.Prelude.{◌≡◌, ℕ, suc, ◌-◌, ◌^◌, ◌≤◌, List, [], ◌∷◌, map, sum_by}

-- Each depth of the share is at most this one.
abbrev pub AreWithin : ℕ → List ℕ → Type 0
AreWithin depth [] = Unit {0}
AreWithin depth (d ∷ ds) = (d ≤ depth) × AreWithin depth ds

-- The number of parts in the share, if 2^depth parts make the whole.
abbrev pub parts : ℕ → List ℕ → ℕ
parts depth shares = sum_by (λ d. 2 ^ (depth - d)) shares

-- The share is the whole: at each depth that is at least every depth of the share, it has all
-- parts.
abbrev pub IsWhole : List ℕ → Type 0
IsWhole shares = (depth : ℕ) → AreWithin depth shares → parts depth shares ≡ 2 ^ depth

-- Half of the share.
abbrev pub half : List ℕ → List ℕ
half shares = map suc shares
