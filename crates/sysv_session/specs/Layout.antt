-- How an outbox keeps its bytes and its marks (this project's profile): behind bytes that were taken,
-- which it removes now and then. A mark's place is counted from the first byte that is kept.
use Rattle.std.specs.Prelude.{◌≤◌, ℕ, Bool, false, not, List, [], ◌∷◌, filter}
use Rattle.sysv_session.specs.Outbox.{Mark, is_passed}

-- The marks end at ascending places, none before the least and none behind the most.
abbrev pub InOrder : ℕ → List Mark → ℕ → Type 0
InOrder least [] most = least ≤ most
InOrder least (mark ∷ marks) most = (least ≤ mark.ends) × InOrder mark.ends marks most

-- The marks end at ascending places.
abbrev pub IsAscending : List Mark → Type 0
IsAscending marks = (least : ℕ) × (most : ℕ) × InOrder least marks most

-- The marks whose frames do not end before the last of the first n bytes.
abbrev pub unspent : ℕ → List Mark → List Mark
unspent n marks = filter (λ (mark : Mark). not (is_passed n mark)) marks

-- The frame of the first mark ends before the last of the first n bytes.
abbrev pub begins_passed : ℕ → List Mark → Bool
begins_passed n [] = false
begins_passed n (mark ∷ marks) = is_passed n mark
