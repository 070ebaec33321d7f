-- What each step on the word does to a view, and what the seat learns from it. This project's
-- profile.
use Rattle.std.specs.Prelude.{◌≡◌, ℕ, ◌+◌, ◌-◌, ◌/◌, ◌^◌, ◌≤◌, max, false, [], ◌∷◌, ◌++◌, nat_lt}
use Rattle.atomic_table.specs.Table.{Me, Step}
use Rattle.sysv_eventcount.specs.declared.view.View.{View}
use Rattle.sysv_eventcount.specs.Counter.{Teaches}
use Rattle.sysv_lists.specs.Numbers.{NoneTwice}

-- The view of the stepping seat, together with the slots that the seat holds.
abbrev pub Mine : Type 0
Mine = Me (Unit {0}) View

-- What a view learns from the number n.
abbrev pub Informs : View → ℕ → Type 0
Informs v n = Teaches v.first v.seen v.allowance v.own n

-- The view after a load that saw the word.
abbrev pub looked : ℕ → View → View
looked n v = record v { seen = n }

-- The view after a load that saw the word and cleared the view for one addition if the word was
-- below 2^62.
abbrev pub after_clearing : ℕ → View → View
after_clearing n v = record v { seen = n; cleared = nat_lt n (2 ^ 62) }

-- The view after an addition: the number found is the view's own, and the view is no longer
-- cleared.
abbrev pub after_adding : ℕ → View → View
after_adding n v = record v { seen = n + 1; own = v.own ++ n ∷ []; cleared = false }

-- A load that sees the word.
abbrev pub Looks : Step (Unit {0}) → Mine → ℕ → Mine → Type 0
Looks st m n m' = (m' ≡ (looked n m.0, m.1)) × Informs m.0 n

-- A load that also clears the view if the word is below 2^62.
abbrev pub Clears : Step (Unit {0}) → Mine → ℕ → Mine → Type 0
Clears st m n m' = (m' ≡ (after_clearing n m.0, m.1)) × Informs m.0 n

-- An addition of one.
abbrev pub Adds : Step (Unit {0}) → Mine → ℕ → Mine → Type 0
Adds st m n m' = (m' ≡ (after_adding n m.0, m.1)) × Informs m.0 n × Informs (after_adding n m.0) (n + 1)

-- A load that leaves the view unchanged, and shows that its allowance is at most the whole and that
-- it found no number twice.
abbrev pub Weighs : Step (Unit {0}) → Mine → ℕ → Mine → Type 0
Weighs st m n m' = (m' ≡ m) × (m.0.allowance ≤ 2 ^ 61) × NoneTwice m.0.own

-- What a split leaves to the old view.
abbrev pub left_of : View → View
left_of v = record v { allowance = v.allowance - v.allowance / 64 }

-- The view that a split makes.
abbrev pub given_of : View → View
given_of v = record v { own = []; allowance = v.allowance / 64 }

-- The view after another view was joined into it.
abbrev pub both_of : View → View → View
both_of v w = record v { seen = max v.seen w.seen; own = v.own ++ w.own; allowance = v.allowance + w.allowance }

-- What is left of a view that was joined into another.
abbrev pub spent : View
spent = record { first = 0; seen = 0; own = []; allowance = 0; cleared = false }
