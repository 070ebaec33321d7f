-- The numbers that seats have drawn, compared with the lists of returned tickets. The tests with
-- threads use these definitions. This project's profile.
use Rattle.std.specs.Prelude.{◌≡◌, ◌+◌, ℕ, List, ◌++◌}
use Rattle.sysv_eventcount.specs.Counter.{Holding}

-- The seat has drawn exactly these numbers since it was `before`.
abbrev pub HasDrawn : Holding → Holding → List ℕ → Type 0
HasDrawn before after drawn =
    (after.counter ≡ before.counter) × (after.own ≡ before.own ++ drawn) × (after.allowance ≡ before.allowance)

-- Two seats that had drawn nothing have together drawn exactly these numbers, and the second was
-- joined into the first.
abbrev pub BothHaveDrawn : Holding → Holding → Holding → List ℕ → Type 0
BothHaveDrawn one two after drawn =
    (after.counter ≡ one.counter) × (after.own ≡ drawn) × (after.allowance ≡ one.allowance + two.allowance)
