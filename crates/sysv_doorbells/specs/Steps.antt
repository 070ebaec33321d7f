-- What each step on the words does to the view of its seat, and what the seat learns from it. This
-- project's profile.
use Rattle.std.specs.Prelude.{◌≡◌, ℕ, zero, suc}
use Rattle.atomic_table.specs.Table.{Me, Step}
use Rattle.sysv_doorbells.specs.declared.view.View.{View}
use Rattle.sysv_doorbells.specs.declared.view.Stage.{Stage}
use Rattle.sysv_doorbells.specs.declared.view.Stage.TheVariants.{Away, Come, Entered, Read, Ready, Left}
use Rattle.sysv_doorbells.specs.declared.view.Stage.TheVariants.{PassedAll, Passed, Near, Ringing, Rung}
use Rattle.sysv_doorbells.specs.Rule.{away}

-- The view of the stepping seat, together with the slots that the seat holds.
abbrev pub Mine : Type 0
Mine = Me (Unit {0}) View

abbrev pub Plays : Type 1
Plays = Step (Unit {0}) → Mine → ℕ → Mine → Type 0

-- The view at another stage, and at another doorbell.
abbrev pub moved : Stage → View → View
moved stage v = record v { stage = stage }

abbrev pub moved_to : ℕ → Stage → View → View
moved_to at stage v = record v { stage = stage; at = at }

-- The view after it has read this number of strokes, and after the look for which it is then ready.
abbrev pub noted : ℕ → View → View
noted strokes v = record v { stage = Read; strokes = strokes }

abbrev pub opened : ℕ → View → View
opened since v = record v { stage = Ready; since = since }

abbrev pub made_ready : ℕ → ℕ → View → View
made_ready strokes since v = record v { stage = Ready; strokes = strokes; since = since }

-- The stages after a look that found this number.
abbrev pub passing_all : ℕ → Stage
passing_all zero = PassedAll
passing_all (suc n) = Away

abbrev pub looking : ℕ → Stage
looking zero = Passed
looking (suc n) = Ringing

abbrev pub nearing : ℕ → Stage
nearing zero = Passed
nearing (suc n) = Near

abbrev pub sparing : ℕ → Stage
sparing zero = Near
sparing (suc n) = Passed

abbrev pub calling : ℕ → Stage
calling zero = Ringing
calling (suc n) = Passed

abbrev pub Begins : Plays
Begins st m n m' = m' ≡ (away, m.1)

abbrev pub Comes : Plays
Comes st m n m' = m' ≡ (moved Come m.0, m.1)

abbrev pub Enters : Plays
Enters st m n m' = m' ≡ (moved_to st.word Entered m.0, m.1)

abbrev pub Reads : Plays
Reads st m n m' = (since : ℕ) × (m' ≡ (made_ready n since m.0, m.1))

abbrev pub Notes : Plays
Notes st m n m' = m' ≡ (noted n m.0, m.1)

abbrev pub Opens : Plays
Opens st m n m' = (since : ℕ) × (m' ≡ (opened since m.0, m.1))

abbrev pub Clears : Plays
Clears st m n m' = m' ≡ m

abbrev pub Leaves : Plays
Leaves st m n m' = m' ≡ (moved Left m.0, m.1)

abbrev pub Goes : Plays
Goes st m n m' = m' ≡ (moved Away m.0, m.1)

abbrev pub PassesAll : Plays
PassesAll st m n m' = m' ≡ (moved (passing_all n) away, m.1)

abbrev pub Looks : Plays
Looks st m n m' = m' ≡ (moved_to st.word (looking n) away, m.1)

abbrev pub Nears : Plays
Nears st m n m' = m' ≡ (moved_to st.word (nearing n) away, m.1)

abbrev pub Spares : Plays
Spares st m n m' = m' ≡ (moved (sparing n) m.0, m.1)

abbrev pub Calls : Plays
Calls st m n m' = m' ≡ (moved (calling n) m.0, m.1)

abbrev pub Rings : Plays
Rings st m n m' = m' ≡ (moved Rung m.0, m.1)
