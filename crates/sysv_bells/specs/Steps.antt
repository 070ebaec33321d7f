-- What each step on the words does to the view of its seat, and what the seat learns from it. This
-- project's profile.
use Rattle.std.specs.Prelude.{◌≡◌, ◌⊎◌, ℕ, zero, suc, ◌+◌, ◌≤◌, Bool, cond, [], ◌∷◌, ◌++◌}
use Rattle.atomic_table.specs.Table.{Me, Step}
use Rattle.sysv_bells.specs.declared.view.View.{View}
use Rattle.sysv_bells.specs.declared.view.Stage.{Stage}
use Rattle.sysv_bells.specs.declared.view.Stage.TheVariants.{Idle, Told, Rung, Awake, Announced, Asleep}

-- The view of the stepping seat, together with the slots that the seat holds.
abbrev pub Mine : Type 0
Mine = Me (Unit {0}) View

-- The view of a teller after it has set these bits, or has seen them set.
abbrev pub knows : ℕ → ℕ → ℕ → View → View
knows word bits since v = record v { told = v.told ++ record { word = word; bits = bits; since = since } ∷ [] }

abbrev pub told : ℕ → ℕ → ℕ → View → View
told word bits since v = record (knows word bits since v) { stage = Told }

-- The view of a teller after it has said that it rings, and after it has found the word 0.
abbrev pub rang : View → View
rang v = record v { stage = Rung; rings = v.rings + 1 }

abbrev pub found : ℕ → View → View
found n v = record v { stage = Idle; bells = v.bells + n }

abbrev pub Looks : Step (Unit {0}) → Mine → ℕ → Mine → Type 0
Looks st m n m' = (since : ℕ) × (m' ≡ (knows st.word n since m.0, m.1))

abbrev pub Tells : Step (Unit {0}) → Mine → ℕ → Mine → Type 0
Tells st m n m' = (since : ℕ) × (m' ≡ (told st.word st.first since m.0, m.1))

abbrev pub Rings : Step (Unit {0}) → Mine → ℕ → Mine → Type 0
Rings st m n m' = m' ≡ (rang m.0, m.1)

abbrev pub Finds : Step (Unit {0}) → Mine → ℕ → Mine → Type 0
Finds st m n m' = (n ≤ 1) × (m' ≡ (found n m.0, m.1))

-- The stage after the look at the rings, which found this number.
abbrev pub fallen : ℕ → Stage
fallen zero = Asleep
fallen (suc n) = Announced

-- The view of the sleeper after it has said that it sleeps, and after it has looked at the rings.
abbrev pub announced : ℕ → View → View
announced since v = record v { stage = Announced; since = since }

abbrev pub checked : ℕ → ℕ → View → View
checked n seen v = record v { stage = fallen n; seen = seen }

-- The first word that the sleeper has to read after it took the rings, of which there was this
-- number.
abbrev pub from_after : ℕ → ℕ → ℕ
from_after zero from = from
from_after (suc n) from = 2

-- The view of the sleeper after it has said that it is awake, and after it has taken the rings.
abbrev pub awake : View → View
awake v = record v { stage = Awake }

abbrev pub hearing : ℕ → ℕ → View → View
hearing n heard v = record v { heard = heard; seen = heard; from = from_after n v.from }

abbrev pub stayed : View → View
stayed v = record v { rings = v.rings + 1 }

-- The first word that the sleeper has to read after a look at the next one, which found this
-- number.
abbrev pub passed : ℕ → ℕ → ℕ
passed zero from = suc from
passed (suc n) from = from

-- The view of the sleeper after a look at the next told word, and after it has taken it.
abbrev pub passing : ℕ → View → View
passing n v = record v { from = passed n v.from }

abbrev pub taking : ℕ → ℕ → View → View
taking word n v = record v { from = suc v.from; taken = v.taken ++ record { word = word; bits = n } ∷ [] }

abbrev pub Announces : Step (Unit {0}) → Mine → ℕ → Mine → Type 0
Announces st m n m' = (since : ℕ) × (m' ≡ (announced since m.0, m.1))

-- If it finds 1, someone has rung since the sleeper last took the rings.
abbrev pub Checks : Step (Unit {0}) → Mine → ℕ → Mine → Type 0
Checks st m n m' = (n ≤ 1) × ((seen : ℕ) × (m' ≡ (checked n seen m.0, m.1)) × (m.0.heard + n ≤ seen))

abbrev pub Wakes : Step (Unit {0}) → Mine → ℕ → Mine → Type 0
Wakes st m n m' = m' ≡ (awake m.0, m.1)

-- It finds 1 exactly if someone has rung since the sleeper last took the rings.
abbrev pub Hears : Step (Unit {0}) → Mine → ℕ → Mine → Type 0
Hears st m n m' =
    (n ≤ 1)
    × ((heard : ℕ) × (m' ≡ (hearing n heard m.0, m.1)) × (m.0.heard + n ≤ heard) × (m.0.seen ≤ heard)
    × (n ≡ 0 → heard ≤ m.0.heard))

abbrev pub Stays : Step (Unit {0}) → Mine → ℕ → Mine → Type 0
Stays st m n m' = m' ≡ (stayed m.0, m.1)

abbrev pub Passes : Step (Unit {0}) → Mine → ℕ → Mine → Type 0
Passes st m n m' = m' ≡ (passing n m.0, m.1)

abbrev pub Takes : Step (Unit {0}) → Mine → ℕ → Mine → Type 0
Takes st m n m' = m' ≡ (taking st.word n m.0, m.1)

-- A split leaves the view as it is, and makes a teller that has told nothing.
abbrev pub same_view : View → View
same_view v = v

abbrev pub fresh : View
fresh = record {
  stage = Idle;
  rings = 0;
  bells = 0;
  told = [];
  taken = [];
  from = 0;
  heard = 0;
  seen = 0;
  since = 0;
}

abbrev pub newcomer : View → View
newcomer v = fresh

-- A teller may ring between two calls, and after it has told something.
abbrev pub MayRing : Stage → Type 0
MayRing stage = (stage ≡ Idle) ⊎ (stage ≡ Told)

abbrev pub IsIdle : Mine → Type 0
IsIdle m = m.0.stage ≡ Idle

-- The view of a teller after a whole ring, which found that the sleeper sleeps or not.
abbrev pub after_ring : Bool → View → View
after_ring has_to v = record v { stage = Idle; rings = v.rings + 1; bells = v.bells + cond has_to 1 0 }

-- Nothing but the stage and what is told has changed.
abbrev pub ToldOnly : Mine → Mine → Type 0
ToldOnly m m' = m' ≡ (record m.0 { stage = m'.0.stage; told = m'.0.told }, m.1)

-- The first step of a teller without a seat, which makes its seat: a load of a told word, or a
-- ring.
abbrev pub Meets : Step (Unit {0}) → Mine → ℕ → Mine → Type 0
Meets st m n m' = (since : ℕ) × (m' ≡ (knows st.word n since (newcomer m.0), m.1))

abbrev pub Comes : Step (Unit {0}) → Mine → ℕ → Mine → Type 0
Comes st m n m' = m' ≡ (rang (newcomer m.0), m.1)
