-- The rule of doorbells. Word 0 is the number of all sleepers. Word 1 is 1 from a call at the
-- entrance until a thread there looks once more. Each doorbell has two words: the number of threads
-- that are at it, and the number of strokes, on which they sleep. The entrance has words 2 and 3.
-- This project's profile.
use Rattle.std.specs.Prelude.{◌≡◌, ℕ, ◌+◌, ◌*◌, ◌<◌, ◌≤◌, ◌==◌, List, cond, length, slice_index, sum_by}
use mathlib.Core.Option.{some}
use lib.ListN.{get_elem?}
use Rattle.atomic_table.specs.Table.{State}
use Rattle.sysv_doorbells.specs.declared.view.View.{View}
use Rattle.sysv_doorbells.specs.declared.view.Stage.{Stage}
use Rattle.sysv_doorbells.specs.declared.view.Stage.TheVariants.{Away, Come, Entered, Read, Ready, Left}
use Rattle.sysv_doorbells.specs.declared.view.Stage.TheVariants.{PassedAll, Passed, Near, Ringing, Rung}

-- 1 for a seat that is counted among all sleepers.
abbrev pub is_inside : Stage → ℕ
is_inside Away = 0
is_inside Come = 1
is_inside Entered = 1
is_inside Read = 1
is_inside Ready = 1
is_inside Left = 1
is_inside PassedAll = 0
is_inside Passed = 0
is_inside Near = 0
is_inside Ringing = 0
is_inside Rung = 0

-- 1 for a seat that is counted at its doorbell.
abbrev pub is_at : Stage → ℕ
is_at Away = 0
is_at Come = 0
is_at Entered = 1
is_at Read = 1
is_at Ready = 1
is_at Left = 0
is_at PassedAll = 0
is_at Passed = 0
is_at Near = 0
is_at Ringing = 0
is_at Rung = 0

-- 1 for a seat that has found someone at the entrance and may have to call one.
abbrev pub is_near : Stage → ℕ
is_near Away = 0
is_near Come = 0
is_near Entered = 0
is_near Read = 0
is_near Ready = 0
is_near Left = 0
is_near PassedAll = 0
is_near Passed = 0
is_near Near = 1
is_near Ringing = 0
is_near Rung = 0

-- 1 for a seat that has still to make a stroke.
abbrev pub is_ringing : Stage → ℕ
is_ringing Away = 0
is_ringing Come = 0
is_ringing Entered = 0
is_ringing Read = 0
is_ringing Ready = 0
is_ringing Left = 0
is_ringing PassedAll = 0
is_ringing Passed = 0
is_ringing Near = 0
is_ringing Ringing = 1
is_ringing Rung = 0

-- 1 for a seat that has made a stroke.
abbrev pub has_rung : Stage → ℕ
has_rung Away = 0
has_rung Come = 0
has_rung Entered = 0
has_rung Read = 0
has_rung Ready = 0
has_rung Left = 0
has_rung PassedAll = 0
has_rung Passed = 0
has_rung Near = 0
has_rung Ringing = 0
has_rung Rung = 1

-- 1 for a seat whose ring of its doorbell has begun.
abbrev pub has_looked : Stage → ℕ
has_looked Away = 0
has_looked Come = 0
has_looked Entered = 0
has_looked Read = 0
has_looked Ready = 0
has_looked Left = 0
has_looked PassedAll = 0
has_looked Passed = 1
has_looked Near = 1
has_looked Ringing = 1
has_looked Rung = 1

-- 1 for a seat that has rung each doorbell, for there were no sleepers.
abbrev pub has_passed : Stage → ℕ
has_passed Away = 0
has_passed Come = 0
has_passed Entered = 0
has_passed Read = 0
has_passed Ready = 0
has_passed Left = 0
has_passed PassedAll = 1
has_passed Passed = 0
has_passed Near = 0
has_passed Ringing = 0
has_passed Rung = 0

-- What a seat counts for the doorbell with this first word, and what all of them count.
abbrev pub here : (Stage → ℕ) → ℕ → View → ℕ
here f at v = cond (v.at == at) (f v.stage) 0

abbrev pub count_at : (Stage → ℕ) → ℕ → List View → ℕ
count_at f at views = sum_by (here f at) views

abbrev pub count : (Stage → ℕ) → List View → ℕ
count f views = sum_by (λ v. f v.stage) views

-- The strokes at a doorbell, and the rings of it that have begun.
abbrev pub strokes : ℕ → List View → ℕ
strokes at views = count_at has_rung at views

abbrev pub rings : ℕ → List View → ℕ
rings at views = count_at has_looked at views + count has_passed views

-- The number of the first word of a doorbell.
abbrev pub IsBell : ℕ → ℕ → Type 0
IsBell many at = (bell : ℕ) × (bell < many) × (at ≡ 2 * bell + 2)

-- A seat is ready to sleep on the number of strokes that it has read. If no stroke was made since
-- and none has still to be made, then each ring since was begun by a seat that may have to call one.
-- At the entrance, one is called only if a stroke was made since or has still to be made.
pub record IsReady (words : List ℕ) (views : List View) (v : View) : Type 0 where
  pub read : v.strokes ≤ strokes v.at views
  pub since : v.since ≤ rings v.at views
  pub heard : strokes v.at views ≤ v.strokes → count_at is_ringing v.at views ≡ 0 →
      rings v.at views ≤ v.since + count_at is_near v.at views
  pub called : v.at ≡ 2 → slice_index words 1 + v.strokes ≤ count_at is_ringing v.at views + strokes v.at views

-- The words of this number of doorbells and the views keep the rule.
pub record IsKept (many : ℕ) (words : List ℕ) (views : List View) : Type 0 where
  pub size : length words ≡ 2 * many + 2
  pub sleepers : slice_index words 0 ≡ count is_inside views
  pub called : slice_index words 1 ≤ 1
  pub entered : (at : ℕ) → IsBell many at → slice_index words at ≡ count_at is_at at views
  pub rung : (at : ℕ) → IsBell many at → slice_index words (at + 1) ≡ strokes at views
  pub read : (id : ℕ) (v : View) → get_elem? views id ≡ some v → v.stage ≡ Read → v.strokes ≤ strokes v.at views
  pub ready : (id : ℕ) (v : View) → get_elem? views id ≡ some v → v.stage ≡ Ready → IsReady words views v

-- A word holds less than 2^64, so the rule is kept while there are fewer seats.
abbrev pub Kept : ℕ → State (Unit {0}) View → Type 0
Kept many s = length s.views < 18446744073709551616 → IsKept many s.words s.views

-- The view of the first seat, which makes no call, and of each seat at the start.
abbrev pub away : View
away = record { stage = Away; at = 0; strokes = 0; since = 0 }
