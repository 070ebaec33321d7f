-- The rule of the words by which one sleeper is told of things and woken by many tellers. Word 0 is
-- 1 while the sleeper says that it sleeps, word 1 is 1 if someone has rung since the sleeper last
-- took the rings, and the words from 2 on are told: their bits stand for what the tellers tell. The
-- first seat is the sleeper's. This project's profile.
use Rattle.std.specs.Prelude.{◌≡◌, ◌≢◌, ◌⊎◌, ℕ, ◌+◌, ◌<◌, ◌≤◌, Bool, true, false, List, [], length, slice_index, sum_by}
use Rattle.std.specs.Int.{bit_at}
use mathlib.Core.Option.{some}
use lib.ListN.{get_elem?}
use Rattle.atomic_table.specs.Table.{State}
use Rattle.sysv_bells.specs.declared.view.View.{View}
use Rattle.sysv_bells.specs.declared.view.Telling.{Telling}
use Rattle.sysv_bells.specs.declared.view.Taking.{Taking}
use Rattle.sysv_bells.specs.declared.view.Stage.{Stage}
use Rattle.sysv_bells.specs.declared.view.Stage.TheVariants.{Idle, Told, Rung, Awake, Announced, Asleep}

-- Whether this is a stage of a teller.
abbrev pub is_teller : Stage → Bool
is_teller Idle = true
is_teller Told = true
is_teller Rung = true
is_teller Awake = false
is_teller Announced = false
is_teller Asleep = false

-- 1 for a teller that has set a bit and not rung yet.
abbrev pub told_count : Stage → ℕ
told_count Idle = 0
told_count Told = 1
told_count Rung = 0
told_count Awake = 0
told_count Announced = 0
told_count Asleep = 0

-- 1 for a teller that has rung and has not looked yet whether the sleeper sleeps.
abbrev pub rung_count : Stage → ℕ
rung_count Idle = 0
rung_count Told = 0
rung_count Rung = 1
rung_count Awake = 0
rung_count Announced = 0
rung_count Asleep = 0

-- The tellers that have still to ring, the tellers that have still to look, all rings, and all
-- times that the sleeper's word was taken.
abbrev pub still_to_ring : List View → ℕ
still_to_ring views = sum_by (λ v. told_count v.stage) views

abbrev pub still_to_look : List View → ℕ
still_to_look views = sum_by (λ v. rung_count v.stage) views

abbrev pub all_rings : List View → ℕ
all_rings views = sum_by (λ v. v.rings) views

abbrev pub all_bells : List View → ℕ
all_bells views = sum_by (λ v. v.bells) views

-- The sleeper took this bit of the word, after the first `since` takings.
pub record IsTaken (taken : List Taking) (since word bit : ℕ) : Type 0 where
  pub place : ℕ
  pub taking : Taking
  pub later : since ≤ place
  pub at : get_elem? taken place ≡ some taking
  pub word_is : taking.word ≡ word
  pub has : bit_at taking.bits bit ≡ 1

-- Each bit of the telling is in its word, or the sleeper has taken it since.
pub record IsDelivered (words : List ℕ) (taken : List Taking) (t : Telling) : Type 0 where
  pub is_told : 2 ≤ t.word
  pub since : t.since ≤ length taken
  pub bits : (bit : ℕ) → bit_at t.bits bit ≡ 1 →
      (bit_at (slice_index words t.word) bit ≡ 1) ⊎ IsTaken taken t.since t.word bit

-- Each telling of each seat is delivered.
abbrev pub AreDelivered : List ℕ → List Taking → List View → Type 0
AreDelivered words taken views =
    (id : ℕ) (v : View) → get_elem? views id ≡ some v → (place : ℕ) (t : Telling) → get_elem? v.told place ≡ some t →
    IsDelivered words taken t

-- The words, of which this number is told, and the views keep the rule.
pub record IsKept (told : ℕ) (words : List ℕ) (views : List View) (sleeper : View) : Type 0 where
  pub size : length words ≡ told + 2
  -- The first seat is the sleeper's, and the others are tellers'.
  pub first : get_elem? views 0 ≡ some sleeper
  pub sleeps : is_teller sleeper.stage ≡ false
  pub tellers : (id : ℕ) (v : View) → get_elem? views id ≡ some v → id ≢ 0 → is_teller v.stage ≡ true
  -- Word 1 is 1 exactly if someone has rung since the sleeper last took the rings.
  pub rung_bit : slice_index words 1 ≤ 1
  pub rung_since : sleeper.heard + slice_index words 1 ≤ all_rings views
  pub all_heard : slice_index words 1 ≡ 0 → all_rings views ≤ sleeper.heard
  pub seen : sleeper.seen ≤ all_rings views
  -- If something is told in a word that the sleeper has read, someone has rung or has still to
  -- ring. Before the sleeper says that it sleeps, it has read all words.
  pub announced : (i : ℕ) → 2 ≤ i → i < sleeper.from → 0 < slice_index words i →
      0 < slice_index words 1 + still_to_ring views
  pub all_read : sleeper.stage ≢ Awake → length words ≤ sleeper.from
  -- Word 0 is 0 while the sleeper is awake. Since it said that it sleeps, either the word is 1 or
  -- one teller has taken it.
  pub asleep_bit : slice_index words 0 ≤ 1
  pub awake : sleeper.stage ≡ Awake → slice_index words 0 ≡ 0
  pub one_bell : sleeper.stage ≢ Awake → slice_index words 0 + all_bells views ≡ sleeper.since + 1
  -- If the sleeper sleeps, word 0 is 1 and someone has rung, then a teller has still to look at
  -- word 0.
  pub answered : sleeper.stage ≡ Asleep → slice_index words 0 + slice_index words 1 ≤ 1 + still_to_look views
  pub delivered : AreDelivered words sleeper.taken views

abbrev pub Kept : ℕ → State (Unit {0}) View → Type 0
Kept told s = (sleeper : View) × IsKept told s.words s.views sleeper

-- The view of the first seat, the sleeper's. All words are read.
abbrev pub start : ℕ → View
start told = record {
  stage = Awake;
  rings = 0;
  bells = 0;
  told = [];
  taken = [];
  from = told + 2;
  heard = 0;
  seen = 0;
  since = 0;
}
