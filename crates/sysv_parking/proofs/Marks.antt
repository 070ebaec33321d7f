-- Which calls are due as a loop over the places, or over a line, makes them due.
use Rattle.std.proofs.Common.{◌≡◌, ◌≢◌, ◌∙◌, ℕ, ◌+◌, ◌<◌, ◌≤◌, ◌==◌, ◌||◌, cond, Bool, false, true, List, Option, None}
use Rattle.std.proofs.Common.{Some, length, get_or, set, take, refl, sym, ap, arith, inl, inr, get_or-set_same}
use Rattle.std.proofs.Common.{get_or-set_other}
use Rattle.std.proofs.lemmas.Bool.{cases_eq, cases_lt, eq-eqb, false≢true, ne_eqb}
use Rattle.std.proofs.lemmas.List.{get_or_past, length-set, take_all}
use Rattle.std.proofs.lemmas.Option.{get_or_from_slice_get, slice_get-get_or, slice_get_within}
use Rattle.std.proofs.lemmas.List.Sums.{sum_by_more, sum_by-take-le}
use Rattle.std.specs.Prelude.{is_some}
use Rattle.sysv_lists.specs.Numbers.{times}
use Rattle.sysv_parking.specs.declared.due.Why.{Why}
use Rattle.sysv_parking.specs.declared.key.Key.{Key}
use Rattle.sysv_parking.specs.Due.{both, by_all, by_raise, not_due, why_changed}
use Rattle.sysv_parking.specs.Keys.{line_of, slot_in}
use Rattle.sysv_parking.specs.Parking.{AreInLines, Parking, in_line, item_at, key_at, line_at, why_at}
use Rattle.sysv_parking.specs.Lines.{NotesAll, NotesChange, NotesLine}

-- Each call whose place is below this one is due. No other place is due for more reasons.
pub record MarksAll (place : ℕ) (old new : Parking) : Type 0 where
  pub keys : new.keys ≡ old.keys
  pub lines : new.lines ≡ old.lines
  pub long : length new.why ≡ length old.keys
  pub there : (other : ℕ) (key : Key) → other < place → key_at old other ≡ Some key → why_at new other ≡ by_all
  pub elsewhere : (other : ℕ) → key_at old other ≡ None → why_at new other ≡ why_at old other

-- Each call at the slot whose place is below this one is due. No other call is due for more reasons.
pub record MarksSlot (slot place : ℕ) (old new : Parking) : Type 0 where
  pub keys : new.keys ≡ old.keys
  pub lines : new.lines ≡ old.lines
  pub long : length new.why ≡ length old.keys
  pub there : (other : ℕ) (key : Key) → other < place → key_at old other ≡ Some key → slot_in key ≡ Some slot →
      why_at new other ≡ both (why_at old other) (why_changed key)
  pub later : (other : ℕ) → place ≤ other → why_at new other ≡ why_at old other
  pub elsewhere : (other : ℕ) → ((key : Key) → key_at old other ≡ Some key → slot_in key ≢ Some slot) →
      why_at new other ≡ why_at old other

-- Each call whose index in the line is below this one is due. No other call is due for more reasons.
pub record MarksLine (line index : ℕ) (old new : Parking) : Type 0 where
  pub keys : new.keys ≡ old.keys
  pub lines : new.lines ≡ old.lines
  pub long : length new.why ≡ length old.keys
  pub in_lines : AreInLines old
  pub there : (other : ℕ) → 1 ≤ times other (take index (line_at old line)) →
      why_at new other ≡ both (why_at old other) by_raise
  pub elsewhere : (other : ℕ) → times other (take index (line_at old line)) ≡ 0 → why_at new other ≡ why_at old other

-- A place with a key is within the places.
pub within : (keys : List (Option Key)) (place : ℕ) (key : Key) → get_or keys place None ≡ Some key →
    place < length keys
within keys place key some = elim (cases_lt place (length keys)) [
  | inl low ↦ low
  | inr past ↦ let none = get_or_past keys place None past in absurd (cc (none, some))
]

-- What one place is due for after one was made due.
pub marked_here : (why : List Why) (place : ℕ) (new : Why) → place < length why →
    get_or (set why place new) place not_due ≡ new
marked_here why place new low = get_or-set_same why place new not_due low

pub marked_there : (why : List Why) (place other : ℕ) (new : Why) → other ≢ place →
    get_or (set why place new) other not_due ≡ get_or why other not_due
marked_there why place other new differ = get_or-set_other why place other new not_due differ

pub all_none : (old new : Parking) → new ≡ old → length old.why ≡ length old.keys → MarksAll 0 old new
all_none old new same long = record {
  keys = ap (λ p. p.keys) same;
  lines = ap (λ p. p.lines) same;
  long = ap (λ p. length p.why) same ∙ long;
  there = λ other key less some. absurd (omega arith);
  elsewhere = λ other none. ap (λ p. why_at p other) same;
}

pub all_keep : (place : ℕ) (old new : Parking) → key_at old place ≡ None → MarksAll place old new →
    MarksAll (place + 1) old new
all_keep place old new none marks = record {
  keys = marks.keys;
  lines = marks.lines;
  long = marks.long;
  there = λ other key less some. elim (cases_eq other place) [
    | inl same ↦ let e : key_at old other ≡ None = ap (key_at old) same ∙ none in absurd (cc (e, some))
    | inr differ ↦ marks.there other key (omega arith) some
  ];
  elsewhere = marks.elsewhere;
}

pub all_more : (place : ℕ) (old new newer : Parking) (why : Why) → newer.keys ≡ new.keys → newer.lines ≡ new.lines →
    newer.why ≡ set new.why place why → why ≡ by_all → is_some (key_at old place) ≡ true → MarksAll place old new →
    MarksAll (place + 1) old newer
all_more place old new newer why keys lines whys all has marks = record {
  keys = keys ∙ marks.keys;
  lines = lines ∙ marks.lines;
  long = ap length whys ∙ length-set new.why place why ∙ marks.long;
  there = λ other key less some. elim (cases_eq other place) [
    | inl same ↦
        let w = within old.keys other key some in
        let long = marks.long in
        let low : place < length new.why = omega arith in
        ap (λ ws. get_or ws other not_due) whys ∙ ap (λ n. get_or (set new.why place why) n not_due) same
        ∙ marked_here new.why place why low ∙ all
    | inr differ ↦
        ap (λ ws. get_or ws other not_due) whys ∙ marked_there new.why place other why differ
        ∙ marks.there other key (omega arith) some
  ];
  elsewhere = λ other none.
      ap (λ ws. get_or ws other not_due) whys
      ∙ marked_there new.why place other why
      (λ same. false≢true (sym (ap is_some (sym (ap (key_at old) same) ∙ none)) ∙ has))
      ∙ marks.elsewhere other none;
}

pub all_noted : (place : ℕ) (old new : Parking) → length old.keys ≤ place → MarksAll place old new → NotesAll old new
all_noted place old new past marks = record {
  keys = marks.keys;
  lines = marks.lines;
  there = λ other key some. let w = within old.keys other key some in marks.there other key (omega arith) some;
  elsewhere = marks.elsewhere;
}

pub slot_none : (slot : ℕ) (old new : Parking) → new ≡ old → length old.why ≡ length old.keys → MarksSlot slot 0 old new
slot_none slot old new same long = record {
  keys = ap (λ p. p.keys) same;
  lines = ap (λ p. p.lines) same;
  long = ap (λ p. length p.why) same ∙ long;
  there = λ other key less some at. absurd (omega arith);
  later = λ other le. ap (λ p. why_at p other) same;
  elsewhere = λ other none. ap (λ p. why_at p other) same;
}

pub slot_keep : (slot place : ℕ) (old new : Parking) →
    ((key : Key) → key_at old place ≡ Some key → slot_in key ≢ Some slot) → MarksSlot slot place old new →
    MarksSlot slot (place + 1) old new
slot_keep slot place old new not_there marks = record {
  keys = marks.keys;
  lines = marks.lines;
  long = marks.long;
  there = λ other key less some at. elim (cases_eq other place) [
    | inl same ↦ absurd (not_there key (sym (ap (key_at old) same) ∙ some) at)
    | inr differ ↦ marks.there other key (omega arith) some at
  ];
  later = λ other le. marks.later other (omega arith);
  elsewhere = marks.elsewhere;
}

pub slot_more : (slot place : ℕ) (key : Key) (old new newer : Parking) → newer.keys ≡ new.keys →
    newer.lines ≡ new.lines → newer.why ≡ set new.why place (both (why_at new place) (why_changed key)) →
    key_at old place ≡ Some key → slot_in key ≡ Some slot → MarksSlot slot place old new →
    MarksSlot slot (place + 1) old newer
slot_more slot place key old new newer keys lines whys is at marks =
    let more : Why = both (why_at new place) (why_changed key) in record {
      keys = keys ∙ marks.keys;
      lines = lines ∙ marks.lines;
      long = ap length whys ∙ length-set new.why place (both (why_at new place) (why_changed key)) ∙ marks.long;
      there = λ other key' less some at'. elim (cases_eq other place) [
        | inl same ↦
            let w = within old.keys place key is in
            let long = marks.long in
            let low : place < length new.why = omega arith in
            let alike : key ≡ key' = let e = ap (key_at old) same in cc (is, some, e) in
            ap (λ ws. get_or ws other not_due) whys
            ∙ ap (λ n. get_or (set new.why place (both (why_at new place) (why_changed key))) n not_due) same
            ∙ marked_here new.why place (both (why_at new place) (why_changed key)) low
            ∙ ap (λ w. both w (why_changed key)) (marks.later place (omega arith) ∙ sym (ap (why_at old) same))
            ∙ ap (λ k. both (why_at old other) (why_changed k)) alike
        | inr differ ↦
            ap (λ ws. get_or ws other not_due) whys
            ∙ marked_there new.why place other (both (why_at new place) (why_changed key)) differ
            ∙ marks.there other key' (omega arith) some at'
      ];
      later = λ other le.
          ap (λ ws. get_or ws other not_due) whys
          ∙ marked_there new.why place other (both (why_at new place) (why_changed key)) (omega arith)
          ∙ marks.later other (omega arith);
      elsewhere = λ other none.
          ap (λ ws. get_or ws other not_due) whys
          ∙ marked_there new.why place other (both (why_at new place) (why_changed key))
          (λ same. none key (ap (key_at old) same ∙ is) at)
          ∙ marks.elsewhere other none;
    }

pub slot_noted : (slot place : ℕ) (old new : Parking) → length old.keys ≤ place → MarksSlot slot place old new →
    NotesChange slot old new
slot_noted slot place old new past marks = record {
  keys = marks.keys;
  lines = marks.lines;
  there = λ other key some at. let w = within old.keys other key some in marks.there other key (omega arith) some at;
  elsewhere = marks.elsewhere;
}

-- How often a place is in a line that its call's key names, or does not name.
in_line_none : (k : Option Key) (line : ℕ) → ((key : Key) → k ≡ Some key → line_of key ≢ line) → in_line k line ≡ 0
in_line_none None line other = refl
in_line_none (Some key) line other = ap (λ b. cond b 1 0) (ne_eqb (line_of key) line (other key refl))

pub in_line_has : (k : Option Key) (key : Key) (line : ℕ) → k ≡ Some key → line_of key ≡ line → in_line k line ≡ 1
in_line_has k key line is same = ap (λ o. in_line o line) is ∙ ap (λ b. cond b 1 0) (eq-eqb (line_of key) line same)

has_key : (k : Option Key) (line : ℕ) → 1 ≤ in_line k line → (key : Key) × (k ≡ Some key)
has_key None line one = absurd (omega arith)
has_key (Some key) line one = (key, refl)

again_false : (b : Bool) → ((b || false) || false) ≡ (b || false)
again_false true = refl
again_false false = refl

again_true : (b : Bool) → ((b || true) || true) ≡ (b || true)
again_true true = refl
again_true false = refl

-- One reason more, which was given before.
raised_again : (why : Why) → both (both why by_raise) by_raise ≡ both why by_raise
raised_again why =
    ap (λ c. record { changed = c; raised = (why.raised || true) || true }) (again_false why.changed)
    ∙ ap (λ r. record { changed = why.changed || false; raised = r }) (again_true why.raised)

-- Whether a place is another one, as a number.
pub is_one : (p x : ℕ) → p ≡ x → cond {A = ℕ} (p == x) 1 0 ≡ 1
is_one p x same = ap (λ (b : Bool). cond {A = ℕ} b 1 0) (eq-eqb p x same)

pub is_zero : (p x : ℕ) → p ≢ x → cond {A = ℕ} (p == x) 1 0 ≡ 0
is_zero p x differ = ap (λ (b : Bool). cond {A = ℕ} b 1 0) (ne_eqb p x differ)

-- One place more of a line.
one_more : (x : ℕ) (xs : List ℕ) (i place : ℕ) → item_at xs i ≡ Some place →
    times x (take (i + 1) xs) ≡ times x (take i xs) + cond (place == x) 1 0
one_more x xs i place is =
    let low = slice_get_within xs i place is in
    let e : get_or xs i 0 ≡ place = get_or_from_slice_get xs i place 0 is in
    sum_by_more (λ (y : ℕ). cond (y == x) 1 0) xs i 0 low ∙ ap (λ y. times x (take i xs) + cond (y == x) 1 0) e

past_item : (xs : List ℕ) (i : ℕ) → item_at xs i ≡ None → take (i + 1) xs ≡ take i xs
past_item xs i none = elim (cases_lt i (length xs)) [
  | inl low ↦ let some = slice_get-get_or xs i 0 low in absurd (cc (none, some))
  | inr past ↦ take_all (i + 1) xs (omega arith) ∙ sym (take_all i xs past)
]

pub line_none : (line : ℕ) (old new : Parking) → new ≡ old → length old.why ≡ length old.keys → AreInLines old →
    MarksLine line 0 old new
line_none line old new same long in_lines = record {
  keys = ap (λ p. p.keys) same;
  lines = ap (λ p. p.lines) same;
  long = ap (λ p. length p.why) same ∙ long;
  in_lines = in_lines;
  there = λ other one. absurd (omega arith);
  elsewhere = λ other zero. ap (λ p. why_at p other) same;
}

-- The place at an index of a line is within the places.
low : (line index place : ℕ) (old new : Parking) → item_at (line_at old line) index ≡ Some place →
    MarksLine line index old new → place < length new.why
low line index place old new is marks =
    let more = one_more place (line_at old line) index place is in
    let one = is_one place place refl in
    let part : times place (take (index + 1) (line_at old line)) ≤ times place (line_at old line) =
    sum_by-take-le (λ (y : ℕ). cond (y == place) 1 0) (line_at old line) (index + 1) in
    let count = marks.in_lines line place in
    let key = has_key (key_at old place) line (omega arith) in
    let inside = within old.keys place key.0 key.1 in
    let long = marks.long in
    omega arith

-- What the place at an index of a line is due for then.
here : (line index place : ℕ) (old new : Parking) → MarksLine line index old new →
    both (why_at new place) by_raise ≡ both (why_at old place) by_raise
here line index place old new marks = elim (cases_lt (times place (take index (line_at old line))) 1) [
  | inl none ↦ ap (λ w. both w by_raise) (marks.elsewhere place (omega arith))
  | inr some ↦ ap (λ w. both w by_raise) (marks.there place some) ∙ raised_again (why_at old place)
]

pub line_keep : (line index : ℕ) (old new : Parking) → item_at (line_at old line) index ≡ None →
    MarksLine line index old new → MarksLine line (index + 1) old new
line_keep line index old new none marks =
    let same : take (index + 1) (line_at old line) ≡ take index (line_at old line) =
    past_item (line_at old line) index none in record {
      keys = marks.keys;
      lines = marks.lines;
      long = marks.long;
      in_lines = marks.in_lines;
      there = λ other one. let e = ap (times other) same in marks.there other (omega (arith, e));
      elsewhere = λ other zero. let e = ap (times other) same in marks.elsewhere other (omega (arith, e));
    }

pub line_more : (line index place : ℕ) (old new newer : Parking) → newer.keys ≡ new.keys →
    newer.lines ≡ new.lines → newer.why ≡ set new.why place (both (why_at new place) by_raise) →
    item_at (line_at old line) index ≡ Some place → MarksLine line index old new →
    MarksLine line (index + 1) old newer
line_more line index place old new newer keys lines whys is marks = record {
  keys = keys ∙ marks.keys;
  lines = lines ∙ marks.lines;
  long = ap length whys ∙ length-set new.why place (both (why_at new place) by_raise) ∙ marks.long;
  in_lines = marks.in_lines;
  there = λ other one. elim (cases_eq other place) [
    | inl same ↦
        ap (λ ws. get_or ws other not_due) whys
        ∙ ap (λ n. get_or (set new.why place (both (why_at new place) by_raise)) n not_due) same
        ∙ marked_here new.why place (both (why_at new place) by_raise) (low line index place old new is marks)
        ∙ here line index place old new marks
        ∙ ap (λ n. both (why_at old n) by_raise) (sym same)
    | inr differ ↦
        ap (λ ws. get_or ws other not_due) whys
        ∙ marked_there new.why place other (both (why_at new place) by_raise) differ
        ∙ marks.there other
        (let e = one_more other (line_at old line) index place is in
        let z = is_zero place other (λ q. differ (sym q)) in
        omega arith)
  ];
  elsewhere = λ other none.
      let e = one_more other (line_at old line) index place is in
      ap (λ ws. get_or ws other not_due) whys
      ∙ marked_there new.why place other (both (why_at new place) by_raise)
      (λ same.
      let o = is_one place other (sym same) in
      omega arith)
      ∙ marks.elsewhere other (omega arith);
}

pub line_noted : (line index : ℕ) (old new : Parking) → length (line_at old line) ≤ index →
    MarksLine line index old new → NotesLine line old new
line_noted line index old new past marks =
    let all : take index (line_at old line) ≡ line_at old line = take_all index (line_at old line) past in record {
      keys = marks.keys;
      lines = marks.lines;
      there = λ other key some same.
          let count = marks.in_lines line other in
          let one = in_line_has (key_at old other) key line some same in
          let t : times other (take index (line_at old line)) ≡ times other (line_at old line) = ap (times other) all in
          marks.there other (omega arith);
      elsewhere = λ other none.
          let count = marks.in_lines line other in
          let zero = in_line_none (key_at old other) line none in
          let t : times other (take index (line_at old line)) ≡ times other (line_at old line) = ap (times other) all in
          marks.elsewhere other (omega arith);
    }

pub is_none : {A : Type 0} (o : Option A) → is_some o ≡ false → o ≡ None
is_none None false_is = refl
is_none (Some x) false_is = absurd (cc false_is)

or_true : (b : Bool) → (b || true) ≡ true
or_true true = refl
or_true false = refl

-- All reasons, with whatever others.
pub all_twice : (why : Why) → both why by_all ≡ by_all
all_twice why =
    ap (λ c. record { changed = c; raised = why.raised || true }) (or_true why.changed)
    ∙ ap (λ r. record { changed = true; raised = r }) (or_true why.raised)
