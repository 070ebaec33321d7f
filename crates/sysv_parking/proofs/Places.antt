-- The places in the lines of parked calls, as one is put into a line or taken out.
use Rattle.std.proofs.Common.{◌≡◌, ◌≢◌, ◌∙◌, ℕ, ◌+◌, ◌*◌, ◌<◌, ◌≤◌, ◌==◌, cond, not, Bool, true, List, [], ◌∷◌, ◌++◌}
use Rattle.std.proofs.Common.{Option, None, Some, length, map, get_or, set, take, drop, zero, suc, refl, sym, ap, arith}
use Rattle.std.proofs.Common.{subst, inl, inr, get_or-set_same, get_or-set_other, drop-cons}
use Rattle.std.specs.List.{count_by, remove}
use Rattle.std.proofs.lemmas.Bool.{cases_Bool, cases_eq, cases_lt, eq-eqb, ne_eqb}
use Rattle.std.proofs.lemmas.List.{append-nil, get_or-map, get_or-replicate, get_or_past, length-map, length-replicate}
use Rattle.std.proofs.lemmas.List.{map-set, set-get_or, take-append-drop}
use Rattle.std.specs.Option.{OnSome}
use Rattle.std.specs.Prelude.{replicate}
use Rattle.std.proofs.lemmas.List.Folds.{sum_by-replicate}
use Rattle.std.proofs.lemmas.List.Elements.{filter-append}
use Rattle.std.proofs.lemmas.List.Sums.{sum_by-cons, sum_by-remove}
use Rattle.sysv_lists.specs.Numbers.{times}
use Rattle.sysv_lists.proofs.Counting.{times-snoc}
use Rattle.sysv_parking.specs.declared.due.Why.{Why}
use Rattle.sysv_parking.specs.Due.{is_due, not_due}
use Rattle.sysv_parking.specs.declared.key.Key.{Key}
use Rattle.sysv_parking.specs.Keys.{line_of}
use Rattle.sysv_parking.specs.Parking.{in_line, without}
use Rattle.sysv_parking.specs.Places.{Appends, EachIsEmpty, IsAt, IsNowhere, Removes, TakesOut}
use Rattle.sysv_parking.proofs.Marks.{in_line_has, is_one, is_zero}

-- A place that is at no index of a line is not in it.
pub none_there : (place : ℕ) (xs : List ℕ) → IsNowhere place xs → times place xs ≡ 0
none_there place [] nowhere = refl
none_there place (x ∷ xs) nowhere =
    let e = sum_by-cons (λ (y : ℕ). cond {A = ℕ} (y == place) 1 0) x xs in
    let z = is_zero x place (nowhere 0 (omega arith)) in
    let rest = none_there place xs (λ index less same. nowhere (suc index) (omega arith) same) in
    omega arith

-- A line from which a place is taken that is not there.
pub takes_none : (place : ℕ) (xs : List ℕ) → IsNowhere place xs → TakesOut place xs xs
takes_none place xs nowhere = record {
  rest = refl;
  others = λ other differ. refl;
  once = λ one. let none = none_there place xs nowhere in absurd (omega arith);
}

without_here : (place : ℕ) (xs : List ℕ) (i : ℕ) → IsAt place xs i →
    without place (drop i xs) ≡ without place (drop (suc i) xs)
without_here place xs i there =
    ap (without place) (drop-cons xs i 0 there.0)
    ∙ ap (λ (b : Bool).
    cond (not b) (get_or xs i 0 ∷ without place (drop (suc i) xs)) (without place (drop (suc i) xs)))
    (eq-eqb (get_or xs i 0) place there.1)

without_one : (place : ℕ) (xs : List ℕ) (i : ℕ) → IsAt place xs i → without place (remove xs i) ≡ without place xs
without_one place xs i there =
    filter-append (λ (x : ℕ). not (x == place)) (take i xs) (drop (suc i) xs)
    ∙ ap (λ ys. without place (take i xs) ++ ys) (sym (without_here place xs i there))
    ∙ sym (filter-append (λ (x : ℕ). not (x == place)) (take i xs) (drop i xs))
    ∙ ap (without place) (take-append-drop i xs)

-- A line without the element at an index.
pub takes_one : (place : ℕ) (xs : List ℕ) (i : ℕ) → IsAt place xs i → TakesOut place xs (remove xs i)
takes_one place xs i there = record {
  rest = without_one place xs i there;
  others = λ other differ.
      let e = sum_by-remove (λ (y : ℕ). cond {A = ℕ} (y == other) 1 0) xs i 0 there.0 in
      let z = is_zero (get_or xs i 0) other (λ same. differ (sym same ∙ there.1)) in
      omega arith;
  once = λ one.
      let e = sum_by-remove (λ (y : ℕ). cond {A = ℕ} (y == place) 1 0) xs i 0 there.0 in
      let o = is_one (get_or xs i 0) place there.1 in
      omega arith;
}

-- The place at the end of a list is none of the others.
pub without_last : (place : ℕ) (xs : List ℕ) → without place (xs ++ place ∷ []) ≡ without place xs
without_last place xs =
    filter-append (λ (x : ℕ). not (x == place)) xs (place ∷ [])
    ∙ ap (λ (b : Bool). without place xs ++ cond (not b) (place ∷ []) []) (eq-eqb place place refl)
    ∙ append-nil (without place xs)

-- No line, and one empty line more.
pub empty_push : (lines : List (List ℕ)) (line : List ℕ) → EachIsEmpty lines → line ≡ [] →
    EachIsEmpty (lines ++ line ∷ [])
empty_push [] line each none zero = none
empty_push [] line each none (suc n) = refl
empty_push (x ∷ lines) line each none zero = each zero
empty_push (x ∷ lines) line each none (suc n) = empty_push lines line (λ k. each (suc k)) none n

-- What becomes of the lines as a place is put into the line of its key.
module _ (keys : List (Option Key)) (lines : List (List ℕ)) (place : ℕ) (key : Key) where
  -- The line of the key, with the place at its end.
  abbrev longer : List ℕ
  longer = get_or lines (line_of key) [] ++ place ∷ []

  here : (line : ℕ) → line ≡ line_of key → line_of key < length lines →
      get_or (set lines (line_of key) longer) line [] ≡ longer
  here line same wide =
      ap (λ n. get_or (set lines (line_of key) longer) n []) same
      ∙ get_or-set_same lines (line_of key) longer [] wide

  key_here : place < length keys → (p : ℕ) → p ≡ place → get_or (set keys place (Some key)) p None ≡ Some key
  key_here low p this =
      ap (λ n. get_or (set keys place (Some key)) n None) this ∙ get_or-set_same keys place (Some key) None low

  same_sum : {a b : ℕ} → a ≡ b → a + 0 ≡ b
  same_sum e = omega arith

  at_it : place < length keys → line_of key < length lines → get_or keys place None ≡ None →
      ((line p : ℕ) → times p (get_or lines line []) ≡ in_line (get_or keys p None) line) →
      (line p : ℕ) → line ≡ line_of key → p ≡ place → times p (get_or (set lines (line_of key) longer) line [])
      ≡ in_line (get_or (set keys place (Some key)) p None) line
  at_it low wide none in_lines line p same this =
      let e : times p (get_or (set lines (line_of key) longer) line []) ≡ times p longer =
      ap (times p) (here line same wide) in
      let snoc = times-snoc p (get_or lines (line_of key) []) place in
      let one = is_one place p (sym this) in
      let was = in_lines (line_of key) p in
      let zero_was : in_line (get_or keys p None) (line_of key) ≡ 0 =
      ap (λ n. in_line (get_or keys n None) (line_of key)) this ∙ ap (λ k. in_line k (line_of key)) none in
      let now = in_line_has (get_or (set keys place (Some key)) p None) key line
      (key_here low p this) (sym same) in
      omega arith

  pub entered_in_lines : place < length keys → line_of key < length lines → get_or keys place None ≡ None →
      ((line p : ℕ) → times p (get_or lines line []) ≡ in_line (get_or keys p None) line) →
      (line p : ℕ) → times p (get_or (set lines (line_of key) longer) line [])
      ≡ in_line (get_or (set keys place (Some key)) p None) line
  entered_in_lines low wide none in_lines line p = elim (cases_eq line (line_of key)) [
    | inl same ↦ elim (cases_eq p place) [
      | inl this ↦ at_it low wide none in_lines line p same this
      | inr other ↦ ap (times p) (here line same wide) ∙ times-snoc p (get_or lines (line_of key) []) place
          ∙ ap (λ n. times p (get_or lines (line_of key) []) + n) (is_zero place p (λ q. other (sym q)))
          ∙ same_sum (in_lines (line_of key) p)
          ∙ ap (λ l. in_line (get_or keys p None) l) (sym same)
          ∙ sym (ap (λ k. in_line k line) (get_or-set_other keys place p (Some key) None other))
    ]
    | inr differ ↦ ap (times p) (get_or-set_other lines (line_of key) line longer [] differ)
        ∙ in_lines line p
        ∙ elim (cases_eq p place) [
          | inl this ↦ ap (λ n. in_line (get_or keys n None) line) this ∙ ap (λ k. in_line k line) none
              ∙ sym (ap (λ (b : Bool). cond {A = ℕ} b 1 0) (ne_eqb (line_of key) line (λ q. differ (sym q))))
              ∙ sym (ap (λ k. in_line k line) (key_here low p this))
          | inr other ↦ sym (ap (λ k. in_line k line) (get_or-set_other keys place p (Some key) None other))
        ]
  ]

  pub entered_without : (line : ℕ) → line_of key < length lines →
      without place (get_or (set lines (line_of key) longer) line []) ≡ without place (get_or lines line [])
  entered_without line wide = elim (cases_eq line (line_of key)) [
    | inl same ↦ ap (without place) (here line same wide) ∙ without_last place (get_or lines (line_of key) [])
        ∙ ap (λ n. without place (get_or lines n [])) (sym same)
    | inr differ ↦ ap (without place) (get_or-set_other lines (line_of key) line longer [] differ)
  ]

-- What becomes of the lines as a place is taken out of the line of its key.
module _ (keys : List (Option Key)) (lines new : List (List ℕ)) (place : ℕ) (key : Key)
    (removes : Removes (line_of key) place lines new) where
  key_gone : place < length keys → (p : ℕ) → p ≡ place → get_or (set keys place None) p None ≡ None
  key_gone low p this = ap (λ n. get_or (set keys place None) n None) this ∙ get_or-set_same keys place None None low

  left_it : place < length keys → get_or keys place None ≡ Some key →
      ((line p : ℕ) → times p (get_or lines line []) ≡ in_line (get_or keys p None) line) →
      (line p : ℕ) → p ≡ place → times p (get_or new line []) ≡ in_line (get_or (set keys place None) p None) line
  left_it low some in_lines line p this =
      ap (λ n. times n (get_or new line [])) this
      ∙ elim (cases_eq line (line_of key)) [
        | inl same ↦ ap (λ l. times place (get_or new l [])) same
            ∙ removes.there.once
            (in_lines (line_of key) place ∙ in_line_has (get_or keys place None) key (line_of key) some refl)
        | inr differ ↦ ap (times place) (removes.elsewhere line differ) ∙ in_lines line place
            ∙ ap (λ k. in_line k line) some
            ∙ ap (λ (b : Bool). cond {A = ℕ} b 1 0) (ne_eqb (line_of key) line (λ q. differ (sym q)))
      ]
      ∙ sym (ap (λ k. in_line k line) (key_gone low p this))

  pub left_in_lines : place < length keys → get_or keys place None ≡ Some key →
      ((line p : ℕ) → times p (get_or lines line []) ≡ in_line (get_or keys p None) line) →
      (line p : ℕ) → times p (get_or new line []) ≡ in_line (get_or (set keys place None) p None) line
  left_in_lines low some in_lines line p = elim (cases_eq p place) [
    | inl this ↦ left_it low some in_lines line p this
    | inr other ↦ elim (cases_eq line (line_of key)) [
      | inl same ↦ ap (λ l. times p (get_or new l [])) same ∙ removes.there.others p other
          ∙ ap (λ l. times p (get_or lines l [])) (sym same)
      | inr differ ↦ ap (times p) (removes.elsewhere line differ)
    ] ∙ in_lines line p ∙ sym (ap (λ k. in_line k line) (get_or-set_other keys place p None None other))
  ]

  pub left_without : (line : ℕ) → without place (get_or new line []) ≡ without place (get_or lines line [])
  left_without line = elim (cases_eq line (line_of key)) [
    | inl same ↦ ap (λ l. without place (get_or new l [])) same ∙ removes.there.rest
        ∙ ap (λ l. without place (get_or lines l [])) (sym same)
    | inr differ ↦ ap (without place) (removes.elsewhere line differ)
  ]

-- What becomes of the lines as one of them changes.
module _ {X : Type 0} (f : X → List ℕ) (lines : List X) (line place : ℕ) (it new : X) (low : line < length lines)
    (is : it ≡ get_or lines line it) where
  at_line : get_or (map f lines) line [] ≡ f it
  at_line = get_or-map f lines line it [] low ∙ ap f (sym is)

  after : map f (set lines line new) ≡ set (map f lines) line (f new)
  after = map-set f lines line new

  at_line_after : get_or (map f (set lines line new)) line [] ≡ f new
  at_line_after = ap (λ ls. get_or ls line []) after
      ∙ get_or-set_same (map f lines) line (f new) [] (let e = length-map lines f in omega arith)

  pub removes_at : TakesOut place (f it) (f new) → Removes line place (map f lines) (map f (set lines line new))
  removes_at takes = record {
    elsewhere = λ other differ.
        ap (λ ls. get_or ls other []) after ∙ get_or-set_other (map f lines) line other (f new) [] differ;
    there = subst (λ xs. TakesOut place xs (get_or (map f (set lines line new)) line [])) (sym at_line)
        (subst (λ ys. TakesOut place (f it) ys) (sym at_line_after) takes);
  }

  pub appends_at : f new ≡ f it ++ place ∷ [] → Appends line place (map f lines) (map f (set lines line new))
  appends_at e = record {
    there = let l = length-map lines f in omega arith;
    lines = after ∙ ap (set (map f lines) line) (e ∙ ap (λ xs. xs ++ place ∷ []) (sym at_line));
  }

  pub same_at : f new ≡ f it → map f (set lines line new) ≡ map f lines
  same_at e = after ∙ ap (set (map f lines) line) (e ∙ sym at_line) ∙ set-get_or (map f lines) line []

-- A line that is not there is empty, and nothing is taken out of it.
pub removes_none : (line place : ℕ) (lines : List (List ℕ)) → length lines ≤ line → Removes line place lines lines
removes_none line place lines past = record {
  elsewhere = λ other differ. refl;
  there = record {
    rest = refl;
    others = λ other differ. refl;
    once = λ one.
        let none : times place (get_or lines line []) ≡ 0 = ap (times place) (get_or_past lines line [] past) in
        absurd (omega arith);
  };
}

pub on_some : {A : Type 0} {P : Type 0} (r : Option A) (x : A) → r ≡ Some x → OnSome r P → P
on_some None x is on = absurd (cc is)
on_some (Some y) x is on = on

-- Lines of which each is empty, and places of which none has a key or is due.
all_same : {A : Type 0} (n i : ℕ) (a : A) → get_or (replicate n a) i a ≡ a
all_same n i a = elim (cases_lt i n) [
  | inl low ↦ get_or-replicate n i a a low
  | inr past ↦ get_or_past (replicate n a) i a (let e = length-replicate n a in omega arith)
]

pub all_default : {A : Type 0} (xs : List A) (n i : ℕ) (a : A) → xs ≡ replicate n a → get_or xs i a ≡ a
all_default xs n i a is = ap (λ ys. get_or ys i a) is ∙ all_same n i a

pub empty_in_lines : (keys : List (Option Key)) (lines : List (List ℕ)) (n : ℕ) → keys ≡ replicate n None →
    EachIsEmpty lines → (line p : ℕ) → times p (get_or lines line []) ≡ in_line (get_or keys p None) line
empty_in_lines keys lines n is each line p =
    ap (times p) (each line) ∙ sym (ap (λ k. in_line k line) (all_default keys n p None is))

pub none_counted : (why : List Why) (n : ℕ) → why ≡ replicate n not_due → 0 ≡ count_by is_due why
none_counted why n is = let e : count_by is_due why ≡ n * 0 =
    ap (count_by is_due) is ∙ sum_by-replicate (λ (w : Why). cond {A = ℕ} (is_due w) 1 0) n not_due in omega arith

pub set_elsewhere : {A : Type 0} (xs : List A) (i j : ℕ) (new d : A) → j ≢ i → get_or (set xs i new) j d ≡ get_or xs j d
set_elsewhere xs i j new d differ = get_or-set_other xs i j new d differ

-- A place is due if any is counted.
pub some_counted : (why : List Why) → 0 < count_by is_due why → (place : ℕ) × (is_due (get_or why place not_due) ≡ true)
some_counted [] some = absurd (omega arith)
some_counted (w ∷ why) some = elim (cases_Bool (is_due w)) [
  | inl this ↦ (0, this)
  | inr other ↦
      let e = sum_by-cons (λ (x : Why). cond {A = ℕ} (is_due x) 1 0) w why in
      let z : cond {A = ℕ} (is_due w) 1 0 ≡ 0 = ap (λ (b : Bool). cond {A = ℕ} b 1 0) other in
      let rest = some_counted why (omega arith) in
      (suc rest.0, rest.1)
]
