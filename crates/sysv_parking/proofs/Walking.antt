-- A walk along a line of parked calls.
use Rattle.std.proofs.Common.{◌≡◌, ◌≢◌, ◌∙◌, ◌==◌, ℕ, ℤ, zero, suc, ◌+◌, ◌<◌, ◌≤◌, ◌⊎◌, List, [], ◌∷◌, length, get_or}
use Rattle.std.proofs.Common.{Option, None, Some, Bool, true, false, not, cond, zero-add, inl, inr, sym, ap, subst}
use Rattle.std.proofs.Common.{refl, arith}
use Rattle.std.specs.Prelude.{slice_get}
use Rattle.std.proofs.lemmas.Bool.{cases_eq}
use Rattle.std.proofs.lemmas.Bool.Decides.{nat_tests}
use Rattle.std.proofs.lemmas.Option.{get_or_from_slice_get, slice_get_cases}
use Rattle.sysv_lists.specs.Numbers.{times}
use Rattle.sysv_lists.proofs.Counting.{times-append, times-one}
use Rattle.sysv_parking.specs.declared.key.Key.{Key}
use Rattle.sysv_model.specs.declared.selector.Selector.{Selector}
use Rattle.sysv_model.specs.declared.selector.Selector.TheVariants.{Any, Exactly, Except, UpTo}
use Rattle.sysv_keys.specs.Identifier.{slot_of_id}
use Rattle.sysv_rules.specs.Qualifies.{Qualifies}
use Rattle.sysv_parking.specs.declared.key.Key.TheVariants.{Message, Room, Blocks, Settled}
use Rattle.sysv_parking.specs.Keys.{Names, line_any, line_except, line_exact, line_for, line_of, line_up_to}
use Rattle.sysv_parking.specs.Looks.{IsNaming, IsUnwanted, IsUnwantedIn, OnlyEnds}
use Rattle.sysv_parking.specs.Parking.{AreInLines, MovesOnly, Parking, in_line, item_at, key_at, line_at, without}

differs : (x p : ℕ) → x ≢ p → (x == p) ≡ false
differs x p ne = grind (arith, nat_tests)

equals : (x p : ℕ) → x ≡ p → (x == p) ≡ true
equals x p e = grind (arith, nat_tests)

times_cons : (x p : ℕ) (xs : List ℕ) → times p (x ∷ xs) ≡ cond (x == p) 1 0 + times p xs
times_cons x p xs = times-append p (x ∷ []) xs ∙ ap (λ (n : ℕ). n + times p xs) (times-one p x)

times_other : (x p : ℕ) (xs : List ℕ) → x ≢ p → times p (x ∷ xs) ≡ times p xs
times_other x p xs ne =
    times_cons x p xs ∙ ap (λ (b : Bool). cond b 1 0 + times p xs) (differs x p ne) ∙ zero-add (times p xs)

times_same : (x p : ℕ) (xs : List ℕ) → x ≡ p → times p (x ∷ xs) ≡ suc (times p xs)
times_same x p xs e =
    let one : 1 + times p xs ≡ suc (times p xs) = omega arith in
    times_cons x p xs ∙ ap (λ (b : Bool). cond b 1 0 + times p xs) (equals x p e) ∙ one

-- A number that is in a list has an index.
pub has_index : (xs : List ℕ) (p : ℕ) → 1 ≤ times p xs → (j : ℕ) × (j < length xs) × (get_or xs j 0 ≡ p)
has_index [] p has = absurd (omega arith)
has_index (x ∷ xs) p has =
    elim (cases_eq x p) [
      | inl e ↦ (0, omega arith, e)
      | inr ne ↦
          let found = has_index xs p (subst (λ (n : ℕ). 1 ≤ n) (times_other x p xs ne) has) in
          (suc found.0, (let low = found.1 in omega arith), found.2)
    ]

-- A list is the same without a number that is not in it.
pub without_none : (xs : List ℕ) (p : ℕ) → times p xs ≡ 0 → without p xs ≡ xs
without_none [] p none = refl
without_none (x ∷ xs) p none =
    elim (cases_eq x p) [
      | inl e ↦ absurd (let has = sym (times_same x p xs e) ∙ none in omega arith)
      | inr ne ↦
          let d = differs x p ne in
          let rest = sym (times_other x p xs ne) ∙ none in
          ap (λ (b : Bool). cond (not b) (x ∷ without p xs) (without p xs)) d
          ∙ ap (λ (ys : List ℕ). x ∷ ys) (without_none xs p rest)
    ]

-- What comes before the first place is where it was.
pub without_before : (xs : List ℕ) (p j : ℕ) → ((i : ℕ) → i ≤ j → get_or xs i 0 ≢ p) →
    get_or (without p xs) j 0 ≡ get_or xs j 0
without_before [] p j other = refl
without_before (x ∷ xs) p zero other =
    ap (λ (b : Bool). get_or (cond (not b) (x ∷ without p xs) (without p xs)) 0 0) (differs x p (other 0 (omega arith)))
without_before (x ∷ xs) p (suc j) other =
    ap (λ (b : Bool). get_or (cond (not b) (x ∷ without p xs) (without p xs)) (suc j) 0)
    (differs x p (other 0 (omega arith)))
    ∙ without_before xs p j (λ i le. other (suc i) (omega arith))

past_end : (xs : List ℕ) (i : ℕ) → slice_get xs i ≡ None → length xs ≤ i
past_end xs i none =
    elim (slice_get_cases xs i).1 [ inl within ↦ absurd (let some = sym none ∙ within.2 in cc) | inr past ↦ past.0 ]

-- At the end of a line, none of its calls requests messages of this type.
pub none_left : (now : Parking) (line slot : ℕ) (mtype : ℤ) (index : ℕ) → AreInLines now →
    item_at (line_at now line) index ≡ None → ((j : ℕ) → j < index → (key : Key) →
    key_at now (get_or (line_at now line) j 0) ≡ Some key → Names slot mtype key → ⊥) →
    IsUnwantedIn line_of line now slot mtype
none_left now line slot mtype index in_lines over passed place key is at names =
    let once : times place (line_at now line) ≡ in_line (Some key) line =
    in_lines line place ∙ ap (λ (k : Option Key). in_line k line) is in
    let one : in_line (Some key) line ≡ 1 = ap (λ (b : Bool). cond b 1 0) (equals (line_of key) line at) in
    let has : times place (line_at now line) ≡ 1 = once ∙ one in
    let found = has_index (line_at now line) place (omega arith) in
    passed found.0 (let low = found.1 in let end = past_end (line_at now line) index over in omega arith) key
    (ap (λ (p : ℕ). key_at now p) found.2 ∙ is) names

-- The calls before this index are none that request messages of this type.
abbrev pub ArePassed : Parking → ℕ → ℕ → ℤ → ℕ → Type 0
ArePassed now line slot mtype index = (j : ℕ) → j < index → (key : Key) →
    key_at now (get_or (line_at now line) j 0) ≡ Some key → Names slot mtype key → ⊥

module _ (now : Parking) (line slot : ℕ) (mtype : ℤ) (index place : ℕ)
    (there : item_at (line_at now line) index ≡ Some place) (passed : ArePassed now line slot mtype index) where
  at_index : get_or (line_at now line) index 0 ≡ place
  at_index = get_or_from_slice_get (line_at now line) index place 0 there

  -- One more does not request one.
  pub passed_more : (bound : ℕ) → bound ≤ index + 1 → (IsNaming slot mtype (key_at now place) → ⊥) →
      ArePassed now line slot mtype bound
  passed_more bound le not_naming j low key is names =
      elim (cases_eq j index) [
        | inl e ↦
            let same : get_or (line_at now line) j 0 ≡ place =
            ap (λ (i : ℕ). get_or (line_at now line) i 0) e ∙ at_index in
            let key_is : key_at now place ≡ Some key = sym (ap (λ (p : ℕ). key_at now p) same) ∙ is in
            not_naming (subst (λ (k : Option Key). IsNaming slot mtype k) (sym key_is) names)
        | inr ne ↦ passed j (omega arith) key is names
      ]

  named_not_passed : (q : ℕ) (key : Option Key) → key_at now q ≡ key → IsNaming slot mtype key →
      ((k : Key) → key_at now q ≡ Some k → Names slot mtype k → ⊥) → ⊥
  named_not_passed q None is naming none = naming
  named_not_passed q (Some key) is naming none = none key is naming

  module _ (after : Parking) (naming : IsNaming slot mtype (key_at now place)) (moves : MovesOnly place now after)
      (over : key_at after place ≡ None) (in_lines : AreInLines after) where
    others : (j : ℕ) → j < index → get_or (line_at now line) j 0 ≢ place
    others j low e = named_not_passed place (key_at now place) refl naming
        (λ k is. passed j low k (ap (λ (p : ℕ). key_at now p) e ∙ is))

    gone : times place (line_at after line) ≡ 0
    gone = in_lines line place ∙ ap (λ (k : Option Key). in_line k line) over

    line_after : line_at after line ≡ without place (line_at now line)
    line_after = sym (without_none (line_at after line) place gone) ∙ moves.lines line

    same_before : (j : ℕ) → j < index → get_or (line_at after line) j 0 ≡ get_or (line_at now line) j 0
    same_before j low = ap (λ (ys : List ℕ). get_or ys j 0) line_after
        ∙ without_before (line_at now line) place j (λ i le. others i (omega arith))

    -- One that requested one is over.
    pub passed_after : ArePassed after line slot mtype index
    passed_after j low key is names =
        let q = get_or (line_at now line) j 0 in
        let here : key_at after q ≡ Some key = sym (ap (λ (p : ℕ). key_at after p) (same_before j low)) ∙ is in
        passed j low key (sym (moves.keys q (others j low)) ∙ here) names

    pub ends_after : (was : Parking) → OnlyEnds was now → OnlyEnds was after
    ends_after was ends q key is =
        elim (cases_eq q place) [
          | inl e ↦ absurd (let none = sym over ∙ sym (ap (λ (p : ℕ). key_at after p) e) ∙ is in cc)
          | inr ne ↦ ends q key (sym (moves.keys q ne) ∙ is)
        ]

-- The line of a receive that requests messages of this type is one of four.
for_selector : (slot : ℕ) (mtype : ℤ) (selector : Selector) → Qualifies selector mtype →
    (line_for slot selector ≡ line_exact slot mtype) ⊎ ((line_for slot selector ≡ line_any slot)
    ⊎ ((line_for slot selector ≡ line_up_to slot) ⊎ (line_for slot selector ≡ line_except slot)))
for_selector slot mtype Any qualifies = inr (inl refl)
for_selector slot mtype (Exactly asked) qualifies = inl (ap (λ (t : ℤ). line_exact slot t) (sym qualifies))
for_selector slot mtype (Except refused) qualifies = inr (inr (inr refl))
for_selector slot mtype (UpTo bound) qualifies = inr (inr (inl refl))

in_one_of : (slot : ℕ) (mtype : ℤ) (key : Key) → Names slot mtype key →
    (line_of key ≡ line_exact slot mtype) ⊎ ((line_of key ≡ line_any slot)
    ⊎ ((line_of key ≡ line_up_to slot) ⊎ (line_of key ≡ line_except slot)))
in_one_of slot mtype (Message caller selector) names = subst (λ (s : ℕ).
    (line_for (slot_of_id caller.id) selector ≡ line_exact s mtype)
    ⊎ ((line_for (slot_of_id caller.id) selector ≡ line_any s)
    ⊎ ((line_for (slot_of_id caller.id) selector ≡ line_up_to s)
    ⊎ (line_for (slot_of_id caller.id) selector ≡ line_except s)))) names.0
    (for_selector (slot_of_id caller.id) mtype selector names.1)
in_one_of slot mtype (Room caller length) names = absurd names
in_one_of slot mtype (Blocks caller length) names = absurd names
in_one_of slot mtype Settled names = absurd names

-- None is left once none was in each of the four lines.
pub unwanted_in_all : (slot : ℕ) (mtype : ℤ) (first second third last : Parking) →
    IsUnwantedIn line_of (line_exact slot mtype) first slot mtype →
    IsUnwantedIn line_of (line_any slot) second slot mtype → OnlyEnds first second →
    IsUnwantedIn line_of (line_up_to slot) third slot mtype → OnlyEnds second third →
    IsUnwantedIn line_of (line_except slot) last slot mtype → OnlyEnds third last → IsUnwanted last slot mtype
unwanted_in_all slot mtype first second third last one two ends-two three ends-three four ends-four place key is names =
    let in-three = ends-four place key is in
    let in-two = ends-three place key in-three in
    let in-one = ends-two place key in-two in
    elim (in_one_of slot mtype key names) [
      | inl e ↦ one place key in-one e names
      | inr rest ↦ elim rest [
        | inl e ↦ two place key in-two e names
        | inr more ↦ elim more [
          | inl e ↦ three place key in-three e names
          | inr e ↦ four place key is e names
        ]
      ]
    ]
