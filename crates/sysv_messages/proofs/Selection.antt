-- The message that a selector names, found among entries by type.
use Rattle.std.proofs.Common.{◌≡◌, ◌≢◌, ℕ, ◌+◌, ◌<◌, ◌≤◌, ◌<ℤ◌, ◌≤ℤ◌, ℤ, pos, List, [], ◌∷◌, Option, Some, None}
use Rattle.std.proofs.Common.{MatchOption, length, sym, ap, subst, ◌∙◌, ◌⊎◌, inl, inr, arith}
use Rattle.std.specs.List.{slice_get}
use Rattle.std.proofs.lemmas.Bool.{cases_lt}
use Rattle.std.proofs.lemmas.Int.{ints}
use Rattle.std.proofs.lemmas.List.{get_or-map, length-map}
use Rattle.std.proofs.lemmas.Option.{slice_get_within, get_or_from_slice_get}
use Rattle.sysv_model.specs.declared.selector.Selector.{Selector}
use Rattle.sysv_model.specs.declared.selector.Selector.TheVariants.{Any, Exactly, Except, UpTo}
use Rattle.sysv_rules.specs.Qualifies.{Qualifies, QualifiesAt, NoneQualifies, type_at}
use Rattle.sysv_messages.specs.declared.entry.Entry.{Entry}
use Rattle.sysv_messages.specs.Entries.{IsBefore, IsIndex, types_of}
use Rattle.sysv_messages.specs.Selected.{IsSelected, IsLowest, NoneLow, IsFirstOf, NoneOf}
use Rattle.sysv_messages.proofs.EntryLists.{there_is, one_there, at_place, at_places}
use Rattle.sysv_messages.proofs.Changes.{known_at, held_at}

-- The type at a place of the entries in the order of their numbers.
pub type_there : (entries : List Entry) (p : ℕ) (e : Entry) → slice_get entries p ≡ Some e →
    type_at (types_of entries) p ≡ e.mtype
type_there entries p e there =
    get_or-map (λ (o : Entry). o.mtype) entries p e (pos 0) (slice_get_within entries p e there)
    ∙ ap (λ (o : Entry). o.mtype) (get_or_from_slice_get entries p e e there)

pub qualifies_there : (sel : Selector) (entries : List Entry) (p : ℕ) (e : Entry) → slice_get entries p ≡ Some e →
    Qualifies sel e.mtype → QualifiesAt sel (types_of entries) p
qualifies_there sel entries p e there q =
    let long = length-map entries (λ (o : Entry). o.mtype) in
    let within = slice_get_within entries p e there in
    (omega arith, subst (λ t. Qualifies sel t) (sym (type_there entries p e there)) q)

pub entry_there : (entries : List Entry) (p : ℕ) → p < length (types_of entries) →
    (e : Entry) × (slice_get entries p ≡ Some e) × (type_at (types_of entries) p ≡ e.mtype)
entry_there entries p within =
    let long = length-map entries (λ (o : Entry). o.mtype) in
    let w = there_is entries p (omega arith) in
    (w.0, w.1, type_there entries p w.0 w.1)

not_lower : (e o : Entry) → (e ≡ o) ⊎ IsBefore e o → ¬ (o.mtype <ℤ e.mtype)
not_lower e o (inl same) h = let t = ap (λ (z : Entry). z.mtype) same in omega (arith, ints)
not_lower e o (inr (inl lower)) h = omega (arith, ints)
not_lower e o (inr (inr equal)) h = let t = equal.0 in omega (arith, ints)

not_earlier : (e o : Entry) → (e ≡ o) ⊎ IsBefore e o → o.mtype ≡ e.mtype → ¬ (o.number < e.number)
not_earlier e o (inl same) t h = let n = ap (λ (z : Entry). z.number) same in omega arith
not_earlier e o (inr (inl lower)) t h = omega (arith, ints)
not_earlier e o (inr (inr equal)) t h = let n = equal.1 in omega arith

not_both : (a t : ℤ) → a <ℤ t → ¬ (a ≡ t)
not_both a t h e = omega (arith, ints)

-- A bound that includes a type includes all lower types.
admits_lower : (a b : ℤ) (bound : ℕ) → ¬ (b <ℤ a) → b ≤ℤ pos bound → a ≤ℤ pos bound
admits_lower a b bound h k = grind (arith, ints)

module _ (entries by_type : List Entry) (x : IsIndex entries by_type) where
  -- An entry by type, and an entry that is not before it.
  from_place : (i k : ℕ) (e o : Entry) → slice_get by_type i ≡ Some e → slice_get by_type k ≡ Some o → i ≤ k →
      (e ≡ o) ⊎ IsBefore e o
  from_place i k e o here there order = elim (cases_lt i k) [
    | inl less ↦ inr (at_places IsBefore by_type i k e o x.sorted less here there)
    | inr over ↦
        let same : i ≡ k = omega arith in
        inl (one_there by_type k e o (subst (λ n. slice_get by_type n ≡ Some e) same here) there)
  ]

  earlier_number : (i j : ℕ) (a b : Entry) → i < j → slice_get entries i ≡ Some a → slice_get entries j ≡ Some b →
      a.number < b.number
  earlier_number i j a b less here there =
      at_places (λ (a b : Entry). a.number < b.number) entries i j a b x.rising less here there

  pub lowest_named : (bound : ℕ) (found : Entry) → IsLowest (UpTo bound) by_type found →
      IsSelected (UpTo bound) entries found
  lowest_named bound found f =
      let w = known_at entries by_type x 0 found f.there in
      let q = qualifies_there (UpTo bound) entries w.0 found w.1 f.low in
      record {
        position = w.0;
        there = w.1;
        named = (q, (q.0, none_lower w.0 w.1, none_before w.0 w.1));
      }
    where
      none_lower : (p : ℕ) → slice_get entries p ≡ Some found → (other : ℕ) → other < length (types_of entries) →
          ¬ (type_at (types_of entries) other <ℤ type_at (types_of entries) p)
      none_lower p there other within h =
          let o = entry_there entries other within in
          let k = held_at entries by_type x other o.0 o.1 in
          not_lower found o.0 (from_place 0 k.0 found o.0 f.there k.1 (omega arith))
          (rw (← o.2, ← type_there entries p found there) h)

      none_before : (p : ℕ) → slice_get entries p ≡ Some found → (earlier : ℕ) → earlier < p →
          ¬ (type_at (types_of entries) earlier ≡ type_at (types_of entries) p)
      none_before p there earlier less h =
          let long = length-map entries (λ (o : Entry). o.mtype) in
          let within = slice_get_within entries p found there in
          let o = entry_there entries earlier (omega arith) in
          let k = held_at entries by_type x earlier o.0 o.1 in
          not_earlier found o.0 (from_place 0 k.0 found o.0 f.there k.1 (omega arith))
          (sym o.2 ∙ (h ∙ type_there entries p found there))
          (earlier_number earlier p o.0 found less o.1 there)

  pub none_low : (bound : ℕ) → NoneLow (UpTo bound) by_type → NoneQualifies (UpTo bound) (types_of entries)
  none_low bound none place q =
      let o = entry_there entries place q.0 in
      let k = held_at entries by_type x place o.0 o.1 in
      let within = slice_get_within by_type k.0 o.0 k.1 in
      let e = there_is by_type 0 (omega arith) in
      none e.0 e.1
      (admits_lower e.0.mtype o.0.mtype bound (not_lower e.0 o.0 (from_place 0 k.0 e.0 o.0 e.1 k.1 (omega arith)))
      (subst (λ t. t ≤ℤ pos bound) o.2 q.1))

  pub first_named : (mtype : ℤ) (found : Entry) → IsFirstOf mtype by_type found →
      IsSelected (Exactly mtype) entries found
  first_named mtype found f =
      let w = known_at entries by_type x f.position found f.there in
      record {
        position = w.0;
        there = w.1;
        named = (qualifies_there (Exactly mtype) entries w.0 found w.1 f.asked, none_before w.0 w.1);
      }
    where
      of_type : (p earlier : ℕ) (o : Entry) (k : ℕ) → slice_get entries p ≡ Some found → earlier < p →
          slice_get entries earlier ≡ Some o → slice_get by_type k ≡ Some o → ¬ (o.mtype ≡ mtype)
      of_type p earlier o k there less here held asked = elim (cases_lt k f.position) [
        | inl low ↦
            let h = f.below k o (omega arith) low in
            not_both o.mtype mtype
            (subst (λ (z : Entry). z.mtype <ℤ mtype) (get_or_from_slice_get by_type k o o held) h) asked
        | inr high ↦ not_earlier found o (from_place f.position k found o f.there held high) (asked ∙ sym f.asked)
            (earlier_number earlier p o found less here there)
      ]

      none_before : (p : ℕ) → slice_get entries p ≡ Some found → (earlier : ℕ) → earlier < p →
          ¬ QualifiesAt (Exactly mtype) (types_of entries) earlier
      none_before p there earlier less q =
          let o = entry_there entries earlier q.0 in
          let k = held_at entries by_type x earlier o.0 o.1 in
          of_type p earlier o.0 k.0 there less o.1 k.1 (sym o.2 ∙ q.1)

  pub none_of : (mtype : ℤ) → NoneOf mtype by_type → NoneQualifies (Exactly mtype) (types_of entries)
  none_of mtype none place q =
      let o = entry_there entries place q.0 in
      let k = held_at entries by_type x place o.0 o.1 in
      at_place (λ (e : Entry). e.mtype ≢ mtype) by_type k.0 o.0 none k.1 (sym o.2 ∙ q.1)

pub earliest_named : (entries : List Entry) (e : Entry) → slice_get entries 0 ≡ Some e → IsSelected Any entries e
earliest_named [] e there = cc
earliest_named (o ∷ os) e there =
    record { position = 0; there = there; named = ((omega arith, tt), (λ earlier less. absurd (omega arith))) }

none_first : (entries : List Entry) → slice_get entries 0 ≡ None → NoneQualifies Any (types_of entries)
none_first [] there place q = let h = q.0 in omega arith
none_first (o ∷ os) there place q = cc

-- No earlier entry has another type.
abbrev pub NoneBefore : ℤ → List Entry → ℕ → Type 0
NoneBefore refused entries n = (earlier : ℕ) → earlier < n → ¬ QualifiesAt (Except refused) (types_of entries) earlier

pub except_named : (entries : List Entry) (refused : ℤ) (p : ℕ) (e : Entry) → NoneBefore refused entries p →
    slice_get entries p ≡ Some e → e.mtype ≢ refused → IsSelected (Except refused) entries e
except_named entries refused p e none there other =
    record { position = p; there = there; named = (qualifies_there (Except refused) entries p e there other, none) }

pub none_before_next : (entries : List Entry) (refused : ℤ) (p : ℕ) (e : Entry) → NoneBefore refused entries p →
    slice_get entries p ≡ Some e → e.mtype ≡ refused → NoneBefore refused entries (p + 1)
none_before_next entries refused p e none there same earlier less q = elim (cases_lt earlier p) [
  | inl before ↦ none earlier before q
  | inr over ↦
      let here : earlier ≡ p = omega arith in
      q.1 (ap (λ n. type_at (types_of entries) n) here ∙ (type_there entries p e there ∙ same))
]

pub none_differs : (entries : List Entry) (refused : ℤ) (n : ℕ) → NoneBefore refused entries n → length entries ≤ n →
    NoneQualifies (Except refused) (types_of entries)
none_differs entries refused n none all place q =
    let long = length-map entries (λ (o : Entry). o.mtype) in none place (let h = q.0 in omega arith) q

-- The result of a search is what the selector names; if it is nothing, the selector names nothing.
pub earliest_selected : (entries : List Entry) (sel : Selector) (r : Option Entry) → sel ≡ Any →
    r ≡ slice_get entries 0 → MatchOption r (NoneQualifies sel (types_of entries)) (IsSelected sel entries)
earliest_selected entries sel None is first =
    subst (λ s. NoneQualifies s (types_of entries)) (sym is) (none_first entries (sym first))
earliest_selected entries sel (Some e) is first =
    subst (λ s. IsSelected s entries e) (sym is) (earliest_named entries e (sym first))

module _ (entries by_type ts : List Entry) (x : IsIndex entries by_type) (same : ts ≡ by_type) (sel : Selector) where
  pub lowest_selected : (bound : ℕ) (r : Option Entry) → sel ≡ UpTo bound →
      MatchOption r (NoneLow sel ts) (IsLowest sel ts) →
      MatchOption r (NoneQualifies sel (types_of entries)) (IsSelected sel entries)
  lowest_selected bound None is none =
      subst (λ s. NoneQualifies s (types_of entries)) (sym is)
      (none_low entries by_type x bound (subst (λ s. NoneLow s by_type) is (subst (λ es. NoneLow sel es) same none)))
  lowest_selected bound (Some n) is found =
      subst (λ s. IsSelected s entries n) (sym is)
      (lowest_named entries by_type x bound n
      (subst (λ s. IsLowest s by_type n) is (subst (λ es. IsLowest sel es n) same found)))

  pub first_selected : (mtype asked : ℤ) (r : Option Entry) → sel ≡ Exactly mtype → asked ≡ mtype →
      MatchOption r (NoneOf asked ts) (IsFirstOf asked ts) →
      MatchOption r (NoneQualifies sel (types_of entries)) (IsSelected sel entries)
  first_selected mtype asked None is equal none =
      subst (λ s. NoneQualifies s (types_of entries)) (sym is)
      (none_of entries by_type x mtype (subst (λ t. NoneOf t by_type) equal (subst (λ es. NoneOf asked es) same none)))
  first_selected mtype asked (Some n) is equal found =
      subst (λ s. IsSelected s entries n) (sym is)
      (first_named entries by_type x mtype n
      (subst (λ t. IsFirstOf t by_type n) equal (subst (λ es. IsFirstOf asked es n) same found)))
