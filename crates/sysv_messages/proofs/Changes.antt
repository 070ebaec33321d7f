-- Both orders still have the same entries after an entry was added or removed.
use Rattle.std.proofs.Common.{◌≡◌, ◌≢◌, ℕ, suc, ◌+◌, ◌<◌, ◌≤◌, ◌≤ℤ◌, ◌==◌, Bool, not, List, [], ◌∷◌, ◌++◌, Some, length}
use Rattle.std.proofs.Common.{get_or, refl, sym, ap, subst, ◌∙◌, inl, inr, arith}
use Rattle.std.specs.List.{All, Contains, filter, insert, remove, slice_get}
use Rattle.std.specs.List.Sorted.{IsPermutation}
use Rattle.std.proofs.lemmas.Bool.{cases_order}
use Rattle.std.proofs.lemmas.Int.{ints, by_lt_z}
use Rattle.std.proofs.lemmas.List.{length_push}
use Rattle.std.proofs.lemmas.List.Edits.{length-insert, length-remove}
use Rattle.std.proofs.lemmas.List.Elements.{All-push, All-cons, All-weaker, All-filter, filter_passes, Contains-push}
use Rattle.std.proofs.lemmas.List.Elements.{Contains-append_left}
use Rattle.std.proofs.lemmas.List.Kept.{AllPairs-filter}
use Rattle.std.proofs.lemmas.List.Quantifiers.{all_pairs_push}
use Rattle.std.proofs.lemmas.List.Sorted.{IsPermutation-insert, Contains-permutation, All-permutation}
use Rattle.std.proofs.lemmas.Option.{slice_get_within, slice_get-get_or}
use Rattle.sysv_model.specs.declared.limits.TheConstants.{QUEUE_MESSAGES}
use Rattle.sysv_messages.specs.declared.entry.Entry.{Entry}
use Rattle.sysv_messages.specs.Entries.{IsBefore, IsIndex, IsInserted, NumbersDiffer}
use Rattle.sysv_messages.proofs.Removal.{never_before_itself, rising_differ}
use Rattle.sysv_messages.proofs.EntryLists.{one_there, place_of, contains_at, at_place, at_places, pairs_insert}
use Rattle.sysv_messages.proofs.EntryLists.{contains_filter, others_absent, others_present, found_or_absent}

before_by : (a b : Entry) → a.mtype ≤ℤ b.mtype → a.number < b.number → IsBefore a b
before_by a b h below = by_lt_z a.mtype b.mtype (λ lower. inl lower) (λ higher. inr (omega (arith, ints), below))

module _ (entries by_type : List Entry) (x : IsIndex entries by_type) where
  pub known_at : (k : ℕ) (e : Entry) → slice_get by_type k ≡ Some e → (p : ℕ) × (slice_get entries p ≡ Some e)
  known_at k e there = place_of entries e (at_place (Contains entries) by_type k e x.known there)

  pub held_at : (p : ℕ) (e : Entry) → slice_get entries p ≡ Some e → (k : ℕ) × (slice_get by_type k ≡ Some e)
  held_at p e there = place_of by_type e (at_place (Contains by_type) entries p e x.held there)

  pub held_of : (e : Entry) → Contains entries e → Contains by_type e
  held_of e has = let w = place_of entries e has in at_place (Contains by_type) entries w.0 e x.held w.1

  pub none_of : (number : ℕ) → All (λ (e : Entry). e.number ≢ number) entries →
      All (λ (e : Entry). e.number ≢ number) by_type
  none_of number none k d within same =
      let w = known_at k (get_or by_type k d) (slice_get-get_or by_type k d within) in
      at_place (λ (e : Entry). e.number ≢ number) entries w.0 (get_or by_type k d) none w.1 same

  abbrev Rises : Entry → Entry → Type 0
  Rises a b = a.number < b.number

  -- One number is at one place.
  pub one_place : (i j : ℕ) (a b : Entry) → slice_get entries i ≡ Some a → slice_get entries j ≡ Some b →
      a.number ≡ b.number → i ≡ j
  one_place i j a b here there same = elim (cases_order i j) [
    | inl e ↦ e
    | inr (inl less) ↦ let h = at_places Rises entries i j a b x.rising less here there in absurd (omega arith)
    | inr (inr more) ↦ let h = at_places Rises entries j i b a x.rising more there here in absurd (omega arith)
  ]

  pub one_entry : (i j : ℕ) (a b : Entry) → slice_get by_type i ≡ Some a → slice_get by_type j ≡ Some b →
      a.number ≡ b.number → a ≡ b
  one_entry i j a b here there same =
      let v = known_at i a here in
      let w = known_at j b there in
      let e = one_place v.0 w.0 a b v.1 w.1 same in
      one_there entries w.0 a b (subst (λ n. slice_get entries n ≡ Some a) e v.1) w.1

  pub types_differ : NumbersDiffer by_type
  types_differ i j d less within same =
      let a = get_or by_type i d in
      let b = get_or by_type j d in
      let e : a ≡ b =
      one_entry i j a b (slice_get-get_or by_type i d (omega arith)) (slice_get-get_or by_type j d within) same in
      never_before_itself b (subst (λ z. IsBefore z b) e (x.sorted i j d less within))

  -- An entry is added whose number is above all others.
  module _ (e : Entry) (new : List Entry) (room : length entries < QUEUE_MESSAGES)
      (last : All (λ (other : Entry). other.number < e.number) entries) (came : IsInserted by_type e new) where
    last_of : All (λ (other : Entry). other.number < e.number) by_type
    last_of k d within =
        let w = known_at k (get_or by_type k d) (slice_get-get_or by_type k d within) in
        at_place (λ (other : Entry). other.number < e.number) entries w.0 (get_or by_type k d) last w.1

    pub numbers_apart : All (λ (other : Entry). other.number ≢ e.number) by_type
    numbers_apart k d within same = let h = last_of k d within in omega arith

    more : IsPermutation (e ∷ by_type) (insert by_type came.at e)
    more = IsPermutation-insert by_type came.at e

    still_held : (other : Entry) → Contains by_type other → Contains (insert by_type came.at e) other
    still_held other (k, within, is) =
        Contains-permutation (e ∷ by_type) (insert by_type came.at e) other more (suc k, omega arith, is)

    pub pushed : IsIndex (entries ++ e ∷ []) new
    pushed = subst (λ ts. IsIndex (entries ++ e ∷ []) ts) (sym came.is) (record {
      rising = all_pairs_push Rises entries e x.rising last;
      sorted = pairs_insert IsBefore by_type came.at e came.within x.sorted
          (λ k d low high.
          before_by (get_or by_type k d) e (came.below k d low high) (last_of k d (let w = came.within in omega arith)))
          (λ k d low high. inl (came.above k d low high));
      held = All-push (Contains (insert by_type came.at e)) entries e
          (All-weaker (Contains by_type) (Contains (insert by_type came.at e)) still_held entries x.held)
          (Contains-permutation (e ∷ by_type) (insert by_type came.at e) e more (0, omega arith, refl));
      known = All-permutation (Contains (entries ++ e ∷ [])) (e ∷ by_type) (insert by_type came.at e) more
          (All-cons (Contains (entries ++ e ∷ [])) e by_type (Contains-push entries e)
          (All-weaker (Contains entries) (Contains (entries ++ e ∷ []))
          (λ other has. Contains-append_left entries (e ∷ []) other has) by_type x.known));
      same = length-insert by_type came.at e came.within ∙ (ap (λ n. n + 1) x.same ∙ sym (length_push entries e));
      few = let h = length_push entries e in omega arith;
    })

  -- The entry with this number is removed, if there is one.
  module _ (number : ℕ) where
    abbrev stays : Entry → Bool
    stays e = not (e.number == number)

    pub record Removed : Type 0 where
      pub same : length (filter stays by_type) ≡ length (filter stays entries)
      pub few : length (filter stays entries) ≤ length entries

    lengths : Removed
    lengths = elim (found_or_absent (λ (e : Entry). e.number) number entries) [
      | inl w ↦
          let v = held_at w.0 w.1 w.2 in
          let a =
          others_present (λ (e : Entry). e.number) number entries w.0 w.1 w.2 w.3 (rising_differ entries x.rising) in
          let b = others_present (λ (e : Entry). e.number) number by_type v.0 w.1 v.1 w.3 types_differ in
          let f = length-remove entries w.0 (slice_get_within entries w.0 w.1 w.2) in
          let g = length-remove by_type v.0 (slice_get_within by_type v.0 w.1 v.1) in
          let h = x.same in
          record { same = omega (arith, ap length a, ap length b); few = omega (arith, ap length a) }
      | inr none ↦
          let a = others_absent (λ (e : Entry). e.number) number entries none in
          let b = others_absent (λ (e : Entry). e.number) number by_type (none_of number none) in
          let h = x.same in
          record { same = omega (arith, ap length a, ap length b); few = omega (arith, ap length a) }
    ]

    kept : (xs ys : List Entry) → All (Contains ys) xs → All (Contains (filter stays ys)) (filter stays xs)
    kept xs ys all k d within =
        let e = get_or (filter stays xs) k d in
        let w = place_of ys e (All-filter stays (Contains ys) xs all k d within) in
        let v = contains_filter stays ys w.0 e w.1 (filter_passes stays xs k d within) in
        contains_at (filter stays ys) v.0 e v.1

    pub removed : IsIndex (filter stays entries) (filter stays by_type)
    removed = record {
      rising = AllPairs-filter Rises stays entries x.rising;
      sorted = AllPairs-filter IsBefore stays by_type x.sorted;
      held = kept entries by_type x.held;
      known = kept by_type entries x.known;
      same = lengths.same;
      few = let a = lengths.few in let b = x.few in omega arith;
    }

    pub removed_one : (position : ℕ) (e : Entry) → slice_get entries position ≡ Some e → e.number ≡ number →
        filter stays entries ≡ remove entries position
    removed_one position e there is =
        others_present (λ (e : Entry). e.number) number entries position e there is (rising_differ entries x.rising)
