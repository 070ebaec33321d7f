-- Proves that the rule holds when a table with several places is laid.
use Rattle.std.proofs.Common.{◌≡◌, inr, ℕ, zero, suc, ◌+◌, ◌*◌, ◌^◌, ◌<◌, ◌≤◌, List, [], ◌∷◌, ◌++◌, map, length}
use Rattle.std.proofs.Common.{reverse, get_or, take, drop, refl, sym, ap, ◌∙◌, subst, ⊎_elim, arith, length-append}
use Rattle.std.proofs.Common.{append_assoc}
use Rattle.std.specs.Prelude.{Some, None}
use mathlib.Core.Logic.{dite}
use native.Mathlib.Decide.{ℕ_discrete}
use mathlib.Core.Option.{none, some, some-injective, some-ne-none}
use lib.ListN.{get_elem?}
use Rattle.std.proofs.Math.Seq.{take-length, drop-append_seam}
use Rattle.std.proofs.lemmas.List.{append-nil, length-map, map-append, reverse-append, reverse-reverse, drop-append-le}
use Rattle.std.proofs.lemmas.List.{take-append-le, length-drop}
use Rattle.atomic_table.specs.Table.{opening}
use Rattle.atomic_table.proofs.Lists.{at_map, at_snoc, at_last, at_longer}
use Rattle.sysv_lists.proofs.Places.{at_below}
use Rattle.sysv_gate.specs.declared.table.view.Sight.{Sight}
use Rattle.sysv_gate.specs.declared.table.place.Place.{Place}
use Rattle.sysv_lists.specs.Prefix.{IsPrefixOf}
use Rattle.sysv_gate.specs.Rule.{Spot, put, GatedBy, start}
use Rattle.sysv_gate.specs.Closings.{held_object}
use Rattle.sysv_gate.specs.Steps as gate
use Rattle.sysv_gate.specs.Tables.{block, view_at, IsFull, InOrder, outset}
use Rattle.sysv_gate.specs.Laying.{IsLaid, AreLaidUpTo, AreLocksUpTo, all_put}
use Rattle.sysv_gate.specs.Locks.{LockView}
use Rattle.sysv_gate.proofs.Blocks.{block_length}
use Rattle.sysv_gate.proofs.OpenedMeetsRule.{starts}
use Rattle.sysv_gate.proofs.TableShares.{first_whole}

-- The words of another place are appended.
block_before : (place count : ℕ) (words new : List ℕ) → length words ≡ 80 * count → place < count →
    block place (words ++ new) ≡ block place words
block_before place count words new long less =
    let rest = length-drop (80 * place) words in
    ap (take 80) (drop-append-le (80 * place) words new (omega arith))
    ∙ take-append-le 80 (drop (80 * place) words) new (omega arith)

block_last : (count : ℕ) (words new : List ℕ) → length words ≡ 80 * count → length new ≡ 80 →
    block count (words ++ new) ≡ new
block_last count words new long wide =
    ap (λ (n : ℕ). take 80 (drop n (words ++ new))) (sym long) ∙ ap (take 80) (drop-append_seam words new)
    ∙ ap (λ (n : ℕ). take n new) (sym wide) ∙ take-length new

module _ {O : Type 0} (counted : O → ℕ × ℕ) (first : ℕ) (objects : List O) where
  pub none_laid : (words : List ℕ) → words ≡ [] → AreLaidUpTo counted first objects 0 words
  none_laid words bare = (ap length bare, λ place o less at. absurd (omega arith))

  pub one_laid : (count : ℕ) (words new : List ℕ) (o : O) → AreLaidUpTo counted first objects count words →
      length new ≡ 80 → get_elem? objects count ≡ some o → IsLaid counted first o new →
      AreLaidUpTo counted first objects (count + 1) (words ++ new)
  one_laid count words new o laid wide at is =
      let long = length-append words new in
      let before = laid.0 in (
        (omega arith),
        λ place p less there. dite (ℕ_discrete place count)
            (λ e.
            let same : o ≡ p = some-injective o p (sym at ∙ subst (λ (k : ℕ). get_elem? objects k ≡ some p) e there) in
            subst (λ (k : ℕ). IsLaid counted first p (block k (words ++ new))) (sym e)
            (subst (IsLaid counted first p) (sym (block_last count words new laid.0 wide))
            (subst (λ (q : O). IsLaid counted first q new) same is)))
            (λ ne.
            subst (IsLaid counted first p) (sym (block_before place count words new laid.0 (omega arith)))
            (laid.1 place p (omega arith) there)),
      )

-- One more lock is made.
pub one_lock : {O : Type 0} (objects : List O) (count : ℕ) (locks locks' : List (LockView O)) (lock : LockView O)
    (o : O)
    → AreLocksUpTo objects count locks → locks' ≡ locks ++ lock ∷ [] → get_elem? objects count ≡ some o
    → lock.place ≡ count → lock.opening ≡ o
    → AreLocksUpTo objects (count + 1) locks'
one_lock {O} objects count locks locks' lock o are more at place opening =
    let long = ap length more ∙ length-append locks (lock ∷ []) in
    let before = are.0 in
    let is : lock ≡ record { place = count; opening = o } = λ i. record { place = place i; opening = opening i } in (
      (omega arith),
      λ k p less there. dite (ℕ_discrete k count)
          (λ e.
          let same : o ≡ p = some-injective o p (sym at ∙ subst (λ (n : ℕ). get_elem? objects n ≡ some p) e there) in
          ap (λ (l : List (LockView O)). get_elem? l k) more
          ∙ ap (λ (n : ℕ). get_elem? (locks ++ lock ∷ []) n) e
          ∙ at_last locks lock count are.0
          ∙ ap some (is ∙ (λ i. record { place = sym e i; opening = same i })))
          (λ ne.
          ap (λ (l : List (LockView O)). get_elem? l k) more
          ∙ at_longer locks (lock ∷ []) k (record { place = k; opening = p }) (are.1 k p (omega arith) there)),
    )

module _ {O C R : Type 0} (moves : O → C → R → O → Type 0) (counted : O → ℕ × ℕ) where
  -- The table of new places keeps the rule.
  pub lays : (objects : List O) (first : ℕ) (words : List ℕ) (spots : List (Spot O C R)) → first ≤ 2 ^ 62
      → AreLaidUpTo counted first objects (length objects) words → spots ≡ all_put objects
      → InOrder moves counted objects first (opening words spots (outset objects first))
  lays objects first words spots low laid is = (
    [],
    record {
      words = laid.0;
      homes = length-map spots some ∙ ap length is ∙ length-map objects (λ (o : O). put {C = C} {R = R} o None);
      below = tt;
      each = λ place o opens.
          let few = at_below objects place o opens in
          let told = laid.1 place o few opens in
          let wide = block_length place (length objects) words laid.0 few in
          let gated = starts moves counted o first (block place words) (put o None ∷ []) wide told.0 told.1 told.2
          told.3 refl low in
          let home : get_elem? (map some spots) place ≡ some (some (put o None)) = at_map some spots place (put o None)
          (ap (λ (l : List (Spot O C R)). get_elem? l place) is
          ∙ at_map (λ (p : O). put {C = C} {R = R} p None) objects place o opens) in
          let sees : view_at place (outset {C = C} {R = R} objects first) ≡ start o first =
          read_at (map (λ (p : O). start p first) objects) place gate.spent (start o first)
          (at_map (λ (p : O). start {C = C} {R = R} p first) objects place o opens) in
          subst (GatedBy moves counted o first [])
          (λ i. record {
            words = block place words;
            homes = sym (read_at (map some spots) place none (some (put o None)) home) i ∷ [];
            views = sym sees i ∷ [];
          }) gated;
      seen = λ id v at.
          ⊎_elim (λ t. absurd (some-ne-none v (sym t)))
          (λ t. subst (λ (x : Sight O C R). IsPrefixOf x.seen [] × IsPrefixOf x.also []) t (([], refl), ([], refl)))
          (at_snoc [] (outset objects first) v id at);
      full = λ id v at. ⊎_elim (λ t. absurd (some-ne-none v (sym t)))
          (λ t.
          subst (IsFull objects) t (record {
            views = inr (length-map objects (λ (o : O). start {C = C} {R = R} o first));
            shareless = λ none. absurd (cc);
          })) (at_snoc [] (outset objects first) v id at);
      shared = λ depth within. first_whole {C = C} {R = R} (outset objects first) depth refl;
    },
  )
    where
      read_at : {A : Type 0} (xs : List A) (i : ℕ) (d a : A) → get_elem? xs i ≡ some a → get_or xs i d ≡ a
      read_at [] i d a at = absurd (some-ne-none a (sym at))
      read_at (x ∷ xs) zero d a at = some-injective x a at
      read_at (x ∷ xs) (suc i) d a at = read_at xs i d a at

module _ {O C R : Type 0} where
  -- The first objects are in their slots.
  pub record IsFilling (all left : List O) (spots : List (Spot O C R)) : Type 0 where
    pub done : List O
    pub filled : spots ≡ all_put done
    pub parts : all ≡ done ++ reverse left

  pub filling_starts : (all left : List O) (spots : List (Spot O C R)) → left ≡ reverse all → spots ≡ [] →
      IsFilling all left spots
  filling_starts all left spots is bare =
      record { done = []; filled = bare; parts = sym (reverse-reverse all) ∙ ap reverse (sym is) }

  pub filling_goes : (all left left' : List O) (spots spots' : List (Spot O C R)) (o : O) → IsFilling all left spots →
      left ≡ left' ++ o ∷ [] → spots' ≡ spots ++ put o None ∷ [] → IsFilling all left' spots'
  filling_goes all left left' spots spots' o told split more = record {
    done = told.done ++ o ∷ [];
    filled = more ∙ ap (λ (l : List (Spot O C R)). l ++ put o None ∷ []) told.filled
        ∙ sym (map-append (λ (p : O). put {C = C} {R = R} p None) told.done (o ∷ []));
    parts = told.parts ∙ ap (λ (l : List O). told.done ++ reverse l) split
        ∙ ap (λ (l : List O). told.done ++ l) (reverse-append left' (o ∷ []))
        ∙ sym (append_assoc told.done (o ∷ []) (reverse left'));
  }

  pub filling_ends : (all left : List O) (spots : List (Spot O C R)) → IsFilling all left spots → left ≡ [] →
      spots ≡ all_put all
  filling_ends all left spots told bare = told.filled
      ∙ ap all_put (sym (told.parts ∙ ap (λ (l : List O). told.done ++ reverse l) bare ∙ append-nil told.done))

  -- The objects are moved out of their slots, the last one first.
  pub record IsEmptying (was : List (Spot O C R)) (back : List O) (spots : List (Spot O C R)) : Type 0 where
    pub left : List O
    pub filled : spots ≡ all_put left
    pub parts : was ≡ all_put (left ++ reverse back)

  pub emptying_starts : (all back : List O) (spots : List (Spot O C R)) → spots ≡ all_put all → back ≡ [] →
      IsEmptying spots back spots
  emptying_starts all back spots is bare = record {
    left = all;
    filled = is;
    parts = is ∙ ap all_put (sym (append-nil all) ∙ ap (λ (l : List O). all ++ reverse l) (sym bare));
  }

  empty_put : (qs : List O) → all_put {C = C} {R = R} qs ≡ [] → qs ≡ []
  empty_put [] is = refl
  empty_put (q ∷ qs) is = absurd (cc)

  last_put : (os : List O) (front : List (Spot O C R)) (x : Spot O C R) → all_put os ≡ front ++ x ∷ [] →
      (os' : List O) × (o : O) × (x ≡ put o None) × (os ≡ os' ++ o ∷ []) × (front ≡ all_put os')
  last_put [] [] x is = absurd (cc)
  last_put [] (f ∷ fs) x is = absurd (cc)
  last_put (p ∷ ps) [] x is =
      let here : put p None ≡ x = cc in
      let bare : all_put ps ≡ [] = cc in
      ([], p, sym here, ap (λ (l : List O). p ∷ l) (empty_put ps bare), refl)
  last_put (p ∷ ps) (f ∷ fs) x is =
      let here : put p None ≡ f = cc in
      let rest : all_put ps ≡ fs ++ x ∷ [] = cc in
      let r = last_put ps fs x rest in
      (p ∷ r.0, r.1, r.2, ap (λ (l : List O). p ∷ l) r.3, λ i. sym here i ∷ r.4 i)

  -- The last slot has an object.
  pub emptying_has : (was : List (Spot O C R)) (back : List O) (spots spots' : List (Spot O C R)) (s : Spot O C R) →
      IsEmptying was back spots → spots ≡ spots' ++ s ∷ [] → (o : O) × (s ≡ put o None)
  emptying_has was back spots spots' s told split =
      let cut = last_put told.left spots' s (sym told.filled ∙ split) in (cut.1, cut.2)

  pub emptying_goes : (was : List (Spot O C R)) (back back' : List O) (spots spots' : List (Spot O C R))
      (s : Spot O C R) (place : Place O C R) → IsEmptying was back spots → spots ≡ spots' ++ s ∷ [] → s ≡ Some place →
      back' ≡ back ++ place.object ∷ [] → IsEmptying was back' spots'
  emptying_goes was back back' spots spots' s place told split is more =
      let cut = last_put told.left spots' s (sym told.filled ∙ split) in
      let o : O = cut.1 in
      let shown : Some place.object ≡ Some o = ap held_object (sym is ∙ cut.2) in
      let same : place.object ≡ o = cc in
      let back_is : reverse back' ≡ o ∷ reverse back =
      ap reverse (more ∙ ap (λ (p : O). back ++ p ∷ []) same) ∙ reverse-append back (o ∷ []) in
      record {
        left = cut.0;
        filled = cut.4;
        parts = told.parts
            ∙ ap all_put
            (ap (λ (l : List O). l ++ reverse back) cut.3 ∙ append_assoc cut.0 (o ∷ []) (reverse back)
            ∙ ap (λ (l : List O). cut.0 ++ l) (sym back_is));
      }

  pub emptying_ends : (was : List (Spot O C R)) (back : List O) (spots : List (Spot O C R)) →
      IsEmptying was back spots → spots ≡ [] → was ≡ all_put (reverse back)
  emptying_ends was back spots told bare =
      told.parts ∙ ap (λ (l : List O). all_put (l ++ reverse back)) (empty_put told.left (sym told.filled ∙ bare))

  -- The slots determine the objects in them.
  pub same_put : (xs ys : List O) → all_put {C = C} {R = R} xs ≡ all_put ys → xs ≡ ys
  same_put [] [] is = refl
  same_put [] (y ∷ ys) is = absurd (cc)
  same_put (x ∷ xs) [] is = absurd (cc)
  same_put (x ∷ xs) (y ∷ ys) is =
      let here : put {C = C} {R = R} x None ≡ put y None = cc in
      let shown : Some x ≡ Some y = ap held_object here in
      let first : x ≡ y = cc in
      let rest : all_put {C = C} {R = R} xs ≡ all_put ys = cc in
      λ i. first i ∷ same_put xs ys rest i
