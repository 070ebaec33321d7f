-- Proves that the counts stay announced when one view changes.
use Rattle.std.proofs.Common.{◌≡◌, ℕ, ◌+◌, ◌<◌, ◌≤◌, cond, false, List, [], ◌∷◌, ◌++◌, set, get_or, sym, ap, ◌∙◌, subst}
use Rattle.std.proofs.Common.{arith, refl, ⊎_elim, get_or-set_other, lt_of_not-le}
use Rattle.std.specs.Prelude.{nat_lt, sum_by}
use mathlib.Core.Option.{some}
use mathlib.Core.Logic.{dite}
use native.Mathlib.Decide.{dec_le}
use lib.ListN.{get_elem?}
use Rattle.std.proofs.lemmas.List.Sums.{sum_by_push}
use Rattle.atomic_table.proofs.Lists.{at_snoc}
use Rattle.sysv_gate.specs.declared.table.view.View.{View}
use Rattle.sysv_gate.specs.declared.count.Count.{Count}
use Rattle.sysv_gate.specs.declared.count.Count.TheVariants.{Arrived, Freed}
use Rattle.sysv_gate.specs.History.{RiseByOneAtMost}
use Rattle.sysv_gate.specs.Turns.{rise}
use Rattle.sysv_gate.specs.Counts.{word_of, of_count, with_count, larger}
use Rattle.sysv_gate.specs.Rule.{IsAnnounced, AreAnnounced}
use Rattle.sysv_gate.proofs.MarksAndCounts.{risen_by}
use Rattle.sysv_lists.proofs.Places.{each_set}
use Rattle.sysv_lists.proofs.Sums.{sum_by-set_at, some_part}

-- The number that was set for a count is the number for that count.
pub put_in : (count : Count) (n : ℕ) (ns : ℕ × ℕ) → of_count count (with_count count n ns) ≡ n
put_in Arrived n ns = refl
put_in Freed n ns = refl

-- Of two numbers set for a count, the last remains.
pub put_twice : (count : Count) (n m : ℕ) (ns : ℕ × ℕ) →
    with_count count n (with_count count m ns) ≡ with_count count n ns
put_twice Arrived n m ns = refl
put_twice Freed n m ns = refl

-- Setting the number that is already there changes nothing.
pub put_same : (count : Count) (n : ℕ) (ns : ℕ × ℕ) → of_count count ns ≡ n → with_count count n ns ≡ ns
put_same Arrived n ns is = λ i. (sym is i, ns.1)
put_same Freed n ns is = λ i. (ns.0, sym is i)

pub none_yet : (count : Count) → of_count count (0, 0) ≡ 0
none_yet Arrived = refl
none_yet Freed = refl

pub from_48 : (count : Count) → 48 ≤ word_of count
from_48 Arrived = omega arith
from_48 Freed = omega arith

pub below_80 : (count : Count) → word_of count < 80
below_80 Arrived = omega arith
below_80 Freed = omega arith

-- The word determines the count.
pub same_count : (count other : Count) → word_of count ≡ word_of other → count ≡ other
same_count Arrived Arrived is = refl
same_count Arrived Freed is = absurd (omega arith)
same_count Freed Arrived is = absurd (omega arith)
same_count Freed Freed is = refl

pub larger_up_to : (count : Count) (one two : ℕ × ℕ) (n : ℕ) → of_count count one ≤ n → of_count count two ≤ n →
    of_count count (larger one two) ≤ n
larger_up_to Arrived one two n le le' = omega arith
larger_up_to Freed one two n le le' = omega arith

-- Setting one count leaves the other unchanged.
pub of_other : (count other : Count) (n : ℕ) (ns : ℕ × ℕ) → ¬ (count ≡ other) →
    of_count other (with_count count n ns) ≡ of_count other ns
of_other Arrived Arrived n ns apart = absurd (apart refl)
of_other Arrived Freed n ns apart = refl
of_other Freed Arrived n ns apart = refl
of_other Freed Freed n ns apart = absurd (apart refl)

-- Each count rises by as much as its numbers show.
pub rises_by : (before after m n : ℕ × ℕ) → m.0 ≡ before.0 → m.1 ≡ before.1 → n.0 ≡ after.0 → n.1 ≡ after.1
    → RiseByOneAtMost before after
    → (count : Count)
    → of_count count after
    ≡ of_count count before + rise count (record { arrived = nat_lt m.0 n.0; freed = nat_lt m.1 n.1 })
rises_by before after m n e0 e1 f0 f1 most Arrived =
    risen_by before.0 after.0 most.0 most.1 ∙ (λ i. before.0 + cond (nat_lt (sym e0 i) (sym f0 i)) 1 0)
rises_by before after m n e0 e1 f0 f1 most Freed =
    risen_by before.1 after.1 most.2 most.3 ∙ (λ i. before.1 + cond (nat_lt (sym e1 i) (sym f1 i)) 1 0)

module _ {O C R : Type 0} where
  -- One view changes. The count after the log, or its word, changes by as much as what the view has
  -- added.
  pub counts_on : (count : Count) (known known' value value' id : ℕ) (views : List (View O C R)) (v w : View O C R)
      → IsAnnounced count known value views → get_elem? views id ≡ some v
      → value ≤ value'
      → value' + known + of_count count v.announced ≡ value + known' + of_count count w.announced
      → (w.in_turn ≡ false → of_count count w.announced ≡ 0)
      → of_count count w.read ≤ value'
      → value' ≤ known' + 1
      → IsAnnounced count known' value' (set views id w)
  counts_on count known known' value value' id views v w told at more balance quiet read few =
      let before = told.value in
      let sums = sum_by-set_at (λ (u : View O C R). of_count count u.announced) views id v w at in record {
        value = omega arith;
        few = few;
        quiet = each_set (λ (u : View O C R). u.in_turn ≡ false → of_count count u.announced ≡ 0)
            (λ (u : View O C R). u.in_turn ≡ false → of_count count u.announced ≡ 0) views id w told.quiet
            (λ k u _ _ q. q) quiet;
        read = each_set (λ (u : View O C R). of_count count u.read ≤ value)
            (λ (u : View O C R). of_count count u.read ≤ value') views id w told.read (λ k u _ _ r. omega arith) read;
      }

  -- A view changes that stays in its turn, or that was not in its turn.
  pub counts_stay : (counted : O → ℕ × ℕ) (object : O) (words : List ℕ) (id : ℕ) (views : List (View O C R))
      (v w : View O C R) → AreAnnounced counted object words views → get_elem? views id ≡ some v
      → w.announced ≡ v.announced
      → (w.in_turn ≡ false → v.in_turn ≡ false) → w.read ≡ v.read → AreAnnounced counted object words (set views id w)
  counts_stay counted object words id views v w told at announced idle read count =
      let added : of_count count w.announced ≡ of_count count v.announced = ap (of_count count) announced in
      let seen : of_count count w.read ≡ of_count count v.read = ap (of_count count) read in
      let high = (told count).read id v at in
      let known : ℕ = of_count count (counted object) in
      let value : ℕ = get_or words (word_of count) 0 in
      counts_on count known known value value id views v w (told count) at (omega arith) (omega arith)
      (λ still. added ∙ (told count).quiet id v at (idle still)) (omega arith) (told count).few

  -- A new view is added that has added nothing to the counts, and has read no more of them than
  -- another view.
  pub counts_more : (counted : O → ℕ × ℕ) (object : O) (words : List ℕ) (id : ℕ) (views : List (View O C R))
      (v w : View O C R) → AreAnnounced counted object words views → get_elem? views id ≡ some v
      → ((count : Count) → of_count count w.announced ≡ 0)
      → w.read ≡ v.read → AreAnnounced counted object words (views ++ w ∷ [])
  counts_more counted object words id views v w told at none read count =
      let sums = sum_by_push (λ (u : View O C R). of_count count u.announced) views w in
      let before = (told count).value in
      let added = none count in
      let seen : of_count count w.read ≡ of_count count v.read = ap (of_count count) read in
      let high = (told count).read id v at in record {
        value = omega arith;
        few = (told count).few;
        quiet = λ k u there idle.
            ⊎_elim (λ t. (told count).quiet k u t idle)
            (λ t. subst (λ (x : View O C R). of_count count x.announced ≡ 0) t added) (at_snoc views w u k there);
        read = λ k u there.
            ⊎_elim (λ t. (told count).read k u t)
            (λ t. subst (λ (x : View O C R). of_count count x.read ≤ get_or words (word_of count) 0) t (omega arith))
            (at_snoc views w u k there);
      }

  -- Another word changes.
  pub set_aside : (counted : O → ℕ × ℕ) (object : O) (words : List ℕ) (i n : ℕ) (views : List (View O C R)) → i < 48 →
      AreAnnounced counted object words views → AreAnnounced counted object (set words i n) views
  set_aside counted object words i n views low told count =
      let far = from_48 count in
      subst (λ (m : ℕ). IsAnnounced count (of_count count (counted object)) m views)
      (sym (get_or-set_other words i (word_of count) n 0 (λ e. omega arith))) (told count)

  -- If no view has added anything, the word has the count.
  pub exactly : (count : Count) (known value : ℕ) (views : List (View O C R)) → IsAnnounced count known value views →
      ((k : ℕ) (u : View O C R) → get_elem? views k ≡ some u → of_count count u.announced ≡ 0) → value ≡ known
  exactly count known value views told nobody =
      let total : ℕ = sum_by (λ (u : View O C R). of_count count u.announced) views in
      let is : value ≡ known + total = told.value in
      dite (dec_le 1 total)
      (λ more.
      let someone = some_part (λ (u : View O C R). of_count count u.announced) views more in
      let none = nobody someone.0 someone.1 someone.2 in
      let some_of = someone.3 in
      absurd (omega arith))
      (λ no. omega (arith, lt_of_not-le no))
