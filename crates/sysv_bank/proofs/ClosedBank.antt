-- What is known of a bank that was closed.
use Rattle.std.proofs.Common.{◌≡◌, ℕ, zero, suc, ◌<◌, ◌≤◌, ⊎_elim, Bool, false, set, List, [], ◌∷◌, ◌++◌, length}
use Rattle.std.proofs.Common.{get_or, refl, sym, ap, ◌∙◌, subst, arith}
use Rattle.std.specs.List.{AllByRecursion}
use mathlib.Core.Option.{some, some-ne-none}
use lib.ListN.{get_elem?}
use Rattle.atomic_table.specs.Table.{State, Final, Seen}
use Rattle.sysv_lists.specs.Prefix.{IsPrefixOf}
use Rattle.sysv_lists.proofs.Places.{at_below, at_snoc_place, there}
use Rattle.sysv_gate.specs.declared.table.view.View.{View}
use Rattle.sysv_gate.specs.declared.table.view.Sight.{Sight}
use Rattle.sysv_gate.specs.declared.table.view.Placed.{Placed}
use Rattle.sysv_gate.specs.declared.gate.closing.Closing.{Closing}
use Rattle.sysv_gate.specs.Rule.{Spot}
use Rattle.sysv_gate.specs.Gates.{Holding}
use Rattle.sysv_gate.specs.Closings.{IsBack, Closes}
use Rattle.sysv_gate.specs.Ending.{IsReadAt}
use Rattle.sysv_gate.specs.History.{made_at}
use Rattle.sysv_gate.specs.Orders.{turns_at, AreBelow, NoneMadeUnder, AllMadeUnder}
use Rattle.sysv_gate.proofs.OneViewKeepsRule.{numbers_once}
use Rattle.sysv_gate.proofs.TableShares.{all_mine}
use Rattle.sysv_gate.specs.Shares.{IsWhole}
use Rattle.sysv_gate.specs.Tables.{view_at, state_at, InOrder}
use Rattle.sysv_gate.proofs.AtTheEnd as end
use Rattle.sysv_bank.specs.declared.seat.BankSeat.TheInside.{Inside}
use Rattle.sysv_bank.specs.Banks.{Each2}
use Rattle.sysv_gate.specs.Held.{holding}
use Rattle.sysv_bank.specs.Passes.{holdings}
use Rattle.sysv_bank.specs.Resting.{pass_of, Rests}
use Rattle.sysv_bank.specs.Closing.{ClosesInOrder}
use Rattle.sysv_bank.proofs.OwnTurns.{goes_without, all_made, ends_there}
use Rattle.sysv_bank.proofs.Passes.{from_view, own_named}

-- Two lists of one length, and the fact at each place.
pub each2_of : {A B : Type 0} (fact : A → B → Type 0) (xs : List A) (ys : List B) → length xs ≡ length ys →
    ((k : ℕ) (x : A) (y : B) → get_elem? xs k ≡ some x → get_elem? ys k ≡ some y → fact x y) → Each2 fact xs ys
each2_of fact [] [] same each = tt
each2_of fact [] (y ∷ ys) same each = absurd (omega arith)
each2_of fact (x ∷ xs) [] same each = absurd (omega arith)
each2_of fact (x ∷ xs) (y ∷ ys) same each =
    (each 0 x y refl refl, each2_of fact xs ys (omega arith) (λ k a b at there. each (suc k) a b at there))

-- A fact at each place of a list.
pub all_at : {A : Type 0} (fact : A → Type 0) (xs : List A) → ((k : ℕ) (x : A) → get_elem? xs k ≡ some x → fact x) →
    AllByRecursion fact xs
all_at fact [] each = tt
all_at fact (x ∷ xs) each = (each 0 x refl, all_at fact xs (λ k y at. each (suc k) y at))

-- A slot that was taken is empty, wherever it is.
pub emptied : (fs : List Bool) (i : ℕ) → get_or (set fs i false) i false ≡ false
emptied [] i = refl
emptied (f ∷ fs) zero = refl
emptied (f ∷ fs) (suc i) = emptied fs i

module _ {O C R : Type 0} (first : ℕ) (words : List ℕ) (slots : List (Spot O C R)) where
  pub none_read : (closings : List (Closing O)) → closings ≡ [] → (place : ℕ) (c : Closing O) →
      get_elem? closings place ≡ some c → IsReadAt first words slots place c
  none_read closings is place c at =
      absurd (some-ne-none c (sym at ∙ ap (λ (l : List (Closing O)). get_elem? l place) is))

  pub one_read : (closings closings' : List (Closing O)) (d : Closing O) (count : ℕ)
      → ((place : ℕ) (c : Closing O) → get_elem? closings place ≡ some c → IsReadAt first words slots place c)
      → length closings ≡ count → closings' ≡ closings ++ d ∷ []
      → IsReadAt first words slots count d → (place : ℕ) (c : Closing O) → get_elem? closings' place ≡ some c
      → IsReadAt first words slots place c
  one_read closings closings' d count read many more new place c at =
      ⊎_elim (λ t. read place c t)
      (λ t.
      subst (λ (k : ℕ). IsReadAt first words slots k c) (sym (t.0 ∙ many))
      (subst (IsReadAt first words slots count) t.1 new))
      (at_snoc_place closings d c place (ap (λ (l : List (Closing O)). get_elem? l place) (sym more) ∙ at))

module _ {O C R : Type 0} (moves : O → C → R → O → Type 0) (counted : O → ℕ × ℕ) (openings : List O) (first : ℕ)
    (id : ℕ) (v : Sight O C R) (words : List ℕ) (slots : List (Spot O C R))
    (final : Final (Seen (InOrder moves counted openings first) id v) words slots) where
  abbrev St : State (Spot O C R) (Sight O C R)
  St = final.0

  abbrev Order : List (Placed O C R)
  Order = final.1.0.0

  module _ (u : Inside O C R) (rest : Rests moves u) (same_first : u.key.value.first ≡ first)
      (same_os : u.key.value.openings.value.items ≡ openings) (is_id : u.token.id ≡ id)
      (is_view : u.token.me.0 ≡ v) where
    -- What one place returns.
    pub closes_at : (place : ℕ) (h : Holding O C R) (c : Closing O) → get_elem? (pass_of u).seats place ≡ some h →
        IsReadAt first words slots place c → (closes : Closes moves h c) × (closes.log ≡ turns_at place Order)
    closes_at place h c at read =
        let from = from_view moves u rest place h at in
        let o : O = from.0 in
        let opens : get_elem? openings place ≡ some o =
        subst (λ (l : List O). get_elem? l place ≡ some o) same_os from.1 in
        let hold : Holding O C R = holding u.token.table_id first o (view_at place v) in
        let same : hold ≡ h =
        (λ i. holding u.token.table_id (sym same_first i) o (view_at place (sym is_view i))) ∙ from.2 in
        subst (λ (k : Holding O C R). (closes : Closes moves k c) × (closes.log ≡ turns_at place Order)) same
        (end.closes_at moves counted openings first id v words slots final place o u.token.table_id c opens
        (ap (λ (x : Sight O C R). (view_at place x).tickets) (sym is_view) ∙ (rest.each place o from.1).0.no_ticket)
        read)

    my_view : (place : ℕ) → get_elem? (state_at place St).views id ≡ some (view_at place u.token.me.0)
    my_view place = end.view_there moves counted openings first id v words slots final place
        ∙ ap (λ (x : Sight O C R). some (view_at place x)) (sym is_view)

    begins : IsPrefixOf u.token.me.0.seen Order
    begins = subst (λ (x : Sight O C R). IsPrefixOf x.seen Order) (sym is_view) (final.1.0.1.seen id v final.1.1).0

    few : (place : ℕ) → place < length openings → place < length u.token.me.0.views
    few place less = let many = rest.many in let same = ap length same_os in omega arith

    strangers_end : NoneMadeUnder (pass_of u).numbers begins.0
    strangers_end =
        goes_without (pass_of u).numbers (length openings) (λ q. (view_at q u.token.me.0).own) u.token.me.0.seen Order
        begins final.1.0.1.below
        (λ q p less. own_named moves u rest q p (let many = rest.many in let same = ap length same_os in omega arith))
        (λ q p less.
        let o = there openings q less in
        let mine = ((final.1.0.1.each q o.0 o.1).3.each id (view_at q u.token.me.0) (my_view q)).own p in
        let many = rest.many in
        let same = ap length same_os in
        let named = ap (λ (l : List ℕ). made_at l (turns_at q Order) p) (rest.named q (omega arith)).1 in
        omega arith)

    -- If no other pass is left, all turns are those of this pass.
    all_end : IsWhole (pass_of u).shares → AllMadeUnder (pass_of u).numbers Order
    all_end whole =
        all_made (pass_of u).numbers (length openings) Order final.1.0.1.below
        (λ q j less near.
        let o = there openings q less in
        let mine = all_mine moves counted openings first Order St id u.token.me.0 final.1.0.1
        (final.1.1 ∙ ap some (sym is_view)) whole q o.0 o.1 j near in
        subst (λ (l : List ℕ). 1 ≤ made_at l (turns_at q Order) j) (rest.named q (few q less)).1 mine)

    as_many : length (pass_of u).seats ≡ length openings
    as_many = seats_length u.key.value.openings.value.items u.token.me.0.views rest.many ∙ ap length same_os
      where
        seats_length : (os : List O) (vs : List (View O C R)) → length vs ≡ length os →
            length (holdings u.token.table_id u.key.value.first os vs) ≡ length os
        seats_length [] vs same = refl
        seats_length (p ∷ os) [] same = absurd (omega arith)
        seats_length (p ∷ os) (w ∷ vs) same = ap suc (seats_length os vs (omega arith))

    module _ (closings : List (Closing O))
        (read : (place : ℕ) (c : Closing O) → get_elem? closings place ≡ some c → IsReadAt first words slots place c)
        (count : length closings ≡ length openings) where
      pub closes_all : Each2 (Closes moves) (pass_of u).seats closings
      closes_all = each2_of (Closes moves) (pass_of u).seats closings (as_many ∙ sym count)
          (λ k h c at there. (closes_at k h c at (read k c there)).0)

      -- If no other pass is left, each place returns its object.
      all_back : IsWhole (pass_of u).shares → AllByRecursion IsBack closings
      all_back whole =
          all_at IsBack closings
          (λ k c at.
          let less = at_below closings k c at in
          let o = there openings k (omega arith) in
          let mine = rest.each k o.0 (subst (λ (l : List O). get_elem? l k ≡ some o.0) (sym same_os) o.1) in
          end.back_at moves counted openings first id v words slots final k o.0 u.token.table_id c o.1
          (subst (λ (x : Sight O C R). IsWhole x.shares) is_view whole)
          (ap (λ (x : Sight O C R). (view_at k x).tickets) (sym is_view) ∙ mine.0.no_ticket) (read k c at))

      pub closes_order : 1 ≤ length openings → ClosesInOrder moves (pass_of u) closings
      closes_order some_place = record {
        order = Order;
        longer = begins;
        strangers = strangers_end;
        apart =
            let o = there openings 0 (omega arith) in
            numbers_once moves o.0 first (turns_at 0 Order) (get_or (state_at 0 St).words 32 0) id (state_at 0 St).homes
            (state_at 0 St).views (view_at 0 u.token.me.0) (final.1.0.1.each 0 o.0 o.1).3 (my_view 0);
        home = λ whole. (
          ends_there (pass_of u).numbers u.token.me.0.seen Order begins strangers_end (all_end whole),
          all_end whole,
          all_back whole,
        );
        below = subst (λ (n : ℕ). AreBelow n Order) (sym as_many) final.1.0.1.below;
        each = λ k h c at there. closes_at k h c at (read k c there);
      }
