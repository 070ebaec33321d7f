-- What contracts see of a bank's seat, and how the order that it has seen grows. This project's
-- profile.
use Rattle.std.specs.Prelude.{◌≡◌, ℕ, ◌+◌, ◌≤◌, List, [], ◌∷◌, ◌++◌}
use mathlib.Core.Option.{some}
use lib.ListN.{get_elem?}
use Rattle.atomic_table.specs.Seated.{TableId}
use Rattle.sysv_lists.specs.Numbers.{times}
use Rattle.sysv_lists.specs.Prefix.{IsPrefixOf}
use Rattle.sysv_gate.specs.declared.table.view.View.{View}
use Rattle.sysv_gate.specs.declared.table.view.Turn.{Turn}
use Rattle.sysv_gate.specs.declared.table.view.Placed.{Placed}
use Rattle.sysv_gate.specs.declared.count.Count.{Count}
use Rattle.sysv_gate.specs.Gates.{Holding}
use Rattle.sysv_gate.specs.Held.{holding}
use Rattle.sysv_gate.specs.History.{HasItsOwn, IsLegal, after_all}
use Rattle.sysv_gate.specs.Counts.{of_count}
use Rattle.sysv_gate.specs.Shares.{half}
use Rattle.sysv_gate.specs.Orders.{turns_at, NoneMadeUnder, GoesOnWithout}

-- A pass: a seat at each place, the order of the turns at all places, as far as the pass has seen
-- it, the number under which the pass makes its turns, that number with those of the passes that
-- were joined into it, and its share of the bank.
pub record Pass (O C R : Type 0) : Type 0 where
  pub seats : List (Holding O C R)
  pub order : List (Placed O C R)
  pub number : ℕ
  pub numbers : List ℕ
  pub shares : List ℕ

module _ {O C R : Type 0} where
  -- What contracts see of the views, place by place.
  abbrev pub holdings : TableId → ℕ → List O → List (View O C R) → List (Holding O C R)
  holdings table first [] views = []
  holdings table first (o ∷ os) [] = []
  holdings table first (o ∷ os) (v ∷ vs) = holding table first o v ∷ holdings table first os vs

  -- The order that was seen has grown by turns of others only. The pass makes its turns under the
  -- same numbers, and has the same share.
  pub record GoesOn (before after : Pass O C R) : Type 0 where
    pub order : GoesOnWithout before.numbers before.order after.order
    pub number : after.number ≡ before.number
    pub numbers : after.numbers ≡ before.numbers
    pub shares : after.shares ≡ before.shares

  -- The order that was seen has grown by turns of others, and ends with a turn at this place, made
  -- under the pass's number. All turns there that are in the order were seen there, so the last of
  -- them is the last of the order.
  pub record AddsToOrder (place : ℕ) (before after : Pass O C R) : Type 0 where
    pub others : List (Placed O C R)
    pub turn : Turn O C R
    pub order : after.order ≡ (before.order ++ others) ++ record { place = place; turn = turn } ∷ []
    pub seen : (h : Holding O C R) → get_elem? after.seats place ≡ some h → h.seen ≡ turns_at place after.order
    pub strangers : NoneMadeUnder before.numbers others
    pub by : turn.by ≡ before.number
    pub number : after.number ≡ before.number
    pub numbers : after.numbers ≡ before.numbers
    pub shares : after.shares ≡ before.shares

  -- Another pass was split off. It has seen the same order, and has a number of its own, under
  -- which none of these turns was made. Each of the two has half of the share.
  pub record SplitsOff (before after new : Pass O C R) : Type 0 where
    pub order : after.order ≡ before.order
    pub number : after.number ≡ before.number
    pub numbers : after.numbers ≡ before.numbers
    pub shares : after.shares ≡ half before.shares
    pub new_shares : new.shares ≡ half before.shares
    pub new_order : new.order ≡ before.order
    pub new_numbers : new.numbers ≡ new.number ∷ []
    pub no_turn : NoneMadeUnder new.numbers new.order

  -- One pass was joined into another, which has the numbers and the shares of both. The order that
  -- it has seen begins with that of either pass, and goes on from there without a turn of that
  -- pass.
  pub record JoinsOrders (one two after : Pass O C R) : Type 0 where
    pub begins_one : GoesOnWithout one.numbers one.order after.order
    pub begins_two : GoesOnWithout two.numbers two.order after.order
    pub number : after.number ≡ one.number
    pub numbers : after.numbers ≡ one.numbers ++ two.numbers
    pub shares : after.shares ≡ one.shares ++ two.shares

  -- What was seen at each place is a prefix of that place's part of the order.
  abbrev pub SeenInOrder : Pass O C R → Type 0
  SeenInOrder pass = (place : ℕ) (h : Holding O C R) → get_elem? pass.seats place ≡ some h →
      IsPrefixOf h.seen (turns_at place pass.order)

  -- The seat at the place makes its turns under the pass's number, which is one of the pass's
  -- numbers. Its own turns are exactly those of the order there that were made under these numbers.
  pub record IsOfPass (pass : Pass O C R) (place : ℕ) (h : Holding O C R) : Type 0 where
    pub number : h.number ≡ pass.number
    pub numbers : h.numbers ≡ pass.numbers
    pub named : 1 ≤ times pass.number pass.numbers
    pub own : HasItsOwn pass.numbers h.own (turns_at place pass.order)

  -- This holds at each place.
  abbrev pub KnowsItsTurns : Pass O C R → Type 0
  KnowsItsTurns pass = (place : ℕ) (h : Holding O C R) → get_elem? pass.seats place ≡ some h → IsOfPass pass place h

  -- At each place, the turns of the order that the pass has seen are legal. Of each count there, the
  -- pass has read at most one more than the object has after these turns: the one is a rise that
  -- another pass has announced in a turn that has not ended.
  pub record KnowsItsReads (moves : O → C → R → O → Type 0) (counted : O → ℕ × ℕ) (pass : Pass O C R) : Type 0 where
    pub legal : (place : ℕ) (h : Holding O C R) → get_elem? pass.seats place ≡ some h →
        IsLegal moves h.gate.opening (turns_at place pass.order)
    pub reads : (place : ℕ) (h : Holding O C R) → get_elem? pass.seats place ≡ some h → (count : Count) →
        of_count count h.read ≤ of_count count (counted (after_all h.gate.opening (turns_at place pass.order))) + 1
