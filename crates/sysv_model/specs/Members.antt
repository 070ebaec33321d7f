-- A pass of a service, and what it does (this profile's). The definitions state what a pass has
-- seen and say nothing about time. So what passes did can be listed one after the other, however
-- their threads ran.
use Rattle.std.specs.Prelude.{◌≡◌, ℕ, suc, ◌-◌, ◌^◌, ◌≤◌, ◌==◌, List, [], ◌∷◌, ◌++◌, All, filter, map}
use Rattle.std.specs.List.{sum_by}
use Rattle.sysv_lists.specs.Numbers.{times, NoneTwice}
use Rattle.sysv_lists.specs.Prefix.{IsPrefixOf}
use Rattle.sysv_model.specs.Turn.{Op}
use Rattle.sysv_model.specs.Turns.{Numbered}

-- ---- a pass

-- What is known of a pass: the number under which it makes its turns; this number and those of the
-- passes that were joined into it; its shares of the service; and the order of all turns, as far as
-- it has seen it. A share is given by its depth: depth d is the part 1 / 2 ^ d of the service.
pub record Member : Type 0 where
  pub number : ℕ
  pub numbers : List ℕ
  pub shares : List ℕ
  pub order : List Numbered

-- The first pass of a service, which has the whole service and has seen no turn.
abbrev pub first_with : ℕ → Member
first_with number = record { number = number; numbers = number ∷ []; shares = 0 ∷ []; order = [] }

-- The sum of the shares, in parts of which 2 ^ fine are the whole.
abbrev pub parts : ℕ → List ℕ → ℕ
parts fine shares = sum_by (λ depth. 2 ^ (fine - depth)) shares

-- The shares are together the whole service, counted in parts at least as fine as each share.
abbrev pub AreWhole : List ℕ → Type 0
AreWhole shares = (fine : ℕ) × All (λ depth. depth ≤ fine) shares × (parts fine shares ≡ 2 ^ fine)

-- The turns that were made under the number, in order.
abbrev pub under : ℕ → List Numbered → List Numbered
under number order = filter (λ (t : Numbered). t.by == number) order

-- None of the turns was made under one of the numbers.
abbrev pub AreOfOthers : List ℕ → List Numbered → Type 0
AreOfOthers numbers turns = All (λ (t : Numbered). times t.by numbers ≡ 0) turns

-- Each of the turns was made under one of the numbers.
abbrev pub AreOwn : List ℕ → List Numbered → Type 0
AreOwn numbers turns = All (λ (t : Numbered). 1 ≤ times t.by numbers) turns

-- ---- what a pass does

-- The pass has seen more turns, if any, all made by others.
pub record SeesMore (before after : Member) : Type 0 where
  pub others : List Numbered
  pub apart : AreOfOthers before.numbers others
  pub goes_on : after ≡ record before { order = before.order ++ others }

-- The pass has seen turns of others, if any, and has then made a turn. Its own turn is the last
-- that it has seen.
pub record MakesTurn (before : Member) (op : Op) (after : Member) : Type 0 where
  pub others : List Numbered
  pub apart : AreOfOthers before.numbers others
  pub goes_on : after
      ≡ record before { order = (before.order ++ others) ++ record { by = before.number; op = op } ∷ [] }

-- The pass has made turns with these operations, in order, and has seen turns of others before,
-- between and after them.
pub data Does (before : Member) : List Op → Member → Type 0 where
  starts : Does before [] before
  sees : {ops : List Op} {mid : Member} (after : Member) → Does before ops mid → SeesMore mid after →
      Does before ops after
  makes : {ops : List Op} {mid : Member} (op : Op) (after : Member) →
      Does before ops mid → MakesTurn mid op after → Does before (ops ++ op ∷ []) after

-- Another pass was split off, which has seen the same turns. The new pass has one number, and none
-- of these turns was made under it. Each of the two passes has half of each share.
pub record Splits (before kept new : Member) : Type 0 where
  pub apart : AreOfOthers (new.number ∷ []) before.order
  pub parent : kept ≡ record before { shares = map suc before.shares }
  pub child : new
      ≡ record { number = new.number; numbers = new.number ∷ []; shares = map suc before.shares; order = before.order }

-- Another pass was joined into this one, which now has the numbers and the shares of both. Its
-- order begins with what either had seen. The turns in this order under their numbers are just
-- those that they had seen.
pub record Joins (one two after : Member) : Type 0 where
  pub order : List Numbered
  pub begins_one : IsPrefixOf one.order order
  pub begins_two : IsPrefixOf two.order order
  pub own_one : (x : ℕ) → 1 ≤ times x one.numbers → under x order ≡ under x one.order
  pub own_two : (x : ℕ) → 1 ≤ times x two.numbers → under x order ≡ under x two.order
  pub joined : after ≡ record {
    number = one.number;
    numbers = one.numbers ++ two.numbers;
    shares = one.shares ++ two.shares;
    order = order;
  }

-- The service was closed with this pass, and this is the order of all turns. The order begins with
-- what the pass had seen, and the pass has no number twice. If the pass has the whole service, then
-- it had seen all turns, and each was made under one of its numbers.
pub record Closes (last : Member) (order : List Numbered) : Type 0 where
  pub longer : IsPrefixOf last.order order
  pub apart : NoneTwice last.numbers
  pub all : AreWhole last.shares → (order ≡ last.order) × AreOwn last.numbers order
