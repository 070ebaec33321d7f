-- The history of an object: its turns, in the order in which they ended. A turn records the number
-- of the seat that made it, the call, the reply, and the object after it. Reed and Kanodia's mutual
-- exclusion by a sequencer and an eventcount determines the order.
use Rattle.std.specs.Prelude.{◌≡◌, ℕ, zero, suc, ◌+◌, ◌<◌, ◌≤◌, List, [], ◌∷◌}
use Rattle.sysv_gate.specs.declared.table.view.Turn.{Turn}
use Rattle.sysv_lists.specs.Numbers.{times, NoneTwice}

-- Each of the two counts stays or rises by one.
abbrev pub RiseByOneAtMost : ℕ × ℕ → ℕ × ℕ → Type 0
RiseByOneAtMost before after =
    (before.0 ≤ after.0) × (after.0 ≤ before.0 + 1) × (before.1 ≤ after.1) × (after.1 ≤ before.1 + 1)

-- Both counts are at most the limit.
abbrev pub AreUpTo : ℕ → ℕ × ℕ → Type 0
AreUpTo limit counts = (counts.0 ≤ limit) × (counts.1 ≤ limit)

-- Both counts are below the limit.
abbrev pub AreBelow : ℕ → ℕ × ℕ → Type 0
AreBelow limit counts = (counts.0 < limit) × (counts.1 < limit)

-- One call of an object: the object's meaning allows the reply and the object after it, and each of
-- the two counts stays or rises by one.
abbrev pub Moves : {O C R : Type 0} → (O → C → R → O → Type 0) → (O → ℕ × ℕ) → O → C → R → O → Type 0
Moves meaning counted before call reply after =
    meaning before call reply after × RiseByOneAtMost (counted before) (counted after)

module _ {O C R : Type 0} where
  -- The object after all turns.
  abbrev pub after_all : O → List (Turn O C R) → O
  after_all opening [] = opening
  after_all opening (t ∷ ts) = after_all t.after ts

  -- The history is legal: each reply, and the object after it, is allowed by the meaning of the
  -- object before it.
  abbrev pub IsLegal : (O → C → R → O → Type 0) → O → List (Turn O C R) → Type 0
  IsLegal moves opening [] = Unit {0}
  IsLegal moves opening (t ∷ ts) = moves opening t.call t.reply t.after × IsLegal moves t.after ts

  -- The call is accepted by the first object, and by each object to which legal turns lead from it.
  abbrev pub IsAccepted : (O → C → R → O → Type 0) → (O → C → Type 0) → O → C → Type 0
  IsAccepted moves accepts opening call =
      (log : List (Turn O C R)) → IsLegal moves opening log → accepts (after_all opening log) call

  -- The number of times that the maker of the turn at the place p of the history is among the
  -- numbers; 0 if there is no such turn.
  abbrev pub made_at : List ℕ → List (Turn O C R) → ℕ → ℕ
  made_at numbers [] p = 0
  made_at numbers (t ∷ ts) zero = times t.by numbers
  made_at numbers (t ∷ ts) (suc p) = made_at numbers ts p

  -- The list has the places of exactly those turns of the history that were made under these
  -- numbers, each once.
  abbrev pub HasItsOwn : List ℕ → List ℕ → List (Turn O C R) → Type 0
  HasItsOwn numbers own history = ((p : ℕ) → times p own ≡ made_at numbers history p) × NoneTwice own
