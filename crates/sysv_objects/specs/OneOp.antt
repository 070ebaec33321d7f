-- Each request to a slot, to the registry or to the pool has exactly one legal reply after legal
-- turns (this profile's).
use Rattle.std.specs.Prelude.{◌≡◌, ℕ, List}
use Rattle.sysv_model.specs.Turn.{Ask, Op, asked_by, Turn}
use Rattle.sysv_objects.specs.LegalOp.{IsLegalOp, AreLegal}

-- Each request has a legal reply after legal turns.
abbrev pub SomeOpIsLegal : Type 0
SomeOpIsLegal = (generation blocks : ℕ) (turns : List Turn) (ask : Ask) → AreLegal generation blocks turns →
    (op : Op) × (asked_by op ≡ ask) × IsLegalOp generation blocks turns op

-- Two legal operations with the same request after the same legal turns are equal.
abbrev pub NoTwoOpsAreLegal : Type 0
NoTwoOpsAreLegal = (generation blocks : ℕ) (turns : List Turn) (a b : Op) → AreLegal generation blocks turns →
    asked_by a ≡ asked_by b →
    IsLegalOp generation blocks turns a → IsLegalOp generation blocks turns b → a ≡ b
