-- What a bank promises of its passes and of their order, in the terms of the world. This project's
-- profile.
use Rattle.std.specs.Prelude.{◌≡◌, ℕ, false, List, [], ◌∷◌, ◌++◌, length}
use mathlib.Core.Option.{some}
use lib.ListN.{get_elem?}
use Rattle.sysv_model.specs.Turn.{Op}
use Rattle.sysv_model.specs.Turns.{turns_of}
use Rattle.sysv_model.specs.Members.{first_with, SeesMore, MakesTurn, Splits, Joins, Closes}
use Rattle.sysv_objects.specs.LegalOp.{AreLegal}
use Rattle.sysv_gate.specs.declared.gate.closing.Closing.{Closing}
use Rattle.sysv_gate.specs.History.{Moves, IsLegal, after_all}
use Rattle.sysv_gate.specs.Gates.{Gateway, Answers}
use Rattle.sysv_gate.specs.Orders.{turns_at, AreBelow}
use Rattle.sysv_bank.specs.Banks.{gates_of, ChangesAt}
use Rattle.sysv_bank.specs.Passes.{GoesOn, AddsToOrder, SplitsOff, JoinsOrders}
use Rattle.sysv_bank.specs.Closing.{ClosesInOrder}
use Rattle.sysv_service.specs.declared.kinds.Gated.{Gated}
use Rattle.sysv_objects.specs.declared.object.ObjectCall.{ObjectCall}
use Rattle.sysv_objects.specs.declared.object.ObjectReply.{ObjectReply}
use Rattle.sysv_service.specs.Gated.{GatedMoves, gated_counts}
use Rattle.sysv_service.specs.Opened.{AreOpen}
use Rattle.sysv_service.specs.Banked.{AreByKind, gates_seen}
use Rattle.sysv_service.specs.Order.{GatedPlaced, GatedPass, object_at, op_at, ops_of, member_of}

-- The operation of the turn that was added to the order.
abbrev pub op_added : (gates : List (Gateway Gated)) (place : ℕ) (before after : GatedPass) →
    AddsToOrder place before after → Op
op_added gates place before after adds = op_at place (object_at gates place (before.order ++ adds.others)) adds.turn

-- The object at the place has replied to the call, in a turn of the pass's own.
abbrev pub AnswersAt : ℕ → GatedPass → ObjectCall → ObjectReply → GatedPass → Type 0
AnswersAt place before call reply after =
    ChangesAt place before.seats after.seats
    (λ b a. Answers (Moves GatedMoves gated_counts) gated_counts b call reply a × (b.worn ≡ false))

-- The operation of that turn.
abbrev pub op_answered : (place : ℕ) (before : GatedPass) (call : ObjectCall) (reply : ObjectReply)
    (after : GatedPass) → AnswersAt place before call reply after → Op
op_answered place before call reply after c =
    let a = c.change.0 in
    op_at place (after_all c.was.gate.opening (c.was.seen ++ a.others))
    (record { by = c.was.number; call = call; reply = reply; after = a.object })

-- Each turn of the order is one that the object at its place can make, and each is at a place with
-- a gate.
pub record IsLegalOrder (gates : List (Gateway Gated)) (order : List GatedPlaced) : Type 0 where
  pub below : AreBelow (length gates) order
  pub each : (place : ℕ) (gate : Gateway Gated) → get_elem? gates place ≡ some gate →
      IsLegal (Moves GatedMoves gated_counts) gate.opening (turns_at place order)

-- What a bank promises of its passes holds in the terms of the world.
pub record OrdersAreOfTeams : Type 0 where
  pub opens : (gates : List (Gateway Gated)) (pass : GatedPass) →
      (pass.order ≡ []) × (pass.number ≡ 0) × (pass.numbers ≡ 0 ∷ []) → pass.shares ≡ 0 ∷ [] →
      member_of gates pass ≡ first_with 0
  pub sees : (gates : List (Gateway Gated)) (before after : GatedPass) → GoesOn before after →
      SeesMore (member_of gates before) (member_of gates after)
  pub makes : (gates : List (Gateway Gated)) (place : ℕ) (before after : GatedPass)
      (adds : AddsToOrder place before after) →
      MakesTurn (member_of gates before) (op_added gates place before after adds) (member_of gates after)
  -- The turn that was added is the one that returned the reply.
  pub answered : (place : ℕ) (before after : GatedPass) (call : ObjectCall) (reply : ObjectReply)
      (adds : AddsToOrder place before after) (c : AnswersAt place before call reply after) →
      op_added (gates_of before.seats) place before after adds ≡ op_answered place before call reply after c
  pub splits : (gates : List (Gateway Gated)) (before kept new : GatedPass) → SplitsOff before kept new →
      Splits (member_of gates before) (member_of gates kept) (member_of gates new)
  pub joins : (gates : List (Gateway Gated)) (one two after : GatedPass) → JoinsOrders one two after →
      Joins (member_of gates one) (member_of gates two) (member_of gates after)
  pub closes : (gates : List (Gateway Gated)) (last : GatedPass) (closings : List (Closing Gated)) →
      (closes : ClosesInOrder (Moves GatedMoves gated_counts) last closings) →
      Closes (member_of gates last) (ops_of gates closes.order)
  -- The order that is found when the bank is closed has legal turns.
  pub ends : (last : GatedPass) (closings : List (Closing Gated)) → length closings ≡ length last.seats →
      (closes : ClosesInOrder (Moves GatedMoves gated_counts) last closings) →
      IsLegalOrder (gates_of last.seats) closes.order
  -- If nothing had happened at the objects, the replies that the world has for these turns are
  -- legal.
  pub legal : (generation blocks first : ℕ) (gates : List (Gateway Gated)) (order : List GatedPlaced) →
      AreByKind gates → AreOpen generation blocks first (gates_seen gates) →
      IsLegalOrder gates order → AreLegal generation blocks (turns_of (ops_of gates order))
