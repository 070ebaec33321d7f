-- A call at a place, from its ticket to its turn.
use Rattle.std.proofs.Common.{◌≡◌, ℕ, ◌+◌, ◌<◌, ◌^◌, ◌≤◌, false, true, List, [], ◌∷◌, ◌++◌, length, sym, ap, ◌∙◌, subst}
use Rattle.std.proofs.Common.{arith}
use Rattle.sysv_gate.specs.declared.table.view.View.{View}
use Rattle.sysv_gate.specs.declared.table.view.Turn.{Turn}
use Rattle.sysv_lists.specs.Numbers.{times}
use Rattle.sysv_lists.specs.Prefix.{IsPrefixOf}
use Rattle.sysv_lists.proofs.Prefixes.{prefix_trans}
use Rattle.sysv_gate.specs.History.{after_all}
use Rattle.sysv_gate.specs.Counts.{of_count}
use Rattle.sysv_gate.specs.Steps.{Mine, turn_of, drew}
use Rattle.sysv_gate.specs.Turns.{HasDrawn, TurnCame, HasMade}
use Rattle.sysv_gate.specs.Tables.{Passing}
use Rattle.sysv_gate.specs.Locks.{Only, EndsOrder, HasCalled}

module _ {O C R : Type 0} (moves : O → C → R → O → Type 0) (counted : O → ℕ × ℕ) (o : O) where
  -- The turn began, and was made.
  pub called : (m : Mine O C R) (ticket : ℕ) (mid : Mine O C R) (call : C) (reply : R) (m' : Mine O C R) →
      TurnCame moves counted o m.0 ticket mid → HasMade moves o mid.0 call reply m' → m.0.worn ≡ false →
      HasCalled moves counted o m call reply m'
  called m ticket mid call reply m' came made fresh =
      let others : List (Turn O C R) = came.longer.0 in
      let whole : came.log ≡ m.0.seen ++ others = came.longer.1 in
      let seen : mid.0.seen ≡ m.0.seen ++ others = ap (λ (v : View O C R). v.seen) came.view ∙ whole in
      record {
        others = others;
        object = made.object;
        is = made.is
            ∙ ap
            (λ (v : View O C R). (
              record v {
                seen = v.seen ++ turn_of v call reply made.object ∷ [];
                own = v.own ++ length v.seen ∷ [];
                tickets = [];
                in_turn = false;
                announced = (0, 0);
              },
              [],
            )) came.view
            ∙ ap
            (λ (l : List (Turn O C R)). (
              record m.0 {
                seen = l ++ turn_of m.0 call reply made.object ∷ [];
                own = m.0.own ++ length l ∷ [];
                tickets = [];
                in_turn = false;
                announced = (0, 0);
              },
              [],
            )) whole;
        legal = made.legal;
        own = made.own;
        counts = λ count.
            subst (λ (l : List (Turn O C R)). of_count count m.0.read ≤ of_count count (counted (after_all o l))) seen
            (subst (λ (r : ℕ × ℕ). of_count count r ≤ of_count count (counted (after_all o mid.0.seen)))
            (ap (λ (v : View O C R). v.read) came.view) (came.turn.read count));
        fresh = fresh;
      }

  -- The turn began after its ticket was drawn.
  pub came_drawn : (m : Mine O C R) (ticket : ℕ) (mid mid' : Mine O C R) → HasDrawn m ticket mid →
      TurnCame moves counted o mid.0 ticket mid' → TurnCame moves counted o m.0 ticket mid'
  came_drawn m ticket mid mid' drawn came =
      let view : mid.0 ≡ drew ticket m.0 = ap (λ (x : Mine O C R). x.0) drawn.0 in record {
        log = came.log;
        longer = subst (λ (v : View O C R). IsPrefixOf v.seen came.log) view came.longer;
        count = subst (λ (v : View O C R). ticket ≡ v.first + length came.log) view came.count;
        view = came.view
            ∙ ap (λ (v : View O C R). record v { seen = came.log; tickets = ticket ∷ []; in_turn = true }) view;
        turn = came.turn;
      }

  -- When a turn has begun, the history has room for it, and the seat has its own number.
  pub room_for : (v : View O C R) (ticket : ℕ) (mid : Mine O C R) → TurnCame moves counted o v ticket mid →
      ticket < 2 ^ 62 → length mid.0.seen < 2 ^ 62
  room_for v ticket mid came low =
      let long : length mid.0.seen ≡ length came.log = ap (λ (u : View O C R). length u.seen) came.view in
      let count = came.count in
      omega arith

  pub still_named : (v : View O C R) (ticket : ℕ) (mid : Mine O C R) → TurnCame moves counted o v ticket mid →
      1 ≤ times v.number v.numbers → 1 ≤ times mid.0.number mid.0.numbers
  still_named v ticket mid came named = subst (λ (u : View O C R). 1 ≤ times u.number u.numbers) (sym came.view) named

-- The turn is still the last of the order if other steps went before it.
pub order_later : {O C R : Type 0} (place : ℕ) (m mid m' : Passing O C R) → Only place m mid → EndsOrder place mid m' →
    EndsOrder place m m'
order_later place m mid m' only order = record {
  front = order.front;
  turn = order.turn;
  longer = prefix_trans m.0.seen mid.0.seen order.front only.order order.longer;
  order = order.order;
  seen = order.seen;
  by = order.by;
}
