use Rattle.std.proofs.Common.{ap, sym, subst, ◌∙◌, ◌≤◌, map, length, arith}
use Rattle.sysv_gate.specs.History.{Moves}
use Rattle.sysv_gate.specs.Gates.{parted, IsSplit}
use Rattle.sysv_gate.specs.Locks.{KnowsAll}
use Rattle.sysv_bank.specs.Banks.{Each2, gates_of}
use Rattle.sysv_bank.specs.Passes.{SplitsOff}
use Rattle.sysv_bank.specs.Resting.{pass_of}
use Rattle.sysv_bank.proofs.Passes.{same_table, gates_same}
use Rattle.sysv_bank.proofs.SeatsMade.{knows_all, parted_now, parted_rests, split_now, split_rests, split_order}
use Rattle.sysv_bank.proofs.SeatsMade.{rests_key, seats_key}
use Rattle.sysv_bank.proofs.bank.Bank.split_off.Goals as goal

pub split_pass-token-requires-clause-table : goal.split_pass-token-requires-clause-table
split_pass-token-requires-clause-table g c =
    let same = same_table _ _ _ _ _ _ c.self.invariant c.seat.invariant c.self.view_is c.seat.view_is c.requires in
    let words = c.self.invariant.words in
    let some_place = c.self.invariant.some_place in
    (same.0, omega arith)

pub split_pass-token-requires-clause-rest : goal.split_pass-token-requires-clause-rest
split_pass-token-requires-clause-rest g c =
    let same = same_table _ _ _ _ _ _ c.self.invariant c.seat.invariant c.self.view_is c.seat.view_is c.requires in
    subst (λ os. KnowsAll os c.seat.inside.token.me.0)
    (same.2 ∙ ap (λ k. k.openings.value.items) (sym c.self.invariant.key)) (knows_all _ c.seat.inside c.seat.invariant)

pub invariant_of-seat : goal.invariant_of-seat
invariant_of-seat g c = parted_rests _ c.seat.inside c.seat.invariant c.split_pass-token.new.token
    c.split_pass-token.ensures.same.0 c.split_pass-token.ensures.same.1

pub returns-clause-gates : goal.returns-clause-gates
returns-clause-gates g c =
    let rest = parted_rests _ c.seat.inside c.seat.invariant c.split_pass-token.new.token
    c.split_pass-token.ensures.same.0 c.split_pass-token.ensures.same.1 in
    gates_same _ c.seat.inside _ c.seat.invariant rest c.split_pass-token.ensures.same.0
    ∙ ap (λ p. gates_of p.seats) c.seat.view_is ∙ c.requires

pub invariant_of-result : goal.invariant_of-result
invariant_of-result g c =
    let same = same_table _ _ _ _ _ _ c.self.invariant c.seat.invariant c.self.view_is c.seat.view_is c.requires in
    let token = c.split_pass-token.result in
    let new = c.split_pass-token.ensures.new in
    let first = ap (λ k. k.first) c.of.ensures ∙ sym same.1 in
    let os = ap (λ k. k.openings.value.items) c.of.ensures ∙ sym same.2 in
    let rest =
    split_rests (Moves g.O.Object.meaning g.O.Object.counted) c.seat.inside c.seat.invariant token new.0 new.1 in
    rests_key _ (record { token = token; key = c.seat.inside.key }) c.of.result first os rest

pub returns-clause-seats : goal.returns-clause-seats
returns-clause-seats g c =
    let same = same_table _ _ _ _ _ _ c.self.invariant c.seat.invariant c.self.view_is c.seat.view_is c.requires in
    let token = c.split_pass-token.result in
    let new = c.split_pass-token.ensures.new in
    let first = ap (λ k. k.first) c.of.ensures ∙ sym same.1 in
    let os = ap (λ k. k.openings.value.items) c.of.ensures ∙ sym same.2 in
    let rest =
    split_rests (Moves g.O.Object.meaning g.O.Object.counted) c.seat.inside c.seat.invariant token new.0 new.1 in
    let seats = seats_key (Moves g.O.Object.meaning g.O.Object.counted)
    (record { token = token; key = c.seat.inside.key }) c.of.result first os in
    let view = ap (λ p. p.seats) c.seat.view_is in (
      ap gates_of seats ∙ gates_same _ c.seat.inside token c.seat.invariant rest new.0 ∙ ap gates_of view ∙ c.requires,
      parted_now (Moves g.O.Object.meaning g.O.Object.counted) c.seat.inside c.seat.invariant
          c.split_pass-token.new.token c.split_pass-token.ensures.same.0 c.split_pass-token.ensures.same.1
          ∙ ap (map parted) view,
      subst (λ l. Each2 IsSplit l (pass_of (record { token = token; key = c.of.result })).seats) view
          (subst (λ l. Each2 IsSplit (pass_of c.seat.inside).seats l) (sym seats)
          (split_now (Moves g.O.Object.meaning g.O.Object.counted) c.seat.inside c.seat.invariant token new.0 new.1)),
    )

pub returns-clause-order : goal.returns-clause-order
returns-clause-order g c =
    let same = same_table _ _ _ _ _ _ c.self.invariant c.seat.invariant c.self.view_is c.seat.view_is c.requires in
    let token = c.split_pass-token.result in
    let new = c.split_pass-token.ensures.new in
    subst (λ p.
    SplitsOff p (pass_of (record { token = c.split_pass-token.new.token; key = c.seat.inside.key }))
    (pass_of (record { token = token; key = c.of.result }))) c.seat.view_is
    (split_order (Moves g.O.Object.meaning g.O.Object.counted) c.seat.inside c.seat.invariant token new.0 c.of.result
    c.split_pass-token.new.token (subst (λ l. 1 ≤ length l) (sym same.2) c.self.invariant.some_place)
    c.split_pass-token.ensures.same.1 new.1)
