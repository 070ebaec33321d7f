use Rattle.std.proofs.Common.{ap, sym, subst, ◌∙◌, ◌≤◌, length, arith}
use Rattle.sysv_gate.specs.History.{Moves}
use Rattle.sysv_gate.specs.Gates.{Joins}
use Rattle.sysv_gate.specs.Locks.{KnowsAll}
use Rattle.sysv_gate.specs.Plays.{both_of, Merges}
use Rattle.sysv_bank.specs.Banks.{Each3, gates_of}
use Rattle.sysv_bank.specs.Passes.{JoinsOrders}
use Rattle.sysv_bank.specs.Resting.{pass_of}
use Rattle.sysv_bank.proofs.Passes.{same_table, gates_same}
use Rattle.sysv_bank.proofs.SeatsMade.{knows_all, joined_now, joined_rests, joined_order}
use Rattle.sysv_bank.proofs.bank.Bank.join.Goals as goal

pub join_pass-requires-clause-table : goal.join_pass-requires-clause-table
join_pass-requires-clause-table g c =
    let same = same_table _ _ _ _ _ _ c.self.invariant c.seat.invariant c.self.view_is c.seat.view_is c.requires.seat in
    let words = c.self.invariant.words in
    let some_place = c.self.invariant.some_place in
    (same.0, omega arith)

pub join_pass-requires-clause-other : goal.join_pass-requires-clause-other
join_pass-requires-clause-other g c =
    let moves = Moves g.O.Object.meaning g.O.Object.counted in
    let s = c.seat.inside in
    let other = c.into_token.ensures in
    let u = other.0 in
    let same = same_table _ _ _ _ _ _ c.self.invariant c.seat.invariant c.self.view_is c.seat.view_is c.requires.seat in
    let theirs = same_table moves _ _ u _ _ c.self.invariant other.2 c.self.view_is other.1 c.requires.other in
    (ap (λ t. t.table_id) (sym other.3) ∙ theirs.0, ap (λ t. t.me.1) (sym other.3) ∙ other.2.no_slot)

pub join_pass-requires-clause-rest : goal.join_pass-requires-clause-rest
join_pass-requires-clause-rest g c =
    let same = same_table _ _ _ _ _ _ c.self.invariant c.seat.invariant c.self.view_is c.seat.view_is c.requires.seat in
    subst (λ os. KnowsAll os c.seat.inside.token.me.0)
    (same.2 ∙ ap (λ k. k.openings.value.items) (sym c.self.invariant.key)) (knows_all _ c.seat.inside c.seat.invariant)

pub join_pass-requires-clause-other_rest : goal.join_pass-requires-clause-other_rest
join_pass-requires-clause-other_rest g c =
    let moves = Moves g.O.Object.meaning g.O.Object.counted in
    let s = c.seat.inside in
    let other = c.into_token.ensures in
    let u = other.0 in
    let same = same_table _ _ _ _ _ _ c.self.invariant c.seat.invariant c.self.view_is c.seat.view_is c.requires.seat in
    let theirs = same_table moves _ _ u _ _ c.self.invariant other.2 c.self.view_is other.1 c.requires.other in
    subst (λ t. KnowsAll c.self.inside.table.shared.key.openings.value.items t.me.0) other.3
    (subst (λ os. KnowsAll os u.token.me.0) (theirs.2 ∙ ap (λ k. k.openings.value.items) (sym c.self.invariant.key))
    (knows_all _ u other.2))

pub invariant_of-seat : goal.invariant_of-seat
invariant_of-seat g c =
    let moves = Moves g.O.Object.meaning g.O.Object.counted in
    let s = c.seat.inside in
    let other = c.into_token.ensures in
    let u = other.0 in
    let same = same_table _ _ _ _ _ _ c.self.invariant c.seat.invariant c.self.view_is c.seat.view_is c.requires.seat in
    let theirs = same_table moves _ _ u _ _ c.self.invariant other.2 c.self.view_is other.1 c.requires.other in
    let told = subst (λ t. Merges moves (both_of s.token.me.0 t.me.0, s.token.me.1) c.join_pass.new.token.me)
    (sym other.3) c.join_pass.ensures.joined in
    let os = theirs.2 ∙ sym same.2 in
    joined_rests moves s u c.seat.invariant other.2 os c.join_pass.new.token c.join_pass.ensures.same told

pub returns-clause-gates : goal.returns-clause-gates
returns-clause-gates g c =
    let moves = Moves g.O.Object.meaning g.O.Object.counted in
    let s = c.seat.inside in
    let other = c.into_token.ensures in
    let u = other.0 in
    let same = same_table _ _ _ _ _ _ c.self.invariant c.seat.invariant c.self.view_is c.seat.view_is c.requires.seat in
    let theirs = same_table moves _ _ u _ _ c.self.invariant other.2 c.self.view_is other.1 c.requires.other in
    let told = subst (λ t. Merges moves (both_of s.token.me.0 t.me.0, s.token.me.1) c.join_pass.new.token.me)
    (sym other.3) c.join_pass.ensures.joined in
    let os = theirs.2 ∙ sym same.2 in
    let rest = joined_rests moves s u c.seat.invariant other.2 os c.join_pass.new.token c.join_pass.ensures.same told in
    gates_same _ s _ c.seat.invariant rest c.join_pass.ensures.same ∙ ap (λ p. gates_of p.seats) c.seat.view_is
    ∙ c.requires.seat

pub returns-clause-joined : goal.returns-clause-joined
returns-clause-joined g c =
    let moves = Moves g.O.Object.meaning g.O.Object.counted in
    let s = c.seat.inside in
    let other = c.into_token.ensures in
    let u = other.0 in
    let same = same_table _ _ _ _ _ _ c.self.invariant c.seat.invariant c.self.view_is c.seat.view_is c.requires.seat in
    let theirs = same_table moves _ _ u _ _ c.self.invariant other.2 c.self.view_is other.1 c.requires.other in
    let told = subst (λ t. Merges moves (both_of s.token.me.0 t.me.0, s.token.me.1) c.join_pass.new.token.me)
    (sym other.3) c.join_pass.ensures.joined in
    let os = theirs.2 ∙ sym same.2 in
    let now = (pass_of (record { token = c.join_pass.new.token; key = s.key })).seats in
    subst (λ l. Each3 (Joins moves) l c.args.other.seats now) (ap (λ p. p.seats) c.seat.view_is)
    (subst (λ l. Each3 (Joins moves) (pass_of s).seats l now) (ap (λ p. p.seats) other.1)
    (joined_now moves s u c.seat.invariant other.2 os c.join_pass.new.token c.join_pass.ensures.same told))

pub returns-clause-order : goal.returns-clause-order
returns-clause-order g c =
    let moves = Moves g.O.Object.meaning g.O.Object.counted in
    let s = c.seat.inside in
    let other = c.into_token.ensures in
    let u = other.0 in
    let same = same_table _ _ _ _ _ _ c.self.invariant c.seat.invariant c.self.view_is c.seat.view_is c.requires.seat in
    let theirs = same_table moves _ _ u _ _ c.self.invariant other.2 c.self.view_is other.1 c.requires.other in
    let told = subst (λ t. Merges moves (both_of s.token.me.0 t.me.0, s.token.me.1) c.join_pass.new.token.me)
    (sym other.3) c.join_pass.ensures.joined in
    let os = theirs.2 ∙ sym same.2 in
    let now = pass_of (record { token = c.join_pass.new.token; key = s.key }) in
    subst (λ p. JoinsOrders p c.args.other now) c.seat.view_is
    (subst (λ p. JoinsOrders (pass_of s) p now) other.1
    (joined_order moves s u c.seat.invariant other.2 os c.join_pass.new.token c.join_pass.ensures.same told
    (subst (λ l. 1 ≤ length l) (sym same.2) c.self.invariant.some_place)))
