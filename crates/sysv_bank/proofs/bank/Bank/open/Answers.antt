use Rattle.std.proofs.Common.{rules, [], ap, sym, subst, ◌∙◌, length, map, arith}
use Rattle.std.proofs.lemmas.List.{length-map}
use Rattle.sysv_gate.specs.Rule.{start}
use Rattle.sysv_gate.specs.Tables.{outset}
use Rattle.sysv_gate.specs.Laying.{AreLocksUpTo}
use Rattle.sysv_bank.specs.Banks.{AreOpened, gates_of}
use Rattle.sysv_bank.specs.Passes.{holdings}
use Rattle.sysv_bank.specs.Resting.{gateways}
use Rattle.sysv_bank.proofs.Passes.{gates_there}
use Rattle.sysv_bank.proofs.SeatsMade.{first_rests, first_named, first_seats, first_opened}
use Rattle.sysv_bank.proofs.bank.Bank.open.Goals as goal

pub invariant_of-bank : goal.invariant_of-bank
invariant_of-bank g c =
    let new = c.in-Some.ensures.some in
    let locks = c.in-Some.ensures.locks in
    let items = ap (λ v. v.items) c.of.ensures in
    let many = ap length items in
    let some_place = c.requires.some in
    let few = locks.1 in
    let counted = c.len.ensures in
    let long = c.args.objects.ok.0 in
    let capacity = c.in-Ok.ensures.capacity in
    record {
      key = new.key;
      words = new.words;
      slots = new.slots;
      some_place = omega arith;
      few = omega arith;
      locks = subst (λ os. AreLocksUpTo os (length os) c.in-Some.locks.items) (sym items) locks.0;
      none_yet = c.in-Ok.ensures.items;
      room = omega arith;
    }

pub invariant_of-seat : goal.invariant_of-seat
invariant_of-seat g c = first_rests _ _
    (c.in-Some.ensures.some.me ∙ ap (λ k. (outset k.openings.value.items k.first, [])) (sym c.of-in-Some.ensures))

pub returns-in-Some-clause-ok : goal.returns-in-Some-clause-ok
returns-in-Some-clause-ok g c =
    let new = c.in-Some.ensures.some in
    let first = c.args.first in
    let items = ap (λ v. v.items) c.of.ensures in
    let os = c.of.result.value.items in
    let table = c.in-Some.table.shared.table_id in (
      subst (λ xs. AreOpened xs first (gateways table first os)) items (first_opened table first os),
      ap (λ k. holdings c.in-Some.token.table_id k.first k.openings.value.items c.in-Some.token.me.0.views)
          c.of-in-Some.ensures
          ∙ ap (λ m. holdings c.in-Some.token.table_id first os m.0.views) new.me
          ∙ ap (λ t. holdings t first os (map (λ o. start o first) os)) new.table
          ∙ first_seats table first os,
      search rules,
    )

pub returns-in-Some-clause-fits : goal.returns-in-Some-clause-fits
returns-in-Some-clause-fits g c =
    let new = c.in-Some.ensures.some in
    let first = c.args.first in
    let items = ap (λ v. v.items) c.of.ensures in
    let os = c.of.result.value.items in (
      ap (λ k. gates_of (holdings c.in-Some.token.table_id k.first k.openings.value.items c.in-Some.token.me.0.views))
          c.of-in-Some.ensures
          ∙ gates_there c.in-Some.token.table_id first os c.in-Some.token.me.0.views
          (ap (λ m. length m.0.views) new.me ∙ length-map os _)
          ∙ ap (λ t. gateways t first os) new.table,
      length-map os _ ∙ ap length items,
    )

pub returns-in-Some-clause-numbers : goal.returns-in-Some-clause-numbers
returns-in-Some-clause-numbers g c =
    let new = c.in-Some.ensures.some in
    let is = new.me ∙ ap (λ k. (outset k.openings.value.items k.first, [])) (sym c.of-in-Some.ensures) in
    let many = ap (λ k. length k.openings.value.items) c.of-in-Some.ensures ∙ ap (λ v. length v.items) c.of.ensures in
    let some_place = c.requires.some in
    let named = first_named (record { token = c.in-Some.token; key = c.of-in-Some.result }) (omega arith) is in
    named

pub returns-in-Some-clause-share : goal.returns-in-Some-clause-share
returns-in-Some-clause-share g c = ap (λ m. m.0.shares) c.in-Some.ensures.some.me
