use Rattle.std.proofs.Common.{ap, refl, ◌∙◌, ◌*◌, [], length, arith}
use lib.ListN.{get_elem?}
use Rattle.sysv_gate.specs.Tables.{outset}
use Rattle.sysv_gate.proofs.OpenedMeetsRule.{pushed, popped}
use Rattle.sysv_gate.proofs.table.laying.lay_one.Goals as goal

pub returns-in-Some-clause-ok : goal.returns-in-Some-clause-ok
returns-in-Some-clause-ok g c =
    let new = c.in-Some.ensures.some in
    let items = pushed _ _ _ c.args.object c.push_reserved.ensures.items c.in-Ok.ensures.items refl in
    let os = ap (λ v. v.items) c.of.ensures ∙ items in
    let locks = c.in-Some.ensures.locks.0 in
    let one = ap length items in
    let lock = popped _ _ _ _ c.in-Some-pop.ensures.items (locks.0 ∙ one)
    (locks.1 0 c.args.object (omega arith) (ap (λ l. get_elem? l 0) items)) in (
      record {
        openings = ap (λ k. k.openings.value.items) new.key ∙ os;
        first = ap (λ k. k.first) new.key;
        words = new.words ∙ ap (λ l. 80 * length l) os;
        slots = new.slots ∙ ap length os;
        is = lock;
      },
      new.table,
      new.me ∙ ap (λ l. (outset l c.args.first, [])) os,
    )
