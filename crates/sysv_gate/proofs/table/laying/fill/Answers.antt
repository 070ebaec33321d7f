use Rattle.std.proofs.Common.{rules, [], ◌∷◌, ◌++◌, Some, ap, ◌∙◌}
use Rattle.sysv_gate.proofs.Laid.{filling_starts, filling_goes, filling_ends}
use Rattle.sysv_gate.proofs.table.laying.fill.Goals as goal

pub loop-object-init : goal.loop-object-init
loop-object-init g c =
    record { filling = filling_starts _ _ _ (search rules) c.requires.room.0; room = search rules; same = search rules }

pub loop-object-preserved : goal.loop-object-preserved
loop-object-preserved g c = record {
  filling = filling_goes _ _ _ _ _ _ c.loop-object.invariant.filling c.in-Some.ensures.items
      (c.push_reserved.ensures.items
      ∙ ap (λ l. c.loop-object.spots.items ++ Some (record { object = c.in-Some.object; last = l }) ∷ [])
      c.none.ensures);
  room = search rules;
  same = search rules;
}

pub returns-clause-spots : goal.returns-clause-spots
returns-clause-spots g c = filling_ends _ _ _ c.loop-object.invariant.filling (search rules)
