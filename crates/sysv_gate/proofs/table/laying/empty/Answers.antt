use Rattle.std.proofs.Common.{rules, ◌≡◌, ap, ◌∙◌, arith, length}
use Rattle.std.proofs.lemmas.List.{length-map}
use Rattle.std.specs.Prelude.{None}
use Rattle.sysv_gate.specs.Laying.{all_put}
use Rattle.sysv_gate.proofs.Laid.{emptying_starts, emptying_has, emptying_goes, emptying_ends}
use Rattle.sysv_gate.proofs.table.laying.empty.Goals as goal

pub loop-spot-init : goal.loop-spot-init
loop-spot-init g c =
    let all = c.requires.spots.0 in
    let none : length c.args.objects.now.items ≡ 0 = ap length c.requires.none in
    let many : length c.args.spots.items ≡ length all = ap length c.requires.spots.1 ∙ length-map all _ in
    let room = c.requires.spots.2 in
    record { emptying = emptying_starts all _ _ c.requires.spots.1 c.requires.none; room = omega arith }

pub object_out-requires : goal.object_out-requires
object_out-requires g c = emptying_has _ _ _ _ _ c.loop-spot.invariant.emptying c.in-Some.ensures.items

pub loop-spot-preserved : goal.loop-spot-preserved
loop-spot-preserved g c =
    record {
      emptying = emptying_goes _ _ _ _ _ _ (record { object = c.object_out.result; last = None })
          c.loop-spot.invariant.emptying c.in-Some.ensures.items c.object_out.ensures c.push_reserved.ensures.items;
      room = search rules;
    }

pub returns : goal.returns
returns g c =
    record { back = emptying_ends _ _ _ c.loop-spot.invariant.emptying (search rules) ∙ ap all_put (search rules) }
