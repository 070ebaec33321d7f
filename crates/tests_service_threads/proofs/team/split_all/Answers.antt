use Rattle.std.proofs.Common.{sym, subst, rules}
use Rattle.std.specs.List.{All}
use Rattle.std.proofs.lemmas.List.Elements.{All-push}
use Rattle.sysv_service.specs.Seats.{AreOf}
use Rattle.tests_service_threads.specs.declared.team.Member.{Member}
use Rattle.tests_service_threads.proofs.team.split_all.Goals as goal

pub loop-part-preserved : goal.loop-part-preserved
loop-part-preserved g c =
    let i = c.loop-part.invariant in
    let of = λ (m : Member). AreOf c.args.service.now m.pass.seats in record {
      pass = c.split_one.ensures.pass;
      members =
          subst (All of) (sym c.push_reserved.ensures.items) (All-push of _ _ i.members c.split_one.ensures.member);
      room = search rules;
    }
