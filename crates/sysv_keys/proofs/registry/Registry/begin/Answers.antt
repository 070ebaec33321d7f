use Rattle.std.proofs.Common.{◌≢◌, sym, inl, inr, refl, w32, arith}
use Rattle.std.proofs.lemmas.Grind.{common_steps}
use Rattle.std.proofs.lemmas.Int.{to_z-of_z}
use Rattle.sysv_model.specs.declared.limits.TheConstants.{IPC_PRIVATE}
use Rattle.sysv_keys.specs.State.{state_in}
use Rattle.sysv_keys.specs.LegalReply.{Creates}
use Rattle.sysv_keys.proofs.States.{makes_turn}
use Rattle.sysv_keys.proofs.registry.Registry.begin.Goals as goal
use Rattle.sysv_keys.proofs.registry.Registry.begin.Goals.{then-key-ne-IPC_PRIVATE+in_default+else-not-contains}
use Rattle.sysv_keys.proofs.registry.Registry.begin.Goals.{else-key-ne-IPC_PRIVATE}

pub returns-in-Some-clause-turn : goal.returns-in-Some-clause-turn
returns-in-Some-clause-turn c =
    let finds = rw (to_z-of_z w32 c.args.key c.ranges.key) at c.in-Some.ensures in (finds c.args.flags).0

pub returns-then-not-contains-clause-turn : goal.returns-then-not-contains-clause-turn
returns-then-not-contains-clause-turn c =
    let shared : c.args.key ≢ IPC_PRIVATE = grind (arith, common_steps) in
    let unbound = rw (to_z-of_z w32 c.args.key c.ranges.key) at c.in_default.ensures in
    makes_turn _ _ _ _ (shared, unbound, sym (c.if-not-contains.ensures tt)) refl refl

pub returns-clause-turn : goal.returns-clause-turn
returns-clause-turn c =
    let exact = to_z-of_z w32 c.args.key c.ranges.key in
    let creates : Creates (state_in c.args.self.now) c.args.key c.args.flags = elim c.if-key-ne-IPC_PRIVATE.branch [
      | then-key-ne-IPC_PRIVATE+in_default+else-not-contains w ↦
          inr (rw exact at w.in_default.ensures, sym (w.if-not-contains.ensures tt))
      | else-key-ne-IPC_PRIVATE w ↦ inl (grind (arith, common_steps))
    ] in
    let turn = rw exact at c.create.ensures.turn in
    turn c.args.flags creates
