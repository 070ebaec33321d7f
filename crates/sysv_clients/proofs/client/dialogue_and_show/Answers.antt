use Rattle.std.specs.Int.{w32}
use Rattle.std.proofs.lemmas.Int.{to_z-of_z}
use Rattle.sysv_clients.proofs.DialogueLemmas.{refused_so}
use Rattle.sysv_clients.proofs.client.dialogue_and_show.Goals as goal

pub returns-clause-runs : goal.returns-clause-runs
returns-clause-runs g c =
    rw (to_z-of_z w32 c.show_fault-in-Err.result (record { sfits = c.show_fault-in-Err.type_inv }))
    (refused_so c.args.command.now _ _ _ c.show_fault-in-Err.ensures)
