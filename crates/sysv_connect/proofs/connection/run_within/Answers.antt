use Rattle.std.specs.Int.{w32}
use Rattle.std.proofs.lemmas.Int.{to_z-of_z}
use Rattle.sysv_connect.proofs.EndLemmas.{has_run, run_refused}
use Rattle.sysv_connect.proofs.connection.run_within.Goals as goal

pub returns-in_default : goal.returns-in_default
returns-in_default g c =
    run_refused c.args.command.now c.no_memory.result c.args.teller.now.telling _ _ _ _ c.no_memory.ensures.fails
    c.no_memory.ensures.told

pub returns : goal.returns
returns g c =
    has_run c.args.command.now c.show.result c.run_client-status.result _ _ _ _ _ _ _ _ _ _ _ _
    (to_z-of_z w32 c.run_client-status.result (record { sfits = c.run_client-status.type_inv })) c.in-Ok.ensures.items
    c.as_slice.ensures.value c.run_client-status.ensures.runs c.show.ensures
