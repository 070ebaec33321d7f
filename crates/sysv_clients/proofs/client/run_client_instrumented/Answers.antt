use Rattle.std.specs.Int.{w32}
use Rattle.std.proofs.lemmas.Int.{to_z-of_z}
use Rattle.sysv_clients.proofs.DialogueLemmas.{runs_of}
use Rattle.sysv_clients.proofs.Parses.{shows_parse}
use Rattle.sysv_wire.specs.declared.frame.Version.TheVariants.{Two}
use Rattle.sysv_clients.proofs.client.run_client_instrumented.Goals as goal

pub returns-clause-only : goal.returns-clause-only
returns-clause-only g c =
    rw (to_z-of_z w32 c.dialogue_and_show.result (record { sfits = c.dialogue_and_show.type_inv }))
    (shows_parse (c.one_answer_to_replies.ensures Two) c.one_reply.ensures c.args.command.now c.dialogue_and_show.result
    _ _ _
    _
    _ _ (runs_of c.args.command.now c.dialogue_and_show.result _ _ c.dialogue_and_show.ensures.runs))
