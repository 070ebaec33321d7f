use Rattle.std.proofs.Common.{ap, ◌∙◌}
use Rattle.std.specs.Int.{w32}
use Rattle.std.proofs.lemmas.Int.{to_z-of_z}
use Rattle.sysv_clients.proofs.client.run_client.Goals as goal

pub returns-clause-only : goal.returns-clause-only
returns-clause-only g c =
    rw (to_z-of_z w32 c.run_client_instrumented.result (record { sfits = c.run_client_instrumented.type_inv }))
    (λ input exchanges ended known makes.
    c.run_client_instrumented.ensures.only input exchanges ended
    (ap (λ r. g.R.Read.remaining r) c.new.ensures.stream ∙ known) makes)
