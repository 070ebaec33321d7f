-- A server has as many places as its terms and the limit of open files allow.
use Rattle.std.proofs.Common.{subst}
use Rattle.std.specs.Prelude.{IfErr, IfOk}
use Rattle.sysv_server.specs.Serving.{EndsFrom, FailsFrom, limits_in, looks_in}
use Rattle.sysvmsg.proofs.serving.run_server.Goals as goal

pub returns-clause-ends : goal.returns-clause-ends
returns-clause-ends g c =
    let terms = c.args.serving.now.terms in
    subst (λ places.
    IfOk c.serve_from.result
    (λ ended. EndsFrom g.L.Listens.accepted g.L.Listens.listens g.L.Listens.steps (looks_in terms) terms.blocks
    places terms.sessions (limits_in terms) c.args.listener.now ended c.serve_from.new.listener))
    c.room.ensures.exact c.serve_from.ensures.ok

pub returns-clause-fails : goal.returns-clause-fails
returns-clause-fails g c =
    let terms = c.args.serving.now.terms in
    subst (λ places.
    IfErr c.serve_from.result
    (λ why. FailsFrom g.L.Listens.accepted (looks_in terms) terms.blocks places terms.sessions
    c.args.listener.now why c.serve_from.new.listener))
    c.room.ensures.exact c.serve_from.ensures.err
