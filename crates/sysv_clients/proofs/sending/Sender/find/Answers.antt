use Rattle.std.specs.Int.{w32}
use Rattle.std.proofs.lemmas.Int.{to_z-of_z}
use Rattle.std.proofs.lemmas.Result.{err_from_is_err_and}
use Rattle.sysv_clients.proofs.SendLemmas.{no_hello, not_found, opens}
use Rattle.sysv_clients.proofs.sending.Sender.find.Goals as goal

pub returns-in_err-welcome-clause-opens : goal.returns-in_err-welcome-clause-opens
returns-in_err-welcome-clause-opens g c =
    let p = err_from_is_err_and c.from_residual.result c.from_residual.ensures.1 in
    rw (p.1, p.2)
    (no_hello c.args.sending.now c.in_err-welcome.field-0.0 c.exchange.new.given c.args.self.now.text _ _ _ _
    c.requires c.in_err-welcome.ensures.exchanges)

pub returns-in_err-got-clause-opens : goal.returns-in_err-got-clause-opens
returns-in_err-got-clause-opens g c =
    let p = err_from_is_err_and c.from_residual-in_err-got.result c.from_residual-in_err-got.ensures.1 in
    rw (p.1, p.2)
    (not_found c.args.sending.now c.in_ok-welcome.welcome c.in_err-got.field-0.0 c.exchange.new.given
    c.exchange-2.new.given c.args.self.now.text _ _ _ _ _ _ c.find.result c.requires
    c.in_ok-welcome.ensures.exchanges c.find.ensures c.in_err-got.ensures.exchanges)

pub returns-clause-opens : goal.returns-clause-opens
returns-clause-opens g c =
    rw (
      to_z-of_z w32 c.found-2.result (record { sfits = c.found-2.type_inv }),
      c.found-2.ensures,
      to_z-of_z w32 c.found.result (record { sfits = c.found.type_inv }),
      c.found.ensures,
    )
    (opens c.args.sending.now c.in_ok-welcome.welcome c.in_ok-got.got c.exchange.new.given c.exchange-2.new.given
    c.args.self.now.text _ _ _ _ _ _ c.find.result c.in_ok-welcome.ensures.exchanges c.find.ensures
    c.in_ok-got.ensures.exchanges)
