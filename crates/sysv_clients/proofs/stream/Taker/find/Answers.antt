use Rattle.std.specs.Int.{w32}
use Rattle.std.proofs.lemmas.Int.{to_z-of_z}
use Rattle.std.proofs.lemmas.Result.{err_from_is_err_and}
use Rattle.sysv_clients.proofs.StreamLemmas.{finds, no_hello, not_found}
use Rattle.sysv_clients.proofs.stream.Taker.find.Goals as goal

pub returns-in_err-welcome-clause-finds : goal.returns-in_err-welcome-clause-finds
returns-in_err-welcome-clause-finds g c =
    let p = err_from_is_err_and c.from_residual.result c.from_residual.ensures.1 in
    rw (p.1, p.2)
    (no_hello c.args.receiving.now c.in_err-welcome.field-0.0 c.exchange_plain.new.given c.args.self.now.text _ _ _ _
    c.requires c.in_err-welcome.ensures.exchanges)

pub returns-in_err-got-clause-finds : goal.returns-in_err-got-clause-finds
returns-in_err-got-clause-finds g c =
    let p = err_from_is_err_and c.from_residual-in_err-got.result c.from_residual-in_err-got.ensures.1 in
    rw (p.1, p.2)
    (not_found c.args.receiving.now c.in_ok-welcome.welcome c.in_err-got.field-0.0 c.exchange_plain.new.given
    c.exchange_plain-2.new.given c.args.self.now.text _ _ _ _ _ _ c.find-find.result c.requires
    c.in_ok-welcome.ensures.exchanges c.find-find.ensures c.in_err-got.ensures.exchanges)

pub returns-clause-finds : goal.returns-clause-finds
returns-clause-finds g c =
    rw (
      c.receive.ensures,
      to_z-of_z w32 c.found-id.result (record { sfits = c.found-id.type_inv }),
      c.found-id.ensures,
      to_z-of_z w32 c.found.result (record { sfits = c.found.type_inv }),
      c.found.ensures,
    )
    (finds c.args.receiving.now c.in_ok-welcome.welcome c.in_ok-got.got c.exchange_plain.new.given
    c.exchange_plain-2.new.given
    c.args.self.now.text _ _ _ _ _ _ c.find-find.result c.messages.result c.in_ok-welcome.ensures.exchanges
    c.find-find.ensures
    c.in_ok-got.ensures.exchanges c.messages.ensures)
