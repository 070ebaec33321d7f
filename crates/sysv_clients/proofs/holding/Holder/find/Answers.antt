use Rattle.std.specs.Int.{w32}
use Rattle.std.proofs.lemmas.Int.{to_z-of_z}
use Rattle.std.proofs.lemmas.Result.{err_from_is_err_and}
use Rattle.sysv_clients.proofs.HoldLemmas.{finds, no_hello, not_found}
use Rattle.sysv_clients.proofs.holding.Holder.find.Goals as goal

pub returns-in_err-welcome-clause-finds : goal.returns-in_err-welcome-clause-finds
returns-in_err-welcome-clause-finds g c =
    let p = err_from_is_err_and c.from_residual.result c.from_residual.ensures.1 in
    rw (p.1, p.2)
    (no_hello c.args.receiving.now c.in_err-welcome.field-0.0 c.exchange_in.new.given c.args.self.now.text _ _ _ _
    c.requires c.in_err-welcome.ensures.exchanges)

pub returns-in_err-got-clause-finds : goal.returns-in_err-got-clause-finds
returns-in_err-got-clause-finds g c =
    let p = err_from_is_err_and c.from_residual-in_err-got.result c.from_residual-in_err-got.ensures.1 in
    rw (p.1, p.2)
    (not_found c.args.receiving.now c.in_ok-welcome.welcome c.in_err-got.field-0.0 c.exchange_in.new.given
    c.exchange_in-2.new.given c.args.self.now.text _ _ _ _ _ _ c.find-find.result c.requires
    c.in_ok-welcome.ensures.exchanges c.find-find.ensures c.in_err-got.ensures.exchanges)

pub returns-clause-finds : goal.returns-clause-finds
returns-clause-finds g c =
    rw (
      c.hold.ensures,
      to_z-of_z w32 c.found-2.result (record { sfits = c.found-2.type_inv }),
      c.found-2.ensures,
      to_z-of_z w32 c.found.result (record { sfits = c.found.type_inv }),
      c.found.ensures,
    )
    (finds c.args.receiving.now c.in_ok-welcome.welcome c.in_ok-got.got c.exchange_in.new.given
    c.exchange_in-2.new.given c.args.self.now.text _ _ _ _ _ _ c.find-find.result c.in_ok-welcome.ensures.exchanges
    c.find-find.ensures c.in_ok-got.ensures.exchanges)
