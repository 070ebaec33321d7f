use Rattle.sysv_engine.proofs.rows.Rows.close.Goals as goal

pub join_pass-requires-clause-other : goal.join_pass-requires-clause-other
join_pass-requires-clause-other g c = c.args.self.fits c.in-Some.own c.in-Some.is
