use Rattle.sysv_engine.proofs.rows.Rows.row.Goals as goal

pub list_row-requires : goal.list_row-requires
list_row-requires g c = c.args.self.now.fits c.in-Some.pass c.in-Some.is
