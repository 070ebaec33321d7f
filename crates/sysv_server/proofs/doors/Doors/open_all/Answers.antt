-- One socket more is open, or could not be opened.
use Rattle.std.proofs.Common.{◌∙◌, None, arith}
use Rattle.sysv_server.proofs.Came.{one_after}
use Rattle.sysv_server.proofs.doors.Doors.open_all.Goals as goal

pub returns-in_err-open_at : goal.returns-in_err-open_at
returns-in_err-open_at g c = record {
  came = one_after g.L.Listens.steps _ _ _ None c.loop-number.invariant.0 c.open_at.ensures.came;
  length = c.open_at.ensures.length ∙ c.loop-number.invariant.1;
  common = c.open_at.ensures.common ∙ c.loop-number.invariant.2;
  rest = c.open_at.ensures.rest _ (omega arith) ∙ c.loop-number.invariant.3;
}

pub loop-number-preserved : goal.loop-number-preserved
loop-number-preserved g c = (
  one_after g.L.Listens.steps _ _ _ None c.loop-number.invariant.0 c.open_at.ensures.came,
  c.open_at.ensures.length ∙ c.loop-number.invariant.1,
  c.open_at.ensures.common ∙ c.loop-number.invariant.2,
  c.open_at.ensures.rest _ (omega arith) ∙ c.loop-number.invariant.3,
)
