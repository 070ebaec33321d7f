-- One socket more is closed.
use Rattle.std.proofs.Common.{◌≡◌, ◌∙◌, ℕ, None, ap, arith, false, subst, take}
use Rattle.std.specs.List.{list_any}
use Rattle.std.specs.Prelude.{min, vec_len}
use Rattle.sysv_server.proofs.AnyOpen.{any_after}
use Rattle.sysv_server.proofs.Came.{one_after}
use Rattle.sysv_server.proofs.doors.Doors.close_common.Goals as goal

pub loop-number-preserved : goal.loop-number-preserved
loop-number-preserved g c = (
  one_after g.L.Listens.steps _ _ _ None c.loop-number.invariant.0 c.close_at.ensures.came,
  c.close_at.ensures.length ∙ c.loop-number.invariant.1,
  c.close_at.ensures.closed ∙ c.loop-number.invariant.2,
  c.close_at.ensures.rest _ (omega arith) ∙ c.loop-number.invariant.3,
)

pub returns-clause-open : goal.returns-clause-open
returns-clause-open g c =
    let listens = g.L.Listens.listens in
    let items = c.loop-number.self.sockets.items in
    let end = c.common-number-end.ensures in
    let most = c.loop-number.auto.number-end in
    let least = c.loop-number-test.false in
    let all : c.loop-number.number ≡ min c.args.self.now.common (vec_len c.args.self.now.sockets) = omega arith in
    any_after listens items _
    (subst (λ (n : ℕ). list_any listens (take n items) ≡ false) all c.loop-number.invariant.2)
    ∙ ap (list_any listens) c.loop-number.invariant.3
