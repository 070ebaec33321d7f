use Rattle.std.proofs.Common.{rules, ◌≡◌, ◌+◌, ◌^◌, ◌∙◌, ap, sym, subst, true, nat_lt, arith}
use Rattle.std.proofs.lemmas.Bool.Decides.{nat_tests}
use Rattle.sysv_eventcount.specs.Counter.{Holding, Learns}
use Rattle.sysv_eventcount.specs.declared.view.View.{View}
use Rattle.sysv_eventcount.specs.Steps.{Informs}
use Rattle.sysv_eventcount.proofs.StepKeepsRule.{clears, adds, before_clearing}
use Rattle.sysv_eventcount.proofs.word.Word.add.Goals as goal

pub load-found-requires : goal.load-found-requires
load-found-requires g c = (search rules, search rules, clears _ _ _ _ c.seat.invariant.unspent)

pub fetch_add-number-requires : goal.fetch_add-number-requires
fetch_add-number-requires g c =
    let below : nat_lt c.load-found.result (2 ^ 62) ≡ true = grind (arith, nat_tests) in
    (search rules, search rules, adds _ _ _ _ (ap (λ m. m.0.cleared) c.load-found.ensures.2.0 ∙ below))

pub returns-clause-learned : goal.returns-clause-learned
returns-clause-learned g c =
    let number = c.fetch_add-number.result in
    let load = c.load-found.ensures.2 in
    let step = c.fetch_add-number.ensures.2 in
    let before : Informs c.seat.inside.token.me.0 number = before_clearing c.seat.inside.token.me.0
    c.load-found.new.seat.me.0 c.load-found.result number (ap (λ m. m.0) load.0) load.1 step.1 in (
      subst (λ (h : Holding). Learns h number) c.seat.view_is before,
      subst (λ (v : View). Informs v (number + 1)) (sym (ap (λ m. m.0) step.0)) step.2,
    )
