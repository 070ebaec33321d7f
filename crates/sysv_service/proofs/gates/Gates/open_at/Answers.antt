use Rattle.std.proofs.Common.{refl, sym, subst, ◌∙◌}
use Rattle.sysv_bank.specs.Banks.{gates_of}
use Rattle.sysv_service.specs.Banked.{AreByKind, seats_at}
use Rattle.sysv_service.proofs.PlacesShown.{are_of}
use Rattle.sysv_service.proofs.Ordered.{opens}
use Rattle.sysv_service.proofs.FreshObjects.{fresh_low, fresh_many, opened_kinds, opened_open, first_seats}
use Rattle.sysv_service.proofs.gates.Gates.open_at.Goals as goal

pub open-requires-clause-counts : goal.open-requires-clause-counts
open-requires-clause-counts c = fresh_low c.args.generation c.args.blocks c.in-Some.objects.items c.in-Some.ensures

pub invariant_of-result : goal.invariant_of-result
invariant_of-result c =
    let kinds = opened_kinds c.args.generation c.args.blocks c.args.first c.in-Some.objects.items c.in-Ok-open.bank
    c.in-Some.ensures c.in-Ok-open.ensures.ok.0 in (
      kinds,
      c.in-Ok-open.ensures.fits.1
          ∙ fresh_many c.args.generation c.args.blocks c.in-Some.objects.items c.in-Some.ensures,
      c.in-Ok.ensures.items,
      c.in-Ok.ensures.capacity,
    )

pub invariant_of-result-in-Ok-open : goal.invariant_of-result-in-Ok-open
invariant_of-result-in-Ok-open c =
    subst AreByKind (sym c.in-Ok-open.ensures.fits.0)
    (opened_kinds c.args.generation c.args.blocks c.args.first c.in-Some.objects.items c.in-Ok-open.bank
    c.in-Some.ensures c.in-Ok-open.ensures.ok.0)

pub returns-in-Ok-open-clause-open : goal.returns-in-Ok-open-clause-open
returns-in-Ok-open-clause-open c = (
  opened_open c.args.generation c.args.blocks c.args.first c.in-Some.objects.items c.in-Ok-open.bank c.in-Some.ensures
      c.in-Ok-open.ensures.ok.0,
  (λ i. seats_at (c.in-Ok-open.ensures.ok.1 i)
      (opens (gates_of c.in-Ok-open.seat.seats) c.in-Ok-open.seat
      (c.in-Ok-open.ensures.order, c.in-Ok-open.ensures.numbers.0, c.in-Ok-open.ensures.numbers.1)
      c.in-Ok-open.ensures.share i)) ∙ first_seats c.in-Ok-open.bank,
)

pub returns-in-Ok-open-clause-seats : goal.returns-in-Ok-open-clause-seats
returns-in-Ok-open-clause-seats c = are_of c.in-Ok-open.bank c.in-Ok-open.seat _ _ refl refl c.in-Ok-open.ensures.fits.0
