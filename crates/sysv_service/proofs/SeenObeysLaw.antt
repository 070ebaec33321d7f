-- Proves that what each seat has seen obeys the law of its object.
use Rattle.std.proofs.Common.{◌≡◌, ℕ, zero, suc, List, [], ◌∷◌, map, sym, ap, subst, arith}
use Rattle.std.specs.List.{All}
use mathlib.Core.Option.{some, some-injective, some-ne-none}
use lib.ListN.{get_elem?}
use Rattle.sysv_keys.specs.Represents.{Represents as RegistryRepresents}
use Rattle.sysv_pool.specs.Represents.{Represents as PoolRepresents}
use Rattle.sysv_queue.specs.Slot.{Slot}
use Rattle.sysv_queue.specs.Represents.{Represents as SlotRepresents}
use Rattle.sysv_gate.specs.Gates.{Gateway}
use Rattle.sysv_service.specs.Seats.{SlotSeat, Seats}
use Rattle.sysv_service.specs.SeenHistories.{SeenHistoriesObey, EachKnowsItsOwn, ObeysIfOpen}

-- A fact of all elements of a mapped list holds of the image of each element.
all_there : {A B : Type 0} (P : B → Type 0) (f : A → B) (xs : List A) (i : ℕ) (x : A) → All P (map f xs) →
    get_elem? xs i ≡ some x → P (f x)
all_there P f [] i x all at = absurd (some-ne-none x (sym at))
all_there P f (y ∷ ys) zero x all at = subst (λ z. P (f z)) (some-injective y x at) (all 0 (f y) (omega arith))
all_there P f (y ∷ ys) (suc i) x all at = all_there P f ys i x (λ k d less. all (suc k) d (omega arith)) at

there_too : {A B : Type 0} (f : A → B) (xs : List A) (i : ℕ) (x : A) → get_elem? xs i ≡ some x →
    get_elem? (map f xs) i ≡ some (f x)
there_too f [] i x at = absurd (some-ne-none x (sym at))
there_too f (y ∷ ys) zero x at = ap (λ z. some (f z)) (some-injective y x at)
there_too f (y ∷ ys) (suc i) x at = there_too f ys i x at

pub each_obeys : (seats : Seats) → EachKnowsItsOwn seats → SeenHistoriesObey → ObeysIfOpen seats
each_obeys seats known law generation blocks first gates began fit = record {
  slots = λ slot seat at.
      let vacant = subst (λ (gs : List (Gateway Slot)).
      All (SlotRepresents []) (map (λ (g : Gateway Slot). g.opening) gs)) (sym fit.slots) began.slots.1 in
      let there = there_too (λ (h : SlotSeat). h.gate) seats.slots slot seat at in
      let stands = all_there (SlotRepresents []) (λ (g : Gateway Slot). g.opening)
      (map (λ (h : SlotSeat). h.gate) seats.slots) slot seat.gate vacant there in
      law.slots seat stands (known.slots slot seat at).legal;
  registry = law.registry generation seats.registry
      (subst (λ g. RegistryRepresents generation [] g.opening) (sym fit.registry) began.registry.0)
      known.registry.legal;
  pool = law.pool seats.pool (subst (λ g. PoolRepresents [] g.opening) (sym fit.pool) began.pool.0) known.pool.legal;
}
