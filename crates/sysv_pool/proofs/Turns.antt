-- The turns of a pool that represents a history.
use Rattle.std.proofs.Common.{◌≡◌, ℕ, ◌+◌, ◌-◌, ◌≤◌, ◌<◌, [], refl, sym, ap, subst, ◌∙◌, arith}
use Rattle.sysv_model.specs.History.{Who}
use Rattle.sysv_model.specs.Pool.{blocks_for, PoolCall, Reserve, Release, PoolReply, Reserved, TooFew, Released}
use Rattle.sysv_model.specs.Pool.{Foreign, PoolEntry, PoolHistory, released}
use Rattle.sysv_pool.specs.State.{State, free_after}
use Rattle.sysv_pool.specs.LegalReply.{Legal, IsLegalHistory}
use Rattle.sysv_pool.specs.Represents.{Represents, MakesTurn, then_turn}
use Rattle.sysv_pool.proofs.Legality.{legal_empty, legal_more}
use Rattle.sysv_pool.proofs.Sums.{reserved-more, returned-more, released-more, within}

abbrev pub pool : ℕ → ℕ → ℕ → State
pool size free count = record { size = size; free = free; released = count }

pub stands_empty : (size : ℕ) → Represents [] (pool size size 0)
stands_empty size = record { legal = legal_empty size; seen = ap (λ n. pool size n 0) (omega arith) }

-- A call makes a turn if its reply is legal and the pool changes as each history does.
makes_turn : (size free count : ℕ) (call : PoolCall) (reply : PoolReply) (free' count' : ℕ) →
    Legal (pool size free count) call reply →
    ((h : PoolHistory) (who : Who) → IsLegalHistory size h → free_after size h ≡ free → released h ≡ count →
    (free_after size (then_turn h who call reply) ≡ free') × (released (then_turn h who call reply) ≡ count')) →
    MakesTurn (pool size free count) call reply (pool size free' count')
makes_turn size free count call reply free' count' legal goes_on = record {
  legal = legal;
  stands = λ h who s.
      let next = goes_on h who s.legal (ap (λ (p : State). p.free) s.seen) (ap (λ (p : State). p.released) s.seen) in
      record {
        legal = legal_more size h (record { who = who; call = call; reply = reply }) s.legal
            (subst (λ p. Legal p call reply) (sym s.seen) legal);
        seen =
            ap (λ n. pool size n (released (then_turn h who call reply))) next.0 ∙ ap (λ n. pool size free' n) next.1;
      };
}

pub turn_reserved : (size free count n : ℕ) → blocks_for n ≤ free →
    MakesTurn (pool size free count) (Reserve n) (Reserved (blocks_for n)) (pool size (free - blocks_for n) count)
turn_reserved size free count n enough = makes_turn size free count _ _ _ _ (enough, refl)
    (λ h who legal was same.
    let e : PoolEntry = record { who = who; call = Reserve n; reply = Reserved (blocks_for n) } in
    let w = within size h legal in
    (omega (arith, reserved-more h e, returned-more h e, w.paid, was), omega (arith, released-more h e, same)))

pub turn_too_few : (size free count n : ℕ) → free < blocks_for n →
    MakesTurn (pool size free count) (Reserve n) TooFew (pool size free count)
turn_too_few size free count n few = makes_turn size free count _ _ _ _ few
    (λ h who legal was same.
    let e : PoolEntry = record { who = who; call = Reserve n; reply = TooFew } in
    (omega (arith, reserved-more h e, returned-more h e, was), omega (arith, released-more h e, same)))

pub turn_released : (size free count blocks : ℕ) → free + blocks ≤ size →
    MakesTurn (pool size free count) (Release blocks) Released (pool size (free + blocks) (count + 1))
turn_released size free count blocks fits = makes_turn size free count _ _ _ _ fits
    (λ h who legal was same.
    let e : PoolEntry = record { who = who; call = Release blocks; reply = Released } in
    let w = within size h legal in
    (omega (arith, reserved-more h e, returned-more h e, w.paid, was), omega (arith, released-more h e, same)))

pub turn_foreign : (size free count blocks : ℕ) → size < free + blocks →
    MakesTurn (pool size free count) (Release blocks) Foreign (pool size free count)
turn_foreign size free count blocks over = makes_turn size free count _ _ _ _ over
    (λ h who legal was same.
    let e : PoolEntry = record { who = who; call = Release blocks; reply = Foreign } in
    (omega (arith, reserved-more h e, returned-more h e, was), omega (arith, released-more h e, same)))
