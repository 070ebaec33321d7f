-- The sums over a history with one more turn, and their bounds after every legal history.
use Rattle.std.proofs.Common.{◌≡◌, ℕ, ◌+◌, ◌-◌, ◌≤◌, [], ◌∷◌, ◌++◌, cond, arith}
use Rattle.std.proofs.lemmas.List.Sums.{sum_by_push}
use Rattle.sysv_model.specs.Pool.{PoolCall, Reserve, Release, PoolReply, Reserved, TooFew, Released, Foreign, PoolEntry}
use Rattle.sysv_model.specs.Pool.{PoolHistory, released, frees}
use Rattle.sysv_pool.specs.State.{reserved, returned, reserved_by, returned_by}
use Rattle.sysv_pool.specs.LegalReply.{Legal, IsLegalHistory}
use Rattle.sysv_model.proofs.Snoc.{from_end}
use Rattle.sysv_pool.proofs.Legality.{legal_front, legal_last}

pub reserved-more : (h : PoolHistory) (e : PoolEntry) → reserved (h ++ e ∷ []) ≡ reserved h + reserved_by e.reply
reserved-more h e = sum_by_push (λ (x : PoolEntry). reserved_by x.reply) h e

pub returned-more : (h : PoolHistory) (e : PoolEntry) → returned (h ++ e ∷ []) ≡ returned h + returned_by e.call e.reply
returned-more h e = sum_by_push (λ (x : PoolEntry). returned_by x.call x.reply) h e

pub released-more : (h : PoolHistory) (e : PoolEntry) → released (h ++ e ∷ []) ≡ released h + cond (frees e.reply) 1 0
released-more h e = sum_by_push (λ (x : PoolEntry). cond (frees x.reply) 1 0) h e

-- The sums stay within the size.
pub record Within (size : ℕ) (h : PoolHistory) : Type 0 where
  pub paid : reserved h ≤ size + returned h
  pub owed : returned h ≤ reserved h

-- One more legal reply keeps them within it.
step : (size taken back : ℕ) (count : ℕ) (call : PoolCall) (reply : PoolReply) → taken ≤ size + back → back ≤ taken →
    Legal (record { size = size; free = (size + back) - taken; released = count }) call reply →
    (taken + reserved_by reply ≤ size + (back + returned_by call reply))
    × (back + returned_by call reply ≤ taken + reserved_by reply)
step size taken back count (Reserve n) (Reserved blocks) paid owed legal =
    (omega (arith, legal.0, legal.1), omega arith)
step size taken back count (Reserve n) TooFew paid owed legal = (omega arith, omega arith)
step size taken back count (Reserve n) Released paid owed legal = absurd legal
step size taken back count (Reserve n) Foreign paid owed legal = absurd legal
step size taken back count (Release n) (Reserved blocks) paid owed legal = absurd legal
step size taken back count (Release n) TooFew paid owed legal = absurd legal
step size taken back count (Release n) Released paid owed legal = (omega arith, omega (arith, legal))
step size taken back count (Release n) Foreign paid owed legal = (omega arith, omega arith)

pub within : (size : ℕ) (h : PoolHistory) → IsLegalHistory size h → Within size h
within size = from_end (λ (h : PoolHistory). IsLegalHistory size h → Within size h)
    (λ _. record { paid = omega arith; owed = omega arith })
    (λ h e before legal.
    let was = before (legal_front size h e legal) in
    let s =
    step size (reserved h) (returned h) (released h) e.call e.reply was.paid was.owed (legal_last size h e legal) in
    record {
      paid = rw (reserved-more h e, returned-more h e) s.0;
      owed = rw (reserved-more h e, returned-more h e) s.1;
    })
