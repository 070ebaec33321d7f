-- What is free in the pool later, and what was released.
use Rattle.std.proofs.Common.{◌≡◌, ◌⊎◌, ◌<◌, ◌≤◌, inl, inr, ℕ, List, [], ◌∷◌, ◌++◌, refl, sym, ap, subst, arith}
use Rattle.std.proofs.Common.{append_assoc, ◌∙◌}
use Rattle.std.proofs.lemmas.Grind.{flat_map-append}
use Rattle.std.proofs.lemmas.List.{append-nil}
use Rattle.sysv_model.specs.Pool.{PoolCall, Reserve, Release, PoolReply, Reserved, TooFew, Released, Foreign, PoolEntry}
use Rattle.sysv_model.specs.History.{Who}
use Rattle.sysv_model.specs.Pool.{PoolHistory, frees, released, blocks_for}
use Rattle.sysv_model.specs.Turn.{AtPool, Turn, pool_entry, pool_history}
use Rattle.sysv_objects.specs.LegalOp.{AreLegal}
use Rattle.sysv_pool.specs.State.{returned_by, free_after}
use Rattle.sysv_core.proofs.Histories.{turn_of, one, released_more, returned_more, reserved_more}

counts_or_not : (call : PoolCall) (reply : PoolReply) → (one (frees reply) ≡ 1) ⊎ (returned_by call reply ≡ 0)
counts_or_not call Released = inl refl
counts_or_not (Reserve size) reply = inr refl
counts_or_not (Release blocks) (Reserved n) = inr refl
counts_or_not (Release blocks) TooFew = inr refl
counts_or_not (Release blocks) Foreign = inr refl

-- As long as no chain comes back, no block becomes free.
pub record IsLater (size : ℕ) (h more : PoolHistory) : Type 0 where
  pub never_less : released h ≤ released (h ++ more)
  pub no_more_free : released (h ++ more) ≤ released h → free_after size (h ++ more) ≤ free_after size h

one_later : (size : ℕ) (h : PoolHistory) (e : PoolEntry) (more : PoolHistory) → IsLater size (h ++ e ∷ []) more →
    IsLater size h (e ∷ more)
one_later size h e more later =
    let whole : (h ++ e ∷ []) ++ more ≡ h ++ e ∷ more = append_assoc h (e ∷ []) more in
    let count = released_more h e in
    let returns = returned_more h e in
    let reserves = reserved_more h e in
    let never : released (h ++ e ∷ []) ≤ released (h ++ e ∷ more) =
    subst (λ k. released (h ++ e ∷ []) ≤ released k) whole later.never_less in
    record {
      never_less = omega (arith, count, never);
      no_more_free = λ same.
          let rest : free_after size (h ++ e ∷ more) ≤ free_after size (h ++ e ∷ []) =
          subst (λ k. free_after size k ≤ free_after size (h ++ e ∷ [])) whole
          (later.no_more_free
          (subst (λ k. released k ≤ released (h ++ e ∷ [])) (sym whole) (omega (arith, same, count)))) in
          elim (counts_or_not e.call e.reply) [
            | inl counted ↦ absurd (omega (arith, counted, count, never, same))
            | inr none ↦ omega (arith, rest, none, returns, reserves)
          ];
    }

pub later : (size : ℕ) (h more : PoolHistory) → IsLater size h more
later size h [] =
    let same : h ++ [] ≡ h = append-nil h in
    record {
      never_less = subst (λ k. released h ≤ released k) (sym same) (omega arith);
      no_more_free = λ low. subst (λ k. free_after size k ≤ free_after size h) (sym same) (omega arith);
    }
later size h (e ∷ more) = one_later size h e more (later size (h ++ e ∷ []) more)

-- A body for which a reserve found too few blocks still has too few, if the released count is not
-- higher than it was then.
pub short_at : (generation blocks : ℕ) (turns : List Turn) → AreLegal generation blocks turns →
    (before after : List Turn) (who : Who) (size : ℕ) →
    turns ≡ before ++ turn_of who (AtPool (Reserve size) TooFew) ∷ after →
    released (pool_history turns) ≤ released (pool_history before) →
    free_after blocks (pool_history turns) < blocks_for size
short_at generation blocks turns legal before after who size whole low =
    let h = pool_history before in
    let e : PoolEntry = record { who = who; call = Reserve size; reply = TooFew } in
    let more = pool_history after in
    let entries : pool_history turns ≡ h ++ e ∷ more =
    ap pool_history whole
    ∙ flat_map-append (λ (t : Turn). pool_entry t.who t.op) before
    (turn_of who (AtPool (Reserve size) TooFew) ∷ after) in
    let few : free_after blocks h < blocks_for size = legal.pool h e more entries in
    let now = (later blocks h (e ∷ more)).no_more_free (subst (λ k. released k ≤ released h) entries low) in
    subst (λ k. free_after blocks k < blocks_for size) (sym entries) (omega (arith, now, few))
