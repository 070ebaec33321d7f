-- How a stop proceeds by one slot.
use Rattle.std.specs.Prelude.{⊤}
use Rattle.std.proofs.Common.{◌≡◌, ◌<◌, ℕ, suc, ◌+◌, ◌||◌, arith, inl, inr, Bool, true, false, Option, Some, None}
use Rattle.std.proofs.Common.{Result, Ok, Err, ◌≢◌, refl, sym, subst, ◌∙◌}
use Rattle.sysv_keys.specs.declared.identifier.TheConstants.{SLOTS}
use Rattle.sysv_model.specs.declared.attributes.Row.{Row}
use Rattle.sysv_model.specs.declared.errno.Errno.{Errno}
use Rattle.sysv_model.specs.declared.errno.Errno.TheVariants.{EOVERFLOW}
use Rattle.sysv_steps.specs.Call.{MsgctlRmid}
use Rattle.sysv_steps.specs.Begin.{begin}
use Rattle.sysv_steps.specs.State.{Ending, Zero, Refused, Over}
use Rattle.sysv_steps.specs.Stepping.{no_moment}
use Rattle.sysv_service.specs.Ran.{Pass, Comes}
use Rattle.sysv_service.specs.Told.{TellsRow, TellsZero}
use Rattle.sysv_service.specs.Stopped.{superuser, is_overflow, StopsAt, is_vacant, is_worn, tries}
use Rattle.sysv_service.specs.Stopped.{goes_on, count_of, is_refused, messages_at, messages_of, StopsSlot, StopsSo}

is_other : (why : Errno) → why ≢ EOVERFLOW → is_overflow (Refused why) ≡ false
is_other EOVERFLOW other = absurd (other refl)
is_other why other = refl

-- ---- by how the removal ended

module _ (slot : ℕ) (before : Pass) (row : Row) (mid : Pass) (tells : TellsRow slot before (Ok (Some row)) mid)
    (after : Pass) where
  -- What a removal of this queue may have been, which ended so.
  abbrev Came : Ending → Type 0
  Came ending = Comes no_moment (begin superuser (MsgctlRmid row.id) 0) mid (Over ending) after

  when_removed : (ending : Ending) → Came ending → TellsZero ending (Ok tt) →
      StopsSlot slot before (Ok (Some row.qnum)) after
  when_removed Zero came t = (tries row mid Zero after tells came, refl)
  when_removed ending came t = absurd t

  when_overflowed : (ending : Ending) → Came ending → TellsZero ending (Err EOVERFLOW) →
      StopsSlot slot before (Err EOVERFLOW) after
  when_overflowed (Refused why) came t =
      subst (λ (w : Errno). (at : StopsAt slot before 0 (is_overflow (Refused w)) after) × (messages_at at ≡ 0)) (sym t)
      (tries row mid (Refused why) after tells came, refl)
  when_overflowed ending came t = absurd t

  when_refused : (why : Errno) → why ≢ EOVERFLOW → (ending : Ending) → Came ending → TellsZero ending (Err why) →
      StopsSlot slot before (Ok None) after
  when_refused why other (Refused w) came t =
      subst (λ o. (at : StopsAt slot before 0 o after) × (messages_at at ≡ 0)) (is_other w (λ e. other (t ∙ e)))
      (tries row mid (Refused w) after tells came, refl)
  when_refused why other ending came t = absurd t

-- ---- by the results in the code

module _ (slot : ℕ) (before : Pass) where
  pub worn_at : (told : Result (Option Row) Errno) (why : Errno) (after : Pass) → slot < SLOTS → told ≡ Err why →
      TellsRow slot before told after → StopsSlot slot before (Err why) after
  worn_at told why after there is tells =
      let at : TellsRow slot before (Err why) after = subst (λ r. TellsRow slot before r after) is tells in
      elim at [
        | inl out ↦ absurd (omega (arith, there, out.0))
        | inr worn ↦ (is_worn after (inr (worn.0, refl, worn.2, worn.3)), refl)
      ]

  pub vacant_at : (told : Result (Option Row) Errno) (after : Pass) → told ≡ Ok None → TellsRow slot before told after →
      StopsSlot slot before (Ok None) after
  vacant_at told after is tells = (is_vacant after (subst (λ r. TellsRow slot before r after) is tells), refl)

  module _ (told : Result (Option Row) Errno) (row : Row) (mid : Pass) (is : told ≡ Ok (Some row))
      (tells : TellsRow slot before told mid) where
    read : TellsRow slot before (Ok (Some row)) mid
    read = subst (λ r. TellsRow slot before r mid) is tells

    pub removed_at : (result : Result ⊤ Errno) (after : Pass) → result ≡ Ok tt →
        (ending : Ending) × Comes no_moment (begin superuser (MsgctlRmid row.id) 0) mid (Over ending) after
        × TellsZero ending result → StopsSlot slot before (Ok (Some row.qnum)) after
    removed_at result after ok ran =
        when_removed slot before row mid read after ran.0 ran.1 (subst (TellsZero ran.0) ok ran.2)

    pub overflowed_at : (result : Result ⊤ Errno) (after : Pass) → result ≡ Err EOVERFLOW →
        (ending : Ending) × Comes no_moment (begin superuser (MsgctlRmid row.id) 0) mid (Over ending) after
        × TellsZero ending result → StopsSlot slot before (Err EOVERFLOW) after
    overflowed_at result after err ran =
        when_overflowed slot before row mid read after ran.0 ran.1 (subst (TellsZero ran.0) err ran.2)

    pub refused_at : (result : Result ⊤ Errno) (why : Errno) (after : Pass) → result ≡ Err why → why ≢ EOVERFLOW →
        (ending : Ending) × Comes no_moment (begin superuser (MsgctlRmid row.id) 0) mid (Over ending) after
        × TellsZero ending result → StopsSlot slot before (Ok None) after
    refused_at result why after err other ran =
        when_refused slot before row mid read after why other ran.0 ran.1 (subst (TellsZero ran.0) err ran.2)

-- ---- one more slot

or-false : (b : Bool) → (b || false) ≡ b
or-false true = refl
or-false false = refl

or-true : (b : Bool) → (b || true) ≡ true
or-true true = refl
or-true false = refl

module _ (old : Pass) (slot removed : ℕ) (worn : Bool) (messages : ℕ) (mid : Pass)
    (stops : StopsSo old slot removed worn messages mid) where
  step : (result : Result (Option ℕ) Errno) (new : Pass) → StopsSlot slot mid result new →
      StopsSo old (suc slot) (removed + count_of result) (worn || is_refused result) (messages + messages_of result) new
  step result new at = record {
    run = goes_on (count_of result) (is_refused result) new stops.run at.0;
    counted = let one = stops.counted in let other = at.1 in omega (arith, one, other);
  }

  one_more : (new : Pass) (here more : ℕ) (found : Bool) →
      StopsSo old (suc slot) (removed + here) (worn || found) (messages + more) new →
      (r : ℕ) (w : Bool) (m : ℕ) → r ≡ removed + here → w ≡ worn || found → m ≡ messages + more →
      StopsSo old (slot + 1) r w m new
  one_more new here more found s r w m is was are =
      let next : suc slot ≡ slot + 1 = omega arith in
      subst (λ n. StopsSo old n r w m new) next
      (subst (λ x. StopsSo old (suc slot) x w m new) (sym is)
      (subst (λ x. StopsSo old (suc slot) (removed + here) x m new) (sym was)
      (subst (λ x. StopsSo old (suc slot) (removed + here) (worn || found) x new) (sym are) s)))

  pub next_slot : (result : Result (Option ℕ) Errno) (new : Pass) → StopsSlot slot mid result new →
      ((more : ℕ) → result ≡ Ok (Some more) → (r : ℕ) (w : Bool) (m : ℕ) → r ≡ removed + 1 → w ≡ worn →
      m ≡ messages + more → StopsSo old (slot + 1) r w m new)
      × (result ≡ Ok None → (r : ℕ) (w : Bool) (m : ℕ) → r ≡ removed → w ≡ worn → m ≡ messages →
      StopsSo old (slot + 1) r w m new)
      × ((why : Errno) → result ≡ Err why → (r : ℕ) (w : Bool) (m : ℕ) → r ≡ removed → w ≡ true → m ≡ messages →
      StopsSo old (slot + 1) r w m new)
  next_slot result new at = (
    (λ more is r w m rs ws ms.
        one_more new 1 more false (step (Ok (Some more)) new (subst (λ x. StopsSlot slot mid x new) is at))
        r w m rs (ws ∙ sym (or-false worn)) ms),
    (λ is r w m rs ws ms.
        one_more new 0 0 false (step (Ok None) new (subst (λ x. StopsSlot slot mid x new) is at))
        r w m (rs ∙ omega arith) (ws ∙ sym (or-false worn)) (ms ∙ omega arith)),
    (λ why is r w m rs ws ms.
        one_more new 0 0 true (step (Err why) new (subst (λ x. StopsSlot slot mid x new) is at)) r
        w m (rs ∙ omega arith) (ws ∙ sym (or-true worn)) (ms ∙ omega arith)),
  )
