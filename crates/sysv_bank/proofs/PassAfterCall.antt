-- What the calls at a place leave of the numbers of a pass and of its own turns.
use Rattle.std.proofs.Common.{◌≡◌, ℕ, ◌+◌, List, [], ◌∷◌, ◌++◌, length, ap, ◌∙◌, length-append}
use Rattle.std.specs.Prelude.{Result, Ok, Err, IfOk, IfErr}
use Rattle.sysv_gate.specs.declared.table.view.View.{View}
use Rattle.sysv_gate.specs.declared.table.view.Turn.{Turn}
use Rattle.sysv_gate.specs.declared.count.Count.{Count}
use Rattle.sysv_gate.specs.declared.awaited.Awaited.{Awaited}
use Rattle.sysv_gate.specs.declared.awaited.Awaited.TheVariants.{Reached}
use Rattle.sysv_gate.specs.declared.awaited.Awaited.TheVariants as awaited
use Rattle.sysv_gate.specs.declared.refusals.TryRefused.{TryRefused}
use Rattle.sysv_gate.specs.declared.refusals.TryRefused.TheVariants.{Busy, Worn}
use Rattle.sysv_gate.specs.declared.refusals.Worn.{Worn as WornCall}
use Rattle.sysv_gate.specs.Steps.{Mine, turn_of}
use Rattle.sysv_gate.specs.Turns.{HasWorn, HasRead, HasWaited}
use Rattle.sysv_gate.specs.Locks.{HasCalled, HasTried}
use Rattle.sysv_bank.specs.Resting.{IsNamedAs}

-- The pass has the same numbers there, and no more turns.
pub record Stays {O C R : Type 0} (v w : View O C R) : Type 0 where
  pub names : IsNamedAs v w
  pub own : w.own ≡ v.own

-- The pass has the same numbers there, and one more turn, which is the last that it has seen.
pub record Adds {O C R : Type 0} (v w : View O C R) : Type 0 where
  pub names : IsNamedAs v w
  pub last : ℕ
  pub own : w.own ≡ v.own ++ last ∷ []
  pub seen : length w.seen ≡ last + 1

module _ {O C R : Type 0} (moves : O → C → R → O → Type 0) (counted : O → ℕ × ℕ) (o : O) where
  pub adds : (m m' : Mine O C R) (call : C) (reply : R) → HasCalled moves counted o m call reply m' → Adds m.0 m'.0
  adds m m' call reply told =
      let is = ap (λ (n : Mine O C R). n.0) told.is in
      let before : List (Turn O C R) = m.0.seen ++ told.others in
      record {
        names = (ap (λ (v : View O C R). v.number) is, ap (λ (v : View O C R). v.numbers) is);
        last = length before;
        own = ap (λ (v : View O C R). v.own) is;
        seen =
            ap (λ (v : View O C R). length v.seen) is ∙ length-append before (turn_of m.0 call reply told.object ∷ []);
      }

  pub stays_worn : (m m' : Mine O C R) → HasWorn m m' → Stays m.0 m'.0
  stays_worn m m' told =
      let is = ap (λ (n : Mine O C R). n.0) told in
      record {
        names = (ap (λ (v : View O C R). v.number) is, ap (λ (v : View O C R). v.numbers) is);
        own = ap (λ (v : View O C R). v.own) is;
      }

  pub stays_tried : (m m' : Mine O C R) (call : C) (e : TryRefused C) → HasTried moves o m call e m' → Stays m.0 m'.0
  stays_tried m m' call (Busy c) told =
      let is = ap (λ (n : Mine O C R). n.0) told.1.is in
      record {
        names = (ap (λ (v : View O C R). v.number) is, ap (λ (v : View O C R). v.numbers) is);
        own = ap (λ (v : View O C R). v.own) is;
      }
  stays_tried m m' call (Worn c) told = stays_worn m m' told.1

  pub stays_read : (m m' : Mine O C R) (count : Count) (n : ℕ) → HasRead counted o count m n m' → Stays m.0 m'.0
  stays_read m m' count n told =
      let is = ap (λ (n : Mine O C R). n.0) told.is in
      record {
        names = (ap (λ (v : View O C R). v.number) is, ap (λ (v : View O C R). v.numbers) is);
        own = ap (λ (v : View O C R). v.own) is;
      }

  pub stays_waited : (m m' : Mine O C R) (count : Count) (goal : ℕ) (a : Awaited) →
      HasWaited counted o count goal m a m' → Stays m.0 m'.0
  stays_waited m m' count goal (Reached n) told = stays_read m m' count n told.1
  stays_waited m m' count goal awaited.Worn told =
      let one = stays_read m told.1 count told.0 told.3 in
      let two = stays_worn told.1 m' told.4 in
      record { names = (two.names.0 ∙ one.names.0, two.names.1 ∙ one.names.1); own = two.own ∙ one.own }

  -- The numbers stay, whatever the result of a call is.
  pub call_names : (m m' : Mine O C R) (call : C) (r : Result R (WornCall C)) →
      IfOk r (λ x. HasCalled moves counted o m call x m') → IfErr r (λ w. (w.call ≡ call) × HasWorn m m') →
      IsNamedAs m.0 m'.0
  call_names m m' call (Ok x) ok err = (adds m m' call x ok).names
  call_names m m' call (Err w) ok err = (stays_worn m m' err.1).names

  pub try_names : (m m' : Mine O C R) (call : C) (r : Result R (TryRefused C)) →
      IfOk r (λ x. HasCalled moves counted o m call x m') → IfErr r (λ e. HasTried moves o m call e m') →
      IsNamedAs m.0 m'.0
  try_names m m' call (Ok x) ok err = (adds m m' call x ok).names
  try_names m m' call (Err e) ok err = (stays_tried m m' call e err).names
