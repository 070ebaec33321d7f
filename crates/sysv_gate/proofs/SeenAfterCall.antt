-- What the calls at a place do to what contracts see there.
use Rattle.std.proofs.Common.{◌≡◌, ℕ, ◌≤◌, false, List, [], ◌∷◌, map, refl, sym, ap, ◌∙◌, subst}
use Rattle.std.specs.Prelude.{Result, Ok, Err, IfOk, IfErr}
use Rattle.atomic_table.specs.Seated.{TableId}
use Rattle.sysv_lists.specs.Numbers.{times}
use Rattle.sysv_gate.specs.declared.table.view.View.{View}
use Rattle.sysv_gate.specs.declared.table.view.Turn.{Turn}
use Rattle.sysv_gate.specs.declared.count.Count.{Count}
use Rattle.sysv_gate.specs.declared.awaited.Awaited.{Awaited}
use Rattle.sysv_gate.specs.declared.awaited.Awaited.TheVariants.{Reached}
use Rattle.sysv_gate.specs.declared.awaited.Awaited.TheVariants as awaited
use Rattle.sysv_gate.specs.declared.refusals.TryRefused.{TryRefused}
use Rattle.sysv_gate.specs.declared.refusals.TryRefused.TheVariants.{Busy, Worn}
use Rattle.sysv_gate.specs.declared.refusals.Worn.{Worn as WornCall}
use Rattle.sysv_gate.specs.Rule.{Spot}
use Rattle.sysv_gate.specs.Tables.{Passing, me_at}
use Rattle.sysv_gate.specs.Steps.{Mine}
use Rattle.sysv_gate.specs.Gates as gate
use Rattle.sysv_gate.specs.Gates.{Holding, Answers, Learns, marked}
use Rattle.sysv_gate.specs.Held.{holding, RestsAt}
use Rattle.sysv_gate.specs.Refusals.{Refuses}
use Rattle.sysv_gate.specs.Waits.{Waited}
use Rattle.sysv_gate.specs.Turns.{HasWorn, HasRead, HasWaited}
use Rattle.sysv_gate.specs.Locks.{HasCalled, HasTried}

module _ {O C R : Type 0} (moves : O → C → R → O → Type 0) (counted : O → ℕ × ℕ) (o : O) (first : ℕ)
    (table table' : TableId) (same : table' ≡ table) (m m' : Mine O C R) (rest : RestsAt moves o first m.0) where
  abbrev Was : Holding O C R
  Was = holding table first o m.0

  abbrev Is : Holding O C R
  Is = holding table' first o m'.0

  -- A change of the view is a change of what contracts see of it.
  shown : (v : View O C R) → m'.0 ≡ v → Is ≡ holding table first o v
  shown v is = λ i. holding (same i) first o (is i)

  still : (v : View O C R) → m'.0 ≡ v → RestsAt moves o first v → RestsAt moves o first m'.0
  still v is there = subst (RestsAt moves o first) (sym is) there

  pub answers : (call : C) (reply : R) → HasCalled moves counted o m call reply m' →
      Answers moves counted Was call reply Is × (Was.worn ≡ false)
  answers call reply told = (
    record {
      others = told.others;
      object = told.object;
      made = shown _ (ap (λ (n : Mine O C R). n.0) told.is);
      legal = told.legal;
      own = told.own;
      counts = told.counts;
    },
    told.fresh,
  )

  pub rests_called : (call : C) (reply : R) → HasCalled moves counted o m call reply m' → RestsAt moves o first m'.0
  rests_called call reply told =
      let is = ap (λ (n : Mine O C R). n.0) told.is in record {
        no_ticket = ap (λ (v : View O C R). v.tickets) is;
        no_turn = ap (λ (v : View O C R). v.in_turn) is;
        nothing_else = ap (λ (v : View O C R). v.also) is ∙ rest.nothing_else;
        opening = ap (λ (v : View O C R). v.opening) is ∙ rest.opening;
        first = ap (λ (v : View O C R). v.first) is ∙ rest.first;
        named = subst (λ (v : View O C R). 1 ≤ times v.number v.numbers) (sym is) rest.named;
        legal = told.legal;
        own = told.own;
      }

  pub worn : HasWorn m m' → Is ≡ marked Was
  worn is = shown _ (ap (λ (n : Mine O C R). n.0) is)

  pub rests_worn : HasWorn m m' → RestsAt moves o first m'.0
  rests_worn is =
      still _ (ap (λ (n : Mine O C R). n.0) is)
      (record {
        no_ticket = rest.no_ticket;
        no_turn = rest.no_turn;
        nothing_else = rest.nothing_else;
        opening = rest.opening;
        first = rest.first;
        named = rest.named;
        legal = rest.legal;
        own = rest.own;
      })

  pub refused : (call : C) (e : TryRefused C) → HasTried moves o m call e m' → Refuses moves Was call e Is
  refused call (Busy c) told =
      let is : m'.0 ≡ record m.0 { seen = told.1.log } = ap (λ (n : Mine O C R). n.0) told.1.is in (
        told.0,
        record {
          others = told.1.longer.0;
          seen = shown _ is
              ∙ ap (λ (l : List (Turn O C R)). holding table first o (record m.0 { seen = l })) told.1.longer.1;
          legal = told.2;
          own = told.3;
        },
        told.4,
      )
  refused call (Worn c) told = (told.0, worn told.1)

  pub rests_refused : (call : C) (e : TryRefused C) → HasTried moves o m call e m' → RestsAt moves o first m'.0
  rests_refused call (Busy c) told =
      let is : m'.0 ≡ record m.0 { seen = told.1.log } = ap (λ (n : Mine O C R). n.0) told.1.is in record {
        no_ticket = ap (λ (v : View O C R). v.tickets) is ∙ rest.no_ticket;
        no_turn = ap (λ (v : View O C R). v.in_turn) is ∙ rest.no_turn;
        nothing_else = ap (λ (v : View O C R). v.also) is ∙ rest.nothing_else;
        opening = ap (λ (v : View O C R). v.opening) is ∙ rest.opening;
        first = ap (λ (v : View O C R). v.first) is ∙ rest.first;
        named = subst (λ (v : View O C R). 1 ≤ times v.number v.numbers) (sym is) rest.named;
        legal = told.2;
        own = told.3;
      }
  rests_refused call (Worn c) told = rests_worn told.1

  pub reads : (count : Count) (n : ℕ) → HasRead counted o count m n m' →
      (Is ≡ gate.read_to count n Was) × Learns counted count Was n
  reads count n told = (shown _ (ap (λ (x : Mine O C R). x.0) told.is), (told.before, told.known))

  pub rests_read : (count : Count) (n : ℕ) → HasRead counted o count m n m' → RestsAt moves o first m'.0
  rests_read count n told =
      still _ (ap (λ (x : Mine O C R). x.0) told.is)
      (record {
        no_ticket = rest.no_ticket;
        no_turn = rest.no_turn;
        nothing_else = rest.nothing_else;
        opening = rest.opening;
        first = rest.first;
        named = rest.named;
        legal = rest.legal;
        own = rest.own;
      })

module _ {O C R : Type 0} (moves : O → C → R → O → Type 0) (counted : O → ℕ × ℕ) (o : O) (first : ℕ)
    (table table' : TableId) (same : table' ≡ table) (m m' : Mine O C R) (rest : RestsAt moves o first m.0) where
  pub waited : (count : Count) (goal : ℕ) (a : Awaited) → HasWaited counted o count goal m a m' →
      Waited counted count goal (holding table first o m.0) a (holding table' first o m'.0)
  waited count goal (Reached n) told =
      let r = reads moves counted o first table table' same m m' rest count n told.1 in (told.0, r.1, r.0)
  waited count goal awaited.Worn told =
      let r = reads moves counted o first table table refl m told.1 rest count told.0 told.3 in (
        told.0,
        told.2,
        r.1,
        worn moves counted o first table table' same told.1 m'
            (rests_read moves counted o first table table refl m told.1 rest count told.0 told.3) told.4
            ∙ ap marked r.0,
      )

  pub rests_waited : (count : Count) (goal : ℕ) (a : Awaited) → HasWaited counted o count goal m a m' →
      RestsAt moves o first m'.0
  rests_waited count goal (Reached n) told = rests_read moves counted o first table table' same m m' rest count n told.1
  rests_waited count goal awaited.Worn told = rests_worn moves counted o first table table' same told.1 m'
      (rests_read moves counted o first table table refl m told.1 rest count told.0 told.3) told.4

-- The pass holds no slot.
pub bare : {O C R : Type 0} (place : ℕ) (m : Passing O C R) → (me_at place m).1 ≡ [] → m.1 ≡ []
bare {O} {C} {R} place m is = none m.1 is
  where
    none : (xs : List (ℕ × Spot O C R)) → map {B = ℕ × Spot O C R} (λ (x : ℕ × Spot O C R). (0, x.1)) xs ≡ [] → xs ≡ []
    none [] is = refl
    none (x ∷ xs) is = absurd (cc)

module _ {O C R : Type 0} (moves : O → C → R → O → Type 0) (counted : O → ℕ × ℕ) (o : O) (first : ℕ) (m m' : Mine O C R)
    (rest : RestsAt moves o first m.0) where
  pub call_rests : (table : TableId) (call : C) (r : Result R (WornCall C)) →
      IfOk r (λ x. HasCalled moves counted o m call x m') → IfErr r (λ w. (w.call ≡ call) × HasWorn m m') →
      (m'.1 ≡ []) × RestsAt moves o first m'.0
  call_rests table call (Ok x) ok err =
      (ap (λ (n : Mine O C R). n.1) ok.is, rests_called moves counted o first table table refl m m' rest call x ok)
  call_rests table call (Err w) ok err =
      (ap (λ (n : Mine O C R). n.1) err.1, rests_worn moves counted o first table table refl m m' rest err.1)

  pub try_rests : (table : TableId) (call : C) (r : Result R (TryRefused C)) →
      IfOk r (λ x. HasCalled moves counted o m call x m') → IfErr r (λ e. HasTried moves o m call e m') →
      (m'.1 ≡ []) × RestsAt moves o first m'.0
  try_rests table call (Ok x) ok err =
      (ap (λ (n : Mine O C R). n.1) ok.is, rests_called moves counted o first table table refl m m' rest call x ok)
  try_rests table call (Err (Busy c)) ok err = (
    ap (λ (n : Mine O C R). n.1) err.1.is,
    rests_refused moves counted o first table table refl m m' rest call (Busy c) err,
  )
  try_rests table call (Err (Worn c)) ok err = (
    ap (λ (n : Mine O C R). n.1) err.1,
    rests_refused moves counted o first table table refl m m' rest call (Worn c) err,
  )

  pub count_rests : (table : TableId) (count : Count) (n : ℕ) → HasRead counted o count m n m' →
      (m'.1 ≡ []) × RestsAt moves o first m'.0
  count_rests table count n told =
      (ap (λ (x : Mine O C R). x.1) told.is, rests_read moves counted o first table table refl m m' rest count n told)

  pub await_rests : (table : TableId) (count : Count) (goal : ℕ) (a : Awaited) → HasWaited counted o count goal m a m' →
      (m'.1 ≡ []) × RestsAt moves o first m'.0
  await_rests table count goal (Reached n) told = (
    ap (λ (x : Mine O C R). x.1) told.1.is,
    rests_waited moves counted o first table table refl m m' rest count goal (Reached n) told,
  )
  await_rests table count goal awaited.Worn told = (
    ap (λ (x : Mine O C R). x.1) told.4,
    rests_waited moves counted o first table table refl m m' rest count goal awaited.Worn told,
  )
