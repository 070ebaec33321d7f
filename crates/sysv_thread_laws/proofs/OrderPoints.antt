-- Each part of an order is a run with the calls as they were then.
use Rattle.std.proofs.Common.{◌≡◌, inl, inr, ℕ, zero, suc, ◌-◌, ◌==◌, Bool, true, false, cond, List, [], ◌∷◌, ◌++◌}
use Rattle.std.proofs.Common.{map, length, take, drop, refl, sym, ap, subst, ◌∙◌, arith, append_assoc}
use Rattle.std.specs.List.{All, filter}
use Rattle.std.proofs.Math.Seq.{take-append_seam}
use Rattle.std.proofs.lemmas.Bool.Decides.{nat_tests}
use Rattle.std.proofs.lemmas.Grind.{flat_map-append}
use Rattle.std.proofs.lemmas.List.{append-nil, map-append, take-append-drop}
use Rattle.std.proofs.lemmas.List.Elements.{All-nil, All-cons, All-head, All-tail, filter-append}
use Rattle.sysv_model.specs.Turn.{Op, Turn, slot_entry, registry_entry, pool_entry, slot_history, registry_history}
use Rattle.sysv_model.specs.Turn.{pool_history}
use Rattle.sysv_model.specs.Turns.{Numbered, turns_of}
use Rattle.sysv_model.specs.Turns.{turn_of as turn_at}
use Rattle.sysv_objects.specs.LegalOp.{AreLegal}
use Rattle.sysv_steps.specs.Call.{Kind}
use Rattle.sysv_steps.specs.State.{State, Goes, Waits}
use Rattle.sysv_steps.specs.Begin.{begin}
use Rattle.sysv_steps.specs.Played.{Plays, begins, steps, resumes}
use Rattle.sysv_bank.specs.Banks.{Each2}
use Rattle.sysv_thread_laws.specs.Order.{Called, IsPlayed, is_in_call_of, ops_by, ops_in}
use Rattle.sysv_thread_laws.specs.OrderIsRun.{EveryOrderIsARun}
use Rattle.sysv_thread_laws.specs.ParkedOnThreads.{EveryOrderParksRightly}
use Rattle.sysv_thread_laws.specs.Points.{IsJustAfter, IsCut, EachPointParksRightly}
use Rattle.sysv_thread_laws.proofs.PlayPrefix.{last_or_before}

-- ---- a play, cut after some of its operations

-- The state just after these operations.
record IsPlayedTo {kind : Kind} (from : State kind) (ops : List Op) : Type 0 where
  state : State kind
  plays : Plays from ops state
  just : IsJustAfter from ops state

none_in : (front back : List Op) → [] ≡ front ++ back → front ≡ []
none_in [] back e = refl
none_in (d ∷ front) back e = absurd cc

played_to : {kind : Kind} (from : State kind) (ops : List Op) (state : State kind) → Plays from ops state →
    (front back : List Op) → ops ≡ front ++ back → IsPlayedTo from front
played_to from _ _ begins front back e =
    let none = none_in front back e in
    record {
      state = from;
      plays = subst (λ ds. Plays from ds from) (sym none) begins;
      just = inl (none, refl);
    }
played_to from _ _ (steps {ops} {phase} op now after play asked row) front [] e =
    let is : ops ++ op ∷ [] ≡ front = e ∙ append-nil front in
    record {
      state = after;
      plays = subst (λ ds. Plays from ds after) is (steps op now after play asked row);
      just = inr (ops, phase, op, sym is, row);
    }
played_to from _ _ (steps {ops} {phase} op now after play asked row) front (d ∷ back) e =
    elim (last_or_before ops op front d back e) [
      | inl here ↦ played_to from ops (Goes phase) play front [] (sym here.0 ∙ sym (append-nil front))
      | inr more ↦ played_to from ops (Goes phase) play front (d ∷ more.0) more.1
    ]
played_to from _ _ (resumes {ops} {wait} value play least) front back e =
    played_to from ops (Waits wait) play front back e

-- ---- all calls

take_none : (n : ℕ) → take {A = Op} n [] ≡ []
take_none zero = refl
take_none (suc n) = refl

take_both : (xs ys : List Op) (n : ℕ) → take n (xs ++ ys) ≡ take n xs ++ take (n - length xs) ys
take_both [] ys n =
    let same : n ≡ n - 0 = omega arith in
    ap (λ k. take k ys) same ∙ ap (λ ds. ds ++ take (n - 0) ys) (sym (take_none n))
take_both (x ∷ xs) ys zero =
    let none : 0 ≡ 0 - length (x ∷ xs) = omega arith in ap (λ k. take k ys) none
take_both (x ∷ xs) ys (suc n) =
    let same : n - length xs ≡ suc n - length (x ∷ xs) = omega arith in
    ap (λ ds. x ∷ ds) (take_both xs ys n ∙ ap (λ k. take n xs ++ take k ys) same)

-- The calls, each cut so that this number of operations of each pass is left.
record AreCut (left : ℕ → ℕ) (calls : List Called) : Type 0 where
  now : List Called
  cut : Each2 IsCut calls now
  played : All IsPlayed now
  ops : (number : ℕ) → ops_in number now ≡ take (left number) (ops_in number calls)

abbrev own : ℕ → Called → List Op
own number c = cond (c.by == number) c.ops []

part_of : (left : ℕ → ℕ) (by number : ℕ) (ops rest : List Op) (b : Bool) → (by == number) ≡ b →
    cond b (take (left by) ops) [] ++ take (left number - length (cond b ops [])) rest
    ≡ take (left number) (cond b ops [] ++ rest)
part_of left by number ops rest true is =
    let same : by ≡ number = grind (arith, nat_tests, is) in
    ap (λ n. take (left n) ops ++ take (left number - length ops) rest) same
    ∙ sym (take_both ops rest (left number))
part_of left by number ops rest false is =
    let same : left number - 0 ≡ left number = omega arith in ap (λ k. take k rest) same

cut_all : (calls : List Called) → All IsPlayed calls → (left : ℕ → ℕ) → AreCut left calls
cut_all [] played left = record {
  now = [];
  cut = tt;
  played = All-nil IsPlayed;
  ops = λ number. sym (take_none (left number));
}
cut_all (c ∷ calls) played left =
    let rest = cut_all calls (All-tail IsPlayed c calls played) (λ number. left number - length (own number c)) in
    let from = begin c.cred c.asked c.released in
    let some = take (left c.by) c.ops in
    let p = played_to from c.ops c.state (All-head IsPlayed c calls played) some (drop (left c.by) c.ops)
    (sym (take-append-drop (left c.by) c.ops)) in
    let here : Called = record {
      by = c.by;
      cred = c.cred;
      asked = c.asked;
      released = c.released;
      ops = some;
      state = p.state;
    } in
    record {
      now = here ∷ rest.now;
      cut = (
        record {
          by = refl;
          cred = refl;
          asked = refl;
          released = refl;
          rest = drop (left c.by) c.ops;
          ops = sym (take-append-drop (left c.by) c.ops);
          state = p.just;
        },
        rest.cut,
      );
      played = All-cons IsPlayed here rest.now p.plays rest.played;
      ops = λ number.
          ap (λ ds. cond (c.by == number) some [] ++ ds) (rest.ops number)
          ∙ part_of left c.by number c.ops (ops_in number calls) (c.by == number) refl;
    }

-- ---- a part of the order

ops_both : (number : ℕ) (front back : List Numbered) →
    ops_by number (front ++ back) ≡ ops_by number front ++ ops_by number back
ops_both number front back =
    ap (map (λ (t : Numbered). t.op)) (filter-append (is_in_call_of number) front back)
    ∙ map-append (λ (t : Numbered). t.op) (filter (is_in_call_of number) front) (filter (is_in_call_of number) back)

legal_part : (generation blocks : ℕ) (front back : List Numbered) →
    AreLegal generation blocks (turns_of (front ++ back)) → AreLegal generation blocks (turns_of front)
legal_part generation blocks front back legal =
    let xs = turns_of front in
    let ys = turns_of back in
    let both : turns_of (front ++ back) ≡ xs ++ ys = map-append turn_at front back in
    record {
      slots = λ slot before e after is.
          legal.slots slot before e (after ++ slot_history slot ys)
          (ap (slot_history slot) both
          ∙ (flat_map-append (λ (t : Turn). slot_entry slot t.who t.op) xs ys
          ∙ (ap (λ h. h ++ slot_history slot ys) is ∙ append_assoc before (e ∷ after) (slot_history slot ys))));
      registry = λ before e after is.
          legal.registry before e (after ++ registry_history ys)
          (ap registry_history both
          ∙ (flat_map-append (λ (t : Turn). registry_entry t.who t.op) xs ys
          ∙ (ap (λ h. h ++ registry_history ys) is ∙ append_assoc before (e ∷ after) (registry_history ys))));
      pool = λ before e after is.
          legal.pool before e (after ++ pool_history ys)
          (ap pool_history both
          ∙ (flat_map-append (λ (t : Turn). pool_entry t.who t.op) xs ys
          ∙ (ap (λ h. h ++ pool_history ys) is ∙ append_assoc before (e ∷ after) (pool_history ys))));
    }

pub each_point : EveryOrderIsARun → EveryOrderParksRightly → EachPointParksRightly
each_point runs parks generation blocks order calls legal all front back whole =
    let c = cut_all calls all.played (λ number. length (ops_by number front)) in
    let own_turns : (number : ℕ) → ops_by number front ≡ ops_in number c.now = λ number.
    let mine = ops_by number front in
    sym (take-append_seam mine (ops_by number back))
    ∙ (ap (take (length mine))
    (sym (ops_both number front back) ∙ (ap (ops_by number) (sym whole) ∙ all.whole number))
    ∙ sym (c.ops number)) in
    let run = runs generation blocks front c.now
    (legal_part generation blocks front back (subst (λ ts. AreLegal generation blocks (turns_of ts)) whole legal))
    (record { played = c.played; whole = own_turns }) in
    record {
      now = c.now;
      cut = c.cut;
      run = run;
      parks = λ place x wait there waits below.
          parks generation blocks front c.now run place x wait there waits below;
    }
