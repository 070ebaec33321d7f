-- What the laws of a call admit and refuse, at the worked calls.
use Rattle.std.proofs.Common.{◌≡◌, ◌≤◌, pos, inl, inr, true, List, [], ◌∷◌, ◌++◌, refl, arith}
use Rattle.std.specs.List.{Contains}
use Rattle.sysv_model.specs.declared.errno.Errno.TheVariants.{EACCES, EAGAIN, EEXIST, EIDRM, EINVAL, ENOSPC}
use Rattle.sysv_model.specs.declared.flags.TheConstants.Flags.{IPC_CREAT, IPC_NOWAIT}
use Rattle.sysv_model.specs.declared.selector.Selector.TheVariants.{Any}
use Rattle.sysv_model.specs.History.{Take}
use Rattle.sysv_model.specs.Registry.{Forget, RegistryReply}
use Rattle.sysv_model.specs.Turn.{Op, AtRegistry}
use Rattle.sysv_steps.specs.State.{OnSettled, OnArrived, AtInstall, AtSettle, AtProbe, AtReceiveGiveback, AtForget}
use Rattle.sysv_steps.specs.State.{AtRemoveGiveback, Id, Zero, Refused, Goes, Waits, Over}
use Rattle.sysv_steps.specs.Played.{begins, steps, resumes}
use Rattle.sysv_steps.specs.Answers.{IsItsOwn, IsNotGiven, IsInvalid, EachAnswerIsRight}
use Rattle.sysv_steps.specs.Effects.{effects, EachHasOneEffect}
use Rattle.sysv_steps.specs.WaitsFor.{WaitsFor}
use Rattle.sysv_steps.specs.Tended.{EachIsTended}
use Rattle.sysv_steps.specs.AfterRemoval.{EachIsToldOfRemoval}
use Rattle.sysv_steps.specs.WorkedPlays.{caller, PlaysTo, EndsIn, makes, finds_it_busy, is_given_one, installs, settles}
use Rattle.sysv_steps.specs.WorkedPlays.{is_made, making, new_alone, wants_a_new_one, finds_one, is_denied, is_there}
use Rattle.sysv_steps.specs.WorkedPlays.{receives, finds_none, finds_it_gone, takes_it, waiting, sends, finds_it_full}
use Rattle.sysv_steps.specs.WorkedPlays.{removes, discards, forgets, releases, WorkedPlays}

new_making : EndsIn makes is_made (Id (pos 259))
new_making =
    steps settles 0 (Over (Id (pos 259)))
    (steps installs 90 (Goes (AtSettle (pos 259)))
    (steps is_given_one 0 (Goes (AtInstall making (pos 259)))
    (resumes 5 (steps finds_it_busy 0 (Waits (OnSettled 5 making)) begins refl refl) (omega arith)) refl refl) refl
    refl) refl refl

is_new : EndsIn wants_a_new_one is_there (Refused EEXIST)
is_new =
    steps is_denied 0 (Over (Refused EEXIST))
    (steps finds_one 0 (Goes (AtProbe (record { cred = caller; key = pos 7; flags = new_alone }) (pos 259) 5)) begins
    refl refl) refl refl

first_wait : PlaysTo receives (finds_none ∷ []) (Waits (OnArrived 3 waiting))
first_wait = steps finds_none 90 (Waits (OnArrived 3 waiting)) begins refl refl

then_gone : EndsIn receives (finds_none ∷ finds_it_gone ∷ []) (Refused EIDRM)
then_gone = steps finds_it_gone 91 (Over (Refused EIDRM)) (resumes 3 first_wait (omega arith)) refl refl

its_removal : PlaysTo removes (discards ∷ []) (Goes (AtForget (pos 259) 1))
its_removal = steps discards 0 (Goes (AtForget (pos 259) 1)) begins refl refl

-- ---- what is refused

own_of : IsItsOwn IPC_CREAT is_made (pos 3) → ⊥
own_of (inl t) = let e = t.1 in cc
own_of (inr t) = let e = t.1 in cc

given_none : IsNotGiven IPC_CREAT is_made ENOSPC → ⊥
given_none (inl t) = cc
given_none (inr (inl t)) = let e = t.2 in cc
given_none (inr (inr (inl t))) = let e = t.2 in cc
given_none (inr (inr (inr t))) = let e = t.1 in cc

denied_there : IsNotGiven new_alone is_there EACCES → ⊥
denied_there (inl t) = cc
denied_there (inr (inl t)) = let e = t.0 in cc
denied_there (inr (inr (inl t))) = let e = t.1 in cc
denied_there (inr (inr (inr t))) = let e = t.0 in cc

invalid_there : IsInvalid receives (finds_none ∷ finds_it_gone ∷ []) → ⊥
invalid_there (inl t) = cc
invalid_there (inr t) = let e = t.1 in cc

alone : (front after : List Op) (one op : Op) → one ∷ [] ≡ front ++ op ∷ after → one ≡ op
alone [] after one op e = cc
alone (x ∷ []) after one op e = absurd cc
alone (x ∷ y ∷ front) after one op e = absurd cc

another_goal : WaitsFor (OnArrived 4 waiting) (finds_none ∷ []) → ⊥
another_goal w =
    let last = w.2.1 in
    let e = alone last.0 last.1 finds_none _ last.2 in
    let same : 2 ≡ w.0 = cc in
    omega (arith, same, w.1)

untended_there : ((reply : RegistryReply) × Contains [] (AtRegistry (Forget (pos 259)) reply)) → ⊥
untended_there f = omega (arith, f.1.1)

two_taken : ¬ (effects (takes_it ∷ takes_it ∷ []) ≤ 1)
two_taken least = omega (arith, least)

pub worked_plays : EachAnswerIsRight → EachHasOneEffect → EachIsToldOfRemoval → EachIsTended → WorkedPlays
worked_plays right one_effect told tends = record {
  made = new_making;
  made_another = λ p. let r = right caller makes 0 is_made (Id (pos 3)) p in own_of ((r.identifier (pos 3)).0 refl);
  made_none = λ p. let r = right caller makes 0 is_made (Refused ENOSPC) p in given_none ((r.refused ENOSPC).0 refl);
  exists = is_new;
  exists_denied = λ p.
      let r = right caller wants_a_new_one 0 is_there (Refused EACCES) p in denied_there ((r.refused EACCES).0 refl);
  removed = then_gone;
  removed_invalid = λ p.
      let r = right caller receives 0 (finds_none ∷ finds_it_gone ∷ []) (Refused EINVAL) p in
      invalid_there (r.invalid.0 refl);
  removed_told = told caller receives 0 (finds_none ∷ finds_it_gone ∷ []) (Refused EIDRM) tt then_gone (finds_none ∷ [])
      [] 3 (Take (pos 259) caller Any 9 true 91) refl;
  removed_untold = λ t. let e = t.removed refl in cc;
  waits = first_wait;
  waits_longer = another_goal;
  takes = steps takes_it 90 (Goes (AtReceiveGiveback 1 (pos 5) (104 ∷ []))) begins refl refl;
  takes_another = λ state p. two_taken (one_effect caller receives 0 (takes_it ∷ takes_it ∷ []) state p);
  taken_twice = λ ending r. omega (arith, r.once);
  two_effects = λ least. omega (arith, least);
  same_effects = two_taken;
  full = steps finds_it_full 0 (Over (Refused EAGAIN)) begins refl refl;
  full_sent = λ p. let r = right caller (sends IPC_NOWAIT) 0 (finds_it_full ∷ []) Zero p in let e = r.zero.0 refl in cc;
  full_waits = λ p.
      let r = right caller (sends IPC_CREAT) 0 (finds_it_full ∷ []) (Refused EAGAIN) p in
      let e = (r.again.0 refl).0 in
      cc;
  gone = steps releases 0 (Over Zero) (steps forgets 0 (Goes (AtRemoveGiveback 1)) its_removal refl refl) refl refl;
  gone_early = λ p. let r = right caller removes 0 (discards ∷ []) Zero p in let e = r.forgotten.0 refl in cc;
  tended = tends caller removes 0 (discards ∷ []) (Goes (AtForget (pos 259) 1)) its_removal;
  untended = λ t. elim (t.removed [] [] 3 caller _ (pos 259) refl) [ inl h ↦ h | inr h ↦ untended_there h ];
}
