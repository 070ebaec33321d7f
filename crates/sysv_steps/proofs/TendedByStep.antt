-- What a call still has to settle or to forget, step by step.
use Rattle.std.proofs.Common.{◌≡◌, ℕ, ℤ, ◌⊎◌, inl, inr, true, false, List, [], ◌∷◌, ◌++◌, Option, Some, None, refl, sym}
use Rattle.std.proofs.Common.{ap, subst, ◌∙◌}
use Rattle.std.specs.List.{Contains}
use Rattle.std.proofs.lemmas.List.Elements.{Contains-append_left, Contains-push}
use Rattle.sysv_model.specs.declared.cred.Cred.{Cred}
use Rattle.sysv_model.specs.Message.{Message}
use Rattle.sysv_model.specs.History.{Remove, Reply, Installed, Discarded}
use Rattle.sysv_model.specs.Registry.{RegistryCall, Settle, Forget, RegistryReply, Made}
use Rattle.sysv_model.specs.Turn.{OfSlot, Op, AtSlot, AtRegistry, asked_by}
use Rattle.sysv_steps.specs.Call.{Kind, kind_of}
use Rattle.sysv_steps.specs.Call.{SystemCall}
use Rattle.sysv_steps.specs.State.{Wait, Phase, AtBegin, AtInstall, AtSettle, AtUnmake, AtRemove, AtForget, State, Goes}
use Rattle.sysv_steps.specs.State.{Waits}
use Rattle.sysv_steps.specs.Begin.{begin}
use Rattle.sysv_steps.specs.Asks.{asks}
use Rattle.sysv_steps.specs.Next.{next, next_of_slot, next_of_registry, after_install}
use Rattle.sysv_steps.specs.Played.{Plays, begins, steps, resumes}
use Rattle.sysv_steps.specs.Tended.{HasToSettle, HasToForget, Settles, Forgets, IsTended}

-- ---- one more operation stands at the end

abbrev SplitMore : List Op → Op → List Op → Op → List Op → Type 0
SplitMore ops last before op after =
    ((after ≡ []) × (op ≡ last))
    ⊎ ((rest : List Op) × (after ≡ rest ++ last ∷ []) × (ops ≡ before ++ op ∷ rest))

none_after : {B : Type 0} (before after : List Op) (op : Op) → [] ≡ before ++ op ∷ after → B
none_after [] after op e = absurd cc
none_after (d ∷ before) after op e = absurd cc

tail_same : (d x : Op) (ds xs : List Op) → d ∷ ds ≡ x ∷ xs → ds ≡ xs
tail_same d x ds xs e = cc

head_same : (d x : Op) (ds xs : List Op) → d ∷ ds ≡ x ∷ xs → d ≡ x
head_same d x ds xs e = cc

split_more : (ops : List Op) (last : Op) (before : List Op) (op : Op) (after : List Op) →
    ops ++ last ∷ [] ≡ before ++ op ∷ after → SplitMore ops last before op after
split_more [] last [] op after e = inl (sym (tail_same last op [] after e), sym (head_same last op [] after e))
split_more [] last (b ∷ before) op after e =
    none_after before after op (tail_same last b [] (before ++ op ∷ after) e)
split_more (d ∷ ops) last [] op after e =
    let h = head_same d op (ops ++ last ∷ []) after e in
    let t = tail_same d op (ops ++ last ∷ []) after e in
    inr (ops, sym t, ap (λ (x : Op). x ∷ ops) h)
split_more (d ∷ ops) last (b ∷ before) op after e =
    let h = head_same d b (ops ++ last ∷ []) (before ++ op ∷ after) e in
    let t = tail_same d b (ops ++ last ∷ []) (before ++ op ∷ after) e in
    elim (split_more ops last before op after t) [
      | inl s ↦ inl s
      | inr s ↦ inr (s.0, s.1, ap (λ (x : Op). x ∷ ops) h ∙ ap (λ (xs : List Op). b ∷ xs) s.2)
    ]

settles_still : (ops : List Op) (op : Op) (id : ℤ) → Settles ops id → Settles (ops ++ op ∷ []) id
settles_still ops op id s = (s.0, Contains-append_left ops (op ∷ []) (AtRegistry (Settle id) s.0) s.1)

forgets_still : (ops : List Op) (op : Op) (id : ℤ) → Forgets ops id → Forgets (ops ++ op ∷ []) id
forgets_still ops op id s = (s.0, Contains-append_left ops (op ∷ []) (AtRegistry (Forget id) s.0) s.1)

-- ---- a row of the table

abbrev SettleIf : {kind : Kind} → Option (State kind) → ℤ → Type 0
SettleIf None id = Unit {0}
SettleIf (Some state) id = HasToSettle state id

abbrev ForgetIf : {kind : Kind} → Option (State kind) → ℤ → Type 0
ForgetIf None id = Unit {0}
ForgetIf (Some state) id = HasToForget state id

-- An identifier that the registry made is to be settled.
made_now : {kind : Kind} (phase : Phase kind) (id : ℤ) → SettleIf (next_of_registry phase (Made id)) id
made_now (AtBegin get) id = refl
made_now phase id = tt

removed_now : {kind : Kind} (phase : Phase kind) (slot : ℕ) (id : ℤ) (cred : Cred) (messages : List Message) (now : ℕ) →
    OfSlot slot (Remove id cred) ≡ asks phase now → ForgetIf (next_of_slot phase (Discarded messages)) id
removed_now (AtRemove by at) slot id cred messages now is = let e : at ≡ id = cc in e
removed_now phase slot id cred messages now is = tt

-- An identifier that was to be settled still is, or the operation settled it or gave it up.
abbrev SettledBy : {kind : Kind} → Option (State kind) → Op → ℤ → Type 0
SettledBy after op id = SettleIf after id ⊎ ((reply : RegistryReply) × (op ≡ AtRegistry (Settle id) reply))
    ⊎ ((reply : RegistryReply) × (op ≡ AtRegistry (Forget id) reply))

installs : (made id : ℤ) (reply : Reply) → made ≡ id → SettleIf (after_install made reply) id
installs made id (Installed true) e = e
installs made id (Installed false) e = e
installs made id reply e = tt

settled_now : {kind : Kind} (phase : Phase kind) (op : Op) (now : ℕ) (id : ℤ) → HasToSettle (Goes phase) id →
    asked_by op ≡ asks phase now → SettledBy (next phase op) op id
settled_now (AtInstall get made) (AtSlot slot call reply) now id h is = inl (installs made id reply h)
settled_now (AtInstall get made) op now id h is = inl tt
settled_now (AtSettle made) (AtRegistry call reply) now id h is =
    let c : call ≡ Settle id = cc in inr (inl (reply, ap (λ (k : RegistryCall). AtRegistry k reply) c))
settled_now (AtSettle made) op now id h is = inl tt
settled_now (AtUnmake made) (AtRegistry call reply) now id h is =
    let c : call ≡ Forget id = cc in inr (inr (reply, ap (λ (k : RegistryCall). AtRegistry k reply) c))
settled_now (AtUnmake made) op now id h is = inl tt
settled_now phase op now id h is = absurd h

abbrev ForgottenBy : {kind : Kind} → Option (State kind) → Op → ℤ → Type 0
ForgottenBy after op id = ForgetIf after id ⊎ ((reply : RegistryReply) × (op ≡ AtRegistry (Forget id) reply))

forgotten_now : {kind : Kind} (phase : Phase kind) (op : Op) (now : ℕ) (id : ℤ) → HasToForget (Goes phase) id →
    asked_by op ≡ asks phase now → ForgottenBy (next phase op) op id
forgotten_now (AtForget removed blocks) (AtRegistry call reply) now id h is =
    let c : call ≡ Forget id = cc in inr (reply, ap (λ (k : RegistryCall). AtRegistry k reply) c)
forgotten_now (AtForget removed blocks) op now id h is = inl tt
forgotten_now phase op now id h is = absurd h

-- ---- along a play

module _ {kind : Kind} (ops : List Op) (phase : Phase kind) (op : Op) (now : ℕ) (next_state : State kind)
    (is : asked_by op ≡ asks phase now) (n : next phase op ≡ Some next_state)
    (t : IsTended ops (Goes phase)) where
  made_more : (before after : List Op) (call : RegistryCall) (id : ℤ) →
      SplitMore ops op before (AtRegistry call (Made id)) after →
      HasToSettle next_state id ⊎ Settles after id ⊎ Forgets after id
  made_more before after call id (inl s) =
      let row : next phase (AtRegistry call (Made id)) ≡ Some next_state = ap (next phase) s.1 ∙ n in
      inl (subst (λ (o : Option (State kind)). SettleIf o id) row (made_now phase id))
  made_more before after call id (inr s) =
      subst (λ (ds : List Op). HasToSettle next_state id ⊎ Settles ds id ⊎ Forgets ds id) (sym s.1)
      (elim (t.made before s.0 call id s.2) [
        | inl has ↦ elim (settled_now phase op now id has is) [
          | inl still ↦ inl (subst (λ (o : Option (State kind)). SettleIf o id) n still)
          | inr by ↦ elim by [
            | inl d ↦ inr (inl (d.0, subst (Contains (s.0 ++ op ∷ [])) d.1 (Contains-push s.0 op)))
            | inr d ↦ inr (inr (d.0, subst (Contains (s.0 ++ op ∷ [])) d.1 (Contains-push s.0 op)))
          ]
        ]
        | inr did ↦ elim did [
          | inl d ↦ inr (inl (settles_still s.0 op id d))
          | inr d ↦ inr (inr (forgets_still s.0 op id d))
        ]
      ])

  removed_more : (before after : List Op) (slot : ℕ) (cred : Cred) (messages : List Message) (id : ℤ) →
      SplitMore ops op before (AtSlot slot (Remove id cred) (Discarded messages)) after →
      HasToForget next_state id ⊎ Forgets after id
  removed_more before after slot cred messages id (inl s) =
      let row : next phase (AtSlot slot (Remove id cred) (Discarded messages)) ≡ Some next_state =
      ap (next phase) s.1 ∙ n in
      inl (subst (λ (o : Option (State kind)). ForgetIf o id) row
      (removed_now phase slot id cred messages now (ap asked_by s.1 ∙ is)))
  removed_more before after slot cred messages id (inr s) =
      subst (λ (ds : List Op). HasToForget next_state id ⊎ Forgets ds id) (sym s.1)
      (elim (t.removed before s.0 slot cred messages id s.2) [
        | inl has ↦ elim (forgotten_now phase op now id has is) [
          | inl still ↦ inl (subst (λ (o : Option (State kind)). ForgetIf o id) n still)
          | inr d ↦ inr (d.0, subst (Contains (s.0 ++ op ∷ [])) d.1 (Contains-push s.0 op))
        ]
        | inr d ↦ inr (forgets_still s.0 op id d)
      ])

  one_more : IsTended (ops ++ op ∷ []) next_state
  one_more = record {
    made = λ before after call id e.
        made_more before after call id (split_more ops op before (AtRegistry call (Made id)) after e);
    removed = λ before after slot cred messages id e.
        removed_more before after slot cred messages id
        (split_more ops op before (AtSlot slot (Remove id cred) (Discarded messages)) after e);
  }

-- A call whose wait has just ended has nothing to do at the registry, nor had it in the wait.
after_wait : {kind : Kind} (ops : List Op) (wait : Wait kind) (state : State kind) → IsTended ops (Waits wait) →
    IsTended ops state
after_wait ops wait state t = record {
  made = λ before after call id e. elim (t.made before after call id e) [ inl h ↦ absurd h | inr d ↦ inr d ];
  removed = λ before after slot cred messages id e.
      elim (t.removed before after slot cred messages id e) [ inl h ↦ absurd h | inr d ↦ inr d ];
}

pub each_tended : (cred : Cred) (asked : SystemCall) (released : ℕ) (ops : List Op) (state : State (kind_of asked)) →
    Plays (begin cred asked released) ops state → IsTended ops state
each_tended cred asked released _ _ begins = record {
  made = λ before after call id e. none_after before after (AtRegistry call (Made id)) e;
  removed = λ before after slot cred messages id e.
      none_after before after (AtSlot slot (Remove id cred) (Discarded messages)) e;
}
each_tended cred asked released _ _ (steps {ops} {phase} op now after p is n) =
    one_more ops phase op now after is n (each_tended cred asked released ops (Goes phase) p)
each_tended cred asked released _ _ (resumes {ops} {wait} value p least) =
    after_wait ops wait _ (each_tended cred asked released ops (Waits wait) p)
