-- A msgget that plays to its end has a right result. Until its last operation it was granted
-- nothing and refused nothing, and it installs and settles what the registry made for it.
use Rattle.std.proofs.Common.{◌≡◌, ℕ, ℤ, inl, inr, ◌||◌, Bool, true, false, List, [], ◌∷◌, ◌++◌, Option, Some, None}
use Rattle.std.proofs.Common.{cond, refl, sym, ap, subst, ◌∙◌}
use Rattle.std.specs.List.{list_any, flat_map}
use Rattle.std.proofs.lemmas.Grind.{flat_map-append}
use Rattle.std.proofs.lemmas.List.Folds.{list_any-append}
use Rattle.sysv_model.specs.declared.cred.Cred.{Cred}
use Rattle.sysv_model.specs.declared.errno.Errno.{Errno}
use Rattle.sysv_model.specs.declared.errno.Errno.TheVariants.{EACCES, EEXIST, ENOSPC}
use Rattle.sysv_model.specs.declared.flags.Flags.{Flags}
use Rattle.sysv_model.specs.History.{Call, Install, Probe, Reply, Installed, Gone, Denied, Granted}
use Rattle.sysv_model.specs.Registry.{RegistryCall, Begin, Settle, RegistryReply, Found, Made, Busy, Unbound, Changed}
use Rattle.sysv_model.specs.Pool.{PoolCall, PoolReply}
use Rattle.sysv_model.specs.Turn.{OfSlot, OfRegistry, Op, AtSlot, AtRegistry, AtPool, asked_by}
use Rattle.sysv_steps.specs.Call.{Gets}
use Rattle.sysv_steps.specs.Call.{Msgget}
use Rattle.sysv_steps.specs.State.{Getting, Wait, OnSettled, Phase, AtBegin, AtInstall, AtSettle, AtProbe, AtUnmake}
use Rattle.sysv_steps.specs.State.{Ending, Id, Refused, State, Goes, Waits, Over}
use Rattle.sysv_steps.specs.Begin.{begin}
use Rattle.sysv_steps.specs.Asks.{asks}
use Rattle.sysv_steps.specs.Next.{next, next_of_slot, next_of_registry, next_of_pool, wants_new, after_begin}
use Rattle.sysv_steps.specs.Next.{after_install, after_settle, after_unmake, after_probe}
use Rattle.sysv_steps.specs.Resume.{resume}
use Rattle.sysv_steps.specs.Played.{Plays, begins, steps, resumes}
use Rattle.sysv_steps.specs.Answers.{was_denied, made_by, installed_by, settled_by, was_occupied, granted_by}
use Rattle.sysv_steps.specs.Answers.{found_the_key, unbound_by, IsItsOwn, IsNotGiven, IsRightGet}
use Rattle.sysv_steps.proofs.Among.{apart}

-- What the operations so far installed, were granted, were refused by the registry with, and found.
pub record Were (i g : List ℤ) (u : List Errno) (o d k : Bool) (ops : List Op) : Type 0 where
  pub installed : flat_map installed_by ops ≡ i
  pub granted : flat_map granted_by ops ≡ g
  pub unbound : flat_map unbound_by ops ≡ u
  pub occupied : list_any was_occupied ops ≡ o
  pub denied : list_any was_denied ops ≡ d
  pub known : list_any found_the_key ops ≡ k

-- What the registry made for the operations so far, and what they settled.
abbrev Told : (m s : List ℤ) → List Op → Type 0
Told m s ops = (flat_map made_by ops ≡ m) × (flat_map settled_by ops ≡ s)

listed : {A : Type 0} (f : Op → List A) (ops : List Op) (op : Op) (xs : List A) → flat_map f ops ≡ xs →
    flat_map f (ops ++ op ∷ []) ≡ xs ++ flat_map f (op ∷ [])
listed f ops op xs e = flat_map-append f ops (op ∷ []) ∙ ap (λ l. l ++ flat_map f (op ∷ [])) e

tested : (p : Op → Bool) (ops : List Op) (op : Op) (b : Bool) → list_any p ops ≡ b →
    list_any p (ops ++ op ∷ []) ≡ (b || list_any p (op ∷ []))
tested p ops op b e = list_any-append p ops (op ∷ []) ∙ ap (λ (c : Bool). c || list_any p (op ∷ [])) e

one_more : (i g : List ℤ) (u : List Errno) (o d k : Bool) (ops : List Op) (op : Op) → Were i g u o d k ops →
    Were (i ++ flat_map installed_by (op ∷ [])) (g ++ flat_map granted_by (op ∷ []))
    (u ++ flat_map unbound_by (op ∷ []))
    (o || list_any was_occupied (op ∷ [])) (d || list_any was_denied (op ∷ []))
    (k || list_any found_the_key (op ∷ [])) (ops ++ op ∷ [])
one_more i g u o d k ops op w = record {
  installed = listed installed_by ops op i w.installed;
  granted = listed granted_by ops op g w.granted;
  unbound = listed unbound_by ops op u w.unbound;
  occupied = tested was_occupied ops op o w.occupied;
  denied = tested was_denied ops op d w.denied;
  known = tested found_the_key ops op k w.known;
}

told_more : (m s : List ℤ) (ops : List Op) (op : Op) → Told m s ops →
    Told (m ++ flat_map made_by (op ∷ [])) (s ++ flat_map settled_by (op ∷ [])) (ops ++ op ∷ [])
told_more m s ops op t = (listed made_by ops op m t.0, listed settled_by ops op s t.1)

none_is : {A : Type 0} {B : Type 0} (xs : List A) (x : A) → xs ≡ [] → xs ≡ x ∷ [] → B
none_is xs x e t = absurd cc

-- ---- the five ends

module _ (flags : Flags) (ops : List Op) where
  no_own : (o d k : Bool) (u : List Errno) (id : ℤ) (ending : Ending) → Were [] [] u o d k ops →
      IsItsOwn flags ops id → ending ≡ Id id
  no_own o d k u id ending w (inl t) = none_is _ id w.installed t.1
  no_own o d k u id ending w (inr t) = none_is _ id w.granted t.1

  unbound_back : (why w : Errno) → Were [] [] (why ∷ []) false false false ops → IsNotGiven flags ops w →
      Refused why ≡ Refused w
  unbound_back why w x (inl t) = let e : why ∷ [] ≡ w ∷ [] = sym x.unbound ∙ t in cc
  unbound_back why w x (inr (inl t)) = apart _ t.2 x.known
  unbound_back why w x (inr (inr (inl t))) = apart _ t.2 x.denied
  unbound_back why w x (inr (inr (inr t))) = apart _ t.1 x.occupied

  unbound_right : (why : Errno) → Were [] [] (why ∷ []) false false false ops → IsRightGet flags ops (Refused why)
  unbound_right why x = record {
    identifier = λ id. (λ e. cc, λ t. no_own false false false (why ∷ []) id (Refused why) x t);
    refused = λ w. (λ e. inl (x.unbound ∙ cc), λ t. unbound_back why w x t);
    only = inr (why, refl);
  }

  occupied_back : (w : Errno) → Were [] [] [] true false false ops → IsNotGiven flags ops w →
      Refused ENOSPC ≡ Refused w
  occupied_back w x (inl t) = none_is _ w x.unbound t
  occupied_back w x (inr (inl t)) = apart _ t.2 x.known
  occupied_back w x (inr (inr (inl t))) = apart _ t.2 x.denied
  occupied_back w x (inr (inr (inr t))) = ap Refused (sym t.0)

  occupied_right : Were [] [] [] true false false ops → IsRightGet flags ops (Refused ENOSPC)
  occupied_right x = record {
    identifier = λ id. (λ e. cc, λ t. no_own true false false [] id (Refused ENOSPC) x t);
    refused = λ w. (λ e. inr (inr (inr (cc, x.occupied))), λ t. occupied_back w x t);
    only = inr (ENOSPC, refl);
  }

  installed_back : (id j : ℤ) → Were (id ∷ []) [] [] false false false ops → IsItsOwn flags ops j → Id id ≡ Id j
  installed_back id j x (inl t) = let e : id ∷ [] ≡ j ∷ [] = sym x.installed ∙ t.1 in cc
  installed_back id j x (inr t) = none_is _ j x.granted t.1

  never_refused : (i g : List ℤ) (ending : Ending) (w : Errno) → Were i g [] false false false ops →
      IsNotGiven flags ops w → ending ≡ Refused w
  never_refused i g ending w x (inl t) = none_is _ w x.unbound t
  never_refused i g ending w x (inr (inl t)) = apart _ t.2 x.known
  never_refused i g ending w x (inr (inr (inl t))) = apart _ t.2 x.denied
  never_refused i g ending w x (inr (inr (inr t))) = apart _ t.1 x.occupied

  installed_right : (id : ℤ) → Told (id ∷ []) (id ∷ []) ops → Were (id ∷ []) [] [] false false false ops →
      IsRightGet flags ops (Id id)
  installed_right id t x = record {
    identifier = λ j. (
      λ e. let same : id ∷ [] ≡ j ∷ [] = cc in inl (t.0 ∙ same, x.installed ∙ same, t.1 ∙ same),
      λ h. installed_back id j x h,
    );
    refused = λ w. (λ e. cc, λ t. never_refused (id ∷ []) [] (Id id) w x t);
    only = inl (id, refl);
  }

  exists_back : (g : List ℤ) (d : Bool) (w : Errno) → wants_new flags ≡ true → Were [] g [] false d true ops →
      IsNotGiven flags ops w → Refused EEXIST ≡ Refused w
  exists_back g d w new x (inl t) = none_is _ w x.unbound t
  exists_back g d w new x (inr (inl t)) = ap Refused (sym t.0)
  exists_back g d w new x (inr (inr (inl t))) = apart _ new t.1
  exists_back g d w new x (inr (inr (inr t))) = apart _ t.1 x.occupied

  exists_own : (g : List ℤ) (d : Bool) (id : ℤ) → wants_new flags ≡ true → Were [] g [] false d true ops →
      IsItsOwn flags ops id → Refused EEXIST ≡ Id id
  exists_own g d id new x (inl t) = none_is _ id x.installed t.1
  exists_own g d id new x (inr t) = apart _ new t.0

  exists_right : (g : List ℤ) (d : Bool) → wants_new flags ≡ true → Were [] g [] false d true ops →
      IsRightGet flags ops (Refused EEXIST)
  exists_right g d new x = record {
    identifier = λ id. (λ e. cc, λ t. exists_own g d id new x t);
    refused = λ w. (λ e. inr (inl (cc, new, x.known)), λ t. exists_back g d w new x t);
    only = inr (EEXIST, refl);
  }

  denied_back : (w : Errno) → wants_new flags ≡ false → Were [] [] [] false true true ops → IsNotGiven flags ops w →
      Refused EACCES ≡ Refused w
  denied_back w new x (inl t) = none_is _ w x.unbound t
  denied_back w new x (inr (inl t)) = apart _ t.1 new
  denied_back w new x (inr (inr (inl t))) = ap Refused (sym t.0)
  denied_back w new x (inr (inr (inr t))) = apart _ t.1 x.occupied

  -- A probe that was denied, and one that was granted.
  denied_right : (b : Bool) → wants_new flags ≡ b → Were [] [] [] false true true ops →
      IsRightGet flags ops (Refused (cond b EEXIST EACCES))
  denied_right true new x = exists_right [] true new x
  denied_right false new x = record {
    identifier = λ id. (λ e. cc, λ t. no_own false true true [] id (Refused EACCES) x t);
    refused = λ w. (λ e. inr (inr (inl (cc, new, x.denied))), λ t. denied_back w new x t);
    only = inr (EACCES, refl);
  }

  granted_own : (id j : ℤ) → Were [] (id ∷ []) [] false false true ops → IsItsOwn flags ops j → Id id ≡ Id j
  granted_own id j x (inl t) = none_is _ j x.installed t.1
  granted_own id j x (inr t) = let e : id ∷ [] ≡ j ∷ [] = sym x.granted ∙ t.1 in cc

  granted_back : (id : ℤ) (w : Errno) → wants_new flags ≡ false → Were [] (id ∷ []) [] false false true ops →
      IsNotGiven flags ops w → Id id ≡ Refused w
  granted_back id w new x (inl t) = none_is _ w x.unbound t
  granted_back id w new x (inr (inl t)) = apart _ t.1 new
  granted_back id w new x (inr (inr (inl t))) = apart _ t.2 x.denied
  granted_back id w new x (inr (inr (inr t))) = apart _ t.1 x.occupied

  granted_right : (id : ℤ) (b : Bool) → wants_new flags ≡ b → Were [] (id ∷ []) [] false false true ops →
      IsRightGet flags ops (cond b (Refused EEXIST) (Id id))
  granted_right id true new x = exists_right (id ∷ []) false new x
  granted_right id false new x = record {
    identifier = λ j. (λ e. inr (new, x.granted ∙ cc), λ t. granted_own id j x t);
    refused = λ w. (λ e. cc, λ t. granted_back id w new x t);
    only = inl (id, refl);
  }

-- ---- along a play

-- Nothing was made, granted or refused.
abbrev Nothing : List Op → Type 0
Nothing ops = Were [] [] [] false false false ops × Told [] [] ops

module _ (key : ℤ) (flags : Flags) where
  -- What is known of a call in this state after these operations.
  abbrev GetAt : List Op → State Gets → Type 0
  GetAt ops (Goes (AtBegin get)) = (get.flags ≡ flags) × Nothing ops
  GetAt ops (Goes (AtInstall get id)) = Were [] [] [] false false false ops × Told (id ∷ []) [] ops
  GetAt ops (Goes (AtSettle id)) = Were (id ∷ []) [] [] false false false ops × Told (id ∷ []) [] ops
  GetAt ops (Goes (AtProbe get id settled)) = (get.flags ≡ flags) × Nothing ops
  GetAt ops (Goes (AtUnmake id)) = Were [] [] [] true false false ops
  GetAt ops (Waits (OnSettled goal get)) = (get.flags ≡ flags) × Nothing ops
  GetAt ops (Over ending) = IsRightGet flags ops ending

  abbrev GetIf : List Op → Option (State Gets) → Type 0
  GetIf ops None = Unit {0}
  GetIf ops (Some state) = GetAt ops state

  nothing_more : (ops : List Op) (op : Op) → Nothing ops →
      Were (flat_map installed_by (op ∷ [])) (flat_map granted_by (op ∷ [])) (flat_map unbound_by (op ∷ []))
      (list_any was_occupied (op ∷ [])) (list_any was_denied (op ∷ [])) (list_any found_the_key (op ∷ []))
      (ops ++ op ∷ [])
      × Told (flat_map made_by (op ∷ [])) (flat_map settled_by (op ∷ [])) (ops ++ op ∷ [])
  nothing_more ops op h = (one_more [] [] [] false false false ops op h.0, told_more [] [] ops op h.1)

  begin_step : (ops : List Op) (get : Getting) (asks_key : ℤ) (by : Flags) (reply : RegistryReply) →
      get.flags ≡ flags → Nothing ops →
      GetIf (ops ++ AtRegistry (Begin asks_key by) reply ∷ []) (after_begin get reply)
  begin_step ops get asks_key by (Found id settled) f h =
      (f, nothing_more ops (AtRegistry (Begin asks_key by) (Found id settled)) h)
  begin_step ops get asks_key by (Made id) f h = nothing_more ops (AtRegistry (Begin asks_key by) (Made id)) h
  begin_step ops get asks_key by (Busy settled) f h =
      (f, nothing_more ops (AtRegistry (Begin asks_key by) (Busy settled)) h)
  begin_step ops get asks_key by (Unbound why) f h =
      unbound_right flags (ops ++ AtRegistry (Begin asks_key by) (Unbound why) ∷ []) why
      (nothing_more ops (AtRegistry (Begin asks_key by) (Unbound why)) h).0
  begin_step ops get asks_key by (Changed done) f h = tt

  install_step : (ops : List Op) (id asks_key : ℤ) (cred : Cred) (mode now slot : ℕ) (reply : Reply) →
      Were [] [] [] false false false ops → Told (id ∷ []) [] ops →
      GetIf (ops ++ AtSlot slot (Install id asks_key cred mode now) reply ∷ []) (after_install id reply)
  install_step ops id asks_key cred mode now slot (Installed true) w t = (
    one_more [] [] [] false false false ops (AtSlot slot (Install id asks_key cred mode now) (Installed true)) w,
    told_more (id ∷ []) [] ops (AtSlot slot (Install id asks_key cred mode now) (Installed true)) t,
  )
  install_step ops id asks_key cred mode now slot (Installed false) w t =
      one_more [] [] [] false false false ops (AtSlot slot (Install id asks_key cred mode now) (Installed false)) w
  install_step ops id asks_key cred mode now slot reply w t = tt

  settle_step : (ops : List Op) (id : ℤ) (reply : RegistryReply) → Were (id ∷ []) [] [] false false false ops →
      Told (id ∷ []) [] ops →
      GetIf (ops ++ AtRegistry (Settle id) reply ∷ []) (after_settle id reply)
  settle_step ops id (Changed done) w t =
      installed_right flags (ops ++ AtRegistry (Settle id) (Changed done) ∷ []) id
      (told_more (id ∷ []) [] ops (AtRegistry (Settle id) (Changed done)) t)
      (one_more (id ∷ []) [] [] false false false ops (AtRegistry (Settle id) (Changed done)) w)
  settle_step ops id reply w t = tt

  unmake_step : (ops : List Op) (call : RegistryCall) (reply : RegistryReply) →
      Were [] [] [] true false false ops →
      GetIf (ops ++ AtRegistry call reply ∷ []) (after_unmake reply)
  unmake_step ops call (Changed done) w =
      occupied_right flags (ops ++ AtRegistry call (Changed done) ∷ [])
      (one_more [] [] [] true false false ops (AtRegistry call (Changed done)) w)
  unmake_step ops call reply w = tt

  probe_step : (ops : List Op) (get : Getting) (id : ℤ) (settled : ℕ) (cred : Cred) (by : Flags) (slot : ℕ)
      (reply : Reply) → get.flags ≡ flags → Nothing ops →
      GetIf (ops ++ AtSlot slot (Probe id cred by) reply ∷ []) (after_probe get id settled reply)
  probe_step ops get id settled cred by slot Gone f h =
      (f, nothing_more ops (AtSlot slot (Probe id cred by) Gone) h)
  probe_step ops get id settled cred by slot Denied f h =
      denied_right flags (ops ++ AtSlot slot (Probe id cred by) Denied ∷ []) (wants_new get.flags)
      (ap wants_new (sym f)) (nothing_more ops (AtSlot slot (Probe id cred by) Denied) h).0
  probe_step ops get id settled cred by slot Granted f h =
      granted_right flags (ops ++ AtSlot slot (Probe id cred by) Granted ∷ []) id (wants_new get.flags)
      (ap wants_new (sym f)) (nothing_more ops (AtSlot slot (Probe id cred by) Granted) h).0
  probe_step ops get id settled cred by slot reply f h = tt

  -- The operation, by the request of the call at its step.
  at_slot : (phase : Phase Gets) (ops : List Op) (slot : ℕ) (call : Call) (reply : Reply) (now : ℕ) →
      GetAt ops (Goes phase) → OfSlot slot call ≡ asks phase now →
      GetIf (ops ++ AtSlot slot call reply ∷ []) (next_of_slot phase reply)
  at_slot (AtInstall get id) ops slot call reply now h is =
      let c : Install id get.key get.cred get.flags.0 now ≡ call = cc in
      subst (λ (k : Call). GetIf (ops ++ AtSlot slot k reply ∷ []) (after_install id reply)) c
      (install_step ops id get.key get.cred get.flags.0 now slot reply h.0 h.1)
  at_slot (AtProbe get id settled) ops slot call reply now h is =
      let c : Probe id get.cred get.flags ≡ call = cc in
      subst (λ (k : Call). GetIf (ops ++ AtSlot slot k reply ∷ []) (after_probe get id settled reply)) c
      (probe_step ops get id settled get.cred get.flags slot reply h.0 h.1)
  at_slot phase ops slot call reply now h is = tt

  at_registry : (phase : Phase Gets) (ops : List Op) (call : RegistryCall) (reply : RegistryReply) (now : ℕ) →
      GetAt ops (Goes phase) → OfRegistry call ≡ asks phase now →
      GetIf (ops ++ AtRegistry call reply ∷ []) (next_of_registry phase reply)
  at_registry (AtBegin get) ops call reply now h is =
      let c : Begin get.key get.flags ≡ call = cc in
      subst (λ (k : RegistryCall). GetIf (ops ++ AtRegistry k reply ∷ []) (after_begin get reply)) c
      (begin_step ops get get.key get.flags reply h.0 h.1)
  at_registry (AtSettle id) ops call reply now h is =
      let c : Settle id ≡ call = cc in
      subst (λ (k : RegistryCall). GetIf (ops ++ AtRegistry k reply ∷ []) (after_settle id reply)) c
      (settle_step ops id reply h.0 h.1)
  at_registry (AtUnmake id) ops call reply now h is = unmake_step ops call reply h
  at_registry phase ops call reply now h is = tt

  at_pool : (phase : Phase Gets) (ops : List Op) (call : PoolCall) (reply : PoolReply) → GetAt ops (Goes phase) →
      GetIf (ops ++ AtPool call reply ∷ []) (next_of_pool phase reply)
  at_pool (AtBegin get) ops call reply h = tt
  at_pool (AtInstall get id) ops call reply h = tt
  at_pool (AtSettle id) ops call reply h = tt
  at_pool (AtProbe get id settled) ops call reply h = tt
  at_pool (AtUnmake id) ops call reply h = tt

  one_step : (phase : Phase Gets) (ops : List Op) (op : Op) (now : ℕ) → GetAt ops (Goes phase) →
      asked_by op ≡ asks phase now → GetIf (ops ++ op ∷ []) (next phase op)
  one_step phase ops (AtSlot slot call reply) now h is = at_slot phase ops slot call reply now h is
  one_step phase ops (AtRegistry call reply) now h is = at_registry phase ops call reply now h is
  one_step phase ops (AtPool call reply) now h is = at_pool phase ops call reply h

  one_wait : (ops : List Op) (wait : Wait Gets) (value : ℕ) → GetAt ops (Waits wait) →
      GetAt ops (Goes (resume wait value))
  one_wait ops (OnSettled goal get) value h = h

  pub get_at : (cred : Cred) (released : ℕ) (ops : List Op) (state : State Gets) →
      Plays (begin cred (Msgget key flags) released) ops state → GetAt ops state
  get_at cred released _ _ begins = (
    refl,
    (
      record { installed = refl; granted = refl; unbound = refl; occupied = refl; denied = refl; known = refl },
      (refl, refl),
    ),
  )
  get_at cred released _ _ (steps {ops} {phase} op now after p is n) =
      subst (GetIf (ops ++ op ∷ [])) n
      (one_step phase ops op now (get_at cred released ops (Goes phase) p) is)
  get_at cred released _ _ (resumes {ops} {wait} value p least) =
      one_wait ops wait value (get_at cred released ops (Waits wait) p)
