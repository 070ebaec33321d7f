-- Each of the three commands of msgctl that plays to its end has a right result. Each has one
-- operation at its slot; a removal then has one at the registry; and a set that was done and a
-- removal have one at the pool.
use Rattle.std.proofs.Common.{◌≡◌, ℕ, ℤ, inl, inr, Bool, true, false, List, [], ◌∷◌, ◌++◌, Some, cond, refl, sym, ap}
use Rattle.std.proofs.Common.{subst, ◌∙◌, arith}
use Rattle.std.specs.List.{flat_map}
use Rattle.sysv_model.specs.declared.cred.Cred.{Cred}
use Rattle.sysv_model.specs.declared.attributes.Stat.{Stat}
use Rattle.sysv_model.specs.declared.attributes.SetTo.{SetTo}
use Rattle.sysv_model.specs.declared.errno.Errno.{Errno}
use Rattle.sysv_model.specs.declared.errno.Errno.TheVariants.{EINVAL}
use Rattle.sysv_model.specs.Message.{Message}
use Rattle.sysv_model.specs.History.{Call, Reply, Told as TellsStat, Done, Discarded, Refused as IsRefusedFor}
use Rattle.sysv_model.specs.Registry.{RegistryCall, Forget, RegistryReply, Changed}
use Rattle.sysv_model.specs.Pool.{PoolCall, PoolReply, Released, Foreign}
use Rattle.sysv_model.specs.Turn.{Op, AtSlot, AtRegistry, AtPool, asked_by}
use Rattle.sysv_queue.specs.Blocks.{blocks_of}
use Rattle.sysv_steps.specs.Call.{Stats, Sets, Removes}
use Rattle.sysv_steps.specs.Call.{SystemCall, MsgctlStat, MsgctlSet, MsgctlRmid}
use Rattle.sysv_steps.specs.State.{Phase, AtStat, AtSet, AtSetGiveback, AtRemove, AtForget, AtRemoveGiveback, Ending}
use Rattle.sysv_steps.specs.State.{Zero, Told, Refused, State, Goes, Waits, Over}
use Rattle.sysv_steps.specs.Begin.{is_refused, first, begin}
use Rattle.sysv_steps.specs.Asks.{asks}
use Rattle.sysv_steps.specs.Next.{next}
use Rattle.sysv_steps.specs.Played.{Plays, begins, steps, resumes}
use Rattle.sysv_steps.specs.Answers.{refused_by, IsRefusedSo, IsRightStat, IsRightSet, IsRightRemoval}
use Rattle.sysv_steps.proofs.Among.{apart}

-- ---- refusals: for the call's own arguments, by the queue, and none

own_back : (asked : SystemCall) (why : Errno) → IsRefusedSo asked [] why → Refused EINVAL ≡ Refused why
own_back asked why (inl t) = ap Refused (sym t.0)
own_back asked why (inr t) = absurd cc

queue_back : (asked : SystemCall) (ops : List Op) (is why : Errno) → is_refused asked ≡ false →
    flat_map refused_by ops ≡ is ∷ [] → IsRefusedSo asked ops why → Refused is ≡ Refused why
queue_back asked ops is why r f (inl t) = apart _ t.1 r
queue_back asked ops is why r f (inr t) = let e : is ∷ [] ≡ why ∷ [] = sym f ∙ t in cc

none_back : (asked : SystemCall) (ops : List Op) (ending : Ending) (why : Errno) → is_refused asked ≡ false →
    flat_map refused_by ops ≡ [] → IsRefusedSo asked ops why → ending ≡ Refused why
none_back asked ops ending why r f (inl t) = apart _ t.1 r
none_back asked ops ending why r f (inr t) = let e : [] ≡ why ∷ [] = sym f ∙ t in absurd cc

-- ---- IPC_STAT

module _ (id : ℤ) where
  abbrev StatAt : List Op → State Stats → Type 0
  StatAt ops (Goes (AtStat cred at)) = (is_refused (MsgctlStat id) ≡ false) × (ops ≡ [])
  StatAt ops (Over ending) = IsRightStat (MsgctlStat id) ops ending
  StatAt ops state = ⊥

  stat_started : (cred : Cred) (released : ℕ) (b : Bool) → is_refused (MsgctlStat id) ≡ b →
      StatAt [] (cond b (Over (Refused EINVAL)) (Goes (first cred (MsgctlStat id) released)))
  stat_started cred released true r = record {
    told = λ stat. (λ e. cc, λ t. absurd cc);
    refused = λ why. (λ e. inl (cc, r), λ t. own_back (MsgctlStat id) why t);
    only = inr (EINVAL, refl);
  }
  stat_started cred released false r = (r, refl)

  stat_told : (slot : ℕ) (call : Call) (stat : Stat) → is_refused (MsgctlStat id) ≡ false →
      IsRightStat (MsgctlStat id) (AtSlot slot call (TellsStat stat) ∷ []) (Told stat)
  stat_told slot call stat r = record {
    told = λ s. (λ e. cc, λ t. cc);
    refused = λ why.
        (λ e. cc, λ t. none_back (MsgctlStat id) (AtSlot slot call (TellsStat stat) ∷ []) (Told stat) why r refl t);
    only = inl (stat, refl);
  }

  stat_refused : (slot : ℕ) (call : Call) (is : Errno) → is_refused (MsgctlStat id) ≡ false →
      IsRightStat (MsgctlStat id) (AtSlot slot call (IsRefusedFor is) ∷ []) (Refused is)
  stat_refused slot call is r = record {
    told = λ s. (λ e. cc, λ t. absurd cc);
    refused = λ why.
        (λ e. inr (cc), λ t. queue_back (MsgctlStat id) (AtSlot slot call (IsRefusedFor is) ∷ []) is why r refl t);
    only = inr (is, refl);
  }

  stat_step : (cred : Cred) (at : ℤ) (slot : ℕ) (call : Call) (reply : Reply) (after : State Stats) →
      is_refused (MsgctlStat id) ≡ false →
      next (AtStat cred at) (AtSlot slot call reply) ≡ Some after → StatAt (AtSlot slot call reply ∷ []) after
  stat_step cred at slot call (TellsStat stat) after r n =
      let e : Over (Told stat) ≡ after = cc in
      subst (StatAt (AtSlot slot call (TellsStat stat) ∷ [])) e (stat_told slot call stat r)
  stat_step cred at slot call (IsRefusedFor why) after r n =
      let e : Over (Refused why) ≡ after = cc in
      subst (StatAt (AtSlot slot call (IsRefusedFor why) ∷ [])) e (stat_refused slot call why r)
  stat_step cred at slot call reply after r n = absurd cc

  stat_more : (ops : List Op) (phase : Phase Stats) (op : Op) (after : State Stats) → StatAt ops (Goes phase) →
      next phase op ≡ Some after → StatAt (ops ++ op ∷ []) after
  stat_more ops (AtStat cred at) (AtSlot slot call reply) after h n =
      subst (λ (ds : List Op). StatAt (ds ++ AtSlot slot call reply ∷ []) after) (sym h.1)
      (stat_step cred at slot call reply after h.0 n)
  stat_more ops (AtStat cred at) op after h n = absurd cc

  pub stat_at : (cred : Cred) (released : ℕ) (ops : List Op) (state : State Stats) →
      Plays (begin cred (MsgctlStat id) released) ops state → StatAt ops state
  stat_at cred released _ _ begins = stat_started cred released (is_refused (MsgctlStat id)) refl
  stat_at cred released _ _ (steps {ops} {phase} op now after p asked n) =
      stat_more ops phase op after (stat_at cred released ops (Goes phase) p) n
  stat_at cred released _ _ (resumes {ops} {wait} value p least) = absurd (stat_at cred released ops (Waits wait) p)

-- ---- IPC_SET

module _ (id : ℤ) (to : SetTo) where
  abbrev SetAt : List Op → State Sets → Type 0
  SetAt ops (Goes (AtSet cred at what)) = (is_refused (MsgctlSet id to) ≡ false) × (ops ≡ [])
  SetAt ops (Goes AtSetGiveback) =
      (is_refused (MsgctlSet id to) ≡ false) × ((slot : ℕ) × (call : Call) × (ops ≡ AtSlot slot call Done ∷ []))
  SetAt ops (Over ending) = IsRightSet (MsgctlSet id to) ops ending
  SetAt ops state = ⊥

  set_started : (cred : Cred) (released : ℕ) (b : Bool) → is_refused (MsgctlSet id to) ≡ b →
      SetAt [] (cond b (Over (Refused EINVAL)) (Goes (first cred (MsgctlSet id to) released)))
  set_started cred released true r = record {
    zero = (λ e. cc, λ t. cc);
    once = omega arith;
    refused = λ why. (λ e. inl (cc, r), λ t. own_back (MsgctlSet id to) why t);
    only = inr (EINVAL, refl);
  }
  set_started cred released false r = (r, refl)

  set_done : (slot : ℕ) (call : Call) (giveback : PoolCall) (reply : PoolReply) → is_refused (MsgctlSet id to) ≡ false →
      IsRightSet (MsgctlSet id to) (AtSlot slot call Done ∷ AtPool giveback reply ∷ []) Zero
  set_done slot call giveback reply r = record {
    zero = (λ e. refl, λ t. refl);
    once = omega arith;
    refused = λ why. (
      λ e. cc,
      λ t. none_back (MsgctlSet id to) (AtSlot slot call Done ∷ AtPool giveback reply ∷ []) Zero why r refl t,
    );
    only = inl refl;
  }

  set_refused : (slot : ℕ) (call : Call) (is : Errno) → is_refused (MsgctlSet id to) ≡ false →
      IsRightSet (MsgctlSet id to) (AtSlot slot call (IsRefusedFor is) ∷ []) (Refused is)
  set_refused slot call is r = record {
    zero = (λ e. cc, λ t. cc);
    once = omega arith;
    refused = λ why.
        (λ e. inr (cc), λ t. queue_back (MsgctlSet id to) (AtSlot slot call (IsRefusedFor is) ∷ []) is why r refl t);
    only = inr (is, refl);
  }

  set_step : (cred : Cred) (at : ℤ) (what : SetTo) (slot : ℕ) (call : Call) (reply : Reply) (after : State Sets) →
      is_refused (MsgctlSet id to) ≡ false →
      next (AtSet cred at what) (AtSlot slot call reply) ≡ Some after → SetAt (AtSlot slot call reply ∷ []) after
  set_step cred at what slot call Done after r n =
      let e : Goes AtSetGiveback ≡ after = cc in subst (SetAt (AtSlot slot call Done ∷ [])) e (r, (slot, call, refl))
  set_step cred at what slot call (IsRefusedFor why) after r n =
      let e : Over (Refused why) ≡ after = cc in
      subst (SetAt (AtSlot slot call (IsRefusedFor why) ∷ [])) e (set_refused slot call why r)
  set_step cred at what slot call reply after r n = absurd cc

  set_giveback : (slot : ℕ) (call : Call) (giveback : PoolCall) (reply : PoolReply) (after : State Sets) →
      is_refused (MsgctlSet id to) ≡ false →
      next AtSetGiveback (AtPool giveback reply) ≡ Some after →
      SetAt (AtSlot slot call Done ∷ AtPool giveback reply ∷ []) after
  set_giveback slot call giveback Released after r n =
      let e : Over Zero ≡ after = cc in
      subst (SetAt (AtSlot slot call Done ∷ AtPool giveback Released ∷ [])) e (set_done slot call giveback Released r)
  set_giveback slot call giveback Foreign after r n =
      let e : Over Zero ≡ after = cc in
      subst (SetAt (AtSlot slot call Done ∷ AtPool giveback Foreign ∷ [])) e (set_done slot call giveback Foreign r)
  set_giveback slot call giveback reply after r n = absurd cc

  set_more : (ops : List Op) (phase : Phase Sets) (op : Op) (after : State Sets) → SetAt ops (Goes phase) →
      next phase op ≡ Some after → SetAt (ops ++ op ∷ []) after
  set_more ops (AtSet cred at what) (AtSlot slot call reply) after h n =
      subst (λ (ds : List Op). SetAt (ds ++ AtSlot slot call reply ∷ []) after) (sym h.1)
      (set_step cred at what slot call reply after h.0 n)
  set_more ops AtSetGiveback (AtPool giveback reply) after h n =
      subst (λ (ds : List Op). SetAt (ds ++ AtPool giveback reply ∷ []) after) (sym h.1.2)
      (set_giveback h.1.0 h.1.1 giveback reply after h.0 n)
  set_more ops (AtSet cred at what) op after h n = absurd cc
  set_more ops AtSetGiveback op after h n = absurd cc

  pub set_at : (cred : Cred) (released : ℕ) (ops : List Op) (state : State Sets) →
      Plays (begin cred (MsgctlSet id to) released) ops state → SetAt ops state
  set_at cred released _ _ begins = set_started cred released (is_refused (MsgctlSet id to)) refl
  set_at cred released _ _ (steps {ops} {phase} op now after p asked n) =
      set_more ops phase op after (set_at cred released ops (Goes phase) p) n
  set_at cred released _ _ (resumes {ops} {wait} value p least) = absurd (set_at cred released ops (Waits wait) p)

-- ---- IPC_RMID

module _ (id : ℤ) where
  abbrev RemovalAt : List Op → State Removes → Type 0
  RemovalAt ops (Goes (AtRemove cred at)) = (is_refused (MsgctlRmid id) ≡ false) × (ops ≡ [])
  RemovalAt ops (Goes (AtForget at blocks)) =
      (is_refused (MsgctlRmid id) ≡ false)
      × ((slot : ℕ) × (call : Call) × (messages : List Message) × (ops ≡ AtSlot slot call (Discarded messages) ∷ []))
  RemovalAt ops (Goes (AtRemoveGiveback blocks)) =
      (is_refused (MsgctlRmid id) ≡ false)
      × ((slot : ℕ) × (call : Call) × (messages : List Message) × (at : ℤ) × (reply : RegistryReply)
      × (ops ≡ AtSlot slot call (Discarded messages) ∷ AtRegistry (Forget at) reply ∷ []))
  RemovalAt ops (Over ending) = IsRightRemoval (MsgctlRmid id) ops ending
  RemovalAt ops state = ⊥

  removal_started : (cred : Cred) (released : ℕ) (b : Bool) → is_refused (MsgctlRmid id) ≡ b →
      RemovalAt [] (cond b (Over (Refused EINVAL)) (Goes (first cred (MsgctlRmid id) released)))
  removal_started cred released true r = record {
    zero = (λ e. cc, λ t. cc);
    once = omega arith;
    forgotten = (λ e. cc, λ t. cc);
    refused = λ why. (λ e. inl (cc, r), λ t. own_back (MsgctlRmid id) why t);
    only = inr (EINVAL, refl);
  }
  removal_started cred released false r = (r, refl)

  removed : (slot : ℕ) (call : Call) (messages : List Message) (at : ℤ) (reply : RegistryReply) (giveback : PoolCall)
      (back : PoolReply) → is_refused (MsgctlRmid id) ≡ false →
      IsRightRemoval (MsgctlRmid id)
      (AtSlot slot call (Discarded messages) ∷ AtRegistry (Forget at) reply ∷ AtPool giveback back ∷ []) Zero
  removed slot call messages at reply giveback back r = record {
    zero = (λ e. refl, λ t. refl);
    once = omega arith;
    forgotten = (λ e. refl, λ t. refl);
    refused = λ why. (
      λ e. cc,
      λ t.
          none_back (MsgctlRmid id)
          (AtSlot slot call (Discarded messages) ∷ AtRegistry (Forget at) reply ∷ AtPool giveback back ∷ []) Zero why r
          refl t,
    );
    only = inl refl;
  }

  removal_refused : (slot : ℕ) (call : Call) (is : Errno) → is_refused (MsgctlRmid id) ≡ false →
      IsRightRemoval (MsgctlRmid id) (AtSlot slot call (IsRefusedFor is) ∷ []) (Refused is)
  removal_refused slot call is r = record {
    zero = (λ e. cc, λ t. cc);
    once = omega arith;
    forgotten = (λ e. cc, λ t. cc);
    refused = λ why.
        (λ e. inr (cc), λ t. queue_back (MsgctlRmid id) (AtSlot slot call (IsRefusedFor is) ∷ []) is why r refl t);
    only = inr (is, refl);
  }

  remove_step : (cred : Cred) (at : ℤ) (slot : ℕ) (call : Call) (reply : Reply) (after : State Removes) →
      is_refused (MsgctlRmid id) ≡ false →
      next (AtRemove cred at) (AtSlot slot call reply) ≡ Some after → RemovalAt (AtSlot slot call reply ∷ []) after
  remove_step cred at slot call (Discarded messages) after r n =
      let e : Goes (AtForget at (blocks_of messages)) ≡ after = cc in
      subst (RemovalAt (AtSlot slot call (Discarded messages) ∷ [])) e (r, (slot, call, messages, refl))
  remove_step cred at slot call (IsRefusedFor why) after r n =
      let e : Over (Refused why) ≡ after = cc in
      subst (RemovalAt (AtSlot slot call (IsRefusedFor why) ∷ [])) e (removal_refused slot call why r)
  remove_step cred at slot call reply after r n = absurd cc

  forget_step : (slot : ℕ) (call : Call) (messages : List Message) (at by : ℤ) (blocks : ℕ) (reply : RegistryReply)
      (after : State Removes) → is_refused (MsgctlRmid id) ≡ false →
      next (AtForget at blocks) (AtRegistry (Forget by) reply) ≡ Some after →
      RemovalAt (AtSlot slot call (Discarded messages) ∷ AtRegistry (Forget by) reply ∷ []) after
  forget_step slot call messages at by blocks (Changed done) after r n =
      let e : Goes (AtRemoveGiveback blocks) ≡ after = cc in
      subst (RemovalAt (AtSlot slot call (Discarded messages) ∷ AtRegistry (Forget by) (Changed done) ∷ [])) e
      (r, (slot, call, messages, by, Changed done, refl))
  forget_step slot call messages at by blocks reply after r n = absurd cc

  removal_giveback : (slot : ℕ) (call : Call) (messages : List Message) (at : ℤ) (reply : RegistryReply) (blocks : ℕ)
      (giveback : PoolCall) (back : PoolReply) (after : State Removes) → is_refused (MsgctlRmid id) ≡ false →
      next (AtRemoveGiveback blocks) (AtPool giveback back) ≡ Some after →
      RemovalAt (AtSlot slot call (Discarded messages) ∷ AtRegistry (Forget at) reply ∷ AtPool giveback back ∷ []) after
  removal_giveback slot call messages at reply blocks giveback Released after r n =
      let e : Over Zero ≡ after = cc in
      subst (RemovalAt (AtSlot slot call (Discarded messages) ∷ AtRegistry (Forget at) reply ∷ AtPool giveback Released
      ∷ [])) e (removed slot call messages at reply giveback Released r)
  removal_giveback slot call messages at reply blocks giveback Foreign after r n =
      let e : Over Zero ≡ after = cc in
      subst (RemovalAt (AtSlot slot call (Discarded messages) ∷ AtRegistry (Forget at) reply ∷ AtPool giveback Foreign
      ∷ [])) e (removed slot call messages at reply giveback Foreign r)
  removal_giveback slot call messages at reply blocks giveback back after r n = absurd cc

  removal_more : (ops : List Op) (phase : Phase Removes) (op : Op) (now : ℕ) (after : State Removes) →
      RemovalAt ops (Goes phase) → asked_by op ≡ asks phase now → next phase op ≡ Some after →
      RemovalAt (ops ++ op ∷ []) after
  removal_more ops (AtRemove cred at) (AtSlot slot call reply) now after h is n =
      subst (λ (ds : List Op). RemovalAt (ds ++ AtSlot slot call reply ∷ []) after) (sym h.1)
      (remove_step cred at slot call reply after h.0 n)
  removal_more ops (AtForget at blocks) (AtRegistry call reply) now after h is n =
      let c : Forget at ≡ call = cc in
      subst (λ (k : RegistryCall). RemovalAt (ops ++ AtRegistry k reply ∷ []) after) c
      (subst (λ (ds : List Op). RemovalAt (ds ++ AtRegistry (Forget at) reply ∷ []) after) (sym h.1.3)
      (forget_step h.1.0 h.1.1 h.1.2 at at blocks reply after h.0 n))
  removal_more ops (AtRemoveGiveback blocks) (AtPool giveback back) now after h is n =
      subst (λ (ds : List Op). RemovalAt (ds ++ AtPool giveback back ∷ []) after) (sym h.1.5)
      (removal_giveback h.1.0 h.1.1 h.1.2 h.1.3 h.1.4 blocks giveback back after h.0 n)
  removal_more ops (AtRemove cred at) op now after h is n = absurd cc
  removal_more ops (AtForget at blocks) op now after h is n = absurd cc
  removal_more ops (AtRemoveGiveback blocks) op now after h is n = absurd cc

  pub removal_at : (cred : Cred) (released : ℕ) (ops : List Op) (state : State Removes) →
      Plays (begin cred (MsgctlRmid id) released) ops state → RemovalAt ops state
  removal_at cred released _ _ begins = removal_started cred released (is_refused (MsgctlRmid id)) refl
  removal_at cred released _ _ (steps {ops} {phase} op now after p asked n) =
      removal_more ops phase op now after (removal_at cred released ops (Goes phase) p) asked n
  removal_at cred released _ _ (resumes {ops} {wait} value p least) =
      absurd (removal_at cred released ops (Waits wait) p)
