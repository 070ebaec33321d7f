-- A send that plays to its end has a right result. While it is pending, its body was not
-- accepted, its identifier was not found gone, and it remembers whether the identifier was found
-- live; one that does not wait has met no want of room.
use Rattle.std.proofs.Common.{◌≡◌, ℕ, ℤ, ◌+◌, inl, inr, Bool, true, false, List, [], ◌∷◌, ◌++◌, Some, cond, refl, sym}
use Rattle.std.proofs.Common.{subst, ◌∙◌, arith}
use Rattle.std.specs.List.{list_any}
use Rattle.sysv_model.specs.declared.cred.Cred.{Cred}
use Rattle.sysv_model.specs.declared.errno.Errno.TheVariants.{EACCES, EAGAIN, EINVAL}
use Rattle.sysv_model.specs.declared.flags.Flags.{Flags}
use Rattle.sysv_model.specs.declared.flags.TheConstants.Flags.{IPC_NOWAIT}
use Rattle.sysv_model.specs.HasFlag.{has_flag}
use Rattle.sysv_model.specs.History.{Call, Reply, Gone, Denied, Full, Fits, Accepted}
use Rattle.sysv_model.specs.Pool.{PoolCall, PoolReply, Reserved, TooFew, Released, Foreign}
use Rattle.sysv_model.specs.Turn.{Op, AtSlot, AtPool}
use Rattle.sysv_steps.specs.Call.{Sends}
use Rattle.sysv_steps.specs.Call.{Msgsnd}
use Rattle.sysv_steps.specs.State.{Sending, Wait, OnFreed, OnReleased, Afterwards, IsRefused, WaitsOn, Phase, AtLook}
use Rattle.sysv_steps.specs.State.{AtReserve, AtPlace, AtSendGiveback, Ending, Zero, Refused, State, Goes, Waits, Over}
use Rattle.sysv_steps.specs.Begin.{is_refused, first, begin}
use Rattle.sysv_steps.specs.Next.{next, next_of_slot, gone, waits_or, goes_on, is_full}
use Rattle.sysv_steps.specs.Resume.{resume}
use Rattle.sysv_steps.specs.Played.{Plays, begins, steps, resumes}
use Rattle.sysv_steps.specs.Answers.{was_accepted, was_full, was_denied, found_gone, found_live, IsRightSend}
use Rattle.sysv_steps.proofs.Among.{apart, kept, found, once_at_most, once_still}

module _ (id mtype : ℤ) (flags : Flags) (text : List ℕ) where
  abbrev IsRight : List Op → Ending → Type 0
  IsRight ops ending = IsRightSend (Msgsnd id mtype flags text) flags ops ending

  pub record Pending (send : Sending) (ops : List Op) : Type 0 where
    pub allowed : is_refused (Msgsnd id mtype flags text) ≡ false
    pub nowait : send.nowait ≡ has_flag IPC_NOWAIT flags
    pub accepted : list_any was_accepted ops ≡ false
    pub full : send.nowait ≡ true → list_any was_full ops ≡ false
    pub denied : list_any was_denied ops ≡ false
    pub gone : list_any found_gone ops ≡ false
    pub live : list_any found_live ops ≡ send.seen

  -- What is known of a send that has yet to release its chain.
  abbrev pub AfterAt : List Op → Afterwards Sends → Type 0
  AfterAt ops (IsRefused why) = IsRight ops (Refused why)
  AfterAt ops (WaitsOn (OnFreed goal send)) = Pending send ops
  AfterAt ops (WaitsOn wait) = ⊥

  -- What is known of a send in this state after these operations.
  abbrev pub SendAt : List Op → State Sends → Type 0
  SendAt ops (Goes (AtLook send)) = Pending send ops
  SendAt ops (Goes (AtReserve send)) = Pending send ops
  SendAt ops (Goes (AtPlace send blocks)) = Pending send ops
  SendAt ops (Goes (AtSendGiveback blocks afterwards)) = AfterAt ops afterwards
  SendAt ops (Waits (OnFreed goal send)) = Pending send ops
  SendAt ops (Waits (OnReleased goal send)) = Pending send ops
  SendAt ops (Over ending) = IsRight ops ending

  refused_at_once : is_refused (Msgsnd id mtype flags text) ≡ true → IsRight [] (Refused EINVAL)
  refused_at_once r = record {
    zero = (λ e. cc, λ t. cc);
    once = omega arith;
    again = (λ e. cc, λ t. cc);
    denied = (λ e. cc, λ t. cc);
    removed = (λ e. cc, λ t. cc);
    invalid = (λ e. inl r, λ t. refl);
    only = inr (inr (inr (inr (inl refl))));
  }

  started : (cred : Cred) (released : ℕ) (b : Bool) → is_refused (Msgsnd id mtype flags text) ≡ b →
      SendAt [] (cond b (Over (Refused EINVAL)) (Goes (first cred (Msgsnd id mtype flags text) released)))
  started cred released true r = refused_at_once r
  started cred released false r =
      record { allowed = r; nowait = refl; accepted = refl; full = λ n. refl; denied = refl; gone = refl; live = refl }

  -- An operation about which no line of the law says anything.
  record IsQuiet (op : Op) : Type 0 where
    accepted : was_accepted op ≡ false
    full : was_full op ≡ false
    denied : was_denied op ≡ false
    gone : found_gone op ≡ false
    live : found_live op ≡ false

  right_still : (ops : List Op) (op : Op) (ending : Ending) → IsQuiet op → IsRight ops ending →
      IsRight (ops ++ op ∷ []) ending
  right_still ops op ending q r =
      let a = kept was_accepted ops op q.accepted in
      let f = kept was_full ops op q.full in
      let d = kept was_denied ops op q.denied in
      let g = kept found_gone ops op q.gone in
      let l = kept found_live ops op q.live in
      record {
        zero = (λ e. a ∙ r.zero.0 e, λ t. r.zero.1 (sym a ∙ t));
        once = once_still was_accepted ops op q.accepted r.once;
        again = (λ e. ((r.again.0 e).0, f ∙ (r.again.0 e).1), λ t. r.again.1 (t.0, sym f ∙ t.1));
        denied = (λ e. d ∙ r.denied.0 e, λ t. r.denied.1 (sym d ∙ t));
        removed = (λ e. (g ∙ (r.removed.0 e).0, l ∙ (r.removed.0 e).1), λ t. r.removed.1 (sym g ∙ t.0, sym l ∙ t.1));
        invalid = (
          λ e. elim (r.invalid.0 e) [ inl i ↦ inl i | inr b ↦ inr (g ∙ b.0, l ∙ b.1) ],
          λ t. elim t [ inl i ↦ r.invalid.1 (inl i) | inr b ↦ r.invalid.1 (inr (sym g ∙ b.0, sym l ∙ b.1)) ],
        );
        only = r.only;
      }

  pending_still : (send : Sending) (ops : List Op) (op : Op) → IsQuiet op → Pending send ops →
      Pending send (ops ++ op ∷ [])
  pending_still send ops op q u = record {
    allowed = u.allowed;
    nowait = u.nowait;
    accepted = kept was_accepted ops op q.accepted ∙ u.accepted;
    full = λ t. kept was_full ops op q.full ∙ u.full t;
    denied = kept was_denied ops op q.denied ∙ u.denied;
    gone = kept found_gone ops op q.gone ∙ u.gone;
    live = kept found_live ops op q.live ∙ u.live;
  }

  -- ---- its turns at the pool

  module _ (send : Sending) (ops : List Op) (u : Pending send ops) (call : PoolCall) where
    few_right : send.nowait ≡ true → IsRight (ops ++ AtPool call TooFew ∷ []) (Refused EAGAIN)
    few_right n =
        let a : list_any was_accepted (ops ++ AtPool call TooFew ∷ []) ≡ false =
        kept was_accepted ops (AtPool call TooFew) refl ∙ u.accepted in
        let f : list_any was_full (ops ++ AtPool call TooFew ∷ []) ≡ true =
        found was_full ops (AtPool call TooFew) refl in
        let d : list_any was_denied (ops ++ AtPool call TooFew ∷ []) ≡ false =
        kept was_denied ops (AtPool call TooFew) refl ∙ u.denied in
        let g : list_any found_gone (ops ++ AtPool call TooFew ∷ []) ≡ false =
        kept found_gone ops (AtPool call TooFew) refl ∙ u.gone in
        record {
          zero = (λ e. cc, λ t. apart _ t a);
          once = once_at_most was_accepted ops (AtPool call TooFew) u.accepted;
          again = (λ e. (sym u.nowait ∙ n, f), λ t. refl);
          denied = (λ e. cc, λ t. apart _ t d);
          removed = (λ e. cc, λ t. apart _ t.0 g);
          invalid = (λ e. cc, λ t. elim t [ inl r ↦ apart _ r u.allowed | inr b ↦ apart _ b.0 g ]);
          only = inr (inl refl);
        }

    few_waits : send.nowait ≡ false → Pending send (ops ++ AtPool call TooFew ∷ [])
    few_waits n = record {
      allowed = u.allowed;
      nowait = u.nowait;
      accepted = kept was_accepted ops (AtPool call TooFew) refl ∙ u.accepted;
      full = λ t. apart _ t n;
      denied = kept was_denied ops (AtPool call TooFew) refl ∙ u.denied;
      gone = kept found_gone ops (AtPool call TooFew) refl ∙ u.gone;
      live = kept found_live ops (AtPool call TooFew) refl ∙ u.live;
    }

    few_goes : (b : Bool) → send.nowait ≡ b →
        SendAt (ops ++ AtPool call TooFew ∷ []) (goes_on (waits_or b (OnReleased (send.released + 1) send) EAGAIN))
    few_goes true n = few_right n
    few_goes false n = few_waits n

    reserve_step : (reply : PoolReply) (after : State Sends) → next (AtReserve send) (AtPool call reply) ≡ Some after →
        SendAt (ops ++ AtPool call reply ∷ []) after
    reserve_step (Reserved blocks) after n =
        let e : Goes (AtPlace send blocks) ≡ after = cc in
        subst (SendAt (ops ++ AtPool call (Reserved blocks) ∷ [])) e
        (pending_still send ops (AtPool call (Reserved blocks))
        record { accepted = refl; full = refl; denied = refl; gone = refl; live = refl } u)
    reserve_step TooFew after n =
        let e : goes_on (waits_or send.nowait (OnReleased (send.released + 1) send) EAGAIN) ≡ after = cc in
        subst (SendAt (ops ++ AtPool call TooFew ∷ [])) e (few_goes send.nowait refl)
    reserve_step reply after n = absurd cc

  given_back : (ops : List Op) (afterwards : Afterwards Sends) (op : Op) → IsQuiet op → AfterAt ops afterwards →
      SendAt (ops ++ op ∷ []) (goes_on afterwards)
  given_back ops (IsRefused why) op q at = right_still ops op (Refused why) q at
  given_back ops (WaitsOn (OnFreed goal send)) op q at = pending_still send ops op q at
  given_back ops (WaitsOn wait) op q at = absurd at

  giveback_step : (ops : List Op) (blocks : ℕ) (afterwards : Afterwards Sends) (call : PoolCall) (reply : PoolReply)
      (after : State Sends) → AfterAt ops afterwards →
      next (AtSendGiveback blocks afterwards) (AtPool call reply) ≡ Some after →
      SendAt (ops ++ AtPool call reply ∷ []) after
  giveback_step ops blocks afterwards call Released after at n =
      let e : goes_on afterwards ≡ after = cc in
      subst (SendAt (ops ++ AtPool call Released ∷ [])) e
      (given_back ops afterwards (AtPool call Released)
      record { accepted = refl; full = refl; denied = refl; gone = refl; live = refl } at)
  giveback_step ops blocks afterwards call Foreign after at n =
      let e : goes_on afterwards ≡ after = cc in
      subst (SendAt (ops ++ AtPool call Foreign ∷ [])) e
      (given_back ops afterwards (AtPool call Foreign)
      record { accepted = refl; full = refl; denied = refl; gone = refl; live = refl } at)
  giveback_step ops blocks afterwards call reply after at n = absurd cc

  -- ---- and those at its queue

  module _ (send : Sending) (ops : List Op) (u : Pending send ops) (slot : ℕ) (call : Call) where
    abbrev with : Reply → List Op
    with reply = ops ++ AtSlot slot call reply ∷ []

    gone_right : (seen : Bool) → list_any found_live ops ≡ seen → IsRight (with Gone) (Refused (gone seen))
    gone_right true l =
        let a : list_any was_accepted (with Gone) ≡ false =
        kept was_accepted ops (AtSlot slot call Gone) refl ∙ u.accepted in
        let f : list_any was_full (with Gone) ≡ list_any was_full ops =
        kept was_full ops (AtSlot slot call Gone) refl in
        let d : list_any was_denied (with Gone) ≡ false =
        kept was_denied ops (AtSlot slot call Gone) refl ∙ u.denied in
        let g : list_any found_gone (with Gone) ≡ true = found found_gone ops (AtSlot slot call Gone) refl in
        let k : list_any found_live (with Gone) ≡ true = kept found_live ops (AtSlot slot call Gone) refl ∙ l in
        record {
          zero = (λ e. cc, λ t. apart _ t a);
          once = once_at_most was_accepted ops (AtSlot slot call Gone) u.accepted;
          again = (λ e. cc, λ t. apart _ t.1 (f ∙ u.full (u.nowait ∙ t.0)));
          denied = (λ e. cc, λ t. apart _ t d);
          removed = (λ e. (g, k), λ t. refl);
          invalid = (λ e. cc, λ t. elim t [ inl r ↦ apart _ r u.allowed | inr b ↦ apart _ k b.1 ]);
          only = inr (inr (inr (inl refl)));
        }
    gone_right false l =
        let a : list_any was_accepted (with Gone) ≡ false =
        kept was_accepted ops (AtSlot slot call Gone) refl ∙ u.accepted in
        let f : list_any was_full (with Gone) ≡ list_any was_full ops =
        kept was_full ops (AtSlot slot call Gone) refl in
        let d : list_any was_denied (with Gone) ≡ false =
        kept was_denied ops (AtSlot slot call Gone) refl ∙ u.denied in
        let g : list_any found_gone (with Gone) ≡ true = found found_gone ops (AtSlot slot call Gone) refl in
        let k : list_any found_live (with Gone) ≡ false = kept found_live ops (AtSlot slot call Gone) refl ∙ l in
        record {
          zero = (λ e. cc, λ t. apart _ t a);
          once = once_at_most was_accepted ops (AtSlot slot call Gone) u.accepted;
          again = (λ e. cc, λ t. apart _ t.1 (f ∙ u.full (u.nowait ∙ t.0)));
          denied = (λ e. cc, λ t. apart _ t d);
          removed = (λ e. cc, λ t. apart _ t.1 k);
          invalid = (λ e. inr (g, k), λ t. refl);
          only = inr (inr (inr (inr (inl refl))));
        }

    denied_right : IsRight (with Denied) (Refused EACCES)
    denied_right =
        let a : list_any was_accepted (with Denied) ≡ false =
        kept was_accepted ops (AtSlot slot call Denied) refl ∙ u.accepted in
        let f : list_any was_full (with Denied) ≡ list_any was_full ops =
        kept was_full ops (AtSlot slot call Denied) refl in
        let d : list_any was_denied (with Denied) ≡ true = found was_denied ops (AtSlot slot call Denied) refl in
        let g : list_any found_gone (with Denied) ≡ false =
        kept found_gone ops (AtSlot slot call Denied) refl ∙ u.gone in
        record {
          zero = (λ e. cc, λ t. apart _ t a);
          once = once_at_most was_accepted ops (AtSlot slot call Denied) u.accepted;
          again = (λ e. cc, λ t. apart _ t.1 (f ∙ u.full (u.nowait ∙ t.0)));
          denied = (λ e. d, λ t. refl);
          removed = (λ e. cc, λ t. apart _ t.0 g);
          invalid = (λ e. cc, λ t. elim t [ inl r ↦ apart _ r u.allowed | inr b ↦ apart _ b.0 g ]);
          only = inr (inr (inl refl));
        }

    full_right : (freed : ℕ) → send.nowait ≡ true → IsRight (with (Full freed)) (Refused EAGAIN)
    full_right freed n =
        let a : list_any was_accepted (with (Full freed)) ≡ false =
        kept was_accepted ops (AtSlot slot call (Full freed)) refl ∙ u.accepted in
        let f : list_any was_full (with (Full freed)) ≡ true =
        found was_full ops (AtSlot slot call (Full freed)) refl in
        let d : list_any was_denied (with (Full freed)) ≡ false =
        kept was_denied ops (AtSlot slot call (Full freed)) refl ∙ u.denied in
        let g : list_any found_gone (with (Full freed)) ≡ false =
        kept found_gone ops (AtSlot slot call (Full freed)) refl ∙ u.gone in
        record {
          zero = (λ e. cc, λ t. apart _ t a);
          once = once_at_most was_accepted ops (AtSlot slot call (Full freed)) u.accepted;
          again = (λ e. (sym u.nowait ∙ n, f), λ t. refl);
          denied = (λ e. cc, λ t. apart _ t d);
          removed = (λ e. cc, λ t. apart _ t.0 g);
          invalid = (λ e. cc, λ t. elim t [ inl r ↦ apart _ r u.allowed | inr b ↦ apart _ b.0 g ]);
          only = inr (inl refl);
        }

    full_waits : (freed : ℕ) → send.nowait ≡ false → Pending (record send { seen = true }) (with (Full freed))
    full_waits freed n = record {
      allowed = u.allowed;
      nowait = u.nowait;
      accepted = kept was_accepted ops (AtSlot slot call (Full freed)) refl ∙ u.accepted;
      full = λ t. apart _ t n;
      denied = kept was_denied ops (AtSlot slot call (Full freed)) refl ∙ u.denied;
      gone = kept found_gone ops (AtSlot slot call (Full freed)) refl ∙ u.gone;
      live = found found_live ops (AtSlot slot call (Full freed)) refl;
    }

    full_goes : (freed : ℕ) (b : Bool) → send.nowait ≡ b →
        SendAt (with (Full freed)) (goes_on (waits_or b (OnFreed (freed + 1) (record send { seen = true })) EAGAIN))
    full_goes freed true n = full_right freed n
    full_goes freed false n = full_waits freed n

    full_after : (freed : ℕ) (b : Bool) → send.nowait ≡ b →
        AfterAt (with (Full freed)) (waits_or b (OnFreed (freed + 1) (record send { seen = true })) EAGAIN)
    full_after freed true n = full_right freed n
    full_after freed false n = full_waits freed n

    fits_goes : Pending (record send { seen = true }) (with Fits)
    fits_goes = record {
      allowed = u.allowed;
      nowait = u.nowait;
      accepted = kept was_accepted ops (AtSlot slot call Fits) refl ∙ u.accepted;
      full = λ t. kept was_full ops (AtSlot slot call Fits) refl ∙ u.full t;
      denied = kept was_denied ops (AtSlot slot call Fits) refl ∙ u.denied;
      gone = kept found_gone ops (AtSlot slot call Fits) refl ∙ u.gone;
      live = found found_live ops (AtSlot slot call Fits) refl;
    }

    placed_right : (number : ℕ) → IsRight (with (Accepted number)) Zero
    placed_right number =
        let a : list_any was_accepted (with (Accepted number)) ≡ true =
        found was_accepted ops (AtSlot slot call (Accepted number)) refl in
        let f : list_any was_full (with (Accepted number)) ≡ list_any was_full ops =
        kept was_full ops (AtSlot slot call (Accepted number)) refl in
        let d : list_any was_denied (with (Accepted number)) ≡ false =
        kept was_denied ops (AtSlot slot call (Accepted number)) refl ∙ u.denied in
        let g : list_any found_gone (with (Accepted number)) ≡ false =
        kept found_gone ops (AtSlot slot call (Accepted number)) refl ∙ u.gone in
        record {
          zero = (λ e. a, λ t. refl);
          once = once_at_most was_accepted ops (AtSlot slot call (Accepted number)) u.accepted;
          again = (λ e. cc, λ t. apart _ t.1 (f ∙ u.full (u.nowait ∙ t.0)));
          denied = (λ e. cc, λ t. apart _ t d);
          removed = (λ e. cc, λ t. apart _ t.0 g);
          invalid = (λ e. cc, λ t. elim t [ inl r ↦ apart _ r u.allowed | inr b ↦ apart _ b.0 g ]);
          only = inl refl;
        }

    -- One more operation at a look, and at a place.
    look_step : (reply : Reply) (after : State Sends) → next (AtLook send) (AtSlot slot call reply) ≡ Some after →
        SendAt (with reply) after
    look_step Gone after n =
        let e : Over (Refused (gone send.seen)) ≡ after = cc in
        subst (SendAt (with Gone)) e (gone_right send.seen u.live)
    look_step Denied after n = let e : Over (Refused EACCES) ≡ after = cc in subst (SendAt (with Denied)) e denied_right
    look_step (Full freed) after n =
        let e : goes_on (is_full send freed) ≡ after = cc in
        subst (SendAt (with (Full freed))) e (full_goes freed send.nowait refl)
    look_step Fits after n =
        let e : Goes (AtReserve (record send { seen = true })) ≡ after = cc in subst (SendAt (with Fits)) e fits_goes
    look_step reply after n = absurd cc

    place_step : (blocks : ℕ) (reply : Reply) (after : State Sends) →
        next (AtPlace send blocks) (AtSlot slot call reply) ≡ Some after → SendAt (with reply) after
    place_step blocks Gone after n =
        let e : Goes (AtSendGiveback blocks (IsRefused (gone send.seen))) ≡ after = cc in
        subst (SendAt (with Gone)) e (gone_right send.seen u.live)
    place_step blocks Denied after n =
        let e : Goes (AtSendGiveback blocks (IsRefused EACCES)) ≡ after = cc in
        subst (SendAt (with Denied)) e denied_right
    place_step blocks (Full freed) after n =
        let e : Goes (AtSendGiveback blocks (is_full send freed)) ≡ after = cc in
        subst (SendAt (with (Full freed))) e (full_after freed send.nowait refl)
    place_step blocks (Accepted number) after n =
        let e : Over Zero ≡ after = cc in subst (SendAt (with (Accepted number))) e (placed_right number)
    place_step blocks reply after n = absurd cc

  one_step : (ops : List Op) (phase : Phase Sends) (op : Op) (after : State Sends) → SendAt ops (Goes phase) →
      next phase op ≡ Some after → SendAt (ops ++ op ∷ []) after
  one_step ops (AtLook send) (AtSlot slot call reply) after at n = look_step send ops at slot call reply after n
  one_step ops (AtReserve send) (AtPool call reply) after at n = reserve_step send ops at call reply after n
  one_step ops (AtPlace send blocks) (AtSlot slot call reply) after at n =
      place_step send ops at slot call blocks reply after n
  one_step ops (AtSendGiveback blocks afterwards) (AtPool call reply) after at n =
      giveback_step ops blocks afterwards call reply after at n
  one_step ops (AtLook send) op after at n = absurd cc
  one_step ops (AtReserve send) op after at n = absurd cc
  one_step ops (AtPlace send blocks) op after at n = absurd cc
  one_step ops (AtSendGiveback blocks afterwards) op after at n = absurd cc

  started_again : (send : Sending) (released : ℕ) (ops : List Op) → Pending send ops →
      Pending (record send { released = released }) ops
  started_again send released ops u =
      record {
        allowed = u.allowed;
        nowait = u.nowait;
        accepted = u.accepted;
        full = u.full;
        denied = u.denied;
        gone = u.gone;
        live = u.live;
      }

  one_wait : (ops : List Op) (wait : Wait Sends) (value : ℕ) → SendAt ops (Waits wait) →
      SendAt ops (Goes (resume wait value))
  one_wait ops (OnFreed goal send) value at = at
  one_wait ops (OnReleased goal send) value at = started_again send value ops at

  pub send_at : (cred : Cred) (released : ℕ) (ops : List Op) (state : State Sends) →
      Plays (begin cred (Msgsnd id mtype flags text) released) ops state → SendAt ops state
  send_at cred released _ _ begins = started cred released (is_refused (Msgsnd id mtype flags text)) refl
  send_at cred released _ _ (steps {ops} {phase} op now after p asked n) =
      one_step ops phase op after (send_at cred released ops (Goes phase) p) n
  send_at cred released _ _ (resumes {ops} {wait} value p least) =
      one_wait ops wait value (send_at cred released ops (Waits wait) p)

  none_gone : (ops : List Op) (phase : Phase Sends) (reply : Reply) (after : State Sends) → SendAt ops (Goes phase) →
      next_of_slot phase reply ≡ Some after → list_any found_gone ops ≡ false
  none_gone ops (AtLook send) reply after at n = at.gone
  none_gone ops (AtPlace send blocks) reply after at n = at.gone
  none_gone ops (AtReserve send) reply after at n = absurd cc
  none_gone ops (AtSendGiveback blocks afterwards) reply after at n = absurd cc

  -- A send that comes to a slot has not found its identifier gone before.
  pub send_goes_on : (cred : Cred) (released : ℕ) (ops : List Op) (phase : Phase Sends) (reply : Reply)
      (after : State Sends) →
      Plays (begin cred (Msgsnd id mtype flags text) released) ops (Goes phase) →
      next_of_slot phase reply ≡ Some after → list_any found_gone ops ≡ false
  send_goes_on cred released ops phase reply after p n =
      none_gone ops phase reply after (send_at cred released ops (Goes phase) p) n
