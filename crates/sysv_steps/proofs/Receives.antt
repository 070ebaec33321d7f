-- A receive that plays to its end has a right result. While it is pending, it has taken no
-- message, its identifier was not found gone, and it remembers whether the identifier was found
-- live; one that does not wait has met no want of a message.
use Rattle.std.proofs.Common.{◌≡◌, ℕ, ℤ, ◌+◌, inl, inr, Bool, true, false, List, [], ◌∷◌, ◌++◌, Some, cond, refl}
use Rattle.std.proofs.Common.{sym, ap, subst, ◌∙◌, arith, take, length}
use Rattle.std.specs.List.{list_any, flat_map}
use Rattle.std.proofs.lemmas.Grind.{flat_map-append}
use Rattle.sysv_model.specs.declared.cred.Cred.{Cred}
use Rattle.sysv_model.specs.declared.errno.Errno.TheVariants.{EACCES, ENOMSG, EINVAL, E2BIG}
use Rattle.sysv_model.specs.declared.flags.Flags.{Flags}
use Rattle.sysv_model.specs.declared.flags.TheConstants.Flags.{IPC_NOWAIT}
use Rattle.sysv_model.specs.HasFlag.{has_flag}
use Rattle.sysv_model.specs.Message.{Message}
use Rattle.sysv_model.specs.History.{Call, Reply, Gone, Denied, NoMatch, TooLong, Taken}
use Rattle.sysv_model.specs.Pool.{PoolCall, PoolReply, Released, Foreign, blocks_for}
use Rattle.sysv_model.specs.Turn.{Op, AtSlot, AtPool}
use Rattle.sysv_steps.specs.Call.{Receives}
use Rattle.sysv_steps.specs.Call.{Msgrcv}
use Rattle.sysv_steps.specs.State.{Receiving, Wait, OnArrived, Phase, AtTake, AtReceiveGiveback, Ending, Got, Refused}
use Rattle.sysv_steps.specs.State.{State, Goes, Waits, Over}
use Rattle.sysv_steps.specs.Begin.{is_refused, first, begin}
use Rattle.sysv_steps.specs.Next.{next, next_of_slot, gone, waits_or, goes_on}
use Rattle.sysv_steps.specs.Resume.{resume}
use Rattle.sysv_steps.specs.Played.{Plays, begins, steps, resumes}
use Rattle.sysv_steps.specs.Answers.{was_denied, was_too_long, found_none, found_gone, found_live, taken_by}
use Rattle.sysv_steps.specs.Answers.{IsRightReceive}
use Rattle.sysv_steps.proofs.Among.{apart, kept, found, gave}

never : {m : Message} → [] ≡ m ∷ [] → ⊥
never e = cc

only : (m n : Message) → m ∷ [] ≡ n ∷ [] → m ≡ n
only m n e = cc

same_got : (size : ℕ) (m n : Message) (mtype : ℤ) (text : List ℕ) → m ≡ n → mtype ≡ n.mtype → text ≡ take size n.bytes →
    Got m.mtype (take size m.bytes) ≡ Got mtype text
same_got size m n mtype text e a b = cc

taken_with : (ops : List Op) (op : Op) (ms : List Message) → flat_map taken_by ops ≡ [] →
    flat_map taken_by (op ∷ []) ≡ ms → flat_map taken_by (ops ++ op ∷ []) ≡ ms
taken_with ops op ms e m =
    flat_map-append taken_by ops (op ∷ []) ∙ (ap (λ (l : List Message). l ++ flat_map taken_by (op ∷ [])) e ∙ m)

module _ (id : ℤ) (size : ℕ) (mtype : ℤ) (flags : Flags) where
  abbrev IsRight : List Op → Ending → Type 0
  IsRight ops ending = IsRightReceive (Msgrcv id size mtype flags) size flags ops ending

  pub record Pending (receive : Receiving) (ops : List Op) : Type 0 where
    pub allowed : is_refused (Msgrcv id size mtype flags) ≡ false
    pub nowait : receive.nowait ≡ has_flag IPC_NOWAIT flags
    pub wanted : receive.size ≡ size
    pub taken : flat_map taken_by ops ≡ []
    pub none : receive.nowait ≡ true → list_any found_none ops ≡ false
    pub long : list_any was_too_long ops ≡ false
    pub denied : list_any was_denied ops ≡ false
    pub gone : list_any found_gone ops ≡ false
    pub live : list_any found_live ops ≡ receive.seen

  -- What is known of a receive in this state after these operations.
  abbrev pub ReceiveAt : List Op → State Receives → Type 0
  ReceiveAt ops (Goes (AtTake receive)) = Pending receive ops
  ReceiveAt ops (Goes (AtReceiveGiveback blocks type text)) = IsRight ops (Got type text)
  ReceiveAt ops (Waits (OnArrived goal receive)) = Pending receive ops
  ReceiveAt ops (Over ending) = IsRight ops ending

  refused_at_once : is_refused (Msgrcv id size mtype flags) ≡ true → IsRight [] (Refused EINVAL)
  refused_at_once r = record {
    got = λ mtype text. (λ e. cc, λ t. absurd (never t.1));
    once = omega arith;
    none = (λ e. cc, λ t. cc);
    long = (λ e. cc, λ t. cc);
    denied = (λ e. cc, λ t. cc);
    removed = (λ e. cc, λ t. cc);
    invalid = (λ e. inl r, λ t. refl);
    only = inr (inr (inr (inr (inr (inl refl)))));
  }

  started : (cred : Cred) (released : ℕ) (b : Bool) → is_refused (Msgrcv id size mtype flags) ≡ b →
      ReceiveAt [] (cond b (Over (Refused EINVAL)) (Goes (first cred (Msgrcv id size mtype flags) released)))
  started cred released true r = refused_at_once r
  started cred released false r =
      record {
        allowed = r;
        nowait = refl;
        wanted = refl;
        taken = refl;
        none = λ n. refl;
        long = refl;
        denied = refl;
        gone = refl;
        live = refl;
      }

  module _ (receive : Receiving) (ops : List Op) (u : Pending receive ops) (slot : ℕ) (call : Call) where
    abbrev with : Reply → List Op
    with reply = ops ++ AtSlot slot call reply ∷ []

    gone_right : (seen : Bool) → list_any found_live ops ≡ seen → IsRight (with Gone) (Refused (gone seen))
    gone_right true l =
        let m : flat_map taken_by (with Gone) ≡ [] = taken_with ops (AtSlot slot call Gone) [] u.taken refl in
        let n : list_any found_none (with Gone) ≡ list_any found_none ops =
        kept found_none ops (AtSlot slot call Gone) refl in
        let z : list_any was_too_long (with Gone) ≡ false =
        kept was_too_long ops (AtSlot slot call Gone) refl ∙ u.long in
        let d : list_any was_denied (with Gone) ≡ false =
        kept was_denied ops (AtSlot slot call Gone) refl ∙ u.denied in
        let g : list_any found_gone (with Gone) ≡ true = found found_gone ops (AtSlot slot call Gone) refl in
        let k : list_any found_live (with Gone) ≡ true = kept found_live ops (AtSlot slot call Gone) refl ∙ l in
        record {
          got = λ mtype text. (λ e. cc, λ t. absurd (never (sym m ∙ t.1)));
          once = omega (arith, ap length m);
          none = (λ e. cc, λ t. apart _ t.1 (n ∙ u.none (u.nowait ∙ t.0)));
          long = (λ e. cc, λ t. apart _ t z);
          denied = (λ e. cc, λ t. apart _ t d);
          removed = (λ e. (g, k), λ t. refl);
          invalid = (λ e. cc, λ t. elim t [ inl r ↦ apart _ r u.allowed | inr b ↦ apart _ k b.1 ]);
          only = inr (inr (inr (inr (inl refl))));
        }
    gone_right false l =
        let m : flat_map taken_by (with Gone) ≡ [] = taken_with ops (AtSlot slot call Gone) [] u.taken refl in
        let n : list_any found_none (with Gone) ≡ list_any found_none ops =
        kept found_none ops (AtSlot slot call Gone) refl in
        let z : list_any was_too_long (with Gone) ≡ false =
        kept was_too_long ops (AtSlot slot call Gone) refl ∙ u.long in
        let d : list_any was_denied (with Gone) ≡ false =
        kept was_denied ops (AtSlot slot call Gone) refl ∙ u.denied in
        let g : list_any found_gone (with Gone) ≡ true = found found_gone ops (AtSlot slot call Gone) refl in
        let k : list_any found_live (with Gone) ≡ false = kept found_live ops (AtSlot slot call Gone) refl ∙ l in
        record {
          got = λ mtype text. (λ e. cc, λ t. absurd (never (sym m ∙ t.1)));
          once = omega (arith, ap length m);
          none = (λ e. cc, λ t. apart _ t.1 (n ∙ u.none (u.nowait ∙ t.0)));
          long = (λ e. cc, λ t. apart _ t z);
          denied = (λ e. cc, λ t. apart _ t d);
          removed = (λ e. cc, λ t. apart _ t.1 k);
          invalid = (λ e. inr (g, k), λ t. refl);
          only = inr (inr (inr (inr (inr (inl refl)))));
        }

    denied_right : IsRight (with Denied) (Refused EACCES)
    denied_right =
        let m : flat_map taken_by (with Denied) ≡ [] = taken_with ops (AtSlot slot call Denied) [] u.taken refl in
        let n : list_any found_none (with Denied) ≡ list_any found_none ops =
        kept found_none ops (AtSlot slot call Denied) refl in
        let z : list_any was_too_long (with Denied) ≡ false =
        kept was_too_long ops (AtSlot slot call Denied) refl ∙ u.long in
        let d : list_any was_denied (with Denied) ≡ true = found was_denied ops (AtSlot slot call Denied) refl in
        let g : list_any found_gone (with Denied) ≡ false =
        kept found_gone ops (AtSlot slot call Denied) refl ∙ u.gone in
        record {
          got = λ mtype text. (λ e. cc, λ t. absurd (never (sym m ∙ t.1)));
          once = omega (arith, ap length m);
          none = (λ e. cc, λ t. apart _ t.1 (n ∙ u.none (u.nowait ∙ t.0)));
          long = (λ e. cc, λ t. apart _ t z);
          denied = (λ e. d, λ t. refl);
          removed = (λ e. cc, λ t. apart _ t.0 g);
          invalid = (λ e. cc, λ t. elim t [ inl r ↦ apart _ r u.allowed | inr b ↦ apart _ b.0 g ]);
          only = inr (inr (inr (inl refl)));
        }

    none_right : (arrived : ℕ) → receive.nowait ≡ true → IsRight (with (NoMatch arrived)) (Refused ENOMSG)
    none_right arrived nowait =
        let m : flat_map taken_by (with (NoMatch arrived)) ≡ [] =
        taken_with ops (AtSlot slot call (NoMatch arrived)) [] u.taken refl in
        let n : list_any found_none (with (NoMatch arrived)) ≡ true =
        found found_none ops (AtSlot slot call (NoMatch arrived)) refl in
        let z : list_any was_too_long (with (NoMatch arrived)) ≡ false =
        kept was_too_long ops (AtSlot slot call (NoMatch arrived)) refl ∙ u.long in
        let d : list_any was_denied (with (NoMatch arrived)) ≡ false =
        kept was_denied ops (AtSlot slot call (NoMatch arrived)) refl ∙ u.denied in
        let g : list_any found_gone (with (NoMatch arrived)) ≡ false =
        kept found_gone ops (AtSlot slot call (NoMatch arrived)) refl ∙ u.gone in
        record {
          got = λ mtype text. (λ e. cc, λ t. absurd (never (sym m ∙ t.1)));
          once = omega (arith, ap length m);
          none = (λ e. (sym u.nowait ∙ nowait, n), λ t. refl);
          long = (λ e. cc, λ t. apart _ t z);
          denied = (λ e. cc, λ t. apart _ t d);
          removed = (λ e. cc, λ t. apart _ t.0 g);
          invalid = (λ e. cc, λ t. elim t [ inl r ↦ apart _ r u.allowed | inr b ↦ apart _ b.0 g ]);
          only = inr (inl refl);
        }

    none_waits : (arrived : ℕ) → receive.nowait ≡ false →
        Pending (record receive { seen = true }) (with (NoMatch arrived))
    none_waits arrived nowait = record {
      allowed = u.allowed;
      nowait = u.nowait;
      wanted = u.wanted;
      taken = taken_with ops (AtSlot slot call (NoMatch arrived)) [] u.taken refl;
      none = λ t. apart _ t nowait;
      long = kept was_too_long ops (AtSlot slot call (NoMatch arrived)) refl ∙ u.long;
      denied = kept was_denied ops (AtSlot slot call (NoMatch arrived)) refl ∙ u.denied;
      gone = kept found_gone ops (AtSlot slot call (NoMatch arrived)) refl ∙ u.gone;
      live = found found_live ops (AtSlot slot call (NoMatch arrived)) refl;
    }

    none_goes : (arrived : ℕ) (b : Bool) → receive.nowait ≡ b →
        ReceiveAt (with (NoMatch arrived))
        (goes_on (waits_or b (OnArrived (arrived + 1) (record receive { seen = true })) ENOMSG))
    none_goes arrived true n = none_right arrived n
    none_goes arrived false n = none_waits arrived n

    long_right : IsRight (with TooLong) (Refused E2BIG)
    long_right =
        let m : flat_map taken_by (with TooLong) ≡ [] = taken_with ops (AtSlot slot call TooLong) [] u.taken refl in
        let n : list_any found_none (with TooLong) ≡ list_any found_none ops =
        kept found_none ops (AtSlot slot call TooLong) refl in
        let z : list_any was_too_long (with TooLong) ≡ true =
        found was_too_long ops (AtSlot slot call TooLong) refl in
        let d : list_any was_denied (with TooLong) ≡ false =
        kept was_denied ops (AtSlot slot call TooLong) refl ∙ u.denied in
        let g : list_any found_gone (with TooLong) ≡ false =
        kept found_gone ops (AtSlot slot call TooLong) refl ∙ u.gone in
        record {
          got = λ mtype text. (λ e. cc, λ t. absurd (never (sym m ∙ t.1)));
          once = omega (arith, ap length m);
          none = (λ e. cc, λ t. apart _ t.1 (n ∙ u.none (u.nowait ∙ t.0)));
          long = (λ e. z, λ t. refl);
          denied = (λ e. cc, λ t. apart _ t d);
          removed = (λ e. cc, λ t. apart _ t.0 g);
          invalid = (λ e. cc, λ t. elim t [ inl r ↦ apart _ r u.allowed | inr b ↦ apart _ b.0 g ]);
          only = inr (inr (inl refl));
        }

    taken_right : (m : Message) → IsRight (with (Taken m)) (Got m.mtype (take size m.bytes))
    taken_right m =
        let l : flat_map taken_by (with (Taken m)) ≡ m ∷ [] =
        taken_with ops (AtSlot slot call (Taken m)) (m ∷ []) u.taken refl in
        let n : list_any found_none (with (Taken m)) ≡ list_any found_none ops =
        kept found_none ops (AtSlot slot call (Taken m)) refl in
        let z : list_any was_too_long (with (Taken m)) ≡ false =
        kept was_too_long ops (AtSlot slot call (Taken m)) refl ∙ u.long in
        let d : list_any was_denied (with (Taken m)) ≡ false =
        kept was_denied ops (AtSlot slot call (Taken m)) refl ∙ u.denied in
        let g : list_any found_gone (with (Taken m)) ≡ false =
        kept found_gone ops (AtSlot slot call (Taken m)) refl ∙ u.gone in
        record {
          got = λ mtype text.
              (λ e. (m, l, cc, cc), λ t. same_got size m t.0 mtype text (only m t.0 (sym l ∙ t.1)) t.2 t.3);
          once = omega (arith, ap length l);
          none = (λ e. cc, λ t. apart _ t.1 (n ∙ u.none (u.nowait ∙ t.0)));
          long = (λ e. cc, λ t. apart _ t z);
          denied = (λ e. cc, λ t. apart _ t d);
          removed = (λ e. cc, λ t. apart _ t.0 g);
          invalid = (λ e. cc, λ t. elim t [ inl r ↦ apart _ r u.allowed | inr b ↦ apart _ b.0 g ]);
          only = inl (m.mtype, take size m.bytes, refl);
        }

    -- One more operation at a take.
    take_step : (reply : Reply) (after : State Receives) → next (AtTake receive) (AtSlot slot call reply) ≡ Some after →
        ReceiveAt (with reply) after
    take_step Gone after n =
        let e : Over (Refused (gone receive.seen)) ≡ after = cc in
        subst (ReceiveAt (with Gone)) e (gone_right receive.seen u.live)
    take_step Denied after n =
        let e : Over (Refused EACCES) ≡ after = cc in subst (ReceiveAt (with Denied)) e denied_right
    take_step (NoMatch arrived) after n =
        let e : goes_on (waits_or receive.nowait (OnArrived (arrived + 1) (record receive { seen = true })) ENOMSG)
        ≡ after = cc in
        subst (ReceiveAt (with (NoMatch arrived))) e (none_goes arrived receive.nowait refl)
    take_step TooLong after n =
        let e : Over (Refused E2BIG) ≡ after = cc in subst (ReceiveAt (with TooLong)) e long_right
    take_step (Taken m) after n =
        let e : Goes (AtReceiveGiveback (blocks_for (length m.bytes)) m.mtype (take receive.size m.bytes)) ≡ after =
        cc in
        subst (ReceiveAt (with (Taken m)))
        (ap (λ (k : ℕ). Goes (AtReceiveGiveback (blocks_for (length m.bytes)) m.mtype (take k m.bytes))) (sym u.wanted)
        ∙ e) (taken_right m)
    take_step reply after n = absurd cc

  right_still : (ops : List Op) (op : Op) (ending : Ending) (call : PoolCall) (reply : PoolReply) →
      op ≡ AtPool call reply → IsRight ops ending → IsRight (ops ++ op ∷ []) ending
  right_still ops op ending call reply is r =
      let t = gave taken_by ops op (ap taken_by is) in
      let n = kept found_none ops op (ap found_none is) in
      let z = kept was_too_long ops op (ap was_too_long is) in
      let d = kept was_denied ops op (ap was_denied is) in
      let g = kept found_gone ops op (ap found_gone is) in
      let l = kept found_live ops op (ap found_live is) in
      record {
        got = λ type text. (
          λ e. let w = (r.got type text).0 e in (w.0, t ∙ w.1, w.2, w.3),
          λ w. (r.got type text).1 (w.0, sym t ∙ w.1, w.2, w.3),
        );
        once = omega (arith, ap length t, r.once);
        none = (λ e. ((r.none.0 e).0, n ∙ (r.none.0 e).1), λ w. r.none.1 (w.0, sym n ∙ w.1));
        long = (λ e. z ∙ r.long.0 e, λ w. r.long.1 (sym z ∙ w));
        denied = (λ e. d ∙ r.denied.0 e, λ w. r.denied.1 (sym d ∙ w));
        removed = (λ e. (g ∙ (r.removed.0 e).0, l ∙ (r.removed.0 e).1), λ w. r.removed.1 (sym g ∙ w.0, sym l ∙ w.1));
        invalid = (
          λ e. elim (r.invalid.0 e) [ inl i ↦ inl i | inr b ↦ inr (g ∙ b.0, l ∙ b.1) ],
          λ w. elim w [ inl i ↦ r.invalid.1 (inl i) | inr b ↦ r.invalid.1 (inr (sym g ∙ b.0, sym l ∙ b.1)) ],
        );
        only = r.only;
      }

  giveback_step : (ops : List Op) (blocks : ℕ) (type : ℤ) (text : List ℕ) (call : PoolCall) (reply : PoolReply)
      (after : State Receives) → IsRight ops (Got type text) →
      next (AtReceiveGiveback blocks type text) (AtPool call reply) ≡ Some after →
      ReceiveAt (ops ++ AtPool call reply ∷ []) after
  giveback_step ops blocks type text call Released after r n =
      let e : Over (Got type text) ≡ after = cc in
      subst (ReceiveAt (ops ++ AtPool call Released ∷ [])) e
      (right_still ops (AtPool call Released) (Got type text) call Released refl r)
  giveback_step ops blocks type text call Foreign after r n =
      let e : Over (Got type text) ≡ after = cc in
      subst (ReceiveAt (ops ++ AtPool call Foreign ∷ [])) e
      (right_still ops (AtPool call Foreign) (Got type text) call Foreign refl r)
  giveback_step ops blocks type text call reply after r n = absurd cc

  one_step : (ops : List Op) (phase : Phase Receives) (op : Op) (after : State Receives) → ReceiveAt ops (Goes phase) →
      next phase op ≡ Some after → ReceiveAt (ops ++ op ∷ []) after
  one_step ops (AtTake receive) (AtSlot slot call reply) after at n =
      take_step receive ops at slot call reply after n
  one_step ops (AtReceiveGiveback blocks type text) (AtPool call reply) after at n =
      giveback_step ops blocks type text call reply after at n
  one_step ops (AtTake receive) op after at n = absurd cc
  one_step ops (AtReceiveGiveback blocks type text) op after at n = absurd cc

  one_wait : (ops : List Op) (wait : Wait Receives) (value : ℕ) → ReceiveAt ops (Waits wait) →
      ReceiveAt ops (Goes (resume wait value))
  one_wait ops (OnArrived goal receive) value at = at

  pub receive_at : (cred : Cred) (released : ℕ) (ops : List Op) (state : State Receives) →
      Plays (begin cred (Msgrcv id size mtype flags) released) ops state → ReceiveAt ops state
  receive_at cred released _ _ begins = started cred released (is_refused (Msgrcv id size mtype flags)) refl
  receive_at cred released _ _ (steps {ops} {phase} op now after p asked n) =
      one_step ops phase op after (receive_at cred released ops (Goes phase) p) n
  receive_at cred released _ _ (resumes {ops} {wait} value p least) =
      one_wait ops wait value (receive_at cred released ops (Waits wait) p)

  none_gone : (ops : List Op) (phase : Phase Receives) (reply : Reply) (after : State Receives) →
      ReceiveAt ops (Goes phase) →
      next_of_slot phase reply ≡ Some after → list_any found_gone ops ≡ false
  none_gone ops (AtTake receive) reply after at n = at.gone
  none_gone ops (AtReceiveGiveback blocks type text) reply after at n = absurd cc

  -- A receive that comes to a slot has not found its identifier gone before.
  pub receive_goes_on : (cred : Cred) (released : ℕ) (ops : List Op) (phase : Phase Receives) (reply : Reply)
      (after : State Receives) → Plays (begin cred (Msgrcv id size mtype flags) released) ops (Goes phase) →
      next_of_slot phase reply ≡ Some after → list_any found_gone ops ≡ false
  receive_goes_on cred released ops phase reply after p n =
      none_gone ops phase reply after (receive_at cred released ops (Goes phase) p) n
