-- A send or a receive that found its identifier gone comes to no slot after that, and had not found
-- it gone before.
use Rattle.std.proofs.Common.{◌≡◌, ℕ, ◌⊎◌, inl, inr, ◌||◌, Bool, true, false, List, [], ◌∷◌, ◌++◌, Some, refl, sym, ap}
use Rattle.std.proofs.Common.{◌∙◌, append_assoc}
use Rattle.std.specs.List.{list_any}
use Rattle.std.proofs.lemmas.List.Folds.{list_any-append}
use Rattle.sysv_model.specs.declared.cred.Cred.{Cred}
use Rattle.sysv_model.specs.declared.errno.Errno.TheVariants.{EINVAL, EIDRM}
use Rattle.sysv_model.specs.History.{Call, Reply, Gone}
use Rattle.sysv_model.specs.Turn.{Op, AtSlot, AtRegistry, AtPool}
use Rattle.sysv_steps.specs.Call.{kind_of}
use Rattle.sysv_steps.specs.Call.{SystemCall, Msgget, Msgsnd, Msgrcv, MsgctlStat, MsgctlSet, MsgctlRmid}
use Rattle.sysv_steps.specs.State.{Phase, Ending, Refused, State, Goes, Waits, Over}
use Rattle.sysv_steps.specs.Begin.{begin}
use Rattle.sysv_steps.specs.Next.{next, next_of_slot}
use Rattle.sysv_steps.specs.Played.{Plays, begins, steps, resumes}
use Rattle.sysv_steps.specs.Answers.{is_at_slot, found_gone, found_live, IsRemoved, IsInvalid}
use Rattle.sysv_steps.specs.AfterRemoval.{SendsOrReceives, IsToldOfRemoval}
use Rattle.sysv_steps.proofs.Among.{apart, kept, neither, or_false, amid}
use Rattle.sysv_steps.proofs.Sends.{send_at, send_goes_on}
use Rattle.sysv_steps.proofs.Receives.{receive_at, receive_goes_on}

-- ---- lists

nothing_gone : {B : Type 0} (before after : List Op) (op : Op) → found_gone op ≡ true →
    list_any found_gone (before ++ op ∷ after) ≡ false → B
nothing_gone [] after op t f = apart (found_gone op) t (neither (found_gone op) (list_any found_gone after) f).0
nothing_gone (d ∷ before) after op t f =
    nothing_gone before after op t (neither (found_gone d) (list_any found_gone (before ++ op ∷ after)) f).1

at_a_slot : (op : Op) → found_gone op ≡ true → is_at_slot op ≡ true
at_a_slot (AtSlot slot call reply) e = refl
at_a_slot (AtRegistry call reply) e = absurd cc
at_a_slot (AtPool call reply) e = absurd cc

no_slot_gone : {B : Type 0} (before after : List Op) (op : Op) → found_gone op ≡ true →
    list_any is_at_slot (before ++ op ∷ after) ≡ false → B
no_slot_gone [] after op t f =
    apart (is_at_slot op) (at_a_slot op t) (neither (is_at_slot op) (list_any is_at_slot after) f).0
no_slot_gone (d ∷ before) after op t f =
    no_slot_gone before after op t (neither (is_at_slot d) (list_any is_at_slot (before ++ op ∷ after)) f).1

record AreLast (front rest before after : List Op) : Type 0 where
  same : before ≡ front
  others : after ≡ rest

-- If no operation before this one found the identifier gone, and no operation after it is at a
-- slot, it is the operation that found it gone.
only_last : (front rest before after : List Op) (last op : Op) → front ++ last ∷ rest ≡ before ++ op ∷ after →
    found_gone op ≡ true → list_any found_gone front ≡ false → list_any is_at_slot rest ≡ false →
    AreLast front rest before after
only_last [] rest [] after last op e t f q = let h : rest ≡ after = cc in record { same = refl; others = sym h }
only_last [] rest (d ∷ before) after last op e t f q =
    let h : rest ≡ before ++ op ∷ after = cc in
    no_slot_gone before after op t (sym (ap (list_any is_at_slot) h) ∙ q)
only_last (x ∷ front) rest [] after last op e t f q =
    let h : x ≡ op = cc in
    apart (found_gone x) (ap found_gone h ∙ t) (neither (found_gone x) (list_any found_gone front) f).0
only_last (x ∷ front) rest (d ∷ before) after last op e t f q =
    let h : front ++ last ∷ rest ≡ before ++ op ∷ after = cc in
    let h0 : d ≡ x = cc in
    let more =
    only_last front rest before after last op h t (neither (found_gone x) (list_any found_gone front) f).1 q in
    record { same = ap (λ (y : Op). y ∷ before) h0 ∙ ap (λ (ys : List Op). x ∷ ys) more.same; others = more.others }

live_there : (op : Op) → found_gone op ≡ false → found_live op ≡ is_at_slot op
live_there (AtSlot slot call Gone) e = absurd cc
live_there (AtSlot slot call reply) e = refl
live_there (AtRegistry call reply) e = refl
live_there (AtPool call reply) e = refl

-- Operations at a slot that did not find the identifier gone found it live.
all_live : (ops : List Op) → list_any found_gone ops ≡ false →
    list_any found_live ops ≡ list_any is_at_slot ops
all_live [] e = refl
all_live (d ∷ ops) e =
    let both = neither (found_gone d) (list_any found_gone ops) e in
    ap (λ (b : Bool). b || list_any found_live ops) (live_there d both.0)
    ∙ ap (λ (b : Bool). is_at_slot d || b) (all_live ops both.1)

-- Operations that are at no slot did not find it live.
none_live : (ops : List Op) → list_any is_at_slot ops ≡ false → list_any found_live ops ≡ false
none_live [] e = refl
none_live (AtSlot slot call reply ∷ ops) e = absurd cc
none_live (AtRegistry call reply ∷ ops) e = none_live ops e
none_live (AtPool call reply ∷ ops) e = none_live ops e

-- ---- along a play

-- The identifier was not found gone, or the operation that found it gone was the last one at a
-- slot.
abbrev Ends : List Op → Type 0
Ends ops =
    (list_any found_gone ops ≡ false)
    ⊎ ((front : List Op) × (last : Op) × (rest : List Op) × (ops ≡ front ++ last ∷ rest)
    × (list_any found_gone front ≡ false) × (list_any is_at_slot rest ≡ false))

ends_still : (ops : List Op) (op : Op) → found_gone op ≡ false → is_at_slot op ≡ false → Ends ops →
    Ends (ops ++ op ∷ [])
ends_still ops op g s (inl none) = inl (kept found_gone ops op g ∙ none)
ends_still ops op g s (inr h) = inr (
  h.0,
  h.1,
  h.2 ++ op ∷ [],
  ap (λ (ds : List Op). ds ++ op ∷ []) h.3 ∙ append_assoc h.0 (h.1 ∷ h.2) (op ∷ []),
  h.4,
  kept is_at_slot h.2 op s ∙ h.5,
)

module _ (cred : Cred) (asked : SystemCall) (released : ℕ) where
  -- A call that comes to a slot has not found its identifier gone before.
  abbrev ComesUngone : Type 0
  ComesUngone = (ops : List Op) (phase : Phase (kind_of asked)) (reply : Reply) (after : State (kind_of asked)) →
      Plays (begin cred asked released) ops (Goes phase) → next_of_slot phase reply ≡ Some after →
      list_any found_gone ops ≡ false

  one_step : ComesUngone → (ops : List Op) (phase : Phase (kind_of asked)) (op : Op) (after : State (kind_of asked)) →
      Plays (begin cred asked released) ops (Goes phase) → next phase op ≡ Some after → Ends ops →
      Ends (ops ++ op ∷ [])
  one_step on ops phase (AtSlot slot call reply) after p n h =
      inr (ops, AtSlot slot call reply, [], refl, on ops phase reply after p n, refl)
  one_step on ops phase (AtRegistry call reply) after p n h = ends_still ops (AtRegistry call reply) refl refl h
  one_step on ops phase (AtPool call reply) after p n h = ends_still ops (AtPool call reply) refl refl h

  ends_at : ComesUngone → (ops : List Op) (state : State (kind_of asked)) →
      Plays (begin cred asked released) ops state →
      Ends ops
  ends_at on _ _ begins = inl refl
  ends_at on _ _ (steps {ops} {phase} op now after p is n) =
      one_step on ops phase op after p n (ends_at on ops (Goes phase) p)
  ends_at on _ _ (resumes {ops} {wait} value p least) = ends_at on ops (Waits wait) p

  module _ (ops : List Op) (ending : Ending) (right : IsRemoved ops → ending ≡ Refused EIDRM)
      (invalid : IsInvalid asked ops → ending ≡ Refused EINVAL) where
    told : (before after : List Op) (slot : ℕ) (call : Call) → ops ≡ before ++ AtSlot slot call Gone ∷ after →
        list_any is_at_slot after ≡ false → list_any found_gone before ≡ false → IsToldOfRemoval before after ending
    told before after slot call e a g =
        let here : list_any found_gone ops ≡ true =
        ap (list_any found_gone) e ∙ amid found_gone before after (AtSlot slot call Gone) refl in
        let live : list_any found_live ops ≡ list_any is_at_slot before =
        ap (list_any found_live) e
        ∙ (list_any-append found_live before (AtSlot slot call Gone ∷ after)
        ∙ (ap (λ (b : Bool). list_any found_live before || b) (none_live after a)
        ∙ (or_false (list_any found_live before) ∙ all_live before g)))
        in record { removed = λ s. right (here, live ∙ s); absent = λ s. invalid (inr (here, live ∙ s)); last = a }

    pub told_so : Ends ops → (before after : List Op) (slot : ℕ) (call : Call) →
        ops ≡ before ++ AtSlot slot call Gone ∷ after → IsToldOfRemoval before after ending
    told_so (inl none) before after slot call e =
        nothing_gone before after (AtSlot slot call Gone) refl (sym (ap (list_any found_gone) e) ∙ none)
    told_so (inr h) before after slot call e =
        let at = only_last h.0 h.2 before after h.1 (AtSlot slot call Gone) (sym h.3 ∙ e) refl h.4 h.5 in
        told before after slot call e (ap (list_any is_at_slot) at.others ∙ h.5)
        (ap (list_any found_gone) at.same ∙ h.4)

pub each_told : (cred : Cred) (asked : SystemCall) (released : ℕ) (ops : List Op) (ending : Ending) →
    SendsOrReceives asked → Plays (begin cred asked released) ops (Over ending) →
    (before after : List Op) (slot : ℕ) (call : Call) → ops ≡ before ++ AtSlot slot call Gone ∷ after →
    IsToldOfRemoval before after ending
each_told cred (Msgsnd id mtype flags text) released ops ending q p =
    let right = send_at id mtype flags text cred released ops (Over ending) p in
    told_so cred (Msgsnd id mtype flags text) released ops ending right.removed.1 right.invalid.1
    (ends_at cred (Msgsnd id mtype flags text) released (send_goes_on id mtype flags text cred released) ops
    (Over ending) p)
each_told cred (Msgrcv id size mtype flags) released ops ending q p =
    let right = receive_at id size mtype flags cred released ops (Over ending) p in
    told_so cred (Msgrcv id size mtype flags) released ops ending right.removed.1 right.invalid.1
    (ends_at cred (Msgrcv id size mtype flags) released (receive_goes_on id size mtype flags cred released) ops
    (Over ending) p)
each_told cred (Msgget key flags) released ops ending q p = absurd q
each_told cred (MsgctlStat id) released ops ending q p = absurd q
each_told cred (MsgctlSet id to) released ops ending q p = absurd q
each_told cred (MsgctlRmid id) released ops ending q p = absurd q
