-- After an identifier was removed, no turn accepts or delivers under it before it is installed
-- again.
use Rattle.std.proofs.Common.{◌≡◌, ℤ, true, false, cond, List, [], ◌∷◌, ◌++◌, Option, None, refl, sym, ap, subst, ◌∙◌}
use Rattle.std.proofs.Common.{append_assoc}
use Rattle.std.specs.List.{AllByRecursion}
use Rattle.std.proofs.lemmas.List.{append-nil}
use Rattle.std.proofs.lemmas.List.Elements.{recursion_from_All}
use Rattle.sysv_model.specs.declared.attributes.Attributes.{Attributes}
use Rattle.sysv_model.specs.Message.{Message}
use Rattle.sysv_model.specs.History.{Call, Install, Place, Take, Set, Remove, Reply, Installed, Accepted, Taken, Done}
use Rattle.sysv_model.specs.History.{Discarded, Entry, History}
use Rattle.sysv_model.specs.Live.{live, HasId, IsLive, live_after, sent_to, received_from, changed_to}
use Rattle.sysv_model.specs.Waiting.{accepted_by, delivered_by}
use Rattle.sysv_queue.specs.Slot.{Slot, slot_of}
use Rattle.sysv_queue.specs.LegalReply.{Legal, IsLegalHistory}
use Rattle.sysv_queue.specs.QueueLaw.{RemovalIsFinal, removes, installs}
use Rattle.sysv_queue.proofs.Turns.{live-more}
use Rattle.sysv_queue.proofs.Ids.{same_id, other_id, gives_no_id}

-- No queue is live after a turn that removes one.
vacant_after : (old : Option Attributes) (id : ℤ) (call : Call) (reply : Reply) → removes id call reply ≡ true →
    live_after old call reply ≡ None
vacant_after old id (Remove at cred) (Discarded messages) e = refl
vacant_after old id call reply e = absurd cc

-- An identifier that is not live is not live after a turn that does not install it.
pub stays_dead : (old : Option Attributes) (id : ℤ) (call : Call) (reply : Reply) → installs id call reply ≡ false →
    ¬ HasId old id → ¬ HasId (live_after old call reply) id
stays_dead old id (Install at key cred mode now) (Installed true) e dead = λ (same : at ≡ id).
    let t = same_id at id same in let bad : true ≡ false = sym t ∙ e in cc
stays_dead old id (Place at cred mtype bytes now) (Accepted number) e dead = λ lives.
    dead (gives_no_id (sent_to cred now) (λ a. refl) old id lives)
stays_dead old id (Take at cred selector size noerror now) (Taken m) e dead = λ lives.
    dead (gives_no_id (received_from cred now) (λ a. refl) old id lives)
stays_dead old id (Set at cred to now) Done e dead = λ lives.
    dead (gives_no_id (changed_to to now) (λ a. refl) old id lives)
stays_dead old id (Remove at cred) (Discarded messages) e dead = λ lives. lives
stays_dead old id call reply e dead = dead

pub dead_along : (h : History) (id : ℤ) (middle : List Entry) →
    AllByRecursion (λ (t : Entry). installs id t.call t.reply ≡ false) middle → ¬ IsLive h id →
    ¬ IsLive (h ++ middle) id
dead_along h id [] a dead = subst (λ (k : History). ¬ IsLive k id) (sym (append-nil h)) dead
dead_along h id (t ∷ middle) a dead =
    subst (λ (k : History). ¬ IsLive k id) (append_assoc h (t ∷ []) middle)
    (dead_along (h ++ t ∷ []) id middle a.1
    (subst (λ l. ¬ HasId l id) (sym (live-more h t)) (stays_dead (live h) id t.call t.reply a.0 dead)))

-- Nothing is accepted or delivered under an identifier that is not live.
pub neither : (s : Slot) (id : ℤ) (call : Call) (reply : Reply) → Legal s call reply → ¬ HasId s.live id →
    (accepted_by id call reply ≡ []) × (delivered_by id call reply ≡ [])
neither s id (Place at cred mtype bytes now) (Accepted number) l dead =
    let m : Message = record { number = number; sender = cred.pid; mtype = mtype; bytes = bytes } in
    let other : ¬ (at ≡ id) = λ same. dead (subst (HasId s.live) same l.0) in
    (ap (λ t. cond t (m ∷ []) []) (other_id at id other), refl)
neither s id (Take at cred selector size noerror now) (Taken m) l dead =
    let other : ¬ (at ≡ id) = λ same. dead (subst (HasId s.live) same l.0) in
    (refl, ap (λ t. cond t (m ∷ []) []) (other_id at id other))
neither s id call reply l dead = (refl, refl)

-- An identifier is not live after its removal, nor later until it is installed again.
pub dead_since : (id : ℤ) (before middle : History) (e : Entry) → removes id e.call e.reply ≡ true →
    AllByRecursion (λ (t : Entry). installs id t.call t.reply ≡ false) middle → ¬ IsLive (before ++ e ∷ middle) id
dead_since id before middle e removed none =
    let vacant : live (before ++ e ∷ []) ≡ None =
    live-more before e ∙ vacant_after (live before) id e.call e.reply removed in
    subst (λ (k : History). ¬ IsLive k id) (append_assoc before (e ∷ []) middle)
    (dead_along (before ++ e ∷ []) id middle none (λ lives. subst (λ l. HasId l id) vacant lives))

pub removal_final : (h : History) → IsLegalHistory h → RemovalIsFinal h
removal_final h legal = λ id before middle after e f whole removed none.
    let k : History = before ++ e ∷ middle in
    let split : h ≡ k ++ f ∷ after = whole ∙ sym (append_assoc before (e ∷ middle) (f ∷ after)) in
    neither (slot_of k) id f.call f.reply (legal k f after split)
    (dead_since id before middle e removed
    (recursion_from_All (λ (t : Entry). installs id t.call t.reply ≡ false) middle none))
