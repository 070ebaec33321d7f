-- How one more turn changes each part of a history, and the kinds of legal turns.
use Rattle.std.proofs.Common.{◌≡◌, ℕ, ℤ, ◌+◌, ◌≤◌, arith, Bool, true, false, cond, List, [], ◌∷◌, ◌++◌, Option, None}
use Rattle.std.proofs.Common.{refl, ap, ◌∙◌, length, zero-add, add-zero}
use Rattle.std.proofs.lemmas.List.{append-nil}
use Rattle.std.proofs.lemmas.List.Sums.{fold-append, sum_by-append}
use Rattle.std.proofs.lemmas.Grind.{flat_map-append}
use Rattle.sysv_model.specs.declared.cred.Cred.{Cred}
use Rattle.sysv_model.specs.declared.attributes.Attributes.{Attributes}
use Rattle.sysv_model.specs.Message.{Message}
use Rattle.sysv_model.specs.declared.flags.Flags.{Flags}
use Rattle.sysv_model.specs.declared.attributes.SetTo.{SetTo}
use Rattle.sysv_model.specs.declared.errno.Errno.{Errno}
use Rattle.sysv_model.specs.declared.selector.Selector.{Selector}
use Rattle.sysv_model.specs.History.{Call, Install, Probe, Look, Place, Take, ReadStat, Set, Remove, ReadRow, Reply}
use Rattle.sysv_model.specs.History.{Installed, Gone, Denied, Full, Accepted, NoMatch, TooLong, Taken, Done, Discarded}
use Rattle.sysv_model.specs.History.{Refused, Entry, History, announces_arrival, announces_room, arrived, freed}
use Rattle.sysv_model.specs.Live.{live, live_after}
use Rattle.sysv_model.specs.Waiting.{accepted, delivered, discarded, waiting, accepted_by, delivered_by, discarded_by}
use Rattle.sysv_queue.specs.Slot.{Slot}
use Rattle.sysv_queue.proofs.Filters.{waiting_from}
use Rattle.sysv_queue.specs.LegalReply.{Legal, LegalInstall, LegalPlace, LegalTake, LegalSet, LegalRemove}

pub accepted-more : (id : ℤ) (h : History) (e : Entry) →
    accepted id (h ++ e ∷ []) ≡ accepted id h ++ accepted_by id e.call e.reply
accepted-more id h e = flat_map-append (λ (e : Entry). accepted_by id e.call e.reply) h (e ∷ [])
    ∙ ap (λ ms. accepted id h ++ ms) (append-nil _)

pub delivered-more : (id : ℤ) (h : History) (e : Entry) →
    delivered id (h ++ e ∷ []) ≡ delivered id h ++ delivered_by id e.call e.reply
delivered-more id h e = flat_map-append (λ (e : Entry). delivered_by id e.call e.reply) h (e ∷ [])
    ∙ ap (λ ms. delivered id h ++ ms) (append-nil _)

pub discarded-more : (id : ℤ) (h : History) (e : Entry) →
    discarded id (h ++ e ∷ []) ≡ discarded id h ++ discarded_by id e.call e.reply
discarded-more id h e = flat_map-append (λ (e : Entry). discarded_by id e.call e.reply) h (e ∷ [])
    ∙ ap (λ ms. discarded id h ++ ms) (append-nil _)

pub live-more : (h : History) (e : Entry) → live (h ++ e ∷ []) ≡ live_after (live h) e.call e.reply
live-more h e = fold-append (λ (old : Option Attributes) (e : Entry). live_after old e.call e.reply) None h (e ∷ [])

pub arrived-more : (h : History) (e : Entry) →
    arrived (h ++ e ∷ []) ≡ arrived h + cond (announces_arrival e.call e.reply) 1 0
arrived-more h e = sum_by-append (λ (e : Entry). cond (announces_arrival e.call e.reply) 1 0) h (e ∷ [])
    ∙ ap (λ n. arrived h + n) (zero-add _)

pub freed-more : (h : History) (e : Entry) → freed (h ++ e ∷ []) ≡ freed h + cond (announces_room e.call e.reply) 1 0
freed-more h e = sum_by-append (λ (e : Entry). cond (announces_room e.call e.reply) 1 0) h (e ∷ [])
    ∙ ap (λ n. freed h + n) (zero-add _)

-- A turn that accepts, delivers and discards nothing.
pub record IsStill (call : Call) (reply : Reply) : Type 0 where
  pub accepted : (id : ℤ) → accepted_by id call reply ≡ []
  pub delivered : (id : ℤ) → delivered_by id call reply ≡ []
  pub discarded : (id : ℤ) → discarded_by id call reply ≡ []

-- A turn that raises no count.
pub record IsSilent (call : Call) (reply : Reply) : Type 0 where
  pub arrival : announces_arrival call reply ≡ false
  pub room : announces_room call reply ≡ false

-- A turn that changes nothing at all.
pub record IsQuiet (call : Call) (reply : Reply) : Type 0 where
  pub still : IsStill call reply
  pub silent : IsSilent call reply
  pub live : (old : Option Attributes) → live_after old call reply ≡ old

-- The kinds of turns that have a legal reply.
pub data Kind : Call → Reply → Type 0 where
  Quiet : {call : Call} {reply : Reply} → IsQuiet call reply → Kind call reply
  Makes : (id key : ℤ) (cred : Cred) (mode now : ℕ) → Kind (Install id key cred mode now) (Installed true)
  Accepts : (id : ℤ) (cred : Cred) (mtype : ℤ) (bytes : List ℕ) (now number : ℕ) →
      Kind (Place id cred mtype bytes now) (Accepted number)
  Takes : (id : ℤ) (cred : Cred) (selector : Selector) (size : ℕ) (noerror : Bool) (now : ℕ) (m : Message) →
      Kind (Take id cred selector size noerror now) (Taken m)
  Changes : (id : ℤ) (cred : Cred) (to : SetTo) (now : ℕ) → Kind (Set id cred to now) Done
  Discards : (id : ℤ) (cred : Cred) (messages : List Message) → Kind (Remove id cred) (Discarded messages)

pub still_install : (id key : ℤ) (cred : Cred) (mode now : ℕ) (made : Bool) →
    IsStill (Install id key cred mode now) (Installed made)
still_install id key cred mode now made = record { accepted = λ i. refl; delivered = λ i. refl; discarded = λ i. refl }

pub silent_install : (id key : ℤ) (cred : Cred) (mode now : ℕ) (made : Bool) →
    IsSilent (Install id key cred mode now) (Installed made)
silent_install id key cred mode now made = record { arrival = refl; room = refl }

pub quiet_install : (id key : ℤ) (cred : Cred) (mode now : ℕ) → IsQuiet (Install id key cred mode now) (Installed false)
quiet_install id key cred mode now = record {
  still = still_install id key cred mode now false;
  silent = silent_install id key cred mode now false;
  live = λ old. refl;
}

kind_install : (s : Slot) (id key : ℤ) (cred : Cred) (mode now : ℕ) (reply : Reply) → LegalInstall s reply →
    Kind (Install id key cred mode now) reply
kind_install s id key cred mode now (Installed true) l = Makes id key cred mode now
kind_install s id key cred mode now (Installed false) l = Quiet (quiet_install id key cred mode now)
kind_install s id key cred mode now reply l = absurd l

pub quiet_probe : (id : ℤ) (cred : Cred) (flags : Flags) (reply : Reply) → IsQuiet (Probe id cred flags) reply
quiet_probe id cred flags reply = record {
  still = record { accepted = λ i. refl; delivered = λ i. refl; discarded = λ i. refl };
  silent = record { arrival = refl; room = refl };
  live = λ old. refl;
}

pub still_set : (id : ℤ) (cred : Cred) (to : SetTo) (now : ℕ) (reply : Reply) → IsStill (Set id cred to now) reply
still_set id cred to now reply = record { accepted = λ i. refl; delivered = λ i. refl; discarded = λ i. refl }

pub quiet_set_refused : (id : ℤ) (cred : Cred) (to : SetTo) (now : ℕ) (why : Errno) →
    IsQuiet (Set id cred to now) (Refused why)
quiet_set_refused id cred to now why = record {
  still = still_set id cred to now (Refused why);
  silent = record { arrival = refl; room = refl };
  live = λ old. refl;
}

kind_set : (s : Slot) (id : ℤ) (cred : Cred) (to : SetTo) (now : ℕ) (reply : Reply) → LegalSet s id cred to reply →
    Kind (Set id cred to now) reply
kind_set s id cred to now Done l = Changes id cred to now
kind_set s id cred to now (Refused why) l = Quiet (quiet_set_refused id cred to now why)
kind_set s id cred to now reply l = absurd l

pub quiet_remove_refused : (id : ℤ) (cred : Cred) (why : Errno) → IsQuiet (Remove id cred) (Refused why)
quiet_remove_refused id cred why = record {
  still = record { accepted = λ i. refl; delivered = λ i. refl; discarded = λ i. refl };
  silent = record { arrival = refl; room = refl };
  live = λ old. refl;
}

kind_remove : (s : Slot) (id : ℤ) (cred : Cred) (reply : Reply) → LegalRemove s id cred reply →
    Kind (Remove id cred) reply
kind_remove s id cred (Discarded messages) l = Discards id cred messages
kind_remove s id cred (Refused why) l = Quiet (quiet_remove_refused id cred why)
kind_remove s id cred reply l = absurd l

pub quiet_stat : (id : ℤ) (cred : Cred) (reply : Reply) → IsQuiet (ReadStat id cred) reply
quiet_stat id cred reply = record {
  still = record { accepted = λ i. refl; delivered = λ i. refl; discarded = λ i. refl };
  silent = record { arrival = refl; room = refl };
  live = λ old. refl;
}

pub quiet_row : (reply : Reply) → IsQuiet ReadRow reply
quiet_row reply = record {
  still = record { accepted = λ i. refl; delivered = λ i. refl; discarded = λ i. refl };
  silent = record { arrival = refl; room = refl };
  live = λ old. refl;
}

pub quiet_look : (id : ℤ) (cred : Cred) (size : ℕ) (reply : Reply) → IsQuiet (Look id cred size) reply
quiet_look id cred size reply = record {
  still = record { accepted = λ i. refl; delivered = λ i. refl; discarded = λ i. refl };
  silent = record { arrival = refl; room = refl };
  live = λ old. refl;
}

pub quiet_place_gone : (id : ℤ) (cred : Cred) (mtype : ℤ) (bytes : List ℕ) (now : ℕ) →
    IsQuiet (Place id cred mtype bytes now) Gone
quiet_place_gone id cred mtype bytes now = record {
  still = record { accepted = λ i. refl; delivered = λ i. refl; discarded = λ i. refl };
  silent = record { arrival = refl; room = refl };
  live = λ old. refl;
}

pub quiet_place_denied : (id : ℤ) (cred : Cred) (mtype : ℤ) (bytes : List ℕ) (now : ℕ) →
    IsQuiet (Place id cred mtype bytes now) Denied
quiet_place_denied id cred mtype bytes now = record {
  still = record { accepted = λ i. refl; delivered = λ i. refl; discarded = λ i. refl };
  silent = record { arrival = refl; room = refl };
  live = λ old. refl;
}

pub quiet_place_full : (id : ℤ) (cred : Cred) (mtype : ℤ) (bytes : List ℕ) (now freed : ℕ) →
    IsQuiet (Place id cred mtype bytes now) (Full freed)
quiet_place_full id cred mtype bytes now freed = record {
  still = record { accepted = λ i. refl; delivered = λ i. refl; discarded = λ i. refl };
  silent = record { arrival = refl; room = refl };
  live = λ old. refl;
}

kind_place : (s : Slot) (id : ℤ) (cred : Cred) (mtype : ℤ) (bytes : List ℕ) (now : ℕ) (reply : Reply) →
    LegalPlace s id cred (length bytes) reply → Kind (Place id cred mtype bytes now) reply
kind_place s id cred mtype bytes now (Accepted number) l = Accepts id cred mtype bytes now number
kind_place s id cred mtype bytes now reply l = Quiet record {
  still = record { accepted = λ i. refl; delivered = λ i. refl; discarded = λ i. refl };
  silent = record { arrival = refl; room = refl };
  live = λ old. refl;
}

pub quiet_take_gone : (id : ℤ) (cred : Cred) (selector : Selector) (size : ℕ) (noerror : Bool) (now : ℕ) →
    IsQuiet (Take id cred selector size noerror now) Gone
quiet_take_gone id cred selector size noerror now = record {
  still = record { accepted = λ i. refl; delivered = λ i. refl; discarded = λ i. refl };
  silent = record { arrival = refl; room = refl };
  live = λ old. refl;
}

pub quiet_take_denied : (id : ℤ) (cred : Cred) (selector : Selector) (size : ℕ) (noerror : Bool) (now : ℕ) →
    IsQuiet (Take id cred selector size noerror now) Denied
quiet_take_denied id cred selector size noerror now = record {
  still = record { accepted = λ i. refl; delivered = λ i. refl; discarded = λ i. refl };
  silent = record { arrival = refl; room = refl };
  live = λ old. refl;
}

pub quiet_take_no_match : (id : ℤ) (cred : Cred) (selector : Selector) (size : ℕ) (noerror : Bool) (now arrived : ℕ) →
    IsQuiet (Take id cred selector size noerror now) (NoMatch arrived)
quiet_take_no_match id cred selector size noerror now arrived = record {
  still = record { accepted = λ i. refl; delivered = λ i. refl; discarded = λ i. refl };
  silent = record { arrival = refl; room = refl };
  live = λ old. refl;
}

pub quiet_take_too_long : (id : ℤ) (cred : Cred) (selector : Selector) (size : ℕ) (noerror : Bool) (now : ℕ) →
    IsQuiet (Take id cred selector size noerror now) TooLong
quiet_take_too_long id cred selector size noerror now = record {
  still = record { accepted = λ i. refl; delivered = λ i. refl; discarded = λ i. refl };
  silent = record { arrival = refl; room = refl };
  live = λ old. refl;
}

kind_take : (s : Slot) (id : ℤ) (cred : Cred) (selector : Selector) (size : ℕ) (noerror : Bool) (now : ℕ)
    (reply : Reply) → LegalTake s id cred selector size noerror reply →
    Kind (Take id cred selector size noerror now) reply
kind_take s id cred selector size noerror now (Taken m) l = Takes id cred selector size noerror now m
kind_take s id cred selector size noerror now reply l = Quiet record {
  still = record { accepted = λ i. refl; delivered = λ i. refl; discarded = λ i. refl };
  silent = record { arrival = refl; room = refl };
  live = λ old. refl;
}

pub kind_of : (s : Slot) (call : Call) (reply : Reply) → Legal s call reply → Kind call reply
kind_of s (Install id key cred mode now) reply l = kind_install s id key cred mode now reply l
kind_of s (Probe id cred flags) reply l = Quiet (quiet_probe id cred flags reply)
kind_of s (ReadStat id cred) reply l = Quiet (quiet_stat id cred reply)
kind_of s ReadRow reply l = Quiet (quiet_row reply)
kind_of s (Look id cred size) reply l = Quiet (quiet_look id cred size reply)
kind_of s (Place id cred mtype bytes now) reply l = kind_place s id cred mtype bytes now reply l
kind_of s (Take id cred selector size noerror now) reply l = kind_take s id cred selector size noerror now reply l
kind_of s (Set id cred to now) reply l = kind_set s id cred to now reply l
kind_of s (Remove id cred) reply l = kind_remove s id cred reply l

module _ (h : History) (e : Entry) (still : IsStill e.call e.reply) where
  pub accepted-still : (id : ℤ) → accepted id (h ++ e ∷ []) ≡ accepted id h
  accepted-still id = accepted-more id h e ∙ (ap (λ ms. accepted id h ++ ms) (still.accepted id) ∙ append-nil _)

  pub delivered-still : (id : ℤ) → delivered id (h ++ e ∷ []) ≡ delivered id h
  delivered-still id = delivered-more id h e ∙ (ap (λ ms. delivered id h ++ ms) (still.delivered id) ∙ append-nil _)

  pub discarded-still : (id : ℤ) → discarded id (h ++ e ∷ []) ≡ discarded id h
  discarded-still id = discarded-more id h e ∙ (ap (λ ms. discarded id h ++ ms) (still.discarded id) ∙ append-nil _)

  pub waiting-still : (id : ℤ) → waiting id (h ++ e ∷ []) ≡ waiting id h
  waiting-still id =
      ap (λ ms. waiting_from ms (delivered id (h ++ e ∷ []) ++ discarded id (h ++ e ∷ []))) (accepted-still id)
      ∙ (ap (λ ms. waiting_from (accepted id h) (ms ++ discarded id (h ++ e ∷ []))) (delivered-still id)
      ∙ ap (λ ms. waiting_from (accepted id h) (delivered id h ++ ms)) (discarded-still id))

module _ (h : History) (e : Entry) (silent : IsSilent e.call e.reply) where
  pub arrived-still : arrived (h ++ e ∷ []) ≡ arrived h
  arrived-still = arrived-more h e ∙ (ap (λ b. arrived h + cond b 1 0) silent.arrival ∙ add-zero _)

  pub freed-still : freed (h ++ e ∷ []) ≡ freed h
  freed-still = freed-more h e ∙ (ap (λ b. freed h + cond b 1 0) silent.room ∙ add-zero _)

-- Neither count falls.
pub arrived_grows : (h : History) (e : Entry) → arrived h ≤ arrived (h ++ e ∷ [])
arrived_grows h e = let more = arrived-more h e in omega arith

pub freed_grows : (h : History) (e : Entry) → freed h ≤ freed (h ++ e ∷ [])
freed_grows h e = let more = freed-more h e in omega arith
