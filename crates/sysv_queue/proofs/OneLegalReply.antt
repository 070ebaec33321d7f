-- Each call has exactly one legal reply, because permission is granted or not, and a selector names
-- one place or none.
use Rattle.std.proofs.Common.{◌≡◌, ◌≢◌, ℕ, ℤ, ◌+◌, ◌⊎◌, inl, inr, Bool, true, false, List, Option, None, Some, IsSome}
use Rattle.std.proofs.Common.{refl, sym, ap, subst, ◌∙◌, arith, length, option_map, bit_and}
use Rattle.std.proofs.lemmas.Bool.{cases_eq}
use Rattle.sysv_lists.proofs.Orders.{at_most}
use Rattle.sysv_model.specs.declared.cred.Cred.{Cred}
use Rattle.sysv_model.specs.declared.errno.Errno.TheVariants.{EPERM, EACCES, EINVAL}
use Rattle.sysv_model.specs.declared.flags.Flags.{Flags}
use Rattle.sysv_model.specs.declared.attributes.Attributes.{Attributes}
use Rattle.sysv_model.specs.declared.attributes.SetTo.{SetTo}
use Rattle.sysv_model.specs.declared.limits.TheConstants.{MAX_QBYTES}
use Rattle.sysv_model.specs.Message.{Message}
use Rattle.sysv_model.specs.declared.selector.Selector.{Selector}
use Rattle.sysv_model.specs.History.{Call, Install, Probe, Look, Place, Take, ReadStat, Set, Remove, ReadRow, Reply}
use Rattle.sysv_model.specs.History.{Installed, Gone, Denied, Granted, Full, Fits, Accepted, NoMatch, TooLong, Taken}
use Rattle.sysv_model.specs.History.{Told, Done, Discarded, Refused, Shown}
use Rattle.sysv_model.specs.Live.{HasId}
use Rattle.sysv_rules.specs.declared.permission.Want.{Want}
use Rattle.sysv_rules.specs.declared.permission.Want.TheVariants.{Read, Write}
use Rattle.sysv_queue.specs.Slot.{Slot, slot_of}
use Rattle.sysv_queue.specs.Fits.{Fits as FitsOn, bytes_of}
use Rattle.sysv_queue.specs.Granted.{IsGranted, MayAsAsked, MayControl, MayLimit}
use Rattle.sysv_queue.specs.Shown.{stat_of, row_of}
use Rattle.sysv_queue.specs.LegalReply.{Legal, LegalInstall, LegalProbe, LegalStat, LegalRow, LegalLook, LegalPlace}
use Rattle.sysv_queue.specs.LegalReply.{LegalTake, LegalSet, LegalRemove, HasRoom, Names, IsGivable}
use Rattle.sysv_queue.specs.Named.{types_of}
use Rattle.sysv_queue.specs.OneReply.{SomeReplyIsLegal, NoTwoRepliesAreLegal}
use Rattle.sysv_queue.proofs.Ids.{is_live}
use Rattle.sysv_queue.proofs.Rules.{PermittedOrNot, NamedOrNone, OneNamed}
use Rattle.sysv_queue.proofs.NamedMessage.{named_message, none_named, never_given, one_message_named}

room_at : (qbytes : ℕ) (messages : List Message) (size : ℕ) →
    FitsOn qbytes messages size ⊎ ¬ FitsOn qbytes messages size
room_at qbytes messages size = elim (at_most (bytes_of messages + size) qbytes) [
  | inl bytes ↦
      elim (at_most 256 (length messages)) [ inl many ↦ inr (λ h. omega (arith, h.1)) | inr few ↦ inl (bytes, few) ]
  | inr over ↦ inr (λ h. omega (arith, h.0))
]

has_room : (l : Option Attributes) (messages : List Message) (arrived freed size : ℕ) →
    HasRoom (record { live = l; messages = messages; arrived = arrived; freed = freed }) size
    ⊎ ¬ HasRoom (record { live = l; messages = messages; arrived = arrived; freed = freed }) size
has_room None messages arrived freed size = inr (λ room. room)
has_room (Some a) messages arrived freed size = room_at a.qbytes messages size

can_give : (size : ℕ) (noerror : Bool) (m : Message) → IsGivable size noerror m ⊎ ¬ IsGivable size noerror m
can_give size true m = inl (inr refl)
can_give size false m = elim (at_most (length m.bytes) size) [
  | inl short ↦ inl (inl short)
  | inr long ↦ inr (never_given size false m long refl)
]

the_live : (l : Option Attributes) (id : ℤ) → HasId l id → (a : Attributes) × (l ≡ Some a)
the_live None id lives = absurd lives
the_live (Some a) id lives = (a, refl)

some_install : (l : Option Attributes) (messages : List Message) (arrived freed : ℕ) →
    (reply : Reply) × LegalInstall (record { live = l; messages = messages; arrived = arrived; freed = freed }) reply
some_install None messages arrived freed = (Installed true, refl)
some_install (Some a) messages arrived freed = (Installed false, refl)

-- The caller may control the queue or not.
controls : (cred : Cred) (l : Option Attributes) → MayControl cred l ⊎ ¬ MayControl cred l
controls cred None = inr (λ h. h)
controls cred (Some a) = elim (cases_eq cred.uid 0) [
  | inl zero_user ↦ inl (inl zero_user)
  | inr other ↦ elim (cases_eq cred.uid a.perm.uid) [
    | inl owner ↦ inl (inr (inl owner))
    | inr no_owner ↦ elim (cases_eq cred.uid a.perm.cuid) [
      | inl creator ↦ inl (inr (inr creator))
      | inr no_creator ↦
          inr (λ h. elim h [ inl e ↦ other e | inr w ↦ elim w [ inl e ↦ no_owner e | inr e ↦ no_creator e ] ])
    ]
  ]
]

limits : (cred : Cred) (to : SetTo) (l : Option Attributes) → MayLimit cred to l ⊎ ¬ MayLimit cred to l
limits cred to None = inr (λ h. h)
limits cred to (Some a) = elim (at_most to.qbytes a.qbytes) [
  | inl no_raise ↦ inl (inl no_raise)
  | inr raise ↦ elim (cases_eq cred.uid 0) [
    | inl zero_user ↦ inl (inr zero_user)
    | inr other ↦ inr (λ h. elim h [ inl e ↦ omega arith | inr e ↦ other e ])
  ]
]

some_set : (s : Slot) (id : ℤ) (cred : Cred) (to : SetTo) → (reply : Reply) × LegalSet s id cred to reply
some_set s id cred to = elim (is_live s.live id) [
  | inl lives ↦ elim (controls cred s.live) [
    | inl may ↦ elim (at_most to.qbytes MAX_QBYTES) [
      | inl within ↦ elim (limits cred to s.live) [
        | inl limit ↦ (Done, (lives, may, within, limit))
        | inr raise ↦ (Refused EPERM, inr (lives, may, within, raise))
      ]
      | inr above ↦ (Refused EINVAL, inr (lives, may, λ within. omega arith))
    ]
    | inr not ↦ (Refused EPERM, inl (lives, not))
  ]
  | inr gone ↦ (Refused EINVAL, inl gone)
]

some_remove : (s : Slot) (id : ℤ) (cred : Cred) → (reply : Reply) × LegalRemove s id cred reply
some_remove s id cred = elim (is_live s.live id) [
  | inl lives ↦ elim (controls cred s.live) [
    | inl may ↦ (Discarded s.messages, (lives, may, refl))
    | inr not ↦ (Refused EPERM, (lives, not))
  ]
  | inr gone ↦ (Refused EINVAL, gone)
]

module _ (permitted : PermittedOrNot) (named_or_none : NamedOrNone) where
  granted : (want : Want) (cred : Cred) (l : Option Attributes) → IsGranted want cred l ⊎ ¬ IsGranted want cred l
  granted want cred None = inr (λ h. h)
  granted want cred (Some a) = permitted cred a.perm want

  -- The permission that the flags request is granted or not.
  wanted : (want : Want) (bits : ℕ) (cred : Cred) (l : Option Attributes) →
      (bits ≢ 0 → IsGranted want cred l) ⊎ ¬ (bits ≢ 0 → IsGranted want cred l)
  wanted want bits cred l = elim (granted want cred l) [
    | inl may ↦ inl (λ asks. may)
    | inr not ↦
        elim (cases_eq bits 0) [ inl none ↦ inl (λ asks. absurd (asks none)) | inr asks ↦ inr (λ f. not (f asks)) ]
  ]

  asked : (flags : Flags) (cred : Cred) (l : Option Attributes) → MayAsAsked flags cred l ⊎ ¬ MayAsAsked flags cred l
  asked flags cred l = elim (wanted Read (bit_and flags.0 0o444) cred l) [
    | inl read ↦ elim (wanted Write (bit_and flags.0 0o222) cred l) [
      | inl write ↦ inl (read, write)
      | inr not ↦ inr (λ w. not w.1)
    ]
    | inr not ↦ inr (λ w. not w.0)
  ]

  some_probe : (s : Slot) (id : ℤ) (cred : Cred) (flags : Flags) → (reply : Reply) × LegalProbe s id cred flags reply
  some_probe s id cred flags = elim (is_live s.live id) [
    | inl lives ↦
        elim (asked flags cred s.live) [ inl may ↦ (Granted, (lives, may)) | inr not ↦ (Denied, (lives, not)) ]
    | inr gone ↦ (Gone, gone)
  ]

  some_stat : (s : Slot) (id : ℤ) (cred : Cred) → (reply : Reply) × LegalStat s id cred reply
  some_stat s id cred = elim (is_live s.live id) [
    | inl lives ↦ elim (granted Read cred s.live) [
      | inl may ↦
          let at = the_live s.live id lives in
          (Told (stat_of s.messages at.0), (lives, may, ap (option_map (stat_of s.messages)) at.1))
      | inr not ↦ (Refused EACCES, (lives, not))
    ]
    | inr gone ↦ (Refused EINVAL, gone)
  ]

  some_look : (s : Slot) (id : ℤ) (cred : Cred) (size : ℕ) → (reply : Reply) × LegalLook s id cred size reply
  some_look s id cred size = elim (is_live s.live id) [
    | inl lives ↦ elim (granted Write cred s.live) [
      | inl may ↦ elim (has_room s.live s.messages s.arrived s.freed size) [
        | inl room ↦ (Fits, (lives, may, room))
        | inr none ↦ (Full s.freed, (lives, may, none, refl))
      ]
      | inr not ↦ (Denied, (lives, not))
    ]
    | inr gone ↦ (Gone, gone)
  ]

  some_place : (s : Slot) (id : ℤ) (cred : Cred) (size : ℕ) → (reply : Reply) × LegalPlace s id cred size reply
  some_place s id cred size = elim (is_live s.live id) [
    | inl lives ↦ elim (granted Write cred s.live) [
      | inl may ↦ elim (has_room s.live s.messages s.arrived s.freed size) [
        | inl room ↦ (Accepted s.arrived, (lives, may, room, refl))
        | inr none ↦ (Full s.freed, (lives, may, none, refl))
      ]
      | inr not ↦ (Denied, (lives, not))
    ]
    | inr gone ↦ (Gone, gone)
  ]

  named_taken : (s : Slot) (id : ℤ) (cred : Cred) (selector : Selector) (size : ℕ) (noerror : Bool) (m : Message) →
      HasId s.live id → IsGranted Read cred s.live → Names s selector m →
      (reply : Reply) × LegalTake s id cred selector size noerror reply
  named_taken s id cred selector size noerror m lives may named = elim (can_give size noerror m) [
    | inl can ↦ (Taken m, (lives, may, named, can))
    | inr not ↦ (TooLong, (lives, may, (m, named, not)))
  ]

  some_take : (s : Slot) (id : ℤ) (cred : Cred) (selector : Selector) (size : ℕ) (noerror : Bool) →
      (reply : Reply) × LegalTake s id cred selector size noerror reply
  some_take s id cred selector size noerror = elim (is_live s.live id) [
    | inl lives ↦ elim (granted Read cred s.live) [
      | inl may ↦ elim (named_or_none selector (types_of s.messages)) [
        | inl at ↦
            let named = named_message s selector at.0 at.1 in
            named_taken s id cred selector size noerror named.0 lives may named.1
        | inr none ↦ (NoMatch s.arrived, (lives, may, none_named selector s.messages none, refl))
      ]
      | inr not ↦ (Denied, (lives, not))
    ]
    | inr gone ↦ (Gone, gone)
  ]

  some_reply : (s : Slot) (call : Call) → (reply : Reply) × Legal s call reply
  some_reply s (Install id key cred mode now) = some_install s.live s.messages s.arrived s.freed
  some_reply s (Probe id cred flags) = some_probe s id cred flags
  some_reply s (Look id cred size) = some_look s id cred size
  some_reply s (Place id cred mtype bytes now) = some_place s id cred (length bytes)
  some_reply s (Take id cred selector size noerror now) = some_take s id cred selector size noerror
  some_reply s (ReadStat id cred) = some_stat s id cred
  some_reply s (Set id cred to now) = some_set s id cred to
  some_reply s (Remove id cred) = some_remove s id cred
  some_reply s ReadRow = (Shown (option_map (row_of s.messages) s.live), refl)

  pub some_reply_is_legal : SomeReplyIsLegal
  some_reply_is_legal h call = some_reply (slot_of h) call

-- ---- no two replies

taken_and_vacant : (l : Option Attributes) → IsSome l → l ≡ None → ⊥
taken_and_vacant None taken vacant = cc
taken_and_vacant (Some a) taken vacant = cc

one_install : (s : Slot) (a b : Reply) → LegalInstall s a → LegalInstall s b → a ≡ b
one_install s (Installed true) (Installed true) la lb = refl
one_install s (Installed false) (Installed false) la lb = refl
one_install s (Installed true) (Installed false) la lb = absurd (taken_and_vacant s.live lb la)
one_install s (Installed false) (Installed true) la lb = absurd (taken_and_vacant s.live la lb)
one_install s (Installed true) b la lb = absurd lb
one_install s (Installed false) b la lb = absurd lb
one_install s a b la lb = absurd la

one_probe : (s : Slot) (id : ℤ) (cred : Cred) (flags : Flags) (a b : Reply) → LegalProbe s id cred flags a →
    LegalProbe s id cred flags b → a ≡ b
one_probe s id cred flags Gone Gone la lb = refl
one_probe s id cred flags Gone Denied la lb = absurd (la lb.0)
one_probe s id cred flags Gone Granted la lb = absurd (la lb.0)
one_probe s id cred flags Denied Gone la lb = absurd (lb la.0)
one_probe s id cred flags Denied Denied la lb = refl
one_probe s id cred flags Denied Granted la lb = absurd (la.1 lb.1)
one_probe s id cred flags Granted Gone la lb = absurd (lb la.0)
one_probe s id cred flags Granted Denied la lb = absurd (lb.1 la.1)
one_probe s id cred flags Granted Granted la lb = refl
one_probe s id cred flags Gone b la lb = absurd lb
one_probe s id cred flags Denied b la lb = absurd lb
one_probe s id cred flags Granted b la lb = absurd lb
one_probe s id cred flags a b la lb = absurd la

one_stat : (s : Slot) (id : ℤ) (cred : Cred) (a b : Reply) → LegalStat s id cred a → LegalStat s id cred b → a ≡ b
one_stat s id cred (Refused EINVAL) (Refused EINVAL) la lb = refl
one_stat s id cred (Refused EINVAL) (Refused EACCES) la lb = absurd (la lb.0)
one_stat s id cred (Refused EINVAL) (Told stat) la lb = absurd (la lb.0)
one_stat s id cred (Refused EACCES) (Refused EINVAL) la lb = absurd (lb la.0)
one_stat s id cred (Refused EACCES) (Refused EACCES) la lb = refl
one_stat s id cred (Refused EACCES) (Told stat) la lb = absurd (la.1 lb.1)
one_stat s id cred (Told stat) (Refused EINVAL) la lb = absurd (lb la.0)
one_stat s id cred (Told stat) (Refused EACCES) la lb = absurd (lb.1 la.1)
one_stat s id cred (Told stat) (Told other) la lb = let same : Some stat ≡ Some other = sym la.2 ∙ lb.2 in ap Told cc
one_stat s id cred (Refused EINVAL) b la lb = absurd lb
one_stat s id cred (Refused EACCES) b la lb = absurd lb
one_stat s id cred (Told stat) b la lb = absurd lb
one_stat s id cred a b la lb = absurd la

-- The causes of EINVAL, of EPERM and of success exclude each other.
set_invalid : (s : Slot) (id : ℤ) (cred : Cred) (to : SetTo) → LegalSet s id cred to (Refused EINVAL) →
    LegalSet s id cred to (Refused EPERM) → ⊥
set_invalid s id cred to (inl gone) (inl w) = gone w.0
set_invalid s id cred to (inl gone) (inr w) = gone w.0
set_invalid s id cred to (inr w) (inl v) = v.1 w.1
set_invalid s id cred to (inr w) (inr v) = w.2 v.2

set_invalid_done : (s : Slot) (id : ℤ) (cred : Cred) (to : SetTo) → LegalSet s id cred to (Refused EINVAL) →
    LegalSet s id cred to Done → ⊥
set_invalid_done s id cred to (inl gone) l = gone l.0
set_invalid_done s id cred to (inr w) l = w.2 l.2

set_denied_done : (s : Slot) (id : ℤ) (cred : Cred) (to : SetTo) → LegalSet s id cred to (Refused EPERM) →
    LegalSet s id cred to Done → ⊥
set_denied_done s id cred to (inl w) l = w.1 l.1
set_denied_done s id cred to (inr w) l = w.3 l.3

one_set : (s : Slot) (id : ℤ) (cred : Cred) (to : SetTo) (a b : Reply) → LegalSet s id cred to a →
    LegalSet s id cred to b → a ≡ b
one_set s id cred to (Refused EINVAL) (Refused EINVAL) la lb = refl
one_set s id cred to (Refused EINVAL) (Refused EPERM) la lb = absurd (set_invalid s id cred to la lb)
one_set s id cred to (Refused EINVAL) Done la lb = absurd (set_invalid_done s id cred to la lb)
one_set s id cred to (Refused EPERM) (Refused EINVAL) la lb = absurd (set_invalid s id cred to lb la)
one_set s id cred to (Refused EPERM) (Refused EPERM) la lb = refl
one_set s id cred to (Refused EPERM) Done la lb = absurd (set_denied_done s id cred to la lb)
one_set s id cred to Done (Refused EINVAL) la lb = absurd (set_invalid_done s id cred to lb la)
one_set s id cred to Done (Refused EPERM) la lb = absurd (set_denied_done s id cred to lb la)
one_set s id cred to Done Done la lb = refl
one_set s id cred to (Refused EINVAL) b la lb = absurd lb
one_set s id cred to (Refused EPERM) b la lb = absurd lb
one_set s id cred to Done b la lb = absurd lb
one_set s id cred to a b la lb = absurd la

one_remove : (s : Slot) (id : ℤ) (cred : Cred) (a b : Reply) → LegalRemove s id cred a → LegalRemove s id cred b → a ≡ b
one_remove s id cred (Refused EINVAL) (Refused EINVAL) la lb = refl
one_remove s id cred (Refused EINVAL) (Refused EPERM) la lb = absurd (la lb.0)
one_remove s id cred (Refused EINVAL) (Discarded n) la lb = absurd (la lb.0)
one_remove s id cred (Refused EPERM) (Refused EINVAL) la lb = absurd (lb la.0)
one_remove s id cred (Refused EPERM) (Refused EPERM) la lb = refl
one_remove s id cred (Refused EPERM) (Discarded n) la lb = absurd (la.1 lb.1)
one_remove s id cred (Discarded m) (Refused EINVAL) la lb = absurd (lb la.0)
one_remove s id cred (Discarded m) (Refused EPERM) la lb = absurd (lb.1 la.1)
one_remove s id cred (Discarded m) (Discarded n) la lb = ap Discarded (la.2 ∙ sym lb.2)
one_remove s id cred (Refused EINVAL) b la lb = absurd lb
one_remove s id cred (Refused EPERM) b la lb = absurd lb
one_remove s id cred (Discarded m) b la lb = absurd lb
one_remove s id cred a b la lb = absurd la

one_row : (s : Slot) (a b : Reply) → LegalRow s a → LegalRow s b → a ≡ b
one_row s (Shown row) (Shown other) la lb = ap Shown (la ∙ sym lb)
one_row s (Shown row) b la lb = absurd lb
one_row s a b la lb = absurd la

look_full : (s : Slot) (id : ℤ) (cred : Cred) (size freed : ℕ) (b : Reply) → LegalLook s id cred size (Full freed) →
    LegalLook s id cred size b → Full freed ≡ b
look_full s id cred size freed Gone la lb = absurd (lb la.0)
look_full s id cred size freed Denied la lb = absurd (lb.1 la.1)
look_full s id cred size freed (Full other) la lb = ap Full (la.3 ∙ sym lb.3)
look_full s id cred size freed Fits la lb = absurd (la.2 lb.2)
look_full s id cred size freed b la lb = absurd lb

look_fits : (s : Slot) (id : ℤ) (cred : Cred) (size : ℕ) (b : Reply) → LegalLook s id cred size Fits →
    LegalLook s id cred size b → Fits ≡ b
look_fits s id cred size Gone la lb = absurd (lb la.0)
look_fits s id cred size Denied la lb = absurd (lb.1 la.1)
look_fits s id cred size (Full other) la lb = absurd (lb.2 la.2)
look_fits s id cred size Fits la lb = refl
look_fits s id cred size b la lb = absurd lb

look_denied : (s : Slot) (id : ℤ) (cred : Cred) (size : ℕ) (b : Reply) → LegalLook s id cred size Denied →
    LegalLook s id cred size b → Denied ≡ b
look_denied s id cred size Gone la lb = absurd (lb la.0)
look_denied s id cred size Denied la lb = refl
look_denied s id cred size (Full other) la lb = absurd (la.1 lb.1)
look_denied s id cred size Fits la lb = absurd (la.1 lb.1)
look_denied s id cred size b la lb = absurd lb

look_gone : (s : Slot) (id : ℤ) (cred : Cred) (size : ℕ) (b : Reply) → LegalLook s id cred size Gone →
    LegalLook s id cred size b → Gone ≡ b
look_gone s id cred size Gone la lb = refl
look_gone s id cred size Denied la lb = absurd (la lb.0)
look_gone s id cred size (Full other) la lb = absurd (la lb.0)
look_gone s id cred size Fits la lb = absurd (la lb.0)
look_gone s id cred size b la lb = absurd lb

one_look : (s : Slot) (id : ℤ) (cred : Cred) (size : ℕ) (a b : Reply) → LegalLook s id cred size a →
    LegalLook s id cred size b → a ≡ b
one_look s id cred size Gone b la lb = look_gone s id cred size b la lb
one_look s id cred size Denied b la lb = look_denied s id cred size b la lb
one_look s id cred size (Full freed) b la lb = look_full s id cred size freed b la lb
one_look s id cred size Fits b la lb = look_fits s id cred size b la lb
one_look s id cred size a b la lb = absurd la

place_full : (s : Slot) (id : ℤ) (cred : Cred) (size freed : ℕ) (b : Reply) → LegalPlace s id cred size (Full freed) →
    LegalPlace s id cred size b → Full freed ≡ b
place_full s id cred size freed Gone la lb = absurd (lb la.0)
place_full s id cred size freed Denied la lb = absurd (lb.1 la.1)
place_full s id cred size freed (Full other) la lb = ap Full (la.3 ∙ sym lb.3)
place_full s id cred size freed (Accepted number) la lb = absurd (la.2 lb.2)
place_full s id cred size freed b la lb = absurd lb

place_accepted : (s : Slot) (id : ℤ) (cred : Cred) (size number : ℕ) (b : Reply) →
    LegalPlace s id cred size (Accepted number) → LegalPlace s id cred size b → Accepted number ≡ b
place_accepted s id cred size number Gone la lb = absurd (lb la.0)
place_accepted s id cred size number Denied la lb = absurd (lb.1 la.1)
place_accepted s id cred size number (Full other) la lb = absurd (lb.2 la.2)
place_accepted s id cred size number (Accepted other) la lb = ap Accepted (la.3 ∙ sym lb.3)
place_accepted s id cred size number b la lb = absurd lb

place_denied : (s : Slot) (id : ℤ) (cred : Cred) (size : ℕ) (b : Reply) → LegalPlace s id cred size Denied →
    LegalPlace s id cred size b → Denied ≡ b
place_denied s id cred size Gone la lb = absurd (lb la.0)
place_denied s id cred size Denied la lb = refl
place_denied s id cred size (Full other) la lb = absurd (la.1 lb.1)
place_denied s id cred size (Accepted number) la lb = absurd (la.1 lb.1)
place_denied s id cred size b la lb = absurd lb

place_gone : (s : Slot) (id : ℤ) (cred : Cred) (size : ℕ) (b : Reply) → LegalPlace s id cred size Gone →
    LegalPlace s id cred size b → Gone ≡ b
place_gone s id cred size Gone la lb = refl
place_gone s id cred size Denied la lb = absurd (la lb.0)
place_gone s id cred size (Full other) la lb = absurd (la lb.0)
place_gone s id cred size (Accepted number) la lb = absurd (la lb.0)
place_gone s id cred size b la lb = absurd lb

one_place : (s : Slot) (id : ℤ) (cred : Cred) (size : ℕ) (a b : Reply) → LegalPlace s id cred size a →
    LegalPlace s id cred size b → a ≡ b
one_place s id cred size Gone b la lb = place_gone s id cred size b la lb
one_place s id cred size Denied b la lb = place_denied s id cred size b la lb
one_place s id cred size (Full freed) b la lb = place_full s id cred size freed b la lb
one_place s id cred size (Accepted number) b la lb = place_accepted s id cred size number b la lb
one_place s id cred size a b la lb = absurd la

module _ (one_named : OneNamed) where
  take_none : (s : Slot) (id : ℤ) (cred : Cred) (selector : Selector) (size : ℕ) (noerror : Bool) (arrived : ℕ)
      (b : Reply) → LegalTake s id cred selector size noerror (NoMatch arrived) →
      LegalTake s id cred selector size noerror b → NoMatch arrived ≡ b
  take_none s id cred selector size noerror arrived Gone la lb = absurd (lb la.0)
  take_none s id cred selector size noerror arrived Denied la lb = absurd (lb.1 la.1)
  take_none s id cred selector size noerror arrived (NoMatch other) la lb = ap NoMatch (la.3 ∙ sym lb.3)
  take_none s id cred selector size noerror arrived TooLong la lb = absurd (la.2 lb.2.1.0 lb.2.1.1)
  take_none s id cred selector size noerror arrived (Taken m) la lb = absurd (la.2 lb.2.0 lb.2.1)
  take_none s id cred selector size noerror arrived b la lb = absurd lb

  take_long : (s : Slot) (id : ℤ) (cred : Cred) (selector : Selector) (size : ℕ) (noerror : Bool) (b : Reply) →
      LegalTake s id cred selector size noerror TooLong → LegalTake s id cred selector size noerror b → TooLong ≡ b
  take_long s id cred selector size noerror Gone la lb = absurd (lb la.0)
  take_long s id cred selector size noerror Denied la lb = absurd (lb.1 la.1)
  take_long s id cred selector size noerror (NoMatch other) la lb = absurd (lb.2 la.2.1.0 la.2.1.1)
  take_long s id cred selector size noerror TooLong la lb = refl
  take_long s id cred selector size noerror (Taken m) la lb = absurd (la.2.2 (subst (IsGivable size noerror)
      (one_message_named one_named s selector m la.2.0 lb.2 la.2.1) lb.3))
  take_long s id cred selector size noerror b la lb = absurd lb

  take_taken : (s : Slot) (id : ℤ) (cred : Cred) (selector : Selector) (size : ℕ) (noerror : Bool) (m : Message)
      (b : Reply) → LegalTake s id cred selector size noerror (Taken m) → LegalTake s id cred selector size noerror b →
      Taken m ≡ b
  take_taken s id cred selector size noerror m Gone la lb = absurd (lb la.0)
  take_taken s id cred selector size noerror m Denied la lb = absurd (lb.1 la.1)
  take_taken s id cred selector size noerror m (NoMatch other) la lb = absurd (lb.2 la.2.0 la.2.1)
  take_taken s id cred selector size noerror m TooLong la lb = absurd (lb.2.2 (subst (IsGivable size noerror)
      (one_message_named one_named s selector m lb.2.0 la.2 lb.2.1) la.3))
  take_taken s id cred selector size noerror m (Taken n) la lb =
      ap Taken (one_message_named one_named s selector m n la.2 lb.2)
  take_taken s id cred selector size noerror m b la lb = absurd lb

  take_denied : (s : Slot) (id : ℤ) (cred : Cred) (selector : Selector) (size : ℕ) (noerror : Bool) (b : Reply) →
      LegalTake s id cred selector size noerror Denied → LegalTake s id cred selector size noerror b → Denied ≡ b
  take_denied s id cred selector size noerror Gone la lb = absurd (lb la.0)
  take_denied s id cred selector size noerror Denied la lb = refl
  take_denied s id cred selector size noerror (NoMatch other) la lb = absurd (la.1 lb.1)
  take_denied s id cred selector size noerror TooLong la lb = absurd (la.1 lb.1)
  take_denied s id cred selector size noerror (Taken m) la lb = absurd (la.1 lb.1)
  take_denied s id cred selector size noerror b la lb = absurd lb

  take_gone : (s : Slot) (id : ℤ) (cred : Cred) (selector : Selector) (size : ℕ) (noerror : Bool) (b : Reply) →
      LegalTake s id cred selector size noerror Gone → LegalTake s id cred selector size noerror b → Gone ≡ b
  take_gone s id cred selector size noerror Gone la lb = refl
  take_gone s id cred selector size noerror Denied la lb = absurd (la lb.0)
  take_gone s id cred selector size noerror (NoMatch other) la lb = absurd (la lb.0)
  take_gone s id cred selector size noerror TooLong la lb = absurd (la lb.0)
  take_gone s id cred selector size noerror (Taken m) la lb = absurd (la lb.0)
  take_gone s id cred selector size noerror b la lb = absurd lb

  one_take : (s : Slot) (id : ℤ) (cred : Cred) (selector : Selector) (size : ℕ) (noerror : Bool) (a b : Reply) →
      LegalTake s id cred selector size noerror a → LegalTake s id cred selector size noerror b → a ≡ b
  one_take s id cred selector size noerror Gone b la lb = take_gone s id cred selector size noerror b la lb
  one_take s id cred selector size noerror Denied b la lb = take_denied s id cred selector size noerror b la lb
  one_take s id cred selector size noerror (NoMatch arrived) b la lb =
      take_none s id cred selector size noerror arrived b la lb
  one_take s id cred selector size noerror TooLong b la lb = take_long s id cred selector size noerror b la lb
  one_take s id cred selector size noerror (Taken m) b la lb = take_taken s id cred selector size noerror m b la lb
  one_take s id cred selector size noerror a b la lb = absurd la

  one_reply : (s : Slot) (call : Call) (a b : Reply) → Legal s call a → Legal s call b → a ≡ b
  one_reply s (Install id key cred mode now) a b la lb = one_install s a b la lb
  one_reply s (Probe id cred flags) a b la lb = one_probe s id cred flags a b la lb
  one_reply s (ReadStat id cred) a b la lb = one_stat s id cred a b la lb
  one_reply s ReadRow a b la lb = one_row s a b la lb
  one_reply s (Look id cred size) a b la lb = one_look s id cred size a b la lb
  one_reply s (Place id cred mtype bytes now) a b la lb = one_place s id cred (length bytes) a b la lb
  one_reply s (Take id cred selector size noerror now) a b la lb = one_take s id cred selector size noerror a b la lb
  one_reply s (Set id cred to now) a b la lb = one_set s id cred to a b la lb
  one_reply s (Remove id cred) a b la lb = one_remove s id cred a b la lb

  pub no_two_replies_are_legal : NoTwoRepliesAreLegal
  no_two_replies_are_legal h call a b la lb = one_reply (slot_of h) call a b la lb
