-- A refusal stays right while its count is the same: the turns that leave the count unchanged add
-- no match and no room.
use Rattle.std.proofs.Common.{◌≡◌, ℕ, zero, suc, ℤ, ◌+◌, ◌≤◌, inl, inr, Bool, cond, List, [], ◌∷◌, ◌++◌, Option, None}
use Rattle.std.proofs.Common.{Some, MatchOption, refl, sym, subst, arith, length, remove, option_map, length-append}
use Rattle.std.specs.List.{AllByRecursion}
use Rattle.std.proofs.lemmas.List.Sums.{sum_by-append}
use Rattle.sysv_model.specs.declared.cred.Cred.{Cred}
use Rattle.sysv_model.specs.declared.attributes.Attributes.{Attributes}
use Rattle.sysv_model.specs.declared.selector.Selector.{Selector}
use Rattle.sysv_model.specs.Message.{Message}
use Rattle.sysv_model.specs.History.{Who, Call, Reply, Full, NoMatch, Entry, History, then_turn, announces_arrival}
use Rattle.sysv_model.specs.History.{announces_room, arrived, freed}
use Rattle.sysv_model.specs.Live.{live, HasId, sent_to, received_from}
use Rattle.sysv_rules.specs.declared.permission.Want.{Want}
use Rattle.sysv_rules.specs.declared.permission.Want.TheVariants.{Read, Write}
use Rattle.sysv_rules.specs.Permission.{IsPermitted}
use Rattle.sysv_rules.specs.Qualifies.{Qualifies, NoneQualifies}
use Rattle.sysv_queue.specs.Slot.{Slot, slot_of}
use Rattle.sysv_queue.specs.Fits.{Fits as FitsOn}
use Rattle.sysv_queue.specs.Granted.{IsGranted}
use Rattle.sysv_queue.specs.Named.{IsNamed, types_of}
use Rattle.sysv_queue.specs.LegalReply.{LegalLook, LegalTake, IsLegalReply, IsLegalHistory}
use Rattle.sysv_queue.specs.StaysRight.{NoMatchStays, FullStays, FullStaysForLook, CountsNeverFall}
use Rattle.sysv_model.proofs.Snoc.{from_front}
use Rattle.sysv_queue.proofs.Legality.{legal_front, legal_last}
use Rattle.sysv_queue.proofs.Turns.{Kind, Quiet, Makes, Accepts, Takes, Changes, Discards, arrived-more, freed-more}
use Rattle.sysv_queue.proofs.Turns.{arrived_grows, freed_grows, kind_of}
use Rattle.sysv_queue.proofs.Ids.{keeps_id}
use Rattle.sysv_queue.proofs.Removal.{types_of-remove}
use Rattle.sysv_queue.proofs.NamedMessage.{none_named}
use Rattle.sysv_queue.proofs.Rules.{NamedOrNone}
use Rattle.sysv_queue.proofs.Stands.{slot, after_quiet, after_sent, after_taken}

pub counts_never_fall : CountsNeverFall
counts_never_fall h more =
    let a = sum_by-append (λ (e : Entry). cond (announces_arrival e.call e.reply) 1 0) h more in
    let f = sum_by-append (λ (e : Entry). cond (announces_room e.call e.reply) 1 0) h more in
    (omega arith, omega arith)

-- A change that keeps owner, creator and mode keeps the permissions.
granted_still : (f : Attributes → Attributes) → ((a : Attributes) → (f a).perm ≡ a.perm) → (want : Want) (cred : Cred)
    (l : Option Attributes) → IsGranted want cred l → IsGranted want cred (option_map f l)
granted_still f same want cred None granted = granted
granted_still f same want cred (Some a) granted = subst (λ p. IsPermitted cred p want) (sym (same a)) granted

never_vacant : (l : Option Attributes) (id : ℤ) → HasId l id → l ≡ None → ⊥
never_vacant l id lives vacant = subst (λ l. HasId l id) vacant lives

-- ---- no match

none_of : (selector : Selector) (types : List ℤ) → NoneQualifies selector types →
    AllByRecursion (λ t. ¬ Qualifies selector t) types
none_of selector [] none = tt
none_of selector (t ∷ types) none =
    (λ q. none 0 (omega arith, q), none_of selector types (λ place at. none (suc place) (omega (arith, at.0), at.1)))

none_at : (selector : Selector) (types : List ℤ) → AllByRecursion (λ t. ¬ Qualifies selector t) types →
    NoneQualifies selector types
none_at selector [] a place at = omega (arith, at.0)
none_at selector (t ∷ types) a zero at = a.0 at.1
none_at selector (t ∷ types) a (suc place) at = none_at selector types a.1 place (omega (arith, at.0), at.1)

all_left : {X : Type 0} (P : X → Type 0) (xs : List X) (place : ℕ) → AllByRecursion P xs →
    AllByRecursion P (remove xs place)
all_left P [] zero a = a
all_left P [] (suc place) a = a
all_left P (x ∷ xs) zero a = a.1
all_left P (x ∷ xs) (suc place) a = (a.0, all_left P xs place a.1)

module _ (named_or_none : NamedOrNone) where
  -- If no message is named, none is named after one was taken.
  none_named_left : (selector : Selector) (ms : List Message) (place : ℕ) → ((i : ℕ) → ¬ IsNamed selector ms i) →
      (i : ℕ) → ¬ IsNamed selector (remove ms place) i
  none_named_left selector ms place none =
      let before : NoneQualifies selector (types_of ms) =
      elim (named_or_none selector (types_of ms)) [ inl at ↦ absurd (none at.0 at.1) | inr q ↦ q ] in
      let left = all_left (λ t. ¬ Qualifies selector t) (types_of ms) place (none_of selector (types_of ms) before) in
      none_named selector (remove ms place)
      (subst (NoneQualifies selector) (sym (types_of-remove ms place))
      (none_at selector (remove (types_of ms) place) left))

  module _ (id : ℤ) (cred : Cred) (selector : Selector) (size : ℕ) (noerror : Bool) (count : ℕ) where
    -- NoMatch is the legal reply.
    abbrev Unmatched : Slot → Type 0
    Unmatched s = LegalTake s id cred selector size noerror (NoMatch count)

    unmatched_left : (s : Slot) (by : Cred) (now place : ℕ) (f : ℕ) → Unmatched s →
        Unmatched (slot (option_map (received_from by now) s.live) (remove s.messages place) s.arrived f)
    unmatched_left s by now place f l = (
      keeps_id (received_from by now) (λ a. refl) s.live id l.0,
      granted_still (received_from by now) (λ a. refl) Read cred s.live l.1,
      none_named_left selector s.messages place l.2,
      l.3,
    )

    unmatched_more : (h : History) (who : Who) (call : Call) (reply : Reply) → Kind call reply → IsLegalHistory h →
        IsLegalReply h call reply → arrived (then_turn h who call reply) ≡ arrived h → Unmatched (slot_of h) →
        Unmatched (slot_of (then_turn h who call reply))
    unmatched_more h who call reply (Quiet q) legal l same u = subst Unmatched (sym (after_quiet h who call reply q)) u
    unmatched_more h who call reply (Makes at key by mode now) legal l same u = absurd (never_vacant (live h) id u.0 l)
    unmatched_more h who call reply (Accepts at by mtype bytes now number) legal l same u =
        let more = arrived-more h (record { who = who; call = call; reply = reply }) in absurd (omega arith)
    unmatched_more h who call reply (Takes at by sel bytes cut now m) legal l same u =
        subst Unmatched (sym (after_taken h who at by sel bytes cut now m l.2.0 legal l.0 l.2.2))
        (unmatched_left (slot_of h) by now l.2.0 (freed h + 1) u)
    unmatched_more h who call reply (Changes at by to now) legal l same u =
        let more = arrived-more h (record { who = who; call = call; reply = reply }) in absurd (omega arith)
    unmatched_more h who call reply (Discards at by messages) legal l same u =
        let more = arrived-more h (record { who = who; call = call; reply = reply }) in absurd (omega arith)

    -- Along the turns after h.
    abbrev UnmatchedSince : History → History → Type 0
    UnmatchedSince h k = (arrived h ≤ arrived k) × (IsLegalHistory k → arrived k ≡ arrived h → Unmatched (slot_of k))

    unmatched_on : (h more : History) → Unmatched (slot_of h) → UnmatchedSince h (h ++ more)
    unmatched_on h more u =
        from_front (UnmatchedSince h)
        (λ k e before.
        let grows = arrived_grows k e in
        let since = before.0 in (
          omega arith,
          λ legal same.
              let stays : arrived k ≡ arrived h = omega arith in
              let no_rise : arrived (k ++ e ∷ []) ≡ arrived k = omega arith in
              let front = legal_front k e legal in
              let last = legal_last k e legal in
              unmatched_more k e.who e.call e.reply (kind_of (slot_of k) e.call e.reply last) front last no_rise
              (before.1 front stays),
        )) h more (omega arith, λ legal same. u)

  pub no_match_stays : NoMatchStays
  no_match_stays h more id cred selector size noerror first again count legal same u =
      (unmatched_on id cred selector size noerror count h more u).1 legal same

-- ---- no room

-- If a message fits after another was accepted, it fitted before.
room_before : (l : Option Attributes) (by : Cred) (now : ℕ) (ms : List Message) (m : Message) (size : ℕ) →
    MatchOption (option_map (sent_to by now) l) ⊥ (λ (a : Attributes). FitsOn a.qbytes (ms ++ m ∷ []) size) →
    MatchOption l ⊥ (λ (a : Attributes). FitsOn a.qbytes ms size)
room_before None by now ms m size room = room
room_before (Some a) by now ms m size room =
    let bytes = sum_by-append (λ (x : Message). length x.bytes) ms (m ∷ []) in
    let many = length-append ms (m ∷ []) in
    (omega (arith, room.0), omega (arith, room.1))

module _ (id : ℤ) (cred : Cred) (size count : ℕ) where
  -- Full is the legal reply.
  abbrev Crowded : Slot → Type 0
  Crowded s = LegalLook s id cred size (Full count)

  crowded_left : (s : Slot) (by : Cred) (now : ℕ) (m : Message) (a : ℕ) → Crowded s →
      Crowded (slot (option_map (sent_to by now) s.live) (s.messages ++ m ∷ []) a s.freed)
  crowded_left s by now m a l = (
    keeps_id (sent_to by now) (λ a. refl) s.live id l.0,
    granted_still (sent_to by now) (λ a. refl) Write cred s.live l.1,
    λ room. l.2 (room_before s.live by now s.messages m size room),
    l.3,
  )

  crowded_more : (h : History) (who : Who) (call : Call) (reply : Reply) → Kind call reply → IsLegalHistory h →
      IsLegalReply h call reply → freed (then_turn h who call reply) ≡ freed h → Crowded (slot_of h) →
      Crowded (slot_of (then_turn h who call reply))
  crowded_more h who call reply (Quiet q) legal l same u = subst Crowded (sym (after_quiet h who call reply q)) u
  crowded_more h who call reply (Makes at key by mode now) legal l same u = absurd (never_vacant (live h) id u.0 l)
  crowded_more h who call reply (Accepts at by mtype bytes now number) legal l same u =
      subst Crowded (sym (after_sent h who at by mtype bytes now number legal l.0 l.3))
      (crowded_left (slot_of h) by now (record { number = number; sender = by.pid; mtype = mtype; bytes = bytes })
      (arrived h + 1) u)
  crowded_more h who call reply (Takes at by sel bytes cut now m) legal l same u =
      let more = freed-more h (record { who = who; call = call; reply = reply }) in absurd (omega arith)
  crowded_more h who call reply (Changes at by to now) legal l same u =
      let more = freed-more h (record { who = who; call = call; reply = reply }) in absurd (omega arith)
  crowded_more h who call reply (Discards at by messages) legal l same u =
      let more = freed-more h (record { who = who; call = call; reply = reply }) in absurd (omega arith)

  abbrev CrowdedSince : History → History → Type 0
  CrowdedSince h k = (freed h ≤ freed k) × (IsLegalHistory k → freed k ≡ freed h → Crowded (slot_of k))

  crowded_on : (h more : History) → Crowded (slot_of h) → CrowdedSince h (h ++ more)
  crowded_on h more u =
      from_front (CrowdedSince h)
      (λ k e before.
      let grows = freed_grows k e in
      let since = before.0 in (
        omega arith,
        λ legal same.
            let stays : freed k ≡ freed h = omega arith in
            let no_rise : freed (k ++ e ∷ []) ≡ freed k = omega arith in
            let front = legal_front k e legal in
            let last = legal_last k e legal in
            crowded_more k e.who e.call e.reply (kind_of (slot_of k) e.call e.reply last) front last no_rise
            (before.1 front stays),
      )) h more (omega arith, λ legal same. u)

pub full_stays : FullStays
full_stays h more id cred size count legal same u = (crowded_on id cred size count h more u).1 legal same

pub full_stays_for_look : FullStaysForLook
full_stays_for_look h more id cred mtype bytes now count legal same u =
    (crowded_on id cred (length bytes) count h more u).1 legal same
