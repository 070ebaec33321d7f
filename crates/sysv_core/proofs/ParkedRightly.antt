-- A call that waits below its goal has a reason to: its last turn at the slot was a refusal, which
-- is right as long as the count has not risen.
use Rattle.std.proofs.Common.{◌≡◌, inl, inr, ℕ, ℤ, ◌+◌, ◌<◌, Bool, List, ◌∷◌, ◌++◌, Option, None, Some, MatchOption}
use Rattle.std.proofs.Common.{sym, ap, subst, ◌∙◌, arith, length, slice_get}
use Rattle.sysv_model.specs.declared.attributes.Attributes.{Attributes}
use Rattle.sysv_model.specs.declared.cred.Cred.{Cred}
use Rattle.sysv_model.specs.declared.flags.Flags.{Flags}
use Rattle.sysv_model.specs.declared.selector.Selector.{Selector}
use Rattle.sysv_model.specs.Message.{Message}
use Rattle.sysv_model.specs.Selector.{selector_for}
use Rattle.sysv_model.specs.History.{Who, Call, Look, Place, Take, Reply, Full, NoMatch, Entry, History, arrived, freed}
use Rattle.sysv_model.specs.Live.{live, HasId}
use Rattle.sysv_model.specs.Waiting.{waiting, waiting_on, held}
use Rattle.sysv_model.specs.Registry.{settled}
use Rattle.sysv_model.specs.Pool.{released}
use Rattle.sysv_model.specs.Turn.{AtSlot, Turn, slot_history, registry_history, pool_history, ops_of}
use Rattle.sysv_queue.specs.Fits.{Fits as FitsOn}
use Rattle.sysv_queue.specs.Named.{IsNamed}
use Rattle.sysv_queue.specs.LegalReply.{IsLegalReply, IsLegalHistory}
use Rattle.sysv_queue.specs.StaysRight.{NoMatchStays, FullStays, FullStaysForLook, CountsNeverFall}
use Rattle.sysv_keys.specs.Identifier.{slot_of_id}
use Rattle.sysv_objects.specs.LegalOp.{AreLegal}
use Rattle.sysv_steps.specs.Call.{SystemCall, Msgget, Msgsnd, Msgrcv, Kind, kind_of}
use Rattle.sysv_steps.specs.State.{Getting, Sending, Receiving, Wait, OnSettled, OnFreed, OnReleased, OnArrived, Waits}
use Rattle.sysv_steps.specs.Resume.{awaited, goal_of}
use Rattle.sysv_steps.specs.Played.{Plays}
use Rattle.sysv_steps.specs.HoldsAsked.{IsSend, IsReceive, WaitHolds, EachHoldsWhatItWasAsked}
use Rattle.sysv_steps.specs.WaitsFor.{WaitsFor, FoundNone, IsLastAtSlot, EachWaitsForItsRefusal}
use Rattle.sysv_core.specs.World.{World, Invocation, Doing, begun, value_of}
use Rattle.sysv_core.specs.Parked.{HasNothingToTake, HasNoRoom, HasTooFewBlocks, IsToBeWoken, IsBeingChanged, HasReason}
use Rattle.sysv_core.specs.Parked.{AreParkedRightly}
use Rattle.sysv_core.specs.Removed.{AreRemovedForGood}
use Rattle.sysv_core.specs.Tending.{AreTended}
use Rattle.sysv_core.proofs.LifetimeLaws.{SettledOnceInstalled}
use Rattle.sysv_core.proofs.WaitsForBlocks.{IsShortBelow, AreShort}
use Rattle.sysv_core.proofs.SendIsWoken.{IsToBeWokenBelow, AreToBeWoken}
use Rattle.sysv_core.proofs.LifetimeGoesOn.{EachObeys}
use Rattle.sysv_core.proofs.GetsParked.{being_changed}
use Rattle.sysv_core.proofs.TurnInHistory.{made_at, slot_around}

-- The messages of the live queue.
held_is : (l : Option Attributes) (h : History) (id : ℤ) → HasId l id → waiting_on l h ≡ waiting id h
held_is None h id lives = absurd lives
held_is (Some a) h id lives = ap (λ i. waiting i h) lives

crowded_is : (l : Option Attributes) (a : Attributes) (ms : List Message) (size : ℕ) →
    ¬ MatchOption l ⊥ (λ (b : Attributes). FitsOn b.qbytes ms size) → l ≡ Some a → ¬ FitsOn a.qbytes ms size
crowded_is l a ms size crowded is =
    subst (λ (o : Option Attributes). ¬ MatchOption o ⊥ (λ (b : Attributes). FitsOn b.qbytes ms size)) is crowded

-- What such a refusal states.
nothing_to_take : (h : History) (id : ℤ) (cred : Cred) (selector : Selector) (size : ℕ) (noerror : Bool)
    (now count : ℕ) → IsLegalReply h (Take id cred selector size noerror now) (NoMatch count) →
    HasNothingToTake h id cred selector
nothing_to_take h id cred selector size noerror now count l = record {
  lives = l.0;
  may_read = l.1;
  unnamed = subst (λ (ms : List Message). (place : ℕ) → ¬ IsNamed selector ms place) (held_is (live h) h id l.0) l.2;
}

no_room : (h : History) (id : ℤ) (cred : Cred) (size count : ℕ) → IsLegalReply h (Look id cred size) (Full count) →
    HasNoRoom h id cred size
no_room h id cred size count l = record {
  lives = l.0;
  may_write = l.1;
  crowded = λ a is.
      subst (λ (ms : List Message). ¬ FitsOn a.qbytes ms size) (held_is (live h) h id l.0)
      (crowded_is (live h) a (held h) size l.2 is);
}

-- ---- the refusal is right still

-- The history of the slot before the last turn of a call at it, and from that turn on.
record LastAt (w : World) (slot : ℕ) (call : Call) (reply : Reply) : Type 0 where
  earlier : History
  since : History
  same : slot_history slot w.turns ≡ earlier ++ since
  was_legal : IsLegalReply earlier call reply
  all_legal : IsLegalHistory (earlier ++ since)

last_at : (w : World) → AreLegal w.generation w.blocks w.turns → (who : Who) (slot : ℕ) (call : Call) (reply : Reply) →
    IsLastAtSlot (AtSlot slot call reply) (ops_of who w.turns) → LastAt w slot call reply
last_at w legal who slot call reply f =
    let m = made_at who w.turns f.0 (AtSlot slot call reply) f.1 f.2 in
    let entry : Entry = record { who = m.by; call = call; reply = reply } in
    let whole = ap (slot_history slot) m.whole ∙ slot_around slot m.before m.after m.by call reply in
    record {
      earlier = slot_history slot m.before;
      since = entry ∷ slot_history slot m.after;
      same = whole;
      was_legal = legal.slots slot (slot_history slot m.before) entry (slot_history slot m.after) whole;
      all_legal = subst IsLegalHistory whole (legal.slots slot);
    }

receive_parked : (w : World) → AreLegal w.generation w.blocks w.turns → NoMatchStays → CountsNeverFall → (who : Who)
    (r : Receiving) (told : ℕ) → FoundNone r told (ops_of who w.turns) →
    arrived (slot_history (slot_of_id r.id) w.turns) < told + 1 →
    HasNothingToTake (slot_history (slot_of_id r.id) w.turns) r.id r.cred r.selector
receive_parked w legal stays counts who r told f below =
    let l =
    last_at w legal who (slot_of_id r.id) (Take r.id r.cred r.selector r.size r.noerror f.0) (NoMatch told) f.1 in
    let h = l.earlier in
    let low : arrived (h ++ l.since) < told + 1 = subst (λ (k : History). arrived k < told + 1) l.same below in
    let is : told ≡ arrived h = l.was_legal.3 in
    let kept : arrived (h ++ l.since) ≡ arrived h = omega (arith, low, is, (counts h l.since).0) in
    subst (λ (k : History). HasNothingToTake k r.id r.cred r.selector) (sym l.same)
    (nothing_to_take (h ++ l.since) r.id r.cred r.selector r.size r.noerror f.0 told
    (stays h l.since r.id r.cred r.selector r.size r.noerror f.0 f.0 told l.all_legal kept l.was_legal))

module _ (w : World) (legal : AreLegal w.generation w.blocks w.turns) (counts : CountsNeverFall) (who : Who)
    (s : Sending) (told : ℕ) (below : freed (slot_history (slot_of_id s.id) w.turns) < told + 1) where
  sender_parked : (call : Call) (l : LastAt w (slot_of_id s.id) call (Full told)) → told ≡ freed l.earlier →
      (freed (l.earlier ++ l.since) ≡ freed l.earlier →
      IsLegalReply (l.earlier ++ l.since) (Look s.id s.cred (length s.text)) (Full told)) →
      HasNoRoom (slot_history (slot_of_id s.id) w.turns) s.id s.cred (length s.text)
  sender_parked call l is stays =
      let low : freed (l.earlier ++ l.since) < told + 1 =
      subst (λ (k : History). freed k < told + 1) l.same below in
      subst (λ (k : History). HasNoRoom k s.id s.cred (length s.text)) (sym l.same)
      (no_room (l.earlier ++ l.since) s.id s.cred (length s.text) told
      (stays (omega (arith, low, is, (counts l.earlier l.since).1))))

  looker_parked : FullStays → IsLastAtSlot (AtSlot (slot_of_id s.id) (Look s.id s.cred (length s.text)) (Full told))
      (ops_of who w.turns) → HasNoRoom (slot_history (slot_of_id s.id) w.turns) s.id s.cred (length s.text)
  looker_parked full f =
      let call = Look s.id s.cred (length s.text) in
      let l = last_at w legal who (slot_of_id s.id) call (Full told) f in
      sender_parked call l l.was_legal.3
      (λ kept. full l.earlier l.since s.id s.cred (length s.text) told l.all_legal kept l.was_legal)

  placer_parked : FullStaysForLook → (now : ℕ) →
      IsLastAtSlot (AtSlot (slot_of_id s.id) (Place s.id s.cred s.mtype s.text now) (Full told))
      (ops_of who w.turns) → HasNoRoom (slot_history (slot_of_id s.id) w.turns) s.id s.cred (length s.text)
  placer_parked full now f =
      let call = Place s.id s.cred s.mtype s.text now in
      let l = last_at w legal who (slot_of_id s.id) call (Full told) f in
      sender_parked call l l.was_legal.3
      (λ kept. full l.earlier l.since s.id s.cred s.mtype s.text now told l.all_legal kept l.was_legal)

-- ---- in the words of what was asked

a_receive : (turns : List Turn) (cred : Cred) (id : ℤ) (size : ℕ) (mtype : ℤ) (flags : Flags) (r : Receiving) →
    IsReceive cred id size mtype flags r →
    HasNothingToTake (slot_history (slot_of_id r.id) turns) r.id r.cred r.selector →
    HasNothingToTake (slot_history (slot_of_id id) turns) id cred (selector_for mtype flags)
a_receive turns cred id size mtype flags r is n =
    subst (λ i. HasNothingToTake (slot_history (slot_of_id i) turns) i cred (selector_for mtype flags)) is.id
    (subst (λ c. HasNothingToTake (slot_history (slot_of_id r.id) turns) r.id c (selector_for mtype flags)) is.cred
    (subst (HasNothingToTake (slot_history (slot_of_id r.id) turns) r.id r.cred) is.selector n))

a_send : (turns : List Turn) (cred : Cred) (id mtype : ℤ) (text : List ℕ) (s : Sending) → IsSend cred id mtype text s →
    HasNoRoom (slot_history (slot_of_id s.id) turns) s.id s.cred (length s.text) →
    HasNoRoom (slot_history (slot_of_id id) turns) id cred (length text)
a_send turns cred id mtype text s is n =
    subst (λ i. HasNoRoom (slot_history (slot_of_id i) turns) i cred (length text)) is.id
    (subst (λ c. HasNoRoom (slot_history (slot_of_id s.id) turns) s.id c (length text)) is.cred
    (subst (λ (t : List ℕ). HasNoRoom (slot_history (slot_of_id s.id) turns) s.id s.cred (length t)) is.text n))

-- ---- every wait

-- The same for a wait for blocks.
abbrev IsShortOf : {kind : Kind} → World → Wait kind → Type 0
IsShortOf w (OnReleased goal s) =
    released (pool_history w.turns) < goal → HasTooFewBlocks w (length s.text) × IsToBeWoken w s.id s.cred
IsShortOf w wait = Unit {0}

short_of : {kind : Kind} (w : World) (wait : Wait kind) → IsShortBelow w.blocks (pool_history w.turns) (Waits wait) →
    IsToBeWokenBelow w (Waits wait) → IsShortOf w wait
short_of w (OnReleased goal send) short woken = λ below. (short below, woken below)
short_of w wait short woken = tt

module _ (laws : EachObeys) (w : World) (legal : AreLegal w.generation w.blocks w.turns) (no_match : NoMatchStays)
    (full : FullStays)
    (full_for_look : FullStaysForLook) (counts : CountsNeverFall) (tended : AreTended w)
    (good : AreRemovedForGood w.turns) (order : SettledOnceInstalled w.turns) (call : Invocation) where
  has_reason : (asked : SystemCall) (wait : Wait (kind_of asked)) → WaitHolds call.cred asked wait → IsShortOf w wait →
      WaitsFor wait (ops_of call.who w.turns) → value_of w.turns (awaited wait) < goal_of wait →
      HasReason w call.cred asked wait
  has_reason (Msgrcv id size mtype flags) (OnArrived goal r) holds short (told, is, f) below =
      a_receive w.turns call.cred id size mtype flags r holds
      (receive_parked w legal no_match counts call.who r told f
      (subst (λ n. arrived (slot_history (slot_of_id r.id) w.turns) < n) is below))
  has_reason (Msgsnd id mtype flags text) (OnFreed goal s) holds short (told, is, inl f) below =
      a_send w.turns call.cred id mtype text s holds
      (looker_parked w legal counts call.who s told
      (subst (λ n. freed (slot_history (slot_of_id s.id) w.turns) < n) is below) full f)
  has_reason (Msgsnd id mtype flags text) (OnFreed goal s) holds short (told, is, inr f) below =
      a_send w.turns call.cred id mtype text s holds
      (placer_parked w legal counts call.who s told
      (subst (λ n. freed (slot_history (slot_of_id s.id) w.turns) < n) is below) full_for_look f.0 f.1)
  has_reason (Msgsnd id mtype flags text) (OnReleased goal s) holds short f below =
      let now = short below in (
        subst (λ (t : List ℕ). HasTooFewBlocks w (length t)) holds.text now.0,
        subst (λ i. IsToBeWoken w i call.cred) holds.id (subst (IsToBeWoken w s.id) holds.cred now.1),
      )
  has_reason (Msgget key flags) (OnSettled goal get) holds short (told, is, f) below =
      subst (IsBeingChanged w) (ap (λ (g : Getting). g.key) holds.is)
      (being_changed laws w legal tended good order call.who get told
      (subst (λ n. settled (registry_history w.turns) < n) is below) f)
  has_reason asked wait holds short f below = elim wait [ ]

pub parked_rightly : EachObeys → (w : World) → AreLegal w.generation w.blocks w.turns →
    ((place : ℕ) (d : Doing) → slice_get w.actors place ≡ Some (Some d) →
    Plays (begun d.call) (ops_of d.call.who w.turns) d.state) →
    NoMatchStays → FullStays → FullStaysForLook → CountsNeverFall → EachWaitsForItsRefusal → EachHoldsWhatItWasAsked →
    AreTended w → AreRemovedForGood w.turns → SettledOnceInstalled w.turns → AreShort w → AreToBeWoken w →
    AreParkedRightly w
parked_rightly laws w legal plays no_match full full_for_look counts refused holds tended good order short woken place d
    wait
    p =
    let played : Plays (begun d.call) (ops_of d.call.who w.turns) (Waits wait) =
    subst (Plays (begun d.call) (ops_of d.call.who w.turns)) p.waits (plays place d p.there) in
    has_reason laws w legal no_match full full_for_look counts tended good order d.call d.call.asked wait
    (holds d.call.cred d.call.asked d.call.released (ops_of d.call.who w.turns) (Waits wait) played)
    (short_of w wait (subst (IsShortBelow w.blocks (pool_history w.turns)) p.waits (short place d p.there))
    (subst (IsToBeWokenBelow w) p.waits (woken place d p.there)))
    (refused d.call.cred d.call.asked d.call.released (ops_of d.call.who w.turns) wait played) p.below
