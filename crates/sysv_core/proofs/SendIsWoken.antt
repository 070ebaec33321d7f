-- The queue of a send that waits for blocks is live and may be written to, or a set or a removal of
-- it is still before its giveback, which ends the wait because the pool takes back every chain.
use Rattle.std.proofs.Common.{◌≡◌, ◌≢◌, ◌⊎◌, inl, inr, ℕ, suc, ℤ, pos, ◌+◌, ◌<◌, ◌≤◌, Bool, true, false, cond, List, []}
use Rattle.std.proofs.Common.{◌∷◌, ◌++◌, Option, None, Some, refl, sym, ap, subst, ◌∙◌, arith, length, slice_get}
use Rattle.std.proofs.Common.{slice_set, option_map}
use Rattle.std.proofs.Math.Dec.{eqb}
use Rattle.std.proofs.lemmas.Bool.{eqb-true, cases_Bool, cases_eq}
use Rattle.std.proofs.lemmas.Bool.Decides.{Decides-int_eq}
use Rattle.std.specs.Ordering.{int_eq}
use Rattle.std.proofs.lemmas.List.Elements.{All-contains, Contains-append_right}
use Rattle.std.specs.List.{All}
use Rattle.sysv_model.specs.declared.attributes.Attributes.{Attributes}
use Rattle.sysv_model.specs.declared.cred.Cred.{Cred}
use Rattle.sysv_model.specs.declared.errno.Errno.{Errno}
use Rattle.sysv_model.specs.declared.errno.Errno.TheVariants.{EINVAL}
use Rattle.sysv_model.specs.declared.limits.TheConstants.{IPC_PRIVATE}
use Rattle.sysv_model.specs.History.{Who, Call, Install, Look, Place, Take, Set, Remove, Reply, Installed, Full, Fits}
use Rattle.sysv_model.specs.History.{Accepted, Taken, Done, Discarded}
use Rattle.sysv_model.specs.Live.{live, live_after, HasId}
use Rattle.sysv_model.specs.Registry.{Changed}
use Rattle.sysv_model.specs.Pool.{PoolCall, PoolReply, Released, Foreign, PoolEntry, released}
use Rattle.sysv_model.specs.Turn.{Ask, OfRegistry, OfPool, Op, AtSlot, AtRegistry, AtPool, asked_by, Turn, pool_entry}
use Rattle.sysv_model.specs.Turn.{slot_history}
use Rattle.sysv_model.specs.Turn.{pool_history}
use Rattle.sysv_queue.specs.Granted.{MayWrite}
use Rattle.sysv_queue.specs.Slot.{Slot, slot_of}
use Rattle.sysv_queue.specs.LegalReply.{Legal, IsLegalReply, IsLegalHistory}
use Rattle.sysv_keys.specs.Identifier.{slot_of_id}
use Rattle.sysv_objects.specs.LegalOp.{IsLegalOp}
use Rattle.sysv_steps.specs.Call.{Kind, Sends, kind_of}
use Rattle.sysv_steps.specs.Call.{SystemCall, Msgget, Msgsnd, Msgrcv, MsgctlStat, MsgctlSet, MsgctlRmid}
use Rattle.sysv_steps.specs.State.{AtInstall, AtStat, AtTake}
use Rattle.sysv_steps.specs.State.{Sending, Ending, Wait, OnSettled, OnReleased, Phase, AtLook, AtReserve, AtSet}
use Rattle.sysv_steps.specs.State.{AtSetGiveback, AtRemove, AtForget, AtRemoveGiveback, State, Goes, Waits, Over}
use Rattle.sysv_steps.specs.State.{Refused}
use Rattle.sysv_steps.specs.Begin.{is_refused, first}
use Rattle.sysv_steps.specs.Asks.{asks}
use Rattle.sysv_steps.specs.Next.{waits_or, goes_on, next}
use Rattle.sysv_steps.specs.Resume.{resume, awaited}
use Rattle.sysv_steps.specs.HoldsAsked.{PhaseHolds, Holds}
use Rattle.sysv_core.specs.World.{World, Opening, Invocation, Doing, Response, opening, doing_in, starting, begun}
use Rattle.sysv_core.specs.World.{value_of}
use Rattle.sysv_core.specs.World.{preset_who, preset_cred, preset_flags, preset_begin, preset_install, preset_settle}
use Rattle.sysv_core.specs.World.{with_preset_turns}
use Rattle.sysv_core.specs.Sound.{IsSound}
use Rattle.sysv_core.specs.Parked.{IsOpenTo, HasToGiveBack, IsToBeWoken}
use Rattle.sysv_core.proofs.Lists.{get_set_same, get_set_other, none_busy}
use Rattle.sysv_core.proofs.Histories.{turn_of, pool_more, pool_on, live_by, live_turn, begun_turns, installed_turns}
use Rattle.sysv_core.proofs.Histories.{preset_slot, preset_pool, released_more}
use Rattle.sysv_core.proofs.SoundStays.{moved, other, does}
use Rattle.sysv_core.proofs.TurnInHistory.{slot_around}
use Rattle.sysv_core.proofs.Told.{told, told_is}
use Rattle.sysv_core.proofs.Lifetime.{not_both, one_id, IsLegalAtSlot, legal_at_slot}
use Rattle.sysv_core.proofs.WaitsForBlocks.{read_by, IsRight, AreRight, IsShort, AllRight, Comes, followed, move_right}
use Rattle.sysv_core.proofs.Moves.{Move, stood, began, turned, awoke, preset_made}

some_is : {X : Type 0} {x y : X} → Some x ≡ Some y → y ≡ x
some_is e = cc

-- ---- a turn at a slot

keeps : (id : ℤ) (cred : Cred) (f : Attributes → Attributes) → ((a : Attributes) → (f a).id ≡ a.id) →
    ((a : Attributes) → MayWrite cred (Some a) → MayWrite cred (Some (f a))) → (l : Option Attributes) →
    HasId l id → MayWrite cred l → HasId (option_map f l) id × MayWrite cred (option_map f l)
keeps id cred f same still None lives may = absurd lives
keeps id cred f same still (Some a) lives may = (same a ∙ lives, still a may)

-- The turn sets the queue or removes it.
abbrev changes : ℤ → Call → Reply → Bool
changes id (Set at cred to now) Done = int_eq at id
changes id (Remove at cred) (Discarded messages) = int_eq at id
changes id call reply = false

abbrev changed : ℤ → Op → Bool
changed id (AtSlot slot call reply) = changes id call reply
changed id op = false

abbrev Open : Option Attributes → ℤ → Cred → Type 0
Open l id cred = HasId l id × MayWrite cred l

open_on : (s : Slot) (id : ℤ) (by : Cred) (call : Call) (reply : Reply) → Legal s call reply → HasId s.live id →
    MayWrite by s.live → changes id call reply ≡ false → Open (live_after s.live call reply) id by
open_on s id by (Install at key cred mode now) (Installed true) l lives may kept =
    absurd (subst (λ a. HasId a id) l lives)
open_on s id by (Place at cred mtype bytes now) (Accepted number) l lives may kept =
    keeps id by _ (λ a. refl) (λ a m. m) s.live lives may
open_on s id by (Take at cred selector size noerror now) (Taken m) l lives may kept =
    keeps id by _ (λ a. refl) (λ a q. q) s.live lives may
open_on s id by (Set at cred to now) Done l lives may kept =
    not_both (int_eq at id) ((Decides-int_eq at id).1 (one_id s.live at id l.0 lives)) kept
open_on s id by (Remove at cred) (Discarded messages) l lives may kept =
    not_both (int_eq at id) ((Decides-int_eq at id).1 (one_id s.live at id l.0 lives)) kept
open_on s id by call reply l lives may kept = (lives, may)

open_then : (turns : List Turn) (op : Op) (id : ℤ) (by : Cred) → IsLegalAtSlot turns op →
    changed id op ≡ false → IsOpenTo (slot_history (slot_of_id id) turns) id by →
    Open (live_by (slot_of_id id) op (live (slot_history (slot_of_id id) turns))) id by
open_then turns (AtSlot slot c reply) id by legal kept o =
    by_slot (eqb slot (slot_of_id id)) (λ e. eqb-true slot (slot_of_id id) e)
  where
    by_slot : (b : Bool) → (b ≡ true → slot ≡ slot_of_id id) →
        Open (cond b (live_after (live (slot_history (slot_of_id id) turns)) c reply)
        (live (slot_history (slot_of_id id) turns))) id by
    by_slot true here = open_on (slot_of (slot_history (slot_of_id id) turns)) id by c reply
        (subst (λ n. Legal (slot_of (slot_history n turns)) c reply) (here refl) legal) o.lives o.may_write kept
    by_slot false here = (o.lives, o.may_write)
open_then turns (AtRegistry c reply) id by legal kept o = (o.lives, o.may_write)
open_then turns (AtPool c reply) id by legal kept o = (o.lives, o.may_write)

open_past : (turns : List Turn) (who : Who) (op : Op) (id : ℤ) (by : Cred) → IsLegalAtSlot turns op →
    changed id op ≡ false → IsOpenTo (slot_history (slot_of_id id) turns) id by →
    IsOpenTo (slot_history (slot_of_id id) (turns ++ turn_of who op ∷ [])) id by
open_past turns who op id by legal kept o =
    let on = subst (λ l. Open l id by) (sym (live_turn (slot_of_id id) turns who op))
    (open_then turns op id by legal kept o) in
    record { lives = on.0; may_write = on.1 }

-- ---- who has still to give back

-- Only a turn at a slot changes a queue.
abbrev is_at_slot : Op → Bool
is_at_slot (AtSlot slot c reply) = true
is_at_slot op = false

elsewhere : (id : ℤ) (ask : Ask) (op : Op) → is_at_slot op ≡ false → changed id (told ask op) ≡ false
elsewhere id (OfRegistry call) (AtRegistry c reply) e = refl
elsewhere id (OfPool call) (AtPool c reply) e = refl
elsewhere id ask (AtSlot slot c reply) e = absurd cc
elsewhere id ask op e = refl

change_goes : (id : ℤ) (cred : Cred) (asked : SystemCall) (phase : Phase (kind_of asked)) (now : ℕ) (op : Op)
    (state : State (kind_of asked)) → PhaseHolds cred asked phase →
    next phase (told (asks phase now) op) ≡ Some state →
    changed id (told (asks phase now) op) ≡ true → HasToGiveBack asked state id
change_goes id cred (MsgctlSet is to) (AtSet by at what) now (AtSlot slot c Done) state own n ch =
    subst (λ t. HasToGiveBack (MsgctlSet is to) t id) (sym (some_is n)) (sym own.1 ∙ (Decides-int_eq at id).0 ch)
change_goes id cred (MsgctlRmid is) (AtRemove by at) now (AtSlot slot c (Discarded messages)) state own n ch =
    subst (λ t. HasToGiveBack (MsgctlRmid is) t id) (sym (some_is n)) (sym own.1 ∙ (Decides-int_eq at id).0 ch)
change_goes id cred (Msgget key flags) (AtInstall get made) now (AtSlot slot c reply) state own n ch = absurd cc
change_goes id cred (Msgsnd at mtype flags text) (AtLook send) now (AtSlot slot c reply) state own n ch = absurd cc
change_goes id cred (Msgrcv at size mtype flags) (AtTake receive) now (AtSlot slot c reply) state own n ch = absurd cc
change_goes id cred (MsgctlStat at) (AtStat by of) now (AtSlot slot c reply) state own n ch = absurd cc
change_goes id cred asked phase now (AtSlot slot c reply) state own n ch = absurd cc
change_goes id cred asked phase now (AtRegistry c reply) state own n ch =
    not_both _ ch (elsewhere id (asks phase now) (AtRegistry c reply) refl)
change_goes id cred asked phase now (AtPool c reply) state own n ch =
    not_both _ ch (elsewhere id (asks phase now) (AtPool c reply) refl)

abbrev AtPoolWith : PoolReply → Op → Type 0
AtPoolWith reply op = (call : PoolCall) × (op ≡ AtPool call reply)

giver_goes : (asked : SystemCall) (phase : Phase (kind_of asked)) (op : Op) (state : State (kind_of asked)) (id : ℤ) →
    HasToGiveBack asked (Goes phase) id → next phase op ≡ Some state →
    HasToGiveBack asked state id ⊎ AtPoolWith Released op ⊎ AtPoolWith Foreign op
giver_goes (MsgctlSet at to) AtSetGiveback (AtPool c Released) state id p n = inr (inl (c, refl))
giver_goes (MsgctlSet at to) AtSetGiveback (AtPool c Foreign) state id p n = inr (inr (c, refl))
giver_goes (MsgctlSet at to) AtSetGiveback op state id p n = absurd cc
giver_goes (MsgctlRmid at) (AtForget removed blocks) (AtRegistry c (Changed done)) state id p n =
    inl (subst (λ t. HasToGiveBack (MsgctlRmid at) t id) (sym (some_is n)) p)
giver_goes (MsgctlRmid at) (AtForget removed blocks) op state id p n = absurd cc
giver_goes (MsgctlRmid at) (AtRemoveGiveback blocks) (AtPool c Released) state id p n = inr (inl (c, refl))
giver_goes (MsgctlRmid at) (AtRemoveGiveback blocks) (AtPool c Foreign) state id p n = inr (inr (c, refl))
giver_goes (MsgctlRmid at) (AtRemoveGiveback blocks) op state id p n = absurd cc
giver_goes asked phase op state id p n = absurd p

-- Some actor's call still has to release a chain.
pub record SomeGive (id : ℤ) (actors : List (Option Doing)) : Type 0 where
  pub place : ℕ
  pub doing : Doing
  pub there : slice_get actors place ≡ Some (Some doing)
  pub gives : HasToGiveBack doing.call.asked doing.state id

still_give : (id : ℤ) (actors : List (Option Doing)) (place : ℕ) (was new : Option Doing) →
    slice_get actors place ≡ Some was → SomeGive id actors →
    ((d : Doing) × (was ≡ Some d) × HasToGiveBack d.call.asked d.state id) ⊎ SomeGive id (slice_set actors place new)
still_give id actors place was new there s = elim (cases_eq place s.place) [
  | inl same ↦
      let at : Some was ≡ Some (Some s.doing) = sym there ∙ (ap (slice_get actors) same ∙ s.there) in
      inl (s.doing, sym (some_is at), s.gives)
  | inr apart ↦ inr record {
    place = s.place;
    doing = s.doing;
    there = get_set_other actors place s.place new apart ∙ s.there;
    gives = s.gives;
  }
]

gives_now : (id : ℤ) (actors : List (Option Doing)) (place : ℕ) (was : Option Doing) (call : Invocation)
    (state : State (kind_of call.asked)) →
    slice_get actors place ≡ Some was → HasToGiveBack call.asked state id →
    SomeGive id (slice_set actors place (doing_in call state))
gives_now id actors place was call state there p = record {
  place = place;
  doing = record { call = call; state = state };
  there = get_set_same actors place (doing_in call state) was there ∙ ap (λ x. Some x) (pending state p);
  gives = p;
}
  where
    never : (asked : SystemCall) (ending : Ending) → HasToGiveBack asked (Over ending) id → ⊥
    never (MsgctlSet at to) ending q = q
    never asked ending q = q

    pending : (st : State (kind_of call.asked)) → HasToGiveBack call.asked st id →
        doing_in call st ≡ Some record { call = call; state = st }
    pending (Goes phase) q = refl
    pending (Waits wait) q = refl
    pending (Over ending) q = absurd (never call.asked ending q)

-- ---- why a send that reserves may wait

abbrev Woken : List Turn → List (Option Doing) → Sending → Type 0
Woken turns actors s =
    IsOpenTo (slot_history (slot_of_id s.id) turns) s.id s.cred
    ⊎ SomeGive s.id actors ⊎ (s.released < released (pool_history turns))

abbrev IsWoken : {kind : Kind} → List Turn → List (Option Doing) → State kind → Type 0
IsWoken turns actors (Goes (AtReserve s)) = Woken turns actors s
IsWoken turns actors (Waits (OnReleased goal s)) = Woken turns actors s
IsWoken turns actors state = Unit {0}

-- What holds of each send that reserves, or waits for blocks, holds of each call.
each_woken : {kind : Kind} (turns more : List Turn) (actors then : List (Option Doing)) (st : State kind) →
    ((s : Sending) → read_by st ≡ s.released → Woken turns actors s → Woken more then s) →
    IsWoken turns actors st → IsWoken more then st
each_woken turns more actors then (Goes (AtReserve s)) f k = f s refl k
each_woken turns more actors then (Waits (OnReleased goal s)) f k = f s refl k
each_woken turns more actors then st f k = tt

-- A turn at the pool that takes back a chain ends each wait.
after_giving : (turns : List Turn) (who : Who) (op : Op) (n : ℕ) → n ≤ released (pool_history turns) →
    AtPoolWith Released op → n < released (pool_history (turns ++ turn_of who op ∷ []))
after_giving turns who op n read (c, is) =
    let e : PoolEntry = record { who = who; call = c; reply = Released } in
    let more : pool_history (turns ++ turn_of who op ∷ []) ≡ pool_history turns ++ e ∷ [] =
    pool_more turns (turn_of who op) ∙ ap (λ d. pool_history turns ++ pool_entry who d) is in
    subst (λ h. n < released h) (sym more) (omega (arith, read, released_more (pool_history turns) e))

-- No turn undoes that.
pool_part : (turns : List Turn) (who : Who) (op : Op) (n : ℕ) → n < released (pool_history turns) →
    n < released (pool_history (turns ++ turn_of who op ∷ []))
pool_part turns who op n since = pool_on (λ h. n < released h) turns who op since
    (λ e. omega (arith, since, released_more (pool_history turns) e))

-- No chain is refused.
never_foreign : (turns : List Turn) (who : Who) (op : Op) →
    All (λ (e : PoolEntry). e.reply ≢ Foreign) (pool_history (turns ++ turn_of who op ∷ [])) →
    AtPoolWith Foreign op → ⊥
never_foreign turns who op all (c, is) =
    let e : PoolEntry = record { who = who; call = c; reply = Foreign } in
    let more : pool_history (turns ++ turn_of who op ∷ []) ≡ pool_history turns ++ e ∷ [] =
    pool_more turns (turn_of who op) ∙ ap (λ d. pool_history turns ++ pool_entry who d) is in
    All-contains (λ (x : PoolEntry). x.reply ≢ Foreign) (pool_history turns ++ e ∷ []) e
    (subst (All (λ (x : PoolEntry). x.reply ≢ Foreign)) more all)
    (Contains-append_right (pool_history turns) (e ∷ []) e (0, omega arith, refl)) refl

abbrev AreWoken : List Turn → List (Option Doing) → Type 0
AreWoken turns actors =
    (place : ℕ) (d : Doing) → slice_get actors place ≡ Some (Some d) → IsWoken turns actors d.state

-- A send that comes to a reserve found its queue open at its look.
not_full : (b : Bool) (wait : Wait Sends) (why : Errno) (t : Sending) →
    Some (goes_on (waits_or b wait why)) ≡ Some (Goes (AtReserve t)) → ⊥
not_full true wait why t e = cc
not_full false wait why t e = cc

looked : (generation blocks : ℕ) (turns : List Turn) (now : ℕ) (s t : Sending) (op : Op) →
    asked_by op ≡ asks (AtLook s) now → IsLegalOp generation blocks turns op →
    next (AtLook s) op ≡ Some (Goes (AtReserve t)) → IsOpenTo (slot_history (slot_of_id s.id) turns) s.id s.cred
looked generation blocks turns now s t (AtSlot slot c Fits) a l n =
    let here : slot ≡ slot_of_id s.id = cc in
    let it : c ≡ Look s.id s.cred (length s.text) = cc in
    let open_ = subst (λ x. IsLegalReply (slot_history (slot_of_id s.id) turns) x Fits) it
    (subst (λ x. IsLegalReply (slot_history x turns) c Fits) here l) in
    record { lives = open_.0; may_write = open_.1 }
looked generation blocks turns now s t (AtSlot slot c (Full freed)) a l n = absurd (not_full s.nowait _ _ t n)
looked generation blocks turns now s t op a l n = absurd cc

-- The call that makes the turn.
own_woken : {kind : Kind} (generation blocks : ℕ) (turns later : List Turn) (actors then : List (Option Doing))
    (phase : Phase kind) (now : ℕ) (op : Op) (state : State kind) → asked_by op ≡ asks phase now →
    IsLegalOp generation blocks turns op → next phase op ≡ Some state →
    ((s : Sending) → s.released ≤ released (pool_history turns) → Woken turns actors s → Woken later then s) →
    IsRight blocks (pool_history turns) (Goes phase) → IsWoken turns actors (Goes phase) → Comes phase state →
    IsWoken later then state
own_woken g blocks turns later actors then (AtLook s) now op (Goes (AtReserve t)) asked legal goes on r k is =
    subst (Woken later then) (sym is)
    (on (record s { seen = true }) r.read (inl (looked g blocks turns now s t op asked legal goes)))
own_woken g blocks turns later actors then (AtReserve s) now op (Waits (OnReleased goal t)) asked legal goes on r k is =
    subst (Woken later then) is (on s r.read k)
own_woken g blocks turns later actors then phase now op (Goes (AtReserve t)) asked legal goes on r k is = absurd is
own_woken g blocks turns later actors then phase now op (Waits (OnReleased goal t)) asked legal goes on r k is =
    absurd is
own_woken g blocks turns later actors then phase now op state asked legal goes on r k is = tt

module _ (generation blocks : ℕ) (turns : List Turn) (actors : List (Option Doing)) (place : ℕ) (call : Invocation)
    (phase : Phase (kind_of call.asked))
    (there : slice_get actors place ≡ Some (Some record { call = call; state = Goes phase })) (now : ℕ)
    (op : Op) (state : State (kind_of call.asked))
    (asked : asked_by op ≡ asks phase now) (legal : IsLegalOp generation blocks turns op)
    (goes : next phase op ≡ Some state) (own : PhaseHolds call.cred call.asked phase)
    (back : AtPoolWith Foreign op → ⊥) where
  abbrev was : Option Doing
  was = Some record { call = call; state = Goes phase }

  abbrev moved_actors : List (Option Doing)
  moved_actors = slice_set actors place (doing_in call state)

  abbrev later : List Turn
  later = turns ++ turn_of call.who op ∷ []

  mover_gives : (id : ℤ) → ((d : Doing) × (was ≡ Some d) × HasToGiveBack d.call.asked d.state id) →
      HasToGiveBack call.asked (Goes phase) id
  mover_gives id (d, is, p) =
      let same : d ≡ record { call = call; state = Goes phase } = some_is is in
      subst (λ (x : Doing). HasToGiveBack x.call.asked x.state id) same p

  open_still : (id : ℤ) (by : Cred) → IsOpenTo (slot_history (slot_of_id id) turns) id by →
      IsOpenTo (slot_history (slot_of_id id) later) id by ⊎ SomeGive id moved_actors
  open_still id by o = elim (cases_Bool (changed id op)) [
    | inr kept ↦ inl (open_past turns call.who op id by (legal_at_slot generation blocks turns op legal) kept o)
    | inl ch ↦
        let is = told_is (asks phase now) op asked in
        inr (gives_now id actors place was call state there
        (change_goes id call.cred call.asked phase now op state own (ap (next phase) is ∙ goes)
        (ap (changed id) is ∙ ch)))
  ]

  woken_on : (s : Sending) → s.released ≤ released (pool_history turns) → Woken turns actors s →
      Woken later moved_actors s
  woken_on s read (inl o) = elim (open_still s.id s.cred o) [
    | inl on ↦ inl on
    | inr g ↦ inr (inl g)
  ]
  woken_on s read (inr (inl g)) = elim (still_give s.id actors place was (doing_in call state) there g) [
    | inr on ↦ inr (inl on)
    | inl m ↦ elim (giver_goes call.asked phase op state s.id (mover_gives s.id m) goes) [
      | inl p ↦ inr (inl (gives_now s.id actors place was call state there p))
      | inr (inl gave) ↦ inr (inr (after_giving turns call.who op s.released read gave))
      | inr (inr refused) ↦ absurd (back refused)
    ]
  ]
  woken_on s read (inr (inr p)) = inr (inr (pool_part turns call.who op s.released p))

  -- Another call.
  still_woken : {kind : Kind} (st : State kind) → IsRight blocks (pool_history turns) st → IsWoken turns actors st →
      IsWoken later moved_actors st
  still_woken st r k = each_woken turns later actors moved_actors st
      (λ s is. woken_on s (subst (λ n. n ≤ released (pool_history turns)) is r.read)) k

  turn_woken : AreRight blocks turns actors → AreWoken turns actors → AreWoken later moved_actors
  turn_woken right woken = λ at e here.
      let d : Doing = record { call = call; state = Goes phase } in
      let r = right place d there in
      let f = followed generation blocks turns phase now op state r.short asked legal goes in
      elim (does actors place was call state at e there here) [
        | moved same is ↦
            subst (λ (x : Doing). IsWoken later moved_actors x.state) (sym is)
            (own_woken generation blocks turns later actors moved_actors phase now op state asked legal goes woken_on r
            (woken place d there) f.comes)
        | other old ↦ still_woken e.state (right at e old) (woken at e old)
      ]

-- ---- every actor

-- A call that continues without a turn, or that starts.
stand_woken : (turns : List Turn) (actors : List (Option Doing)) (place : ℕ) (was : Option Doing) (call : Invocation)
    (state : State (kind_of call.asked)) → slice_get actors place ≡ Some was →
    ((d : Doing) (id : ℤ) → was ≡ Some d → HasToGiveBack d.call.asked d.state id → ⊥) →
    IsWoken turns (slice_set actors place (doing_in call state)) state → AreWoken turns actors →
    AreWoken turns (slice_set actors place (doing_in call state))
stand_woken turns actors place was call state there none own woken = λ at e here.
    elim (does actors place was call state at e there here) [
      | moved same is ↦
          subst (λ (x : Doing). IsWoken turns (slice_set actors place (doing_in call state)) x.state) (sym is) own
      | other old ↦ each_woken turns turns actors (slice_set actors place (doing_in call state)) e.state
          (λ s is. still s) (woken at e old)
    ]
  where
    still : (s : Sending) → Woken turns actors s → Woken turns (slice_set actors place (doing_in call state)) s
    still s (inl o) = inl o
    still s (inr (inl g)) = elim (still_give s.id actors place was (doing_in call state) there g) [
      | inr on ↦ inr (inl on)
      | inl m ↦ absurd (none m.0 s.id m.1 m.2)
    ]
    still s (inr (inr p)) = inr (inr p)

waits_gives : (asked : SystemCall) (wait : Wait (kind_of asked)) (id : ℤ) → HasToGiveBack asked (Waits wait) id → ⊥
waits_gives (MsgctlSet at to) wait id q = q
waits_gives asked wait id q = q

resumed_woken : {kind : Kind} (wait : Wait kind) (value : ℕ) (turns : List Turn) (actors : List (Option Doing)) →
    IsWoken turns actors (Goes (resume wait value))
resumed_woken (OnSettled goal get) value turns actors = tt
resumed_woken wait value turns actors = tt

begun_woken : (cred : Cred) (asked : SystemCall) (n : ℕ) (b : Bool) (turns : List Turn) (actors : List (Option Doing)) →
    IsWoken turns actors (cond b (Over (Refused EINVAL)) (Goes (first cred asked n)))
begun_woken cred asked n true turns actors = tt
begun_woken cred (Msgget key flags) n false turns actors = tt
begun_woken cred asked n false turns actors = tt

-- ---- what happens

-- The three turns of a preset leave each queue open that was open.
preset_open : (turns : List Turn) → IsLegalHistory (slot_history 0 (with_preset_turns turns)) → (id : ℤ) (by : Cred) →
    IsOpenTo (slot_history (slot_of_id id) turns) id by →
    IsOpenTo (slot_history (slot_of_id id) (with_preset_turns turns)) id by
preset_open turns legal id by o =
    open_past (installed_turns turns) preset_who preset_settle id by tt refl
    (open_past (begun_turns turns) preset_who preset_install id by install_legal refl
    (open_past turns preset_who preset_begin id by tt refl o))
  where
    install_legal : IsLegalAtSlot (begun_turns turns) preset_install
    install_legal =
        legal (slot_history 0 (begun_turns turns)) (record {
          who = preset_who;
          call = Install (pos 0) IPC_PRIVATE preset_cred preset_flags.0 0;
          reply = Installed true;
        }) []
        (preset_slot 0 turns
        ∙ slot_around 0 (begun_turns turns) [] preset_who (Install (pos 0) IPC_PRIVATE preset_cred preset_flags.0 0)
        (Installed true))

preset_still : {kind : Kind} (turns : List Turn) (actors : List (Option Doing)) →
    IsLegalHistory (slot_history 0 (with_preset_turns turns)) → (st : State kind) → IsWoken turns actors st →
    IsWoken (with_preset_turns turns) actors st
preset_still turns actors legal st k = each_woken turns (with_preset_turns turns) actors actors st (λ s is. still s) k
  where
    still : (s : Sending) → Woken turns actors s → Woken (with_preset_turns turns) actors s
    still s (inl o) = inl (preset_open turns legal s.id s.cred o)
    still s (inr (inl g)) = inr (inl g)
    still s (inr (inr p)) = inr (inr (subst (λ h. s.released < released h) (sym (preset_pool turns)) p))

-- Each call holds what it was asked.
abbrev pub AllHold : World → Type 0
AllHold w = (place : ℕ) (d : Doing) → slice_get w.actors place ≡ Some (Some d) → Holds d.call.cred d.call.asked d.state

pub record AllWoken (w : World) : Type 0 where
  pub right : AllRight w
  pub woken : AreWoken w.turns w.actors

pub move_woken : (w after : World) (responses : List Response) → AllHold w → AllWoken w → IsSound after →
    Move w responses after →
    AllWoken after
move_woken w after responses holds k sound m =
    record { right = move_right w after responses k.right m; woken = then m }
  where
    then : Move w responses after → AreWoken after.turns after.actors
    then (stood t) = subst (λ (v : World). AreWoken v.turns v.actors) (sym t.1) k.woken
    then (began place cred asked there t) =
        let call = starting w (suc place) cred asked in
        subst (λ (v : World). AreWoken v.turns v.actors) (sym t.1)
        (stand_woken w.turns w.actors place None call (begun call) there (λ d id e. absurd cc)
        (begun_woken cred asked call.released (is_refused asked) w.turns _) k.woken)
    then (turned place now call phase there t) =
        let hold = holds place (record { call = call; state = Goes phase }) there in
        subst (λ (v : World). AreWoken v.turns v.actors) (sym t.6)
        (turn_woken w.generation w.blocks w.turns w.actors place call phase there now t.0 t.1 t.2 t.3 t.4
        hold
        (never_foreign w.turns call.who t.0 (subst IsSound t.6 sound).blocks.taken_back) k.right k.woken)
    then (awoke place call wait there reached gave is) =
        let value = value_of w.turns (awaited wait) in
        subst (λ (v : World). AreWoken v.turns v.actors) (sym is)
        (stand_woken w.turns w.actors place (Some record { call = call; state = Waits wait }) call
        (Goes (resume wait value)) there
        (λ d id is p.
        let same : d ≡ record { call = call; state = Waits wait } = some_is is in
        waits_gives call.asked wait id (subst (λ (x : Doing). HasToGiveBack x.call.asked x.state id) same p))
        (resumed_woken wait value w.turns _) k.woken)
    then (preset_made unused gave is) =
        subst (λ (v : World). AreWoken v.turns v.actors) (sym is)
        (λ at e here.
        preset_still w.turns w.actors ((subst IsSound is sound).legal.slots 0) e.state (k.woken at e here))

pub opening_woken : (o : Opening) → AllWoken (opening o)
opening_woken o = record {
  right = λ at e here. absurd (none_busy o.actors at here);
  woken = λ at e here. absurd (none_busy o.actors at here);
}

-- ---- who waits for blocks

-- If this is a send that waits for blocks below its goal, it is to be woken.
abbrev pub IsToBeWokenBelow : {kind : Kind} → World → State kind → Type 0
IsToBeWokenBelow w (Waits (OnReleased goal send)) =
    released (pool_history w.turns) < goal → IsToBeWoken w send.id send.cred
IsToBeWokenBelow w state = Unit {0}

-- Each send that waits for blocks below its goal is to be woken.
abbrev pub AreToBeWoken : World → Type 0
AreToBeWoken w = (place : ℕ) (d : Doing) → slice_get w.actors place ≡ Some (Some d) → IsToBeWokenBelow w d.state

to_be_woken : (w : World) (goal : ℕ) (send : Sending) → released (pool_history w.turns) < goal →
    goal ≡ send.released + 1 → Woken w.turns w.actors send → IsToBeWoken w send.id send.cred
to_be_woken w goal send below is (inl o) = inl o
to_be_woken w goal send below is (inr (inl g)) =
    inr (record { place = g.place; doing = g.doing; there = g.there; gives = g.gives })
to_be_woken w goal send below is (inr (inr since)) = absurd (omega (arith, below, is, since))

woken_below : {kind : Kind} (w : World) (state : State kind) → IsShort w.blocks (pool_history w.turns) state →
    IsWoken w.turns w.actors state → IsToBeWokenBelow w state
woken_below w (Waits (OnReleased goal send)) s k = λ below. to_be_woken w goal send below s.0 k
woken_below w state s k = tt

pub are_to_be_woken : (w : World) → AllWoken w → AreToBeWoken w
are_to_be_woken w k = λ place d there. woken_below w d.state (k.right place d there).short (k.woken place d there)
