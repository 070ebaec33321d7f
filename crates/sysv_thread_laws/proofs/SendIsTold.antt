-- A send of an execution that waits for blocks on a queue that is closed to it will be told: a set or
-- a removal of the queue is still before its giveback.
use Rattle.std.proofs.Common.{◌≡◌, ◌≢◌, ◌⊎◌, ◌<◌, ◌≤◌, ◌+◌, inl, inr, ℕ, ℤ, Bool, true, false, cond}
use Rattle.std.proofs.Common.{List, [], ◌∷◌, ◌++◌, length, Option, None, Some, option_map, refl, sym, ap, subst, ◌∙◌}
use Rattle.std.proofs.Common.{arith, append_assoc, slice_get}
use Rattle.std.specs.List.{All, Contains, list_any}
use Rattle.std.proofs.Math.Dec.{eqb}
use Rattle.std.proofs.lemmas.Bool.Decides.{nat_tests}
use Rattle.std.proofs.lemmas.Grind.{flat_map-append}
use Rattle.std.proofs.lemmas.List.{append-nil}
use Rattle.std.proofs.lemmas.List.Elements.{All-contains}
use Rattle.std.proofs.lemmas.List.Folds.{list_any-append}
use Rattle.std.proofs.lemmas.Bool.{or_left, or_right, cases_eq}
use Rattle.sysv_model.specs.declared.attributes.Attributes.{Attributes}
use Rattle.sysv_model.specs.declared.attributes.SetTo.{SetTo}
use Rattle.sysv_model.specs.declared.cred.Cred.{Cred}
use Rattle.sysv_model.specs.declared.errno.Errno.{Errno}
use Rattle.sysv_model.specs.declared.errno.Errno.TheVariants.{EINVAL}
use Rattle.sysv_model.specs.declared.flags.Flags.{Flags}
use Rattle.sysv_model.specs.Message.{Message}
use Rattle.sysv_model.specs.History.{Who, Call, Install, Look, Place, Take, Set, Remove, Reply, Installed, Full}
use Rattle.sysv_model.specs.History.{Fits, Accepted, Taken, Done, Discarded, Entry, History}
use Rattle.sysv_model.specs.Live.{live, live_after, sent_to, received_from, HasId}
use Rattle.sysv_model.specs.Registry.{Changed}
use Rattle.sysv_model.specs.Pool.{Reserve, Release, PoolReply, TooFew, Released, Foreign, PoolEntry}
use Rattle.sysv_model.specs.Pool.{PoolHistory, frees, released}
use Rattle.sysv_model.specs.Turn.{OfSlot, OfPool, Op, AtSlot, AtRegistry, AtPool, asked_by, Turn, slot_entry}
use Rattle.sysv_model.specs.Turn.{pool_entry, slot_history, pool_history, is_same, ops_of}
use Rattle.sysv_pool.specs.LegalReply.{IsLegalReply as IsLegalPoolReply}
use Rattle.sysv_queue.specs.Blocks.{blocks_of}
use Rattle.sysv_queue.specs.Granted.{MayWrite}
use Rattle.sysv_queue.specs.LegalReply.{IsLegalReply}
use Rattle.sysv_keys.specs.Identifier.{slot_of_id}
use Rattle.sysv_objects.specs.LegalOp.{AreLegal}
use Rattle.sysv_steps.specs.Call.{SystemCall, Msgsnd, MsgctlSet, MsgctlRmid, Kind, Sends, Sets, Removes, kind_of}
use Rattle.sysv_steps.specs.State.{Sending, Wait, OnFreed, OnReleased, Afterwards, IsRefused, WaitsOn, Phase, AtLook}
use Rattle.sysv_steps.specs.State.{AtReserve, AtPlace, AtSendGiveback, AtSet, AtSetGiveback, AtRemove, AtForget}
use Rattle.sysv_steps.specs.State.{AtRemoveGiveback, State, Goes, Waits, Over, Refused}
use Rattle.sysv_steps.specs.Begin.{first}
use Rattle.sysv_steps.specs.Asks.{asks}
use Rattle.sysv_steps.specs.Next.{waits_or, goes_on, next}
use Rattle.sysv_steps.specs.Resume.{resume}
use Rattle.sysv_steps.specs.Played.{Plays, begins, steps, resumes}
use Rattle.sysv_steps.specs.Answers.{is_at_slot}
use Rattle.sysv_steps.specs.AsksFor.{AsksFor, AllAskFor}
use Rattle.sysv_steps.specs.WaitsFor.{WaitsFor}
use Rattle.sysv_core.specs.World.{World, Opening, Invocation, Doing, Response, doing_in, begun}
use Rattle.sysv_core.specs.AnswerLaw.{Outcome, stands_in, AsksAsItWasAsked}
use Rattle.sysv_core.specs.Parked.{HasTooFewBlocks, HasChangeToTell, IsToBeWoken, HasToGiveBack}
use Rattle.sysv_core.proofs.Histories.{turn_of, slot_more, live_more, one, released_more}
use Rattle.sysv_core.proofs.PartsOfOneCall.{same_who, same_itself, at_actor}
use Rattle.sysv_core.proofs.TurnInHistory.{made_at, slot_around}
use Rattle.sysv_core.proofs.WorldsObey.{Inv}
use Rattle.sysv_thread_laws.specs.OnThreads.{IsRowRead, IsMadeOrRead, ObeysOnThreads}
use Rattle.sysv_thread_laws.specs.ParkedOnThreads.{HadReleasedAtSlot}
use Rattle.sysv_thread_laws.proofs.PlayPrefix.{no_nil, last_or_before, all_at, ops_around, has_turn}
use Rattle.sysv_thread_laws.proofs.PoolLater.{later, short_at}

-- ---- the last turns of the send

waits_so : (b : Bool) (goal more : ℕ) (send s : Sending) (why : Errno) →
    Some (goes_on (waits_or b (OnReleased more s) why)) ≡ Some (Waits (OnReleased goal send)) → s ≡ send
waits_so true goal more send s why e = absurd cc
waits_so false goal more send s why e = cc

reserve_phase : (phase : Phase Sends) (now size goal : ℕ) (send : Sending) → OfPool (Reserve size) ≡ asks phase now →
    next phase (AtPool (Reserve size) TooFew) ≡ Some (Waits (OnReleased goal send)) → phase ≡ AtReserve send
reserve_phase (AtReserve s) now size goal send a row = ap AtReserve (waits_so s.nowait goal _ send s _ row)
reserve_phase phase now size goal send a row = absurd cc

module _ (from : State Sends) (goal size : ℕ) (send : Sending) where
  before_reserve : (ops : List Op) (state : State Sends) → Plays from ops state → state ≡ Waits (OnReleased goal send) →
      (front : List Op) → ops ≡ front ++ AtPool (Reserve size) TooFew ∷ [] →
      Plays from front (Goes (AtReserve send))
  before_reserve _ _ begins is front e = absurd (no_nil front (AtPool (Reserve size) TooFew) [] e)
  before_reserve _ _ (resumes {ops} {wait} value play least) is front e = absurd cc
  before_reserve _ _ (steps {ops} {phase} op now after play a row) is front e =
      elim (last_or_before ops op front (AtPool (Reserve size) TooFew) [] e) [
        | inr more ↦ absurd (no_nil more.0 op [] more.2)
        | inl here ↦
            let at = reserve_phase phase now size goal send (ap asked_by here.1 ∙ a)
            (ap (next phase) here.1 ∙ (row ∙ ap (λ s. Some s) is)) in
            subst (λ ds. Plays from ds (Goes (AtReserve send))) (sym here.0)
            (subst (λ p. Plays from ops (Goes p)) at play)
      ]

-- The state is not before a reserve.
abbrev pub Elsewhere : Option (State Sends) → Type 0
Elsewhere (Some (Goes (AtReserve send))) = ⊥
Elsewhere state = Unit {0}

held_up : (afterwards : Afterwards Sends) → Elsewhere (Some (goes_on afterwards))
held_up (IsRefused why) = tt
held_up (WaitsOn wait) = tt

-- The look that found room.
abbrev IsFitting : Phase Sends → Op → Type 0
IsFitting phase op =
    (s : Sending) × (slot : ℕ) × (c : Call) × (phase ≡ AtLook s) × (op ≡ AtSlot slot c Fits)

elsewhere : (phase : Phase Sends) (op : Op) → Elsewhere (next phase op) ⊎ IsFitting phase op
elsewhere (AtLook send) (AtSlot slot c Fits) = inr (send, slot, c, refl, refl)
elsewhere (AtLook send) (AtSlot slot c (Full freed)) = inl (held_up _)
elsewhere (AtPlace send blocks) (AtSlot slot c (Full freed)) = inl tt
elsewhere (AtReserve send) (AtPool c TooFew) = inl (held_up _)
elsewhere (AtSendGiveback blocks afterwards) (AtPool c Released) = inl (held_up afterwards)
elsewhere (AtSendGiveback blocks afterwards) (AtPool c Foreign) = inl (held_up afterwards)
elsewhere phase (AtSlot slot c reply) = inl tt
elsewhere (AtLook send) (AtRegistry c reply) = inl tt
elsewhere phase (AtRegistry c reply) = inl tt
elsewhere phase (AtPool c reply) = inl tt

resumed_elsewhere : (wait : Wait Sends) (value : ℕ) → Elsewhere (Some (Goes (resume wait value)))
resumed_elsewhere (OnFreed goal send) value = tt
resumed_elsewhere (OnReleased goal send) value = tt

abbrev look_of : Sending → Op
look_of send = AtSlot (slot_of_id send.id) (Look send.id send.cred (length send.text)) Fits

is_look : (send s : Sending) (slot : ℕ) (c : Call) (now : ℕ) (after : State Sends) →
    OfSlot slot c ≡ asks (AtLook s) now → next (AtLook s) (AtSlot slot c Fits) ≡ Some after →
    after ≡ Goes (AtReserve send) → AtSlot slot c Fits ≡ look_of send
is_look send s slot c now after a row is =
    let kept : record s { seen = true } ≡ send = cc in
    let there : slot ≡ slot_of_id s.id = cc in
    let call : c ≡ Look s.id s.cred (length s.text) = cc in
    ap (λ n. AtSlot n c Fits) there
    ∙ (ap (λ x. AtSlot (slot_of_id s.id) x Fits) call ∙ ap look_of kept)

module _ (from : State Sends) (start : Elsewhere (Some from)) (send : Sending) where
  after_look : (ops : List Op) (state : State Sends) → Plays from ops state → state ≡ Goes (AtReserve send) →
      (front : List Op) × (ops ≡ front ++ look_of send ∷ [])
  after_look _ _ begins is = absurd (subst Elsewhere (ap (λ s. Some s) is) start)
  after_look _ _ (resumes {ops} {wait} value play least) is =
      absurd (subst Elsewhere (ap (λ s. Some s) is) (resumed_elsewhere wait value))
  after_look _ _ (steps {ops} {phase} op now after play a row) is = elim (elsewhere phase op) [
    | inl far ↦ absurd (subst Elsewhere (row ∙ ap (λ s. Some s) is) far)
    | inr f ↦
        let same = is_look send f.0 f.1 f.2 now after (ap asked_by (sym f.4) ∙ (a ∙ ap (λ p. asks p now) f.3))
        (ap (λ p. next p (AtSlot f.1 f.2 Fits)) (sym f.3) ∙ (ap (next phase) (sym f.4) ∙ row)) is in
        (ops, ap (λ d. ops ++ d ∷ []) (f.4 ∙ same))
  ]

pub begun_elsewhere : (cred : Cred) (id mtype : ℤ) (flags : Flags) (text : List ℕ) (read : ℕ) (b : Bool) →
    Elsewhere (Some (cond b (Over (Refused EINVAL)) (Goes (first cred (Msgsnd id mtype flags text) read))))
begun_elsewhere cred id mtype flags text read true = tt
begun_elsewhere cred id mtype flags text read false = tt

-- ---- a queue stays open, or it is changed

-- A set or a removal of the queue.
abbrev IsChange : ℤ → Op → Type 0
IsChange id op =
    ((slot : ℕ) × (by : Cred) × (to : SetTo) × (now : ℕ) × (op ≡ AtSlot slot (Set id by to now) Done))
    ⊎ ((slot : ℕ) × (by : Cred) × (messages : List Message) × (op ≡ AtSlot slot (Remove id by) (Discarded messages)))

module _ (id : ℤ) (cred : Cred) where
  abbrev IsOpen : Option Attributes → Type 0
  IsOpen o = HasId o id × MayWrite cred o

  sent_open : (by : Cred) (now : ℕ) (o : Option Attributes) → IsOpen o → IsOpen (option_map (sent_to by now) o)
  sent_open by now None opens = absurd opens.0
  sent_open by now (Some a) opens = (opens.0, opens.1)

  received_open : (by : Cred) (now : ℕ) (o : Option Attributes) → IsOpen o →
      IsOpen (option_map (received_from by now) o)
  received_open by now None opens = absurd opens.0
  received_open by now (Some a) opens = (opens.0, opens.1)

  same_id : (x : ℤ) (o : Option Attributes) → HasId o x → HasId o id → x ≡ id
  same_id x None has its = absurd has
  same_id x (Some a) has its = sym has ∙ its

  open_or_changed : (h : History) (slot : ℕ) (call : Call) (reply : Reply) → IsLegalReply h call reply →
      IsOpen (live h) → IsOpen (live_after (live h) call reply) ⊎ IsChange id (AtSlot slot call reply)
  open_or_changed h slot (Install x key by mode now) (Installed true) legal opens =
      absurd (subst (λ o. HasId o id) legal opens.0)
  open_or_changed h slot (Place x by mtype bytes now) (Accepted number) legal opens =
      inl (sent_open by now (live h) opens)
  open_or_changed h slot (Take x by selector size noerror now) (Taken m) legal opens =
      inl (received_open by now (live h) opens)
  open_or_changed h slot (Set x by to now) Done legal opens =
      inr (inl (slot, by, to, now, ap (λ i. AtSlot slot (Set i by to now) Done) (same_id x (live h) legal.0 opens.0)))
  open_or_changed h slot (Remove x by) (Discarded ms) legal opens =
      inr (inr (slot, by, ms, ap (λ i. AtSlot slot (Remove i by) (Discarded ms)) (same_id x (live h) legal.0 opens.0)))
  open_or_changed h slot call reply legal opens = inl opens

  module _ (w : World) (legal : AreLegal w.generation w.blocks w.turns) where
    abbrev slot_of_it : ℕ
    slot_of_it = slot_of_id id

    abbrev OpenAfter : List Turn → Type 0
    OpenAfter turns = IsOpen (live (slot_history slot_of_it turns))

    elsewhere_open : (turns : List Turn) (t : Turn) → slot_entry slot_of_it t.who t.op ≡ [] → OpenAfter turns →
        OpenAfter (turns ++ t ∷ [])
    elsewhere_open turns t none opens =
        subst (λ (h : History). IsOpen (live h))
        (sym (slot_more slot_of_it turns t ∙ (ap (λ es. slot_history slot_of_it turns ++ es) none
        ∙ append-nil (slot_history slot_of_it turns)))) opens

    here_open : (turns rest : List Turn) (who : Who) (call : Call) (reply : Reply) →
        w.turns ≡ turns ++ turn_of who (AtSlot slot_of_it call reply) ∷ rest → OpenAfter turns →
        OpenAfter (turns ++ turn_of who (AtSlot slot_of_it call reply) ∷ [])
        ⊎ IsChange id (AtSlot slot_of_it call reply)
    here_open turns rest who call reply whole opens =
        let h = slot_history slot_of_it turns in
        let e : Entry = record { who = who; call = call; reply = reply } in
        let was = legal.slots slot_of_it h e (slot_history slot_of_it rest)
        (ap (slot_history slot_of_it) whole ∙ slot_around slot_of_it turns rest who call reply) in
        let now : live (slot_history slot_of_it (turns ++ turn_of who (AtSlot slot_of_it call reply) ∷ []))
        ≡ live_after (live h) call reply =
        ap live (slot_around slot_of_it turns [] who call reply) ∙ live_more h e in
        elim (open_or_changed h slot_of_it call reply was opens) [
          | inl still ↦ inl (subst IsOpen (sym now) still)
          | inr change ↦ inr change
        ]

    one_open : (turns rest : List Turn) (who : Who) (op : Op) → w.turns ≡ turns ++ turn_of who op ∷ rest →
        OpenAfter turns → OpenAfter (turns ++ turn_of who op ∷ []) ⊎ IsChange id op
    one_open turns rest who (AtRegistry call reply) whole opens =
        inl (elsewhere_open turns (turn_of who (AtRegistry call reply)) refl opens)
    one_open turns rest who (AtPool call reply) whole opens =
        inl (elsewhere_open turns (turn_of who (AtPool call reply)) refl opens)
    one_open turns rest who (AtSlot at call reply) whole opens = elim (cases_eq at slot_of_it) [
      | inl same ↦
          subst (λ n. OpenAfter (turns ++ turn_of who (AtSlot n call reply) ∷ []) ⊎ IsChange id (AtSlot n call reply))
          (sym same) (here_open turns rest who call reply
          (whole ∙ ap (λ n. turns ++ turn_of who (AtSlot n call reply) ∷ rest) same) opens)
      | inr apart ↦
          let other : eqb at slot_of_it ≡ false = grind (arith, nat_tests, apart) in
          inl (elsewhere_open turns (turn_of who (AtSlot at call reply))
          (ap (λ b. cond b (record { who = who; call = call; reply = reply } ∷ []) []) other) opens)
    ]

    -- The first turn that changed the queue.
    record IsChanged (turns : List Turn) : Type 0 where
      more : List Turn
      who : Who
      op : Op
      rest : List Turn
      whole : w.turns ≡ (turns ++ more) ++ turn_of who op ∷ rest
      change : IsChange id op

    open_still : (turns rest : List Turn) → w.turns ≡ turns ++ rest → OpenAfter turns →
        OpenAfter w.turns ⊎ IsChanged turns
    open_still turns [] whole opens = inl (subst OpenAfter (sym (whole ∙ append-nil turns)) opens)
    open_still turns (t ∷ rest) whole opens = elim (one_open turns rest t.who t.op whole opens) [
      | inr change ↦
          inr record {
            more = [];
            who = t.who;
            op = t.op;
            rest = rest;
            whole = whole ∙ ap (λ ts. ts ++ t ∷ rest) (sym (append-nil turns));
            change = change;
          }
      | inl still ↦
          elim (open_still (turns ++ t ∷ []) rest (whole ∙ sym (append_assoc turns (t ∷ []) rest)) still) [
            | inl open_now ↦ inl open_now
            | inr c ↦
                inr record {
                  more = t ∷ c.more;
                  who = c.who;
                  op = c.op;
                  rest = c.rest;
                  whole = c.whole ∙ ap (λ ts. ts ++ turn_of c.who c.op ∷ c.rest) (append_assoc turns (t ∷ []) c.more);
                  change = c.change;
                }
          ]
    ]

-- ---- a change is told

-- The operation releases a chain.
abbrev releases : Op → Bool
releases (AtPool (Release blocks) reply) = true
releases op = false

releases_it : (op : Op) (blocks : ℕ) → asked_by op ≡ OfPool (Release blocks) → releases op ≡ true
releases_it (AtPool (Release n) reply) blocks a = refl
releases_it (AtPool (Reserve n) reply) blocks a = absurd cc
releases_it (AtSlot slot call reply) blocks a = absurd cc
releases_it (AtRegistry call reply) blocks a = absurd cc

some_before : (rest : List Op) (last : Op) → list_any releases rest ≡ true →
    list_any releases (rest ++ last ∷ []) ≡ true
some_before rest last some =
    list_any-append releases rest (last ∷ [])
    ∙ or_left (list_any releases rest) (list_any releases (last ∷ [])) some

some_last : (rest : List Op) (last : Op) → releases last ≡ true → list_any releases (rest ++ last ∷ []) ≡ true
some_last rest last some =
    list_any-append releases rest (last ∷ [])
    ∙ or_right (list_any releases rest) (list_any releases (last ∷ [])) (or_left (releases last) false some)

-- The state is one after the change, before the giveback.
abbrev IsTelling : (kind : Kind) → State kind → Type 0
IsTelling Sets (Goes AtSetGiveback) = Unit {0}
IsTelling Removes (Goes (AtForget removed blocks)) = Unit {0}
IsTelling Removes (Goes (AtRemoveGiveback blocks)) = Unit {0}
IsTelling kind state = ⊥

telling_goes : (kind : Kind) (state : State kind) → IsTelling kind state → (phase : Phase kind) × (state ≡ Goes phase)
telling_goes kind (Goes phase) telling = (phase, refl)
telling_goes Sets state telling = absurd telling
telling_goes Removes state telling = absurd telling
telling_goes kind state telling = absurd telling

-- The change leads there.
set_leads : {kind : Kind} (slot : ℕ) (id : ℤ) (by : Cred) (to : SetTo) (now stamp : ℕ) (phase : Phase kind)
    (after : State kind) → OfSlot slot (Set id by to stamp) ≡ asks phase now →
    next phase (AtSlot slot (Set id by to stamp) Done) ≡ Some after → IsTelling kind after
set_leads slot id by to now stamp (AtSet c i t) after a row =
    let is : Goes AtSetGiveback ≡ after = cc in subst (IsTelling Sets) is tt
set_leads slot id by to now stamp phase after a row = absurd cc

removal_leads : {kind : Kind} (slot : ℕ) (id : ℤ) (by : Cred) (messages : List Message) (now : ℕ) (phase : Phase kind)
    (after : State kind) → OfSlot slot (Remove id by) ≡ asks phase now →
    next phase (AtSlot slot (Remove id by) (Discarded messages)) ≡ Some after → IsTelling kind after
removal_leads slot id by messages now (AtRemove c i) after a row =
    let is : Goes (AtForget i (blocks_of messages)) ≡ after = cc in subst (IsTelling Removes) is tt
removal_leads slot id by messages now phase after a row = absurd cc

change_leads : {kind : Kind} (id : ℤ) (op : Op) → IsChange id op → (phase : Phase kind) (now : ℕ) (after : State kind) →
    asked_by op ≡ asks phase now → next phase op ≡ Some after → IsTelling kind after
change_leads id op (inl (slot, by, to, stamp, is)) phase now after a row =
    set_leads slot id by to now stamp phase after (ap asked_by (sym is) ∙ a) (ap (next phase) (sym is) ∙ row)
change_leads id op (inr (slot, by, messages, is)) phase now after a row =
    removal_leads slot id by messages now phase after (ap asked_by (sym is) ∙ a) (ap (next phase) (sym is) ∙ row)

-- The next turn of a call that is telling a change.
tells_on : {kind : Kind} (phase : Phase kind) (op : Op) (now : ℕ) (after : State kind) → IsTelling kind (Goes phase) →
    asked_by op ≡ asks phase now → next phase op ≡ Some after → IsTelling kind after ⊎ (releases op ≡ true)
tells_on AtSetGiveback op now after telling a row = inr (releases_it op 0 a)
tells_on (AtRemoveGiveback blocks) op now after telling a row = inr (releases_it op blocks a)
tells_on (AtForget removed blocks) (AtRegistry call (Changed done)) now after telling a row =
    let is : Goes (AtRemoveGiveback blocks) ≡ after = cc in inl (subst (IsTelling Removes) is tt)
tells_on (AtForget removed blocks) op now after telling a row = absurd cc
tells_on phase op now after telling a row = absurd telling

module _ {kind : Kind} (from : State kind) (id : ℤ) (change : Op) (is_change : IsChange id change) where
  tells : (ops : List Op) (state : State kind) → Plays from ops state → (front later : List Op) →
      ops ≡ front ++ change ∷ later → IsTelling kind state ⊎ (list_any releases later ≡ true)
  tells _ _ begins front later e = absurd (no_nil front change later e)
  tells _ _ (resumes {ops} {wait} value play least) front later e =
      elim (tells ops (Waits wait) play front later e) [
        | inl telling ↦ let goes = (telling_goes kind (Waits wait) telling).1 in absurd cc
        | inr told ↦ inr told
      ]
  tells _ _ (steps {ops} {phase} op now after play a row) front later e =
      elim (last_or_before ops op front change later e) [
        | inl here ↦ inl (change_leads id change is_change phase now after (ap asked_by here.1 ∙ a)
            (ap (next phase) here.1 ∙ row))
        | inr more ↦
            elim (tells ops (Goes phase) play front more.0 more.1) [
              | inr told ↦ inr (ap (list_any releases) more.2 ∙ some_before more.0 op told)
              | inl telling ↦
                  elim (tells_on phase op now after telling a row) [
                    | inl still ↦ inl still
                    | inr now_told ↦ inr (ap (list_any releases) more.2 ∙ some_last more.0 op now_told)
                  ]
            ]
      ]

-- ---- the call of a change

set_names : (id at : ℤ) (cred : Cred) (to : SetTo) (op : Op) → IsChange id op →
    AsksFor cred (MsgctlSet at to) (asked_by op) → at ≡ id
set_names id at cred to op (inl (slot, by, what, stamp, is)) (inl (now, e)) = cc
set_names id at cred to op (inl (slot, by, what, stamp, is)) (inr (blocks, e)) = absurd cc
set_names id at cred to op (inr (slot, by, messages, is)) (inl (now, e)) = absurd cc
set_names id at cred to op (inr (slot, by, messages, is)) (inr (blocks, e)) = absurd cc

removal_names : (id at : ℤ) (cred : Cred) (op : Op) → IsChange id op → AsksFor cred (MsgctlRmid at) (asked_by op) →
    at ≡ id
removal_names id at cred op (inr (slot, by, messages, is)) (inl e) = cc
removal_names id at cred op (inl (slot, by, what, stamp, is)) (inl e) = absurd cc
removal_names id at cred op (inl (slot, by, what, stamp, is)) (inr (inl e)) = absurd cc
removal_names id at cred op (inl (slot, by, what, stamp, is)) (inr (inr (blocks, e))) = absurd cc
removal_names id at cred op (inr (slot, by, messages, is)) (inr (inl e)) = absurd cc
removal_names id at cred op (inr (slot, by, messages, is)) (inr (inr (blocks, e))) = absurd cc

gives_it : (id : ℤ) (cred : Cred) (asked : SystemCall) (state : State (kind_of asked)) (op : Op) → IsChange id op →
    AsksFor cred asked (asked_by op) → IsTelling (kind_of asked) state → HasToGiveBack asked state id
gives_it id cred (MsgctlSet at to) (Goes AtSetGiveback) op change a telling = set_names id at cred to op change a
gives_it id cred (MsgctlRmid at) (Goes (AtForget removed blocks)) op change a telling =
    removal_names id at cred op change a
gives_it id cred (MsgctlRmid at) (Goes (AtRemoveGiveback blocks)) op change a telling =
    removal_names id at cred op change a
gives_it id cred asked state op change a telling = absurd telling

-- A turn that changed a queue belongs to a call.
change_owner : (calls : List Invocation) (who : Who) (id : ℤ) (op : Op) → IsMadeOrRead calls (turn_of who op) →
    IsChange id op → (call : Invocation) × Contains calls call × (who ≡ call.who)
change_owner calls who id op (inr by) change = by
change_owner calls who id op (inl (nobody_did, (slot, reply, e))) (inl (at, by, to, now, is)) = absurd cc
change_owner calls who id op (inl (nobody_did, (slot, reply, e))) (inr (at, by, messages, is)) = absurd cc

-- ---- who is in a call

stands_if : (d e : Doing) (b : Bool) → cond b (Some d) None ≡ Some e → d ≡ e
stands_if d e true same = cc
stands_if d e false same = absurd cc

stands_so : (who : Who) (o : Option (Option Doing)) (e : Doing) → stands_in who o ≡ Some e → o ≡ Some (Some e)
stands_so who None e same = absurd cc
stands_so who (Some None) e same = absurd cc
stands_so who (Some (Some d)) e same =
    ap (λ (x : Doing). Some (Some x)) (stands_if d e (is_same who d.call.who) same)

-- ---- the law

module _ (o : Opening) (w : World) (responses : List Response) (i : Inv IsRowRead w responses)
    (lawful : ObeysOnThreads o w responses) where
  -- ---- what was released

  pool_both : (xs ys : List Turn) → pool_history (xs ++ ys) ≡ pool_history xs ++ pool_history ys
  pool_both xs ys = flat_map-append (λ (t : Turn). pool_entry t.who t.op) xs ys

  never_less : (xs ys : List Turn) → released (pool_history xs) ≤ released (pool_history (xs ++ ys))
  never_less xs ys =
      subst (λ h. released (pool_history xs) ≤ released h) (sym (pool_both xs ys))
      (later w.blocks (pool_history xs) (pool_history ys)).never_less

  is_released : (h : PoolHistory) (blocks : ℕ) (reply : PoolReply) →
      IsLegalPoolReply w.blocks h (Release blocks) reply → reply ≢ Foreign → reply ≡ Released
  is_released h blocks Released legal own = refl
  is_released h blocks Foreign legal own = absurd (own refl)
  is_released h blocks reply legal own = absurd legal

  released_at : (turns rest : List Turn) (who : Who) (op : Op) → w.turns ≡ turns ++ turn_of who op ∷ rest →
      releases op ≡ true → released (pool_history turns) + 1 ≤ released (pool_history w.turns)
  released_at turns rest who (AtPool (Release blocks) reply) whole is =
      let h = pool_history turns in
      let e : PoolEntry = record { who = who; call = Release blocks; reply = reply } in
      let entries : pool_history w.turns ≡ h ++ e ∷ pool_history rest =
      ap pool_history whole ∙ pool_both turns (turn_of who (AtPool (Release blocks) reply) ∷ rest) in
      let own = all_at (λ (x : PoolEntry). x.reply ≢ Foreign) h e (pool_history rest)
      (subst (All (λ (x : PoolEntry). x.reply ≢ Foreign)) entries lawful.objects.conserved.taken_back) in
      let told = is_released h blocks reply (i.sound.legal.pool h e (pool_history rest) entries) own in
      let count = released_more h e in
      let counts : one (frees reply) ≡ 1 = ap (λ (r : PoolReply). one (frees r)) told in
      let never : released (h ++ e ∷ []) ≤ released (pool_history w.turns) =
      subst (λ k. released (h ++ e ∷ []) ≤ released k)
      (append_assoc h (e ∷ []) (pool_history rest) ∙ sym entries)
      (later w.blocks (h ++ e ∷ []) (pool_history rest)).never_less in
      omega (arith, count, counts, never)
  released_at turns rest who (AtPool (Reserve size) reply) whole is = absurd cc
  released_at turns rest who (AtSlot slot call reply) whole is = absurd cc
  released_at turns rest who (AtRegistry call reply) whole is = absurd cc

  came_back : (turns rest : List Turn) (who : Who) → w.turns ≡ turns ++ rest →
      list_any releases (ops_of who rest) ≡ true →
      released (pool_history turns) + 1 ≤ released (pool_history w.turns)
  came_back turns rest who whole some =
      let h = has_turn releases who rest some in
      let there : w.turns ≡ (turns ++ h.before) ++ h.turn ∷ h.after =
      whole ∙ (ap (λ ts. turns ++ ts) h.whole ∙ sym (append_assoc turns h.before (h.turn ∷ h.after))) in
      let more = released_at (turns ++ h.before) h.after h.turn.who h.turn.op there h.passes in
      let never = never_less turns h.before in
      omega (arith, more, never)

  -- ---- the send

  module _ (id : ℤ) (turns more rest : List Turn) (who : Who) (op : Op)
      (whole : w.turns ≡ (turns ++ more) ++ turn_of who op ∷ rest) (change : IsChange id op) where
    -- The change is still to be told, or a chain came back after it.
    change_told : HasChangeToTell w id ⊎ (released (pool_history turns) + 1 ≤ released (pool_history w.turns))
    change_told =
        let t = turn_of who op in
        let by = change_owner w.calls who id op
        (all_at (IsMadeOrRead w.calls) (turns ++ more) t rest
        (subst (All (IsMadeOrRead w.calls)) whole lawful.calls.made)) change in
        let call = by.0 in
        let name = i.before call by.1 in
        let same : is_same call.who who ≡ true =
        ap (is_same call.who) by.2 ∙ same_itself name.0 name.1 call.who name.2 in
        let front = ops_of call.who (turns ++ more) in
        let back = ops_of call.who rest in
        let ops_are : ops_of call.who w.turns ≡ front ++ op ∷ back =
        ap (ops_of call.who) whole ∙ ops_around call.who (turns ++ more) t rest same in
        let asks_all : AllAskFor call.cred call.asked (ops_of call.who w.turns) =
        All-contains (AsksAsItWasAsked w) w.calls call lawful.calls.asked by.1 in
        let asks_it = all_at (λ (d : Op). AsksFor call.cred call.asked (asked_by d)) front op back
        (subst (All (λ (d : Op). AsksFor call.cred call.asked (asked_by d))) ops_are asks_all) in
        let outcome : Outcome w responses call = i.outcomes call by.1 in
        elim (tells (begun call) id op change (ops_of call.who w.turns) outcome.state outcome.plays front back
        ops_are) [
          | inl telling ↦
              let goes = telling_goes (kind_of call.asked) outcome.state telling in
              inl record {
                place = name.0;
                doing = record { call = call; state = Goes goes.0 };
                there = stands_so call.who (slice_get w.actors name.0) (record { call = call; state = Goes goes.0 })
                    (sym (at_actor call.who name.0 name.1 w.actors name.2)
                    ∙ (outcome.stands ∙ ap (doing_in call) goes.1));
                gives = subst (λ s. HasToGiveBack call.asked s id) goes.1
                    (gives_it id call.cred call.asked outcome.state op change asks_it telling);
              }
          | inr told ↦
              let after : w.turns ≡ ((turns ++ more) ++ t ∷ []) ++ rest =
              whole ∙ sym (append_assoc (turns ++ more) (t ∷ []) rest) in
              let back_again = came_back ((turns ++ more) ++ t ∷ []) rest call.who after told in
              let never = never_less turns (more ++ t ∷ []) in
              let named : turns ++ (more ++ t ∷ []) ≡ (turns ++ more) ++ t ∷ [] =
              sym (append_assoc turns more (t ∷ [])) in
              let low : released (pool_history turns) ≤ released (pool_history ((turns ++ more) ++ t ∷ [])) =
              subst (λ ts. released (pool_history turns) ≤ released (pool_history ts)) named never in
              inr (omega (arith, back_again, low))
        ]

  woken_so : (goal : ℕ) (send : Sending) (before rest : List Turn) → w.turns ≡ before ++ rest →
      HasId (live (slot_history (slot_of_id send.id) before)) send.id
      × MayWrite send.cred (live (slot_history (slot_of_id send.id) before)) →
      released (pool_history w.turns) ≤ released (pool_history before) → IsToBeWoken w send.id send.cred
  woken_so goal send before rest own opens low =
      elim (open_still send.id send.cred w i.sound.legal before rest own opens) [
        | inl still ↦ inl record { lives = still.0; may_write = still.1 }
        | inr c ↦
            elim (change_told send.id before c.more c.rest c.who c.op c.whole c.change) [
              | inl telling ↦ inr telling
              | inr back ↦ absurd (omega (arith, back, low))
            ]
      ]

  pub told_so : (who : Who) (from : State Sends) (goal : ℕ) (send : Sending) → Elsewhere (Some from) →
      Plays from (ops_of who w.turns) (Waits (OnReleased goal send)) →
      WaitsFor (OnReleased goal send) (ops_of who w.turns) → released (pool_history w.turns) < goal →
      HadReleasedAtSlot w who send.released →
      HasTooFewBlocks w (length send.text) × IsToBeWoken w send.id send.cred
  told_so who from goal send start play (is, (front, ends)) below had =
      let size = length send.text in
      let slot = slot_of_id send.id in
      let look = Look send.id send.cred size in
      let reserve = AtPool (Reserve size) TooFew in
      let before_it =
      before_reserve from goal size send (ops_of who w.turns) (Waits (OnReleased goal send)) play refl front ends in
      let first_look = after_look from start send front (Goes (AtReserve send)) before_it refl in
      let ops_are : ops_of who w.turns ≡ first_look.0 ++ look_of send ∷ reserve ∷ [] =
      ends
      ∙ (ap (λ ds. ds ++ reserve ∷ []) first_look.1 ∙ append_assoc first_look.0 (look_of send ∷ []) (reserve ∷ [])) in
      let m = made_at who w.turns first_look.0 (look_of send) (reserve ∷ []) ops_are in
      let t = turn_of who (look_of send) in
      let own : w.turns ≡ m.before ++ t ∷ m.after =
      m.whole ∙ ap (λ by. m.before ++ turn_of by (look_of send) ∷ m.after) (sym (same_who who m.by m.own)) in
      let read = had m.before m.after slot look Fits own (ap (list_any is_at_slot) m.later_is) in
      let e : Entry = record { who = who; call = look; reply = Fits } in
      let was = i.sound.legal.slots slot (slot_history slot m.before) e (slot_history slot m.after)
      (ap (slot_history slot) own ∙ slot_around slot m.before m.after who look Fits) in
      let later_reserve = made_at who m.after [] reserve [] m.later_is in
      let r = turn_of who reserve in
      let since = t ∷ later_reserve.before in
      let again : w.turns ≡ (m.before ++ since) ++ r ∷ later_reserve.after =
      own
      ∙ (ap (λ ts. m.before ++ t ∷ ts) (later_reserve.whole
      ∙ ap (λ by. later_reserve.before ++ turn_of by reserve ∷ later_reserve.after)
      (sym (same_who who later_reserve.by later_reserve.own)))
      ∙ sym (append_assoc m.before since (r ∷ later_reserve.after))) in
      let never = never_less m.before since in
      let short =
      short_at w.generation w.blocks w.turns i.sound.legal (m.before ++ since) later_reserve.after who size
      again (omega (arith, below, is, read, never)) in
      (short, woken_so goal send m.before (t ∷ m.after) own (was.0, was.1) (omega (arith, below, is, read)))
