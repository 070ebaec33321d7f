-- A turn moves blocks between the pool, the queues and the call that makes it. It makes or loses
-- none.
use Rattle.std.proofs.Common.{◌≡◌, ◌≢◌, inl, inr, ℕ, zero, suc, ℤ, pos, ◌+◌, ◌<◌, ◌≤◌, Bool, true, false, cond, List}
use Rattle.std.proofs.Common.{[], ◌∷◌, ◌++◌, Option, None, Some, refl, sym, ap, subst, ◌∙◌, arith, slice_get, slice_set}
use Rattle.std.proofs.Common.{replicate, unsigned_abs}
use Rattle.std.specs.List.{All, Contains, sum_by, range_with_len}
use Rattle.std.proofs.Math.Dec.{eqb}
use Rattle.std.proofs.Math.Nat.{mod-lt}
use Rattle.std.proofs.lemmas.Bool.{eqb-true, cases_eq}
use Rattle.std.proofs.lemmas.List.{append-nil}
use Rattle.std.proofs.lemmas.List.Elements.{All-push}
use Rattle.std.proofs.lemmas.List.Sums.{sum_by-cons}
use Rattle.sysv_model.specs.declared.cred.Cred.{Cred}
use Rattle.sysv_model.specs.declared.errno.Errno.TheVariants.{EINVAL}
use Rattle.sysv_model.specs.declared.limits.TheConstants.{IPC_PRIVATE}
use Rattle.sysv_model.specs.History.{Who, Call, Install, Place, Take, Remove, Reply, Installed, Accepted, Taken}
use Rattle.sysv_model.specs.History.{Discarded}
use Rattle.sysv_model.specs.Pool.{PoolCall, Reserve, Release, PoolReply, Reserved, TooFew, Released, Foreign, PoolEntry}
use Rattle.sysv_model.specs.Pool.{PoolHistory}
use Rattle.sysv_model.specs.Turn.{OfSlot, Op, AtSlot, AtRegistry, AtPool, asked_by, Turn, slot_history, pool_history}
use Rattle.sysv_model.specs.Waiting.{held as waiting_in}
use Rattle.sysv_pool.specs.State.{state_of, reserved_by, returned_by, reserved, returned, free_after}
use Rattle.sysv_pool.specs.LegalReply.{Legal as LegalAtPool, IsLegalHistory as IsLegalPoolHistory}
use Rattle.sysv_pool.specs.PoolLaw.{PoolLaw}
use Rattle.sysv_queue.specs.Slot.{Slot, slot_of}
use Rattle.sysv_queue.specs.Blocks.{blocks_of}
use Rattle.sysv_queue.specs.BlocksKept.{blocks_put, blocks_off, TurnKeepsBlocks}
use Rattle.sysv_queue.specs.LegalReply.{Legal, IsLegalHistory}
use Rattle.sysv_keys.specs.declared.identifier.TheConstants.{SLOTS}
use Rattle.sysv_keys.specs.Identifier.{slot_of_id}
use Rattle.sysv_objects.specs.LegalOp.{IsLegalOp, AreLegal}
use Rattle.sysv_steps.specs.Call.{SystemCall, Msgget, Kind, kind_of}
use Rattle.sysv_steps.specs.State.{Wait, OnSettled, Phase, AtInstall, AtProbe, AtLook, AtPlace, AtTake, AtStat, AtSet}
use Rattle.sysv_steps.specs.State.{AtRemove, State, Goes, Waits, Over, Refused}
use Rattle.sysv_steps.specs.Begin.{is_refused, first, begin}
use Rattle.sysv_steps.specs.Resume.{resume}
use Rattle.sysv_steps.specs.Asks.{asks}
use Rattle.sysv_steps.specs.Next.{next}
use Rattle.sysv_steps.specs.HeldBlocks.{held, given_by, left_by, HasItsBlocks, GivesWhatIsAsked, EachStepKeepsItsBlocks}
use Rattle.sysv_core.specs.World.{Invocation, Doing, doing_in, preset_who, preset_cred, preset_flags, preset_begin}
use Rattle.sysv_core.specs.World.{preset_settle, with_preset_turns}
use Rattle.sysv_core.specs.Conserved.{blocks_waiting, blocks_in_call, blocks_in_calls, AreConserved}
use Rattle.sysv_lists.proofs.Orders.{at_most}
use Rattle.sysv_core.proofs.Lists.{sum_set}
use Rattle.sysv_core.proofs.Histories.{turn_of, slot_more, pool_more, pool_stays, slot_stays, begun_turns}
use Rattle.sysv_core.proofs.Histories.{installed_turns, preset_slot, preset_pool, returned_more, reserved_more}
use Rattle.sysv_core.proofs.TurnInHistory.{slot_around}

-- ---- sums over the slots

pub same_sum : (f g : ℕ → ℕ) (from n : ℕ) → ((i : ℕ) → from ≤ i → f i ≡ g i) →
    sum_by f (range_with_len from n) ≡ sum_by g (range_with_len from n)
same_sum f g from zero same = refl
same_sum f g from (suc n) same =
    omega (
      arith,
      sum_by-cons f from (range_with_len (from + 1) n),
      sum_by-cons g from (range_with_len (from + 1) n),
      same from (omega arith),
      same_sum f g (from + 1) n (λ i low. same i (omega (arith, low))),
    )

-- Two sums that differ in one term.
one_changed : (f g : ℕ → ℕ) (from n k : ℕ) → from ≤ k → k < from + n → ((i : ℕ) → k ≢ i → f i ≡ g i) →
    sum_by f (range_with_len from n) + g k ≡ sum_by g (range_with_len from n) + f k
one_changed f g from zero k low high same = absurd (omega (arith, low, high))
one_changed f g from (suc n) k low high same = elim (cases_eq from k) [
  | inl here ↦
      subst (λ j. sum_by f (range_with_len from (suc n)) + g j ≡ sum_by g (range_with_len from (suc n)) + f j) here
      (omega (
        arith,
        sum_by-cons f from (range_with_len (from + 1) n),
        sum_by-cons g from (range_with_len (from + 1) n),
        same_sum f g (from + 1) n (λ i above. same i (λ e. omega (arith, here, e, above))),
      ))
  | inr apart ↦
      omega (
        arith,
        sum_by-cons f from (range_with_len (from + 1) n),
        sum_by-cons g from (range_with_len (from + 1) n),
        same from (λ e. apart (sym e)),
        one_changed f g (from + 1) n k (further from k low apart) (omega (arith, high)) same,
      )
]
  where
    further : (a b : ℕ) → a ≤ b → a ≢ b → a + 1 ≤ b
    further a b le other = elim (at_most (a + 1) b) [
      | inl above ↦ above
      | inr below ↦ absurd (other (omega (arith, le, below)))
    ]

abbrev pub waiting_at : List Turn → ℕ → ℕ
waiting_at turns slot = blocks_of (waiting_in (slot_history slot turns))

pub is_sum : (turns : List Turn) → blocks_waiting turns ≡ sum_by (waiting_at turns) (range_with_len 0 SLOTS)
unfolding blocks_waiting
is_sum turns = refl

-- A turn that is not at a slot changes no queued message.
waiting_stays : (turns : List Turn) (who : Who) (op : Op) →
    ((slot : ℕ) → slot_history slot (turns ++ turn_of who op ∷ []) ≡ slot_history slot turns) →
    blocks_waiting (turns ++ turn_of who op ∷ []) ≡ blocks_waiting turns
waiting_stays turns who op same =
    let more = turns ++ turn_of who op ∷ [] in
    is_sum more
    ∙ (same_sum (waiting_at more) (waiting_at turns) 0 SLOTS
    (λ slot low. ap (λ h. blocks_of (waiting_in h)) (same slot)) ∙ sym (is_sum turns))

-- A turn at a slot changes the queued messages of that slot only.
another_slot : (turns : List Turn) (who : Who) (slot : ℕ) (call : Call) (reply : Reply) (other : ℕ) (b : Bool) →
    (b ≡ true → slot ≡ other) → slot ≢ other →
    slot_history other turns ++ cond b (record { who = who; call = call; reply = reply } ∷ []) []
    ≡ slot_history other turns
another_slot turns who slot call reply other true same apart = absurd (apart (same refl))
another_slot turns who slot call reply other false same apart = append-nil (slot_history other turns)

pub waiting_moves : TurnKeepsBlocks → (turns : List Turn) (who : Who) (slot : ℕ) (call : Call) (reply : Reply) →
    IsLegalHistory (slot_history slot turns) → Legal (slot_of (slot_history slot turns)) call reply → slot < SLOTS →
    blocks_waiting (turns ++ turn_of who (AtSlot slot call reply) ∷ []) + blocks_off call reply
    ≡ blocks_waiting turns + blocks_put call reply
waiting_moves kept turns who slot call reply legal now low =
    let more = turns ++ turn_of who (AtSlot slot call reply) ∷ [] in
    let changed = one_changed (waiting_at turns) (waiting_at more) 0 SLOTS slot (omega arith) (omega (arith, low))
    (λ other apart.
    ap (λ h. blocks_of (waiting_in h))
    (sym (slot_more other turns (turn_of who (AtSlot slot call reply))
    ∙ another_slot turns who slot call reply other (eqb slot other) (λ e. eqb-true slot other e) apart))) in
    let moved : waiting_at more slot + blocks_off call reply ≡ waiting_at turns slot + blocks_put call reply =
    ap (λ h. blocks_of (waiting_in h) + blocks_off call reply) (slot_around slot turns [] who call reply)
    ∙ kept (slot_history slot turns) who call reply legal now in
    let w : ℕ = waiting_at turns slot in
    let x : ℕ = waiting_at more slot in
    sums (blocks_waiting turns) (blocks_waiting more) w x (blocks_off call reply) (blocks_put call reply)
    (ap (λ n. n + x) (is_sum turns) ∙ (changed ∙ sym (ap (λ n. n + w) (is_sum more)))) moved
  where
    sums : (s t w x off put : ℕ) → s + x ≡ t + w → x + off ≡ w + put → t + off ≡ s + put
    sums s t w x off put a b = omega (arith, a, b)

-- ---- what a turn moves

-- What is put on a queue leaves the call, and what is taken from a queue is received by the call.
left_is_put : (slot : ℕ) (call : Call) (reply : Reply) → left_by (AtSlot slot call reply) ≡ blocks_put call reply
left_is_put slot (Place id cred mtype bytes now) (Accepted number) = refl
left_is_put slot call (Accepted number) = refl
left_is_put slot call reply = refl

given_is_off : (s : Slot) (slot : ℕ) (call : Call) (reply : Reply) → Legal s call reply →
    given_by (AtSlot slot call reply) ≡ blocks_off call reply
given_is_off s slot (Take id cred selector size noerror now) (Taken m) l = refl
given_is_off s slot (Remove id cred) (Discarded messages) l = refl
given_is_off s slot call (Taken m) l = absurd l
given_is_off s slot call (Discarded messages) l = absurd l
given_is_off s slot call reply l = refl

-- The pool grants what a call requested.
only_one : (d x : Op) → Contains (d ∷ []) x → d ≡ x
only_one d x (zero, low, is) = is
only_one d x (suc k, low, is) = absurd (omega (arith, low))

gives_it : (generation blocks : ℕ) (turns : List Turn) (op : Op) → IsLegalOp generation blocks turns op →
    GivesWhatIsAsked (op ∷ [])
gives_it generation blocks turns op legal size n has =
    (subst (IsLegalOp generation blocks turns) (only_one op (AtPool (Reserve size) (Reserved n)) has) legal).1

-- The number of free blocks after a turn at the pool.
free_moves : (size : ℕ) (h : PoolHistory) (e : PoolEntry) → PoolLaw size h →
    LegalAtPool (state_of size h) e.call e.reply →
    free_after size (h ++ e ∷ []) + reserved_by e.reply ≡ free_after size h + returned_by e.call e.reply
free_moves size h e law legal = by_turn e.call e.reply legal (returned_more h e) (reserved_more h e)
  where
    by_turn : (call : PoolCall) (reply : PoolReply) → LegalAtPool (state_of size h) call reply →
        returned (h ++ e ∷ []) ≡ returned h + returned_by call reply →
        reserved (h ++ e ∷ []) ≡ reserved h + reserved_by reply →
        free_after size (h ++ e ∷ []) + reserved_by reply ≡ free_after size h + returned_by call reply
    by_turn (Reserve n) (Reserved blocks) l back out = omega (arith, l.0, l.1, back, out)
    by_turn (Reserve n) TooFew l back out = omega (arith, back, out)
    by_turn (Release blocks) Released l back out = omega (arith, back, out, law.within, law.owed, law.conserved)
    by_turn (Release blocks) Foreign l back out = omega (arith, back, out)
    by_turn call reply l back out = absurd l

-- ---- what the calls hold

in_state : (call : Invocation) (state : State (kind_of call.asked)) → blocks_in_call (doing_in call state) ≡ held state
in_state call (Goes phase) = refl
in_state call (Waits wait) = refl
in_state call (Over ending) = refl

-- A call holds no more than all calls together.
no_more : (actors : List (Option Doing)) (place : ℕ) (was : Option Doing) → slice_get actors place ≡ Some was →
    blocks_in_call was ≤ blocks_in_calls actors
no_more actors place was there = omega (arith, sum_set blocks_in_call actors place was None there)

-- ---- one turn

-- A call makes requests only of slots that exist.
there_is : (id : ℤ) (slot : ℕ) → slot ≡ slot_of_id id → slot < SLOTS
there_is id slot e = omega (arith, e, mod-lt (unsigned_abs id) {m = SLOTS} (omega arith))

asks_slot : {kind : Kind} (phase : Phase kind) (now slot : ℕ) (call : Call) → OfSlot slot call ≡ asks phase now →
    slot < SLOTS
asks_slot (AtInstall get id) now slot call e = there_is id slot cc
asks_slot (AtProbe get id settled) now slot call e = there_is id slot cc
asks_slot (AtLook send) now slot call e = there_is send.id slot cc
asks_slot (AtPlace send blocks) now slot call e = there_is send.id slot cc
asks_slot (AtTake receive) now slot call e = there_is receive.id slot cc
asks_slot (AtStat cred id) now slot call e = there_is id slot cc
asks_slot (AtSet cred id to) now slot call e = there_is id slot cc
asks_slot (AtRemove cred id) now slot call e = there_is id slot cc
asks_slot phase now slot call e = absurd cc

-- The laws about blocks of the queues, the pool and the steps.
pub record BlockLaws : Type 0 where
  pub kept : TurnKeepsBlocks
  pub law : (size : ℕ) (h : PoolHistory) → IsLegalPoolHistory size h → PoolLaw size h
  pub step : EachStepKeepsItsBlocks

-- After a legal turn, a send before its place has the blocks that its body needs.
pub turn_holds : {kind : Kind} → BlockLaws → (generation size : ℕ) (turns : List Turn) (phase : Phase kind) →
    HasItsBlocks (Goes phase) → (now : ℕ) (state : State kind) (op : Op) → asked_by op ≡ asks phase now →
    IsLegalOp generation size turns op → next phase op ≡ Some state → HasItsBlocks state
turn_holds {kind} b generation size turns phase own now state op asked l goes =
    (b.step kind phase op now state own (gives_it generation size turns op l) asked goes).1

module _ (b : BlockLaws) (generation size : ℕ) (turns : List Turn) (actors : List (Option Doing))
    (legal : AreLegal generation size turns) (all : AreConserved size turns actors) where
  module _ (place : ℕ) (call : Invocation) (phase : Phase (kind_of call.asked))
      (there : slice_get actors place ≡ Some (Some record { call = call; state = Goes phase }))
      (own : HasItsBlocks (Goes phase)) (now : ℕ) (state : State (kind_of call.asked)) where
    abbrev was : Option Doing
    was = Some record { call = call; state = Goes phase }

    abbrev then_actors : List (Option Doing)
    then_actors = slice_set actors place (doing_in call state)

    calls_move : blocks_in_calls then_actors + held (Goes phase) ≡ blocks_in_calls actors + held state
    calls_move = sum_set blocks_in_call actors place was (doing_in call state) there
        ∙ ap (λ n. blocks_in_calls actors + n) (in_state call state)

    holds : held (Goes phase) ≤ blocks_in_calls actors
    holds = no_more actors place was there

    -- No chain of a call is foreign.
    taken : (c : PoolCall) (reply : PoolReply) → LegalAtPool (state_of size (pool_history turns)) c reply →
        held state + left_by (AtPool c reply) ≡ held (Goes phase) + given_by (AtPool c reply) → reply ≢ Foreign
    taken (Release blocks) Foreign l balance e = omega (arith, l, balance, all.whole, holds)
    taken (Reserve n) Foreign l balance e = l
    taken c (Reserved blocks) l balance e = cc
    taken c TooFew l balance e = cc
    taken c Released l balance e = cc

    left_is_returned : (c : PoolCall) (reply : PoolReply) → reply ≢ Foreign →
        left_by (AtPool c reply) ≡ returned_by c reply
    left_is_returned (Release blocks) Released back = refl
    left_is_returned (Reserve n) Released back = refl
    left_is_returned c Foreign back = absurd (back refl)
    left_is_returned (Release blocks) TooFew back = refl
    left_is_returned (Reserve n) TooFew back = refl
    left_is_returned (Release blocks) (Reserved n) back = refl
    left_is_returned (Reserve n) (Reserved m) back = refl

    given_is_reserved : (c : PoolCall) (reply : PoolReply) → given_by (AtPool c reply) ≡ reserved_by reply
    given_is_reserved c (Reserved blocks) = refl
    given_is_reserved c reply = refl

    -- What leaves the call comes to the slots or to the pool, and what the call receives leaves them.
    moves : (op : Op) → asked_by op ≡ asks phase now → IsLegalOp generation size turns op →
        held state + left_by op ≡ held (Goes phase) + given_by op →
        let more = turns ++ turn_of call.who op ∷ [] in
        (free_after size (pool_history more) + blocks_waiting more + given_by op
        ≡ free_after size (pool_history turns) + blocks_waiting turns + left_by op)
        × All (λ (e : PoolEntry). e.reply ≢ Foreign) (pool_history more)
    moves (AtSlot slot c reply) asked l balance =
        let pool = pool_stays turns call.who (AtSlot slot c reply) refl in
        let moved = waiting_moves b.kept turns call.who slot c reply (legal.slots slot) l
        (asks_slot phase now slot c asked) in (
          omega (
            arith,
            ap (free_after size) pool,
            moved,
            left_is_put slot c reply,
            given_is_off (slot_of (slot_history slot turns)) slot c reply l,
          ),
          subst (All (λ (e : PoolEntry). e.reply ≢ Foreign)) (sym pool) all.taken_back,
        )
    moves (AtRegistry c reply) asked l balance =
        let pool = pool_stays turns call.who (AtRegistry c reply) refl in (
          omega (
            arith,
            ap (free_after size) pool,
            waiting_stays turns call.who (AtRegistry c reply)
                (λ slot. slot_stays slot turns call.who (AtRegistry c reply) refl),
          ),
          subst (All (λ (e : PoolEntry). e.reply ≢ Foreign)) (sym pool) all.taken_back,
        )
    moves (AtPool c reply) asked l balance =
        let e : PoolEntry = record { who = call.who; call = c; reply = reply } in
        let h = pool_history turns in
        let pool = pool_more turns (turn_of call.who (AtPool c reply)) in
        let back = taken c reply l balance in (
          omega (
            arith,
            ap (free_after size) pool,
            waiting_stays turns call.who (AtPool c reply)
                (λ slot. slot_stays slot turns call.who (AtPool c reply) refl),
            free_moves size h e (b.law size h legal.pool) l,
            left_is_returned c reply back,
            given_is_reserved c reply,
          ),
          subst (All (λ (x : PoolEntry). x.reply ≢ Foreign)) (sym pool)
              (All-push (λ (x : PoolEntry). x.reply ≢ Foreign) h e all.taken_back back),
        )

    pub turn_conserves : (op : Op) → asked_by op ≡ asks phase now → IsLegalOp generation size turns op →
        next phase op ≡ Some state →
        AreConserved size (turns ++ turn_of call.who op ∷ []) (slice_set actors place (doing_in call state))
    turn_conserves op asked l goes =
        let balance =
        (b.step (kind_of call.asked) phase op now state own (gives_it generation size turns op l) asked goes).0 in
        let m = moves op asked l balance in
        record { whole = omega (arith, m.0, balance, calls_move, all.whole); taken_back = m.1 }

  -- The three turns of a preset move no block.
  pub preset_conserves : AreLegal generation size (with_preset_turns turns) →
      AreConserved size (with_preset_turns turns) actors
  preset_conserves after =
      let first = begun_turns turns in
      let one =
      waiting_stays turns preset_who preset_begin (λ slot. slot_stays slot turns preset_who preset_begin refl) in
      let install : Call = Install (pos 0) IPC_PRIVATE preset_cred preset_flags.0 0 in
      let first_slot : slot_history 0 first ≡ slot_history 0 turns = slot_stays 0 turns preset_who preset_begin refl in
      let two = waiting_moves b.kept first preset_who 0 install (Installed true)
      (subst IsLegalHistory (sym first_slot) (legal.slots 0))
      (after.slots 0 (slot_history 0 first) (record { who = preset_who; call = install; reply = Installed true }) []
      (preset_slot 0 turns ∙ slot_around 0 first [] preset_who install (Installed true))) (omega arith) in
      let three = waiting_stays (installed_turns turns) preset_who preset_settle
      (λ slot. slot_stays slot (installed_turns turns) preset_who preset_settle refl) in
      record {
        whole = ap (λ (h : PoolHistory).
            free_after size h + (blocks_waiting (with_preset_turns turns) + blocks_in_calls actors)) (preset_pool turns)
            ∙ all_same (free_after size (pool_history turns)) (blocks_waiting turns) (blocks_waiting first)
            (blocks_waiting (installed_turns turns)) (blocks_waiting (with_preset_turns turns)) (blocks_in_calls actors)
            one two three all.whole;
        taken_back = subst (All (λ (e : PoolEntry). e.reply ≢ Foreign)) (sym (preset_pool turns)) all.taken_back;
      }
    where
      all_same : (free v w x y c : ℕ) → w ≡ v → x + 0 ≡ w + 0 → y ≡ x → free + (v + c) ≡ size → free + (y + c) ≡ size
      all_same free v w x y c d e f whole = omega (arith, d, e, f, whole)

-- ---- no turn

-- A call that starts, or whose wait is over, holds what it held.
pub stands_conserves : (size : ℕ) (turns : List Turn) (actors : List (Option Doing)) (place : ℕ) (was : Option Doing)
    (call : Invocation) (state : State (kind_of call.asked)) → slice_get actors place ≡ Some was →
    held state ≡ blocks_in_call was →
    AreConserved size turns actors → AreConserved size turns (slice_set actors place (doing_in call state))
stands_conserves size turns actors place was call state there same all = record {
  whole = still (free_after size (pool_history turns)) (blocks_waiting turns) (blocks_in_calls actors)
      (blocks_in_calls (slice_set actors place (doing_in call state))) (blocks_in_call was)
      (blocks_in_call (doing_in call state)) (held state)
      (sum_set blocks_in_call actors place was (doing_in call state) there) (in_state call state) same all.whole;
  taken_back = all.taken_back;
}
  where
    still : (free w c d x y h : ℕ) → d + x ≡ c + y → y ≡ h → h ≡ x → free + (w + c) ≡ size → free + (w + d) ≡ size
    still free w c d x y h moved y_is h_is whole = omega (arith, moved, y_is, h_is, whole)

pub resumed_holds : {kind : Kind} (wait : Wait kind) (value : ℕ) → held (Goes (resume wait value)) ≡ 0
resumed_holds (OnSettled goal get) value = refl
resumed_holds wait value = refl

begun_by : (cred : Cred) (asked : SystemCall) (released : ℕ) (b : Bool) →
    held (cond b (Over (Refused EINVAL)) (Goes (first cred asked released))) ≡ 0
begun_by cred asked released true = refl
begun_by cred (Msgget key flags) released false = refl
begun_by cred asked released false = refl

pub begun_holds : (cred : Cred) (asked : SystemCall) (released : ℕ) → held (begin cred asked released) ≡ 0
begun_holds cred asked released = begun_by cred asked released (is_refused asked)

-- ---- the opening

none_waits : (from n : ℕ) → sum_by (waiting_at []) (range_with_len from n) ≡ 0
none_waits from zero = refl
none_waits from (suc n) =
    omega (arith, sum_by-cons (waiting_at []) from (range_with_len (from + 1) n), none_waits (from + 1) n)

none_holds : (n : ℕ) → blocks_in_calls (replicate n None) ≡ 0
none_holds zero = refl
none_holds (suc n) = omega (arith, sum_by-cons blocks_in_call None (replicate n None), none_holds n)

pub opening_conserves : (actors size : ℕ) → AreConserved size [] (replicate actors None)
opening_conserves actors size = record {
  whole = omega (arith, is_sum [], none_waits 0 SLOTS, none_holds actors);
  taken_back = λ k d low. absurd (omega (arith, low));
}
