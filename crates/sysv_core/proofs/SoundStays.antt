-- Each transition in a sound world leaves a sound world.
use Rattle.std.proofs.Common.{◌≡◌, ◌⊎◌, inl, inr, ℕ, suc, ℤ, pos, ◌&&◌, Bool, true, false, cond, ◌+◌, List, []}
use Rattle.std.proofs.Common.{◌∷◌, ◌++◌, Option, None, Some, refl, sym, ap, subst, ◌∙◌, slice_get, slice_set}
use Rattle.std.proofs.Math.Dec.{eqb}
use Rattle.std.proofs.lemmas.Bool.{eqb-true, or_left, or_right, cases_eq}
use Rattle.std.specs.Ordering.{int_eq}
use Rattle.std.proofs.lemmas.List.{append-nil}
use Rattle.std.proofs.lemmas.List.Folds.{list_any-append}
use Rattle.sysv_model.specs.declared.attributes.Attributes.{Attributes}
use Rattle.sysv_model.specs.declared.cred.Cred.{Cred}
use Rattle.sysv_model.specs.declared.errno.Errno.TheVariants.{EINVAL}
use Rattle.sysv_model.specs.declared.flags.Flags.{Flags}
use Rattle.sysv_model.specs.declared.limits.TheConstants.{IPC_PRIVATE}
use Rattle.sysv_model.specs.History.{Who, Call, Install, Place, Take, Set, Remove, Reply, Accepted, Taken, Done}
use Rattle.sysv_model.specs.History.{Discarded, Installed, Full, NoMatch, Gone}
use Rattle.sysv_model.specs.Live.{live, live_after}
use Rattle.sysv_model.specs.Pool.{TooFew, Released, Foreign}
use Rattle.sysv_model.specs.Registry.{RegistryEntry, Begin, Settle, Made, Changed}
use Rattle.sysv_model.specs.Turn.{OfSlot, Op, AtSlot, AtRegistry, AtPool, asked_by, Turn, registry_entry}
use Rattle.sysv_model.specs.Turn.{slot_history, registry_history}
use Rattle.sysv_keys.specs.Identifier.{slot_of_id}
use Rattle.sysv_keys.specs.Rows.{makes, is_made, IsUnused}
use Rattle.sysv_keys.specs.LegalReply.{IsLegalReply as IsLegalRegistryReply}
use Rattle.sysv_keys.specs.Unused.{UnusedSlots}
use Rattle.sysv_objects.specs.LegalOp.{IsLegalOp, AreLegal}
use Rattle.sysv_steps.specs.Call.{SystemCall, Msgget, Kind, kind_of}
use Rattle.sysv_steps.specs.State.{Wait, OnSettled, Afterwards, IsRefused, WaitsOn, Phase, AtBegin, AtInstall, AtLook}
use Rattle.sysv_steps.specs.State.{AtReserve, AtTake, AtSendGiveback, State, Goes, Waits, Over, Refused}
use Rattle.sysv_steps.specs.Begin.{is_refused, first}
use Rattle.sysv_steps.specs.Asks.{asks}
use Rattle.sysv_steps.specs.Next.{waits_or, goes_on, next}
use Rattle.sysv_steps.specs.HeldBlocks.{held, HasItsBlocks}
use Rattle.sysv_steps.specs.Resume.{resume, awaited}
use Rattle.sysv_core.specs.World.{World, Opening, Invocation, Doing, Response, opening, doing_in, starting, begun}
use Rattle.sysv_core.specs.World.{value_of}
use Rattle.sysv_core.specs.World.{preset_who, preset_flags, preset_begin, preset_install, preset_settle}
use Rattle.sysv_core.specs.World.{with_preset_turns, with_preset}
use Rattle.sysv_core.specs.Sound.{IsToCaller, AreOwn, IsBeforeInstall, IsMadeIn, IsSound, StaysSound}
use Rattle.sysv_core.proofs.Lists.{get_set_same, get_set_other, none_busy}
use Rattle.sysv_core.proofs.Histories.{turn_of, slot_more, registry_more, live_by, live_turn}
use Rattle.sysv_core.proofs.Told.{told, told_is}
use Rattle.sysv_core.proofs.Lifetime.{job_at, begun_none, resumed_none, same_int, some_is}
use Rattle.sysv_core.proofs.BlocksConserved.{BlockLaws, turn_holds, turn_conserves, stands_conserves, resumed_holds}
use Rattle.sysv_core.proofs.BlocksConserved.{begun_holds}
use Rattle.sysv_core.proofs.BlocksConserved.{preset_conserves, opening_conserves}
use Rattle.sysv_core.proofs.Moves.{Move, stood, began, turned, awoke, preset_made, moves}

-- ---- what was made stays made

pub made_more : (id key : ℤ) (turns : List Turn) (t : Turn) → is_made id key (registry_history turns) ≡ true →
    is_made id key (registry_history (turns ++ t ∷ [])) ≡ true
made_more id key turns t e =
    ap (is_made id key) (registry_more turns t)
    ∙ (list_any-append (λ (x : RegistryEntry). makes id key x.call x.reply) (registry_history turns)
    (registry_entry t.who t.op)
    ∙ or_left (is_made id key (registry_history turns)) (is_made id key (registry_entry t.who t.op)) e)

pub still_made : (turns : List Turn) (t : Turn) (slot : ℕ) → IsMadeIn turns slot → IsMadeIn (turns ++ t ∷ []) slot
still_made turns t slot m = record { id = m.id; key = m.key; made = made_more m.id m.key turns t m.made; here = m.here }

-- A begin that makes an identifier.
pub made_it : (turns : List Turn) (who : Who) (key : ℤ) (flags : Flags) (id : ℤ) →
    is_made id key (registry_history (turns ++ turn_of who (AtRegistry (Begin key flags) (Made id)) ∷ [])) ≡ true
made_it turns who key flags id =
    ap (is_made id key) (registry_more turns (turn_of who (AtRegistry (Begin key flags) (Made id))))
    ∙ (list_any-append (λ (x : RegistryEntry). makes id key x.call x.reply) (registry_history turns)
    (registry_entry who (AtRegistry (Begin key flags) (Made id)))
    ∙ or_right (is_made id key (registry_history turns)) _
    (or_left (makes id key (Begin key flags) (Made id)) false
    (ap (λ b. b && int_eq key key) (same_int id) ∙ same_int key)))

pub made_now : (turns : List Turn) (who : Who) (key : ℤ) (flags : Flags) (id : ℤ) →
    IsMadeIn (turns ++ turn_of who (AtRegistry (Begin key flags) (Made id)) ∷ []) (slot_of_id id)
made_now turns who key flags id = record { id = id; key = key; made = made_it turns who key flags id; here = refl }

-- ---- where a queue lives

pub record IsInstall (call : Call) : Type 0 where
  pub id : ℤ
  pub key : ℤ
  pub cred : Cred
  pub mode : ℕ
  pub now : ℕ
  pub asks_it : call ≡ Install id key cred mode now

-- A live queue was installed in this turn, or a queue was live before it.
lived_before : (l : Option Attributes) (call : Call) (reply : Reply) (a : Attributes) →
    live_after l call reply ≡ Some a → IsInstall call ⊎ ((b : Attributes) × (l ≡ Some b))
lived_before (Some b) call reply a e = inr (b, refl)
lived_before None (Install id key cred mode now) reply a e =
    inl record { id = id; key = key; cred = cred; mode = mode; now = now; asks_it = refl }
lived_before None (Place id cred mtype bytes now) (Accepted number) a e = absurd cc
lived_before None (Take id cred selector size noerror now) (Taken message) a e = absurd cc
lived_before None (Set id cred to now) Done a e = absurd cc
lived_before None (Remove id cred) (Discarded messages) a e = absurd cc
lived_before None call reply a e = absurd cc

-- The same after a turn, which may be at another object.
pub data Lived (turns : List Turn) (slot : ℕ) (op : Op) : Type 0 where
  before : (a : Attributes) → live (slot_history slot turns) ≡ Some a → Lived turns slot op
  installed : (call : Call) (reply : Reply) → op ≡ AtSlot slot call reply → IsInstall call → Lived turns slot op

lived_then : (turns : List Turn) (slot : ℕ) (op : Op) (a : Attributes) →
    live_by slot op (live (slot_history slot turns)) ≡ Some a → Lived turns slot op
lived_then turns slot (AtSlot at call reply) a e = by_slot (eqb at slot) (λ same. eqb-true at slot same) e
  where
    by_slot : (b : Bool) → (b ≡ true → at ≡ slot) →
        cond b (live_after (live (slot_history slot turns)) call reply) (live (slot_history slot turns)) ≡ Some a →
        Lived turns slot (AtSlot at call reply)
    by_slot true here is = elim (lived_before (live (slot_history slot turns)) call reply a is) [
      | inl i ↦ installed call reply (ap (λ n. AtSlot n call reply) (here refl)) i
      | inr b ↦ before b.0 b.1
    ]
    by_slot false here is = before a is
lived_then turns slot (AtRegistry call reply) a e = before a e
lived_then turns slot (AtPool call reply) a e = before a e

pub lived : (turns : List Turn) (who : Who) (op : Op) (slot : ℕ) (a : Attributes) →
    live (slot_history slot (turns ++ turn_of who op ∷ [])) ≡ Some a → Lived turns slot op
lived turns who op slot a e = lived_then turns slot op a (sym (live_turn slot turns who op) ∙ e)

-- What is live in each slot after one more turn.
abbrev pub AllMade : List Turn → Type 0
AllMade turns = (slot : ℕ) (a : Attributes) → live (slot_history slot turns) ≡ Some a → IsMadeIn turns slot

pub all_made : (turns : List Turn) (who : Who) (op : Op) → AllMade turns →
    ((slot : ℕ) (call : Call) (reply : Reply) → op ≡ AtSlot slot call reply → IsInstall call → IsMadeIn turns slot) →
    AllMade (turns ++ turn_of who op ∷ [])
all_made turns who op all its slot a e = elim (lived turns who op slot a e) [
  | before b old ↦ still_made turns (turn_of who op) slot (all slot b old)
  | installed c reply is i ↦ still_made turns (turn_of who op) slot (its slot c reply is i)
]

-- The step that requests an install.
installs_there : {kind : Kind} (phase : Phase kind) (now slot : ℕ) (id key : ℤ) (cred : Cred) (mode moment : ℕ) →
    OfSlot slot (Install id key cred mode moment) ≡ asks phase now →
    (made : ℤ) × IsBeforeInstall (Goes phase) made × (slot ≡ slot_of_id made)
installs_there (AtInstall get made) now slot id key cred mode moment e = (made, refl, cc)
installs_there phase now slot id key cred mode moment e = absurd cc

-- A turn leads to an install if it made the identifier, and else not.
abbrev IsInstallIn : {kind : Kind} → Option (State kind) → ℤ → Type 0
IsInstallIn None id = ⊥
IsInstallIn (Some state) id = IsBeforeInstall state id

not_on : {kind : Kind} (a : Afterwards kind) (id : ℤ) → IsBeforeInstall (goes_on a) id → ⊥
not_on (IsRefused why) id e = e
not_on (WaitsOn wait) id e = e

made_told : {kind : Kind} (turns : List Turn) (who : Who) (phase : Phase kind) (now : ℕ) (op : Op) (id : ℤ) →
    IsInstallIn (next phase (told (asks phase now) op)) id →
    IsMadeIn (turns ++ turn_of who (told (asks phase now) op) ∷ []) (slot_of_id id)
made_told turns who (AtBegin g) now (AtRegistry c (Made made)) id same =
    subst (λ i. IsMadeIn (turns ++ turn_of who (AtRegistry (Begin g.key g.flags) (Made made)) ∷ []) (slot_of_id i)) same
    (made_now turns who g.key g.flags made)
made_told turns who (AtLook send) now (AtSlot at c (Full freed)) id n = absurd (not_on (waits_or send.nowait _ _) id n)
made_told turns who (AtReserve send) now (AtPool c TooFew) id n = absurd (not_on (waits_or send.nowait _ _) id n)
made_told turns who (AtTake r) now (AtSlot at c (NoMatch arrived)) id n = absurd (not_on (waits_or r.nowait _ _) id n)
made_told turns who (AtSendGiveback blocks afterwards) now (AtPool c Released) id n = absurd (not_on afterwards id n)
made_told turns who (AtSendGiveback blocks afterwards) now (AtPool c Foreign) id n = absurd (not_on afterwards id n)
made_told turns who (AtInstall g made) now (AtSlot at c (Installed true)) id n = absurd n
made_told turns who (AtInstall g made) now (AtSlot at c (Installed false)) id n = absurd n
made_told turns who phase now (AtSlot at c Gone) id n = absurd n
made_told turns who phase now (AtSlot at c reply) id n = absurd n
made_told turns who phase now (AtRegistry c (Changed done)) id n = absurd n
made_told turns who phase now (AtRegistry c reply) id n = absurd n
made_told turns who phase now (AtPool c Released) id n = absurd n
made_told turns who phase now (AtPool c Foreign) id n = absurd n
made_told turns who phase now (AtPool c reply) id n = absurd n

made_next : {kind : Kind} (turns : List Turn) (who : Who) (phase : Phase kind) (now : ℕ) (op : Op) (state : State kind)
    (id : ℤ) → asked_by op ≡ asks phase now → next phase op ≡ Some state → IsBeforeInstall state id →
    IsMadeIn (turns ++ turn_of who op ∷ []) (slot_of_id id)
made_next turns who phase now op state id asked goes e =
    let is = told_is (asks phase now) op asked in
    subst (λ d. IsMadeIn (turns ++ turn_of who d ∷ []) (slot_of_id id)) is
    (made_told turns who phase now op id
    (subst (λ o. IsInstallIn o id) (sym (ap (next phase) is ∙ goes)) e))

-- ---- the actors

is_in : (call : Invocation) (state : State (kind_of call.asked)) (d : Doing) → doing_in call state ≡ Some d →
    d ≡ record { call = call; state = state }
is_in call (Goes phase) d e = cc
is_in call (Waits wait) d e = cc
is_in call (Over ending) d e = absurd cc

-- What an actor does after one of them does something else.
pub data Does (actors : List (Option Doing)) (place : ℕ) (call : Invocation) (state : State (kind_of call.asked))
    (at : ℕ) (d : Doing) : Type 0 where
  moved : place ≡ at → d ≡ record { call = call; state = state } → Does actors place call state at d
  other : slice_get actors at ≡ Some (Some d) → Does actors place call state at d

pub does : (actors : List (Option Doing)) (place : ℕ) (was : Option Doing) (call : Invocation)
    (state : State (kind_of call.asked)) (at : ℕ)
    (d : Doing) → slice_get actors place ≡ Some was →
    slice_get (slice_set actors place (doing_in call state)) at ≡ Some (Some d) → Does actors place call state at d
does actors place was call state at d there here = elim (cases_eq place at) [
  | inl same ↦
      let got : Some (doing_in call state) ≡ Some (Some d) =
      sym (get_set_same actors place (doing_in call state) was there)
      ∙ subst (λ n. slice_get (slice_set actors place (doing_in call state)) n ≡ Some (Some d)) (sym same) here in
      moved same (is_in call state d (some_is got))
  | inr apart ↦ other (sym (get_set_other actors place at (doing_in call state) apart) ∙ here)
]

pub own_still : (actors : List (Option Doing)) (place : ℕ) (was : Option Doing) (call : Invocation)
    (state : State (kind_of call.asked)) →
    slice_get actors place ≡ Some was → AreOwn actors → IsToCaller call.who (suc place) → HasItsBlocks state →
    AreOwn (slice_set actors place (doing_in call state))
own_still actors place was call state there all own blocks = λ at d here.
    elim (does actors place was call state at d there here) [
      | moved same is ↦ subst (λ (x : Doing). IsToCaller x.call.who (suc at) × HasItsBlocks x.state) (sym is)
          (subst (λ n. IsToCaller call.who (suc n)) same own, blocks)
      | other old ↦ all at d old
    ]

abbrev pub AreInstalled : List Turn → List (Option Doing) → Type 0
AreInstalled turns actors = (place : ℕ) (d : Doing) (id : ℤ) → slice_get actors place ≡ Some (Some d) →
    IsBeforeInstall d.state id → IsMadeIn turns (slot_of_id id)

-- The actors after the call of one moved.
pub all_installed : (turns more : List Turn) (actors : List (Option Doing)) (place : ℕ) (was : Option Doing)
    (call : Invocation) (state : State (kind_of call.asked)) → slice_get actors place ≡ Some was →
    ((slot : ℕ) → IsMadeIn turns slot → IsMadeIn more slot) → AreInstalled turns actors →
    ((id : ℤ) → IsBeforeInstall state id → IsMadeIn more (slot_of_id id)) →
    AreInstalled more (slice_set actors place (doing_in call state))
all_installed turns more actors place was call state there still all own = λ at d id here e.
    elim (does actors place was call state at d there here) [
      | moved same is ↦ own id (subst (λ (x : Doing). IsBeforeInstall x.state id) is e)
      | other old ↦ still (slot_of_id id) (all at d id old e)
    ]

-- One whose call is not before an install.
no_install : {kind : Kind} (state : State kind) (id : ℤ) → job_at state ≡ None → IsBeforeInstall state id → ⊥
no_install (Goes (AtInstall get made)) id none e = cc
no_install state id none e = absurd e

pub later_installs : (turns : List Turn) (actors : List (Option Doing)) (place : ℕ) (was : Option Doing)
    (call : Invocation) (state : State (kind_of call.asked)) → slice_get actors place ≡ Some was →
    AreInstalled turns actors →
    job_at state ≡ None → AreInstalled turns (slice_set actors place (doing_in call state))
later_installs turns actors place was call state there all none =
    all_installed turns turns actors place was call state there (λ slot m. m) all
    (λ id e. absurd (no_install state id none e))

-- A call that starts, or whose wait ends, has no chain to place.
begun_blocks : (cred : Cred) (asked : SystemCall) (released : ℕ) (b : Bool) →
    HasItsBlocks (cond b (Over (Refused EINVAL)) (Goes (first cred asked released)))
begun_blocks cred asked released true = tt
begun_blocks cred (Msgget key flags) released false = tt
begun_blocks cred asked released false = tt

resumed_blocks : {kind : Kind} (wait : Wait kind) (value : ℕ) → HasItsBlocks (Goes (resume wait value))
resumed_blocks (OnSettled goal get) value = tt
resumed_blocks wait value = tt

-- No queue is live in an unused slot.
pub vacant_there : UnusedSlots → (w : World) → IsSound w → IsUnused w.generation (registry_history w.turns) 0 →
    live (slot_history 0 w.turns) ≡ None
vacant_there unused w s u = none_lives (live (slot_history 0 w.turns)) refl
  where
    none_lives : (o : Option Attributes) → live (slot_history 0 w.turns) ≡ o → live (slot_history 0 w.turns) ≡ None
    none_lives None e = e
    none_lives (Some a) e =
        let m = s.lives 0 a e in
        absurd (unused.never w.generation 0 (registry_history w.turns) u m.id m.key m.made m.here)

module _
    (more : (generation blocks : ℕ) (turns : List Turn) (who : Who) (op : Op) → AreLegal generation blocks turns →
    IsLegalOp generation blocks turns op → AreLegal generation blocks (turns ++ turn_of who op ∷ []))
    (b : BlockLaws) where
  module _ (w : World) (s : IsSound w) (place : ℕ) (call : Invocation) where
    -- The world after a turn of the call.
    pub turn_sound : (phase : Phase (kind_of call.asked)) (now : ℕ) (op : Op) (state : State (kind_of call.asked)) →
        slice_get w.actors place ≡ Some (Some record { call = call; state = Goes phase }) →
        asked_by op ≡ asks phase now →
        IsLegalOp w.generation w.blocks w.turns op → next phase op ≡ Some state →
        IsSound (record w {
          turns = w.turns ++ turn_of call.who op ∷ [];
          actors = slice_set w.actors place (doing_in call state);
          steps = w.steps + 1;
        })
    turn_sound phase now op state there asked legal goes =
        let d : Doing = record { call = call; state = Goes phase } in
        let own = s.own place d there in
        let still = still_made w.turns (turn_of call.who op) in
        record {
          legal = more w.generation w.blocks w.turns call.who op s.legal legal;
          own = own_still w.actors place (Some d) call state there s.own own.0
              (turn_holds b w.generation w.blocks w.turns phase own.1 now state op asked legal goes);
          installs = all_installed w.turns _ w.actors place (Some d) call state there still s.installs
              (λ id is. made_next w.turns call.who phase now op state id asked goes is);
          blocks = turn_conserves b w.generation w.blocks w.turns w.actors s.legal s.blocks place call phase there own.1
              now state op asked legal goes;
          lives = all_made w.turns call.who op s.lives (λ slot c reply is i.
              let at = installs_there phase now slot i.id i.key i.cred i.mode i.now
              (ap (OfSlot slot) (sym i.asks_it) ∙ (ap asked_by (sym is) ∙ asked)) in
              subst (IsMadeIn w.turns) (sym at.2) (s.installs place d at.0 there at.1));
        }

    -- The world after the call continues without a turn.
    pub look_sound : (was state : State (kind_of call.asked)) →
        slice_get w.actors place ≡ Some (Some record { call = call; state = was }) → HasItsBlocks state →
        job_at state ≡ None → held state ≡ held was →
        IsSound (record w { actors = slice_set w.actors place (doing_in call state); steps = w.steps + 1 })
    look_sound was state there l none held_same =
        let d : Doing = record { call = call; state = was } in
        record {
          legal = s.legal;
          own = own_still w.actors place (Some d) call state there s.own (s.own place d there).0 l;
          installs = later_installs w.turns w.actors place (Some d) call state there s.installs none;
          lives = s.lives;
          blocks = stands_conserves w.blocks w.turns w.actors place (Some d) call state there held_same s.blocks;
        }

  start_sound : (w : World) (place : ℕ) (cred : Cred) (asked : SystemCall) → IsSound w →
      slice_get w.actors place ≡ Some None →
      let call = starting w (suc place) cred asked in
      IsSound (record w {
        calls = w.calls ++ call ∷ [];
        actors = slice_set w.actors place (doing_in call (begun call));
        steps = w.steps + 1;
      })
  start_sound w place cred asked s there =
      let call = starting w (suc place) cred asked in
      record {
        legal = s.legal;
        own = own_still w.actors place None call (begun call) there s.own refl
            (begun_blocks cred asked call.released (is_refused asked));
        installs = later_installs w.turns w.actors place None call (begun call) there s.installs
            (begun_none cred asked call.released);
        lives = s.lives;
        blocks = stands_conserves w.blocks w.turns w.actors place None call (begun call) there
            (begun_holds cred asked call.released) s.blocks;
      }

  -- ---- the preset

  module _ (unused : UnusedSlots) where
    -- The three turns are legal.
    preset_legal : (generation blocks : ℕ) (turns : List Turn) → AreLegal generation blocks turns →
        IsUnused generation (registry_history turns) 0 → live (slot_history 0 turns) ≡ None →
        AreLegal generation blocks (with_preset_turns turns)
    preset_legal generation blocks turns legal u vacant =
        let one = more generation blocks turns preset_who preset_begin legal
        (unused.zero generation (registry_history turns) preset_flags u) in
        let first = turns ++ turn_of preset_who preset_begin ∷ [] in
        let same : slot_history 0 first ≡ slot_history 0 turns =
        slot_more 0 turns (turn_of preset_who preset_begin) ∙ append-nil (slot_history 0 turns) in
        let two = more generation blocks first preset_who preset_install one (ap live same ∙ vacant) in
        let second = first ++ turn_of preset_who preset_install ∷ [] in
        let registry : registry_history second ≡ registry_history turns ++ registry_entry preset_who preset_begin =
        registry_more first (turn_of preset_who preset_install)
        ∙ (append-nil (registry_history first) ∙ registry_more turns (turn_of preset_who preset_begin)) in
        more generation blocks second preset_who preset_settle two
        (subst (λ h. IsLegalRegistryReply generation h (Settle (pos 0)) (Changed true)) (sym registry)
        (unused.settles generation (registry_history turns) preset_who IPC_PRIVATE preset_flags (pos 0) legal.registry
        (unused.zero generation (registry_history turns) preset_flags u)))

    preset_sound : (w : World) → IsSound w → IsUnused w.generation (registry_history w.turns) 0 →
        IsSound (with_preset w)
    preset_sound w s u = record {
      legal = preset_legal w.generation w.blocks w.turns s.legal u (vacant_there unused w s u);
      own = s.own;
      installs = λ place d id here e. past (slot_of_id id) (s.installs place d id here e);
      lives = all_made second preset_who preset_settle
          (all_made first preset_who preset_install
          (all_made w.turns preset_who preset_begin s.lives (λ slot c reply is i. absurd cc)) (λ slot c reply is i.
          let here : 0 ≡ slot = cc in
          subst (IsMadeIn first) here (made_now w.turns preset_who IPC_PRIVATE preset_flags (pos 0))))
          (λ slot c reply is i. absurd cc);
      blocks = preset_conserves b w.generation w.blocks w.turns w.actors s.legal s.blocks
          (preset_legal w.generation w.blocks w.turns s.legal u (vacant_there unused w s u));
    }
      where
        first : List Turn
        first = w.turns ++ turn_of preset_who preset_begin ∷ []

        second : List Turn
        second = first ++ turn_of preset_who preset_install ∷ []

        past : (slot : ℕ) → IsMadeIn w.turns slot → IsMadeIn (with_preset_turns w.turns) slot
        past slot m = still_made _ (turn_of preset_who preset_settle) slot
            (still_made _ (turn_of preset_who preset_install) slot
            (still_made w.turns (turn_of preset_who preset_begin) slot m))

    move_sound : (w after : World) (responses : List Response) → IsSound w → Move w responses after → IsSound after
    move_sound w after responses s (stood t) = subst IsSound (sym t.1) s
    move_sound w after responses s (began place cred asked there t) =
        subst IsSound (sym t.1) (start_sound w place cred asked s there)
    move_sound w after responses s (turned place now call phase there t) =
        subst IsSound (sym t.6) (turn_sound w s place call phase now t.0 t.1 there t.2 t.3 t.4)
    move_sound w after responses s (awoke place call wait there reached gave is) =
        let value = value_of w.turns (awaited wait) in
        subst IsSound (sym is)
        (look_sound w s place call (Waits wait) (Goes (resume wait value)) there (resumed_blocks wait value)
        (resumed_none wait value) (resumed_holds wait value))
    move_sound w after responses s (preset_made u gave is) = subst IsSound (sym is) (preset_sound w s u)

    pub makes_sound : StaysSound
    makes_sound w after x responses s m = move_sound w after responses s (moves w after x responses m)

pub opening_sound : (o : Opening) → AreLegal o.generation o.blocks [] → IsSound (opening o)
opening_sound o legal = record {
  legal = legal;
  own = λ place d e. absurd (none_busy o.actors place e);
  installs = λ place d id e is. absurd (none_busy o.actors place e);
  lives = λ slot a e. absurd cc;
  blocks = opening_conserves o.actors o.blocks;
}
