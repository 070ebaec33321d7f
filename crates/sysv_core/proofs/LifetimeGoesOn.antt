-- A turn of a call does the job that the call has, or none; and each job that was begun is held by
-- one call until it is done.
use Rattle.std.proofs.Common.{◌≡◌, ◌≢◌, ◌⊎◌, inl, inr, ℕ, zero, suc, ℤ, pos, Bool, true, false, List, [], ◌∷◌}
use Rattle.std.proofs.Common.{◌++◌, Option, None, Some, IsSome, refl, sym, ap, subst, ◌∙◌, arith, slice_get, slice_set}
use Rattle.std.proofs.Common.{append_assoc, option_map, replicate}
use Rattle.std.proofs.lemmas.Option.{slice_get-map}
use Rattle.std.proofs.lemmas.Bool.{cases_Bool, cases_eq}
use Rattle.std.proofs.lemmas.List.{map-set}
use Rattle.sysv_model.specs.declared.attributes.Attributes.{Attributes}
use Rattle.sysv_model.specs.declared.flags.Flags.{Flags}
use Rattle.sysv_model.specs.declared.limits.TheConstants.{IPC_PRIVATE}
use Rattle.sysv_model.specs.History.{Who, Installed, Gone, Full, NoMatch, Discarded}
use Rattle.sysv_model.specs.Live.{live, HasId}
use Rattle.sysv_model.specs.Registry.{Begin, Made, Changed, RegistryEntry, RegistryHistory}
use Rattle.sysv_model.specs.Pool.{TooFew, Released, Foreign}
use Rattle.sysv_model.specs.Turn.{Op, AtSlot, AtRegistry, AtPool, asked_by, Turn, slot_entry, registry_entry}
use Rattle.sysv_model.specs.Turn.{pool_entry, slot_history, registry_history, pool_history}
use Rattle.sysv_keys.specs.Identifier.{slot_of_id}
use Rattle.sysv_keys.specs.Rows.{Row, makes, forgets, settles, is_settled, IsRow}
use Rattle.sysv_keys.specs.LegalReply.{IsLegalHistory as IsLegalRegistryHistory}
use Rattle.sysv_keys.specs.RegistryLaw.{RegistryLaw, LeavesRow}
use Rattle.sysv_objects.specs.LegalOp.{IsLegalOp, AreLegal}
use Rattle.sysv_steps.specs.Call.{Kind, kind_of}
use Rattle.sysv_steps.specs.State.{Afterwards, IsRefused, WaitsOn, Phase, AtBegin, AtInstall, AtSettle, AtUnmake}
use Rattle.sysv_steps.specs.State.{AtLook, Getting, Id, AtReserve, AtSendGiveback, AtTake}
use Rattle.sysv_steps.specs.State.{AtRemove, AtForget, State, Goes, Waits, Over}
use Rattle.sysv_steps.specs.Asks.{asks}
use Rattle.sysv_steps.specs.Next.{waits_or, goes_on, next}
use Rattle.sysv_core.specs.World.{Invocation, Doing, doing_in, preset_who, preset_cred, preset_flags, preset_begin}
use Rattle.sysv_core.specs.World.{preset_install, preset_settle, with_preset_turns}
use Rattle.sysv_core.proofs.Told.{told, told_is}
use Rattle.sysv_core.proofs.Lists.{slice_set-same, get_set_same, get_set_other, none_busy, map-replicate}
use Rattle.sysv_core.proofs.Histories.{turn_of, slot_more, registry_more, pool_more, begun_turns, installed_turns}
use Rattle.sysv_core.proofs.TurnInHistory.{slot_around, registry_around}
use Rattle.sysv_core.proofs.Lifetime.{Task, ToMake, ToInstall, ToSettle, ToRemove, ToForget, Job, making, installing}
use Rattle.sysv_core.proofs.Lifetime.{settling, removing, forgetting, job_of, does, done, IsReadyFor, IsReady, IsNext}
use Rattle.sysv_core.proofs.Lifetime.{job_at, job_in, jobs_of, some_is, not_both, falls, passing, one_job, no_job}
use Rattle.sysv_core.proofs.Lifetime.{job_does}
use Rattle.sysv_core.proofs.Lifetime.{done_on, ready_on, done_now, not_done, undone, done_by, Facts, ordered, IsSeemly}
use Rattle.sysv_core.proofs.Lifetime.{legal_at_slot, IsFine, facts_more, in_registry, made_for, gave, none_after}

-- ---- the jobs of the calls

-- Each job that was begun and not done is a call's to do.
abbrev pub is_owned : Task → Bool
is_owned ToMake = false
is_owned ToRemove = false
is_owned task = true

abbrev pub IsHeld : Job → List (Option Job) → Type 0
IsHeld j jobs = (place : ℕ) × (slice_get jobs place ≡ Some (Some j))

pub record Lifetime (turns : List Turn) (jobs : List (Option Job)) : Type 0 where
  pub facts : Facts turns
  pub holds : (place : ℕ) (j : Job) → slice_get jobs place ≡ Some (Some j) →
      IsNext j turns × (is_owned j.task ≡ true)
  pub alone : (p q : ℕ) (j : Job) → slice_get jobs p ≡ Some (Some j) → slice_get jobs q ≡ Some (Some j) → p ≡ q
  pub owed : (j : Job) → is_owned j.task ≡ true → IsNext j turns →
      IsHeld j jobs ⊎ (done (forgetting j.id) turns ≡ true)

-- The job that comes with another one.
abbrev pub follow_of : Task → ℤ → Option Job
follow_of ToMake id = Some (installing id)
follow_of ToInstall id = Some (settling id)
follow_of ToRemove id = Some (forgetting id)
follow_of task id = None

abbrev pub follow : Job → Option Job
follow j = follow_of j.task j.id

-- What a turn does for a call that had the one job and then has the other.
pub data Step (turns : List Turn) (op : Op) (was then : Option Job) : Type 0 where
  -- No job is done. If the call had one, its identifier was forgotten already.
  rests : job_of op ≡ None → ((j : Job) → was ≡ Some j → done (forgetting j.id) turns ≡ true) → then ≡ None →
      Step turns op was then
  acts : (j : Job) → job_of op ≡ Some j → IsNext j turns → ((i : Job) → was ≡ Some i → i ≡ j) →
      (is_owned j.task ≡ true → was ≡ Some j) → then ≡ follow j → Step turns op was then

record IsAfter (j i : Job) : Type 0 where
  on : (turns : List Turn) → done j turns ≡ true → IsReady i turns
  back : (turns : List Turn) → IsReady i turns → done j turns ≡ true
  owned : is_owned i.task ≡ true
  apart : i ≢ j

tasks : {i j : Job} → i ≡ j → i.task ≡ j.task
tasks e = ap (λ (j : Job). j.task) e

after : (task : Task) (id : ℤ) (i : Job) → follow_of task id ≡ Some i → IsAfter (record { task = task; id = id }) i
after ToMake id i e = subst (IsAfter (making id)) (some_is e)
    record { on = λ ts d. d; back = λ ts d. d; owned = refl; apart = λ x. let t : ToInstall ≡ ToMake = tasks x in cc }
after ToInstall id i e = subst (IsAfter (installing id)) (some_is e)
    record { on = λ ts d. d; back = λ ts d. d; owned = refl; apart = λ x. let t : ToSettle ≡ ToInstall = tasks x in cc }
after ToRemove id i e = subst (IsAfter (removing id)) (some_is e)
    record { on = λ ts d. d; back = λ ts d. d; owned = refl; apart = λ x. let t : ToForget ≡ ToRemove = tasks x in cc }
after task id i e = absurd cc

module _ (turns : List Turn) (who : Who) (op : Op) where
  abbrev more : List Turn
  more = turns ++ turn_of who op ∷ []

  -- A job that is ready after the turn was ready before it, or follows what the turn did.
  readies : (task : Task) (id : ℤ) → is_owned task ≡ true → IsReadyFor task id more →
      IsReadyFor task id turns
      ⊎ ((j : Job) × (does j op ≡ true) × (follow j ≡ Some (record { task = task; id = id })))
  readies ToInstall id own r =
      elim (done_by turns who op (making id) r) [ inl old ↦ inl old | inr now ↦ inr (making id, now, refl) ]
  readies ToSettle id own r =
      elim (done_by turns who op (installing id) r) [ inl old ↦ inl old | inr now ↦ inr (installing id, now, refl) ]
  readies ToForget id own r =
      elim (done_by turns who op (removing id) r) [ inl old ↦ inl old | inr now ↦ inr (removing id, now, refl) ]
  readies ToMake id own r = absurd cc
  readies ToRemove id own r = absurd cc

  -- What a step means for all jobs.
  record IsStep (was then : Option Job) : Type 0 where
    new : (i : Job) → then ≡ Some i → IsNext i more × (is_owned i.task ≡ true) × (IsReady i turns → ⊥)
    own : (i : Job) → is_owned i.task ≡ true → does i op ≡ true → was ≡ Some i
    came : (i : Job) → is_owned i.task ≡ true → IsReady i more → IsReady i turns ⊎ (then ≡ Some i)
    left : (i : Job) → was ≡ Some i → (done i more ≡ true) ⊎ (done (forgetting i.id) more ≡ true)

  step_is : Facts turns → (was then : Option Job) → Step turns op was then → IsStep was then
  step_is f was then (rests none gone nothing) = record {
    new = λ i is. let bad : None ≡ Some i = sym nothing ∙ is in absurd cc;
    own = λ i o d. not_both (does i op) d (no_job i op none);
    came = λ i o r. elim (readies i.task i.id o r) [
      | inl old ↦ inl old
      | inr now ↦ not_both (does now.0 op) now.1 (no_job now.0 op none)
    ];
    left = λ i is. inr (done_on (forgetting i.id) turns (turn_of who op ∷ []) (gone i is));
  }
  step_is f was then (acts j job is_next mine held to) =
      let now : does j op ≡ true = job_does op j job in
      record {
        new = λ i is.
            let a = after j.task j.id i (sym to ∙ is) in
            let never : IsReady i turns → ⊥ = λ r. not_both (done j turns) (a.back turns r) is_next.1 in (
              (
                a.on more (done_now turns who op j now),
                not_done turns who op i (elim (cases_Bool (done i turns)) [
                  | inl d ↦ absurd (never (ordered turns f i d))
                  | inr d ↦ d
                ]) (falls (does i op) false (λ d. absurd (a.apart (one_job i j op d job))) refl),
              ),
              a.owned,
              never,
            );
        own = λ i o d.
            let same : j ≡ i = sym (one_job i j op d job) in
            subst (λ x. was ≡ Some x) same (held (subst (λ (x : Job). is_owned x.task ≡ true) (sym same) o));
        came = λ i o r. elim (readies i.task i.id o r) [
          | inl old ↦ inl old
          | inr n ↦ inr (to ∙ (ap follow (sym (one_job n.0 j op n.1 job)) ∙ n.2))
        ];
        left = λ i is. inl (subst (λ x. done x more ≡ true) (sym (mine i is)) (done_now turns who op j now));
      }

  pub lifetime_turn : (jobs : List (Option Job)) → Lifetime turns jobs → (place : ℕ) (was then : Option Job) →
      slice_get jobs place ≡ Some was → IsFine turns op → Step turns op was then →
      Lifetime more (slice_set jobs place then)
  lifetime_turn jobs l place was then there fine step =
      let s = step_is l.facts was then step in
      record {
        facts = facts_more turns l.facts who op fine;
        holds = λ p i at. elim (cases_eq place p) [
          | inl same ↦ let n = s.new i (now_is p i same at) in (n.0, n.1)
          | inr apart ↦
              let old = then_is p i apart at in
              let h = l.holds p i old in (
                (
                  ready_on i turns (turn_of who op ∷ []) h.0.0,
                  not_done turns who op i h.0.1 (falls (does i op) false
                      (λ d. absurd (apart (l.alone place p i (there ∙ ap (λ x. Some x) (s.own i h.1 d)) old))) refl),
                ),
                h.1,
              )
        ];
        alone = λ p q i at_p at_q. elim (cases_eq place p) [
          | inl same ↦ elim (cases_eq place q) [
            | inl also ↦ sym same ∙ also
            | inr apart ↦ absurd ((s.new i (now_is p i same at_p)).2 (l.holds q i (then_is q i apart at_q)).0.0)
          ]
          | inr apart ↦ elim (cases_eq place q) [
            | inl also ↦ absurd ((s.new i (now_is q i also at_q)).2 (l.holds p i (then_is p i apart at_p)).0.0)
            | inr far ↦ l.alone p q i (then_is p i apart at_p) (then_is q i far at_q)
          ]
        ];
        owed = λ i o n. elim (s.came i o n.0) [
          | inr to ↦ inl (place, get_set_same jobs place then was there ∙ ap (λ x. Some x) to)
          | inl ready ↦ elim (l.owed i o (ready, (undone turns who op i n.1).0)) [
            | inr gone ↦ inr (done_on (forgetting i.id) turns (turn_of who op ∷ []) gone)
            | inl h ↦ elim (cases_eq place h.0) [
              | inr apart ↦ inl (h.0, get_set_other jobs place h.0 then apart ∙ h.1)
              | inl same ↦ elim (s.left i (some_is (sym there ∙ (ap (slice_get jobs) same ∙ h.1)))) [
                | inl d ↦ not_both (done i more) d n.1
                | inr gone ↦ inr gone
              ]
            ]
          ]
        ];
      }
    where
      now_is : (p : ℕ) (i : Job) → place ≡ p → slice_get (slice_set jobs place then) p ≡ Some (Some i) → then ≡ Some i
      now_is p i same at = some_is (sym (get_set_same jobs place then was there)
          ∙ subst (λ n. slice_get (slice_set jobs place then) n ≡ Some (Some i)) (sym same) at)

      then_is : (p : ℕ) (i : Job) → place ≢ p → slice_get (slice_set jobs place then) p ≡ Some (Some i) →
          slice_get jobs p ≡ Some (Some i)
      then_is p i apart at = sym (get_set_other jobs place p then apart) ∙ at

-- ---- a turn of a call

abbrev next_job : {kind : Kind} → Option (State kind) → Option Job
next_job None = None
next_job (Some state) = job_at state

rested : {kind : Kind} (a : Afterwards kind) → job_at (goes_on a) ≡ None
rested (IsRefused why) = refl
rested (WaitsOn wait) = refl

-- Each legal history of the registry obeys its law.
abbrev pub EachObeys : Type 0
EachObeys = (generation : ℕ) (h : RegistryHistory) → IsLegalRegistryHistory generation h → RegistryLaw generation h

module _ (registry_law : EachObeys) (generation blocks : ℕ) (turns : List Turn) (f : Facts turns)
    (legal : AreLegal generation blocks turns) where
  is_row : (row : Row) → LeavesRow (registry_history turns) row → IsRow generation (registry_history turns) row
  is_row row = ((registry_law generation (registry_history turns) legal.registry).rows row).1

  -- The row of an identifier that was made and not forgotten.
  abbrev row_of : ℤ → ℤ → Row
  row_of id key = record { id = id; key = key; live = is_settled id (registry_history turns) }

  row_made : (id : ℤ) → done (making id) turns ≡ true → done (forgetting id) turns ≡ false →
      (k : ℤ) × LeavesRow (registry_history turns) (row_of id k)
  row_made id m e =
      let made = made_for id turns m in
      (made.0, record { made = made.1; kept = sym (in_registry (forgets id) turns) ∙ e; stage = refl })

  -- The slot of an identifier that is to be installed is vacant.
  occupied : (id : ℤ) → IsNext (installing id) turns → IsSome (live (slot_history (slot_of_id id) turns)) → ⊥
  occupied id n some = by_value (live (slot_history (slot_of_id id) turns)) refl some
    where
      by_value : (l : Option Attributes) → live (slot_history (slot_of_id id) turns) ≡ l → IsSome l → ⊥
      by_value None e none = let bad : false ≡ true = none in cc
      by_value (Some a) e there =
          let u = f.lives (slot_of_id id) a.id (subst (λ l. HasId l a.id) (sym e) refl) in
          let of : (i : ℤ) → done (forgetting i) turns ≡ true → done (removing i) turns ≡ true =
          λ i. ordered turns f (forgetting i) in
          let its = row_made a.id (ordered turns f (installing a.id) u.installed)
          (falls (done (forgetting a.id) turns) (done (removing a.id) turns) (of a.id) u.kept) in
          let new = row_made id n.0
          (falls (done (forgetting id) turns) (done (installing id) turns)
          (λ d. ordered turns f (removing id) (of id d)) n.1) in
          let same = (registry_law generation (registry_history turns) legal.registry).one_in_slot
          (row_of a.id its.0) (row_of id new.0) (is_row (row_of a.id its.0) its.1) (is_row (row_of id new.0) new.1)
          u.here in
          not_both (done (installing id) turns)
          (subst (λ i. done (installing i) turns ≡ true) (ap (λ (r : Row). r.id) same) u.installed) n.1

  legal_made : (who : Who) (key : ℤ) (flags : Flags) (id : ℤ) →
      IsLegalRegistryHistory generation
      (registry_history (turns ++ turn_of who (AtRegistry (Begin key flags) (Made id)) ∷ []))
      → done (making id) turns ≡ false
  legal_made who key flags id then = falls (done (making id) turns) false again refl
    where
      again : done (making id) turns ≡ true → false ≡ true
      again e =
          let m = made_for id turns e in
          let s = passing (λ (x : RegistryEntry). makes id m.0 x.call x.reply) (registry_history turns) m.1 in
          let h = registry_history (turns ++ turn_of who (AtRegistry (Begin key flags) (Made id)) ∷ []) in
          let last : RegistryEntry = record { who = who; call = Begin key flags; reply = Made id } in
          absurd ((registry_law generation h then).once s.front s.back [] s.it last id
          (registry_around turns [] who (Begin key flags) (Made id)
          ∙ (ap (λ k. k ++ last ∷ []) s.whole ∙ append_assoc s.front (s.it ∷ s.back) (last ∷ [])))
          (gave id m.0 s.it.call s.it.reply s.passes) refl)

  -- A turn of a call that has its job to do.
  abbrev Goes_on : {kind : Kind} → Who → Phase kind → Op → State kind → Type 0
  Goes_on who phase op state =
      ((j : Job) → job_at (Goes phase) ≡ Some j → IsNext j turns × (is_owned j.task ≡ true)) →
      IsLegalOp generation blocks turns op →
      IsLegalRegistryHistory generation (registry_history (turns ++ turn_of who op ∷ [])) →
      next phase op ≡ Some state → IsSeemly op × Step turns op (job_at (Goes phase)) (job_at state)

  -- A turn that does no job, and one that does that of the call.
  quiet : {kind : Kind} (op : Op) (state : State kind) (o : Option (State kind)) → o ≡ Some state → IsSeemly op →
      job_of op ≡ None →
      next_job o ≡ None → IsSeemly op × Step turns op None (job_at state)
  quiet op state o n seemly none to = (seemly, rests none (λ j e. absurd cc) (ap next_job (sym n) ∙ to))

  own : {kind : Kind} (j : Job) (op : Op) (state : State kind) (o : Option (State kind)) → o ≡ Some state →
      IsSeemly op →
      job_of op ≡ Some j → IsNext j turns → next_job o ≡ follow j →
      IsSeemly op × Step turns op (Some j) (job_at state)
  own j op state o n seemly job is_next to =
      (seemly, acts j job is_next (λ i e. sym (some_is e)) (λ e. refl) (ap next_job (sym n) ∙ to))

  step_told : {kind : Kind} (who : Who) (phase : Phase kind) (op : Op) (now : ℕ) (state : State kind) →
      Goes_on who phase (told (asks phase now) op) state
  step_told who (AtBegin get) (AtRegistry c (Made id)) now state has l then n = (
    (tt, tt, tt),
    acts (making id) refl (tt, legal_made who get.key get.flags id then) (λ i e. absurd cc) (λ e. absurd cc)
        (ap next_job (sym n)),
  )
  step_told who (AtInstall get id) (AtSlot at c (Installed true)) now state has l then n =
      own (installing id) _ state _ n (refl, refl, tt) refl (has (installing id) refl).0 refl
  step_told who (AtInstall get id) (AtSlot at c (Installed false)) now state has l then n =
      absurd (occupied id (has (installing id) refl).0 l)
  step_told who (AtInstall get id) op now state has l then n = absurd cc
  step_told who (AtSettle id) (AtRegistry c (Changed true)) now state has l then n =
      own (settling id) _ state _ n (tt, tt, tt) refl (has (settling id) refl).0 refl
  step_told who (AtSettle id) (AtRegistry c (Changed false)) now state has l then n = (
    (tt, tt, tt),
    rests refl (λ j e. subst (λ (i : Job). done (forgetting i.id) turns ≡ true) (some_is e) (gone (cases_Bool _)))
        (ap next_job (sym n)),
  )
    where
      gone : (done (forgetting id) turns ≡ true) ⊎ (done (forgetting id) turns ≡ false) →
          done (forgetting id) turns ≡ true
      gone (inl d) = d
      gone (inr d) =
          let h = (has (settling id) refl).0 in
          let its = row_made id (ordered turns f (installing id) h.0) d in
          let row : Row = record { id = id; key = its.0; live = false } in
          absurd (l its.0 (is_row row
          (record { made = its.1.made; kept = its.1.kept; stage = sym (in_registry (settles id) turns) ∙ h.1 })))
  step_told who (AtSettle id) op now state has l then n = absurd cc
  step_told who (AtForget id blocks) (AtRegistry c (Changed true)) now state has l then n =
      own (forgetting id) _ state _ n (tt, tt, refl) refl (has (forgetting id) refl).0 refl
  step_told who (AtForget id blocks) (AtRegistry c (Changed false)) now state has l then n =
      let h = (has (forgetting id) refl).0 in
      let row = row_made id (ordered turns f (installing id) (ordered turns f (removing id) h.0)) h.1 in
      absurd (l (row_of id row.0) (is_row (row_of id row.0) row.1) refl)
  step_told who (AtForget id blocks) op now state has l then n = absurd cc
  step_told who (AtUnmake id) op now state has l then n = let bad = (has (making id) refl).1 in absurd cc
  step_told who (AtRemove by id) (AtSlot at c (Discarded messages)) now state has l then n =
      let u = f.lives (slot_of_id id) id l.0 in (
        (tt, tt, tt),
        acts (removing id) refl (u.installed, u.kept) (λ i e. absurd cc) (λ e. absurd cc) (ap next_job (sym n)),
      )
  step_told who (AtLook send) (AtSlot at c (Full freed)) now state has l then n =
      quiet _ state _ n (tt, tt, tt) refl (rested (waits_or send.nowait _ _))
  step_told who (AtReserve send) (AtPool c TooFew) now state has l then n =
      quiet _ state _ n (tt, tt, tt) refl (rested (waits_or send.nowait _ _))
  step_told who (AtTake receive) (AtSlot at c (NoMatch arrived)) now state has l then n =
      quiet _ state _ n (tt, tt, tt) refl (rested (waits_or receive.nowait _ _))
  step_told who (AtSendGiveback blocks afterwards) (AtPool c Released) now state has l then n =
      quiet _ state _ n (tt, tt, tt) refl (rested afterwards)
  step_told who (AtSendGiveback blocks afterwards) (AtPool c Foreign) now state has l then n =
      quiet _ state _ n (tt, tt, tt) refl (rested afterwards)
  step_told who phase (AtSlot at c Gone) now state has l then n = quiet _ state _ n (tt, tt, tt) refl refl
  step_told who phase (AtSlot at c reply) now state has l then n = quiet _ state _ n (tt, tt, tt) refl refl
  step_told who phase (AtRegistry c (Changed done)) now state has l then n = quiet _ state _ n (tt, tt, tt) refl refl
  step_told who phase (AtRegistry c reply) now state has l then n = quiet _ state _ n (tt, tt, tt) refl refl
  step_told who phase (AtPool c Released) now state has l then n = quiet _ state _ n (tt, tt, tt) refl refl
  step_told who phase (AtPool c reply) now state has l then n = quiet _ state _ n (tt, tt, tt) refl refl

  -- The call makes a turn.
  pub lifetime_goes : {kind : Kind} (jobs : List (Option Job)) → Lifetime turns jobs →
      (place : ℕ) (who : Who) (phase : Phase kind) (now : ℕ)
      (op : Op) (state : State kind) → slice_get jobs place ≡ Some (job_at (Goes phase)) →
      asked_by op ≡ asks phase now → IsLegalOp generation blocks turns op →
      IsLegalRegistryHistory generation (registry_history (turns ++ turn_of who op ∷ [])) →
      next phase op ≡ Some state → Lifetime (turns ++ turn_of who op ∷ []) (slice_set jobs place (job_at state))
  lifetime_goes jobs l place who phase now op state there asked legal_now then goes =
      let s = subst (λ d. Goes_on who phase d state) (told_is (asks phase now) op asked)
      (step_told who phase op now state)
      (λ j is. l.holds place j (there ∙ ap (λ x. Some x) is)) legal_now then goes in
      lifetime_turn turns who op jobs l place (job_at (Goes phase)) (job_at state) there (record {
        seemly = s.0;
        legal = legal_at_slot generation blocks turns op legal_now;
        next = next_of (job_at (Goes phase)) (job_at state) s.1;
      }) s.1
    where
      next_of : (was to : Option Job) → Step turns op was to → (j : Job) → does j op ≡ true → IsNext j turns
      next_of was to (rests none gone nothing) j d = not_both (does j op) d (no_job j op none)
      next_of was to (acts i job is_next mine held then_is) j d =
          subst (λ x. IsNext x turns) (sym (one_job j i op d job)) is_next

-- ---- the actors

jobs_get : (actors : List (Option Doing)) (place : ℕ) (was : Option Doing) → slice_get actors place ≡ Some was →
    slice_get (jobs_of actors) place ≡ Some (job_in was)
jobs_get actors place was there = slice_get-map job_in actors place ∙ ap (option_map job_in) there

job_is : (call : Invocation) (state : State (kind_of call.asked)) → job_in (doing_in call state) ≡ job_at state
job_is call (Goes phase) = refl
job_is call (Waits wait) = refl
job_is call (Over ending) = refl

pub jobs_set : (actors : List (Option Doing)) (place : ℕ) (call : Invocation) (state : State (kind_of call.asked)) →
    slice_set (jobs_of actors) place (job_at state) ≡ jobs_of (slice_set actors place (doing_in call state))
jobs_set actors place call state = ap (slice_set (jobs_of actors) place) (sym (job_is call state))
    ∙ sym (map-set job_in actors place (doing_in call state))

-- The actor whose call has a job.
pub job_there : (actors : List (Option Doing)) (place : ℕ) (j : Job) →
    slice_get (jobs_of actors) place ≡ Some (Some j) →
    (d : Doing) × (slice_get actors place ≡ Some (Some d)) × (job_at d.state ≡ Some j)
job_there actors place j at = by_value (slice_get actors place) refl (sym (slice_get-map job_in actors place) ∙ at)
  where
    by_value : (o : Option (Option Doing)) → slice_get actors place ≡ o → option_map job_in o ≡ Some (Some j) →
        (d : Doing) × (slice_get actors place ≡ Some (Some d)) × (job_at d.state ≡ Some j)
    by_value None is e = absurd cc
    by_value (Some None) is e = let bad : None ≡ Some j = some_is e in absurd cc
    by_value (Some (Some d)) is e = (d, is, some_is e)

abbrev pub Lives : List Turn → List (Option Doing) → Type 0
Lives turns actors = Lifetime turns (jobs_of actors)

pub lives_turn : EachObeys → (generation blocks : ℕ) (turns : List Turn) (actors : List (Option Doing)) (place : ℕ)
    (call : Invocation) (phase : Phase (kind_of call.asked)) (now : ℕ) (op : Op) (state : State (kind_of call.asked)) →
    slice_get actors place ≡ Some (Some record { call = call; state = Goes phase }) → asked_by op ≡ asks phase now →
    AreLegal generation blocks turns → IsLegalOp generation blocks turns op →
    AreLegal generation blocks (turns ++ turn_of call.who op ∷ []) → next phase op ≡ Some state →
    Lives turns actors → Lives (turns ++ turn_of call.who op ∷ []) (slice_set actors place (doing_in call state))
lives_turn law generation blocks turns actors place call phase now op state there asked legal l then goes lifetime =
    subst (Lifetime (turns ++ turn_of call.who op ∷ [])) (jobs_set actors place call state)
    (lifetime_goes law generation blocks turns lifetime.facts legal (jobs_of actors) lifetime place call.who phase now
    op state
    (jobs_get actors place (Some record { call = call; state = Goes phase }) there) asked l then.registry goes)

-- A call that starts, or whose wait ends, has no job before and after.
pub lives_stand : (turns : List Turn) (actors : List (Option Doing)) (place : ℕ) (was : Option Doing)
    (call : Invocation)
    (state : State (kind_of call.asked)) → slice_get actors place ≡ Some was → job_in was ≡ None → job_at state ≡ None →
    Lives turns actors → Lives turns (slice_set actors place (doing_in call state))
lives_stand turns actors place was call state there none then l =
    subst (Lifetime turns)
    (sym (slice_set-same (jobs_of actors) place None (jobs_get actors place was there ∙ ap (λ x. Some x) none))
    ∙ (ap (slice_set (jobs_of actors) place) (sym then) ∙ jobs_set actors place call state)) l

none_in : (n place : ℕ) (j : Job) → slice_get (jobs_of (replicate n None)) place ≡ Some (Some j) → ⊥
none_in n place j e = none_busy n place (ap (λ js. slice_get js place) (sym (map-replicate job_in n None)) ∙ e)

pub opening_lives : (n : ℕ) → Lives [] (replicate n None)
opening_lives n = record {
  facts = record {
    fresh = λ front back t j whole e. none_after front back t whole;
    once = λ slot id before middle after e f same i. none_after before (middle ++ f ∷ after) e same;
    lives = λ slot id has. absurd has;
    alive = λ id e kept. absurd cc;
    home = λ k d low. absurd (omega (arith, low));
    vacant = λ k d low. absurd (omega (arith, low));
    taken = λ k d low. absurd (omega (arith, low));
  };
  holds = λ p j at. absurd (none_in n p j at);
  alone = λ p q j at also. absurd (none_in n p j at);
  owed = λ j o next. absurd (nothing_ready j.task j.id o next.0);
}
  where
    nothing_ready : (task : Task) (id : ℤ) → is_owned task ≡ true → IsReadyFor task id [] → ⊥
    nothing_ready ToInstall id o r = cc
    nothing_ready ToSettle id o r = cc
    nothing_ready ToForget id o r = cc
    nothing_ready ToMake id o r = cc
    nothing_ready ToRemove id o r = cc

-- ---- the preset, which is a get of nobody

-- A job list with one more call in front, which has no job.
lifetime_before : (turns : List Turn) (jobs : List (Option Job)) → Lifetime turns jobs → Lifetime turns (None ∷ jobs)
lifetime_before turns jobs l = record {
  facts = l.facts;
  holds = holds;
  alone = alone;
  owed = λ j o n. elim (l.owed j o n) [ inl h ↦ inl (suc h.0, h.1) | inr gone ↦ inr gone ];
}
  where
    holds : (p : ℕ) (j : Job) → slice_get (None ∷ jobs) p ≡ Some (Some j) → IsNext j turns × (is_owned j.task ≡ true)
    holds zero j at = absurd cc
    holds (suc p) j at = l.holds p j at

    alone : (p q : ℕ) (j : Job) → slice_get (None ∷ jobs) p ≡ Some (Some j) →
        slice_get (None ∷ jobs) q ≡ Some (Some j) → p ≡ q
    alone zero q j at also = absurd cc
    alone (suc p) zero j at also = absurd cc
    alone (suc p) (suc q) j at also = ap suc (l.alone p q j at also)

lifetime_behind : (turns : List Turn) (jobs : List (Option Job)) → Lifetime turns (None ∷ jobs) → Lifetime turns jobs
lifetime_behind turns jobs l = record {
  facts = l.facts;
  holds = λ p j at. l.holds (suc p) j at;
  alone = λ p q j at also. omega (arith, l.alone (suc p) (suc q) j at also);
  owed = λ j o n. elim (l.owed j o n) [ inl h ↦ there j h.0 h.1 | inr gone ↦ inr gone ];
}
  where
    there : (j : Job) (p : ℕ) → slice_get (None ∷ jobs) p ≡ Some (Some j) →
        IsHeld j jobs ⊎ (done (forgetting j.id) turns ≡ true)
    there j zero at = absurd cc
    there j (suc p) at = inl (p, at)

-- A turn of nobody that does no job.
pub lifetime_apart : (turns : List Turn) (who : Who) (op : Op) (jobs : List (Option Job)) → Lifetime turns jobs →
    IsFine turns op → job_of op ≡ None → Lifetime (turns ++ turn_of who op ∷ []) jobs
lifetime_apart turns who op jobs l fine none =
    lifetime_behind (turns ++ turn_of who op ∷ []) jobs
    (lifetime_turn turns who op (None ∷ jobs) (lifetime_before turns jobs l) 0 None None refl fine
    (rests none (λ j e. absurd cc) refl))

-- The turns before a turn are legal if those up to it are, and so is its operation.
front_legal : (generation blocks : ℕ) (turns : List Turn) (t : Turn) → AreLegal generation blocks (turns ++ t ∷ []) →
    AreLegal generation blocks turns
front_legal generation blocks turns t l = record {
  slots = λ slot before e after same. l.slots slot before e (after ++ slot_entry slot t.who t.op)
      (slot_more slot turns t
      ∙ (ap (λ h. h ++ slot_entry slot t.who t.op) same ∙ append_assoc before (e ∷ after) _));
  registry = λ before e after same. l.registry before e (after ++ registry_entry t.who t.op)
      (registry_more turns t ∙ (ap (λ h. h ++ registry_entry t.who t.op) same ∙ append_assoc before (e ∷ after) _));
  pool = λ before e after same. l.pool before e (after ++ pool_entry t.who t.op)
      (pool_more turns t ∙ (ap (λ h. h ++ pool_entry t.who t.op) same ∙ append_assoc before (e ∷ after) _));
}

op_legal : (generation blocks : ℕ) (turns : List Turn) (who : Who) (op : Op) →
    AreLegal generation blocks (turns ++ turn_of who op ∷ []) → IsLegalOp generation blocks turns op
op_legal generation blocks turns who (AtSlot slot call reply) l =
    l.slots slot (slot_history slot turns) (record { who = who; call = call; reply = reply }) []
    (slot_around slot turns [] who call reply)
op_legal generation blocks turns who (AtRegistry call reply) l =
    l.registry (registry_history turns) (record { who = who; call = call; reply = reply }) []
    (registry_around turns [] who call reply)
op_legal generation blocks turns who (AtPool call reply) l =
    l.pool (pool_history turns) (record { who = who; call = call; reply = reply }) []
    (pool_more turns (turn_of who (AtPool call reply)))

module _ (law : EachObeys) (generation blocks : ℕ) where
  preset_turn : {kind : Kind} (turns : List Turn) (was : Option Job) (jobs : List (Option Job)) (phase : Phase kind)
      (op : Op)
      (state : State kind) → AreLegal generation blocks (turns ++ turn_of preset_who op ∷ []) →
      was ≡ job_at (Goes phase) → asked_by op ≡ asks phase 0 → next phase op ≡ Some state →
      Lifetime turns (was ∷ jobs) → Lifetime (turns ++ turn_of preset_who op ∷ []) (job_at state ∷ jobs)
  preset_turn turns was jobs phase op state legal is asked goes l =
      lifetime_goes law generation blocks turns l.facts
      (front_legal generation blocks turns (turn_of preset_who op) legal)
      (was ∷ jobs) l 0 preset_who phase 0 op state (ap (λ x. Some x) is) asked
      (op_legal generation blocks turns preset_who op legal) legal.registry goes

  pub preset_lives : (turns : List Turn) (jobs : List (Option Job)) →
      AreLegal generation blocks (with_preset_turns turns) → Lifetime turns jobs →
      Lifetime (with_preset_turns turns) jobs
  preset_lives turns jobs legal l =
      let get : Getting = record { cred = preset_cred; key = IPC_PRIVATE; flags = preset_flags } in
      let two = front_legal generation blocks (installed_turns turns) (turn_of preset_who preset_settle) legal in
      let one = front_legal generation blocks (begun_turns turns) (turn_of preset_who preset_install) two in
      lifetime_behind (with_preset_turns turns) jobs
      (preset_turn (installed_turns turns) (Some (settling (pos 0))) jobs (AtSettle (pos 0)) preset_settle
      (Over (Id (pos 0))) legal refl refl refl
      (preset_turn (begun_turns turns) (Some (installing (pos 0))) jobs (AtInstall get (pos 0)) preset_install
      (Goes (AtSettle (pos 0))) two refl refl refl
      (preset_turn turns None jobs (AtBegin get) preset_begin (Goes (AtInstall get (pos 0))) one refl refl refl
      (lifetime_before turns jobs l))))
