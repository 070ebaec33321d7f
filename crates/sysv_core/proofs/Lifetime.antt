-- The lifetime of an identifier: the registry makes it, a queue is installed under it, it is settled
-- and its queue is removed, and it is forgotten. Each of these jobs is done once at most, and only
-- after the job that it follows.
use Rattle.std.proofs.Common.{◌≡◌, ◌⊎◌, inl, inr, ℕ, ℤ, ◌||◌, ◌&&◌, Bool, true, false, cond, List, [], ◌∷◌, ◌++◌}
use Rattle.std.proofs.Common.{Option, None, Some, refl, sym, ap, subst, ◌∙◌, map, append_assoc, option_map}
use Rattle.std.specs.List.{All, list_any, flat_map}
use Rattle.std.specs.Ordering.{int_eq}
use Rattle.std.proofs.Math.Dec.{eqb}
use Rattle.std.proofs.lemmas.Bool.{eqb-true, or_cases, or_parts, or_left, or_right, and_parts, eq-eqb}
use Rattle.std.proofs.lemmas.Bool.Decides.{Decides-int_eq}
use Rattle.std.proofs.lemmas.List.{append-nil}
use Rattle.std.proofs.lemmas.List.Elements.{All-push}
use Rattle.std.proofs.lemmas.List.Folds.{list_any-append}
use Rattle.std.proofs.Math.Bool.{or-false}
use Rattle.sysv_model.specs.declared.attributes.Attributes.{Attributes}
use Rattle.sysv_model.specs.declared.cred.Cred.{Cred}
use Rattle.sysv_model.specs.declared.errno.Errno.TheVariants.{EINVAL}
use Rattle.sysv_model.specs.History.{Who, Call, Install, Place, Take, Set, Remove, Reply, Installed, Accepted, Taken}
use Rattle.sysv_model.specs.History.{Done, Discarded, Entry}
use Rattle.sysv_model.specs.Live.{live, live_after, HasId, IsLive}
use Rattle.sysv_model.specs.Registry.{RegistryCall, RegistryReply, RegistryEntry, Begin, Settle, Forget, Made, Changed}
use Rattle.sysv_model.specs.Turn.{Op, AtSlot, AtRegistry, AtPool, Turn, slot_entry, slot_history, registry_history}
use Rattle.sysv_queue.specs.Slot.{Slot, slot_of}
use Rattle.sysv_queue.specs.LegalReply.{Legal}
use Rattle.sysv_queue.specs.QueueLaw.{removes, installs}
use Rattle.sysv_queue.specs.ForGood.{IsInstalledOnce}
use Rattle.sysv_keys.specs.Identifier.{slot_of_id}
use Rattle.sysv_keys.specs.Rows.{makes, settles, forgets, is_made}
use Rattle.sysv_objects.specs.LegalOp.{IsLegalOp}
use Rattle.sysv_steps.specs.Call.{Kind}
use Rattle.sysv_steps.specs.Call.{SystemCall, Msgget}
use Rattle.sysv_steps.specs.State.{Wait, OnSettled, AtInstall, AtSettle, AtUnmake, AtForget, State, Goes, Over, Refused}
use Rattle.sysv_steps.specs.Begin.{is_refused, first, begin}
use Rattle.sysv_steps.specs.Resume.{resume}
use Rattle.sysv_core.specs.World.{Doing}
use Rattle.sysv_core.specs.Vacant.{FindsVacant, AllFindVacant}
use Rattle.sysv_core.specs.Forgotten.{TakesItsRow, AllTakeTheirRows}
use Rattle.sysv_core.specs.Removed.{IsInItsSlot}
use Rattle.sysv_core.proofs.Histories.{turn_of, slot_more, live_by, live_turn}

-- ---- jobs

pub data Task : Type 0 where
  ToMake : Task
  ToInstall : Task
  ToSettle : Task
  ToRemove : Task
  ToForget : Task

-- What is to be done with an identifier.
pub record Job : Type 0 where
  pub task : Task
  pub id : ℤ

abbrev pub making : ℤ → Job
making id = record { task = ToMake; id = id }

abbrev pub installing : ℤ → Job
installing id = record { task = ToInstall; id = id }

abbrev pub settling : ℤ → Job
settling id = record { task = ToSettle; id = id }

abbrev pub removing : ℤ → Job
removing id = record { task = ToRemove; id = id }

abbrev pub forgetting : ℤ → Job
forgetting id = record { task = ToForget; id = id }

-- The job that the operation does.
abbrev pub job_of : Op → Option Job
job_of (AtSlot slot (Install id key cred mode now) (Installed true)) = Some (installing id)
job_of (AtSlot slot (Remove id cred) (Discarded messages)) = Some (removing id)
job_of (AtRegistry (Begin key flags) (Made id)) = Some (making id)
job_of (AtRegistry (Settle id) (Changed true)) = Some (settling id)
job_of (AtRegistry (Forget id) (Changed true)) = Some (forgetting id)
job_of op = None

abbrev pub gives : ℤ → RegistryCall → RegistryReply → Bool
gives id (Begin key flags) (Made at) = int_eq at id
gives id call reply = false

abbrev pub of_slot : (Call → Reply → Bool) → Op → Bool
of_slot p (AtSlot slot call reply) = p call reply
of_slot p op = false

abbrev pub of_registry : (RegistryCall → RegistryReply → Bool) → Op → Bool
of_registry p (AtRegistry call reply) = p call reply
of_registry p op = false

abbrev pub does_task : Task → ℤ → Op → Bool
does_task ToMake id op = of_registry (gives id) op
does_task ToInstall id op = of_slot (installs id) op
does_task ToSettle id op = of_registry (settles id) op
does_task ToRemove id op = of_slot (removes id) op
does_task ToForget id op = of_registry (forgets id) op

abbrev pub does : Job → Op → Bool
does j op = does_task j.task j.id op

-- One of the turns did the job.
abbrev pub done : Job → List Turn → Bool
done j turns = list_any (λ (t : Turn). does j t.op) turns

-- The job that it follows was done.
abbrev pub IsReadyFor : Task → ℤ → List Turn → Type 0
IsReadyFor ToMake id turns = Unit {0}
IsReadyFor ToInstall id turns = done (making id) turns ≡ true
IsReadyFor ToSettle id turns = done (installing id) turns ≡ true
IsReadyFor ToRemove id turns = done (installing id) turns ≡ true
IsReadyFor ToForget id turns = done (removing id) turns ≡ true

abbrev pub IsReady : Job → List Turn → Type 0
IsReady j turns = IsReadyFor j.task j.id turns

-- The job can be done now, and was not done.
abbrev pub IsNext : Job → List Turn → Type 0
IsNext j turns = IsReady j turns × (done j turns ≡ false)

-- The job that a call in this state has to do. No call comes to give an identifier up, and making
-- one is no call's job.
abbrev pub job_at : {kind : Kind} → State kind → Option Job
job_at (Goes (AtInstall get id)) = Some (installing id)
job_at (Goes (AtSettle id)) = Some (settling id)
job_at (Goes (AtForget id blocks)) = Some (forgetting id)
job_at (Goes (AtUnmake id)) = Some (making id)
job_at state = None

abbrev pub job_in : Option Doing → Option Job
job_in None = None
job_in (Some d) = job_at d.state

abbrev pub jobs_of : List (Option Doing) → List (Option Job)
jobs_of actors = map job_in actors

-- A call has none when it starts, and none when its wait ends.
pub resumed_none : {kind : Kind} (wait : Wait kind) (value : ℕ) → job_at (Goes (resume wait value)) ≡ None
resumed_none (OnSettled goal get) value = refl
resumed_none wait value = refl

pub begun_none : (cred : Cred) (asked : SystemCall) (released : ℕ) → job_at (begin cred asked released) ≡ None
begun_none cred asked released = by_value asked (is_refused asked)
  where
    by_value : (c : SystemCall) (b : Bool) →
        job_at (cond b (Over (Refused EINVAL)) (Goes (first cred c released))) ≡ None
    by_value c true = refl
    by_value (Msgget key flags) false = refl
    by_value c false = refl

-- ---- booleans and lists

pub some_is : {X : Type 0} {x y : X} → Some x ≡ Some y → x ≡ y
some_is e = cc

pub not_both : {A : Type 0} (b : Bool) → b ≡ true → b ≡ false → A
not_both b t f = absurd cc

-- What would imply something false is false.
pub falls : (a b : Bool) → (a ≡ true → b ≡ true) → b ≡ false → a ≡ false
falls true b f e = not_both b (f refl) e
falls false b f e = refl

pub same_int : (a : ℤ) → int_eq a a ≡ true
same_int a = (Decides-int_eq a a).1 refl

pub any_more : {X : Type 0} (p : X → Bool) (xs : List X) (x : X) → list_any p (xs ++ x ∷ []) ≡ (list_any p xs || p x)
any_more p xs x = list_any-append p xs (x ∷ []) ∙ ap (λ b. list_any p xs || b) (or-false (p x))

-- The first element that passes a test.
pub record Passes {X : Type 0} (p : X → Bool) (xs : List X) : Type 0 where
  pub front : List X
  pub it : X
  pub back : List X
  pub whole : xs ≡ front ++ it ∷ back
  pub passes : p it ≡ true
  pub none_before : list_any p front ≡ false

pub passing : {X : Type 0} (p : X → Bool) (xs : List X) → list_any p xs ≡ true → Passes p xs
passing p [] e = absurd cc
passing p (x ∷ xs) e = by_first (p x) refl e (passing p xs)
  where
    by_first : (b : Bool) → p x ≡ b → (b || list_any p xs) ≡ true → (list_any p xs ≡ true → Passes p xs) →
        Passes p (x ∷ xs)
    by_first true is any rest = record { front = []; it = x; back = xs; whole = refl; passes = is; none_before = refl }
    by_first false is any rest =
        let r = rest any in
        record {
          front = x ∷ r.front;
          it = r.it;
          back = r.back;
          whole = ap (λ k. x ∷ k) r.whole;
          passes = r.passes;
          none_before = ap (λ b. b || list_any p r.front) is ∙ r.none_before;
        }

pub passed : {X : Type 0} (p q : X → Bool) (xs : List X) (s : Passes p xs) → q s.it ≡ true → list_any q xs ≡ true
passed p q xs s e =
    ap (list_any q) s.whole
    ∙ (list_any-append q s.front (s.it ∷ s.back)
    ∙ or_right (list_any q s.front) (q s.it || list_any q s.back) (or_left (q s.it) (list_any q s.back) e))

pub none_after : {X A : Type 0} (front back : List X) (y : X) → [] ≡ front ++ y ∷ back → A
none_after [] back y e = absurd cc
none_after (x ∷ front) back y e = absurd cc

-- An element of a list with one more at its end is that one, or is in the list.
split_last : {X : Type 0} (xs : List X) (x : X) (front back : List X) (y : X) → xs ++ x ∷ [] ≡ front ++ y ∷ back →
    ((front ≡ xs) × (y ≡ x)) ⊎ ((rest : List X) × (xs ≡ front ++ y ∷ rest))
split_last [] x [] back y e = inl (refl, cc)
split_last [] x (z ∷ front) back y e =
    let tail : [] ≡ front ++ y ∷ back = cc in none_after front back y tail
split_last (z ∷ xs) x [] back y e = let same : z ≡ y = cc in inr (xs, ap (λ w. w ∷ xs) same)
split_last (z ∷ xs) x (w ∷ front) back y e =
    let same : z ≡ w = cc in
    let tail : xs ++ x ∷ [] ≡ front ++ y ∷ back = cc in
    elim (split_last xs x front back y tail) [
      | inl last ↦ inl (ap (λ ys. w ∷ ys) last.0 ∙ ap (λ v. v ∷ xs) (sym same), last.1)
      | inr r ↦ inr (r.0, ap (λ v. v ∷ xs) same ∙ ap (λ ys. w ∷ ys) r.1)
    ]

-- ---- what an operation does

does_job : (task : Task) (id : ℤ) (op : Op) → does (record { task = task; id = id }) op ≡ true →
    job_of op ≡ Some (record { task = task; id = id })
does_job ToInstall id (AtSlot slot (Install at key cred mode now) (Installed true)) e =
    ap (λ i. Some (installing i)) ((Decides-int_eq at id).0 e)
does_job ToRemove id (AtSlot slot (Remove at cred) (Discarded messages)) e =
    ap (λ i. Some (removing i)) ((Decides-int_eq at id).0 e)
does_job ToMake id (AtRegistry (Begin key flags) (Made at)) e = ap (λ i. Some (making i)) ((Decides-int_eq at id).0 e)
does_job ToSettle id (AtRegistry (Settle at) (Changed true)) e =
    ap (λ i. Some (settling i)) ((Decides-int_eq at id).0 e)
does_job ToForget id (AtRegistry (Forget at) (Changed true)) e =
    ap (λ i. Some (forgetting i)) ((Decides-int_eq at id).0 e)
does_job task id op e = absurd cc

-- An operation does one job.
pub one_job : (i j : Job) (op : Op) → does i op ≡ true → job_of op ≡ Some j → i ≡ j
one_job i j op e is = some_is (sym (does_job i.task i.id op e) ∙ is)

pub no_job : (i : Job) (op : Op) → job_of op ≡ None → does i op ≡ false
no_job i op none = by_value (does i op) refl
  where
    by_value : (b : Bool) → does i op ≡ b → does i op ≡ false
    by_value true e = let bad : None ≡ Some i = sym none ∙ does_job i.task i.id op e in absurd cc
    by_value false e = e

pub job_does : (op : Op) (j : Job) → job_of op ≡ Some j → does j op ≡ true
job_does (AtSlot slot (Install id key cred mode now) (Installed true)) j e =
    subst (λ i. does i (AtSlot slot (Install id key cred mode now) (Installed true)) ≡ true) (some_is e) (same_int id)
job_does (AtSlot slot (Remove id cred) (Discarded messages)) j e =
    subst (λ i. does i (AtSlot slot (Remove id cred) (Discarded messages)) ≡ true) (some_is e) (same_int id)
job_does (AtRegistry (Begin key flags) (Made id)) j e =
    subst (λ i. does i (AtRegistry (Begin key flags) (Made id)) ≡ true) (some_is e) (same_int id)
job_does (AtRegistry (Settle id) (Changed true)) j e =
    subst (λ i. does i (AtRegistry (Settle id) (Changed true)) ≡ true) (some_is e) (same_int id)
job_does (AtRegistry (Forget id) (Changed true)) j e =
    subst (λ i. does i (AtRegistry (Forget id) (Changed true)) ≡ true) (some_is e) (same_int id)
job_does op j e = absurd cc

-- ---- what was done

pub done_on : (j : Job) (front back : List Turn) → done j front ≡ true → done j (front ++ back) ≡ true
done_on j front back e =
    list_any-append (λ (t : Turn). does j t.op) front back ∙ or_left (done j front) (done j back) e

pub ready_on : (j : Job) (front back : List Turn) → IsReady j front → IsReady j (front ++ back)
ready_on j front back r = by_task j.task j.id r
  where
    by_task : (task : Task) (id : ℤ) → IsReadyFor task id front → IsReadyFor task id (front ++ back)
    by_task ToMake id e = tt
    by_task ToInstall id e = done_on (making id) front back e
    by_task ToSettle id e = done_on (installing id) front back e
    by_task ToRemove id e = done_on (installing id) front back e
    by_task ToForget id e = done_on (removing id) front back e

module _ (turns : List Turn) (who : Who) (op : Op) where
  pub done_more : (j : Job) → done j (turns ++ turn_of who op ∷ []) ≡ (done j turns || does j op)
  done_more j = any_more (λ (t : Turn). does j t.op) turns (turn_of who op)

  pub done_now : (j : Job) → does j op ≡ true → done j (turns ++ turn_of who op ∷ []) ≡ true
  done_now j e = done_more j ∙ or_right (done j turns) (does j op) e

  pub not_done : (j : Job) → done j turns ≡ false → does j op ≡ false →
      done j (turns ++ turn_of who op ∷ []) ≡ false
  not_done j e f = done_more j ∙ (ap (λ b. b || does j op) e ∙ f)

  pub undone : (j : Job) → done j (turns ++ turn_of who op ∷ []) ≡ false →
      (done j turns ≡ false) × (does j op ≡ false)
  undone j e = or_parts (done j turns) (does j op) (sym (done_more j) ∙ e)

  pub done_by : (j : Job) → done j (turns ++ turn_of who op ∷ []) ≡ true →
      (done j turns ≡ true) ⊎ (does j op ≡ true)
  done_by j e = or_cases (done j turns) (does j op) (sym (done_more j) ∙ e)

-- ---- what the turns say of an identifier

-- The queue that is live in the slot.
pub record IsInUse (turns : List Turn) (slot : ℕ) (id : ℤ) : Type 0 where
  pub here : slot_of_id id ≡ slot
  pub installed : done (installing id) turns ≡ true
  pub kept : done (removing id) turns ≡ false

pub record Facts (turns : List Turn) : Type 0 where
  -- Each job was done when it was the next.
  pub fresh : (front back : List Turn) (t : Turn) (j : Job) → turns ≡ front ++ t ∷ back → does j t.op ≡ true →
      IsNext j front
  pub once : (slot : ℕ) (id : ℤ) → IsInstalledOnce id (slot_history slot turns)
  -- A queue is live from its install to its removal.
  pub lives : (slot : ℕ) (id : ℤ) → HasId (live (slot_history slot turns)) id → IsInUse turns slot id
  pub alive : (id : ℤ) → done (installing id) turns ≡ true → done (removing id) turns ≡ false →
      IsLive (slot_history (slot_of_id id) turns) id
  pub home : All (λ (t : Turn). IsInItsSlot t.op) turns
  pub vacant : AllFindVacant turns
  pub taken : AllTakeTheirRows turns

pub ordered : (turns : List Turn) → Facts turns → (j : Job) → done j turns ≡ true → IsReady j turns
ordered turns f j e =
    let s = passing (λ (t : Turn). does j t.op) turns e in
    subst (IsReady j) (sym s.whole)
    (ready_on j s.front (s.it ∷ s.back) (f.fresh s.front s.back s.it j s.whole s.passes).0)

any_parts : {X Y : Type 0} (p : Y → Bool) (f : X → List Y) (xs : List X) →
    list_any p (flat_map f xs) ≡ list_any (λ x. list_any p (f x)) xs
any_parts p f [] = refl
any_parts p f (x ∷ xs) =
    list_any-append p (f x) (flat_map f xs) ∙ ap (λ b. list_any p (f x) || b) (any_parts p f xs)

in_slot : (p : Call → Reply → Bool) (slot : ℕ) (who : Who) (op : Op) →
    list_any (λ (e : Entry). p e.call e.reply) (slot_entry slot who op) ≡ true → of_slot p op ≡ true
in_slot p slot who (AtSlot at call reply) e = by_slot (eqb at slot) e
  where
    by_slot : (b : Bool) → list_any (λ (x : Entry). p x.call x.reply)
        (cond b (record { who = who; call = call; reply = reply } ∷ []) []) ≡ true → p call reply ≡ true
    by_slot true some = sym (or-false (p call reply)) ∙ some
    by_slot false some = absurd cc
in_slot p slot who (AtRegistry call reply) e = absurd cc
in_slot p slot who (AtPool call reply) e = absurd cc

-- A turn in the history of a slot is one of the turns.
of_slots : (p : Call → Reply → Bool) (slot : ℕ) (turns : List Turn) →
    list_any (λ (e : Entry). p e.call e.reply) (slot_history slot turns) ≡ true →
    list_any (λ (t : Turn). of_slot p t.op) turns ≡ true
of_slots p slot turns e =
    let in_it = λ (t : Turn). list_any (λ (x : Entry). p x.call x.reply) (slot_entry slot t.who t.op) in
    let s = passing in_it turns
    (sym (any_parts (λ (x : Entry). p x.call x.reply) (λ (t : Turn). slot_entry slot t.who t.op) turns) ∙ e) in
    passed in_it (λ (t : Turn). of_slot p t.op) turns s (in_slot p slot s.it.who s.it.op s.passes)

-- ---- one more turn

-- What is demanded of a turn.
abbrev pub IsSeemly : Op → Type 0
IsSeemly op = IsInItsSlot op × FindsVacant op × TakesItsRow op

abbrev pub IsLegalAtSlot : List Turn → Op → Type 0
IsLegalAtSlot turns (AtSlot slot call reply) = Legal (slot_of (slot_history slot turns)) call reply
IsLegalAtSlot turns op = Unit {0}

pub legal_at_slot : (generation blocks : ℕ) (turns : List Turn) (op : Op) →
    IsLegalOp generation blocks turns op → IsLegalAtSlot turns op
legal_at_slot generation blocks turns (AtSlot slot call reply) l = l
legal_at_slot generation blocks turns (AtRegistry call reply) l = tt
legal_at_slot generation blocks turns (AtPool call reply) l = tt

pub record IsFine (turns : List Turn) (op : Op) : Type 0 where
  pub seemly : IsSeemly op
  pub legal : IsLegalAtSlot turns op
  pub next : (j : Job) → does j op ≡ true → IsNext j turns

-- A turn that leaves a queue live installed it, or found it live and did not remove it.
pub lived : (l : Option Attributes) (id : ℤ) (call : Call) (reply : Reply) → HasId (live_after l call reply) id →
    (removes id call reply ≡ false) × ((installs id call reply ≡ true) ⊎ HasId l id)
lived l id (Install at key cred mode now) (Installed true) lives = (refl, inl ((Decides-int_eq at id).1 lives))
lived (Some a) id (Place at cred mtype bytes now) (Accepted number) lives = (refl, inr lives)
lived (Some a) id (Take at cred selector size noerror now) (Taken m) lives = (refl, inr lives)
lived (Some a) id (Set at cred to now) Done lives = (refl, inr lives)
lived None id (Place at cred mtype bytes now) (Accepted number) lives = absurd lives
lived None id (Take at cred selector size noerror now) (Taken m) lives = absurd lives
lived None id (Set at cred to now) Done lives = absurd lives
lived l id (Remove at cred) (Discarded messages) lives = absurd lives
lived l id call reply lives = (refl, inr lives)

-- A legal turn keeps a queue live that it does not remove.
keeps : (id : ℤ) (f : Attributes → Attributes) → ((a : Attributes) → (f a).id ≡ a.id) → (l : Option Attributes) →
    HasId l id → HasId (option_map f l) id
keeps id f same None lives = absurd lives
keeps id f same (Some a) lives = same a ∙ lives

pub one_id : (o : Option Attributes) (x y : ℤ) → HasId o x → HasId o y → x ≡ y
one_id None x y p q = absurd p
one_id (Some a) x y p q = sym p ∙ q

lives_on : (s : Slot) (id : ℤ) (call : Call) (reply : Reply) → Legal s call reply → HasId s.live id →
    removes id call reply ≡ false → HasId (live_after s.live call reply) id
lives_on s id (Install at key cred mode now) (Installed true) l lives kept =
    absurd (subst (λ a. HasId a id) l lives)
lives_on s id (Place at cred mtype bytes now) (Accepted number) l lives kept = keeps id _ (λ a. refl) s.live lives
lives_on s id (Take at cred selector size noerror now) (Taken m) l lives kept = keeps id _ (λ a. refl) s.live lives
lives_on s id (Set at cred to now) Done l lives kept = keeps id _ (λ a. refl) s.live lives
lives_on s id (Remove at cred) (Discarded messages) l lives kept =
    not_both (int_eq at id) ((Decides-int_eq at id).1 (one_id s.live at id l.0 lives)) kept
lives_on s id call reply l lives kept = lives

-- A removal finds the queue live.
removal_live : (s : Slot) (id : ℤ) (call : Call) (reply : Reply) → Legal s call reply → removes id call reply ≡ true →
    HasId s.live id
removal_live s id (Remove at cred) (Discarded messages) l e = subst (HasId s.live) ((Decides-int_eq at id).0 e) l.0
removal_live s id call reply l e = absurd cc

pub install_home : (at : ℕ) (id : ℤ) (call : Call) (reply : Reply) → IsInItsSlot (AtSlot at call reply) →
    installs id call reply ≡ true → at ≡ slot_of_id id
install_home at id (Install made key cred mode now) (Installed true) home e =
    home ∙ ap slot_of_id ((Decides-int_eq made id).0 e)
install_home at id call reply home e = absurd cc

installed_live : (l : Option Attributes) (id : ℤ) (call : Call) (reply : Reply) → installs id call reply ≡ true →
    HasId (live_after l call reply) id
installed_live l id (Install made key cred mode now) (Installed true) e = (Decides-int_eq made id).0 e
installed_live l id call reply e = absurd cc

module _ (turns : List Turn) (f : Facts turns) (who : Who) where
  abbrev more : Op → List Turn
  more op = turns ++ turn_of who op ∷ []

  in_use_still : (op : Op) (slot : ℕ) (id : ℤ) → IsInUse turns slot id → does (removing id) op ≡ false →
      IsInUse (more op) slot id
  in_use_still op slot id u kept = record {
    here = u.here;
    installed = done_on (installing id) turns (turn_of who op ∷ []) u.installed;
    kept = not_done turns who op (removing id) u.kept kept;
  }

  lives_then : (op : Op) → IsFine turns op → (slot : ℕ) (id : ℤ) →
      HasId (live_by slot op (live (slot_history slot turns))) id → IsInUse (more op) slot id
  lives_then (AtSlot at call reply) fine slot id has = by_slot (eqb at slot) refl has
    where
      by_slot : (b : Bool) → eqb at slot ≡ b →
          HasId (cond b (live_after (live (slot_history slot turns)) call reply) (live (slot_history slot turns))) id →
          IsInUse (more (AtSlot at call reply)) slot id
      by_slot true same h =
          let l = lived (live (slot_history slot turns)) id call reply h in
          elim l.1 [
            | inl now ↦ record {
              here = sym (install_home at id call reply fine.seemly.0 now) ∙ eqb-true at slot same;
              installed = done_now turns who (AtSlot at call reply) (installing id) now;
              kept = not_done turns who (AtSlot at call reply) (removing id)
                  (falls (done (removing id) turns) (done (installing id) turns) (ordered turns f (removing id))
                  (fine.next (installing id) now).1) l.0;
            }
            | inr old ↦ in_use_still (AtSlot at call reply) slot id (f.lives slot id old) l.0
          ]
      by_slot false apart h =
          let u = f.lives slot id h in
          in_use_still (AtSlot at call reply) slot id u (falls (removes id call reply) false (λ gone.
          sym apart
          ∙ eq-eqb at slot (sym (f.lives at id
          (removal_live (slot_of (slot_history at turns)) id call reply fine.legal gone)).here ∙ u.here)) refl)
  lives_then (AtRegistry call reply) fine slot id has =
      in_use_still (AtRegistry call reply) slot id (f.lives slot id has) refl
  lives_then (AtPool call reply) fine slot id has =
      in_use_still (AtPool call reply) slot id (f.lives slot id has) refl

  alive_then : (op : Op) → IsFine turns op → (id : ℤ) →
      (does (installing id) op ≡ true)
      ⊎ (IsLive (slot_history (slot_of_id id) turns) id × (does (removing id) op ≡ false)) →
      HasId (live_by (slot_of_id id) op (live (slot_history (slot_of_id id) turns))) id
  alive_then (AtSlot at call reply) fine id (inl now) =
      let l = live (slot_history (slot_of_id id) turns) in
      subst (λ b. HasId (cond b (live_after l call reply) l) id)
      (sym (eq-eqb at (slot_of_id id) (install_home at id call reply fine.seemly.0 now)))
      (installed_live l id call reply now)
  alive_then (AtSlot at call reply) fine id (inr (lives, kept)) =
      by_slot (eqb at (slot_of_id id)) (λ e. eqb-true at (slot_of_id id) e)
    where
      by_slot : (b : Bool) → (b ≡ true → at ≡ slot_of_id id) →
          HasId (cond b (live_after (live (slot_history (slot_of_id id) turns)) call reply)
          (live (slot_history (slot_of_id id) turns))) id
      by_slot true here = lives_on (slot_of (slot_history (slot_of_id id) turns)) id call reply
          (subst (λ n. Legal (slot_of (slot_history n turns)) call reply) (here refl) fine.legal) lives kept
      by_slot false here = lives
  alive_then (AtRegistry call reply) fine id (inl now) = absurd cc
  alive_then (AtRegistry call reply) fine id (inr old) = old.0
  alive_then (AtPool call reply) fine id (inl now) = absurd cc
  alive_then (AtPool call reply) fine id (inr old) = old.0

  once_by : (slot at : ℕ) (call : Call) (reply : Reply) (id : ℤ) (b : Bool) → IsFine turns (AtSlot at call reply) →
      IsInstalledOnce id (slot_history slot turns ++ cond b (record { who = who; call = call; reply = reply } ∷ []) [])
  once_by slot at call reply id true fine before middle after e x same first =
      let h = slot_history slot turns in
      elim (split_last h (record { who = who; call = call; reply = reply }) (before ++ e ∷ middle) after x
      (same ∙ sym (append_assoc before (e ∷ middle) (x ∷ after)))) [
        | inr old ↦ f.once slot id before middle old.0 e x
            (old.1 ∙ append_assoc before (e ∷ middle) (x ∷ old.0)) first
        | inl last ↦
            let was = of_slots (installs id) slot turns
            (ap (list_any (λ (y : Entry). installs id y.call y.reply)) (sym last.0)
            ∙ (list_any-append (λ (y : Entry). installs id y.call y.reply) before (e ∷ middle)
            ∙ or_right (list_any (λ (y : Entry). installs id y.call y.reply) before) _
            (or_left (installs id e.call e.reply) _ first))) in
            ap (λ (y : Entry). installs id y.call y.reply) last.1
            ∙ falls (installs id call reply) false
            (λ now. not_both (done (installing id) turns) was (fine.next (installing id) now).1) refl
      ]
  once_by slot at call reply id false fine before middle after e x same first =
      f.once slot id before middle after e x (sym (append-nil (slot_history slot turns)) ∙ same) first

  once_then : (op : Op) → IsFine turns op → (slot : ℕ) (id : ℤ) →
      IsInstalledOnce id (slot_history slot turns ++ slot_entry slot who op)
  once_then (AtSlot at call reply) fine slot id = once_by slot at call reply id (eqb at slot) fine
  once_then (AtRegistry call reply) fine slot id =
      subst (IsInstalledOnce id) (sym (append-nil (slot_history slot turns))) (f.once slot id)
  once_then (AtPool call reply) fine slot id =
      subst (IsInstalledOnce id) (sym (append-nil (slot_history slot turns))) (f.once slot id)

  pub facts_more : (op : Op) → IsFine turns op → Facts (more op)
  facts_more op fine = record {
    fresh = λ front back t j whole e. elim (split_last turns (turn_of who op) front back t whole) [
      | inl last ↦ subst (IsNext j) (sym last.0)
          (fine.next j (ap (λ (x : Turn). does j x.op) (sym last.1) ∙ e))
      | inr old ↦ f.fresh front old.0 t j old.1 e
    ];
    once = λ slot id.
        subst (IsInstalledOnce id) (sym (slot_more slot turns (turn_of who op))) (once_then op fine slot id);
    lives = λ slot id has.
        lives_then op fine slot id (subst (λ l. HasId l id) (live_turn slot turns who op) has);
    alive = λ id made kept.
        let k = undone turns who op (removing id) kept in
        subst (λ l. HasId l id) (sym (live_turn (slot_of_id id) turns who op))
        (alive_then op fine id (elim (done_by turns who op (installing id) made) [
          | inl old ↦ inr (f.alive id old k.0, k.1)
          | inr now ↦ inl now
        ]));
    home = All-push (λ (t : Turn). IsInItsSlot t.op) turns (turn_of who op) f.home fine.seemly.0;
    vacant = All-push (λ (t : Turn). FindsVacant t.op) turns (turn_of who op) f.vacant fine.seemly.1;
    taken = All-push (λ (t : Turn). TakesItsRow t.op) turns (turn_of who op) f.taken fine.seemly.2;
  }

-- ---- the same in the histories

registry_first : (p : RegistryCall → RegistryReply → Bool) (who : Who) (op : Op) (turns : List Turn) →
    list_any (λ (t : Turn). of_registry p t.op) turns
    ≡ list_any (λ (e : RegistryEntry). p e.call e.reply) (registry_history turns) →
    list_any (λ (t : Turn). of_registry p t.op) (turn_of who op ∷ turns)
    ≡ list_any (λ (e : RegistryEntry). p e.call e.reply) (registry_history (turn_of who op ∷ turns))
registry_first p who (AtSlot slot call reply) turns e = e
registry_first p who (AtRegistry call reply) turns e = ap (λ b. p call reply || b) e
registry_first p who (AtPool call reply) turns e = e

pub in_registry : (p : RegistryCall → RegistryReply → Bool) (turns : List Turn) →
    list_any (λ (t : Turn). of_registry p t.op) turns
    ≡ list_any (λ (e : RegistryEntry). p e.call e.reply) (registry_history turns)
in_registry p [] = refl
in_registry p (t ∷ turns) = registry_first p t.who t.op turns (in_registry p turns)

abbrev pub WasMade : ℤ → List Turn → Type 0
WasMade id turns = (key : ℤ) × (is_made id key (registry_history turns) ≡ true)

key_of : (id : ℤ) (op : Op) → does (making id) op ≡ true → (key : ℤ) × (of_registry (makes id key) op ≡ true)
key_of id (AtRegistry (Begin key flags) (Made at)) e = (key, ap (λ b. b && int_eq key key) e ∙ same_int key)
key_of id op e = absurd cc

pub made_for : (id : ℤ) (turns : List Turn) → done (making id) turns ≡ true → WasMade id turns
made_for id turns e =
    let s = passing (λ (t : Turn). does (making id) t.op) turns e in
    let k = key_of id s.it.op s.passes in (
      k.0,
      sym (in_registry (makes id k.0) turns)
          ∙ passed (λ (t : Turn). does (making id) t.op) (λ (t : Turn). of_registry (makes id k.0) t.op) turns s
          k.1,
    )

of_key : (id key : ℤ) (op : Op) → of_registry (makes id key) op ≡ true → does (making id) op ≡ true
of_key id key (AtRegistry (Begin asked flags) (Made at)) e = (and_parts (int_eq at id) (int_eq asked key) e).0
of_key id key op e = absurd cc

pub was_made : (id key : ℤ) (turns : List Turn) → is_made id key (registry_history turns) ≡ true →
    done (making id) turns ≡ true
was_made id key turns e =
    let s = passing (λ (t : Turn). of_registry (makes id key) t.op) turns (in_registry (makes id key) turns ∙ e) in
    passed (λ (t : Turn). of_registry (makes id key) t.op) (λ (t : Turn). does (making id) t.op) turns s
    (of_key id key s.it.op s.passes)

pub gave : (id key : ℤ) (call : RegistryCall) (reply : RegistryReply) → makes id key call reply ≡ true →
    reply ≡ Made id
gave id key (Begin asked flags) (Made at) e =
    ap Made ((Decides-int_eq at id).0 (and_parts (int_eq at id) (int_eq asked key) e).0)
gave id key call reply e = absurd cc
