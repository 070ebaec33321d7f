-- What the lives of the identifiers mean: each row is tended, a removal is for good, and an
-- identifier is settled only once it was installed.
use Rattle.std.proofs.Common.{◌≡◌, ◌⊎◌, inl, inr, ℕ, ℤ, Bool, true, false, List, ◌∷◌, ◌++◌, Some, refl, sym, ap, subst}
use Rattle.std.proofs.Common.{◌∙◌, arith, append_assoc}
use Rattle.std.specs.List.{All, list_any, Contains}
use Rattle.std.proofs.lemmas.List.Elements.{All-contains, Contains-append_right}
use Rattle.std.proofs.lemmas.List.Folds.{list_any-append}
use Rattle.std.proofs.lemmas.Bool.{or_left, or_right, cases_Bool}
use Rattle.sysv_model.proofs.Sharing.{all_left}
use Rattle.sysv_model.specs.History.{Who, Entry}
use Rattle.sysv_model.specs.Live.{IsLive}
use Rattle.sysv_model.specs.Turn.{Op, AtSlot, AtRegistry, AtPool, Turn, slot_history, registry_history}
use Rattle.sysv_queue.specs.QueueLaw.{installs}
use Rattle.sysv_queue.specs.LegalReply.{IsLegalHistory}
use Rattle.sysv_queue.specs.ForGood.{RemovedForGood}
use Rattle.sysv_keys.specs.Identifier.{slot_of_id}
use Rattle.sysv_keys.specs.Rows.{forgets, settles, is_settled}
use Rattle.sysv_keys.specs.RegistryLaw.{RegistryLaw, LeavesRow}
use Rattle.sysv_steps.specs.Call.{Kind}
use Rattle.sysv_steps.specs.State.{AtInstall, AtSettle, AtUnmake, AtForget, State, Goes}
use Rattle.sysv_steps.specs.Tended.{HasToSettle, HasToForget}
use Rattle.sysv_core.specs.World.{World}
use Rattle.sysv_core.specs.Tending.{IsTended, AreTended}
use Rattle.sysv_core.specs.Removed.{IsInItsSlot, AreRemovedForGood}
use Rattle.sysv_core.proofs.Histories.{turn_of}
use Rattle.sysv_core.proofs.TurnInHistory.{slot_around}
use Rattle.sysv_core.proofs.Lifetime.{Job, installing, settling, removing, forgetting, does, done, done_on, IsNext}
use Rattle.sysv_core.proofs.Lifetime.{job_at}
use Rattle.sysv_core.proofs.Lifetime.{not_both, passing, Facts, install_home, in_registry, was_made}
use Rattle.sysv_core.proofs.LifetimeGoesOn.{Lives, is_owned, job_there}

-- ---- each row is tended

tends : {kind : Kind} (j : Job) (state : State kind) → job_at state ≡ Some j →
    HasToSettle state j.id ⊎ HasToForget state j.id
tends j (Goes (AtInstall get id)) e = inl cc
tends j (Goes (AtSettle id)) e = inl cc
tends j (Goes (AtUnmake id)) e = inl cc
tends j (Goes (AtForget id blocks)) e = inr cc
tends j state e = absurd cc

pub are_tended : (w : World) → RegistryLaw w.generation (registry_history w.turns) → Lives w.turns w.actors →
    AreTended w
are_tended w law l row has idle = by_install (cases_Bool (done (installing row.id) w.turns))
  where
    is : LeavesRow (registry_history w.turns) row
    is = (law.rows row).0 has

    -- The job was begun and not done.
    held : (j : Job) → j.id ≡ row.id → is_owned j.task ≡ true → IsNext j w.turns → IsTended w row.id
    held j same own next = elim (l.owed j own next) [
      | inl h ↦
          let t = job_there w.actors h.0 j h.1 in
          subst (IsTended w) same
          record { place = h.0; doing = t.0; there = t.1; tends = tends j t.0.state t.2 }
      | inr gone ↦ not_both (done (forgetting row.id) w.turns)
          (subst (λ i. done (forgetting i) w.turns ≡ true) same gone) (in_registry (forgets row.id) w.turns ∙ is.kept)
    ]

    by_idle : done (installing row.id) w.turns ≡ true →
        (row.live ≡ false) ⊎ ¬ IsLive (slot_history (slot_of_id row.id) w.turns) row.id → IsTended w row.id
    by_idle installed (inl unsettled) = held (settling row.id) refl refl
        (installed, in_registry (settles row.id) w.turns ∙ (is.stage ∙ unsettled))
    by_idle installed (inr dead) = elim (cases_Bool (done (removing row.id) w.turns)) [
      | inl removed ↦ held (forgetting row.id) refl refl (removed, in_registry (forgets row.id) w.turns ∙ is.kept)
      | inr kept ↦ absurd (dead (l.facts.alive row.id installed kept))
    ]

    by_install : (done (installing row.id) w.turns ≡ true) ⊎ (done (installing row.id) w.turns ≡ false) →
        IsTended w row.id
    by_install (inl installed) = by_idle installed idle
    by_install (inr not_yet) = held (installing row.id) refl refl (was_made row.id row.key w.turns is.made, not_yet)

-- ---- a removal is for good

pub good_of : RemovedForGood → (turns : List Turn) → Facts turns →
    ((slot : ℕ) → IsLegalHistory (slot_history slot turns)) → AreRemovedForGood turns
good_of for_good turns f legal = record {
  at_home = f.home;
  once = f.once;
  gone = λ slot id before after e same.
      for_good (slot_history slot turns) id (legal slot) (f.once slot id) before after e same;
}

-- ---- settled once installed

abbrev pub was_installed : ℤ → List Turn → Bool
was_installed id turns = list_any (λ (e : Entry). installs id e.call e.reply) (slot_history (slot_of_id id) turns)

-- After each part of the turns, each identifier that was settled was installed.
abbrev pub SettledOnceInstalled : List Turn → Type 0
SettledOnceInstalled turns = (id : ℤ) (front back : List Turn) → turns ≡ front ++ back →
    is_settled id (registry_history front) ≡ true → was_installed id front ≡ true

-- The turn that installs an identifier is one at its slot.
installed_there : (id : ℤ) (before after : List Turn) (who : Who) (op : Op) → IsInItsSlot op →
    does (installing id) op ≡ true → was_installed id (before ++ turn_of who op ∷ after) ≡ true
installed_there id before after who (AtSlot slot call reply) home now =
    let p = λ (e : Entry). installs id e.call e.reply in
    subst (λ n. list_any p (slot_history n (before ++ turn_of who (AtSlot slot call reply) ∷ after)) ≡ true)
    (install_home slot id call reply home now)
    (ap (list_any p) (slot_around slot before after who call reply)
    ∙ (list_any-append p (slot_history slot before) _
    ∙ or_right (list_any p (slot_history slot before)) _ (or_left (installs id call reply) _ now)))
installed_there id before after who (AtRegistry call reply) home now = absurd cc
installed_there id before after who (AtPool call reply) home now = absurd cc

installed_front : (id : ℤ) (turns : List Turn) → All (λ (t : Turn). IsInItsSlot t.op) turns →
    done (installing id) turns ≡ true → was_installed id turns ≡ true
installed_front id turns home e =
    let i = passing (λ (t : Turn). does (installing id) t.op) turns e in
    let its = All-contains (λ (t : Turn). IsInItsSlot t.op) turns i.it home
    (subst (λ (ts : List Turn). Contains ts i.it) (sym i.whole)
    (Contains-append_right i.front (i.it ∷ i.back) i.it (0, omega arith, refl {a = i.it}))) in
    ap (was_installed id) i.whole ∙ installed_there id i.front i.back i.it.who i.it.op its i.passes

pub settled_once_installed : (turns : List Turn) → Facts turns → SettledOnceInstalled turns
settled_once_installed turns f id front back whole e =
    let s = passing (λ (t : Turn). does (settling id) t.op) front (in_registry (settles id) front ∙ e) in
    let next = f.fresh s.front (s.back ++ back) s.it (settling id)
    (whole ∙ (ap (λ ts. ts ++ back) s.whole ∙ append_assoc s.front (s.it ∷ s.back) back)) s.passes in
    installed_front id front (all_left (λ (t : Turn). IsInItsSlot t.op) front back
    (subst (All (λ (t : Turn). IsInItsSlot t.op)) whole f.home))
    (ap (done (installing id)) s.whole ∙ done_on (installing id) s.front (s.it ∷ s.back) next.0)
