-- A get that waits below its goal waits for a row of its key that another call still has to settle
-- or forget.
use Rattle.std.proofs.Common.{◌≡◌, inl, inr, ℕ, ℤ, ◌+◌, ◌<◌, ◌≤◌, ◌||◌, Bool, true, false, List, [], ◌∷◌, ◌++◌}
use Rattle.std.proofs.Common.{refl, sym, ap, subst, ◌∙◌, arith, append_assoc}
use Rattle.std.specs.List.{list_any}
use Rattle.std.proofs.lemmas.Grind.{flat_map-append}
use Rattle.std.proofs.lemmas.List.{append-nil}
use Rattle.std.proofs.lemmas.List.Sums.{sum_by-cons, sum_by-append}
use Rattle.std.proofs.Math.Bool.{or-false}
use Rattle.std.proofs.lemmas.Bool.{or_left}
use Rattle.sysv_model.specs.History.{Who, Probe, Gone, Entry, History}
use Rattle.sysv_model.specs.Live.{live, HasId, IsLive}
use Rattle.sysv_model.specs.Registry.{RegistryCall, RegistryReply, RegistryEntry, RegistryHistory, Begin, Settle}
use Rattle.sysv_model.specs.Registry.{Forget, Found, Busy, Changed, changes_row, settled}
use Rattle.sysv_model.specs.Turn.{Op, AtSlot, AtRegistry, Turn, slot_entry, slot_history, registry_history, ops_of}
use Rattle.sysv_queue.specs.QueueLaw.{installs}
use Rattle.sysv_queue.specs.ForGood.{IsInstalledOnce}
use Rattle.sysv_keys.specs.Identifier.{slot_of_id}
use Rattle.sysv_keys.specs.Rows.{Row, makes, settles, forgets, is_made, is_settled, is_forgotten, IsRow}
use Rattle.sysv_keys.specs.LegalReply.{IsLegalReply, IsLegalHistory as IsLegalRegistryHistory}
use Rattle.sysv_keys.specs.RegistryLaw.{LeavesRow}
use Rattle.sysv_objects.specs.LegalOp.{AreLegal}
use Rattle.sysv_steps.specs.State.{Getting}
use Rattle.sysv_steps.specs.WaitsFor.{WasUnsettled}
use Rattle.sysv_core.specs.World.{World}
use Rattle.sysv_core.specs.Parked.{IsBeingChanged}
use Rattle.sysv_core.specs.Removed.{AreRemovedForGood}
use Rattle.sysv_core.specs.Tending.{AreTended}
use Rattle.sysv_core.proofs.Histories.{turn_of, live_more, one}
use Rattle.sysv_core.proofs.TurnInHistory.{Made, made_at, slot_around, registry_around}
use Rattle.sysv_core.proofs.Lifetime.{any_more, passing, lived}
use Rattle.sysv_core.proofs.LifetimeGoesOn.{EachObeys}
use Rattle.sysv_core.proofs.LifetimeLaws.{SettledOnceInstalled}

-- ---- rows stay while the settled count does

no_forget : (id : ℤ) (c : RegistryCall) (reply : RegistryReply) → changes_row reply ≡ false → forgets id c reply ≡ false
no_forget id (Forget at) (Changed true) e = absurd cc
no_forget id c reply e = refl

no_settle : (id : ℤ) (c : RegistryCall) (reply : RegistryReply) → changes_row reply ≡ false → settles id c reply ≡ false
no_settle id (Settle at) (Changed true) e = absurd cc
no_settle id c reply e = refl

row_still : (h : RegistryHistory) (e : RegistryEntry) (row : Row) → changes_row e.reply ≡ false → LeavesRow h row →
    LeavesRow (h ++ e ∷ []) row
row_still h e row quiet is = record {
  made = any_more (λ (x : RegistryEntry). makes row.id row.key x.call x.reply) h e
      ∙ or_left (is_made row.id row.key h) (makes row.id row.key e.call e.reply) is.made;
  kept = any_more (λ (x : RegistryEntry). forgets row.id x.call x.reply) h e
      ∙ (ap (λ b. is_forgotten row.id h || b) (no_forget row.id e.call e.reply quiet)
      ∙ (or-false (is_forgotten row.id h) ∙ is.kept));
  stage = any_more (λ (x : RegistryEntry). settles row.id x.call x.reply) h e
      ∙ (ap (λ b. is_settled row.id h || b) (no_settle row.id e.call e.reply quiet)
      ∙ (or-false (is_settled row.id h) ∙ is.stage));
}

count_around : (h more : RegistryHistory) (e : RegistryEntry) →
    settled (h ++ e ∷ more) ≡ settled h + (one (changes_row e.reply) + settled more)
count_around h more e =
    let f = λ (x : RegistryEntry). one (changes_row x.reply) in
    omega (arith, sum_by-append f h (e ∷ more), sum_by-cons f e more)

rows_stay : (more h : RegistryHistory) (row : Row) → settled (h ++ more) ≤ settled h → LeavesRow h row →
    LeavesRow (h ++ more) row
rows_stay [] h row le is = subst (λ k. LeavesRow k row) (sym (append-nil h)) is
rows_stay (e ∷ more) h row le is =
    let path = append_assoc h (e ∷ []) more in
    let around = count_around h more e in
    let first = count_around h [] e in
    let quiet = changes (changes_row e.reply) refl (omega (arith, le, around)) in
    let none : one (changes_row e.reply) ≡ 0 = ap one quiet in
    let same : settled ((h ++ e ∷ []) ++ more) ≡ settled (h ++ e ∷ more) = ap settled path in
    subst (λ k. LeavesRow k row) path
    (rows_stay more (h ++ e ∷ []) row (omega (arith, le, around, first, none, same)) (row_still h e row quiet is))
  where
    changes : (b : Bool) → changes_row e.reply ≡ b → one (changes_row e.reply) ≤ 0 → changes_row e.reply ≡ false
    changes false is low = is
    changes true is low = let bad : one (changes_row e.reply) ≡ 1 = ap one is in absurd (omega (arith, bad, low))

-- ---- a queue that does not live, and is not installed again

dead_still : (since h : History) (id : ℤ) →
    ((middle rest : History) (f : Entry) → since ≡ middle ++ f ∷ rest → installs id f.call f.reply ≡ false) →
    ¬ IsLive h id → ¬ IsLive (h ++ since) id
dead_still [] h id none dead = subst (λ (k : History). ¬ IsLive k id) (sym (append-nil h)) dead
dead_still (e ∷ since) h id none dead =
    subst (λ (k : History). ¬ IsLive k id) (append_assoc h (e ∷ []) since)
    (dead_still since (h ++ e ∷ []) id (λ middle rest f same. none (e ∷ middle) rest f (ap (λ k. e ∷ k) same))
    (λ lives. elim (lived (live h) id e.call e.reply (subst (λ l. HasId l id) (live_more h e) lives)).1 [
      | inr old ↦ dead old
      | inl made ↦ let not_made = none [] since e refl in let bad : true ≡ false = sym made ∙ not_made in cc
    ]))

-- A queue that was installed before a turn that found it not live is not live.
never_lives : (id : ℤ) (h before more after : History) (p : Entry) → IsInstalledOnce id h →
    h ≡ (before ++ more) ++ p ∷ after → list_any (λ (x : Entry). installs id x.call x.reply) before ≡ true →
    ¬ IsLive (before ++ more) id → ¬ IsLive h id
never_lives id h before more after p once whole was dead =
    let i = passing (λ (x : Entry). installs id x.call x.reply) before was in
    subst (λ (k : History). ¬ IsLive k id) (sym whole)
    (dead_still (p ∷ after) (before ++ more) id
    (λ middle rest f same.
    once i.front (i.back ++ (more ++ middle)) rest i.it f
    (whole
    ∙ (ap (λ k. (before ++ more) ++ k) same
    ∙ (append_assoc before more (middle ++ f ∷ rest)
    ∙ (ap (λ k. k ++ (more ++ (middle ++ f ∷ rest))) i.whole
    ∙ (append_assoc i.front (i.it ∷ i.back) (more ++ (middle ++ f ∷ rest))
    ∙ ap (λ k. i.front ++ i.it ∷ k)
    (ap (λ k. i.back ++ k) (sym (append_assoc more middle (f ∷ rest)))
    ∙ sym (append_assoc i.back (more ++ middle) (f ∷ rest)))))))) i.passes)
    dead)

-- ---- the two refusals

slot_both : (slot : ℕ) (xs ys : List Turn) → slot_history slot (xs ++ ys) ≡ slot_history slot xs ++ slot_history slot ys
slot_both slot xs ys = flat_map-append (λ (x : Turn). slot_entry slot x.who x.op) xs ys

module _ (laws : EachObeys) (w : World) (legal : AreLegal w.generation w.blocks w.turns) (tended : AreTended w)
    (good : AreRemovedForGood w.turns) (order : SettledOnceInstalled w.turns) (who : Who) (get : Getting) (told : ℕ)
    (below : settled (registry_history w.turns) < told + 1) where
  abbrev all_rows : RegistryHistory
  all_rows = registry_history w.turns

  -- The turns of the registry before others are legal.
  legal_before : (before : List Turn) (more : RegistryHistory) → all_rows ≡ registry_history before ++ more →
      IsLegalRegistryHistory w.generation (registry_history before)
  legal_before before more whole front e back same =
      legal.registry front e (back ++ more) (whole ∙ (ap (λ h. h ++ more) same ∙ append_assoc front (e ∷ back) more))

  -- The row that the registry reported still exists.
  row_now : (front later : List Op) (reply : RegistryReply) (row : Row)
      (m : Made who w.turns front (AtRegistry (Begin get.key get.flags) reply) later) →
      IsRow w.generation (registry_history m.before) row → told ≡ settled (registry_history m.before) →
      IsRow w.generation all_rows row
  row_now front later reply row m is count =
      let e : RegistryEntry = record { who = m.by; call = Begin get.key get.flags; reply = reply } in
      let whole : all_rows ≡ registry_history m.before ++ e ∷ registry_history m.after =
      ap registry_history m.whole ∙ registry_around m.before m.after m.by (Begin get.key get.flags) reply in
      let low : settled (registry_history m.before ++ e ∷ registry_history m.after) < told + 1 =
      subst (λ h. settled h < told + 1) whole below in
      ((laws w.generation all_rows legal.registry).rows row).1 (subst (λ h. LeavesRow h row) (sym whole)
      (rows_stay (e ∷ registry_history m.after) (registry_history m.before) row (omega (arith, low, count))
      (((laws w.generation (registry_history m.before) (legal_before m.before _ whole)).rows row).0 is)))

  registry_legal : (front later : List Op) (reply : RegistryReply)
      (m : Made who w.turns front (AtRegistry (Begin get.key get.flags) reply) later) →
      IsLegalReply w.generation (registry_history m.before) (Begin get.key get.flags) reply
  registry_legal front later reply m =
      legal.registry (registry_history m.before) (record { who = m.by; call = Begin get.key get.flags; reply = reply })
      (registry_history m.after)
      (ap registry_history m.whole ∙ registry_around m.before m.after m.by (Begin get.key get.flags) reply)

  pub was_busy : (front : List Op) →
      ops_of who w.turns ≡ front ++ AtRegistry (Begin get.key get.flags) (Busy told) ∷ [] → IsBeingChanged w get.key
  was_busy front e =
      let m = made_at who w.turns front (AtRegistry (Begin get.key get.flags) (Busy told)) [] e in
      let l = registry_legal front [] (Busy told) m in
      let row : Row = record { id = l.1.0; key = get.key; live = false } in
      let is = row_now front [] (Busy told) row m l.1.1 l.2 in
      record { row = row; bound = is; of_key = refl; tended = tended row is (inl refl) }

  pub was_gone : (id : ℤ) (front : List Op) →
      ops_of who w.turns
      ≡ front ++ AtRegistry (Begin get.key get.flags) (Found id told)
      ∷ AtSlot (slot_of_id id) (Probe id get.cred get.flags) Gone ∷ [] → IsBeingChanged w get.key
  was_gone id front e =
      let slot = slot_of_id id in
      let probe = Probe id get.cred get.flags in
      let begin_op = AtRegistry (Begin get.key get.flags) (Found id told) in
      let m = made_at who w.turns front begin_op (AtSlot slot probe Gone ∷ []) e in
      let p = made_at who m.after [] (AtSlot slot probe Gone) [] m.later_is in
      let l = registry_legal front (AtSlot slot probe Gone ∷ []) (Found id told) m in
      let row : Row = record { id = id; key = get.key; live = true } in
      let is = row_now front (AtSlot slot probe Gone ∷ []) (Found id told) row m l.1 l.2 in
      let x : Entry = record { who = p.by; call = probe; reply = Gone } in
      let since = turn_of m.by begin_op ∷ p.before in
      let turns_are : w.turns ≡ (m.before ++ since) ++ turn_of p.by (AtSlot slot probe Gone) ∷ p.after =
      m.whole
      ∙ (ap (λ ts. m.before ++ turn_of m.by begin_op ∷ ts) p.whole
      ∙ sym (append_assoc m.before since (turn_of p.by (AtSlot slot probe Gone) ∷ p.after))) in
      let parts : slot_history slot (m.before ++ since) ≡ slot_history slot m.before ++ slot_history slot since =
      slot_both slot m.before since in
      let around : slot_history slot w.turns ≡ slot_history slot (m.before ++ since) ++ x ∷ slot_history slot p.after =
      ap (slot_history slot) turns_are ∙ slot_around slot (m.before ++ since) p.after p.by probe Gone in
      let dead : ¬ IsLive (slot_history slot (m.before ++ since)) id =
      legal.slots slot (slot_history slot (m.before ++ since)) x (slot_history slot p.after) around in
      let left = ((laws w.generation (registry_history m.before) (legal_before m.before _
      (ap registry_history m.whole
      ∙ registry_around m.before m.after m.by (Begin get.key get.flags) (Found id told)))).rows
      row).0 l.1 in
      let was = order id m.before (turn_of m.by begin_op ∷ m.after) m.whole left.stage in
      let not_live = never_lives id (slot_history slot w.turns) (slot_history slot m.before) (slot_history slot since)
      (slot_history slot p.after) x (good.once slot id)
      (around ∙ ap (λ k. k ++ x ∷ slot_history slot p.after) parts) was
      (subst (λ (k : History). ¬ IsLive k id) parts dead) in
      record { row = row; bound = is; of_key = refl; tended = tended row is (inr not_live) }

  pub being_changed : WasUnsettled get told (ops_of who w.turns) → IsBeingChanged w get.key
  being_changed (inl f) = was_busy f.0 f.1
  being_changed (inr f) = was_gone f.0 f.1.0 f.1.1
