-- What the sends and receives of a queue report after its removal.
use Rattle.std.proofs.Common.{◌≡◌, inl, inr, ℕ, zero, suc, ℤ, Bool, true, false, List, [], ◌∷◌, ◌++◌, refl, sym, ap}
use Rattle.std.proofs.Common.{subst, ◌∙◌, arith, append_assoc, length}
use Rattle.std.specs.List.{All, Contains, list_any}
use Rattle.std.proofs.lemmas.List.Elements.{All-contains, All-contains_itself, All-push, All-weaker}
use Rattle.std.proofs.lemmas.List.Elements.{Contains-append_right, All-nil}
use Rattle.std.proofs.lemmas.List.Folds.{list_any-append}
use Rattle.std.proofs.lemmas.Bool.{or_left, or_from}
use Rattle.sysv_model.specs.declared.cred.Cred.{Cred}
use Rattle.sysv_model.specs.declared.errno.Errno.{Errno}
use Rattle.sysv_model.specs.declared.errno.Errno.TheVariants.{EIDRM, EINVAL}
use Rattle.sysv_model.specs.declared.flags.TheConstants.Flags.{MSG_NOERROR}
use Rattle.sysv_model.specs.HasFlag.{has_flag}
use Rattle.sysv_model.specs.Selector.{selector_for}
use Rattle.sysv_model.specs.History.{Call, Look, Place, Take, Remove, Gone, Discarded, Entry, History}
use Rattle.sysv_model.specs.Turn.{OfSlot, Op, AtSlot, AtRegistry, AtPool, asked_by, Turn, slot_history, is_same}
use Rattle.sysv_model.specs.Turn.{ops_of}
use Rattle.sysv_queue.specs.ForGood.{NamesId, not_live_reply}
use Rattle.sysv_keys.specs.Identifier.{slot_of_id}
use Rattle.sysv_steps.specs.Call.{kind_of}
use Rattle.sysv_steps.specs.Call.{SystemCall, Msgsnd, Msgrcv}
use Rattle.sysv_steps.specs.State.{Ending, Refused, State, Goes, Waits, Over}
use Rattle.sysv_steps.specs.Played.{Plays}
use Rattle.sysv_steps.specs.AsksFor.{AsksFor, AllAskFor}
use Rattle.sysv_steps.specs.Answers.{is_at_slot, found_gone, some}
use Rattle.sysv_steps.specs.AfterRemoval.{SendsOrReceives, IsToldOfRemoval, EachIsToldOfRemoval}
use Rattle.sysv_core.specs.World.{World, Invocation, Response, begun}
use Rattle.sysv_core.specs.AnswerLaw.{endings_of, ended, Outcome}
use Rattle.sysv_core.specs.Removed.{AreRemovedForGood}
use Rattle.sysv_core.specs.LastWords.{IsOfQueue, IsRemoval, IsToldSo}
use Rattle.sysv_core.proofs.Histories.{turn_of}
use Rattle.sysv_core.proofs.Lifetime.{Passes, passing, same_int}
use Rattle.sysv_core.proofs.TurnInHistory.{made_at, slot_around, kept}
use Rattle.sysv_core.proofs.PartsOfOneCall.{ops_both}

-- ---- lists

-- The place of an element in a list.
pub contained_at : {X : Type 0} (xs : List X) (x : X) → Contains xs x →
    (front : List X) × (back : List X) × (xs ≡ front ++ x ∷ back)
contained_at [] x (k, low, is) = absurd (omega (arith, low))
contained_at (y ∷ xs) x (zero, low, is) = ([], xs, ap (λ z. z ∷ xs) is)
contained_at (y ∷ xs) x (suc k, low, is) =
    let r = contained_at xs x (k, omega (arith, low), is) in
    (y ∷ r.0, r.1, ap (λ zs. y ∷ zs) r.2)

-- ---- the operations of a call around a turn

-- What a send or a receive requests of a slot has the identifier, and the reply is Gone if that is not
-- live.
record IsAbout (id : ℤ) (slot : ℕ) (call : Call) : Type 0 where
  there : slot ≡ slot_of_id id
  names : NamesId id call
  gone : not_live_reply call ≡ Gone

is_about : (id : ℤ) (slot : ℕ) (call : Call) (cred : Cred) (asked : SystemCall) → IsOfQueue id asked →
    AsksFor cred asked (OfSlot slot call) → IsAbout id slot call
is_about id slot call cred (Msgsnd i mtype flags text) q (inl e) =
    let c : call ≡ Look i cred (length text) = cc in
    let s : slot ≡ slot_of_id i = cc in
    record { there = s ∙ ap slot_of_id q; names = subst (NamesId id) (sym c) q; gone = ap not_live_reply c }
is_about id slot call cred (Msgsnd i mtype flags text) q (inr (inl e)) = absurd cc
is_about id slot call cred (Msgsnd i mtype flags text) q (inr (inr (inl (now, e)))) =
    let c : call ≡ Place i cred mtype text now = cc in
    let s : slot ≡ slot_of_id i = cc in
    record { there = s ∙ ap slot_of_id q; names = subst (NamesId id) (sym c) q; gone = ap not_live_reply c }
is_about id slot call cred (Msgsnd i mtype flags text) q (inr (inr (inr (blocks, e)))) = absurd cc
is_about id slot call cred (Msgrcv i size mtype flags) q (inl (now, e)) =
    let c : call ≡ Take i cred (selector_for mtype flags) size (has_flag MSG_NOERROR flags) now = cc in
    let s : slot ≡ slot_of_id i = cc in
    record { there = s ∙ ap slot_of_id q; names = subst (NamesId id) (sym c) q; gone = ap not_live_reply c }
is_about id slot call cred (Msgrcv i size mtype flags) q (inr (blocks, e)) = absurd cc
is_about id slot call cred asked q e = absurd q

-- ---- a removal, and one call

is_one : (asked : SystemCall) (id : ℤ) → IsOfQueue id asked → SendsOrReceives asked
is_one (Msgsnd i mtype flags text) id q = tt
is_one (Msgrcv i size mtype flags) id q = tt
is_one asked id q = absurd q

is_gone : (op : Op) → found_gone op ≡ true → (slot : ℕ) × (call : Call) × (op ≡ AtSlot slot call Gone)
is_gone (AtSlot slot call Gone) e = (slot, call, refl)
is_gone op e = absurd cc

module _ (w : World) (responses : List Response) (call : Invocation) (outcome : Outcome w responses call)
    (told : EachIsToldOfRemoval)
    (all : AllAskFor call.cred call.asked (ops_of call.who w.turns)) (good : AreRemovedForGood w.turns)
    (id : ℤ) (before after : List Turn) (t : Turn) (whole : w.turns ≡ before ++ t ∷ after)
    (removal : IsRemoval id t.op) (q : IsOfQueue id call.asked) where
  abbrev earlier : List Op
  earlier = ops_of call.who before

  abbrev since : List Op
  since = ops_of call.who after

  asked_for : (op : Op) → Contains (ops_of call.who w.turns) op → AsksFor call.cred call.asked (asked_by op)
  asked_for op has =
      All-contains (λ (d : Op). AsksFor call.cred call.asked (asked_by d)) (ops_of call.who w.turns) op all has

  parted : ops_of call.who w.turns ≡ earlier ++ kept call.who (is_same call.who t.who) t after
  parted = ap (ops_of call.who) whole ∙ ops_both call.who before (t ∷ after)

  -- The removal belongs to another call.
  another : (b : Bool) → is_same call.who t.who ≡ b → is_same call.who t.who ≡ false
  another false e = e
  another true e =
      let mine : ops_of call.who w.turns ≡ earlier ++ t.op ∷ since =
      parted ∙ ap (λ b. earlier ++ kept call.who b t after) e in
      let has : Contains (ops_of call.who w.turns) t.op = subst (λ (ds : List Op). Contains ds t.op) (sym mine)
      (Contains-append_right earlier (t.op ∷ since) t.op (0, omega arith, refl)) in
      let no_call = (is_about id (slot_of_id id) (Remove id removal.0) call.cred call.asked q
      (subst (λ (d : Op). AsksFor call.cred call.asked (asked_by d)) removal.2 (asked_for t.op has))).gone in
      absurd cc

  ops_are : ops_of call.who w.turns ≡ earlier ++ since
  ops_are = parted ∙ ap (λ b. earlier ++ kept call.who b t after) (another (is_same call.who t.who) refl)

  -- The history of the slot around the removal.
  abbrev slot : ℕ
  slot = slot_of_id id

  abbrev entry : Entry
  entry = record { who = t.who; call = Remove id removal.0; reply = Discarded removal.1 }

  history : slot_history slot w.turns ≡ slot_history slot before ++ entry ∷ slot_history slot after
  history =
      ap (slot_history slot) (whole ∙ ap (λ d. before ++ turn_of t.who d ∷ after) removal.2)
      ∙ slot_around slot before after t.who (Remove id removal.0) (Discarded removal.1)

  told_gone : (e : Entry) → Contains (slot_history slot after) e → NamesId id e.call → e.reply ≡ not_live_reply e.call
  told_gone e has =
      All-contains (λ (x : Entry). NamesId id x.call → x.reply ≡ not_live_reply x.call) (slot_history slot after) e
      (good.gone slot id (slot_history slot before) (slot_history slot after) entry history (same_int id)).told has

  -- A turn of the call at the slot since then.
  finds_gone : (op : Op) → Contains since op → is_at_slot op ≡ true → found_gone op ≡ true
  finds_gone (AtSlot at c reply) has e =
      let a = is_about id at c call.cred call.asked q
      (asked_for (AtSlot at c reply)
      (subst (λ (ds : List Op). Contains ds (AtSlot at c reply)) (sym ops_are)
      (Contains-append_right earlier since (AtSlot at c reply) has))) in
      let split = contained_at since (AtSlot at c reply) has in
      let m = made_at call.who after split.0 (AtSlot at c reply) split.1 split.2 in
      let x : Entry = record { who = m.by; call = c; reply = reply } in
      let here : slot_history at after ≡ slot_history at m.before ++ x ∷ slot_history at m.after =
      ap (slot_history at) m.whole ∙ slot_around at m.before m.after m.by c reply in
      let among : Contains (slot_history at after) x = subst (λ (h : History). Contains h x) (sym here)
      (Contains-append_right (slot_history at m.before) (x ∷ slot_history at m.after) x (0, omega arith, refl)) in
      let gone : reply ≡ Gone =
      told_gone x (subst (λ n. Contains (slot_history n after) x) a.there among) a.names ∙ a.gone in
      ap (λ r. found_gone (AtSlot at c r)) gone
  finds_gone (AtRegistry c reply) has e = absurd cc
  finds_gone (AtPool c reply) has e = absurd cc

  -- The first of these turns decides the result.
  module _ (come : some is_at_slot since) where
    came : Passes is_at_slot since
    came = passing is_at_slot since come

    found : found_gone came.it ≡ true
    found = finds_gone came.it
        (subst (λ (ds : List Op). Contains ds came.it) (sym came.whole)
        (Contains-append_right came.front (came.it ∷ came.back) came.it (0, omega arith, refl))) came.passes

    answer : (ending : Ending) → Plays (begun call) (ops_of call.who w.turns) (Over ending) →
        IsToldOfRemoval (earlier ++ came.front) came.back ending
    answer ending plays =
        let g = is_gone came.it found in
        let split : ops_of call.who w.turns ≡ (earlier ++ came.front) ++ AtSlot g.0 g.1 Gone ∷ came.back =
        ops_are
        ∙ (ap (λ (ds : List Op). earlier ++ ds) (came.whole ∙ ap (λ d. came.front ++ d ∷ came.back) g.2)
        ∙ sym (append_assoc earlier came.front (AtSlot g.0 g.1 Gone ∷ came.back))) in
        told call.cred call.asked call.released (ops_of call.who w.turns) ending (is_one call.asked id q) plays
        (earlier ++ came.front) came.back g.0 g.1 split

    each_ending : (why : Errno) →
        ((ending : Ending) → Plays (begun call) (ops_of call.who w.turns) (Over ending) → ending ≡ Refused why) →
        (state : State (kind_of call.asked)) → Plays (begun call) (ops_of call.who w.turns) state →
        All (λ (ending : Ending). ending ≡ Refused why) (ended state)
    each_ending why f (Goes phase) plays = All-nil (λ (ending : Ending). ending ≡ Refused why)
    each_ending why f (Waits wait) plays = All-nil (λ (ending : Ending). ending ≡ Refused why)
    each_ending why f (Over ending) plays = All-push (λ (x : Ending). x ≡ Refused why) [] ending
        (All-nil (λ (x : Ending). x ≡ Refused why)) (f ending plays)

    all_endings : (why : Errno) →
        ((ending : Ending) → Plays (begun call) (ops_of call.who w.turns) (Over ending) → ending ≡ Refused why) →
        All (λ (ending : Ending). ending ≡ Refused why) (endings_of call.who responses)
    all_endings why f = subst (All (λ (ending : Ending). ending ≡ Refused why)) (sym outcome.answered)
        (each_ending why f outcome.state outcome.plays)

    was_there : some is_at_slot earlier →
        All (λ (ending : Ending). ending ≡ Refused EIDRM) (endings_of call.who responses)
    was_there there = all_endings EIDRM (λ ending plays.
        (answer ending plays).removed
        (list_any-append is_at_slot earlier came.front
        ∙ or_left (list_any is_at_slot earlier) (list_any is_at_slot came.front) there))

    was_not : list_any is_at_slot earlier ≡ false →
        All (λ (ending : Ending). ending ≡ Refused EINVAL) (endings_of call.who responses)
    was_not none = all_endings EINVAL (λ ending plays.
        (answer ending plays).absent
        (list_any-append is_at_slot earlier came.front
        ∙ or_from (list_any is_at_slot earlier) (list_any is_at_slot came.front) none came.none_before))

  pub told_so : IsToldSo earlier since (endings_of call.who responses)
  told_so = record {
    gone = All-weaker (Contains since) (λ (op : Op). is_at_slot op ≡ true → found_gone op ≡ true) finds_gone
        since (All-contains_itself since);
    removed = λ there come. was_there come there;
    absent = λ none come. was_not come none;
  }
