-- Which replies are legal is decided by what was done, not by the callers.
use Rattle.std.proofs.Common.{◌≡◌, ℕ, ℤ, ◌+◌, ◌-◌, ◌==◌, Bool, true, false, cond, not, List, [], ◌∷◌}
use Rattle.std.proofs.Common.{◌++◌, Option, None, Some, refl, sym, ap, subst, ◌∙◌, arith, map}
use Rattle.std.specs.List.{filter, flat_map, fold, list_any, sum_by}
use Rattle.std.proofs.lemmas.List.{map-append}
use Rattle.std.proofs.lemmas.List.Sums.{sum_by-cons}
use Rattle.std.proofs.lemmas.List.Folds.{fold-map, flat_map-map}
use Rattle.sysv_model.specs.declared.attributes.Attributes.{Attributes}
use Rattle.sysv_model.specs.Message.{Message}
use Rattle.sysv_model.specs.History.{Who, Call, Reply, Entry, History, announces_arrival, announces_room, arrived}
use Rattle.sysv_model.specs.History.{freed}
use Rattle.sysv_model.specs.Live.{live, live_after}
use Rattle.sysv_model.specs.Waiting.{accepted_by, delivered_by, discarded_by, accepted, delivered, discarded}
use Rattle.sysv_model.specs.Waiting.{has_number, waiting, waiting_on, held}
use Rattle.sysv_model.specs.Registry.{RegistryCall, RegistryReply, RegistryEntry, RegistryHistory}
use Rattle.sysv_model.specs.Registry.{changes_row}
use Rattle.sysv_model.specs.Pool.{PoolCall, PoolReply, PoolEntry, PoolHistory, frees as frees_blocks, released}
use Rattle.sysv_model.specs.Turn.{Op, AtSlot, AtRegistry, AtPool, Turn, slot_entry, registry_entry, pool_entry}
use Rattle.sysv_model.specs.Turn.{slot_history, registry_history, pool_history}
use Rattle.sysv_pool.specs.State.{State, free_after, state_of, reserved_by, returned_by, reserved, returned}
use Rattle.sysv_pool.specs.LegalReply.{Legal as LegalInPool}
use Rattle.sysv_queue.specs.Slot.{Slot, slot_of}
use Rattle.sysv_queue.specs.LegalReply.{Legal}
use Rattle.sysv_keys.specs.declared.registry.Place.{Place}
use Rattle.sysv_keys.specs.State.{State as Registry, places_after, opened, state_of as registry_of}
use Rattle.sysv_keys.specs.Rows.{Row, HasRow, IsRow}
use Rattle.sysv_keys.specs.LegalReply.{Legal as LegalAtRegistry}
use Rattle.sysv_objects.specs.LegalOp.{IsLegalOp}

-- ---- what reads no more than a part of each element

module _ {E A : Type 0} (part : E → A) where
  fold_alike : {B : Type 0} (f : B → A → B) (b : B) (h k : List E) → map part h ≡ map part k →
      fold (λ (x : B) (e : E). f x (part e)) b h ≡ fold (λ (x : B) (e : E). f x (part e)) b k
  fold_alike f b h k same = sym (fold-map f part b h) ∙ (ap (fold f b) same ∙ fold-map f part b k)

  flat_alike : {B : Type 0} (f : A → List B) (h k : List E) → map part h ≡ map part k →
      flat_map (λ (e : E). f (part e)) h ≡ flat_map (λ (e : E). f (part e)) k
  flat_alike f h k same = sym (flat_map-map f part h) ∙ (ap (flat_map f) same ∙ flat_map-map f part k)

  sum_alike : (f : A → ℕ) (h k : List E) → map part h ≡ map part k →
      sum_by (λ (e : E). f (part e)) h ≡ sum_by (λ (e : E). f (part e)) k
  sum_alike f [] [] same = refl
  sum_alike f [] (e ∷ k) same = absurd cc
  sum_alike f (d ∷ h) [] same = absurd cc
  sum_alike f (d ∷ h) (e ∷ k) same =
      let first : part d ≡ part e = cc in
      let rest : map part h ≡ map part k = cc in
      omega (
        arith,
        ap f first,
        sum_alike f h k rest,
        sum_by-cons (λ (x : E). f (part x)) d h,
        sum_by-cons (λ (x : E). f (part x)) e k,
      )

  any_alike : (f : A → Bool) (h k : List E) → map part h ≡ map part k →
      list_any (λ (e : E). f (part e)) h ≡ list_any (λ (e : E). f (part e)) k
  any_alike f [] [] same = refl
  any_alike f [] (e ∷ k) same = absurd cc
  any_alike f (d ∷ h) [] same = absurd cc
  any_alike f (d ∷ h) (e ∷ k) same =
      let first : part d ≡ part e = cc in
      let rest : map part h ≡ map part k = cc in
      let deeper = any_alike f h k rest in
      let here : f (part d) ≡ f (part e) = ap f first in
      cc

-- ---- what was done, without who did it

abbrev pub Acts : List Turn → List Turn → Type 0
Acts turns others = map (λ (t : Turn). t.op) turns ≡ map (λ (t : Turn). t.op) others

abbrev in_slot : Entry → Call × Reply
in_slot e = (e.call, e.reply)

abbrev in_registry : RegistryEntry → RegistryCall × RegistryReply
in_registry e = (e.call, e.reply)

abbrev in_pool : PoolEntry → PoolCall × PoolReply
in_pool e = (e.call, e.reply)

slot_entry_alike : (slot : ℕ) (who other : Who) (op : Op) →
    map in_slot (slot_entry slot who op) ≡ map in_slot (slot_entry slot other op)
slot_entry_alike slot who other (AtSlot at call reply) = by_test (at == slot)
  where
    by_test : (b : Bool) →
        map in_slot (cond b (record { who = who; call = call; reply = reply } ∷ []) [])
        ≡ map in_slot (cond b (record { who = other; call = call; reply = reply } ∷ []) [])
    by_test true = refl
    by_test false = refl
slot_entry_alike slot who other (AtRegistry call reply) = refl
slot_entry_alike slot who other (AtPool call reply) = refl

registry_entry_alike : (who other : Who) (op : Op) →
    map in_registry (registry_entry who op) ≡ map in_registry (registry_entry other op)
registry_entry_alike who other (AtSlot at call reply) = refl
registry_entry_alike who other (AtRegistry call reply) = refl
registry_entry_alike who other (AtPool call reply) = refl

pool_entry_alike : (who other : Who) (op : Op) →
    map in_pool (pool_entry who op) ≡ map in_pool (pool_entry other op)
pool_entry_alike who other (AtSlot at call reply) = refl
pool_entry_alike who other (AtRegistry call reply) = refl
pool_entry_alike who other (AtPool call reply) = refl

-- The entries of all turns.
module _ {E A : Type 0} (part : E → A) (entry : Who → Op → List E)
    (alike : (who other : Who) (op : Op) → map part (entry who op) ≡ map part (entry other op)) where
  entries_alike : (turns others : List Turn) → Acts turns others →
      map part (flat_map (λ (t : Turn). entry t.who t.op) turns)
      ≡ map part (flat_map (λ (t : Turn). entry t.who t.op) others)
  entries_alike [] [] same = refl
  entries_alike [] (u ∷ us) same = absurd cc
  entries_alike (t ∷ ts) [] same = absurd cc
  entries_alike (t ∷ ts) (u ∷ us) same =
      let first : t.op ≡ u.op = cc in
      let rest : Acts ts us = cc in
      map-append part (entry t.who t.op) (flat_map (λ (x : Turn). entry x.who x.op) ts)
      ∙ (ap (λ es. es ++ map part (flat_map (λ (x : Turn). entry x.who x.op) ts))
      (alike t.who u.who t.op ∙ ap (λ d. map part (entry u.who d)) first)
      ∙ (ap (λ es. map part (entry u.who u.op) ++ es) (entries_alike ts us rest)
      ∙ sym (map-append part (entry u.who u.op) (flat_map (λ (x : Turn). entry x.who x.op) us))))

-- ---- a slot

module _ (h k : History) (same : map in_slot h ≡ map in_slot k) where
  live_alike : live h ≡ live k
  live_alike = fold_alike in_slot (λ (old : Option Attributes) (a : Call × Reply). live_after old a.0 a.1) None h k same

  messages : List Message → List Message → List Message → List Message
  messages all taken gone = filter (λ (m : Message). not (has_number m.number (taken ++ gone))) all

  waiting_alike : (id : ℤ) → waiting id h ≡ waiting id k
  unfolding messages
  waiting_alike id =
      let all : accepted id h ≡ accepted id k =
      flat_alike in_slot (λ (a : Call × Reply). accepted_by id a.0 a.1) h k same in
      let taken : delivered id h ≡ delivered id k =
      flat_alike in_slot (λ (a : Call × Reply). delivered_by id a.0 a.1) h k same in
      let gone : discarded id h ≡ discarded id k =
      flat_alike in_slot (λ (a : Call × Reply). discarded_by id a.0 a.1) h k same in
      ap (λ ms. messages ms (delivered id h) (discarded id h)) all
      ∙ (ap (λ ms. messages (accepted id k) ms (discarded id h)) taken
      ∙ ap (λ ms. messages (accepted id k) (delivered id k) ms) gone)

  on_alike : (o : Option Attributes) → waiting_on o h ≡ waiting_on o k
  on_alike None = refl
  on_alike (Some a) = waiting_alike a.id

  arrived_alike : arrived h ≡ arrived k
  arrived_alike = sum_alike in_slot (λ (a : Call × Reply). cond (announces_arrival a.0 a.1) 1 0) h k same

  freed_alike : freed h ≡ freed k
  freed_alike = sum_alike in_slot (λ (a : Call × Reply). cond (announces_room a.0 a.1) 1 0) h k same

  slot_alike : slot_of h ≡ slot_of k
  slot_alike =
      let lives = live_alike in
      let held_so : held h ≡ held k = ap (λ o. waiting_on o h) lives ∙ on_alike (live k) in
      let came = arrived_alike in
      let left = freed_alike in
      cc

-- ---- the pool

module _ (h k : PoolHistory) (same : map in_pool h ≡ map in_pool k) where
  pool_alike : (size : ℕ) → state_of size h ≡ state_of size k
  pool_alike size =
      let back : returned h ≡ returned k =
      sum_alike in_pool (λ (a : PoolCall × PoolReply). returned_by a.0 a.1) h k same in
      let out : reserved h ≡ reserved k = sum_alike in_pool (λ (a : PoolCall × PoolReply). reserved_by a.1) h k same in
      let counted : released h ≡ released k =
      sum_alike in_pool (λ (a : PoolCall × PoolReply). cond (frees_blocks a.1) 1 0) h k same in
      let free : ((size + returned h) - reserved h) ≡ ((size + returned k) - reserved k) =
      ap (λ n. (size + n) - reserved h) back ∙ ap (λ n. (size + returned k) - n) out in
      cc

-- ---- the registry

registry_alike : (h k : RegistryHistory) → map in_registry h ≡ map in_registry k → (opening : ℕ) →
    registry_of opening h ≡ registry_of opening k
registry_alike h k same opening = λ j. record {
  places = fold_alike in_registry (λ (old : ℕ → Place) (a : RegistryCall × RegistryReply). places_after old a.0 a.1)
      (opened opening) h k same j;
  settled = sum_alike in_registry (λ (a : RegistryCall × RegistryReply). cond (changes_row a.1) 1 0) h k same j;
}

-- ---- any object

pub legal_alike : (gen blocks : ℕ) (turns others : List Turn) (op : Op) → Acts turns others →
    IsLegalOp gen blocks turns op → IsLegalOp gen blocks others op
legal_alike gen blocks turns others (AtSlot slot call reply) same l =
    subst (λ (s : Slot). Legal s call reply)
    (slot_alike (slot_history slot turns) (slot_history slot others)
    (entries_alike in_slot (slot_entry slot) (slot_entry_alike slot) turns others same)) l
legal_alike gen blocks turns others (AtRegistry call reply) same l =
    subst (λ (r : Registry). LegalAtRegistry r call reply)
    (registry_alike (registry_history turns) (registry_history others)
    (entries_alike in_registry registry_entry registry_entry_alike turns others same) gen) l
legal_alike gen blocks turns others (AtPool call reply) same l =
    subst (λ (s : State). LegalInPool s call reply)
    (pool_alike (pool_history turns) (pool_history others)
    (entries_alike in_pool pool_entry pool_entry_alike turns others same) blocks) l

-- ---- what is read of the objects

pub held_alike : (slot : ℕ) (turns others : List Turn) → Acts turns others →
    held (slot_history slot turns) ≡ held (slot_history slot others)
held_alike slot turns others same =
    ap (λ (s : Slot). s.messages)
    (slot_alike (slot_history slot turns) (slot_history slot others)
    (entries_alike in_slot (slot_entry slot) (slot_entry_alike slot) turns others same))

pub lives_alike : (slot : ℕ) (turns others : List Turn) → Acts turns others →
    live (slot_history slot turns) ≡ live (slot_history slot others)
lives_alike slot turns others same =
    live_alike (slot_history slot turns) (slot_history slot others)
    (entries_alike in_slot (slot_entry slot) (slot_entry_alike slot) turns others same)

pub free_alike : (size : ℕ) (turns others : List Turn) → Acts turns others →
    free_after size (pool_history turns) ≡ free_after size (pool_history others)
free_alike size turns others same =
    ap (λ (s : State). s.free)
    (pool_alike (pool_history turns) (pool_history others)
    (entries_alike in_pool pool_entry pool_entry_alike turns others same) size)

pub rows_alike : (gen : ℕ) (turns others : List Turn) → Acts turns others → (row : Row) →
    IsRow gen (registry_history turns) row → IsRow gen (registry_history others) row
rows_alike gen turns others same row is =
    subst (λ (r : Registry). HasRow r row)
    (registry_alike (registry_history turns) (registry_history others)
    (entries_alike in_registry registry_entry registry_entry_alike turns others same) gen) is
