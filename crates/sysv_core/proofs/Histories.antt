-- The history of each object after one more turn.
use Rattle.std.proofs.Common.{◌≡◌, ℕ, ◌+◌, Bool, true, false, cond, List, [], ◌∷◌, ◌++◌, Option, None, refl, sym, ap}
use Rattle.std.proofs.Common.{subst, ◌∙◌, arith}
use Rattle.std.proofs.Math.Dec.{eqb}
use Rattle.std.proofs.lemmas.Grind.{flat_map-append}
use Rattle.std.proofs.lemmas.List.{append-nil}
use Rattle.std.proofs.lemmas.List.Sums.{fold-append, sum_by-cons, sum_by-append}
use Rattle.sysv_model.specs.declared.attributes.Attributes.{Attributes}
use Rattle.sysv_model.specs.History.{Who, Entry, History}
use Rattle.sysv_model.specs.Live.{live, live_after}
use Rattle.sysv_model.specs.Pool.{PoolEntry, PoolHistory, frees, released}
use Rattle.sysv_model.specs.Turn.{Op, AtSlot, AtRegistry, AtPool, Turn, slot_entry, registry_entry, pool_entry}
use Rattle.sysv_model.specs.Turn.{slot_history, registry_history, pool_history}
use Rattle.sysv_pool.specs.State.{reserved_by, returned_by, reserved, returned}
use Rattle.sysv_core.specs.World.{preset_who, preset_begin, preset_install, preset_settle, with_preset_turns}

abbrev pub turn_of : Who → Op → Turn
turn_of who op = record { who = who; op = op }

pub slot_more : (slot : ℕ) (turns : List Turn) (t : Turn) →
    slot_history slot (turns ++ t ∷ []) ≡ slot_history slot turns ++ slot_entry slot t.who t.op
slot_more slot turns t =
    flat_map-append (λ (x : Turn). slot_entry slot x.who x.op) turns (t ∷ [])
    ∙ ap (λ es. slot_history slot turns ++ es) (append-nil (slot_entry slot t.who t.op))

pub registry_more : (turns : List Turn) (t : Turn) →
    registry_history (turns ++ t ∷ []) ≡ registry_history turns ++ registry_entry t.who t.op
registry_more turns t =
    flat_map-append (λ (x : Turn). registry_entry x.who x.op) turns (t ∷ [])
    ∙ ap (λ es. registry_history turns ++ es) (append-nil (registry_entry t.who t.op))

pub pool_more : (turns : List Turn) (t : Turn) →
    pool_history (turns ++ t ∷ []) ≡ pool_history turns ++ pool_entry t.who t.op
pool_more turns t =
    flat_map-append (λ (x : Turn). pool_entry x.who x.op) turns (t ∷ [])
    ∙ ap (λ es. pool_history turns ++ es) (append-nil (pool_entry t.who t.op))

-- A turn that is not at the pool leaves the pool's history as it was, and one that is not at a slot
-- leaves that of each slot.
pub pool_stays : (turns : List Turn) (who : Who) (op : Op) → pool_entry who op ≡ [] →
    pool_history (turns ++ turn_of who op ∷ []) ≡ pool_history turns
pool_stays turns who op none =
    pool_more turns (turn_of who op) ∙ (ap (λ es. pool_history turns ++ es) none ∙ append-nil (pool_history turns))

pub slot_stays : (slot : ℕ) (turns : List Turn) (who : Who) (op : Op) → slot_entry slot who op ≡ [] →
    slot_history slot (turns ++ turn_of who op ∷ []) ≡ slot_history slot turns
slot_stays slot turns who op none = slot_more slot turns (turn_of who op)
    ∙ (ap (λ es. slot_history slot turns ++ es) none ∙ append-nil (slot_history slot turns))

-- What holds of the pool's history, and of that with any entry more, holds after a turn.
pub pool_on : (P : PoolHistory → Type 0) (turns : List Turn) (who : Who) (op : Op) → P (pool_history turns) →
    ((e : PoolEntry) → P (pool_history turns ++ e ∷ [])) → P (pool_history (turns ++ turn_of who op ∷ []))
pool_on P turns who (AtSlot slot call reply) old more =
    subst P (sym (pool_stays turns who (AtSlot slot call reply) refl)) old
pool_on P turns who (AtRegistry call reply) old more =
    subst P (sym (pool_stays turns who (AtRegistry call reply) refl)) old
pool_on P turns who (AtPool call reply) old more =
    subst P (sym (pool_more turns (turn_of who (AtPool call reply))))
    (more (record { who = who; call = call; reply = reply }))

-- ---- the live queue of a slot

pub live_more : (h : History) (e : Entry) → live (h ++ e ∷ []) ≡ live_after (live h) e.call e.reply
live_more h e = fold-append (λ (old : Option Attributes) (x : Entry). live_after old x.call x.reply) None h (e ∷ [])

-- What an operation makes of it.
abbrev pub live_by : ℕ → Op → Option Attributes → Option Attributes
live_by slot (AtSlot at call reply) l = cond (eqb at slot) (live_after l call reply) l
live_by slot op l = l

live_entry : (slot : ℕ) (h : History) (who : Who) (op : Op) →
    live (h ++ slot_entry slot who op) ≡ live_by slot op (live h)
live_entry slot h who (AtSlot at call reply) = by_slot (eqb at slot)
  where
    by_slot : (b : Bool) → live (h ++ cond b (record { who = who; call = call; reply = reply } ∷ []) [])
        ≡ cond b (live_after (live h) call reply) (live h)
    by_slot true = live_more h (record { who = who; call = call; reply = reply })
    by_slot false = ap live (append-nil h)
live_entry slot h who (AtRegistry call reply) = ap live (append-nil h)
live_entry slot h who (AtPool call reply) = ap live (append-nil h)

pub live_turn : (slot : ℕ) (turns : List Turn) (who : Who) (op : Op) →
    live (slot_history slot (turns ++ turn_of who op ∷ [])) ≡ live_by slot op (live (slot_history slot turns))
live_turn slot turns who op =
    ap live (slot_more slot turns (turn_of who op)) ∙ live_entry slot (slot_history slot turns) who op

-- ---- the three turns of a preset

abbrev pub begun_turns : List Turn → List Turn
begun_turns turns = turns ++ turn_of preset_who preset_begin ∷ []

abbrev pub installed_turns : List Turn → List Turn
installed_turns turns = begun_turns turns ++ turn_of preset_who preset_install ∷ []

pub preset_slot : (slot : ℕ) (turns : List Turn) →
    slot_history slot (with_preset_turns turns) ≡ slot_history slot (installed_turns turns)
preset_slot slot turns = slot_stays slot (installed_turns turns) preset_who preset_settle refl

pub preset_pool : (turns : List Turn) → pool_history (with_preset_turns turns) ≡ pool_history turns
preset_pool turns =
    pool_stays (installed_turns turns) preset_who preset_settle refl
    ∙ (pool_stays (begun_turns turns) preset_who preset_install refl ∙ pool_stays turns preset_who preset_begin refl)

-- ---- what the pool has counted

abbrev pub one : Bool → ℕ
one b = cond {A = ℕ} b 1 0

pub released_more : (h : PoolHistory) (e : PoolEntry) → released (h ++ e ∷ []) ≡ released h + one (frees e.reply)
released_more h e =
    let f = λ (x : PoolEntry). one (frees x.reply) in omega (arith, sum_by-append f h (e ∷ []), sum_by-cons f e [])

pub returned_more : (h : PoolHistory) (e : PoolEntry) → returned (h ++ e ∷ []) ≡ returned h + returned_by e.call e.reply
returned_more h e =
    let f = λ (x : PoolEntry). returned_by x.call x.reply in
    omega (arith, sum_by-append f h (e ∷ []), sum_by-cons f e [])

pub reserved_more : (h : PoolHistory) (e : PoolEntry) → reserved (h ++ e ∷ []) ≡ reserved h + reserved_by e.reply
reserved_more h e =
    let f = λ (x : PoolEntry). reserved_by x.reply in omega (arith, sum_by-append f h (e ∷ []), sum_by-cons f e [])
