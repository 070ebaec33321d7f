-- What a call waits for (this project's profile). It was refused for want of a message, of room, of
-- blocks or of a settled row. Its goal is one more than the count that was reported to it; for
-- blocks, one more than the released count that the send read last.
use Rattle.std.specs.Prelude.{◌≡◌, ℕ, ℤ, ◌+◌, ◌⊎◌, false, List, [], ◌∷◌, ◌++◌, length}
use Rattle.std.specs.List.{list_any}
use Rattle.sysv_model.specs.declared.cred.Cred.{Cred}
use Rattle.sysv_model.specs.History.{Probe, Look, Place, Take, Gone, Full, NoMatch}
use Rattle.sysv_model.specs.Registry.{Begin, Found, Busy}
use Rattle.sysv_model.specs.Pool.{Reserve, TooFew}
use Rattle.sysv_model.specs.Turn.{Op, AtSlot, AtRegistry, AtPool}
use Rattle.sysv_keys.specs.Identifier.{slot_of_id}
use Rattle.sysv_steps.specs.Call.{Kind, kind_of}
use Rattle.sysv_steps.specs.Call.{SystemCall}
use Rattle.sysv_steps.specs.State.{Getting, Sending, Receiving, Wait, OnSettled, OnFreed, OnReleased, OnArrived, Waits}
use Rattle.sysv_steps.specs.Begin.{begin}
use Rattle.sysv_steps.specs.Played.{Plays}
use Rattle.sysv_steps.specs.Answers.{is_at_slot}

-- The operations end with these.
abbrev pub EndsWith : List Op → List Op → Type 0
EndsWith last ops = (front : List Op) × (ops ≡ front ++ last)

-- This is the last operation at a slot. A send may have released its chain since, which is an
-- operation at the pool.
abbrev pub IsLastAtSlot : Op → List Op → Type 0
IsLastAtSlot op ops =
    (front after : List Op) × (ops ≡ front ++ op ∷ after) × (list_any is_at_slot after ≡ false)

-- Another call was making the queue of the key, or the queue of the identifier that the registry
-- found was not live. The registry reported this settled count.
abbrev pub WasUnsettled : Getting → ℕ → List Op → Type 0
WasUnsettled get settled ops =
    EndsWith (AtRegistry (Begin get.key get.flags) (Busy settled) ∷ []) ops
    ⊎ ((id : ℤ)
    × EndsWith (AtRegistry (Begin get.key get.flags) (Found id settled)
    ∷ AtSlot (slot_of_id id) (Probe id get.cred get.flags) Gone ∷ []) ops)

-- A look or a place found no room, and reported this freed count.
abbrev pub WasFull : Sending → ℕ → List Op → Type 0
WasFull send freed ops =
    IsLastAtSlot (AtSlot (slot_of_id send.id) (Look send.id send.cred (length send.text)) (Full freed)) ops
    ⊎ ((now : ℕ)
    × IsLastAtSlot (AtSlot (slot_of_id send.id) (Place send.id send.cred send.mtype send.text now) (Full freed)) ops)

-- A take found no message that the selector names, and reported this arrived count.
abbrev pub FoundNone : Receiving → ℕ → List Op → Type 0
FoundNone receive arrived ops =
    (now : ℕ)
    × IsLastAtSlot (AtSlot (slot_of_id receive.id)
    (Take receive.id receive.cred receive.selector receive.size receive.noerror now) (NoMatch arrived)) ops

-- The wait has this cause in the operations of the call, and this goal.
abbrev pub WaitsFor : {kind : Kind} → Wait kind → List Op → Type 0
WaitsFor (OnSettled goal get) ops = (settled : ℕ) × (goal ≡ settled + 1) × WasUnsettled get settled ops
WaitsFor (OnFreed goal send) ops = (freed : ℕ) × (goal ≡ freed + 1) × WasFull send freed ops
WaitsFor (OnReleased goal send) ops =
    (goal ≡ send.released + 1) × EndsWith (AtPool (Reserve (length send.text)) TooFew ∷ []) ops
WaitsFor (OnArrived goal receive) ops = (arrived : ℕ) × (goal ≡ arrived + 1) × FoundNone receive arrived ops

-- Each call that plays to a wait has such a cause for it.
abbrev pub EachWaitsForItsRefusal : Type 0
EachWaitsForItsRefusal =
    (cred : Cred) (asked : SystemCall) (released : ℕ) (ops : List Op) (wait : Wait (kind_of asked)) →
    Plays (begin cred asked released) ops (Waits wait) → WaitsFor wait ops
