-- What a call may request of the objects (this project's profile): what its arguments name, under
-- its credentials, and nothing else. Three parts of a request are not arguments: the time of the
-- turn, the identifier that a msgget made or found, and the number of blocks of a chain that is
-- released.
use Rattle.std.specs.Prelude.{◌≡◌, ℕ, ℤ, ◌⊎◌, List, length, All}
use Rattle.sysv_model.specs.declared.cred.Cred.{Cred}
use Rattle.sysv_model.specs.declared.flags.TheConstants.Flags.{MSG_NOERROR}
use Rattle.sysv_model.specs.HasFlag.{has_flag}
use Rattle.sysv_model.specs.Selector.{selector_for}
use Rattle.sysv_model.specs.History.{Install, Probe, Look, Place, Take, ReadStat, Set, Remove}
use Rattle.sysv_model.specs.Registry.{Begin, Settle, Forget}
use Rattle.sysv_model.specs.Pool.{Reserve, Release}
use Rattle.sysv_model.specs.Turn.{Ask, OfSlot, OfRegistry, OfPool, Op, asked_by}
use Rattle.sysv_keys.specs.Identifier.{slot_of_id}
use Rattle.sysv_steps.specs.Call.{kind_of}
use Rattle.sysv_steps.specs.Call.{SystemCall, Msgget, Msgsnd, Msgrcv, MsgctlStat, MsgctlSet, MsgctlRmid}
use Rattle.sysv_steps.specs.State.{State}
use Rattle.sysv_steps.specs.Begin.{begin}
use Rattle.sysv_steps.specs.Played.{Plays}

-- The request returns a chain of any number of blocks to the pool.
abbrev pub GivesBack : Ask → Type 0
GivesBack ask = (blocks : ℕ) × (ask ≡ OfPool (Release blocks))

-- The call, under these credentials, may make this request.
abbrev pub AsksFor : Cred → SystemCall → Ask → Type 0
AsksFor cred (Msgget key flags) ask =
    (ask ≡ OfRegistry (Begin key flags))
    ⊎ ((id : ℤ) × (now : ℕ) × (ask ≡ OfSlot (slot_of_id id) (Install id key cred flags.0 now)))
    ⊎ ((id : ℤ) × (ask ≡ OfRegistry (Settle id)))
    ⊎ ((id : ℤ) × (ask ≡ OfSlot (slot_of_id id) (Probe id cred flags)))
    ⊎ ((id : ℤ) × (ask ≡ OfRegistry (Forget id)))
AsksFor cred (Msgsnd id mtype flags text) ask =
    (ask ≡ OfSlot (slot_of_id id) (Look id cred (length text)))
    ⊎ (ask ≡ OfPool (Reserve (length text)))
    ⊎ ((now : ℕ) × (ask ≡ OfSlot (slot_of_id id) (Place id cred mtype text now)))
    ⊎ GivesBack ask
AsksFor cred (Msgrcv id size mtype flags) ask =
    ((now : ℕ)
    × (ask ≡ OfSlot (slot_of_id id) (Take id cred (selector_for mtype flags) size (has_flag MSG_NOERROR flags) now)))
    ⊎ GivesBack ask
AsksFor cred (MsgctlStat id) ask = ask ≡ OfSlot (slot_of_id id) (ReadStat id cred)
AsksFor cred (MsgctlSet id to) ask = ((now : ℕ) × (ask ≡ OfSlot (slot_of_id id) (Set id cred to now))) ⊎ GivesBack ask
AsksFor cred (MsgctlRmid id) ask =
    (ask ≡ OfSlot (slot_of_id id) (Remove id cred)) ⊎ (ask ≡ OfRegistry (Forget id)) ⊎ GivesBack ask

-- The call may make the request of each of these operations.
abbrev pub AllAskFor : Cred → SystemCall → List Op → Type 0
AllAskFor cred asked ops = All (λ (op : Op). AsksFor cred asked (asked_by op)) ops

-- Each operation of a call makes such a request, in every state of the call.
abbrev pub EachOpIsAskedFor : Type 0
EachOpIsAskedFor = (cred : Cred) (asked : SystemCall) (released : ℕ) (ops : List Op) (state : State (kind_of asked)) →
    Plays (begin cred asked released) ops state → AllAskFor cred asked ops
