-- The access that a caller has to the live queue (POSIX.1-2017, 2.7.1 IPC General Description).
use Rattle.std.specs.Prelude.{◌≡◌, ◌≢◌, ◌≤◌, ◌⊎◌, Option, None, Some, bit_and}
use Rattle.sysv_model.specs.declared.cred.Cred.{Cred}
use Rattle.sysv_model.specs.declared.flags.Flags.{Flags}
use Rattle.sysv_model.specs.declared.attributes.Attributes.{Attributes}
use Rattle.sysv_model.specs.declared.attributes.SetTo.{SetTo}
use Rattle.sysv_rules.specs.declared.permission.Want.{Want}
use Rattle.sysv_rules.specs.declared.permission.Want.TheVariants.{Read, Write}
use Rattle.sysv_rules.specs.Permission.{IsPermitted}
use Rattle.sysv_rules.specs.Permission.{MayControl as MayControlUnder}

-- A queue is live, and the caller has the wanted access to it.
abbrev pub IsGranted : Want → Cred → Option Attributes → Type 0
IsGranted want cred None = ⊥
IsGranted want cred (Some a) = IsPermitted cred a.perm want

-- A queue is live, and the caller may read it.
abbrev pub MayRead : Cred → Option Attributes → Type 0
MayRead cred live = IsGranted Read cred live

-- A queue is live, and the caller may write to it.
abbrev pub MayWrite : Cred → Option Attributes → Type 0
MayWrite cred live = IsGranted Write cred live

-- The flags of a msgget request read permission: a read bit of the mode is set (which bits request
-- which permission is this profile's).
abbrev pub AsksRead : Flags → Type 0
AsksRead flags = bit_and flags.0 0o444 ≢ 0

-- The flags of a msgget request write permission: a write bit of the mode is set.
abbrev pub AsksWrite : Flags → Type 0
AsksWrite flags = bit_and flags.0 0o222 ≢ 0

-- The caller has each permission that the flags request.
abbrev pub MayAsAsked : Flags → Cred → Option Attributes → Type 0
MayAsAsked flags cred live = (AsksRead flags → MayRead cred live) × (AsksWrite flags → MayWrite cred live)

-- A queue is live, and the caller may change and remove it (POSIX.1-2017, msgctl, IPC_SET and
-- IPC_RMID).
abbrev pub MayControl : Cred → Option Attributes → Type 0
MayControl cred None = ⊥
MayControl cred (Some a) = MayControlUnder cred a.perm

-- A queue is live, and the caller may set its limit to this one: user 0 may set any limit, other
-- callers only one that is not above the present limit (POSIX.1-2017, msgctl, IPC_SET).
abbrev pub MayLimit : Cred → SetTo → Option Attributes → Type 0
MayLimit cred to None = ⊥
MayLimit cred to (Some a) = (to.qbytes ≤ a.qbytes) ⊎ (cred.uid ≡ 0)
