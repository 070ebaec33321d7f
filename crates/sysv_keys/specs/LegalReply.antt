-- The legal reply to a call of a registry with this state (POSIX.1-2017, msgget, DESCRIPTION and
-- ERRORS; the calls and the order of the causes are this profile's). The causes of a call's replies
-- have one order, and a reply is legal if and only if its cause is the first that applies. A reply
-- that is not listed is never legal.
use Rattle.std.specs.Prelude.{◌≡◌, ◌≢◌, ℕ, ℤ, ◌⊎◌, true, false, ◌∷◌, ◌++◌}
use Rattle.sysv_model.specs.declared.limits.TheConstants.{IPC_PRIVATE}
use Rattle.sysv_model.specs.declared.flags.Flags.{Flags}
use Rattle.sysv_model.specs.declared.flags.TheConstants.Flags.{IPC_CREAT}
use Rattle.sysv_model.specs.declared.errno.Errno.TheVariants.{ENOENT, ENOSPC}
use Rattle.sysv_model.specs.HasFlag.{has_flag}
use Rattle.sysv_model.specs.Registry.{RegistryCall, RegistryReply, RegistryEntry, RegistryHistory, Begin, Settle}
use Rattle.sysv_model.specs.Registry.{Forget, Found, Made, Busy, Unbound, Changed}
use Rattle.sysv_keys.specs.Identifier.{id_of}
use Rattle.sysv_keys.specs.State.{State, state_of}
use Rattle.sysv_keys.specs.Rows.{Row, HasRow, IsLeastVacant, IsVacant}

-- A row has the key.
abbrev pub IsBound : State → ℤ → Type 0
IsBound r key = (row : Row) × HasRow r row × (row.key ≡ key)

-- A begin is to make an identifier: the key is private, whatever the flags are, or no row has the
-- key and IPC_CREAT is set.
abbrev pub Creates : State → ℤ → Flags → Type 0
Creates r key flags = (key ≡ IPC_PRIVATE) ⊎ (¬ IsBound r key × (has_flag IPC_CREAT flags ≡ true))

-- The replies to begin: Found if the key's row is Live; Busy if it is Making; ENOENT if no row has
-- the key and none is to be made; ENOSPC if one is to be made and no slot is vacant; otherwise Made
-- with the identifier of the least vacant slot in its generation. A private key is never found,
-- busy or ENOENT. Found and Busy have the settled count.
abbrev pub LegalBegin : State → ℤ → Flags → RegistryReply → Type 0
LegalBegin r key flags (Found id told) =
    (key ≢ IPC_PRIVATE) × HasRow r (record { id = id; key = key; live = true }) × (told ≡ r.settled)
LegalBegin r key flags (Busy told) =
    (key ≢ IPC_PRIVATE) × ((id : ℤ) × HasRow r (record { id = id; key = key; live = false })) × (told ≡ r.settled)
LegalBegin r key flags (Unbound ENOENT) = (key ≢ IPC_PRIVATE) × ¬ IsBound r key × (has_flag IPC_CREAT flags ≡ false)
LegalBegin r key flags (Unbound ENOSPC) = Creates r key flags × ((slot : ℕ) → ¬ IsVacant r slot)
LegalBegin r key flags (Made id) =
    Creates r key flags × ((slot : ℕ) × IsLeastVacant r slot × (id ≡ id_of slot (r.places slot).generation))
LegalBegin r key flags reply = ⊥

-- The replies to settle: true if the identifier has a Making row, otherwise false.
abbrev pub LegalSettle : State → ℤ → RegistryReply → Type 0
LegalSettle r id (Changed true) = (key : ℤ) × HasRow r (record { id = id; key = key; live = false })
LegalSettle r id (Changed false) = (key : ℤ) → ¬ HasRow r (record { id = id; key = key; live = false })
LegalSettle r id reply = ⊥

-- The replies to forget: true if the identifier has a row, otherwise false.
abbrev pub LegalForget : State → ℤ → RegistryReply → Type 0
LegalForget r id (Changed true) = (row : Row) × HasRow r row × (row.id ≡ id)
LegalForget r id (Changed false) = (row : Row) → HasRow r row → row.id ≢ id
LegalForget r id reply = ⊥

-- The reply to this call is legal at a registry with this state.
abbrev pub Legal : State → RegistryCall → RegistryReply → Type 0
Legal r (Begin key flags) reply = LegalBegin r key flags reply
Legal r (Settle id) reply = LegalSettle r id reply
Legal r (Forget id) reply = LegalForget r id reply

-- The reply to this call is legal after this history, if all slots had the generation `opening`
-- when the registry was opened.
abbrev pub IsLegalReply : ℕ → RegistryHistory → RegistryCall → RegistryReply → Type 0
IsLegalReply opening h call reply = Legal (state_of opening h) call reply

-- Every reply of the history is legal after the entries before it.
abbrev pub IsLegalHistory : ℕ → RegistryHistory → Type 0
IsLegalHistory opening h = (before : RegistryHistory) (e : RegistryEntry) (after : RegistryHistory) →
    h ≡ before ++ e ∷ after → IsLegalReply opening before e.call e.reply
