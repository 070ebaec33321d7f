-- What became of the place of a server (this project's programs).
use Rattle.std.specs.Prelude.{◌≡◌, Bool, true, false}
use Rattle.std.specs.declared.io.Error.{Error}
use Rattle.sysv_connect.specs.declared.contact.Contact.{Contact}
use Rattle.sysv_connect.specs.declared.contact.Contact.TheVariants.{Unused, Refused, Made}
use Rattle.sysv_connect.specs.declared.link.Unlinked.{Unlinked}
use Rattle.sysv_connect.specs.declared.link.Unlinked.TheVariants.{NoMemory, NoServer}

-- A place was left as it was, or refused a connection, and this holds of whether it refused one; or a
-- connection to it was made, and that holds of the connection.
abbrev pub Visited : {P C : Type 0} → (Refuses : Error → Type 0) → P → (Unmade : (refused : Bool) → Type 0) →
    (Did : C → Type 0) → Contact P C → Type 0
Visited Refuses place Unmade Did (Unused same) = (same ≡ place) × Unmade false
Visited Refuses place Unmade Did (Refused why) = Refuses why × Unmade true
Visited Refuses place Unmade Did (Made connection) = Did connection

-- What became of a place to which there is no connection for this reason.
abbrev pub contact_of : {P C : Type 0} → Unlinked P → Contact P C
contact_of (NoMemory place) = Unused place
contact_of (NoServer why) = Refused why

-- The place refused a connection, if there is none for this reason.
abbrev pub is_refused : {P : Type 0} → Unlinked P → Bool
is_refused (NoMemory place) = false
is_refused (NoServer why) = true

-- There is no connection for this reason: the place was left as it was, or refused one.
abbrev pub IsUnlinked : {P : Type 0} → (Refuses : Error → Type 0) → P → Unlinked P → Type 0
IsUnlinked Refuses place (NoMemory same) = same ≡ place
IsUnlinked Refuses place (NoServer why) = Refuses why
