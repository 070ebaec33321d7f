-- The permissions of a caller at a queue (POSIX.1-2017, 2.7.1 IPC General Description). The
-- caller's user is compared with the owner's and the creator's, then its group with theirs. The
-- bits of the first class that applies decide alone. This profile gives user 0 the appropriate
-- privileges.
use Rattle.std.specs.Prelude.{◌≡◌, ◌≢◌, ◌⊎◌, ℕ, bit_and}
use Rattle.sysv_model.specs.declared.cred.Cred.{Cred}
use Rattle.sysv_model.specs.declared.attributes.Perm.{Perm}
use Rattle.sysv_rules.specs.declared.permission.Want.{Want}
use Rattle.sysv_rules.specs.declared.permission.Want.TheVariants.{Read, Write}

-- The caller's user is the owner's or the creator's.
abbrev pub IsOwner : Cred → Perm → Type 0
IsOwner cred perm = (cred.uid ≡ perm.uid) ⊎ (cred.uid ≡ perm.cuid)

-- The caller's group is the owner's or the creator's.
abbrev pub IsInGroup : Cred → Perm → Type 0
IsInGroup cred perm = (cred.gid ≡ perm.gid) ⊎ (cred.gid ≡ perm.cgid)

-- The bit of the user class.
abbrev pub user_bit : Want → ℕ
user_bit Read = 0o400
user_bit Write = 0o200

-- The bit of the group class.
abbrev pub group_bit : Want → ℕ
group_bit Read = 0o040
group_bit Write = 0o020

-- The bit of the class of all others.
abbrev pub other_bit : Want → ℕ
other_bit Read = 0o004
other_bit Write = 0o002

-- The mode has the bit.
abbrev pub HasBit : Perm → ℕ → Type 0
HasBit perm bit = bit_and perm.mode bit ≢ 0

-- The caller has the wanted access: it is user 0, or the mode has the bit of the caller's class
-- (owner, otherwise group, otherwise other).
abbrev pub IsPermitted : Cred → Perm → Want → Type 0
IsPermitted cred perm want =
    (cred.uid ≡ 0)
    ⊎ (IsOwner cred perm × HasBit perm (user_bit want))
    ⊎ (¬ IsOwner cred perm × IsInGroup cred perm × HasBit perm (group_bit want))
    ⊎ (¬ IsOwner cred perm × ¬ IsInGroup cred perm × HasBit perm (other_bit want))

-- The caller may change or remove the queue (POSIX.1-2017, msgctl, IPC_SET and IPC_RMID): it is
-- user 0, or its user is the owner's or the creator's.
abbrev pub MayControl : Cred → Perm → Type 0
MayControl cred perm = (cred.uid ≡ 0) ⊎ IsOwner cred perm
