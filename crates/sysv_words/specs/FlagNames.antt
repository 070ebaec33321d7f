-- The flags of a call by their names in a script (this project's script language; the numbers are
-- those of this project's profile, sys/ipc.h and sys/msg.h).
use Rattle.std.specs.Prelude.{◌≡◌, ◌≤◌, ◌⊎◌, ℕ, List, ◌∷◌, ◌++◌, length, codes, bit_or}
use Rattle.std.specs.Str.Parse.{AllDigits, digits_value}
use Rattle.sysv_model.specs.declared.flags.Flags.{Flags}
use Rattle.sysv_model.specs.declared.flags.TheConstants.Flags.{IPC_CREAT, IPC_EXCL, IPC_NOWAIT, MSG_NOERROR, MSG_EXCEPT}

-- The digits of a mode after its `0`: up to three octal digits.
abbrev pub IsMode : List ℕ → Type 0
IsMode digits = (length digits ≤ 3) × AllDigits 8 digits

-- The name is an octal mode with these bits: a `0` and such digits.
abbrev pub NamesMode : List ℕ → ℕ → Type 0
NamesMode name bits = (digits : List ℕ) × (name ≡ 48 ∷ digits) × IsMode digits × (bits ≡ digits_value 8 digits)

-- The name is that of a flag with these bits.
abbrev pub HasName : List ℕ → ℕ → Type 0
HasName name bits =
    ((name ≡ codes "CREAT") × (bits ≡ IPC_CREAT.0)) ⊎ ((name ≡ codes "EXCL") × (bits ≡ IPC_EXCL.0))
    ⊎ ((name ≡ codes "NOWAIT") × (bits ≡ IPC_NOWAIT.0)) ⊎ ((name ≡ codes "NOERROR") × (bits ≡ MSG_NOERROR.0))
    ⊎ ((name ≡ codes "EXCEPT") × (bits ≡ MSG_EXCEPT.0))

-- The name is that of a flag, or an octal mode, with these bits.
abbrev pub NamesFlag : List ℕ → ℕ → Type 0
NamesFlag name bits = NamesMode name bits ⊎ HasName name bits

-- Names separated by `+` have, combined with the bits of the names before them, these bits.
pub data AddsFlags : ℕ → List ℕ → ℕ → Type 0 where
  One : (before : ℕ) (name : List ℕ) (bits : ℕ) → NamesFlag name bits → AddsFlags before name (bit_or before bits)
  More : (before : ℕ) (name rest : List ℕ) (bits all : ℕ) → NamesFlag name bits →
      AddsFlags (bit_or before bits) rest all → AddsFlags before (name ++ 43 ∷ rest) all

-- Names separated by `+` have these bits: those of all names, combined by or.
abbrev pub ListsFlags : List ℕ → ℕ → Type 0
ListsFlags list bits = AddsFlags 0 list bits

-- The word means these flags: `-` means none.
abbrev pub IsFlags : List ℕ → ℕ → Type 0
IsFlags word bits = ((word ≡ codes "-") × (bits ≡ 0)) ⊎ ListsFlags word bits

-- The same, as a value of the code.
abbrev pub IsFlagList : List ℕ → Flags → Type 0
IsFlagList word flags = IsFlags word flags.0
