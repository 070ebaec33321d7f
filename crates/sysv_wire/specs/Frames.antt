-- What all frames have (this project's profile): the length of what follows, then a version and an
-- operation.
use Rattle.std.specs.Prelude.{◌≢◌, ◌≤◌, ℕ, List, ◌++◌, length}
use Rattle.sysv_wire.specs.declared.frame.Op.{Op}
use Rattle.sysv_wire.specs.declared.frame.Op.TheVariants.{Hello, Get, Snd, Rcv, Stat, Set, Rm, Row, Hold, Done, Back}
use Rattle.sysv_wire.specs.declared.frame.Version.{Version}
use Rattle.sysv_wire.specs.declared.frame.Version.TheVariants.{One, Two, Three}
use Rattle.sysv_wire.specs.Numbers.{u32_bytes}

-- The number of a version.
abbrev pub version_number : Version → ℕ
version_number One = 1
version_number Two = 2
version_number Three = 3

-- The version is at most this one. A reader has a newest version, and reads frames of the versions up
-- to it.
abbrev pub IsUpTo : Version → Version → Type 0
IsUpTo newest version = version_number version ≤ version_number newest

-- No version up to this one has the number.
abbrev pub IsNoVersion : Version → ℕ → Type 0
IsNoVersion One number = number ≢ version_number One
IsNoVersion Two number = (number ≢ version_number One) × (number ≢ version_number Two)
IsNoVersion Three number =
    (number ≢ version_number One) × (number ≢ version_number Two) × (number ≢ version_number Three)

-- The number of an operation.
abbrev pub op_number : Op → ℕ
op_number Hello = 0
op_number Get = 1
op_number Snd = 2
op_number Rcv = 3
op_number Stat = 4
op_number Set = 5
op_number Rm = 6
op_number Row = 7
op_number Hold = 8
op_number Done = 9
op_number Back = 10

-- The number of a version's last operation.
abbrev pub last_op : Version → ℕ
last_op One = op_number Row
last_op Two = op_number Row
last_op Three = op_number Back

-- The version has the operation.
abbrev pub HasOp : Version → Op → Type 0
HasOp version op = op_number op ≤ last_op version

-- A reader with this newest version reads frames of the version, which has the operation.
abbrev pub Knows : Version → Version → Op → Type 0
Knows newest version op = IsUpTo newest version × HasOp version op

-- The frame of some content: the length of the content in four bytes, and then the content.
unfoldable pub frame : List ℕ → List ℕ
frame content = u32_bytes (length content) ++ content
