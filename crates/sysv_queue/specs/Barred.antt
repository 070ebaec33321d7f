-- The causes that keep a call from the queue that it names (this profile's): the identifier is not
-- live, or the access that the caller wants is not granted. Calls that change or remove the queue
-- report them with the names of POSIX.1-2017, msgctl, ERRORS.
use Rattle.std.specs.Prelude.{ℤ, Option}
use Rattle.sysv_model.specs.declared.cred.Cred.{Cred}
use Rattle.sysv_model.specs.declared.attributes.Attributes.{Attributes}
use Rattle.sysv_model.specs.declared.errno.Errno.{Errno}
use Rattle.sysv_model.specs.declared.errno.Errno.TheVariants.{EINVAL, EPERM}
use Rattle.sysv_model.specs.Live.{HasId}
use Rattle.sysv_rules.specs.declared.permission.Want.{Want}
use Rattle.sysv_queue.specs.declared.slot.Barred.{Barred}
use Rattle.sysv_queue.specs.declared.slot.Barred.TheVariants.{Gone, Denied}
use Rattle.sysv_queue.specs.Granted.{IsGranted, MayControl}

-- This cause keeps a caller that wants this access from the queue.
abbrev pub Bars : ℤ → Cred → Want → Option Attributes → Barred → Type 0
Bars id cred want live Gone = ¬ HasId live id
Bars id cred want live Denied = HasId live id × ¬ IsGranted want cred live

-- This error is why the caller may not change or remove the queue.
abbrev pub BarsControl : ℤ → Cred → Option Attributes → Errno → Type 0
BarsControl id cred live EINVAL = ¬ HasId live id
BarsControl id cred live EPERM = HasId live id × ¬ MayControl cred live
BarsControl id cred live why = ⊥
