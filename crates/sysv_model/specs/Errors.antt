-- The errors of this profile, with the names of POSIX.1-2017, errno.h, and this profile's numbers.
use Rattle.std.specs.Prelude.{ℕ, List, codes}
use Rattle.sysv_model.specs.declared.errno.Errno.{Errno}
use Rattle.sysv_model.specs.declared.errno.Errno.TheVariants.{EPERM, ENOENT, E2BIG, EAGAIN, EACCES, EEXIST, EINVAL}
use Rattle.sysv_model.specs.declared.errno.Errno.TheVariants.{ENOSPC, ENOMSG, EIDRM, EOVERFLOW}

-- The number of an error.
abbrev pub number_of : Errno → ℕ
number_of EPERM = 1
number_of ENOENT = 2
number_of E2BIG = 7
number_of EAGAIN = 11
number_of EACCES = 13
number_of EEXIST = 17
number_of EINVAL = 22
number_of ENOSPC = 28
number_of ENOMSG = 42
number_of EIDRM = 43
number_of EOVERFLOW = 75

-- The name of an error, as character codes.
abbrev pub name_of : Errno → List ℕ
name_of EPERM = codes "EPERM"
name_of ENOENT = codes "ENOENT"
name_of E2BIG = codes "E2BIG"
name_of EAGAIN = codes "EAGAIN"
name_of EACCES = codes "EACCES"
name_of EEXIST = codes "EEXIST"
name_of EINVAL = codes "EINVAL"
name_of ENOSPC = codes "ENOSPC"
name_of ENOMSG = codes "ENOMSG"
name_of EIDRM = codes "EIDRM"
name_of EOVERFLOW = codes "EOVERFLOW"
