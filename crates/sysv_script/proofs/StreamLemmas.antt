-- What two reads return, and what two writes take, one after the other.
use Rattle.std.proofs.Common.{ℕ, List, [], ◌++◌, Option}
use Rattle.std.proofs.KnownBytes.{Appends-nil, Appends-trans}
use Rattle.sysv_script.specs.Faults.{Grows}
use Rattle.sysv_model.specs.Writing.{AppendsPrefix}
use Rattle.sysv_script.specs.Streams.{HandsOn}

pub Grows-none : (a : Option (List ℕ)) → Grows a a
Grows-none a = ([], Appends-nil a)

pub Grows-trans : (a b c : Option (List ℕ)) → Grows a b → Grows b c → Grows a c
Grows-trans a b c first second = (first.0 ++ second.0, Appends-trans a b c first.0 second.0 first.1 second.1)

pub Grows-handed : (a b : Option (List ℕ)) (waiting rest : List ℕ) → HandsOn a waiting b rest → Grows a b
Grows-handed a b waiting rest handed = (handed.0, handed.2)

pub Grows-part : (a b : Option (List ℕ)) (bytes : List ℕ) → AppendsPrefix a b bytes → Grows a b
Grows-part a b bytes part = (part.0, part.2)
