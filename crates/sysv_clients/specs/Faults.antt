-- What a client shows of a fault (this project's programs).
use Rattle.std.specs.Prelude.{ℕ, List, [], ◌∷◌, ◌++◌, codes}
use Rattle.sysv_clients.specs.declared.fault.ClientFault.{ClientFault}
use Rattle.sysv_clients.specs.declared.fault.ClientFault.TheVariants.{Refused, NoReply, NoMemory}
use Rattle.sysv_model.specs.Errors.{name_of}

-- The name of a fault in its line.
abbrev pub fault_text : ClientFault → List ℕ
fault_text (Refused error) = name_of error
fault_text NoReply = codes "no reply"
fault_text NoMemory = codes "no memory"

-- The one line that is shown.
abbrev pub fault_line : ClientFault → List ℕ
fault_line fault = codes "sysvmsg: " ++ fault_text fault ++ 10 ∷ []
