-- How the faults of a client are told (this project's programs). The screen had `shown` before and has
-- `after` now.
use Rattle.std.specs.Prelude.{◌≡◌, ◌⊎◌, ℕ, Bool, true, false, List, [], ◌∷◌, ◌++◌, codes, Option}
use Rattle.sysv_clients.specs.declared.fault.ClientFault.TheVariants.{NoMemory}
use Rattle.sysv_clients.specs.Faults.{fault_line}
use Rattle.sysv_connect.specs.declared.how.Telling.{Telling}
use Rattle.sysv_connect.specs.declared.how.Telling.TheVariants.{Line, Both, Sentence}
use Rattle.sysv_model.specs.Writing.{AppendsPrefix}

-- A fault is told by a line on standard output.
abbrev pub has_line : Telling → Bool
has_line Line = true
has_line Both = true
has_line Sentence = false

-- A fault is told by a sentence on standard error.
abbrev pub has_sentence : Telling → Bool
has_sentence Line = false
has_sentence Both = true
has_sentence Sentence = true

-- What the screen took of a fault with this line: the line, or a prefix of it if the screen failed, and
-- nothing if faults are told only by sentences.
abbrev pub Tells : Telling → List ℕ → (shown after : Option (List ℕ)) → Type 0
Tells Line line shown after = AppendsPrefix shown after line
Tells Both line shown after = AppendsPrefix shown after line
Tells Sentence line shown after = after ≡ shown

-- The line of a fault if no connection can be made.
abbrev pub no_server_line : List ℕ
no_server_line = codes "sysvmsg: no server" ++ 10 ∷ []

-- The line of a fault if the standard input cannot be read.
abbrev pub no_input_line : List ℕ
no_input_line = codes "sysvmsg: cannot read" ++ 10 ∷ []

-- What the screen took of a fault before a connection: the place refused one, or memory was refused, or
-- the input could not be read.
abbrev pub TellsUnmade : Telling → (refused : Bool) → (shown after : Option (List ℕ)) → Type 0
TellsUnmade telling true shown after = Tells telling no_server_line shown after
TellsUnmade telling false shown after =
    Tells telling (fault_line NoMemory) shown after ⊎ Tells telling no_input_line shown after
