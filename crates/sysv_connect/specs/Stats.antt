-- What the client of `stats` does (this project's programs).
use Rattle.std.specs.Prelude.{◌≡◌, ◌≤◌, ◌⊎◌, ℕ, Bool, true, false, List, codes, [], ◌∷◌, ◌++◌, length, Option}
use Rattle.std.specs.Io.KnownBytes.{Appends, Consumes, IsAtEnd}
use Rattle.std.specs.declared.process.ExitCode.{ExitCode}
use Rattle.sysv_clients.specs.declared.fault.ClientFault.{ClientFault}
use Rattle.sysv_clients.specs.Faults.{fault_line}
use Rattle.sysv_connect.specs.declared.how.Telling.{Telling}
use Rattle.sysv_connect.specs.Ends.{Fails, Succeeds}
use Rattle.sysv_connect.specs.Telling.{Tells}
use Rattle.sysv_model.specs.Writing.{AppendsPrefix}

-- What it asks the server, for a JSON object if this is true.
abbrev pub asked_with : Bool → List ℕ
asked_with true = codes "json" ++ 10 ∷ []
asked_with false = 10 ∷ []

-- It asked the server, and printed all bytes that the server wrote, at least one, and nothing else.
pub record PrintsState (json : Bool) (left rest taken more shown after : Option (List ℕ)) : Type 0 where
  pub bytes : List ℕ
  pub asks : Appends taken more (asked_with json)
  pub read : Consumes left rest bytes
  pub whole : IsAtEnd rest
  pub some : 1 ≤ length bytes
  pub printed : Appends shown after bytes

-- It asked the server no more than that. It told a fault, or printed a prefix of all bytes that the
-- server wrote.
pub record PrintsPart (telling : Telling) (json : Bool)
    (left rest taken more shown after : Option (List ℕ)) : Type 0 where
  pub bytes : List ℕ
  pub asks : AppendsPrefix taken more (asked_with json)
  pub read : ((why : ClientFault) × Tells telling (fault_line why) shown after)
      ⊎ (Consumes left rest bytes × AppendsPrefix shown after bytes)

-- How the program ends after that, over a connection.
abbrev pub HasLooked : Telling → Bool → ExitCode → (left rest taken more shown after : Option (List ℕ)) → Type 0
HasLooked telling json exit left rest taken more shown after =
    (Succeeds exit × PrintsState json left rest taken more shown after)
    ⊎ (Fails exit × PrintsPart telling json left rest taken more shown after)
