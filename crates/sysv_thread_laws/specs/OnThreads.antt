-- The headline of threads. An execution obeys every law of the headline but for that of waits, of
-- which ParkedOnThreads.antt has what holds: a call may have read its counts at any time before.
-- All else holds: every accepted message is delivered exactly once, discarded when its queue is
-- removed, or still queued; each receive takes the message that its selector names; messages of one
-- type leave in the order of acceptance; every result follows from the call's arguments and own
-- turns; no block is made or lost; each install finds its slot vacant, each forget a row; after a
-- removal nothing is accepted or delivered under that identifier, for good, and the sends and
-- receives of that queue report the removal (what POSIX.1-2017 says of msgget, msgsnd, msgrcv and
-- msgctl, in the steps of this project's profile).
use Rattle.std.specs.Prelude.{◌≡◌, ◌⊎◌, ℕ, List, Contains}
use Rattle.sysv_model.specs.History.{ReadRow, Reply}
use Rattle.sysv_model.specs.Turn.{AtSlot, Turn}
use Rattle.sysv_core.specs.World.{World, Opening, Invocation, Response, opening}
use Rattle.sysv_core.specs.Forgotten.{AllTakeTheirRows}
use Rattle.sysv_core.specs.Headline.{IsLawful}
use Rattle.sysv_thread_laws.specs.Execution.{nobody, Moment, LeadsOnThreads}

-- The turn reads a row and belongs to no call.
abbrev pub IsRowRead : Turn → Type 0
IsRowRead t = (t.who ≡ nobody) × ((slot : ℕ) × (reply : Reply) × (t.op ≡ AtSlot slot ReadRow reply))

-- The turn belongs to a call that was started, or reads a row.
abbrev pub IsMadeOrRead : List Invocation → Turn → Type 0
IsMadeOrRead calls t = IsRowRead t ⊎ ((call : Invocation) × Contains calls call × (t.who ≡ call.who))

-- The laws of the headline but for that of waits. Each turn is made by one of the calls, or reads a
-- row.
abbrev pub ObeysOnThreads : Opening → World → List Response → Type 0
ObeysOnThreads o w responses = IsLawful IsMadeOrRead o w responses

-- Every list of moments leads from every opening only to worlds that obey these laws.
abbrev pub EveryThreadedRunObeys : Type 0
EveryThreadedRunObeys = (o : Opening) (list : List Moment) (responses : List Response) (w : World) →
    LeadsOnThreads (opening o) list responses w → ObeysOnThreads o w responses

-- In every execution each forget takes a row away: that of the identifier that was removed.
abbrev pub EachForgetTakesItsRow : Type 0
EachForgetTakesItsRow = (o : Opening) (list : List Moment) (responses : List Response) (w : World) →
    LeadsOnThreads (opening o) list responses w → AllTakeTheirRows w.turns
