-- A call of the service that found no gate worn out returns what a call of System V queues returns
-- for the turns that it made itself: 0 exactly if its message was accepted, the set done or the
-- queue removed, a message exactly if it was taken, and each error exactly if its cause was met
-- (POSIX.1-2017, msgget, msgsnd, msgrcv and msgctl).
use Rattle.std.specs.Prelude.{ℕ, List}
use Rattle.sysv_model.specs.declared.cred.Cred.{Cred}
use Rattle.sysv_model.specs.Turn.{Op}
use Rattle.sysv_steps.specs.Call.{SystemCall}
use Rattle.sysv_steps.specs.Begin.{begin}
use Rattle.sysv_steps.specs.State.{Ending, Over}
use Rattle.sysv_steps.specs.Answers.{IsRightAnswer}
use Rattle.sysv_service.specs.Ran.{Pass, Ran, FindsTurns}

-- Each call that is over and found no gate worn out has the right result for its turns.
abbrev pub EachRunAnswersRight : (ℕ → Type 0) → Type 0
EachRunAnswersRight may =
    (cred : Cred) (asked : SystemCall) (released : ℕ) (old : Pass) (ops : List Op) (ending : Ending) (new : Pass)
    (ran : Ran may (begin cred asked released) old ops (Over ending) new) → FindsTurns ran →
    IsRightAnswer asked ops ending
