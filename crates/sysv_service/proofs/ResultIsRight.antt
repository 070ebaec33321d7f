-- Proves that the result of a call is right for the turns that it made.
use Rattle.std.proofs.Common.{ℕ}
use Rattle.sysv_steps.specs.Answers.{EachAnswerIsRight}
use Rattle.sysv_steps.specs.State.{Over}
use Rattle.sysv_service.specs.RightAnswers.{EachRunAnswersRight}
use Rattle.sysv_service.proofs.PlaysOwnTurns.{plays}

pub each_answers_right : EachAnswerIsRight → (may : ℕ → Type 0) → EachRunAnswersRight may
each_answers_right right may cred asked released old ops ending new ran found =
    right cred asked released ops ending (plays may _ old ops (Over ending) new ran found)
