use Rattle.sysv_words.proofs.Numerals.{IsUtf8-number}
use Rattle.sysv_words.proofs.word.number.Goals as goal

pub returns-in-Err : goal.returns-in-Err
returns-in-Err c = λ h. c.in-Err.ensures.cases.0 (IsUtf8-number c.args.word.now h.0)
