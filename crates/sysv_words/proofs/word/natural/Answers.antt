use Rattle.std.proofs.Common.{arith}
use Rattle.sysv_words.proofs.Numerals.{IsUtf8-digits}
use Rattle.sysv_words.proofs.word.natural.Goals as goal

pub returns-in-Err : goal.returns-in-Err
returns-in-Err c = λ h. c.in-Err.ensures.cases.0 (IsUtf8-digits 10 c.args.word.now (omega arith) h.0)
