use Rattle.sysv_script.proofs.OneSaying.{says_or_not}
use Rattle.sysv_script.proofs.line_laws.each_line_is_decided.Goals as goal

pub returns : goal.returns
returns c = says_or_not c.words_are_read.ensures
