use Rattle.sysv_script.proofs.OneSaying.{says_once}
use Rattle.sysv_script.proofs.line_laws.one_saying.Goals as goal

pub returns : goal.returns
returns c = says_once c.words_are_read.ensures
