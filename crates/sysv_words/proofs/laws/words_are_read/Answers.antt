use Rattle.sysv_words.proofs.OneValue.{each_word}
use Rattle.sysv_words.proofs.laws.words_are_read.Goals as goal

pub returns : goal.returns
returns c = each_word
