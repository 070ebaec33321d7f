use Rattle.sysv_options.proofs.WordLemmas.{found_word}
use Rattle.sysv_options.proofs.asked.word_in.Goals as goal

pub returns : goal.returns
returns c = found_word c.args.words.now c.args.name.now c.get_str.result c.get_str.ensures
