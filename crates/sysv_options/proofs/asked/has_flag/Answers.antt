use Rattle.sysv_options.proofs.WordLemmas.{found_flag}
use Rattle.sysv_options.proofs.asked.has_flag.Goals as goal

pub returns : goal.returns
returns c = found_flag c.args.words.now c.args.name.now c.get_flag.result c.get_flag.ensures.none
    c.get_flag.ensures.value c.get_flag.ensures.other
