-- The time of a word with a point is that of its parts, and of one without a point its seconds.
use Rattle.sysv_options.proofs.TimeLemmas.{time_of_parts, time_of_whole}
use Rattle.sysv_options.proofs.asked.milliseconds.Goals as goal

pub returns-in-Some : goal.returns-in-Some
returns-in-Some c =
    time_of_parts c.one_split.ensures c.args.word.now c.in-Some.seconds.now c.in-Some.places.now c.parts.result
    c.in-Some.ensures c.parts.ensures

pub returns-in-None : goal.returns-in-None
returns-in-None c =
    time_of_whole c.one_split.ensures c.args.word.now c.whole_seconds.result c.in-None.ensures c.whole_seconds.ensures
