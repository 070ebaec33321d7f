use Rattle.sysv_words.specs.Splitting.{splits_once, SplitsAt-marked}
use Rattle.sysv_words.specs.Deciding.{splits_or_not, splits_shorter}
use Rattle.sysv_words.proofs.laws.one_split.Goals as goal

pub returns : goal.returns
returns c = record { once = splits_once; either = splits_or_not; marked = SplitsAt-marked; shorter = splits_shorter }
