use Rattle.std.proofs.Common.{ap, ◌∙◌, arith}
use Rattle.sysv_rules.specs.Digits.{digits}
use Rattle.tests_objects.proofs.Digits.{nine_digits}
use Rattle.tests_objects.proofs.queue.indexed.take_by_few.Goals as goal

pub returns : goal.returns
returns g c = λ by_few.
    let few = c.take_counted.ensures.few by_few in let nine = ap digits c.requires.full ∙ nine_digits in omega arith
