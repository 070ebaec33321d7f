use Rattle.tests_steps.proofs.Counts.{rises}
use Rattle.tests_steps.proofs.objects.turn.Goals as goal

pub returns-clause-counts : goal.returns-clause-counts
returns-clause-counts c =
    rises c.args.raised c.args.objects.now c.make.new.self c.args.call c.make.result c.make.ensures.turn c.requires.low
