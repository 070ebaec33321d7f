use Rattle.std.proofs.Common.{rules}
use Rattle.sysv_options.specs.Words.{words_in}
use Rattle.sysv_options.proofs.AskedLemmas.{no_client}
use Rattle.sysv_options.proofs.asked.client.Goals as goal

pub returns-in_err-task-clause-meaning : goal.returns-in_err-task-clause-meaning
returns-in_err-task-clause-meaning c =
    search (rules, no_client c.args.name.now (words_in c.args.words.now) c.in_err-task.ensures.meaning)
