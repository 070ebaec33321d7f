use Rattle.clap.specs.Words.{subcommand_rows_of}
use Rattle.sysv_options.specs.Words.{words_in}
use Rattle.sysv_options.proofs.AskedLemmas.{as_command}
use Rattle.sysv_options.proofs.asked.task_of.Goals as goal

pub returns-in_default-name-clause-meaning : goal.returns-in_default-name-clause-meaning
returns-in_default-name-clause-meaning c =
    as_command c.in-Some.name.now (words_in c.in-Some.words.now) (subcommand_rows_of c.args.matches.now) c.client.result
    c.in-Some.ensures (record {
      not_script = c.in_default-name.not-script;
      not_serve = c.in_default-name.not-serve;
      not_stats = c.in_default-name.not-stats;
      not_save = c.in_default-name.not-save;
      not_load = c.in_default-name.not-load;
    }) c.client.ensures.meaning
