use Rattle.clap.specs.declared.parser.matches.ArgMatches.TheViews.{out-ArgMatches}
use Rattle.sysv_options.proofs.WordLemmas.{found_command}
use Rattle.sysv_options.proofs.asked.command_in.Goals as goal

pub returns : goal.returns
returns c = found_command (out-ArgMatches c.args.matches.now).subcommand c.subcommand.result c.subcommand.ensures.name
    c.subcommand.ensures.rows
