-- A word that is not UTF-8 is no request for the help or the version.
use Rattle.std.proofs.Common.{subst}
use Rattle.clap.specs.Values.{kind_of}
use Rattle.sysv_connect.specs.declared.how.Telling.{Telling}
use Rattle.sysvmsg.specs.Running.{TellsError}
use Rattle.sysvmsg.proofs.Told.{no_help}
use Rattle.sysvmsg.proofs.running.refuse.Goals as goal

pub returns-in-NoText-clause-told : goal.returns-in-NoText-clause-told
returns-in-NoText-clause-told g c =
    let shown = g.S.Write.contents c.args.screen.now.writer in
    let after = g.S.Write.contents c.tell.new.screen.writer in
    rw c.in-NoText.is
    (subst (λ (told : Telling). TellsError told shown after) c.telling-asked.ensures
    (no_help c.telling-asked.result (kind_of c.no_text.result) shown after c.no_text.ensures c.tell.ensures.told))
