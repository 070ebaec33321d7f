-- The words that are read mean what is answered. Those that are refused say how that is told.
use Rattle.std.proofs.Common.{inl, inr, subst}
use Rattle.clap.specs.Values.{kind_of}
use Rattle.sysv_connect.specs.declared.how.Telling.{Telling}
use Rattle.sysv_connect.specs.Ends.{Succeeds}
use Rattle.sysv_options.specs.Who.{told_by}
use Rattle.sysvmsg.specs.Running.{TellsRefused}
use Rattle.sysvmsg.proofs.running.run.Goals as goal

pub returns-in-Ok : goal.returns-in-Ok
returns-in-Ok g c = inl (c.in-Ok.asked, c.in-Ok.ensures.meaning, c.answer.ensures)

pub returns-in-Err : goal.returns-in-Err
returns-in-Err g c =
    let shown = g.S.Write.contents c.args.screen.now.writer in
    let after = g.S.Write.contents c.tell.new.screen.writer in
    inr (
      c.in-Err.error,
      c.in-Err.ensures.refused,
      λ success. c.tell.ensures.help (subst Succeeds c.unused.ensures.exit success),
      c.unused.ensures.contact,
      subst (λ (asked : Telling). TellsRefused (told_by asked c.args.around.now) (kind_of c.in-Err.error) shown after)
          c.telling_of.ensures
          (subst (λ (told : Telling). TellsRefused told (kind_of c.in-Err.error) shown after)
          c.telling-asked.ensures c.tell.ensures.told),
    )
