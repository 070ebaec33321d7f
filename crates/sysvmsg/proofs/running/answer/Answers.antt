-- What each request asks for is what its callee did.
use Rattle.std.proofs.Common.{◌≡◌, ap, refl, subst, sym}
use Rattle.std.specs.Prelude.{ℕ, List, Option}
use Rattle.std.specs.declared.process.ExitCode.{ExitCode}
use Rattle.sysv_connect.specs.Clients.{IsDone, IsUnmade}
use Rattle.sysv_connect.specs.declared.how.Telling.{Telling}
use Rattle.sysv_connect.specs.Ends.{Fails}
use Rattle.sysv_connect.specs.Files.{Loads, Saves, loading_of, saving_of}
use Rattle.sysv_connect.specs.Links.{left_by, taken_by}
use Rattle.sysv_connect.specs.Several.{way_by}
use Rattle.sysv_connect.specs.Stats.{HasLooked}
use Rattle.sysv_connect.specs.Telling.{TellsUnmade}
use Rattle.sysv_connect.specs.Visits.{Visited}
use Rattle.sysv_model.specs.declared.cred.Cred.{Cred}
use Rattle.sysv_options.specs.Who.{stated_by}
use Rattle.sysvmsg.specs.Scripts.{AnswersScript}
use Rattle.sysvmsg.proofs.running.answer.Goals as goal

pub returns-in-Script : goal.returns-in-Script
returns-in-Script g c =
    rw c.in-Script.is (
      c.unused.ensures.contact,
      λ text is. (
        g.I.Read.remaining c.answer_script.new.script,
        subst (λ (exit : ExitCode).
            AnswersScript exit text (g.S.Write.contents c.args.screen.now.writer)
            (g.S.Write.contents c.answer_script.new.answers) (g.I.Read.remaining c.answer_script.new.script))
            (sym c.unused.ensures.exit) (c.answer_script.ensures text is),
      ),
    )

pub returns-in-Client : goal.returns-in-Client
returns-in-Client g c =
    let path = c.in-Client.path.now in
    let task = c.in-Client.task in
    let exit = c.run_as.result.exit in
    let fed = g.I.Read.remaining c.args.input in
    let unfed = g.I.Read.remaining c.run_as.new.input.input in
    let shown = g.S.Write.contents c.args.screen.now.writer in
    let after = g.S.Write.contents c.run_as.new.screen.writer in
    rw c.in-Client.is (
      unfed,
      subst (λ (told : Telling).
          let how = record c.in-Client.how { telling = told } in
          let cred = stated_by c.in-Client.who c.args.around.now in
          Visited (g.P.Place.refuses c.args.place path) c.args.place
          (λ refused. IsUnmade (way_by cred task how) how exit refused fed unfed shown after)
          (λ link.
          IsDone (way_by cred task how) cred task how exit (g.P.Place.incoming c.args.place path)
          (left_by g.P.Input.Read.remaining link) (g.P.Place.outgoing c.args.place path)
          (taken_by g.P.Output.Write.contents link) fed unfed shown after) c.run_as.result.contact)
          c.telling-in-Client.ensures
          (subst (λ (cred : Cred).
          let how = record c.in-Client.how { telling = c.telling-in-Client.result } in
          Visited (g.P.Place.refuses c.args.place path) c.args.place
          (λ refused. IsUnmade (way_by cred task how) how exit refused fed unfed shown after)
          (λ link.
          IsDone (way_by cred task how) cred task how exit (g.P.Place.incoming c.args.place path)
          (left_by g.P.Input.Read.remaining link) (g.P.Place.outgoing c.args.place path)
          (taken_by g.P.Output.Write.contents link) fed unfed shown after) c.run_as.result.contact)
          c.credentials-in-Client.ensures
          (subst (λ (fed : Option (List ℕ)).
          let how = record c.in-Client.how { telling = c.telling-in-Client.result } in
          let cred = c.credentials-in-Client.result in
          Visited (g.P.Place.refuses c.args.place path) c.args.place
          (λ refused. IsUnmade (way_by cred task how) how exit refused fed unfed shown after)
          (λ link.
          IsDone (way_by cred task how) cred task how exit (g.P.Place.incoming c.args.place path)
          (left_by g.P.Input.Read.remaining link) (g.P.Place.outgoing c.args.place path)
          (taken_by g.P.Output.Write.contents link) fed unfed shown after) c.run_as.result.contact)
          (ap g.I.Read.remaining c.new-input.ensures) c.run_as.ensures)),
    )

pub returns-in-Look : goal.returns-in-Look
returns-in-Look g c =
    let path = c.in-Look.looking.path.now in
    let json = c.in-Look.looking.json in
    let exit = c.look_at.result.exit in
    let shown = g.S.Write.contents c.args.screen.now.writer in
    let after = g.S.Write.contents c.look_at.new.screen.writer in
    rw c.in-Look.is
    (subst (λ (told : Telling).
    Visited (g.P.Place.refuses c.args.place path) c.args.place
    (λ refused. Fails exit × TellsUnmade told refused shown after)
    (λ link.
    HasLooked told json exit (g.P.Place.incoming c.args.place path) (left_by g.P.Input.Read.remaining link)
    (g.P.Place.outgoing c.args.place path) (taken_by g.P.Output.Write.contents link) shown after)
    c.look_at.result.contact)
    c.telling.ensures c.look_at.ensures)

pub returns-in-Save : goal.returns-in-Save
returns-in-Save g c =
    let path = c.in-Save.saving.path.now in
    let exit = c.save_at.result.exit in
    let shown = g.S.Write.contents c.args.screen.now.writer in
    let after = g.S.Write.contents c.save_at.new.screen.writer in
    rw c.in-Save.is
    (subst (λ (cred : Cred).
    Visited (g.P.Place.refuses c.args.place path) c.args.place (λ _. Fails exit × (after ≡ shown))
    (λ link.
    Saves (saving_of cred c.in-Save.saving) exit (g.P.Place.incoming c.args.place path)
    (left_by g.P.Input.Read.remaining link) (g.P.Place.outgoing c.args.place path)
    (taken_by g.P.Output.Write.contents link) shown after (g.S.Durable.synced c.save_at.new.screen.writer))
    c.save_at.result.contact)
    c.credentials.ensures c.save_at.ensures)

pub returns-in-Load : goal.returns-in-Load
returns-in-Load g c =
    let path = c.in-Load.loading.path.now in
    let exit = c.load_at.result.exit in
    let fed = g.I.Read.remaining c.args.input in
    let unfed = g.I.Read.remaining c.load_at.new.input in
    rw c.in-Load.is (
      unfed,
      refl,
      subst (λ (cred : Cred).
          Visited (g.P.Place.refuses c.args.place path) c.args.place (λ _. Fails exit × (unfed ≡ fed))
          (λ link.
          Loads (loading_of cred c.in-Load.loading) exit (g.P.Place.incoming c.args.place path)
          (left_by g.P.Input.Read.remaining link) (g.P.Place.outgoing c.args.place path)
          (taken_by g.P.Output.Write.contents link) fed unfed) c.load_at.result.contact)
          c.credentials-in-Load.ensures c.load_at.ensures,
    )
