use Rattle.std.specs.Prelude.{Bool}
use Rattle.sysv_connect.specs.Clients.{HasRun, HasRunFrom}
use Rattle.sysv_connect.specs.Ends.{Fails}
use Rattle.sysv_connect.specs.Links.{left_by, taken_by}
use Rattle.sysv_connect.specs.Telling.{TellsUnmade}
use Rattle.sysv_connect.proofs.EndLemmas.{ran_from, visited_so}
use Rattle.sysv_connect.proofs.connection.run_with_input.Goals as goal

pub returns-in-Ok : goal.returns-in-Ok
returns-in-Ok g c =
    let path = c.args.teller.now.path.now in
    let exit = c.run_at.result.exit in
    let fed = g.I.Read.remaining c.args.input.now in
    let unfed = g.I.Read.remaining c.read_body.new.input in
    let shown = g.S.Write.contents c.args.screen.now.writer in
    let after = g.S.Write.contents c.run_at.new.screen.writer in
    let left = g.P.Place.incoming c.args.place path in
    let taken = g.P.Place.outgoing c.args.place path in
    visited_so (g.P.Place.refuses c.args.place path) c.args.place
    (λ (refused : Bool). Fails exit × TellsUnmade c.args.teller.now.telling refused shown after)
    (λ (refused : Bool). Fails exit × TellsUnmade c.args.teller.now.telling refused shown after)
    (λ link.
    HasRun c.with_body.result exit left (left_by g.P.Input.Read.remaining link) taken
    (taken_by g.P.Output.Write.contents link) shown after)
    (λ link.
    HasRunFrom c.args.command.now.cred c.args.command.now.task exit left (left_by g.P.Input.Read.remaining link) taken
    (taken_by g.P.Output.Write.contents link) fed unfed shown after)
    c.run_at.result.contact (λ refused unmade. unmade)
    (λ link ran.
    ran_from c.args.command.now.cred c.args.command.now.task c.with_body.result exit c.deref.result
    c.in-Ok.body.items c.in-Ok.body.len left (left_by g.P.Input.Read.remaining link) taken
    (taken_by g.P.Output.Write.contents link) fed unfed shown after c.with_body.ensures.cred
    c.with_body.ensures.task c.deref.ensures.value c.in-Ok.body.ok.0 c.in-Ok.ensures.bytes c.in-Ok.ensures.most
    c.in-Ok.ensures.whole ran) c.run_at.ensures
