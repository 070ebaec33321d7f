use Rattle.std.proofs.Common.{[], refl, sym, subst}
use Rattle.sysv_core.specs.World.{Opening}
use Rattle.sysv_core.specs.Seen.{IsSeenAs, Represents}
use Rattle.sysv_script.proofs.stage.Stage.open.Goals as goal

pub returns : goal.returns
returns c =
    let o : Opening = record { actors = 16; blocks = 1024; first = 0; generation = 0 } in
    let stands : Represents o [] [] c.in_ok-world.world = c.in_ok-world.ensures in
    record {
      world = subst (λ w. IsSeenAs w c.in_ok-world.world) stands.led.1 stands.sight;
      creds = sym c.first_creds.ensures;
      moment = refl;
      fresh = refl;
    }
