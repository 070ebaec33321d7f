use Rattle.std.proofs.Common.{◌≡◌, true, [], refl, sym, subst, ◌∙◌, if◌then◌else◌, rules}
use Rattle.sysv_core.specs.World.{Opening}
use Rattle.sysv_core.specs.Seen.{IsSeenAs, Represents}
use Rattle.sysv_script.specs.ScriptState.{in_world, begun_script_state, opening_world}
use Rattle.sysv_script.proofs.stage.Stage.size_pool.Goals as goal

pub returns : goal.returns
returns c = λ s seen.
    let blocks = c.args.blocks in
    let o : Opening = record { actors = 16; blocks = blocks; first = 0; generation = 0 } in
    let stands : Represents o [] [] c.in_ok-world.world = c.in_ok-world.ensures in
    let held : true ≡ c.args.self.now.fresh = search rules in
    let fresh : true ≡ s.fresh = held ∙ sym seen.fresh in
    let after = in_world (begun_script_state s) (opening_world blocks) in
    let opened : IsSeenAs (opening_world blocks) c.in_ok-world.world =
    subst (λ w. IsSeenAs w c.in_ok-world.world) stands.led.1 stands.sight in (
      after,
      (fresh, subst (λ b. after ≡ (if b then after else s)) fresh refl),
      record {
        world = subst (IsSeenAs (opening_world blocks)) (sym c.replace.ensures.after) opened;
        creds = seen.creds;
        moment = seen.moment;
        fresh = refl;
      },
    )
