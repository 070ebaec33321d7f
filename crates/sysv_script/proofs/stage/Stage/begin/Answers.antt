use Rattle.std.proofs.Common.{◌≡◌, ◌∙◌, length, refl, ap, rules, arith}
use Rattle.sysv_script.specs.ScriptState.{cred_at, in_world}
use Rattle.sysv_script.specs.CredHeld.{cred_held}
use Rattle.sysv_script.proofs.stage.Stage.begin.Goals as goal

pub returns : goal.returns
returns c = λ s seen.
    let creds = c.args.self.now.creds in
    let long : length creds ≡ 16 = search rules in
    let held = cred_held creds c.args.actor _ c.requires.least (omega (arith, long, c.requires.most)) in
    let made = c.step.ensures.single s.world seen.world in (
      in_world s made.0,
      (_, ap (λ one. cred_at one c.args.actor) seen.creds ∙ held, (made.1, refl)),
      record { world = made.2; creds = seen.creds; moment = seen.moment; fresh = seen.fresh },
    )
