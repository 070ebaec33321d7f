use Rattle.std.proofs.Common.{[], sym, refl, ap}
use Rattle.std.proofs.lemmas.List.{append-nil}
use Rattle.sysv_script.specs.ScriptState.{with_cred, in_world}
use Rattle.sysv_script.proofs.Kept.{on_err}
use Rattle.sysv_script.proofs.Prefixed.{prefix_none}
use Rattle.sysv_script.proofs.stage.Stage.act.Goals as goal

pub returns-in-Preset-clause-runs : goal.returns-in-Preset-clause-runs
returns-in-Preset-clause-runs c = λ s seen.
    let made = c.preset.ensures.single s.world seen.world in (
      in_world s made.0,
      [],
      (rw c.in-Preset.is (made.1, refl, refl)),
      record { world = made.2; creds = seen.creds; moment = seen.moment; fresh = seen.fresh },
      sym (append-nil c.args.output.now),
    )

pub returns-in-Cred-clause-runs : goal.returns-in-Cred-clause-runs
returns-in-Cred-clause-runs c = λ s seen.
    let actor = c.in-Cred.actor in
    let cred = c.in-Cred.cred in (
      record s { creds = with_cred s.creds actor cred },
      [],
      (rw c.in-Cred.is (refl, refl, refl)),
      record {
        world = seen.world;
        creds = ap (λ creds. with_cred creds actor cred) seen.creds;
        moment = seen.moment;
        fresh = seen.fresh;
      },
      sym (append-nil c.args.output.now),
    )

pub returns-in-Moment-clause-runs : goal.returns-in-Moment-clause-runs
returns-in-Moment-clause-runs c = λ s seen. (
  record s { moment = c.in-Moment.moment },
  [],
  (rw c.in-Moment.is (refl, refl, refl)),
  record { world = seen.world; creds = seen.creds; moment = refl; fresh = seen.fresh },
  sym (append-nil c.args.output.now),
)

pub returns-in_ok-start-in-Start-clause-runs : goal.returns-in_ok-start-in-Start-clause-runs
returns-in_ok-start-in-Start-clause-runs c = λ s seen.
    let went = c.in_ok-start-in-Start.ensures.runs s seen in
    (went.0, went.1, (rw c.in-Start.is (refl, went.2)), went.3, went.4)

pub returns-in_ok-take_on-in-Step-clause-runs : goal.returns-in_ok-take_on-in-Step-clause-runs
returns-in_ok-take_on-in-Step-clause-runs c = λ s seen.
    let went = c.in_ok-take_on-in-Step.ensures.runs s seen in
    (went.0, went.1, (rw c.in-Step.is (refl, went.2)), went.3, went.4)

pub returns-in_ok-take_on-in-Go-clause-runs : goal.returns-in_ok-take_on-in-Go-clause-runs
returns-in_ok-take_on-in-Go-clause-runs c = λ s seen.
    let went = c.in_ok-take_on-in-Go.ensures.runs s seen in
    (went.0, went.1, (rw c.in-Go.is (refl, went.2)), went.3, went.4)

pub returns-in_ok-take_all_on-in-All-clause-runs : goal.returns-in_ok-take_all_on-in-All-clause-runs
returns-in_ok-take_all_on-in-All-clause-runs c = λ s seen.
    let went = c.in_ok-take_all_on-in-All.ensures.runs s seen in
    (went.0, went.1, (rw c.in-All.is (refl, went.2)), went.3, went.4)

pub returns-in_err-take_on-in-Step-clause-err : goal.returns-in_err-take_on-in-Step-clause-err
returns-in_err-take_on-in-Step-clause-err c =
    on_err c.from_residual-in_err-take_on-in-Step.result
    (prefix_none c.take_on.new.output c.args.output.now c.in_err-take_on-in-Step.ensures.err)

pub returns-in_err-take_on-in-Go-clause-err : goal.returns-in_err-take_on-in-Go-clause-err
returns-in_err-take_on-in-Go-clause-err c =
    on_err c.from_residual-in_err-take_on-in-Go.result
    (prefix_none c.take_on-in-Go.new.output c.args.output.now c.in_err-take_on-in-Go.ensures.err)
