use Rattle.std.proofs.Common.{arith, refl, sym, ap, subst, ◌∙◌, length}
use Rattle.sysv_wire.specs.Frames.{op_number}
use Rattle.sysv_wire.specs.Replies.{IsAnswer}
use Rattle.sysv_wire.specs.Requests.{op_of}
use Rattle.tests_session.proofs.test_handler.TestHandlerHandler.call.Goals as goal

pub returns-in-Get-clause-answer : goal.returns-in-Get-clause-answer
returns-in-Get-clause-answer c =
    let version = c.args.request.now.version in
    let answer =
    subst (λ n. IsAnswer version n c.get-result.result) (sym c.number.ensures)
    (c.get-result.ensures.answer version) in (
      refl,
      c.number.ensures ∙ ap (λ a. op_number (op_of a)) (sym c.in-Get.is),
      answer,
      c.get-result.ensures.text,
      omega (arith, ap length c.requires.empty),
    )

pub returns-in-Snd-clause-answer : goal.returns-in-Snd-clause-answer
returns-in-Snd-clause-answer c =
    let version = c.args.request.now.version in
    let answer = subst (λ n. IsAnswer version n c.send-result.result) (sym c.number-in-Snd.ensures)
    (c.send-result.ensures.answer version) in (
      refl,
      c.number-in-Snd.ensures ∙ ap (λ a. op_number (op_of a)) (sym c.in-Snd.is),
      answer,
      c.send-result.ensures.text,
      omega (arith, ap length c.requires.empty),
    )
