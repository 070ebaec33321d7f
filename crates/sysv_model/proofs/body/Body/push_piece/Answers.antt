use Rattle.std.proofs.Common.{length, ap, sym, ◌∙◌, length-append}
use Rattle.sysv_model.proofs.body.Body.push_piece.Goals as goal

pub loop-rest-preserved : goal.loop-rest-preserved
loop-rest-preserved c =
    let step = c.fill_block-rest in
    record {
      text = step.ensures.text ∙ c.loop-rest.invariant.text;
      bytes =
          sym (length-append step.new.self step.result.now)
          ∙ (ap length step.ensures.text
          ∙ (length-append c.loop-rest.self c.loop-rest.rest.now ∙ c.loop-rest.invariant.bytes));
    }
