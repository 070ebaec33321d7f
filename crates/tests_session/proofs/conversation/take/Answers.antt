use Rattle.std.proofs.Common.{ap, arith, length}
use Rattle.sysv_queue.specs.Tally.{taken_in}
use Rattle.sysv_session.specs.Conversation.{Dialogue}
use Rattle.sysv_session.proofs.OutboxLemmas.{each_once}
use Rattle.tests_session.proofs.conversation.take.Goals as goal

-- Each mark is within the bytes that were taken, or beyond them.
pub returns : goal.returns
returns g c =
    omega (
      arith,
      c.requires,
      ap (λ (dialogue : Dialogue). taken_in dialogue.session.tally) c.sent.ensures,
      ap (λ (dialogue : Dialogue). length dialogue.unsent.marks) c.sent.ensures,
      each_once c.args.count c.args.conversation.now.unsent.marks,
    )
