use Rattle.std.proofs.Common.{◌∙◌, ap, arith, length}
use Rattle.sysv_queue.specs.Tally.{taken_in}
use Rattle.sysv_session.specs.Outbox.{Unsent, more_written}
use Rattle.sysv_session.proofs.LayoutLemmas.{passed_view, sent_marks, sent_view}
use Rattle.sysv_session.proofs.OutboxLemmas.{each_once}
use Rattle.sysv_session.proofs.outbox.Outbox.sent.Goals as goal

pub invariant_of-self : goal.invariant_of-self
invariant_of-self c =
    sent_marks c.self.inside.taken c.args.n c.self.inside.bytes.items c.self.inside.marks.items
    c.spend_written.new.marks.items c.args.self.now c.self.view_is c.requires.some c.spend_written.ensures.marks
    c.self.invariant

pub returns-clause-after : goal.returns-clause-after
returns-clause-after c =
    c.remove_taken.ensures
    ∙ sent_view c.self.inside.taken c.args.n c.self.inside.bytes.items c.self.inside.marks.items
    c.spend_written.new.marks.items c.args.self.now c.self.view_is c.self.invariant c.spend_written.ensures.marks

pub returns-clause-tally : goal.returns-clause-tally
returns-clause-tally c =
    c.spend_written.ensures.tally
    ∙ ap (λ n. more_written n c.args.tally.now)
    (passed_view c.self.inside.taken c.args.n c.self.inside.bytes.items c.self.inside.marks.items c.args.self.now
    c.self.view_is c.self.invariant)

pub returns-clause-each : goal.returns-clause-each
returns-clause-each c =
    omega (
      arith,
      ap taken_in (returns-clause-tally c),
      ap (λ (box : Unsent). length box.marks) (returns-clause-after c),
      each_once c.args.n c.args.self.now.marks,
    )
