-- The lines note what has changed.
use Rattle.std.proofs.Common.{sym, subst}
use Rattle.sysv_parking.specs.declared.changes.Change.{Change}
use Rattle.sysv_parking.specs.Changes.{Heeds}
use Rattle.sysv_parking.proofs.lines.Lines.heed.Goals as goal

pub returns-in-Queue : goal.returns-in-Queue
returns-in-Queue c =
    subst (λ (change : Change). Heeds change c.args.self.now c.note_change.new.self) (sym c.in-Queue.is)
    c.note_change.ensures

pub returns-in-Room : goal.returns-in-Room
returns-in-Room c =
    subst (λ (change : Change). Heeds change c.args.self.now c.note_room.new.self) (sym c.in-Room.is)
    c.note_room.ensures

pub returns-in-Blocks : goal.returns-in-Blocks
returns-in-Blocks c =
    subst (λ (change : Change). Heeds change c.args.self.now c.note_blocks.new.self) (sym c.in-Blocks.is)
    c.note_blocks.ensures

pub returns-in-Settled : goal.returns-in-Settled
returns-in-Settled c =
    subst (λ (change : Change). Heeds change c.args.self.now c.note_settled.new.self) (sym c.in-Settled.is)
    c.note_settled.ensures

pub returns-in-Anything : goal.returns-in-Anything
returns-in-Anything c =
    subst (λ (change : Change). Heeds change c.args.self.now c.note_everything.new.self) (sym c.in-Anything.is)
    c.note_everything.ensures
