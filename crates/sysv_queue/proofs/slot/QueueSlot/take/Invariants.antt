use Rattle.sysv_queue.proofs.slot.QueueSlot.take.Given as goal

abbrev pub ghosts-take_uncounted : goal.ghosts-take_uncounted
ghosts-take_uncounted a = record { name = a.blank.name; parts = a.blank.parts }
