use Rattle.std.proofs.Common.{arith}
use Rattle.sysv_session.proofs.LayoutLemmas.{ended_room, ended_view, in_order_le}
use Rattle.sysv_session.proofs.outbox.Outbox.end.Goals as goal

pub whole_before-requires : goal.whole_before-requires
whole_before-requires c =
    omega (arith, in_order_le _ _ c.self.inside.marks.items c.self.invariant, c.self.inside.bytes.ok)

pub spend_lost-requires : goal.spend_lost-requires
spend_lost-requires c = record {
  room = ended_room c.self.inside.taken c.self.inside.bytes.items c.self.inside.marks.items
      c.spend_written.new.marks.items c.args.tally.now c.spend_written.new.tally _ c.whole_before.result
      c.self.view_is c.requires.room c.spend_written.ensures.marks c.spend_written.ensures.tally;
}

pub returns : goal.returns
returns c = record {
  tally = ended_view c.args.is_reset c.self.inside.taken c.self.inside.bytes.items c.self.inside.marks.items
      c.spend_written.new.marks.items c.args.tally.now c.spend_written.new.tally c.spend_lost.new.tally _
      c.whole_before.result c.self.view_is c.whole_before.ensures c.spend_written.ensures.marks
      c.spend_written.ensures.tally c.spend_lost.ensures.tally;
}
