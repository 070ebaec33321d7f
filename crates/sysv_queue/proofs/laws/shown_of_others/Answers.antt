use Rattle.sysv_queue.proofs.Alike.{longer_is_full, none_is_left, readers_are_alike, writers_are_alike}
use Rattle.sysv_queue.proofs.laws.shown_of_others.Goals as goal

pub returns : goal.returns
returns c = record {
  longer = longer_is_full;
  none = none_is_left c.named_or_none.ensures;
  readers = readers_are_alike;
  writers = writers_are_alike;
}
