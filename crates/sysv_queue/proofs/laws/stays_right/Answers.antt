use Rattle.sysv_queue.proofs.StaysRight.{no_match_stays, full_stays, full_stays_for_look, counts_never_fall}
use Rattle.sysv_queue.proofs.laws.stays_right.Goals as goal

pub returns : goal.returns
returns c = record {
  no_match = no_match_stays c.named_or_none.ensures;
  full = full_stays;
  full_for_look = full_stays_for_look;
  counts = counts_never_fall;
}
