-- The lines that end in the bytes so far are counted.
use Rattle.std.proofs.Common.{◌≡◌, ◌≤◌, take}
use Rattle.sysv_connect.specs.Progress.{lines_in}
use Rattle.sysv_connect.proofs.progress.lines_in.Given as goal

abbrev pub invariant-loop-i : goal.invariant-loop-i
invariant-loop-i l = record {
  counted : l.count ≡ lines_in (take l.i l.bytes);
  few : l.count ≤ l.i;
}
