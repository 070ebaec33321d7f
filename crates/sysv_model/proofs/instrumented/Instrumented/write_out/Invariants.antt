-- The writer has taken what was written so far, and each write leaves fewer bytes.
use Rattle.std.proofs.Common.{◌≡◌, ◌-◌, ◌≤◌, length, take}
use Rattle.std.specs.Io.KnownBytes.{Appends}
use Rattle.sysv_model.specs.Instrumented.{failures_of, stream_name, stream_of}
use Rattle.sysv_model.proofs.instrumented.Instrumented.write_out.Given as goal

abbrev pub invariant-loop-written : goal.invariant-loop-written
invariant-loop-written g l = record {
  within : l.written ≤ length l.bytes;
  so_far : Appends (g.S.Write.contents (stream_of l.initial.self)) (g.S.Write.contents (stream_of l.self))
      (take l.written l.bytes);
  same : stream_name l.self ≡ stream_name l.initial.self;
  failed : failures_of l.self ≡ failures_of l.initial.self;
}

abbrev pub decreases-loop-written : goal.decreases-loop-written
decreases-loop-written g l = length l.bytes - l.written
