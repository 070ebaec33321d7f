-- The words so far do not state how faults are told.
use Rattle.std.proofs.Common.{◌≡◌, drop}
use Rattle.std.specs.Prelude.{map, string_bytes}
use Rattle.sysvmsg.specs.Running.{asked_by}
use Rattle.sysvmsg.proofs.running.telling_of.Given as goal

abbrev pub invariant-loop-word : goal.invariant-loop-word
invariant-loop-word l = asked_by (map string_bytes (drop l.word-index l.words)) ≡ asked_by (map string_bytes l.words)
