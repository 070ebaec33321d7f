use Rattle.sysv_gate.specs.Laying.{AreLaidUpTo}
use Rattle.sysv_gate.proofs.table.laying.words_for.Given as goal

-- The words of the places so far.
abbrev pub invariant-loop-place : goal.invariant-loop-place
invariant-loop-place g l = AreLaidUpTo g.O.Object.counted l.first l.objects.items l.place l.words.items
