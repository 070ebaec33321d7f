-- Each line so far is empty.
use Rattle.sysv_parking.specs.Places.{EachIsEmpty, places_in}
use Rattle.sysv_parking.proofs.lines.empty_lines.Given as goal

abbrev pub invariant-loop : goal.invariant-loop
invariant-loop l = EachIsEmpty (places_in l.lines)
