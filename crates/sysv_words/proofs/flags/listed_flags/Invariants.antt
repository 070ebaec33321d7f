use Rattle.std.proofs.Common.{ℕ, length}
use Rattle.sysv_words.specs.FlagNames.{AddsFlags}
use Rattle.sysv_words.proofs.flags.listed_flags.Given as goal

abbrev pub invariant-loop-name : goal.invariant-loop-name
invariant-loop-name l =
    ((all : ℕ) → AddsFlags l.flags.0 l.rest all → AddsFlags 0 l.list all)
    × ((all : ℕ) → AddsFlags 0 l.list all → AddsFlags l.flags.0 l.rest all)

abbrev pub decreases-loop-name : goal.decreases-loop-name
decreases-loop-name l = length l.rest
