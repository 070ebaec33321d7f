use Rattle.std.proofs.Common.{◌≡◌, ◌+◌, ◌≤◌, ◌++◌, length, take}
use Rattle.std.specs.List.{concat}
use Rattle.sysv_pool.specs.Blocks.{contents_of}
use Rattle.sysv_pool.proofs.blocks.copy_front.Given as goal

-- The bytes copied so far and those still to be copied are together what was requested.
abbrev pub invariant-loop-link : goal.invariant-loop-link
invariant-loop-link l = record {
  there : l.left ≤ length (concat (contents_of l.link));
  room : length l.out + l.left ≡ length l.initial.out + l.initial.left;
  text : l.out ++ take l.left (concat (contents_of l.link))
      ≡ l.initial.out ++ take l.initial.left (concat (contents_of l.initial.link));
}
