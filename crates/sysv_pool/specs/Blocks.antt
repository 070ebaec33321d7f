-- The contents of linked blocks (this profile's).
use Rattle.std.specs.Prelude.{ℕ, List, [], Option, None, Some, length, sum_by}
use Rattle.std.specs.declared.alloc.Global.{Global}
use Rattle.std.specs.declared.boxed.Box.{Box}

-- The contents of each block, from the first one on.
abbrev pub contents_of : Option (Box (List (List ℕ)) Global) → List (List ℕ)
contents_of None = []
contents_of (Some block) = block.value

-- The number of blocks in all of these chains.
abbrev pub blocks_on : List (Option (Box (List (List ℕ)) Global)) → ℕ
blocks_on chains = sum_by (λ link. length (contents_of link)) chains
