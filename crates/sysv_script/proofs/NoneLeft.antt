-- What is left after a fault that leaves nothing.
use Rattle.std.proofs.Common.{◌≡◌, ℕ, List, [], Result, Ok, Err}
use Rattle.std.specs.Prelude.{OnErr}
use Rattle.sysv_lists.specs.Prefix.{IsPrefixOf}
use Rattle.sysv_script.proofs.Prefixed.{prefix_none}

-- The empty list is a prefix of each list.
pub none_of : {T E : Type 0} (r : Result T E) (none text : List ℕ) → OnErr r (none ≡ []) →
    OnErr r (IsPrefixOf none text)
none_of (Ok x) none text e = tt
none_of (Err why) none text e = prefix_none none text e
