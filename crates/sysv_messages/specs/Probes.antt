-- The number of entries of an index that a selection reads (this profile's).
use Rattle.std.specs.Prelude.{⊤}
use Rattle.sysv_model.specs.declared.selector.Selector.{Selector}
use Rattle.sysv_model.specs.declared.selector.Selector.TheVariants.{Any, Exactly, Except, UpTo}

-- The selectors whose message is found by few reads, whatever the number of queued messages. For
-- every type but one, the entries are read in their order until one has another type.
abbrev pub IsFoundByFew : Selector → Type 0
IsFoundByFew Any = ⊤
IsFoundByFew (Exactly asked) = ⊤
IsFoundByFew (Except refused) = ⊥
IsFoundByFew (UpTo bound) = ⊤
