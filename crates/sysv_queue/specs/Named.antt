-- The queued message that a selector names (POSIX.1-2017, msgrcv): the one at the place that the
-- selector names in the list of the messages' types.
use Rattle.std.specs.Prelude.{ℕ, ℤ, List, map}
use Rattle.sysv_model.specs.Message.{Message}
use Rattle.sysv_model.specs.declared.selector.Selector.{Selector}
use Rattle.sysv_rules.specs.Named.{IsNamed as IsNamedAmong}

-- The types of the messages, in their order.
abbrev pub types_of : List Message → List ℤ
types_of messages = map (λ (m : Message). m.mtype) messages

-- The selector names this place among the messages.
abbrev pub IsNamed : Selector → List Message → ℕ → Type 0
IsNamed selector messages place = IsNamedAmong selector (types_of messages) place
