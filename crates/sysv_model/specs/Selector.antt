-- The selector of a receive, by its type argument and its flags (POSIX.1-2017, msgrcv,
-- DESCRIPTION). Type 0 requests any message, a type above 0 exactly that type, and a type below 0
-- the types up to its absolute value. The absolute value is that of whole numbers, so the least
-- type requests all types up to 2^63. With MSG_EXCEPT a type above 0 requests every type but that
-- one (this profile's, as in Linux). No other flag changes the selector.
use Rattle.std.specs.Prelude.{ℤ, pos, int_lt, nat_abs, if◌then◌else◌}
use Rattle.std.specs.Ordering.{int_eq}
use Rattle.sysv_model.specs.declared.flags.Flags.{Flags}
use Rattle.sysv_model.specs.declared.flags.TheConstants.Flags.{MSG_EXCEPT}
use Rattle.sysv_model.specs.declared.selector.Selector.{Selector}
use Rattle.sysv_model.specs.declared.selector.Selector.TheVariants.{Any, Exactly, Except, UpTo}
use Rattle.sysv_model.specs.HasFlag.{has_flag}

-- The selector of a type above 0.
abbrev pub selector_of_type : ℤ → Flags → Selector
selector_of_type mtype flags = if has_flag MSG_EXCEPT flags then Except mtype else Exactly mtype

-- The selector of a type argument and flags.
abbrev pub selector_for : ℤ → Flags → Selector
selector_for mtype flags =
    if int_eq mtype (pos 0) then Any else if int_lt (pos 0) mtype then selector_of_type mtype flags else UpTo
    (nat_abs mtype)
