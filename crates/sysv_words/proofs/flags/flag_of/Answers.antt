use Rattle.std.proofs.Common.{ℕ, List, Option, Some, None, MatchOption, inl, inr}
use Rattle.sysv_model.specs.declared.flags.Flags.{Flags}
use Rattle.sysv_words.specs.FlagNames.{HasName, NamesMode, NamesFlag}
use Rattle.sysv_words.proofs.flags.flag_of.Goals as goal

-- A name that is not that of a flag has the bits of the mode, if it is one.
or_mode : (name : List ℕ) (mode : Option Flags) → ((bits : ℕ) → ¬ HasName name bits) →
    MatchOption mode ((bits : ℕ) → ¬ NamesMode name bits) (λ bits. NamesMode name bits.0) →
    MatchOption mode ((bits : ℕ) → NamesFlag name bits → ⊥) (λ flags. NamesFlag name flags.0)
or_mode name None unnamed none = λ bits h. elim h [ inl mode ↦ none bits mode | inr named ↦ unnamed bits named ]
or_mode name (Some mode) unnamed is = inl is

pub returns-in-None : goal.returns-in-None
returns-in-None c = or_mode c.args.name.now c.mode_bits.result c.in-None.ensures c.mode_bits.ensures
