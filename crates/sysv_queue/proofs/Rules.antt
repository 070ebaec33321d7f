-- The laws of sysv_rules that the lemmas use: permission is granted or not, and a selector names
-- one place of a list or none.
use Rattle.std.specs.Prelude.{◌≡◌, ◌⊎◌, ℕ, ℤ, List}
use Rattle.sysv_model.specs.declared.selector.Selector.{Selector}
use Rattle.sysv_model.specs.declared.cred.Cred.{Cred}
use Rattle.sysv_model.specs.declared.attributes.Perm.{Perm}
use Rattle.sysv_rules.specs.declared.permission.Want.{Want}
use Rattle.sysv_rules.specs.Permission.{IsPermitted}
use Rattle.sysv_rules.specs.Named.{IsNamed}
use Rattle.sysv_rules.specs.Qualifies.{NoneQualifies}

abbrev pub PermittedOrNot : Type 0
PermittedOrNot = (cred : Cred) (perm : Perm) (want : Want) → IsPermitted cred perm want ⊎ ¬ IsPermitted cred perm want

abbrev pub NamedOrNone : Type 0
NamedOrNone = (sel : Selector) (types : List ℤ) → ((place : ℕ) × IsNamed sel types place) ⊎ NoneQualifies sel types

abbrev pub OneNamed : Type 0
OneNamed = (sel : Selector) (types : List ℤ) (i j : ℕ) → IsNamed sel types i → IsNamed sel types j → i ≡ j
