-- The message at a place, the message that a selector names, and bodies that are too long for a
-- receive.
use Rattle.std.proofs.Common.{◌≡◌, ℕ, ℤ, zero, suc, ◌<◌, Bool, true, false, List, [], ◌∷◌, length, Option, Some, refl}
use Rattle.std.proofs.Common.{sym, ap, subst, ◌∙◌, arith, slice_get, inl, inr}
use Rattle.std.proofs.lemmas.List.{length-map}
use Rattle.sysv_model.specs.Message.{Message}
use Rattle.sysv_model.specs.declared.selector.Selector.{Selector}
use Rattle.sysv_model.specs.declared.selector.Selector.TheVariants.{Any, Exactly, Except, UpTo}
use Rattle.sysv_rules.specs.Qualifies.{QualifiesAt, NoneQualifies, type_at}
use Rattle.sysv_rules.specs.Named.{IsNamed as IsNamedAmong}
use Rattle.sysv_queue.specs.Slot.{Slot}
use Rattle.sysv_queue.specs.Named.{IsNamed, types_of}
use Rattle.sysv_queue.specs.LegalReply.{Names, IsGivable}
use Rattle.sysv_queue.proofs.Rules.{OneNamed}

one_message : (o : Option Message) (m n : Message) → o ≡ Some m → o ≡ Some n → m ≡ n
one_message o m n a b = cc

pub same_message : (ms : List Message) (place : ℕ) (m n : Message) → slice_get ms place ≡ Some m →
    slice_get ms place ≡ Some n → m ≡ n
same_message ms place m n a b = one_message (slice_get ms place) m n a b

-- A body that is too long is not received unless it may be cut.
pub never_given : (size : ℕ) (noerror : Bool) (m : Message) → size < length m.bytes → noerror ≡ false →
    ¬ IsGivable size noerror m
never_given size noerror m long stays (inl short) = omega arith
never_given size noerror m long stays (inr cut) = let e : true ≡ false = sym cut ∙ stays in cc

pub some_message : (ms : List Message) (place : ℕ) → place < length ms → (m : Message) × (slice_get ms place ≡ Some m)
some_message [] place within = absurd (omega (arith, within))
some_message (m ∷ ms) zero within = (m, refl)
some_message (m ∷ ms) (suc place) within = some_message ms place (omega arith)

-- The type at a named place qualifies.
pub named_qualifies : (selector : Selector) (types : List ℤ) (place : ℕ) → IsNamedAmong selector types place →
    QualifiesAt selector types place
named_qualifies Any types place named = named.0
named_qualifies (Exactly asked) types place named = named.0
named_qualifies (Except refused) types place named = named.0
named_qualifies (UpTo bound) types place named = named.0

pub none_named : (selector : Selector) (ms : List Message) → NoneQualifies selector (types_of ms) → (place : ℕ) →
    ¬ IsNamed selector ms place
none_named selector ms none place named = none place (named_qualifies selector (types_of ms) place named)

-- If a place is named, there is a message at it.
pub named_message : (s : Slot) (selector : Selector) (place : ℕ) → IsNamed selector s.messages place →
    (m : Message) × Names s selector m
named_message s selector place named =
    let within : place < length s.messages = subst (λ n. place < n) (length-map s.messages (λ (m : Message). m.mtype))
    (named_qualifies selector (types_of s.messages) place named).0 in
    let at = some_message s.messages place within in
    (at.0, (place, named, at.1))

pub type_of_place : (ms : List Message) (place : ℕ) (m : Message) → slice_get ms place ≡ Some m →
    type_at (types_of ms) place ≡ m.mtype
type_of_place [] place m there = absurd cc
type_of_place (x ∷ ms) zero m there = let same : x ≡ m = cc in ap (λ (y : Message). y.mtype) same
type_of_place (x ∷ ms) (suc place) m there = type_of_place ms place m there

-- A named place is the first of its type.
pub first_of_type : (selector : Selector) (types : List ℤ) (place earlier : ℕ) → IsNamedAmong selector types place →
    earlier < place → ¬ (type_at types earlier ≡ type_at types place)
first_of_type Any types place earlier named less same = named.1 earlier less (omega (arith, named.0.0), tt)
first_of_type (Exactly asked) types place earlier named less same =
    named.1 earlier less (omega (arith, named.0.0), same ∙ named.0.1)
first_of_type (Except refused) types place earlier named less same =
    named.1 earlier less (omega (arith, named.0.0), λ is. named.0.1 (sym same ∙ is))
first_of_type (UpTo bound) types place earlier named less same = named.1.2 earlier less same

-- Two messages that a selector names are equal, because it names at most one place.
module _ (one_named : OneNamed) where
  pub one_message_named : (s : Slot) (selector : Selector) (m n : Message) → Names s selector m → Names s selector n →
      m ≡ n
  one_message_named s selector m n a b =
      let same : a.0 ≡ b.0 = one_named selector (types_of s.messages) a.0 b.0 a.1 b.1 in
      same_message s.messages b.0 m n (subst (λ i. slice_get s.messages i ≡ Some m) same a.2) b.2
