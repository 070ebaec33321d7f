-- A selector names a place of a list, or no type of the list qualifies.
use Rattle.std.proofs.Common.{◌≡◌, ℕ, zero, suc, ◌<◌, ◌≤◌, ◌<ℤ◌, ◌≤ℤ◌, ℤ, pos, Bool, true, false, List, [], ◌∷◌, length}
use Rattle.std.proofs.Common.{◌⊎◌, inl, inr, refl, sym, ◌∙◌, arith}
use Rattle.std.proofs.lemmas.Int.{by_lt_z, ints}
use Rattle.std.specs.Ordering.{int_eq}
use Rattle.std.proofs.lemmas.Bool.Decides.{Decides-int_eq}
use Rattle.sysv_model.specs.declared.selector.Selector.{Selector}
use Rattle.sysv_model.specs.declared.selector.Selector.TheVariants.{Any, Exactly, Except, UpTo}
use Rattle.sysv_rules.specs.Qualifies.{Qualifies, QualifiesAt, NoneQualifies, type_at}
use Rattle.sysv_rules.specs.Named.{IsNamed, IsFirst}

by_test : (t : Bool) (a b : ℤ) → int_eq a b ≡ t → (a ≡ b) ⊎ ¬ (a ≡ b)
by_test true a b e = inl ((Decides-int_eq a b).0 e)
by_test false a b e = inr (λ same. let t = (Decides-int_eq a b).1 same in let bad : true ≡ false = sym t ∙ e in cc)

above : (b : ℕ) (t : ℤ) → pos b <ℤ t → ¬ (t ≤ℤ pos b)
above b t h k = omega (arith, ints)

-- A type qualifies or it does not.
pub qualifies_or_not : (sel : Selector) (mtype : ℤ) → Qualifies sel mtype ⊎ ¬ Qualifies sel mtype
qualifies_or_not Any mtype = inl tt
qualifies_or_not (Exactly asked) mtype = by_test (int_eq mtype asked) mtype asked refl
qualifies_or_not (Except refused) mtype = elim (by_test (int_eq mtype refused) mtype refused refl) [
  | inl same ↦ inr (λ other. other same)
  | inr other ↦ inl other
]
qualifies_or_not (UpTo bound) mtype =
    by_lt_z (pos bound) mtype (λ lower. inr (above bound mtype lower)) (λ within. inl within)

abbrev NoneBelow : Selector → List ℤ → ℕ → Type 0
NoneBelow sel types n = (place : ℕ) → place < n → ¬ QualifiesAt sel types place

none_at : (sel : Selector) (types : List ℤ) (n : ℕ) → NoneBelow sel types n → ¬ QualifiesAt sel types n →
    NoneBelow sel types (suc n)
none_at sel types n none not_here place below here = grind arith

-- One of the first n places is the first that qualifies, or none of them qualifies.
pub first_or_none : (sel : Selector) (types : List ℤ) (n : ℕ) → n ≤ length types →
    ((place : ℕ) × IsFirst sel types place) ⊎ NoneBelow sel types n
first_or_none sel types zero h = inr (λ place below. absurd (omega arith))
first_or_none sel types (suc n) h =
    elim (first_or_none sel types n (omega arith)) [
      | inl w ↦ inl w
      | inr none ↦ elim (qualifies_or_not sel (type_at types n)) [
        | inl here ↦ inl (n, ((omega arith, here), none))
        | inr not_here ↦ inr (none_at sel types n none (λ q. not_here q.1))
      ]
    ]

-- The first place of the lowest type among the first n places.
abbrev LeastBelow : List ℤ → ℕ → ℕ → Type 0
LeastBelow types n place =
    (place < n)
    × ((other : ℕ) → other < n → ¬ (type_at types other <ℤ type_at types place))
    × ((earlier : ℕ) → earlier < place → ¬ (type_at types earlier ≡ type_at types place))

never_lower : (a : ℤ) → ¬ (a <ℤ a)
never_lower a h = omega (arith, ints)

lower_not : (a b : ℤ) → b ≤ℤ a → ¬ (a <ℤ b)
lower_not a b h k = omega (arith, ints)

lower_of : (a b c : ℤ) → ¬ (a <ℤ b) → c <ℤ b → ¬ (a <ℤ c)
lower_of a b c h k l = h (omega (arith, ints))

lower_other : (a b c : ℤ) → ¬ (a <ℤ b) → c <ℤ b → ¬ (a ≡ c)
lower_other a b c h k l = h (omega (arith, ints, l))

least_one : (types : List ℤ) → LeastBelow types 1 0
least_one types = (omega arith, (λ other below. grind (arith, never_lower)), (λ earlier below. absurd (omega arith)))

least_keeps : (types : List ℤ) (n place : ℕ) → LeastBelow types n place → type_at types place ≤ℤ type_at types n →
    LeastBelow types (suc n) place
least_keeps types n place (within, none, first) h =
    (omega arith, (λ other below. grind (arith, lower_not)), first)

least_takes : (types : List ℤ) (n place : ℕ) → LeastBelow types n place → type_at types n <ℤ type_at types place →
    LeastBelow types (suc n) n
least_takes types n place (within, none, first) h = (
  omega arith,
  (λ other below. grind (arith, never_lower, lower_of)),
  (λ earlier below. lower_other (type_at types earlier) (type_at types place) (type_at types n) (none earlier below) h),
)

pub some_least : (types : List ℤ) (n : ℕ) → (place : ℕ) × LeastBelow types (suc n) place
some_least types zero = (0, least_one types)
some_least types (suc n) =
    let w = some_least types n in
    by_lt_z (type_at types (suc n)) (type_at types w.0)
    (λ lower. (suc n, least_takes types (suc n) w.0 w.1 lower))
    (λ within. (w.0, least_keeps types (suc n) w.0 w.1 within))

none_qualifies : (sel : Selector) (types : List ℤ) → NoneBelow sel types (length types) → NoneQualifies sel types
none_qualifies sel types none place q = none place q.0 q

bound_of : (a b : ℤ) (bound : ℕ) → ¬ (a ≤ℤ pos bound) → ¬ (b <ℤ a) → ¬ (b ≤ℤ pos bound)
bound_of a b bound h k l = by_lt_z b a (λ lower. k lower) (λ higher. h (omega (arith, ints, higher, l)))

up_to : (bound : ℕ) (types : List ℤ) (n place : ℕ) → length types ≡ suc n → LeastBelow types (suc n) place →
    ((p : ℕ) × IsNamed (UpTo bound) types p) ⊎ NoneQualifies (UpTo bound) types
up_to bound types n place long (within, none, first) =
    elim (qualifies_or_not (UpTo bound) (type_at types place)) [
      | inl here ↦ inl (place, ((omega arith, here), (omega arith, (λ other below. none other (omega arith)), first)))
      | inr not_here ↦ inr (λ other q.
          bound_of (type_at types place) (type_at types other) bound not_here (none other (omega (arith, q.0))) q.1)
    ]

pub named_or_none : (sel : Selector) (types : List ℤ) →
    ((place : ℕ) × IsNamed sel types place) ⊎ NoneQualifies sel types
named_or_none Any types =
    elim (first_or_none Any types (length types) (omega arith)) [
      | inl w ↦ inl w
      | inr none ↦ inr (none_qualifies Any types none)
    ]
named_or_none (Exactly asked) types =
    elim (first_or_none (Exactly asked) types (length types) (omega arith)) [
      | inl w ↦ inl w
      | inr none ↦ inr (none_qualifies (Exactly asked) types none)
    ]
named_or_none (Except refused) types =
    elim (first_or_none (Except refused) types (length types) (omega arith)) [
      | inl w ↦ inl w
      | inr none ↦ inr (none_qualifies (Except refused) types none)
    ]
named_or_none (UpTo bound) [] = inr (λ place q. absurd (omega (arith, q.0)))
named_or_none (UpTo bound) (t ∷ ts) =
    let w = some_least (t ∷ ts) (length ts) in up_to bound (t ∷ ts) (length ts) w.0 refl w.1
