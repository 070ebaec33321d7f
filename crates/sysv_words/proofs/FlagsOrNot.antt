-- A word means flags, or it does not.
use Rattle.std.proofs.Common.{◌≡◌, ◌≤◌, ◌⊎◌, ℕ, zero, suc, inl, inr, List, [], ◌∷◌, length, refl, sym, subst, arith}
use Rattle.std.proofs.Common.{bit_or}
use Rattle.std.specs.Prelude.{Contains, codes}
use Rattle.std.specs.Str.Parse.{digits_value}
use Rattle.sysv_words.specs.Words.{SplitsAt}
use Rattle.sysv_words.specs.FlagNames.{IsMode, NamesMode, NamesFlag, AddsFlags, IsFlags, One, More}
use Rattle.sysv_words.proofs.FlagLists.{AddsFlags-split, AddsFlags-last, NamesFlag-once}
use Rattle.sysv_words.specs.Deciding.{Decided, decided_as, two, either, at_most_or_not, same_or_not, behind_or_not}
use Rattle.sysv_words.specs.Deciding.{splits_or_not, splits_shorter}
use Rattle.sysv_words.proofs.NumeralsOrNot.{digits_or_not}

-- A text is at most three octal digits, or it is not.
mode_or_not : (digits : List ℕ) → Decided (IsMode digits)
mode_or_not digits = two (at_most_or_not (length digits) 3) (digits_or_not 8 digits)

-- The name is an octal mode.
abbrev NamesSomeMode : List ℕ → Type 0
NamesSomeMode name = (bits : ℕ) × NamesMode name bits

some_mode_or_not : (name : List ℕ) → Decided (NamesSomeMode name)
some_mode_or_not name =
    decided_as (λ h. (digits_value 8 h.0, (h.0, h.1, h.2, refl))) (λ h. (h.1.0, h.1.1, h.1.2))
    (behind_or_not (48 ∷ []) IsMode mode_or_not name)

-- The name is an octal mode or the name of a flag.
abbrev IsName : List ℕ → Type 0
IsName name =
    NamesSomeMode name ⊎ (name ≡ codes "CREAT") ⊎ (name ≡ codes "EXCL") ⊎ (name ≡ codes "NOWAIT")
    ⊎ (name ≡ codes "NOERROR") ⊎ (name ≡ codes "EXCEPT")

-- A text is such a name, or it is not.
name_or_not : (name : List ℕ) → Decided (IsName name)
name_or_not name =
    either (some_mode_or_not name)
    (either (same_or_not name (codes "CREAT"))
    (either (same_or_not name (codes "EXCL")) (either (same_or_not name (codes "NOWAIT"))
    (either (same_or_not name (codes "NOERROR")) (same_or_not name (codes "EXCEPT"))))))

-- A text is such a name if and only if it has some bits.
name_stands : (name : List ℕ) → IsName name → (bits : ℕ) × NamesFlag name bits
name_stands name (inl mode) = (mode.0, inl mode.1)
name_stands name (inr (inl e)) = (512, inr (inl (e, refl)))
name_stands name (inr (inr (inl e))) = (1024, inr (inr (inl (e, refl))))
name_stands name (inr (inr (inr (inl e)))) = (2048, inr (inr (inr (inl (e, refl)))))
name_stands name (inr (inr (inr (inr (inl e))))) = (4096, inr (inr (inr (inr (inl (e, refl))))))
name_stands name (inr (inr (inr (inr (inr e))))) = (8192, inr (inr (inr (inr (inr (e, refl))))))

stands_name : (name : List ℕ) (bits : ℕ) → NamesFlag name bits → IsName name
stands_name name bits (inl mode) = inl (bits, mode)
stands_name name bits (inr (inl h)) = inr (inl h.0)
stands_name name bits (inr (inr (inl h))) = inr (inr (inl h.0))
stands_name name bits (inr (inr (inr (inl h)))) = inr (inr (inr (inl h.0)))
stands_name name bits (inr (inr (inr (inr (inl h))))) = inr (inr (inr (inr (inl h.0))))
stands_name name bits (inr (inr (inr (inr (inr h))))) = inr (inr (inr (inr (inr h.0))))

-- The name has some bits.
abbrev NamesSome : List ℕ → Type 0
NamesSome name = (bits : ℕ) × NamesFlag name bits

-- A name has bits, or it has none.
some_or_not : (name : List ℕ) → Decided (NamesSome name)
some_or_not name = decided_as (name_stands name) (λ h. stands_name name h.0 h.1) (name_or_not name)

-- The list has some bits, combined with those before it.
abbrev AddsSome : ℕ → List ℕ → Type 0
AddsSome before list = (all : ℕ) × AddsFlags before list all

-- A list without `+` has bits if its only name has.
adds_one_or_not : (before : ℕ) (list : List ℕ) → ¬ Contains list 43 → Decided (AddsSome before list)
adds_one_or_not before list plain =
    decided_as (λ h. (bit_or before h.0, One before list h.0 h.1)) (λ h. AddsFlags-last before list h.0 plain h.1)
    (some_or_not list)

-- A list that splits after a name has bits if and only if the rest has.
adds_more : (before : ℕ) (list name rest : List ℕ) (bits : ℕ) → SplitsAt 43 list name rest → NamesFlag name bits →
    AddsSome (bit_or before bits) rest → AddsSome before list
adds_more before list name rest bits s named more = (
  more.0,
  subst (λ (l : List ℕ). AddsFlags before l more.0) (sym s.whole) (More before name rest bits more.0 named more.1),
)

adds_behind : (before : ℕ) (list name rest : List ℕ) (bits : ℕ) → SplitsAt 43 list name rest → NamesFlag name bits →
    AddsSome before list → AddsSome (bit_or before bits) rest
adds_behind before list name rest bits s named h =
    let behind = AddsFlags-split before list h.0 name rest s h.1 in
    let same : behind.0 ≡ bits = NamesFlag-once name behind.0 bits behind.1 named in
    (h.0, subst (λ x. AddsFlags (bit_or before x) rest h.0) same behind.2)

-- A list of at most `bound` bytes has bits, or it has none.
adds_or_not : (bound before : ℕ) (list : List ℕ) → length list ≤ bound → Decided (AddsSome before list)
adds_or_not zero before list short = elim (splits_or_not 43 list) [
  | inl s ↦ let shorter = splits_shorter 43 list s.0 s.1 s.2 in absurd (omega (arith, short, shorter))
  | inr plain ↦ adds_one_or_not before list plain
]
adds_or_not (suc bound) before list short = elim (splits_or_not 43 list) [
  | inl s ↦ elim (some_or_not s.0) [
    | inl named ↦
        let shorter = splits_shorter 43 list s.0 s.1 s.2 in
        decided_as (adds_more before list s.0 s.1 named.0 s.2 named.1)
        (adds_behind before list s.0 s.1 named.0 s.2 named.1)
        (adds_or_not bound (bit_or before named.0) s.1 (omega (arith, short, shorter)))
    | inr not ↦ inr (λ h. let behind = AddsFlags-split before list h.0 s.0 s.1 s.2 h.1 in not (behind.0, behind.1))
  ]
  | inr plain ↦ adds_one_or_not before list plain
]

-- The word means some flags.
abbrev pub IsSomeFlags : List ℕ → Type 0
IsSomeFlags word = (bits : ℕ) × IsFlags word bits

-- A word means flags if and only if it is `-` or a list that has bits.
flags_stand : (word : List ℕ) → (word ≡ codes "-") ⊎ AddsSome 0 word → IsSomeFlags word
flags_stand word (inl e) = (0, inl (e, refl))
flags_stand word (inr h) = (h.0, inr h.1)

stand_flags : (word : List ℕ) (bits : ℕ) → IsFlags word bits → (word ≡ codes "-") ⊎ AddsSome 0 word
stand_flags word bits (inl h) = inl h.0
stand_flags word bits (inr h) = inr (bits, h)

-- A word means flags, or it does not.
pub flags_or_not : (word : List ℕ) → Decided (IsSomeFlags word)
flags_or_not word =
    decided_as (flags_stand word) (λ h. stand_flags word h.0 h.1)
    (either (same_or_not word (codes "-")) (adds_or_not (length word) 0 word (omega arith)))
