-- Identifiers: when two are equal, and what a live identifier implies.
use Rattle.std.proofs.Common.{◌≡◌, ℤ, Bool, true, false, Option, None, Some, refl, sym, ap, ◌∙◌, option_map, ◌⊎◌, inl}
use Rattle.std.proofs.Common.{inr}
use Rattle.std.specs.Ordering.{int_eq}
use Rattle.std.proofs.lemmas.Bool.Decides.{Decides-int_eq}
use Rattle.sysv_model.specs.declared.attributes.Attributes.{Attributes}
use Rattle.sysv_model.specs.History.{History}
use Rattle.sysv_model.specs.Live.{HasId}
use Rattle.sysv_model.specs.Waiting.{waiting, waiting_on}

pub same_id : (a b : ℤ) → a ≡ b → int_eq a b ≡ true
same_id a b e = (Decides-int_eq a b).1 e

not_same : (t : Bool) → (t ≡ true → ⊥) → t ≡ false
not_same true f = absurd (f refl)
not_same false f = refl

pub other_id : (a b : ℤ) → ¬ (a ≡ b) → int_eq a b ≡ false
other_id a b f = not_same (int_eq a b) (λ e. f ((Decides-int_eq a b).0 e))

-- Two identifiers of the same live queue are equal.
pub one_id : (l : Option Attributes) (a b : ℤ) → HasId l a → HasId l b → a ≡ b
one_id None a b h k = absurd h
one_id (Some q) a b h k = sym h ∙ k

pub waiting_on-id : (l : Option Attributes) (id : ℤ) (h : History) → HasId l id → waiting_on l h ≡ waiting id h
waiting_on-id None id h live = absurd live
waiting_on-id (Some q) id h live = ap (λ i. waiting i h) live

-- A change that keeps the identifier keeps it live.
pub keeps_id : (f : Attributes → Attributes) → ((a : Attributes) → (f a).id ≡ a.id) → (l : Option Attributes) (id : ℤ) →
    HasId l id → HasId (option_map f l) id
keeps_id f same None id live = live
keeps_id f same (Some q) id live = same q ∙ live

-- Such a change makes no other identifier live.
pub gives_no_id : (f : Attributes → Attributes) → ((a : Attributes) → (f a).id ≡ a.id) → (l : Option Attributes)
    (id : ℤ) → HasId (option_map f l) id → HasId l id
gives_no_id f same None id live = live
gives_no_id f same (Some q) id live = sym (same q) ∙ live

same_or_not : (t : Bool) (a b : ℤ) → int_eq a b ≡ t → (a ≡ b) ⊎ ¬ (a ≡ b)
same_or_not true a b e = inl ((Decides-int_eq a b).0 e)
same_or_not false a b e = inr (λ same. let t = (Decides-int_eq a b).1 same in let bad : true ≡ false = sym t ∙ e in cc)

-- Two identifiers are equal or they are not.
pub decided : (a b : ℤ) → (a ≡ b) ⊎ ¬ (a ≡ b)
decided a b = same_or_not (int_eq a b) a b refl

-- An identifier is live or it is not.
pub is_live : (l : Option Attributes) (id : ℤ) → HasId l id ⊎ ¬ HasId l id
is_live None id = inr (λ h. h)
is_live (Some a) id = decided a.id id
