-- The credentials of the actors, by their places.
use Rattle.std.proofs.Common.{◌≡◌, ◌+◌, ◌<◌, ℕ, zero, suc, List, ◌∷◌, length, get_or, map, slice_set, sym, subst, ◌∙◌}
use Rattle.std.proofs.Common.{arith, inl, inr}
use Rattle.std.specs.List.{range_with_len}
use Rattle.std.proofs.lemmas.Bool.{cases_eq}
use Rattle.std.proofs.lemmas.List.{get_or-set_same, get_or-set_other}
use Rattle.std.proofs.lemmas.List.FromFn.{fill_by_all}
use Rattle.sysv_model.specs.declared.cred.Cred.{Cred}
use Rattle.sysv_script.specs.ScriptState.{first_cred}

-- The places below this one have the first credentials of their actors.
abbrev pub AreFirst : List Cred → ℕ → Type 0
AreFirst creds place = (k : ℕ) → k < place → get_or creds k (first_cred 0) ≡ first_cred (k + 1)

pub AreFirst-one : (x : Cred) (xs : List Cred) → x ≡ first_cred 1 → AreFirst (x ∷ xs) 1
AreFirst-one x xs e zero h = e
AreFirst-one x xs e (suc k) h = absurd (omega (arith, h))

pub AreFirst-more : (creds : List Cred) (place : ℕ) (x : Cred) → place < length creds → x ≡ first_cred (place + 1) →
    AreFirst creds place → AreFirst (slice_set creds place x) (place + 1)
AreFirst-more creds place x inside e before k h = elim (cases_eq k place) [
  | inl here ↦ subst (λ i. get_or (slice_set creds place x) i (first_cred 0) ≡ first_cred (i + 1)) (sym here)
      (get_or-set_same creds place x (first_cred 0) inside ∙ e)
  | inr other ↦ get_or-set_other creds place k x (first_cred 0) other ∙ before k (omega (arith, h, other))
]

pub AreFirst-all : (creds : List Cred) → length creds ≡ 16 → AreFirst creds 16 →
    creds ≡ map first_cred (range_with_len 1 16)
AreFirst-all creds long all = fill_by_all (λ k. first_cred (k + 1)) creds 16 (first_cred 0) long all
