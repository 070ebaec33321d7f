-- If each of several words is read in one way, so are all of them together, and it is decided
-- whether they have a value (this project's script language).
use Rattle.std.proofs.Common.{◌≡◌, ℕ, inl, inr, List, subst}
use Rattle.sysv_words.specs.Words.{SplitsAt, Pair, After}
use Rattle.sysv_words.specs.Readings.{SaysOnce, IsDecided, IsReading}
use Rattle.sysv_words.specs.Splitting.{splits_once, SplitsAt-marked, first-unsplit, first-no_one, Pair-no_one}
use Rattle.sysv_words.specs.Splitting.{Pair-no_other}
use Rattle.sysv_words.specs.Deciding.{splits_or_not, same_or_not}

pair_once : {A B : Type 0} (One : List ℕ → A → Type 0) (Other : List ℕ → B → Type 0) → SaysOnce One → SaysOnce Other →
    SaysOnce (Pair One Other)
pair_once {A} {B} One Other once other text (a, b) (c, d) h k =
    let same = splits_once 32 text h.word h.rest k.word k.rest h.split k.split in
    let first : a ≡ c = once k.word a c (subst (λ (w : List ℕ). One w a) same.0 h.one) k.one in
    let second : b ≡ d = other k.rest b d (subst (λ (r : List ℕ). Other r b) same.1 h.other) k.other in
    cc

pair_decided : {A B : Type 0} (One : List ℕ → A → Type 0) (Other : List ℕ → B → Type 0) → IsDecided One →
    IsDecided Other → IsDecided (Pair One Other)
pair_decided One Other one other text = elim (splits_or_not 32 text) [
  | inl s ↦ elim (one s.0) [
    | inl a ↦ elim (other s.1) [
      | inl b ↦ inl ((a.0, b.0), record { word = s.0; rest = s.1; split = s.2; one = a.1; other = b.1 })
      | inr none ↦ inr (Pair-no_other One Other text a.0 s.1 (s.0, s.2, a.1) none)
    ]
    | inr none ↦ inr (Pair-no_one One Other text (first-no_one One text s.0 s.1 s.2 none))
  ]
  | inr plain ↦ inr (Pair-no_one One Other text (first-unsplit One text plain))
]

pub pair : {A B : Type 0} (One : List ℕ → A → Type 0) (Other : List ℕ → B → Type 0) → IsReading One → IsReading Other →
    IsReading (Pair One Other)
pair One Other one other = record {
  once = pair_once One Other one.once other.once;
  decided = pair_decided One Other one.decided other.decided;
}

after_once : {A : Type 0} (name : List ℕ) (Says : List ℕ → A → Type 0) → SaysOnce Says → SaysOnce (After name Says)
after_once name Says once text a b h k =
    let same = splits_once 32 text name h.rest name k.rest h.split k.split in
    once k.rest a b (subst (λ (r : List ℕ). Says r a) same.1 h.says) k.says

after_decided : {A : Type 0} (name : List ℕ) (Says : List ℕ → A → Type 0) → IsDecided Says → IsDecided (After name Says)
after_decided name Says says text = elim (splits_or_not 32 text) [
  | inl s ↦ elim (same_or_not s.0 name) [
    | inl same ↦ elim (says s.1) [
      | inl a ↦
          inl (a.0, record { rest = s.1; split = subst (λ (w : List ℕ). SplitsAt 32 text w s.1) same s.2; says = a.1 })
      | inr none ↦ inr (λ value h.
          let e = splits_once 32 text name h.rest s.0 s.1 h.split s.2 in
          none value (subst (λ (r : List ℕ). Says r value) e.1 h.says))
    ]
    | inr differs ↦ inr (λ value h. let e = splits_once 32 text s.0 s.1 name h.rest s.2 h.split in differs e.0)
  ]
  | inr plain ↦ inr (λ value h. plain (SplitsAt-marked 32 text name h.rest h.split))
]

pub after : {A : Type 0} (name : List ℕ) (Says : List ℕ → A → Type 0) → IsReading Says → IsReading (After name Says)
after name Says says = record { once = after_once name Says says.once; decided = after_decided name Says says.decided }
