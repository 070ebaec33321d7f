-- A store without messages.
use Rattle.std.proofs.Common.{◌≡◌, ℕ, ◌≤◌, List, [], ◌∷◌, Option, None, length, refl, ap, inl, inr, arith}
use Rattle.std.specs.List.{All}
use Rattle.std.proofs.lemmas.Bool.{cases_lt}
use Rattle.std.proofs.lemmas.List.{get_or_past}
use Rattle.std.proofs.lemmas.List.Elements.{All-head, All-tail}
use Rattle.std.proofs.lemmas.List.Sums.{sum_by-cons}
use Rattle.slab.specs.Slab.{Slab, get, slab_len}
use Rattle.sysv_model.specs.declared.limits.TheConstants.{QUEUE_MESSAGES}
use Rattle.sysv_pool.specs.Chain.{Chained}
use Rattle.sysv_messages.specs.declared.head.Head.{Head}
use Rattle.sysv_messages.specs.Texts.{blocks_in, all_blocks}
use Rattle.sysv_messages.specs.Kept.{chain_at, IsStore}
use Rattle.sysv_messages.proofs.Lists.{no_some}

pub no_blocks : (chains : List (Option Chained)) → All (λ chain. chain ≡ None) chains → all_blocks chains ≡ 0
no_blocks [] none = refl
no_blocks (c ∷ cs) none =
    omega (
      arith,
      sum_by-cons (λ (c : Option Chained). blocks_in c) c cs,
      ap blocks_in (All-head (λ chain. chain ≡ None) c cs none),
      no_blocks cs (All-tail (λ chain. chain ≡ None) c cs none),
    )

no_chain : (chains : List (Option Chained)) (place : ℕ) → All (λ chain. chain ≡ None) chains →
    chain_at chains place ≡ None
no_chain chains place none = elim (cases_lt place (length chains)) [
  | inl within ↦ none place None within
  | inr past ↦ get_or_past chains place None past
]

pub store_bare : (heads : Slab Head) (chains : List (Option Chained)) → heads.slots ≡ [] →
    All (λ chain. chain ≡ None) chains → length chains ≡ heads.capacity → QUEUE_MESSAGES ≤ heads.capacity →
    IsStore heads chains [] 0
store_bare heads chains empty none wide roomy = record {
  kept = λ k d within. absurd (omega arith);
  known = λ key some.
      absurd (no_some (get heads key) (ap (λ slots. get (record heads { slots = slots }) key) empty) some);
  once = λ i j d less within. absurd (omega arith);
  same = ap (λ slots. slab_len (record heads { slots = slots })) empty;
  bare = λ place head. no_chain chains place none;
  wide = wide;
  roomy = roomy;
  summed = refl;
  blocks = no_blocks chains none;
}
