-- The items that a source returns. This project's profile.
use Rattle.std.specs.Prelude.{◌≡◌, ◌⊎◌, List, [], Option, Some, None}
use Rattle.std.specs.List.{FoldsTo}

-- The source returned these items, one after the other, and then reported its end.
pub record GivesAll {S T : Type 0} (gives : S → Option T → S → Type 0) (before : S) (items : List T)
    (after : S) : Type 0 where
  pub last : S
  pub gave : FoldsTo (λ s x s'. gives s (Some x) s') before items last
  pub ended : gives last None after

-- The source returned these items, one after the other, and may then have reported its end.
abbrev pub Returned : {S T : Type 0} → (S → Option T → S → Type 0) → S → List T → S → Type 0
Returned gives before items after =
    FoldsTo (λ s x s'. gives s (Some x) s') before items after ⊎ GivesAll gives before items after

-- The source returned these items and is at its end, or it was not read and returned none.
abbrev pub Gave : {S T : Type 0} → (S → Option T → S → Type 0) → S → List T → S → Type 0
Gave gives before items after = GivesAll gives before items after ⊎ ((items ≡ []) × (after ≡ before))
