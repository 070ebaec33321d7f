-- What worker threads do together. Each worker has a part: it begins with a state, runs a job over
-- items, one after the other, and leaves a state. This project's profile.
use Rattle.std.specs.Prelude.{◌≡◌, ◌⊎◌, ⊤, List, [], ◌∷◌, map}
use Rattle.std.specs.List.{All, FoldsTo, flat_map}
use Rattle.std.specs.List.Sorted.{IsPermutation}

-- The first list is the second without some of its elements. So its elements are in the order in
-- which the second list has them.
abbrev pub IsSubsequenceOf : {A : Type 0} → List A → List A → Type 0
IsSubsequenceOf [] ys = ⊤
IsSubsequenceOf (x ∷ xs) [] = ⊥
IsSubsequenceOf (x ∷ xs) (y ∷ ys) = ((x ≡ y) × IsSubsequenceOf xs ys) ⊎ IsSubsequenceOf (x ∷ xs) ys

-- The part of one worker: the state that it began with, its items, and the state that it left.
pub record Part (W T : Type 0) : Type 0 where
  pub before : W
  pub items : List T
  pub after : W

module _ {W T : Type 0} where
  -- The parts begin with the states `before` and leave the states `after`, both in order. Each part
  -- leaves a state to which the job's runs over its items lead.
  pub record Leads (runs : W → T → W → Type 0) (before : List W) (parts : List (Part W T))
      (after : List W) : Type 0 where
    pub began : map (λ p. p.before) parts ≡ before
    pub left : map (λ p. p.after) parts ≡ after
    pub ran : All (λ p. FoldsTo runs p.before p.items p.after) parts

  -- Together, the items of the parts are those of the list, each once.
  abbrev pub AreDealt : List T → List (Part W T) → Type 0
  AreDealt given parts = IsPermutation (flat_map (λ p. p.items) parts) given

  -- The items of each part are in the order of the list.
  abbrev pub AreInOrder : List T → List (Part W T) → Type 0
  AreInOrder given parts = All (λ p. IsSubsequenceOf p.items given) parts
