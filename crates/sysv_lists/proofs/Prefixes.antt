-- Prefixes of prefixes, of longer lists, and of the same length.
use Rattle.std.proofs.Common.{◌≡◌, ℕ, ◌+◌, ◌≤◌, List, [], ◌∷◌, ◌++◌, length, take, drop, sym, ap, ◌∙◌, arith}
use Rattle.std.proofs.Common.{append_assoc, length-append, take-append-drop}
use Rattle.std.proofs.lemmas.List.{append-nil, nil_from_length}
use Rattle.sysv_lists.specs.Prefix.{IsPrefixOf}

module _ {A : Type 0} where
  pub prefix_self : (xs : List A) → IsPrefixOf xs xs
  prefix_self xs = ([], sym (append-nil xs))

  -- A prefix of a list is a prefix of a longer list.
  pub prefix_longer : (part whole more : List A) → IsPrefixOf part whole → IsPrefixOf part (whole ++ more)
  prefix_longer part whole more b = (b.0 ++ more, ap (λ (l : List A). l ++ more) b.1 ∙ append_assoc part b.0 more)

  pub prefix_snoc : (part whole : List A) (x : A) → IsPrefixOf part whole → IsPrefixOf part (whole ++ x ∷ [])
  prefix_snoc part whole x b = prefix_longer part whole (x ∷ []) b

  -- The first `count` elements are a prefix.
  pub prefix_take : (count : ℕ) (xs : List A) → IsPrefixOf (take count xs) xs
  prefix_take count xs = (drop count xs, sym (take-append-drop count xs))

  pub prefix_trans : (xs ys zs : List A) → IsPrefixOf xs ys → IsPrefixOf ys zs → IsPrefixOf xs zs
  prefix_trans xs ys zs short long =
      (short.0 ++ long.0, long.1 ∙ ap (λ (l : List A). l ++ long.0) short.1 ∙ append_assoc xs short.0 long.0)

  -- A prefix that is as long as the list is the list.
  pub prefix_whole : (part whole : List A) → IsPrefixOf part whole → length whole ≤ length part → part ≡ whole
  prefix_whole part whole b le =
      let more : List A = b.0 in
      let e : length whole ≡ length part + length more = ap length b.1 ∙ length-append part more in
      let none : more ≡ [] = nil_from_length more (omega arith) in
      sym (b.1 ∙ ap (λ (l : List A). part ++ l) none ∙ append-nil part)
