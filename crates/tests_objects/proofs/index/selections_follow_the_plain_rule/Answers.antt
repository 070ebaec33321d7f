use Rattle.std.proofs.Common.{◌≡◌, ℕ, Bool, ◌+◌, ◌<◌, List, [], ◌∷◌, ◌++◌, refl, sym, subst, ◌∙◌, arith}
use Rattle.std.specs.List.{All, filter}
use Rattle.std.proofs.lemmas.List.Elements.{All-push, All-filter}
use Rattle.sysv_messages.specs.declared.entry.Entry.{Entry}
use Rattle.tests_objects.proofs.index.selections_follow_the_plain_rule.Goals as goal
use Rattle.tests_objects.proofs.index.selections_follow_the_plain_rule.Goals.{
  then-step-lt3+then-len-lt-QUEUE_MESSAGES+in_ok-push,
}
use Rattle.tests_objects.proofs.index.selections_follow_the_plain_rule.Goals.{else-step-lt3+in-Some}
use Rattle.tests_objects.proofs.index.selections_follow_the_plain_rule.Goals.{else-step-lt3+in_default}

abbrev IsLow : ℕ → Entry → Type 0
IsLow n e = e.number < n

next_low : (n : ℕ) (xs : List Entry) → All (IsLow n) xs → All (IsLow (n + 1)) xs
next_low n xs low k d within = let h = low k d within in omega arith

low_pushed : (n : ℕ) (xs ys : List Entry) (e : Entry) → ys ≡ xs ++ e ∷ [] → e.number ≡ n → All (IsLow n) xs →
    All (IsLow (n + 1)) ys
low_pushed n xs ys e is number low =
    subst (λ zs. All (IsLow (n + 1)) zs) (sym is) (All-push (IsLow (n + 1)) xs e (next_low n xs low) (omega arith))

low_others : (n : ℕ) (p : Entry → Bool) (xs ys : List Entry) → ys ≡ filter p xs → All (IsLow n) xs →
    All (IsLow (n + 1)) ys
low_others n p xs ys is low =
    subst (λ zs. All (IsLow (n + 1)) zs) (sym is) (next_low n (filter p xs) (All-filter p (IsLow n) xs low))

pub loop-step-preserved : goal.loop-step-preserved
loop-step-preserved g c =
    let low = c.loop-step.invariant.low in
    let few = c.loop-step.invariant.few in
    elim c.if-step-lt3.branch [
      | then-step-lt3+then-len-lt-QUEUE_MESSAGES+in_ok-push w ↦ record {
        low = low_pushed c.loop-step.step c.loop-step.index _ _ (w.index-is ∙ w.push.ensures) refl low;
        few = omega (arith, w.taken-is);
      }
      | else-step-lt3+in-Some w ↦ record {
        low = low_others c.loop-step.step _ c.loop-step.index _ (w.index-is ∙ w.remove.ensures.others) low;
        few = omega (arith, w.taken-is);
      }
      | else-step-lt3+in_default w ↦ record {
        low = subst (λ xs. All (IsLow (c.loop-step.step + 1)) xs) (sym w.index-is)
            (next_low c.loop-step.step c.loop-step.index low);
        few = omega (arith, w.taken-is);
      }
    ]
