-- Messages in the order of acceptance, and which of two is before the other.
use Rattle.std.proofs.Common.{◌≡◌, ◌≢◌, ℕ, zero, suc, ℤ, ◌<◌, ◌⊎◌, inl, inr, Bool, true, false, cond, List, [], ◌∷◌}
use Rattle.std.proofs.Common.{◌++◌, Some, refl, ap, subst, ◌∙◌, arith, slice_get, append_assoc}
use Rattle.std.specs.List.{AllByRecursion, AllPairs, Contains}
use Rattle.std.proofs.lemmas.Grind.{flat_map-append}
use Rattle.std.proofs.lemmas.List.Concat.{flat_map-cons}
use Rattle.std.proofs.lemmas.List.Kept.{AllPairs-cons}
use Rattle.std.proofs.lemmas.List.Elements.{All-from_recursion, Contains-push_cases}
use Rattle.std.proofs.lemmas.List.{append-nil}
use Rattle.sysv_model.specs.Message.{Message}
use Rattle.sysv_model.specs.History.{Entry, History}
use Rattle.sysv_model.specs.Waiting.{accepted, accepted_by}
use Rattle.sysv_queue.specs.QueueLaw.{StandsBefore}
use Rattle.sysv_queue.proofs.Filters.{Rises, above_first}

-- Each number is below all later ones.
below_later : (xs : List Message) → Rises xs → AllPairs (λ (m n : Message). m.number < n.number) xs
below_later [] r = λ i j d l k. absurd (omega arith)
below_later (x ∷ xs) r =
    AllPairs-cons (λ (m n : Message). m.number < n.number) x xs
    (All-from_recursion (λ (n : Message). x.number < n.number) xs r.0) (below_later xs r.1)

-- Rising numbers are different.
pub apart_where_rising : (xs : List Message) → Rises xs → AllPairs (λ (m n : Message). m.number ≢ n.number) xs
apart_where_rising xs r = λ i j d l k e. let below = below_later xs r i j d l k in omega arith

-- If numbers rise, the lower number is at the earlier place.
pub earlier_place : (xs : List Message) (i j : ℕ) (m n : Message) → Rises xs → slice_get xs i ≡ Some m →
    slice_get xs j ≡ Some n → m.number < n.number → i < j
earlier_place [] i j m n r a b less = absurd cc
earlier_place (x ∷ xs) zero zero m n r a b less =
    let same : m ≡ n = cc in let number = ap (λ (y : Message). y.number) same in absurd (omega arith)
earlier_place (x ∷ xs) zero (suc j) m n r a b less = omega arith
earlier_place (x ∷ xs) (suc i) zero m n r a b less =
    let same : x ≡ n = cc in
    let number = ap (λ (y : Message). y.number) same in
    let above = above_first x.number xs i m r.0 a in
    absurd (omega arith)
earlier_place (x ∷ xs) (suc i) (suc j) m n r a b less = let rest = earlier_place xs i j m n r.1 a b less in omega arith

middle_has : (P : Message → Type 0) (xs ys : List Message) (m : Message) → AllByRecursion P (xs ++ m ∷ ys) → P m
middle_has P [] ys m a = a.0
middle_has P (x ∷ xs) ys m a = middle_has P xs ys m a.1

-- Of two messages of such a list, the earlier one has the lower number.
pub rises_across : (a b c : List Message) (m n : Message) → Rises (a ++ m ∷ (b ++ n ∷ c)) → m.number < n.number
rises_across [] b c m n r = middle_has (λ (x : Message). m.number < x.number) b c n r.0
rises_across (x ∷ a) b c m n r = rises_across a b c m n r.1

pub nothing_in : (m : Message) → Contains [] m → ⊥
nothing_in m h = omega (arith, h.1)

-- What is in a list with one more message was in the list before, or is that message.
pub old_or_new : (t : Bool) (xs : List Message) (x m : Message) → Contains (xs ++ cond t (x ∷ []) []) m →
    Contains xs m ⊎ ((t ≡ true) × (x ≡ m))
old_or_new true xs x m h = elim (Contains-push_cases xs x m h) [ inl old ↦ inl old | inr new ↦ inr (refl, new) ]
old_or_new false xs x m h = inl (subst (λ ms. Contains ms m) (append-nil xs) h)

-- A list around one of its elements.
found : (xs : List Message) (x : Message) → Contains xs x → (p : List Message) × (q : List Message) × (xs ≡ p ++ x ∷ q)
found [] x h = absurd (omega (arith, h.1))
found (y ∷ xs) x (zero, within, e) = let same : y ≡ x = e in ([], xs, cc)
found (y ∷ xs) x (suc k, within, e) =
    let rest = found xs x (k, omega arith, e) in
    let tail : xs ≡ rest.0 ++ x ∷ rest.1 = rest.2 in
    (y ∷ rest.0, rest.1, cc)

-- A list that is extended keeps the order of its elements.
pub stands_more : (xs ys : List Message) (m n : Message) → StandsBefore xs m n → StandsBefore (xs ++ ys) m n
stands_more xs ys m n (front, between, back, e) = (
  front,
  between,
  back ++ ys,
  ap (λ zs. zs ++ ys) e
      ∙ (append_assoc front (m ∷ (between ++ n ∷ back)) ys
      ∙ ap (λ zs. front ++ m ∷ zs) (append_assoc between (n ∷ back) ys)),
)

-- An element that is appended is after all others.
pub stands_last : (xs : List Message) (m n : Message) → Contains xs m → StandsBefore (xs ++ n ∷ []) m n
stands_last xs m n has =
    let at = found xs m has in
    (at.0, at.1, [], ap (λ zs. zs ++ n ∷ []) at.2 ∙ append_assoc at.0 (m ∷ at.1) (n ∷ []))

-- Accepted messages are in the order of the turns that accepted them.
pub accepted_around : (id : ℤ) (before middle after : History) (e f : Entry) (m n : Message) →
    accepted_by id e.call e.reply ≡ m ∷ [] → accepted_by id f.call f.reply ≡ n ∷ [] →
    accepted id (before ++ e ∷ (middle ++ f ∷ after))
    ≡ accepted id before ++ m ∷ (accepted id middle ++ n ∷ accepted id after)
accepted_around id before middle after e f m n one two =
    let by : Entry → List Message = λ (t : Entry). accepted_by id t.call t.reply in
    flat_map-append by before (e ∷ (middle ++ f ∷ after))
    ∙ ap (λ ms. accepted id before ++ ms)
    (flat_map-cons by e (middle ++ f ∷ after)
    ∙ (ap (λ ms. ms ++ accepted id (middle ++ f ∷ after)) one
    ∙ ap (λ ms. m ∷ ms)
    (flat_map-append by middle (f ∷ after)
    ∙ ap (λ ms. accepted id middle ++ ms) (flat_map-cons by f after ∙ ap (λ ms. ms ++ accepted id after) two))))
