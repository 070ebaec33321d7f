-- Lists of messages with rising numbers, and which of them are queued once one more was accepted or
-- delivered.
use Rattle.std.proofs.Common.{◌≡◌, ℕ, zero, suc, ◌<◌, ◌==◌, Bool, true, false, not, cond, ◌||◌, List, [], ◌∷◌, ◌++◌}
use Rattle.std.proofs.Common.{Some, refl, sym, ap, subst, ◌∙◌, arith, remove, slice_get, rules}
use Rattle.std.specs.List.{filter, AllByRecursion, Contains}
use Rattle.std.proofs.lemmas.List.Elements.{filter-append, All-from_recursion, All-contains}
use Rattle.std.proofs.lemmas.List.Folds.{list_any-append}
use Rattle.std.proofs.lemmas.Bool.Decides.{nat_tests}
use Rattle.sysv_model.specs.Message.{Message}
use Rattle.sysv_model.specs.Waiting.{has_number}

-- Each number is below all later ones.
abbrev pub Rises : List Message → Type 0
Rises [] = Unit {0}
Rises (x ∷ xs) = AllByRecursion (λ (m : Message). x.number < m.number) xs × Rises xs

-- Each number is below n.
abbrev pub AreBelow : ℕ → List Message → Type 0
AreBelow n xs = AllByRecursion (λ (m : Message). m.number < n) xs

pub weaker : {X : Type 0} (P Q : X → Type 0) → ((x : X) → P x → Q x) → (xs : List X) → AllByRecursion P xs →
    AllByRecursion Q xs
weaker P Q f [] a = tt
weaker P Q f (x ∷ xs) a = (f x a.0, weaker P Q f xs a.1)

pub below_append : (n : ℕ) (xs ys : List Message) → AreBelow n xs → AreBelow n ys → AreBelow n (xs ++ ys)
below_append n [] ys a b = b
below_append n (x ∷ xs) ys a b = (a.0, below_append n xs ys a.1 b)

pub below_of : (n : ℕ) (xs : List Message) (m : Message) → AreBelow n xs → Contains xs m → m.number < n
below_of n xs m a h =
    All-contains (λ (x : Message). x.number < n) xs m (All-from_recursion (λ (x : Message). x.number < n) xs a) h

pub pushed : {X : Type 0} (P : X → Type 0) (xs : List X) (x : X) → AllByRecursion P xs → P x →
    AllByRecursion P (xs ++ x ∷ [])
pushed P [] x a p = (p, tt)
pushed P (y ∷ xs) x a p = (a.0, pushed P xs x a.1 p)

filtered_at : {X : Type 0} (b : Bool) (P : X → Type 0) (x : X) (ys : List X) → P x → AllByRecursion P ys →
    AllByRecursion P (cond b (x ∷ ys) ys)
filtered_at true P x ys p a = (p, a)
filtered_at false P x ys p a = a

pub filtered : {X : Type 0} (p : X → Bool) (P : X → Type 0) (xs : List X) → AllByRecursion P xs →
    AllByRecursion P (filter p xs)
filtered p P [] a = tt
filtered p P (x ∷ xs) a = filtered_at (p x) P x (filter p xs) a.0 (filtered p P xs a.1)

pub rises_push : (xs : List Message) (x : Message) → Rises xs → AreBelow x.number xs → Rises (xs ++ x ∷ [])
rises_push [] x r b = (tt, tt)
rises_push (y ∷ xs) x r b = (pushed (λ (m : Message). y.number < m.number) xs x r.0 b.0, rises_push xs x r.1 b.1)

rises_at : (b : Bool) (x : Message) (ys : List Message) → AllByRecursion (λ (m : Message). x.number < m.number) ys →
    Rises ys → Rises (cond b (x ∷ ys) ys)
rises_at true x ys a r = (a, r)
rises_at false x ys a r = r

pub rises_filter : (p : Message → Bool) (xs : List Message) → Rises xs → Rises (filter p xs)
rises_filter p [] r = tt
rises_filter p (x ∷ xs) r =
    rises_at (p x) x (filter p xs) (filtered p (λ (m : Message). x.number < m.number) xs r.0) (rises_filter p xs r.1)

-- The accepted messages that are still queued once the others are gone.
abbrev pub waiting_from : List Message → List Message → List Message
waiting_from all gone = filter (λ (m : Message). not (has_number m.number gone)) all

-- No number from n on is in a list whose numbers are below n.
pub is_new : (n : ℕ) (xs : List Message) → AreBelow n xs → has_number n xs ≡ false
is_new n [] b = refl
is_new n (x ∷ xs) b =
    let other : (x.number == n) ≡ false = grind (arith, nat_tests, b.0) in
    let rest = is_new n xs b.1 in
    ap (λ t. t || has_number n xs) other ∙ rest

pub waiting-accepted : (all gone : List Message) (m : Message) → has_number m.number gone ≡ false →
    waiting_from (all ++ m ∷ []) gone ≡ waiting_from all gone ++ m ∷ []
waiting-accepted all gone m new =
    filter-append (λ (x : Message). not (has_number x.number gone)) all (m ∷ [])
    ∙ ap (λ t. waiting_from all gone ++ cond (not t) (m ∷ []) []) new

both_tests : (a b : Bool) (x : Message) (kept : List Message) →
    cond (not (a || b)) (x ∷ kept) kept ≡ cond (not a) (cond (not b) (x ∷ kept) kept) kept
both_tests true b x kept = refl
both_tests false true x kept = refl
both_tests false false x kept = refl

pull_in : (a : Bool) (q : Message → Bool) (x : Message) (ys : List Message) →
    cond (not a) (cond (q x) (x ∷ filter q ys) (filter q ys)) (filter q ys) ≡ filter q (cond (not a) (x ∷ ys) ys)
pull_in true q x ys = refl
pull_in false q x ys = refl

-- Once more messages are gone, those that were queued before are queued without them.
pub waiting_less : (all gone more : List Message) →
    waiting_from all (gone ++ more) ≡ filter (λ (x : Message). not (has_number x.number more)) (waiting_from all gone)
waiting_less [] gone more = refl
waiting_less (x ∷ all) gone more =
    let rest = waiting_less all gone more in
    let left : Message → Bool = λ (y : Message). not (has_number y.number more) in
    let split : has_number x.number (gone ++ more) ≡ (has_number x.number gone || has_number x.number more)
    = list_any-append (λ (y : Message). y.number == x.number) gone more in
    ap (λ ys. cond (not (has_number x.number (gone ++ more))) (x ∷ ys) ys) rest
    ∙ (ap (λ t. cond (not t) (x ∷ filter left (waiting_from all gone)) (filter left (waiting_from all gone))) split
    ∙ (both_tests (has_number x.number gone) (has_number x.number more) x (filter left (waiting_from all gone))
    ∙ pull_in (has_number x.number gone) left x (waiting_from all gone)))

-- Which messages are queued depends on the numbers that are gone, not on their order.
same_numbers : (all g k : List Message) → ((n : ℕ) → has_number n g ≡ has_number n k) →
    waiting_from all g ≡ waiting_from all k
same_numbers [] g k same = refl
same_numbers (x ∷ all) g k same =
    ap (λ t. cond (not t) (x ∷ waiting_from all g) (waiting_from all g)) (same x.number)
    ∙ ap (λ ys. cond (not (has_number x.number k)) (x ∷ ys) ys) (same_numbers all g k same)

both_orders : (a b c : Bool) → ((a || b) || c) ≡ ((a || c) || b)
both_orders true b c = refl
both_orders false true true = refl
both_orders false true false = refl
both_orders false false true = refl
both_orders false false false = refl

numbers_of : (n : ℕ) (a b c : List Message) →
    has_number n ((a ++ b) ++ c) ≡ ((has_number n a || has_number n b) || has_number n c)
numbers_of n a b c =
    list_any-append (λ (y : Message). y.number == n) (a ++ b) c
    ∙ ap (λ t. t || has_number n c) (list_any-append (λ (y : Message). y.number == n) a b)

pub waiting_swapped : (all a b c : List Message) → waiting_from all ((a ++ b) ++ c) ≡ waiting_from all ((a ++ c) ++ b)
waiting_swapped all a b c = same_numbers all ((a ++ b) ++ c) ((a ++ c) ++ b)
    (λ n.
    numbers_of n a b c ∙ (both_orders (has_number n a) (has_number n b) (has_number n c) ∙ sym (numbers_of n a c b)))

-- Nothing is left of a list without its own numbers.
or_true : (a : Bool) → (a || true) ≡ true
or_true true = refl
or_true false = refl

among_itself : (xs : List Message) → AllByRecursion (λ (m : Message). has_number m.number xs ≡ true) xs
among_itself [] = tt
among_itself (x ∷ xs) =
    let own : (x.number == x.number) ≡ true = search (rules, nat_tests) in (
      ap (λ t. t || has_number x.number xs) own,
      weaker (λ (m : Message). has_number m.number xs ≡ true) (λ (m : Message). has_number m.number (x ∷ xs) ≡ true)
          (λ m has. ap (λ t. (x.number == m.number) || t) has ∙ or_true (x.number == m.number)) xs (among_itself xs),
    )

all_out : (p : Message → Bool) (xs : List Message) → AllByRecursion (λ (m : Message). p m ≡ true) xs →
    filter (λ (m : Message). not (p m)) xs ≡ []
all_out p [] a = refl
all_out p (x ∷ xs) a =
    ap (λ t. cond (not t) (x ∷ filter (λ (m : Message). not (p m)) xs) (filter (λ (m : Message). not (p m)) xs)) a.0
    ∙ all_out p xs a.1

pub none_left : (xs : List Message) → filter (λ (x : Message). not (has_number x.number xs)) xs ≡ []
none_left xs = all_out (λ (m : Message). has_number m.number xs) xs (among_itself xs)

all_kept : (m : Message) (xs : List Message) → AllByRecursion (λ (y : Message). m.number < y.number) xs →
    filter (λ (x : Message). not (has_number x.number (m ∷ []))) xs ≡ xs
all_kept m [] a = refl
all_kept m (x ∷ xs) a =
    let kept : List Message = filter (λ (y : Message). not (has_number y.number (m ∷ []))) xs in
    let other : (m.number == x.number) ≡ false = grind (arith, nat_tests, a.0) in
    ap (λ t. cond (not (t || false)) (x ∷ kept) kept) other ∙ ap (λ ys. x ∷ ys) (all_kept m xs a.1)

pub above_first : (n : ℕ) (xs : List Message) (place : ℕ) (m : Message) →
    AllByRecursion (λ (y : Message). n < y.number) xs → slice_get xs place ≡ Some m → n < m.number
above_first n [] place m a e = absurd cc
above_first n (x ∷ xs) zero m a e = let same : x ≡ m = cc in subst (λ (y : Message). n < y.number) same a.0
above_first n (x ∷ xs) (suc place) m a e = above_first n xs place m a.1 e

-- In a list with rising numbers, leaving out a message's number removes its place.
pub filter-remove : (xs : List Message) (place : ℕ) (m : Message) → Rises xs → slice_get xs place ≡ Some m →
    filter (λ (x : Message). not (has_number x.number (m ∷ []))) xs ≡ remove xs place
filter-remove [] place m r e = absurd cc
filter-remove (x ∷ xs) zero m r e =
    let same : x ≡ m = cc in
    let kept : List Message = filter (λ (y : Message). not (has_number y.number (m ∷ []))) xs in
    let gone : (m.number == x.number) ≡ true =
    subst (λ (y : Message). (y.number == x.number) ≡ true) same (search (rules, nat_tests)) in
    ap (λ t. cond (not (t || false)) (x ∷ kept) kept) gone
    ∙ all_kept m xs (subst (λ (y : Message). AllByRecursion (λ (z : Message). y.number < z.number) xs) same r.0)
filter-remove (x ∷ xs) (suc place) m r e =
    let below : x.number < m.number = above_first x.number xs place m r.0 e in
    let kept : List Message = filter (λ (y : Message). not (has_number y.number (m ∷ []))) xs in
    let stays : (m.number == x.number) ≡ false = grind (arith, nat_tests, below) in
    ap (λ t. cond (not (t || false)) (x ∷ kept) kept) stays
    ∙ ap (λ ys. x ∷ ys) (filter-remove xs place m r.1 e)
