-- Shares that are together the whole, and why they stay so when one is halved or when they are
-- listed in another order.
use Rattle.std.proofs.Common.{◌≡◌, ℕ, zero, suc, ◌+◌, ◌-◌, ◌*◌, ◌^◌, ◌≤◌, List, [], ◌∷◌, ◌++◌, map, refl, sym, ap}
use Rattle.std.proofs.Common.{subst, ◌∙◌, arith}
use Rattle.std.specs.List.{All}
use Rattle.std.proofs.Math.Nat.{pow-suc}
use Rattle.std.proofs.lemmas.List.Elements.{All-cons, All-nil, All-head, All-tail, All-append, All-map, All-weaker}
use Rattle.std.proofs.lemmas.List.Sums.{sum_by-cons, sum_by-append}
use Rattle.sysv_model.specs.Turn.{Op}
use Rattle.sysv_model.specs.Members.{Member, parts, AreWhole, Does, starts, sees, makes}

-- ---- lists

pub all_left : {X : Type 0} (P : X → Type 0) (xs ys : List X) → All P (xs ++ ys) → All P xs
all_left P [] ys a = All-nil P
all_left P (x ∷ xs) ys a = All-cons P x xs (All-head P x (xs ++ ys) a) (all_left P xs ys (All-tail P x (xs ++ ys) a))

pub all_right : {X : Type 0} (P : X → Type 0) (xs ys : List X) → All P (xs ++ ys) → All P ys
all_right P [] ys a = a
all_right P (x ∷ xs) ys a = all_right P xs ys (All-tail P x (xs ++ ys) a)

-- ---- parts

abbrev pub AtMost : ℕ → ℕ → Type 0
AtMost fine depth = depth ≤ fine

abbrev part : ℕ → ℕ → ℕ
part fine depth = 2 ^ (fine - depth)

parts-append : (fine : ℕ) (xs ys : List ℕ) → parts fine (xs ++ ys) ≡ parts fine xs + parts fine ys
parts-append fine xs ys = sum_by-append (part fine) xs ys

twice_part : (fine depth : ℕ) → depth ≤ fine → part (suc fine) depth ≡ 2 * part fine depth
twice_part fine depth low =
    let one_more : suc fine - depth ≡ suc (fine - depth) = omega arith in
    let twice : 2 ^ suc (fine - depth) ≡ 2 ^ (fine - depth) * 2 = pow-suc 2 (fine - depth) in
    let e : part (suc fine) depth ≡ 2 ^ suc (fine - depth) = ap (λ n. 2 ^ n) one_more in
    omega (arith, e, twice)

-- Parts of half the size are twice as many.
twice_parts : (fine : ℕ) (xs : List ℕ) → All (AtMost fine) xs → parts (suc fine) xs ≡ 2 * parts fine xs
twice_parts fine [] a = refl
twice_parts fine (x ∷ xs) a =
    omega (
      arith,
      sum_by-cons (part (suc fine)) x xs,
      sum_by-cons (part fine) x xs,
      twice_part fine x (All-head (AtMost fine) x xs a),
      twice_parts fine xs (All-tail (AtMost fine) x xs a),
    )

-- The number of halved shares, in parts of half the size, is the same.
parts_of_halves : (fine : ℕ) (xs : List ℕ) → parts (suc fine) (map suc xs) ≡ parts fine xs
parts_of_halves fine [] = refl
parts_of_halves fine (x ∷ xs) =
    let same : suc fine - suc x ≡ fine - x = omega arith in
    let e : part (suc fine) (suc x) ≡ part fine x = ap (λ n. 2 ^ n) same in
    omega (
      arith,
      sum_by-cons (part (suc fine)) (suc x) (map suc xs),
      sum_by-cons (part fine) x xs,
      e,
      parts_of_halves fine xs,
    )

-- Shares that are the whole in parts of one size are the whole in parts of any other size that is
-- at least as fine as each share.
abbrev IsWholeIn : List ℕ → ℕ → Type 0
IsWholeIn xs fine = parts fine xs ≡ 2 ^ fine

finer_whole : (k fine : ℕ) (xs : List ℕ) → All (AtMost fine) xs → IsWholeIn xs fine → IsWholeIn xs (k + fine)
finer_whole zero fine xs low w = subst (IsWholeIn xs) (omega arith) w
finer_whole (suc k) fine xs low w =
    let finer : All (AtMost (k + fine)) xs =
    All-weaker (AtMost fine) (AtMost (k + fine)) (λ x le. omega arith) xs low in
    let more : IsWholeIn xs (suc (k + fine)) =
    omega (arith, finer_whole k fine xs low w, twice_parts (k + fine) xs finer, pow-suc 2 (k + fine)) in
    subst (IsWholeIn xs) (omega arith) more

coarser_whole : (k fine : ℕ) (xs : List ℕ) → All (AtMost fine) xs → IsWholeIn xs (k + fine) → IsWholeIn xs fine
coarser_whole zero fine xs low w = subst (IsWholeIn xs) (omega arith) w
coarser_whole (suc k) fine xs low w =
    let finer : All (AtMost (k + fine)) xs =
    All-weaker (AtMost fine) (AtMost (k + fine)) (λ x le. omega arith) xs low in
    let more : IsWholeIn xs (suc (k + fine)) = subst (IsWholeIn xs) (omega arith) w in
    let less : IsWholeIn xs (k + fine) = omega (arith, more, twice_parts (k + fine) xs finer, pow-suc 2 (k + fine)) in
    coarser_whole k fine xs low less

pub whole_in_any : (xs : List ℕ) → AreWhole xs → (fine : ℕ) → All (AtMost fine) xs → parts fine xs ≡ 2 ^ fine
whole_in_any xs w fine low =
    let finest : IsWholeIn xs (fine + w.0) = finer_whole fine w.0 xs w.1 w.2 in
    coarser_whole w.0 fine xs low (subst (IsWholeIn xs) (omega arith) finest)

-- ---- what is done keeps the whole

pub all_at_first : AreWhole (0 ∷ [])
all_at_first = (0, All-cons (AtMost 0) 0 [] (omega arith) (All-nil (AtMost 0)), refl)

pub split_whole : (one rest : List ℕ) → AreWhole (one ++ rest) → AreWhole (map suc one ++ (map suc one ++ rest))
split_whole one rest w =
    let fine : ℕ = w.0 in
    let low : All (AtMost fine) one = all_left (AtMost fine) one rest w.1 in
    let low_rest : All (AtMost fine) rest = all_right (AtMost fine) one rest w.1 in
    let halves : All (AtMost (suc fine)) (map suc one) =
    All-map (AtMost (suc fine)) suc one
    (All-weaker (AtMost fine) (λ x. suc x ≤ suc fine) (λ x le. omega arith) one low) in
    let others : All (AtMost (suc fine)) rest =
    All-weaker (AtMost fine) (AtMost (suc fine)) (λ x le. omega arith) rest low_rest in
    let twice : 2 ^ suc fine ≡ 2 ^ fine * 2 = pow-suc 2 fine in (
      suc fine,
      All-append (AtMost (suc fine)) (map suc one) (map suc one ++ rest) halves
          (All-append (AtMost (suc fine)) (map suc one) rest halves others),
      omega (
        arith,
        w.2,
        twice,
        parts-append fine one rest,
        parts-append (suc fine) (map suc one) (map suc one ++ rest),
        parts-append (suc fine) (map suc one) rest,
        parts_of_halves fine one,
        twice_parts fine rest low_rest,
      ),
    )

pub turned_whole : (before one rest : List ℕ) → AreWhole (before ++ (one ++ rest)) → AreWhole (one ++ (before ++ rest))
turned_whole before one rest w =
    let fine : ℕ = w.0 in
    let low_before : All (AtMost fine) before = all_left (AtMost fine) before (one ++ rest) w.1 in
    let low_more : All (AtMost fine) (one ++ rest) = all_right (AtMost fine) before (one ++ rest) w.1 in
    let low_one : All (AtMost fine) one = all_left (AtMost fine) one rest low_more in
    let low_rest : All (AtMost fine) rest = all_right (AtMost fine) one rest low_more in (
      fine,
      All-append (AtMost fine) one (before ++ rest) low_one (All-append (AtMost fine) before rest low_before low_rest),
      omega (
        arith,
        w.2,
        parts-append fine before (one ++ rest),
        parts-append fine one rest,
        parts-append fine one (before ++ rest),
        parts-append fine before rest,
      ),
    )

-- ---- the passes

pub does_shares : {before after : Member} {ops : List Op} → Does before ops after → after.shares ≡ before.shares
does_shares starts = refl
does_shares (sees after done s) = ap (λ (p : Member). p.shares) s.goes_on ∙ does_shares done
does_shares (makes op after done m) = ap (λ (p : Member). p.shares) m.goes_on ∙ does_shares done
