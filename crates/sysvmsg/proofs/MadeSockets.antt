-- The sockets of a server are made one after another.
use Rattle.std.proofs.Common.{◌≡◌, ◌∙◌, ℕ, zero, suc, ◌+◌, ◌-◌, ◌<◌, ◌≤◌, List, [], ◌∷◌, ◌++◌, None, Some}
use Rattle.std.proofs.Common.{Bool, true, false, cond, is_some, length, map, option_map, take, take_all, length-take}
use Rattle.std.proofs.Common.{ap, append-nil, arith, refl, subst, sym}
use Rattle.std.specs.Prelude.{slice_get}
use Rattle.std.specs.List.{AllByRecursion, enumerate_from}
use Rattle.std.proofs.lemmas.List.{length-map, map_push, take_more}
use Rattle.std.proofs.lemmas.List.FromFn.{length-enumerate_from}
use Rattle.std.proofs.lemmas.Option.{get_or_from_slice_get, slice_get-map, slice_get_within}
use Rattle.sysv_options.specs.declared.asked.Serving.{Serving}
use Rattle.sysv_options.specs.declared.sockets.Entrance.{Entrance}
use Rattle.sysv_options.specs.Sockets.{callers_let_in, common_let_in, sockets_of}
use Rattle.sysv_seats.specs.declared.callers.Callers.{Callers}
use Rattle.sysv_seats.specs.declared.callers.Callers.TheVariants.{Only}
use Rattle.sysv_server.specs.declared.listening.Hosted.{Hosted}
use Rattle.sysv_server.specs.LetIn.{callers_at, number_at}
use Rattle.sysv_server.specs.Listening.{has_opened}
use Rattle.sysvmsg.specs.Sockets.{AreClosed, AreSocketsFor, numbered}

-- ---- lists

from_zero : (k : ℕ) → k ≡ 0 + k
from_zero k = omega arith

none_more : (k : ℕ) → k ≡ k + 0
none_more k = omega arith

one_later : (k n : ℕ) → (k + 1) + n ≡ k + suc n
one_later k n = omega arith

module _ {A : Type 0} where
  all_pushed : (P : A → Type 0) (xs : List A) (x : A) → AllByRecursion P xs → P x → AllByRecursion P (xs ++ x ∷ [])
  all_pushed P [] x all one = (one, tt)
  all_pushed P (y ∷ xs) x all one = (all.0, all_pushed P xs x all.1 one)

  take_next : (xs : List A) (n : ℕ) (x : A) → slice_get xs n ≡ Some x → take (n + 1) xs ≡ take n xs ++ x ∷ []
  take_next xs n x is =
      take_more xs n x (slice_get_within xs n x is)
      ∙ ap (λ (y : A). take n xs ++ y ∷ []) (get_or_from_slice_get xs n x x is)

  past : (xs : List A) (n : ℕ) → slice_get xs n ≡ None → length xs ≤ n
  past [] n is = omega arith
  past (x ∷ xs) zero is = absurd (cc is)
  past (x ∷ xs) (suc n) is = omega (arith, past xs n is)

  enumerate_pushed : (first : ℕ) (xs : List A) (x : A) →
      enumerate_from first (xs ++ x ∷ []) ≡ enumerate_from first xs ++ (first + length xs, x) ∷ []
  enumerate_pushed first [] x = ap (λ (k : ℕ). (k, x) ∷ []) (none_more first)
  enumerate_pushed first (y ∷ xs) x =
      ap (λ (l : List (ℕ × A)). (first, y) ∷ l)
      (enumerate_pushed (first + 1) xs x
      ∙ ap (λ (k : ℕ). enumerate_from (first + 1) xs ++ (k, x) ∷ []) (one_later first (length xs)))

  -- Values with numbers, without these.
  plain : (first : ℕ) (xs : List A) → map (λ (p : ℕ × A). p.1) (enumerate_from first xs) ≡ xs
  plain first [] = refl
  plain first (x ∷ xs) = ap (λ (l : List A). x ∷ l) (plain (first + 1) xs)

-- ---- sockets

-- There are fewer left to make.
pub fewer_left : (serving : Serving) (n m : ℕ) (entrance : Entrance) →
    slice_get (sockets_of serving) n ≡ Some entrance → m ≡ n + 1 →
    length (sockets_of serving) - m < length (sockets_of serving) - n
fewer_left serving n m entrance there longer =
    let within = slice_get_within (sockets_of serving) n entrance there in
    omega (arith, within, longer)

module _ {H : Type 0} where
  counted : (callers : List Callers) (sockets : List (Hosted H)) → AreSocketsFor callers sockets →
      length sockets ≡ length callers
  counted callers sockets are =
      let long = length-map sockets numbered in
      let same = ap (length {A = ℕ × Callers}) are.1 in
      let whole = length-enumerate_from 0 callers in
      omega (arith, long, same, whole)

  -- One socket more.
  one_more : (callers : List Callers) (one : Callers) (sockets after : List (Hosted H)) (hosted : Hosted H) →
      AreSocketsFor callers sockets → has_opened hosted ≡ false → number_at hosted ≡ length callers →
      callers_at hosted ≡ one → after ≡ sockets ++ hosted ∷ [] → AreSocketsFor (callers ++ one ∷ []) after
  one_more callers one sockets after hosted are closed number is pushed = (
    subst AreClosed (sym pushed)
        (all_pushed (λ (h : Hosted H). has_opened h ≡ false) sockets hosted are.0 closed),
    ap (map numbered) pushed
        ∙ (map_push numbered sockets hosted
        ∙ (ap (λ (l : List (ℕ × Callers)). l ++ numbered hosted ∷ []) are.1
        ∙ (ap (λ (k : ℕ). enumerate_from 0 callers ++ (k, callers_at hosted) ∷ [])
        (number ∙ from_zero (length callers))
        ∙ (ap (λ (c : Callers). enumerate_from 0 callers ++ (0 + length callers, c) ∷ []) is
        ∙ sym (enumerate_pushed 0 callers one))))),
  )

  module _ (serving : Serving) where
    -- The next one of those that are opened together.
    pub next_made : (n m : ℕ) (sockets after : List (Hosted H)) (hosted : Hosted H) (entrance : Entrance) →
        AreSocketsFor (take n (common_let_in serving)) sockets → slice_get (sockets_of serving) n ≡ Some entrance →
        has_opened hosted ≡ false → number_at hosted ≡ n → callers_at hosted ≡ entrance.callers →
        after ≡ sockets ++ hosted ∷ [] → m ≡ n + 1 → AreSocketsFor (take m (common_let_in serving)) after
    next_made n m sockets after hosted entrance are there closed number is pushed longer =
        subst (λ (l : List Callers). AreSocketsFor l after)
        (sym (ap (λ (k : ℕ). take k (common_let_in serving)) longer
        ∙ take_next (common_let_in serving) n entrance.callers here))
        (one_more (take n (common_let_in serving)) entrance.callers sockets after hosted are closed
        (number ∙ long) is pushed)
      where
        here : slice_get (common_let_in serving) n ≡ Some entrance.callers
        here =
            slice_get-map (λ (e : Entrance). e.callers) (sockets_of serving) n
            ∙ ap (option_map (λ (e : Entrance). e.callers)) there

        long : n ≡ length (take n (common_let_in serving))
        long =
            let within = slice_get_within (common_let_in serving) n entrance.callers here in
            let taken = length-take n (common_let_in serving) in
            omega (arith, within, taken)

    -- There are no more of these.
    pub common_made : (n : ℕ) (sockets : List (Hosted H)) → AreSocketsFor (take n (common_let_in serving)) sockets →
        slice_get (sockets_of serving) n ≡ None → AreSocketsFor (common_let_in serving) sockets
    common_made n sockets are none =
        subst (λ (l : List Callers). AreSocketsFor l sockets) (take_all n (common_let_in serving) few) are
      where
        few : length (common_let_in serving) ≤ n
        few =
            let long = length-map (sockets_of serving) (λ (e : Entrance). e.callers) in
            let most = past (sockets_of serving) n none in
            omega (arith, long, most)

    -- The one at which sessions are served alone, if there is one.
    pub none_alone : (sockets : List (Hosted H)) → is_some serving.alone ≡ false →
        AreSocketsFor (common_let_in serving) sockets → AreSocketsFor (callers_let_in serving) sockets
    none_alone sockets none are =
        subst (λ (l : List Callers). AreSocketsFor l sockets)
        (sym (ap (λ (b : Bool). common_let_in serving ++ cond b (Only 0 0 ∷ []) []) none
        ∙ append-nil (common_let_in serving))) are

    pub one_alone : (sockets after : List (Hosted H)) (hosted : Hosted H) → is_some serving.alone ≡ true →
        AreSocketsFor (common_let_in serving) sockets → has_opened hosted ≡ false →
        number_at hosted ≡ length sockets → callers_at hosted ≡ Only 0 0 → after ≡ sockets ++ hosted ∷ [] →
        AreSocketsFor (callers_let_in serving) after
    one_alone sockets after hosted one are closed number is pushed =
        subst (λ (b : Bool). AreSocketsFor (common_let_in serving ++ cond b (Only 0 0 ∷ []) []) after) (sym one)
        (one_more (common_let_in serving) (Only 0 0) sockets after hosted are closed
        (number ∙ counted (common_let_in serving) sockets are) is pushed)

  -- ---- what they let in

  unnumbered : (sockets : List (Hosted H)) →
      map callers_at sockets ≡ map (λ (p : ℕ × Callers). p.1) (map numbered sockets)
  unnumbered [] = refl
  unnumbered (s ∷ sockets) = ap (λ (l : List Callers). callers_at s ∷ l) (unnumbered sockets)

  pub they_let_in : (callers : List Callers) (sockets : List (Hosted H)) → AreSocketsFor callers sockets →
      map callers_at sockets ≡ callers
  they_let_in callers sockets are =
      unnumbered sockets ∙ (ap (map (λ (p : ℕ × Callers). p.1)) are.1 ∙ plain 0 callers)
