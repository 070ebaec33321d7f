-- The words after `--as`.
use Rattle.std.proofs.Common.{◌≡◌, ◌≢◌, ◌∙◌, ℕ, zero, suc, ◌+◌, ◌<◌, ◌≤◌, List, [], ◌∷◌, ◌++◌, length, take, drop}
use Rattle.std.proofs.Common.{Bool, true, false, Option, Some, None, ap, ap₂, arith, refl, sym, subst, subst₂}
use Rattle.std.proofs.lemmas.List.{length-map, take-append-drop}
use Rattle.std.proofs.lemmas.Str.Pattern.{NoCharPasses-char, drop_at_char}
use Rattle.std.specs.Borrow.{Bor}
use Rattle.std.specs.Char.{digit_value}
use Rattle.std.specs.Prelude.{◌==◌, Contains, MatchOption, if◌then◌else◌, map, slice_index_or}
use Rattle.std.specs.Str.{NoCharPasses}
use Rattle.std.specs.Str.Parse.{AllDigits}
use Rattle.std.specs.Str.Pattern.{RFindsChar, SplitsAroundMatch}
use Rattle.clap.specs.Words.{Row}
use Rattle.sysv_words.specs.OneSplit.{OneSplit}
use Rattle.sysv_words.specs.Words.{IsNat64, SplitsAt}
use Rattle.sysv_words.proofs.OneValue.{each_word}
use Rattle.sysv_options.specs.declared.sockets.Entrance.{Entrance}
use Rattle.sysv_options.specs.declared.sockets.Entrances.{Entrances}
use Rattle.sysv_options.specs.Servers.{AreBoth, AreEntrances, AreIds, AreOthers, IsEntrance, SplitsAtLast}
use Rattle.sysv_options.specs.Sockets.{listed}
use Rattle.sysv_options.specs.Words.{HasOr, IsExactly, IsUnsigned}

-- ---- what a text has

any_default : (xs : List ℕ) (k d e : ℕ) → k < length xs → slice_index_or xs k d ≡ slice_index_or xs k e
any_default [] k d e low = absurd (omega (arith, low))
any_default (x ∷ xs) zero d e low = refl
any_default (x ∷ xs) (suc k) d e low = any_default xs k d e (omega (arith, low))

in_middle : (xs ys : List ℕ) (m : ℕ) → Contains (xs ++ m ∷ ys) m
in_middle [] ys m = (0, omega arith, refl)
in_middle (x ∷ xs) ys m = let rest = in_middle xs ys m in (suc rest.0, omega (arith, rest.1), rest.2)

heads : (x y : ℕ) (xs ys : List ℕ) → x ∷ xs ≡ y ∷ ys → x ≡ y
heads x y xs ys same = cc same

tails : (x y : ℕ) (xs ys : List ℕ) → x ∷ xs ≡ y ∷ ys → xs ≡ ys
tails x y xs ys same = cc same

-- The parts around the last mark are determined.
last_once : (m : ℕ) (p q x y : List ℕ) → p ++ m ∷ x ≡ q ++ m ∷ y → (Contains x m → ⊥) → (Contains y m → ⊥) →
    (p ≡ q) × (x ≡ y)
last_once m [] [] x y same no_x no_y = (refl, tails m m x y same)
last_once m [] (b ∷ q) x y same no_x no_y =
    absurd (no_x (subst (λ (l : List ℕ). Contains l m) (sym (tails m b x (q ++ m ∷ y) same)) (in_middle q y m)))
last_once m (a ∷ p) [] x y same no_x no_y =
    absurd (no_y (subst (λ (l : List ℕ). Contains l m) (tails a m (p ++ m ∷ x) y same) (in_middle p x m)))
last_once m (a ∷ p) (b ∷ q) x y same no_x no_y =
    let rest = last_once m p q x y (tails a b (p ++ m ∷ x) (q ++ m ∷ y) same) no_x no_y in
    (ap₂ (λ (h : ℕ) (t : List ℕ). h ∷ t) (heads a b (p ++ m ∷ x) (q ++ m ∷ y) same) rest.0, rest.1)

lacks_both : (m y : ℕ) (xs ys : List ℕ) → (Contains xs m → ⊥) → y ≢ m → (Contains ys m → ⊥) →
    Contains (xs ++ y ∷ ys) m → ⊥
lacks_both m y [] ys no_x other no_y (zero, low, is) = other is
lacks_both m y [] ys no_x other no_y (suc k, low, is) = no_y (k, omega (arith, low), is)
lacks_both m y (x ∷ xs) ys no_x other no_y (zero, low, is) = no_x (0, omega arith, is)
lacks_both m y (x ∷ xs) ys no_x other no_y (suc k, low, is) =
    lacks_both m y xs ys (λ has. no_x (suc has.0, omega (arith, has.1), has.2)) other no_y (k, omega (arith, low), is)

-- Digits are no mark.
digits_lack : (m : ℕ) (ds : List ℕ) → 10 ≤ digit_value m → AllDigits 10 ds → Contains ds m → ⊥
digits_lack m [] high digits (k, low, is) = absurd (omega (arith, low))
digits_lack m (d ∷ ds) high digits (zero, low, is) = absurd (omega (arith, ap digit_value is, digits.0, high))
digits_lack m (d ∷ ds) high digits (suc k, low, is) = digits_lack m ds high digits.1 (k, omega (arith, low), is)

digits_of : (word : List ℕ) (number : ℕ) → IsUnsigned word number → AllDigits 10 word
digits_of word number is =
    subst (λ (b : Bool). AllDigits 10 (if b then drop 1 word else word)) is.0 is.1.0.0.1

ids_lack : (text : List ℕ) (ids : ℕ × ℕ) → AreIds text ids → Contains text 61 → ⊥
ids_lack text ids are has =
    lacks_both 61 58 are.user are.group
    (digits_lack 61 are.user (omega arith) (digits_of are.user ids.0 are.both.0)) (omega arith)
    (digits_lack 61 are.group (omega arith) (digits_of are.group ids.1 are.both.1))
    (subst (λ (l : List ℕ). Contains l 61) are.split.whole has)

-- ---- the last mark of a text

lacks_char : (m : ℕ) (text : List ℕ) → m < 128 → NoCharPasses (λ d. d == m) text → Contains text m → ⊥
lacks_char m text small none (k, low, is) =
    NoCharPasses-char m text k none small low (any_default text k 0 m low ∙ is)

splits_last : (m : ℕ) (text front back : List ℕ) → m < 128 → SplitsAroundMatch (RFindsChar m) text front back →
    SplitsAtLast m text front back
splits_last m text front back small (i, j, (none, there), before, after, low, first, last) = record {
  whole = sym (take-append-drop i text)
      ∙ ap₂ (λ (one other : List ℕ). one ++ other) (sym before)
      (drop_at_char m text i j there small ∙ ap (λ (l : List ℕ). m ∷ l) (sym after));
  unmarked = subst (λ (l : List ℕ). Contains l m → ⊥) (sym after) (lacks_char m (drop j text) small none);
}

pub parted : (m : ℕ) (text : List ℕ) (r : Option (Bor (List ℕ) × Bor (List ℕ))) → m < 128 →
    MatchOption r (RFindsChar m text None) (λ x. SplitsAroundMatch (RFindsChar m) text x.0.now x.1.now) →
    MatchOption r (¬ Contains text m) (λ x. SplitsAtLast m text x.0.now x.1.now)
parted m text None small none = lacks_char m text small none
parted m text (Some x) small found = splits_last m text x.0.now x.1.now small found

-- ---- the user and the group

pub ids_of_parts : (law : OneSplit) (text user group : List ℕ) (r : Option (ℕ × ℕ)) → SplitsAt 58 text user group →
    MatchOption r ((ids : ℕ × ℕ) → ¬ AreBoth user group ids) (AreBoth user group) →
    MatchOption r ((ids : ℕ × ℕ) → ¬ AreIds text ids) (AreIds text)
ids_of_parts law text user group (Some ids) split both = record {
  user = user;
  group = group;
  split = split;
  both = both;
}
ids_of_parts law text user group None split none = λ ids are.
    let same = law.once 58 text are.user are.group user group are.split split in
    none ids (subst (λ (u : List ℕ). AreBoth u group ids) same.0
    (subst (λ (g : List ℕ). AreBoth are.user g ids) same.1 are.both))

pub no_ids : (law : OneSplit) (text : List ℕ) → ¬ Contains text 58 → (ids : ℕ × ℕ) → ¬ AreIds text ids
no_ids law text unmarked ids are = unmarked (law.marked 58 text are.user are.group are.split)

-- ---- lists of words

next : (n : ℕ) → suc n + 1 ≡ suc (n + 1)
next n = omega arith

pub at_map : (words : List (Bor (List ℕ))) (n : ℕ) (d : Bor (List ℕ)) → n < length words →
    slice_index_or (map (λ (word : Bor (List ℕ)). word.now) words) n [] ≡ (slice_index_or words n d).now
at_map [] n d low = absurd (omega (arith, low))
at_map (w ∷ words) zero d low = refl
at_map (w ∷ words) (suc n) d low = at_map words n d (omega (arith, low))

pub take_one : (words : List (List ℕ)) (n : ℕ) → n < length words →
    take (n + 1) words ≡ take n words ++ slice_index_or words n [] ∷ []
take_one [] n low = absurd (omega (arith, low))
take_one (w ∷ words) zero low = refl
take_one (w ∷ words) (suc n) low =
    ap (λ (k : ℕ). take k (w ∷ words)) (next n)
    ∙ ap (λ (l : List (List ℕ)). w ∷ l) (take_one words n (omega (arith, low)))

-- ---- a flag

pub same_flag : (found : Option (List ℕ)) (one other : Bool) → IsExactly found one → IsExactly found other →
    one ≡ other
same_flag found true true first second = refl
same_flag found true false first second = absurd (second.1 refl (first.0 refl))
same_flag found false true first second = absurd (first.1 refl (second.0 refl))
same_flag found false false first second = refl

-- A number of sessions is determined by its word.
pub same_sessions : (found : Option (List ℕ)) (one other : ℕ) → HasOr IsNat64 0 found one →
    HasOr IsNat64 0 found other → one ≡ other
same_sessions (Some word) one other first second = each_word.nat64.once word one other first second
same_sessions None one other first second = first ∙ sym second

-- ---- a socket

module _ (words : List Row) where
  pub unmarked_is_none : (word : List ℕ) → ¬ Contains word 61 → (entrance : Entrance) →
      ¬ IsEntrance words word entrance
  unmarked_is_none word unmarked entrance is =
      unmarked (subst (λ (l : List ℕ). Contains l 61) (sym is.split) (in_middle entrance.file.path.now is.text 61))

  -- The parts of a word that names a socket are those around its last `=`.
  pub parts_of : (word path text : List ℕ) → SplitsAtLast 61 word path text → (entrance : Entrance) →
      (is : IsEntrance words word entrance) → (path ≡ entrance.file.path.now) × (text ≡ is.text)
  parts_of word path text split entrance is =
      last_once 61 path entrance.file.path.now text is.text (sym split.whole ∙ is.split) split.unmarked
      (ids_lack is.text (is.uid, is.gid) is.ids)

  pub ids_are : (word path text : List ℕ) → SplitsAtLast 61 word path text → (entrance : Entrance) →
      (is : IsEntrance words word entrance) → AreIds text (is.uid, is.gid)
  ids_are word path text split entrance is =
      subst (λ (l : List ℕ). AreIds l (is.uid, is.gid)) (sym (parts_of word path text split entrance is).1) is.ids

  -- ---- all sockets

  pub one_more : (given : List (List ℕ)) (word : List ℕ) (entrances : List Entrance) (entrance : Entrance) →
      AreEntrances words given entrances → IsEntrance words word entrance →
      AreEntrances words (given ++ word ∷ []) (entrances ++ entrance ∷ [])
  one_more [] word [] entrance are is = (is, tt)
  one_more [] word (e ∷ entrances) entrance are is = absurd are
  one_more (w ∷ given) word [] entrance are is = absurd are
  one_more (w ∷ given) word (e ∷ entrances) entrance are is =
      (are.0, one_more given word entrances entrance are.1 is)

  pub as_many : (given : List (List ℕ)) (entrances : List Entrance) → AreEntrances words given entrances →
      length entrances ≡ length given
  as_many [] [] are = refl
  as_many [] (e ∷ entrances) are = absurd are
  as_many (w ∷ given) [] are = absurd are
  as_many (w ∷ given) (e ∷ entrances) are = ap suc (as_many given entrances are.1)

  -- All sockets of some words are as many.
  pub same_count : (given : List (List ℕ)) (one other : Entrances) → AreOthers words given one →
      AreOthers words given other → one.count ≡ other.count
  same_count given one other first second =
      first.count ∙ (as_many given (listed one) first.entrances
      ∙ (sym (as_many given (listed other) second.entrances) ∙ sym second.count))

  -- Each word names a socket.
  pub named_at : (given : List (List ℕ)) (entrances : List Entrance) (n : ℕ) (d : List ℕ) → n < length given →
      AreEntrances words given entrances → (entrance : Entrance) × IsEntrance words (slice_index_or given n d) entrance
  named_at [] entrances n d low are = absurd (omega (arith, low))
  named_at (w ∷ given) [] n d low are = absurd are
  named_at (w ∷ given) (e ∷ entrances) zero d low are = (e, are.0)
  named_at (w ∷ given) (e ∷ entrances) (suc n) d low are = named_at given entrances n d (omega (arith, low)) are.1

  pub named_in : (given : List (Bor (List ℕ))) (n : ℕ) (d : Bor (List ℕ)) (entrances : List Entrance) →
      n < length given → AreEntrances words (map (λ (word : Bor (List ℕ)). word.now) given) entrances →
      (entrance : Entrance) × IsEntrance words (slice_index_or given n d).now entrance
  named_in given n d entrances low are =
      let long = length-map given (λ (word : Bor (List ℕ)). word.now) in
      let named = named_at (map (λ (word : Bor (List ℕ)). word.now) given) entrances n [] (omega (arith, long, low)) are
      in
      (named.0, subst (λ (l : List ℕ). IsEntrance words l named.0) (at_map given n d low) named.1)

  -- One word more names one socket more.
  pub goes_on : (given : List (Bor (List ℕ))) (n : ℕ) (d : Bor (List ℕ)) (old new : List Entrance)
      (entrance : Entrance) → n < length given →
      AreEntrances words (take n (map (λ (word : Bor (List ℕ)). word.now) given)) old →
      IsEntrance words (slice_index_or given n d).now entrance → new ≡ old ++ entrance ∷ [] →
      AreEntrances words (take (n + 1) (map (λ (word : Bor (List ℕ)). word.now) given)) new
  goes_on given n d old new entrance low are is added =
      let all : List (List ℕ) = map (λ (word : Bor (List ℕ)). word.now) given in
      let long = length-map given (λ (word : Bor (List ℕ)). word.now) in
      let more = take_one all n (omega (arith, long, low))
      ∙ ap (λ (l : List ℕ). take n all ++ l ∷ []) (at_map given n d low) in
      subst₂ (λ (ws : List (List ℕ)) (es : List Entrance). AreEntrances words ws es) (sym more) (sym added)
      (one_more (take n all) (slice_index_or given n d).now old entrance are is)
