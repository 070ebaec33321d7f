-- How many places are in the lines of each word, as one is put into a line or taken out.
use Rattle.std.proofs.Common.{◌≡◌, ◌≢◌, ◌∙◌, ℕ, ◌-◌, ◌*◌, ◌^◌, ◌<◌, cond, List, Option, None, Some, length, get_or, set}
use Rattle.std.proofs.Common.{sym, ap, arith, inl, inr, get_or-set_same, get_or-set_other}
use Rattle.std.specs.Prelude.{replicate}
use Rattle.std.specs.List.{count_by}
use Rattle.std.proofs.lemmas.Bool.{cases_eq}
use Rattle.std.proofs.lemmas.List.Folds.{sum_by-replicate}
use Rattle.std.proofs.lemmas.List.Sums.{count_by-le-length, sum_by-set}
use Rattle.sysv_parking.specs.declared.key.Key.{Key}
use Rattle.sysv_parking.specs.declared.key.Key.TheVariants.{Message, Room, Blocks, Settled}
use Rattle.sysv_parking.specs.declared.key.TheConstants.{WORDS}
use Rattle.sysv_parking.specs.Keys.{bounded_sum, word_of}
use Rattle.sysv_parking.specs.Parking.{is_of_word}
use Rattle.sysv_parking.proofs.Marks.{is_one, is_zero}

-- Each key has a word.
word_within : (key : Key) → word_of key < WORDS
word_within (Message caller selector) = omega arith
word_within (Room caller length) = omega arith
word_within (Blocks caller length) = omega arith
word_within Settled = omega arith

abbrev one_of : ℕ → Option Key → ℕ
one_of word k = cond {A = ℕ} (is_of_word word k) 1 0

-- No place has a key.
pub none_parked : (word : ℕ) (keys : List (Option Key)) (n : ℕ) → keys ≡ replicate n None →
    0 ≡ count_by (is_of_word word) keys
none_parked word keys n is =
    let e : count_by (is_of_word word) keys ≡ n * 0 =
    ap (count_by (is_of_word word)) is ∙ sum_by-replicate (one_of word) n None in
    omega arith

module _ (keys : List (Option Key)) (counts : List ℕ) (place : ℕ) (key : Key) (low : place < length keys) where
  -- The count of the word of the key, with one place more or one less.
  abbrev one_more : ℕ
  one_more = bounded_sum (get_or counts (word_of key) 0) 1

  abbrev one_less : ℕ
  one_less = get_or counts (word_of key) 0 - 1

  more_here : get_or keys place None ≡ None → length keys < 2 ^ 63 → length counts ≡ WORDS →
      ((word : ℕ) → get_or counts word 0 ≡ count_by (is_of_word word) keys) →
      (word : ℕ) → word ≡ word_of key → get_or (set counts (word_of key) one_more) word 0
      ≡ count_by (is_of_word word) (set keys place (Some key))
  more_here none short words are word same =
      let wide : word_of key < length counts = let w = word_within key in omega arith in
      let now : get_or (set counts (word_of key) one_more) word 0 ≡ one_more =
      ap (λ n. get_or (set counts (word_of key) one_more) n 0) same
      ∙ get_or-set_same counts (word_of key) one_more 0 wide in
      let was : get_or counts (word_of key) 0 ≡ count_by (is_of_word word) keys =
      ap (λ n. get_or counts n 0) (sym same) ∙ are word in
      let few = count_by-le-length (is_of_word word) keys in
      let e = sum_by-set (one_of word) keys place (Some key) None low in
      let zero : one_of word (get_or keys place None) ≡ 0 = ap (one_of word) none in
      let one : one_of word (Some key) ≡ 1 = is_one (word_of key) word (sym same) in
      omega arith

  more_elsewhere : get_or keys place None ≡ None →
      ((word : ℕ) → get_or counts word 0 ≡ count_by (is_of_word word) keys) →
      (word : ℕ) → word ≢ word_of key → get_or (set counts (word_of key) one_more) word 0
      ≡ count_by (is_of_word word) (set keys place (Some key))
  more_elsewhere none are word differ =
      let now = get_or-set_other counts (word_of key) word one_more 0 differ in
      let was = are word in
      let e = sum_by-set (one_of word) keys place (Some key) None low in
      let zero : one_of word (get_or keys place None) ≡ 0 = ap (one_of word) none in
      let none_more : one_of word (Some key) ≡ 0 = is_zero (word_of key) word (λ q. differ (sym q)) in
      omega arith

  less_here : get_or keys place None ≡ Some key → length counts ≡ WORDS →
      ((word : ℕ) → get_or counts word 0 ≡ count_by (is_of_word word) keys) →
      (word : ℕ) → word ≡ word_of key → get_or (set counts (word_of key) one_less) word 0
      ≡ count_by (is_of_word word) (set keys place None)
  less_here some words are word same =
      let wide : word_of key < length counts = let w = word_within key in omega arith in
      let now : get_or (set counts (word_of key) one_less) word 0 ≡ one_less =
      ap (λ n. get_or (set counts (word_of key) one_less) n 0) same
      ∙ get_or-set_same counts (word_of key) one_less 0 wide in
      let was : get_or counts (word_of key) 0 ≡ count_by (is_of_word word) keys =
      ap (λ n. get_or counts n 0) (sym same) ∙ are word in
      let e = sum_by-set (one_of word) keys place None None low in
      let one : one_of word (get_or keys place None) ≡ 1 =
      ap (one_of word) some ∙ is_one (word_of key) word (sym same) in
      omega arith

  less_elsewhere : get_or keys place None ≡ Some key →
      ((word : ℕ) → get_or counts word 0 ≡ count_by (is_of_word word) keys) →
      (word : ℕ) → word ≢ word_of key → get_or (set counts (word_of key) one_less) word 0
      ≡ count_by (is_of_word word) (set keys place None)
  less_elsewhere some are word differ =
      let now = get_or-set_other counts (word_of key) word one_less 0 differ in
      let was = are word in
      let e = sum_by-set (one_of word) keys place None None low in
      let zero : one_of word (get_or keys place None) ≡ 0 =
      ap (one_of word) some ∙ is_zero (word_of key) word (λ q. differ (sym q)) in
      omega arith

  -- One place more has a key.
  pub counted_more : get_or keys place None ≡ None → length keys < 2 ^ 63 → length counts ≡ WORDS →
      ((word : ℕ) → get_or counts word 0 ≡ count_by (is_of_word word) keys) →
      (word : ℕ) → get_or (set counts (word_of key) one_more) word 0
      ≡ count_by (is_of_word word) (set keys place (Some key))
  counted_more none short words are word = elim (cases_eq word (word_of key)) [
    | inl same ↦ more_here none short words are word same
    | inr differ ↦ more_elsewhere none are word differ
  ]

  -- One place less has a key.
  pub counted_less : get_or keys place None ≡ Some key → length counts ≡ WORDS →
      ((word : ℕ) → get_or counts word 0 ≡ count_by (is_of_word word) keys) →
      (word : ℕ) → get_or (set counts (word_of key) one_less) word 0
      ≡ count_by (is_of_word word) (set keys place None)
  counted_less some words are word = elim (cases_eq word (word_of key)) [
    | inl same ↦ less_here some words are word same
    | inr differ ↦ less_elsewhere some are word differ
  ]
