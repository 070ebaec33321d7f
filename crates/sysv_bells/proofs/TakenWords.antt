-- What the sleeper has after it has taken words.
use Rattle.std.proofs.Common.{◌≡◌, ◌≢◌, inl, inr, ℕ, zero, suc, ◌+◌, ◌-◌, List, [], ◌∷◌, ◌++◌, get_or, set, length, ◌≤◌}
use Rattle.std.proofs.Common.{bit_or}
use Rattle.std.proofs.Common.{sym, refl, ap, ◌∙◌, arith, append_assoc}
use Rattle.std.proofs.lemmas.List.{set-get_or}
use Rattle.std.proofs.lemmas.Nat.Bits.{same_from_bits, bit_at_or, bit_at-zero}
use Rattle.atomic_table.specs.Seated.{TableId}
use Rattle.sysv_bells.specs.declared.view.View.{View}
use Rattle.sysv_bells.specs.declared.view.Taking.{Taking}
use Rattle.sysv_bells.specs.Seats.{SleeperEnd, read_to, TookAt, with_bits, joined}
use Rattle.sysv_bells.specs.Steps.{passing, passed, taking}

-- What contracts see of the sleeper with this view.
abbrev pub end_of : TableId → View → SleeperEnd
end_of table v = record {
  table = table;
  stage = v.stage;
  rings = v.rings;
  from = v.from;
  heard = v.heard;
  seen = v.seen;
  since = v.since;
  taken = v.taken;
}

pub took : (table table' : TableId) (v v' v'' : View) (word n bits : ℕ) → v' ≡ passing n v → n ≢ 0
    → v'' ≡ taking word bits v' → v.from ≡ word → table' ≡ table
    → end_of table' v'' ≡ read_to (word + 1) (record { word = word; bits = bits } ∷ []) (end_of table v)
took table table' v v' v'' word zero bits passed some_bit taken next same = absurd (some_bit refl)
took table table' v v' v'' word (suc n) bits passed some_bit taken next same =
    let more : List Taking = record { word = word; bits = bits } ∷ [] in
    let from : suc v.from ≡ word + 1 = omega arith in
    let moved : end_of table (taking word bits v) ≡ read_to (word + 1) more (end_of table v) =
    ap (λ (k : ℕ). read_to k more (end_of table v)) from in
    ap (λ (z : TableId). end_of z v'') same
    ∙ ap (λ (u : View). end_of table u) (taken ∙ ap (λ (u : View). taking word bits u) passed) ∙ moved

joined_both : (xs ys : List Taking) (changes : List ℕ) → joined (xs ++ ys) changes ≡ joined ys (joined xs changes)
joined_both [] ys changes = refl
joined_both (x ∷ xs) ys changes = joined_both xs ys (with_bits (x.word - 2) x.bits changes)

no_bits : (n : ℕ) → bit_or n 0 ≡ n
no_bits n = same_from_bits (bit_or n 0) n (λ i. bit_at_or n 0 i ∙ (let z = bit_at-zero i in omega arith))

-- The words that come to a list by a read of one word.
joins_word : (word bits : ℕ) (more : List Taking) (changes : List ℕ) → TookAt word bits more →
    with_bits (word - 2) bits changes ≡ joined more changes
joins_word word bits more changes (inl none) =
    ap (λ (b : ℕ). with_bits (word - 2) b changes) none.1
    ∙ ap (λ (b : ℕ). set changes (word - 2) b) (no_bits (get_or changes (word - 2) 0))
    ∙ set-get_or changes (word - 2) 0 ∙ ap (λ (l : List Taking). joined l changes) (sym none.0)
joins_word word bits more changes (inr one) = ap (λ (l : List Taking). joined l changes) (sym one)

pub past_end : (xs : List ℕ) (i b : ℕ) → length xs ≤ i → set xs i b ≡ xs
past_end [] i b past = refl
past_end (x ∷ xs) zero b past = absurd (omega arith)
past_end (x ∷ xs) (suc i) b past = ap (λ (l : List ℕ). x ∷ l) (past_end xs i b (omega arith))

-- The sleeper has read up to this word.
abbrev pub HasRead : SleeperEnd → List ℕ → ℕ → SleeperEnd → List ℕ → Type 0
HasRead h changes word h' changes' =
    (more : List Taking) × (h' ≡ read_to word more h) × (changes' ≡ joined more changes)

pub reads_on : (h h' h'' : SleeperEnd) (changes changes' changes'' : List ℕ) (word bits : ℕ)
    → HasRead h changes word h' changes'
    → ((more : List Taking) × (h'' ≡ read_to (word + 1) more h') × TookAt word bits more)
    → changes'' ≡ with_bits (word - 2) bits changes'
    → HasRead h changes (word + 1) h'' changes''
reads_on h h' h'' changes changes' changes'' word bits so_far next now = (
  so_far.0 ++ next.0,
  next.1 ∙ ap (λ (k : SleeperEnd). read_to (word + 1) next.0 k) so_far.1
      ∙ ap (λ (l : List Taking). record h { from = word + 1; taken = l }) (append_assoc h.taken so_far.0 next.0),
  now ∙ ap (λ (l : List ℕ). with_bits (word - 2) bits l) so_far.2
      ∙ joins_word word bits next.0 (joined so_far.0 changes) next.2
      ∙ sym (joined_both so_far.0 next.0 changes),
)

-- A look at a word that is not 0 has not read it.
pub still_next : (n from : ℕ) → n ≢ 0 → passed n from ≡ from
still_next zero from some_bit = absurd (some_bit refl)
still_next (suc n) from some_bit = refl
