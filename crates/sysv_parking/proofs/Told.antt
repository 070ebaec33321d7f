-- What a worker has after it has taken the words of its changes.
use Rattle.std.proofs.Common.{◌≡◌, ◌∙◌, ◌-◌, ◌/◌, ◌%◌, ◌<◌, ◌≤◌, ℕ, List, [], ◌∷◌, zero, suc, length, inl, inr}
use Rattle.std.proofs.Common.{arith, ap, sym, subst, bit_or}
use Rattle.std.specs.Prelude.{slice_index, slice_index_or, ◌⊎◌}
use Rattle.std.specs.Int.{bit_at}
use Rattle.std.proofs.lemmas.List.{get_or-set_same, length-set, set_past}
use Rattle.sysv_bells.specs.declared.view.Taking.{Taking}
use Rattle.sysv_bells.specs.Seats.{joined, with_bits}
use Rattle.sysv_parking.specs.declared.changes.Change.{Change}
use Rattle.sysv_parking.specs.declared.changes.Change.TheVariants.{Queue, Room, Blocks, Settled, Anything}
use Rattle.sysv_parking.specs.Changes.{AreHeld, HoldsOn, IsThere, number_of}
use Rattle.sysv_parking.proofs.Bits.{or_second, set_more}

within_or_past : (at most : ℕ) → (at < most) ⊎ (most ≤ at)
within_or_past at zero = inr (omega arith)
within_or_past zero (suc most) = inl (omega arith)
within_or_past (suc at) (suc most) =
    elim (within_or_past at most) [
      | inl low ↦ inl (omega (arith, low))
      | inr past ↦ inr (omega (arith, past))
    ]

-- The bits of a word are there after others were joined.
more_bits : (at bits : ℕ) (words : List ℕ) (k i : ℕ) → bit_at (slice_index words k) i ≡ 1
    → bit_at (slice_index (with_bits at bits words) k) i ≡ 1
more_bits at bits words k i is =
    elim (within_or_past at (length words)) [
      | inl there ↦ set_more words at there k i is bits
      | inr past ↦ subst (λ (all : List ℕ). bit_at (slice_index all k) i ≡ 1)
          (sym (set_past words at (bit_or (slice_index words at) bits) past)) is
    ]

pub joined_keeps : (more : List Taking) (words : List ℕ) (k i : ℕ) → bit_at (slice_index words k) i ≡ 1
    → bit_at (slice_index (joined more words) k) i ≡ 1
joined_keeps [] words k i is = is
joined_keeps (taking ∷ more) words k i is =
    joined_keeps more (with_bits (taking.word - 2) taking.bits words) k i
    (more_bits (taking.word - 2) taking.bits words k i is)

-- The bits that are joined are there.
new_bits : (at bits : ℕ) (words : List ℕ) (i : ℕ) → at < length words → bit_at bits i ≡ 1
    → bit_at (slice_index (with_bits at bits words) at) i ≡ 1
new_bits at bits words i there is =
    ap (λ (w : ℕ). bit_at w i) (get_or-set_same words at (bit_or (slice_index words at) bits) 0 there)
    ∙ or_second (slice_index words at) bits i is

joined_has : (more : List Taking) (words : List ℕ) (place i : ℕ) (taking : Taking) → place < length more
    → slice_index_or more place taking ≡ taking → taking.word - 2 < length words → bit_at taking.bits i ≡ 1
    → bit_at (slice_index (joined more words) (taking.word - 2)) i ≡ 1
joined_has [] words place i taking low is there has = absurd (omega (arith, low))
joined_has (first ∷ more) words zero i taking low is there has =
    joined_keeps more (with_bits (first.word - 2) first.bits words) (taking.word - 2) i
    (subst (λ (t : Taking). bit_at (slice_index (with_bits (t.word - 2) t.bits words) (taking.word - 2)) i ≡ 1) (sym is)
    (new_bits (taking.word - 2) taking.bits words i there has))
joined_has (first ∷ more) words (suc place) i taking low is there has =
    let now = bit_or (slice_index words (first.word - 2)) first.bits in
    joined_has more (with_bits (first.word - 2) first.bits words) place i taking (omega (arith, low)) is
    (omega (arith, there, length-set words (first.word - 2) now)) has

small : (change : Change) → IsThere change → number_of change < 515
small (Queue slot) there = omega (arith, there)
small (Room slot) there = omega (arith, there)
small Blocks there = omega arith
small Settled there = omega arith
small Anything there = omega arith

-- Each change whose bit was taken is there, if the words have a place for it.
pub are_held : (more : List Taking) (words : List ℕ) → 9 ≤ length words → AreHeld more (joined more words)
are_held more words enough = λ change there taking is word bit.
    let at : taking.word - 2 ≡ number_of change / 64 = omega (arith, word) in
    subst (λ (k : ℕ). bit_at (slice_index (joined more words) k) (number_of change % 64) ≡ 1) at
    (joined_has more words is.0 (number_of change % 64) taking is.1 is.2 (omega (arith, at, enough, small change there))
    bit)

pub hold_on : (more : List Taking) (words : List ℕ) → HoldsOn words (joined more words)
hold_on more words = λ change holds. joined_keeps more words (number_of change / 64) (number_of change % 64) holds
