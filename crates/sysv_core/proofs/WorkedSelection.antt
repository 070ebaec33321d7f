-- The replies worked by hand are the legal ones.
use Rattle.std.proofs.Common.{◌≡◌, ◌≢◌, ℕ, ℤ, pos, zero, suc, ◌<◌, ◌≤◌, ◌<ℤ◌, ◌≤ℤ◌, ◌^◌, inl, inr, false, List, [], ◌∷◌}
use Rattle.std.proofs.Common.{Some, refl, arith, slice_get, sym}
use Rattle.std.proofs.lemmas.Int.{ints}
use Rattle.sysv_model.specs.declared.selector.Selector.TheVariants.{Any, Exactly, Except, UpTo}
use Rattle.sysv_model.specs.Live.{live}
use Rattle.sysv_rules.specs.Qualifies.{QualifiesAt, type_at}
use Rattle.sysv_rules.specs.Named.{IsNamed}
use Rattle.sysv_queue.specs.LegalReply.{IsGivable}
use Rattle.sysv_queue.specs.Granted.{MayRead, MayWrite}
use Rattle.sysv_core.specs.WorkedRun.{receiver, hello_message, empty_message, after_turns}
use Rattle.sysv_core.proofs.WorkedRun.{not_again}
use Rattle.sysv_core.specs.WorkedSelection.{stranger, WorkedSelection}
use Rattle.sysv_core.proofs.Lifetime.{some_is}

-- The types of the two messages.
abbrev the_types : List ℤ
the_types = pos 5 ∷ pos 2 ∷ []

receiver_reads : MayRead receiver (live (after_turns 6))
receiver_reads = inr (inl (inl refl, λ none. cc))

stranger_reads_not : ¬ MayRead stranger (live (after_turns 6))
stranger_reads_not (inl zeroth) = omega (arith, zeroth)
stranger_reads_not (inr (inl (inl owner, bit))) = omega (arith, owner)
stranger_reads_not (inr (inl (inr creator, bit))) = omega (arith, creator)
stranger_reads_not (inr (inr (inl member))) = member.2 refl
stranger_reads_not (inr (inr (inr other))) = other.1 (inl refl)

stranger_writes_not : ¬ MayWrite stranger (live (after_turns 6))
stranger_writes_not (inl zeroth) = omega (arith, zeroth)
stranger_writes_not (inr (inl (inl owner, bit))) = omega (arith, owner)
stranger_writes_not (inr (inl (inr creator, bit))) = omega (arith, creator)
stranger_writes_not (inr (inr (inl member))) = member.2 refl
stranger_writes_not (inr (inr (inr other))) = other.1 (inl refl)

-- The second place has the lowest type.
lowest : (other : ℕ) → other < 2 → ¬ (type_at the_types other <ℤ pos 2)
lowest zero within below = let b : pos 5 <ℤ pos 2 = below in omega (arith, ints)
lowest (suc zero) within below = let b : pos 2 <ℤ pos 2 = below in omega (arith, ints)
lowest (suc (suc other)) within below = omega arith

foremost : (earlier : ℕ) → earlier < 1 → ¬ (type_at the_types earlier ≡ pos 2)
foremost zero within same = let s : pos 5 ≡ pos 2 = same in omega (arith, ints)
foremost (suc earlier) within same = omega arith

second_named : (bound : ℕ) → pos 2 ≤ℤ pos bound → IsNamed (UpTo bound) the_types 1
second_named bound within = ((omega arith, within), (omega arith, lowest, foremost))

first_not_named : (bound : ℕ) → ¬ IsNamed (UpTo bound) the_types 0
first_not_named bound named =
    let higher : ¬ (pos 2 <ℤ pos 5) = named.1.1 1 (omega arith) in higher (omega (arith, ints))

-- A type that is requested exactly.
five_named : IsNamed (Exactly (pos 5)) the_types 0
five_named = ((omega arith, refl), λ earlier below q. omega arith)

no_five_before : (earlier : ℕ) → earlier < 1 → ¬ QualifiesAt (Exactly (pos 2)) the_types earlier
no_five_before zero below q = let s : pos 5 ≡ pos 2 = q.1 in omega (arith, ints)
no_five_before (suc earlier) below q = omega arith

two_named : IsNamed (Exactly (pos 2)) the_types 1
two_named = ((omega arith, refl), no_five_before)

no_three : (place : ℕ) → ¬ QualifiesAt (Exactly (pos 3)) the_types place
no_three zero q = let s : pos 5 ≡ pos 3 = q.1 in omega (arith, ints)
no_three (suc zero) q = let s : pos 2 ≡ pos 3 = q.1 in omega (arith, ints)
no_three (suc (suc place)) q = let within = q.0 in omega arith

none_up_to_one : (place : ℕ) → ¬ QualifiesAt (UpTo 1) the_types place
none_up_to_one zero q = let s : pos 5 ≤ℤ pos 1 = q.1 in omega (arith, ints)
none_up_to_one (suc zero) q = let s : pos 2 ≤ℤ pos 1 = q.1 in omega (arith, ints)
none_up_to_one (suc (suc place)) q = let within = q.0 in omega arith

-- Every type but one.
no_other_before : (earlier : ℕ) → earlier < 1 → ¬ QualifiesAt (Except (pos 5)) the_types earlier
no_other_before zero below q = q.1 refl
no_other_before (suc earlier) below q = omega arith

but_five_named : IsNamed (Except (pos 5)) the_types 1
but_five_named = ((omega arith, λ same. let s : pos 2 ≡ pos 5 = same in omega (arith, ints)), no_other_before)

first_differs : (refused : ℤ) → pos 5 ≢ refused → IsNamed (Except refused) the_types 0
first_differs refused differs = ((omega arith, differs), λ earlier below q. omega arith)

but_two_named : IsNamed (Except (pos 2)) the_types 0
but_two_named = first_differs (pos 2) (λ same. omega (arith, ints, same))

but_three_named : IsNamed (Except (pos 3)) the_types 0
but_three_named = first_differs (pos 3) (λ same. omega (arith, ints, same))

-- The message of the excluded type is not taken, nor a later one.
never_excepted : (place : ℕ) → IsNamed (Except (pos 5)) the_types place →
    slice_get (hello_message ∷ empty_message ∷ []) place ≡ Some hello_message → ⊥
never_excepted zero named there = named.0.1 refl
never_excepted (suc zero) named there =
    not_again (sym (some_is there))
never_excepted (suc (suc place)) named there = let within = named.0.0 in omega arith

never_later : (place : ℕ) → IsNamed (Except (pos 3)) the_types place →
    slice_get (hello_message ∷ empty_message ∷ []) place ≡ Some empty_message → ⊥
never_later zero named there =
    not_again (some_is there)
never_later (suc zero) named there = named.1 0 (omega arith) but_three_named.0
never_later (suc (suc place)) named there = let within = named.0.0 in omega arith

-- Any message is the first one.
first_named : IsNamed Any the_types 0
first_named = ((omega arith, tt), λ earlier below q. omega arith)

-- No bound names the first message.
never_earliest : (bound place : ℕ) → IsNamed (UpTo bound) the_types place →
    slice_get (hello_message ∷ empty_message ∷ []) place ≡ Some hello_message → ⊥
never_earliest bound zero named there = first_not_named bound named
never_earliest bound (suc zero) named there =
    not_again (sym (some_is there))
never_earliest bound (suc (suc place)) named there = let within = named.0.0 in omega arith

four_short : ¬ IsGivable 4 false hello_message
four_short (inl short) = let s : 5 ≤ 4 = short in omega arith
four_short (inr cut) = cc

pub worked_selection : WorkedSelection
worked_selection = record {
  up_to_four = (refl, receiver_reads, (1, second_named 4 (omega (arith, ints)), refl), inl (omega arith));
  up_to_all = (refl, receiver_reads, (1, second_named (2 ^ 63) (omega (arith, ints)), refl), inl (omega arith));
  not_earliest = λ legal. never_earliest (2 ^ 63) legal.2.0 legal.2.1 legal.2.2;
  exactly_five = (refl, receiver_reads, (0, five_named, refl), inl (omega arith));
  exactly_two = (refl, receiver_reads, (1, two_named, refl), inl (omega arith));
  exactly_three = (refl, receiver_reads, λ place named. no_three place named.0, refl);
  up_to_one = (refl, receiver_reads, λ place named. none_up_to_one place named.0, refl);
  except_five = (refl, receiver_reads, (1, but_five_named, refl), inl (omega arith));
  except_two = (refl, receiver_reads, (0, but_two_named, refl), inl (omega arith));
  except_three = (refl, receiver_reads, (0, but_three_named, refl), inl (omega arith));
  not_excepted = λ legal. never_excepted legal.2.0 legal.2.1 legal.2.2;
  not_later = λ legal. never_later legal.2.0 legal.2.1 legal.2.2;
  too_long = (refl, receiver_reads, (hello_message, (0, first_named, refl), four_short));
  not_cut = λ legal. four_short legal.3;
  cut = (refl, receiver_reads, (0, first_named, refl), inr refl);
  no_read = (refl, stranger_reads_not);
  no_match_unread = λ arrived legal. stranger_reads_not legal.1;
  no_size_unread = λ legal. stranger_reads_not legal.1;
  no_write = (refl, stranger_writes_not);
  no_room_unwritten = λ freed legal. stranger_writes_not legal.1;
  all_to_root = (refl, inl refl, (omega arith, omega arith));
  all_read_by_root = (refl, inl refl, (0, first_named, refl), inl (omega arith));
}
