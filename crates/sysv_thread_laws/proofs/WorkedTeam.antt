-- The worked service, step by step.
use Rattle.std.proofs.Common.{◌≡◌, ◌≢◌, ℕ, ◌==◌, cond, zero, suc, ◌+◌, ◌≤◌, List, [], ◌∷◌, ◌++◌, Some, refl, ap, subst}
use Rattle.std.proofs.Common.{arith, inl, inr, take, drop, pos}
use Rattle.std.specs.List.{AllByRecursion}
use Rattle.std.proofs.lemmas.List.Elements.{All-cons, All-nil, All-from_recursion}
use Rattle.sysv_lists.specs.Numbers.{times, NoneTwice}
use Rattle.sysv_lists.proofs.Counting.{the-one, times-append}
use Rattle.sysv_model.specs.History.{Shown}
use Rattle.sysv_model.specs.Turn.{Op}
use Rattle.sysv_objects.specs.LegalOp.{AreLegal}
use Rattle.sysv_steps.specs.State.{Got, Over}
use Rattle.sysv_steps.specs.Played.{begins}
use Rattle.sysv_model.specs.Turns.{Numbered, turns_of}
use Rattle.sysv_thread_laws.specs.Order.{Called, AreAll}
use Rattle.sysv_model.specs.Members.{under, AreOfOthers, AreOwn, AreWhole, MakesTurn, Does, starts, makes, Splits}
use Rattle.sysv_model.specs.Members.{Joins, Closes}
use Rattle.sysv_thread_laws.specs.Team.{IsTeam, opens, calls, reads, splits, joins, turns_to, EveryServiceIsARun}
use Rattle.sysv_thread_laws.specs.WorkedOrder.{hello, makes as makes_queue, installs, settles, finds_none, looks}
use Rattle.sysv_thread_laws.specs.WorkedOrder.{reserves, reads_row, the_row, places, takes, finds_no_other, gives_back}
use Rattle.sysv_thread_laws.specs.WorkedOrder.{discards, forgets, gives_back_none, by, the_order, the_get, the_send}
use Rattle.sysv_thread_laws.specs.WorkedOrder.{the_receive, the_left, the_refused, the_removal}
use Rattle.sysv_model.proofs.Sharing.{AtMost, whole_in_any}
use Rattle.sysv_thread_laws.proofs.Places.{number_other, none_or_some}
use Rattle.sysv_thread_laws.proofs.WorkedOrder.{plays_get, plays_receive, plays_send, plays_left, plays_removal}
use Rattle.sysv_thread_laws.specs.WorkedTeam.{seen, with_one, with_all, calls_of_team, WorkedTeam}

-- ---- turns of others

of_others : (numbers : List ℕ) (turns : List Numbered) →
    AllByRecursion (λ (t : Numbered). times t.by numbers ≡ 0) turns → AreOfOthers numbers turns
of_others numbers turns each = All-from_recursion (λ (t : Numbered). times t.by numbers ≡ 0) turns each

-- ---- pass 0

zero_by : (by_one : Numbered) → times by_one.by (0 ∷ []) ≡ 0 → (op : Op) (count next : ℕ) →
    seen 0 2 next ≡ record (seen 0 2 count) { order = (take count the_order ++ by_one ∷ []) ++ by 0 op ∷ [] } →
    MakesTurn (seen 0 2 count) op (seen 0 2 next)
zero_by t apart op count next is =
    record { others = t ∷ []; apart = of_others (0 ∷ []) (t ∷ []) (apart, tt); goes_on = is }

zero_next : (op : Op) (count next : ℕ) →
    seen 0 2 next ≡ record (seen 0 2 count) { order = (take count the_order ++ []) ++ by 0 op ∷ [] } →
    MakesTurn (seen 0 2 count) op (seen 0 2 next)
zero_next op count next is = record { others = []; apart = of_others (0 ∷ []) [] tt; goes_on = is }

does_get : Does (seen 0 2 0) (makes_queue ∷ installs ∷ settles ∷ []) (seen 0 2 3)
does_get =
    makes settles (seen 0 2 3)
    (makes installs (seen 0 2 2) (makes makes_queue (seen 0 2 1) starts (zero_next makes_queue 0 1 refl))
    (zero_next installs 1 2 refl)) (zero_next settles 2 3 refl)

does_send : Does (seen 0 2 3) (looks ∷ reserves ∷ places ∷ []) (seen 0 2 8)
does_send =
    makes places (seen 0 2 8)
    (makes reserves (seen 0 2 6) (makes looks (seen 0 2 5) starts (zero_by (by 1 finds_none) refl looks 3 5 refl))
    (zero_next reserves 5 6 refl)) (zero_by (by 2 reads_row) refl places 6 8 refl)

does_left : Does (seen 0 2 8) (finds_no_other ∷ []) (seen 0 2 10)
does_left = makes finds_no_other (seen 0 2 10) starts (zero_by (by 1 takes) refl finds_no_other 8 10 refl)

does_removal : Does (seen 0 2 11) (discards ∷ forgets ∷ gives_back_none ∷ []) (seen 0 2 15)
does_removal =
    makes gives_back_none (seen 0 2 15)
    (makes forgets (seen 0 2 14)
    (makes discards (seen 0 2 13) starts (zero_by (by 1 gives_back) refl discards 11 13 refl))
    (zero_next forgets 13 14 refl)) (zero_next gives_back_none 14 15 refl)

-- ---- pass 1

one_after : (others : List Numbered) → AreOfOthers (1 ∷ []) others → (op : Op) (count next : ℕ) →
    seen 1 1 next ≡ record (seen 1 1 count) { order = (take count the_order ++ others) ++ by 1 op ∷ [] } →
    MakesTurn (seen 1 1 count) op (seen 1 1 next)
one_after others apart op count next is = record { others = others; apart = apart; goes_on = is }

before_none : AreOfOthers (1 ∷ []) (by 0 makes_queue ∷ by 0 installs ∷ by 0 settles ∷ [])
before_none = of_others (1 ∷ []) (by 0 makes_queue ∷ by 0 installs ∷ by 0 settles ∷ []) (refl, (refl, (refl, tt)))

before_takes : AreOfOthers (1 ∷ []) (by 0 looks ∷ by 0 reserves ∷ by 2 reads_row ∷ by 0 places ∷ [])
before_takes = of_others (1 ∷ []) (by 0 looks ∷ by 0 reserves ∷ by 2 reads_row ∷ by 0 places ∷ [])
    (refl, (refl, (refl, (refl, tt))))

before_back : AreOfOthers (1 ∷ []) (by 0 finds_no_other ∷ by 0 reads_row ∷ [])
before_back = of_others (1 ∷ []) (by 0 finds_no_other ∷ by 0 reads_row ∷ []) (refl, (refl, tt))

does_receive : Does (seen 1 1 0) (finds_none ∷ takes ∷ gives_back ∷ []) (seen 1 1 12)
does_receive =
    makes gives_back (seen 1 1 12)
    (makes takes (seen 1 1 9)
    (makes finds_none (seen 1 1 4) starts
    (one_after (by 0 makes_queue ∷ by 0 installs ∷ by 0 settles ∷ []) before_none finds_none 0 4 refl))
    (one_after (by 0 looks ∷ by 0 reserves ∷ by 2 reads_row ∷ by 0 places ∷ []) before_takes takes 4 9 refl))
    (one_after (by 0 finds_no_other ∷ by 0 reads_row ∷ []) before_back gives_back 9 12 refl)

-- ---- pass 2

before_row : AreOfOthers (2 ∷ []) (take 6 the_order)
before_row = of_others (2 ∷ []) (take 6 the_order) (refl, (refl, (refl, (refl, (refl, (refl, tt))))))

reads_here : MakesTurn (seen 2 2 0) reads_row (seen 2 2 7)
reads_here = record { others = take 6 the_order; apart = before_row; goes_on = refl }

-- ---- splits and joins

splits_one : Splits (record { number = 0; numbers = 0 ∷ []; shares = 0 ∷ []; order = [] }) (seen 0 1 0) (seen 1 1 0)
splits_one = record { apart = of_others (1 ∷ []) [] tt; parent = refl; child = refl }

splits_two : Splits (seen 0 1 0) (seen 0 2 0) (seen 2 2 0)
splits_two = record { apart = of_others (2 ∷ []) [] tt; parent = refl; child = refl }

-- What holds of the two numbers of the list holds of each number in it.
of_two : (P : ℕ → Type 0) (m n : ℕ) → P m → P n → (x : ℕ) → 1 ≤ times x (m ∷ n ∷ []) → P x
of_two P m n pm pn x has =
    let both : times x (m ∷ n ∷ []) ≡ times x (m ∷ []) + times x (n ∷ []) = times-append x (m ∷ []) (n ∷ []) in
    elim (none_or_some (times x (m ∷ []))) [
      | inl absent ↦ subst P (the-one x n (omega arith)) pn
      | inr its ↦ subst P (the-one x m its) pm
    ]

joins_one : Joins (seen 2 2 7) (seen 1 1 12) with_one
joins_one = record {
  order = take 12 the_order;
  begins_one = (take 5 (drop 7 the_order), refl);
  begins_two = ([], refl);
  own_one = λ x has. subst (λ n. under n (take 12 the_order) ≡ under n (take 7 the_order)) (the-one x 2 has) refl;
  own_two = λ x has. refl;
  joined = refl;
}

joins_all : Joins (seen 0 2 15) with_one with_all
joins_all = record {
  order = the_order;
  begins_one = ([], refl);
  begins_two = (drop 12 the_order, refl);
  own_one = λ x has. refl;
  own_two = of_two (λ n. under n the_order ≡ under n (take 12 the_order)) 2 1 refl refl;
  joined = refl;
}

-- ---- the team

abbrev answered : Called
answered = the_receive (Over (Got (pos 5) hello))

team_of_three : IsTeam (seen 0 2 0 ∷ seen 2 2 0 ∷ seen 1 1 0 ∷ []) []
team_of_three = splits (seen 0 2 0) (seen 2 2 0) (splits (seen 0 1 0) (seen 1 1 0) (opens 0) splits_one) splits_two

team_removed : IsTeam (seen 0 2 15 ∷ seen 2 2 0 ∷ seen 1 1 0 ∷ []) (the_get ∷ the_send ∷ the_left ∷ the_removal ∷ [])
team_removed =
    calls the_removal (seen 0 2 15)
    (reads 0 (Shown (Some the_row)) (seen 0 2 11)
    (calls the_left (seen 0 2 10)
    (calls the_send (seen 0 2 8)
    (calls the_get (seen 0 2 3) team_of_three refl plays_get does_get) refl plays_send does_send) refl plays_left
    does_left)
    (zero_next reads_row 10 11 refl)) refl plays_removal does_removal

team_received : IsTeam (seen 1 1 12 ∷ seen 0 2 15 ∷ seen 2 2 0 ∷ []) calls_of_team
team_received =
    calls the_refused (seen 1 1 12)
    (calls answered (seen 1 1 12) (turns_to (seen 0 2 15 ∷ seen 2 2 0 ∷ []) [] team_removed) refl plays_receive
    does_receive) refl begins starts

team_joined : IsTeam (with_all ∷ []) calls_of_team
team_joined =
    joins with_all
    (turns_to (with_one ∷ []) []
    (joins with_one
    (reads 0 (Shown (Some the_row)) (seen 2 2 7)
    (turns_to (seen 1 1 12 ∷ seen 0 2 15 ∷ []) [] team_received) reads_here) joins_one)) joins_all

none_there : (m n : ℕ) → m ≢ suc (suc (suc n)) → cond {A = ℕ} (m == suc (suc (suc n))) 1 0 ≡ 0
none_there m n apart = ap (λ b. cond {A = ℕ} b 1 0) (number_other m (suc (suc (suc n))) apart)

apart_all : NoneTwice (0 ∷ 2 ∷ 1 ∷ [])
apart_all zero = omega arith
apart_all (suc zero) = omega arith
apart_all (suc (suc zero)) = omega arith
apart_all (suc (suc (suc n))) =
    omega (
      arith,
      none_there 0 n (λ e. omega arith),
      none_there 2 n (λ e. omega arith),
      none_there 1 n (λ e. omega arith),
    )

own_all : AreOwn (0 ∷ 2 ∷ 1 ∷ []) the_order
own_all =
    let one : 1 ≤ 1 = omega arith in
    All-from_recursion (λ (t : Numbered). 1 ≤ times t.by (0 ∷ 2 ∷ 1 ∷ [])) the_order
    (one, (one, (one, (one, (one, (one, (one, (one, (one, (one, (one, (one, (one, (one, (one, tt)))))))))))))))

closes_all : Closes with_all the_order
closes_all = record { longer = ([], refl); apart = apart_all; all = λ w. (refl, own_all) }

-- Half of a half is not the whole.
not_whole : ¬ AreWhole (2 ∷ [])
not_whole w =
    let whole : ◌≡◌ {A = ℕ} 1 4 =
    whole_in_any (2 ∷ []) w 2 (All-cons (AtMost 2) 2 [] (omega arith) (All-nil (AtMost 2))) in
    omega arith

pub worked_team : AreLegal 0 128 (turns_of the_order) → EveryServiceIsARun → WorkedTeam
worked_team legal law = record {
  home = team_joined;
  closes = closes_all;
  served = law 0 128 with_all calls_of_team the_order team_joined closes_all legal;
  left_out = λ team.
      let a : AreAll the_order (the_get ∷ the_left ∷ the_removal ∷ answered ∷ the_refused ∷ []) =
      (law 0 128 with_all (the_get ∷ the_left ∷ the_removal ∷ answered ∷ the_refused ∷ []) the_order team closes_all
      legal).all in
      let bad = a.whole 0 in
      absurd cc;
  parted = not_whole;
}
