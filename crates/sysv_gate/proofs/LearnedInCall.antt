-- What a seat learns from step to step of a call.
use Rattle.std.proofs.Common.{◌≡◌, ◌≢◌, ℕ, ◌+◌, ◌<◌, ◌≤◌, ◌^◌, true, false, List, [], ◌∷◌, length, refl, sym, ap, ◌∙◌}
use Rattle.std.proofs.Common.{subst, arith, Option, Some}
use Rattle.std.specs.Prelude.{cond, nat_lt}
use mathlib.Core.Option.{none}
use Rattle.std.proofs.lemmas.Bool.Decides.{nat_tests}
use Rattle.sysv_gate.specs.declared.table.view.View.{View}
use Rattle.sysv_gate.specs.declared.table.view.Turn.{Turn}
use Rattle.sysv_gate.specs.declared.table.place.Done.{Done}
use Rattle.sysv_gate.specs.declared.table.place.Place.{Place}
use Rattle.sysv_gate.specs.declared.count.Count.{Count}
use Rattle.sysv_gate.specs.declared.count.Count.TheVariants.{Arrived, Freed}
use Rattle.sysv_gate.specs.declared.lock.turns.Rose.{Rose}
use Rattle.sysv_gate.specs.declared.awaited.Awaited.{Awaited}
use Rattle.sysv_gate.specs.declared.awaited.Awaited.TheVariants.{Reached}
use Rattle.sysv_gate.specs.declared.awaited.Awaited.TheVariants as awaited
use Rattle.sysv_gate.specs.Counts.{word_of, of_count}
use Rattle.sysv_lists.specs.Numbers.{times}
use Rattle.sysv_lists.specs.Prefix.{IsPrefixOf}
use Rattle.sysv_gate.specs.History.{after_all, IsLegal, HasItsOwn, Moves, AreUpTo, AreBelow}
use Rattle.sysv_gate.specs.Rule.{Spot, put}
use Rattle.sysv_gate.specs.Steps.{Mine, weighed, looked, entered, turn_of, announced_by, read_to, ended, Looks, Reads}
use Rattle.sysv_gate.specs.Steps.{HasTurn, after_turn}
use Rattle.sysv_gate.specs.Turns.{Looked, TurnCame, SawMore, HasMade, rise, Applied, HasRead, ReadMore, HasWaited}
use Rattle.atomic_table.specs.Table.{step, rest}
use Rattle.sysv_lists.proofs.Counting.{times-one}
use Rattle.sysv_gate.proofs.MarksAndCounts.{low_mark}
use Rattle.sysv_lists.proofs.Prefixes.{prefix_self, prefix_trans}
use Rattle.sysv_gate.proofs.Histories.{legal-snoc, rises}
use Rattle.sysv_gate.proofs.CountsStayAnnounced.{put_in, put_twice, put_same}

one_held : (n : ℕ) (tickets : List ℕ) → tickets ≡ n ∷ [] → nat_lt 0 (times n tickets) ≡ true
one_held n tickets is =
    let e : times n tickets ≡ times n (n ∷ []) = ap (times n) is in grind (arith, nat_tests, times-one n n)

-- Another ticket is not the one held.
pub not_held : (n t : ℕ) (tickets : List ℕ) → tickets ≡ t ∷ [] → n ≢ t → times n tickets ≡ 0
not_held n t tickets is other =
    let e : times n tickets ≡ times n (t ∷ []) = ap (times n) is in grind (arith, nat_tests, times-one n t)

module _ {O C R : Type 0} where
  module _ (moves : O → C → R → O → Type 0) (counted : O → ℕ × ℕ) (o : O) where
    pub look_tells : (m : Mine O C R) (n : ℕ) (m' : Mine O C R) → m.1 ≡ [] → m.0.in_turn ≡ false
        → Looks m n m' × IsLegal moves o m'.0.seen × (m'.0.in_turn ≡ true → HasTurn moves counted o m')
        × (m'.0.in_turn ≡ false → m'.1 ≡ m.1) → Looked moves counted o m n m'
    look_tells m n m' bare idle told =
        let log : List (Turn O C R) = told.0.log in
        let view : m'.0 ≡ looked n log m.0 = told.0.view in
        let turns : m'.0.in_turn ≡ nat_lt 0 (times n m.0.tickets) = ap (λ (v : View O C R). v.in_turn) view in record {
          log = log;
          longer = told.0.longer;
          count = told.0.count;
          legal = subst (λ (v : View O C R). IsLegal moves o v.seen) view told.1;
          own = told.0.own;
          mine = λ held.
              let now = one_held n m.0.tickets held in record {
                log = log;
                longer = told.0.longer;
                count = told.0.count;
                view = view ∙ (λ i. record m.0 { seen = log; tickets = held i; in_turn = now i });
                turn = told.2 (turns ∙ now);
              };
          other = λ none_held.
              let still : nat_lt 0 (times n m.0.tickets) ≡ false = ap (λ (k : ℕ). nat_lt 0 k) none_held in
              let stays : nat_lt 0 (times n m.0.tickets) ≡ m.0.in_turn = still ∙ sym idle in
              let slots : m'.1 ≡ [] = told.3 (turns ∙ still) ∙ bare in
              λ i. ((view ∙ (λ j. record m.0 { seen = log; in_turn = stays j })) i, slots i);
        }

    -- A seat without a ticket looks.
    pub idle_look : (m : Mine O C R) (n : ℕ) (m' : Mine O C R) → m.0.tickets ≡ [] → Looked moves counted o m n m' →
        SawMore m.0 m'
    idle_look m n m' empty look = record { log = look.log; longer = look.longer; is = look.other (ap (times n) empty) }

    pub look_legal : (m : Mine O C R) (n : ℕ) (m' : Mine O C R) → m.0.tickets ≡ [] → Looked moves counted o m n m' →
        IsLegal moves o m'.0.seen
    look_legal m n m' empty look =
        subst (λ (x : Mine O C R). IsLegal moves o x.0.seen) (sym (look.other (ap (times n) empty))) look.legal

    pub look_own : (m : Mine O C R) (n : ℕ) (m' : Mine O C R) → m.0.tickets ≡ [] → Looked moves counted o m n m' →
        HasItsOwn m'.0.numbers m'.0.own m'.0.seen
    look_own m n m' empty look = subst (λ (x : Mine O C R). HasItsOwn x.0.numbers x.0.own x.0.seen)
        (sym (look.other (ap (times n) empty))) look.own

    pub look_count : (m : Mine O C R) (n : ℕ) (m' : Mine O C R) → m.0.tickets ≡ [] → Looked moves counted o m n m' →
        n ≡ m'.0.first + length m'.0.seen
    look_count m n m' empty look =
        subst (λ (x : Mine O C R). n ≡ x.0.first + length x.0.seen) (sym (look.other (ap (times n) empty))) look.count

    -- The served ticket is drawn, and the turn has begun.
    pub came_at_once : (m : Mine O C R) (n : ℕ) (m' m'' : Mine O C R) → m.0.tickets ≡ [] →
        Looked moves counted o m n m' → m''.0 ≡ entered n m'.0 → HasTurn moves counted o m'' →
        TurnCame moves counted o m.0 n m''
    came_at_once m n m' m'' empty look drew turn = record {
      log = look.log;
      longer = look.longer;
      count = look.count;
      view = drew ∙ ap (λ (x : Mine O C R). entered n x.0) (look.other (ap (times n) empty));
      turn = turn;
    }

    -- A turn that began after more was seen.
    pub turn_later : (v : View O C R) (ticket : ℕ) (m m' : Mine O C R) → SawMore v m →
        TurnCame moves counted o m.0 ticket m' → TurnCame moves counted o v ticket m'
    turn_later v ticket m m' saw came =
        let log : List (Turn O C R) = saw.log in
        let is : m.0 ≡ record v { seen = log } = ap (λ (x : Mine O C R). x.0) saw.is in record {
          log = came.log;
          longer = prefix_trans v.seen log came.log saw.longer
              (subst (λ (u : View O C R). IsPrefixOf u.seen came.log) is came.longer);
          count = subst (λ (u : View O C R). ticket ≡ u.first + length came.log) is came.count;
          view = came.view
              ∙ ap (λ (u : View O C R). record u { seen = came.log; tickets = ticket ∷ []; in_turn = true }) is;
          turn = came.turn;
        }

  pub saw_later : (v : View O C R) (m m' : Mine O C R) → SawMore v m → SawMore m.0 m' → SawMore v m'
  saw_later v m m' saw more =
      let is : m.0 ≡ record v { seen = saw.log } = ap (λ (x : Mine O C R). x.0) saw.is in record {
        log = more.log;
        longer = prefix_trans v.seen saw.log more.log saw.longer
            (subst (λ (u : View O C R). IsPrefixOf u.seen more.log) is more.longer);
        is = more.is ∙ ap (λ (u : View O C R). (record u { seen = more.log }, [])) is;
      }

  -- A seat that waits has seen at least what it has seen.
  pub saw_nothing : (m : Mine O C R) → m.1 ≡ [] → SawMore m.0 m
  saw_nothing m bare = record { log = m.0.seen; longer = prefix_self m.0.seen; is = λ i. (m.0, bare i) }

  -- A ticket below 2^62 leaves the view unchanged.
  pub unweighed : (m m' : Mine O C R) (n : ℕ) → m' ≡ (weighed n m.0, m.1) → n < 2 ^ 62 → m' ≡ m
  unweighed m m' n is low = is ∙ (λ i. (record m.0 { worn = low_mark m.0.worn n low i }, m.1))

  -- The object in the slot.
  pub same_object : (p : Place O C R) (o : O) (last : Option (Done C R)) (s : Spot O C R) → s ≡ Some p →
      s ≡ put o last → p.object ≡ o
  same_object p o last s is was =
      let place : p ≡ record { object = o; last = last } = cc in
      ap (λ (q : Place O C R). q.object) place

  pub made_turn : (moves : O → C → R → O → Type 0) (o : O) (v : View O C R) (m m' : Mine O C R) (after : O)
      (done : Done C R) (call : C) (reply : R) → m ≡ (v, (0, put after (Some done)) ∷ []) → done.call.value ≡ call
      → done.reply.value ≡ reply → m' ≡ (after_turn m.0 m.1, rest m.1) → HasItsOwn m'.0.numbers m'.0.own m'.0.seen
      → IsLegal moves o v.seen → moves (after_all o v.seen) call reply after → HasMade moves o v call reply m'
  made_turn moves o v m m' after done call reply filled asked answered goes own legal move =
      let is : m' ≡ (ended v call reply after, []) =
      goes ∙ ap (λ (n : Mine O C R). (after_turn n.0 n.1, rest n.1)) filled
      ∙ (λ i. (ended v (asked i) (answered i) after, [])) in
      record {
        object = after;
        is = is;
        legal = subst (λ (n : Mine O C R). IsLegal moves o n.0.seen) (sym is)
            (legal-snoc moves o v.seen (turn_of v call reply after) legal move);
        own = own;
      }

  -- The counts of an object that began within 2^61, after fewer than 2^62 turns.
  pub counts_low : (meaning : O → C → R → O → Type 0) (counted : O → ℕ × ℕ) (o : O) (ts : List (Turn O C R))
      → IsLegal (Moves meaning counted) o ts → AreUpTo (2 ^ 61) (counted o) → length ts < 2 ^ 62
      → AreBelow (2 ^ 63) (counted (after_all o ts))
  counts_low meaning counted o ts legal low room =
      let one = rises (Moves meaning counted) (λ (p : O). (counted p).0) (λ p c r q move. move.1.1) o ts legal in
      let two = rises (Moves meaning counted) (λ (p : O). (counted p).1) (λ p c r q move. move.1.3) o ts legal in
      (omega arith, omega arith)

  -- No call lowers a count.
  pub never_falls : (meaning : O → C → R → O → Type 0) (counted : O → ℕ × ℕ) (count : Count) (o : O) (c : C) (r : R)
      (o' : O) → Moves meaning counted o c r o' → of_count count (counted o) ≤ of_count count (counted o')
  never_falls meaning counted Arrived o c r o' move = move.1.0
  never_falls meaning counted Freed o c r o' move = move.1.2

  -- What was announced of both counts.
  pub announced_both : (v : View O C R) (rose : Rose) (count : Count) →
      of_count count
      (announced_by Freed (cond rose.freed 1 0) (announced_by Arrived (cond rose.arrived 1 0) v)).announced
      ≡ rise count rose
  announced_both v rose Arrived = refl
  announced_both v rose Freed = refl

  -- The place that the seat leaves has the call that was served beside the object.
  pub handed : (moves : O → C → R → O → Type 0) (counted : O → ℕ × ℕ) (object : O) (call : C) (place : Place O C R)
      (reply : R) (rose : Rose) (a : Applied moves counted object call place reply rose) →
      Some place ≡ put place.object (Some a.last)
  handed moves counted object call place reply rose a = λ i. Some (record { object = place.object; last = a.beside i })

  -- The call beside the object is how the object changed.
  pub told_move : (moves : O → C → R → O → Type 0) (counted : O → ℕ × ℕ) (before object : O) (call : C)
      (place : Place O C R) (reply : R) (rose : Rose) (a : Applied moves counted object call place reply rose)
      → object ≡ before
      → moves before a.last.call.value a.last.reply.value place.object
  told_move moves counted before object call place reply rose a was =
      subst (λ (p : O). moves p a.last.call.value a.last.reply.value place.object) was
      (subst (λ (x : C). moves object x a.last.reply.value place.object) (sym a.asked)
      (subst (λ (y : R). moves object call y place.object) (sym a.answered) a.move))

  -- The counts have risen by what was announced.
  pub announced_all : (moves : O → C → R → O → Type 0) (counted : O → ℕ × ℕ) (o : O) (v : View O C R) (object : O)
      (call : C) (place : Place O C R) (reply : R) (rose : Rose)
      → Applied moves counted object call place reply rose → object ≡ after_all o v.seen
      → (count : Count)
      → of_count count (counted place.object)
      ≡ of_count count (counted (after_all o v.seen))
      + of_count count
      (announced_by Freed (cond rose.freed 1 0) (announced_by Arrived (cond rose.arrived 1 0) v)).announced
  announced_all moves counted o v object call place reply rose a was count =
      let rises = a.rises count in
      let same : of_count count (counted object) ≡ of_count count (counted (after_all o v.seen)) =
      ap (λ (p : O). of_count count (counted p)) was in
      let both = announced_both v rose count in
      omega arith

  -- The count was read.
  pub has_read : (counted : O → ℕ × ℕ) (o : O) (count : Count) (word : ℕ) (m : Mine O C R) (n : ℕ) (m' : Mine O C R) →
      word ≡ word_of count → m.0.opening ≡ Some o → m.1 ≡ [] → Reads counted (step 0 word 0 0 none) m n m' →
      HasRead counted o count m n m'
  has_read counted o count word m n m' is knows bare told =
      let now = told count is o knows in
      record { is = now.0 ∙ (λ i. (read_to count n m.0, bare i)); before = now.1; known = now.2 }

  -- A read after another read.
  pub read_again : (counted : O → ℕ × ℕ) (o : O) (count : Count) (m m' : Mine O C R) (n : ℕ) (m'' : Mine O C R) →
      ReadMore count m m' → HasRead counted o count m' n m'' → HasRead counted o count m n m''
  read_again counted o count m m' n m'' more now =
      let value : ℕ = more.value in
      let view : m'.0 ≡ read_to count value m.0 = ap (λ (x : Mine O C R). x.0) more.is in
      let was : of_count count m'.0.read ≡ value =
      ap (λ (v : View O C R). of_count count v.read) view ∙ put_in count value m.0.read in
      let before = more.before in
      let after = now.before in record {
        is = now.is ∙ ap (λ (v : View O C R). (read_to count n v, [])) view
            ∙ (λ i. (record m.0 { read = put_twice count n value m.0.read i }, []));
        before = omega arith;
        known = subst (λ (v : View O C R). of_count count (counted (after_all o v.seen)) ≤ n) view now.known;
      }

  pub read_more : (counted : O → ℕ × ℕ) (o : O) (count : Count) (m : Mine O C R) (n : ℕ) (m' : Mine O C R) →
      HasRead counted o count m n m' → ReadMore count m m'
  read_more counted o count m n m' now = record { value = n; is = now.is; before = now.before }

  pub read_nothing : (count : Count) (m : Mine O C R) → m.1 ≡ [] → ReadMore count m m
  read_nothing count m bare = record {
    value = of_count count m.0.read;
    is = λ i. (record m.0 { read = sym (put_same count (of_count count m.0.read) m.0.read refl) i }, bare i);
    before = omega arith;
  }

  -- A wait that is over, after the count was read before.
  pub waited_later : (counted : O → ℕ × ℕ) (o : O) (count : Count) (goal : ℕ) (m m' : Mine O C R) (a : Awaited)
      (m'' : Mine O C R) → ReadMore count m m' → HasWaited counted o count goal m' a m'' →
      HasWaited counted o count goal m a m''
  waited_later counted o count goal m m' (Reached n) m'' more waited =
      (waited.0, read_again counted o count m m' n m'' more waited.1)
  waited_later counted o count goal m m' awaited.Worn m'' more waited =
      (waited.0, waited.1, waited.2, read_again counted o count m m' waited.0 waited.1 more waited.3, waited.4)

  -- The count may have been read twice.
  pub more_again : (count : Count) (m m' m'' : Mine O C R) → ReadMore count m m' → ReadMore count m' m'' →
      ReadMore count m m''
  more_again count m m' m'' one two =
      let view : m'.0 ≡ read_to count one.value m.0 = ap (λ (x : Mine O C R). x.0) one.is in
      let was : of_count count m'.0.read ≡ one.value =
      ap (λ (v : View O C R). of_count count v.read) view ∙ put_in count one.value m.0.read in
      let before = one.before in
      let after = two.before in record {
        value = two.value;
        is = two.is ∙ ap (λ (v : View O C R). (read_to count two.value v, [])) view
            ∙ (λ i. (record m.0 { read = put_twice count two.value one.value m.0.read i }, []));
        before = omega arith;
      }
