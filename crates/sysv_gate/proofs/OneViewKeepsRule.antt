-- Proves that the rule is kept if one view changes, and the log stays or grows by one turn.
use Rattle.std.proofs.Common.{◌≡◌, ◌≢◌, ℕ, ◌+◌, ◌^◌, ◌<◌, ◌≤◌, ◌==◌, cond, true, false, List, [], ◌∷◌, ◌++◌, length}
use Rattle.std.proofs.Common.{set, sym, ap, ◌∙◌, subst, arith, length-append, length-set, ⊎_elim, Some, refl}
use Rattle.std.specs.Prelude.{sum_by, Option}
use mathlib.Core.Bool.{true≢false}
use mathlib.Core.Logic.{dite}
use native.Mathlib.Decide.{ℕ_discrete}
use mathlib.Core.Option.{some}
use lib.ListN.{get_elem?}
use Rattle.atomic_table.proofs.Lists.{at_set}
use Rattle.sysv_gate.specs.declared.table.view.View.{View}
use Rattle.sysv_gate.specs.declared.table.view.Turn.{Turn}
use Rattle.sysv_gate.specs.declared.table.place.Done.{Done}
use Rattle.sysv_lists.specs.Numbers.{times, once_between, NoneTwice}
use Rattle.sysv_lists.specs.Prefix.{IsPrefixOf}
use Rattle.sysv_gate.specs.History.{after_all, made_at, HasItsOwn}
use Rattle.sysv_gate.specs.Rule.{Homes, put, IsHome, bearers, Fits, IsKept}
use Rattle.sysv_gate.specs.Steps.{turn_of, ended}
use Rattle.sysv_lists.proofs.Places.{set_at, at_below, one_there, each_set, each_before}
use Rattle.sysv_lists.proofs.Sums.{sum_by-set_at, at-le-sum_by, two-le-sum_by}
use Rattle.sysv_lists.proofs.Counting.{times-snoc, times-one, the-one, once_between-drop, once_between-le}
use Rattle.sysv_lists.proofs.Counting.{first_between}
use Rattle.sysv_gate.proofs.MarksAndCounts.{not_true, another}
use Rattle.sysv_lists.proofs.Prefixes.{prefix_self, prefix_snoc}
use Rattle.sysv_gate.proofs.Histories.{after_all-snoc, legal-snoc, made_at-le, made_at-mine, made_at-theirs}

module _ {O C R : Type 0} (moves : O → C → R → O → Type 0) (opening : O) (first : ℕ) where
  abbrev V : Type 0
  V = View O C R

  abbrev Log : Type 0
  Log = List (Turn O C R)

  -- The view that holds the served ticket is the only one that holds it.
  pub served_alone : (log : Log) (drawn id : ℕ) (homes : Homes O C R) (views : List V) (v : V)
      → IsKept moves opening first log drawn homes views → get_elem? views id ≡ some v
      → 1 ≤ times (first + length log) v.tickets → (k : ℕ) (u : V) → k ≢ id → get_elem? views k ≡ some u
      → u.in_turn ≡ false
  served_alone log drawn id homes views v kept at holds k u other there =
      not_true u.in_turn
      (λ turn.
      let s : ℕ = first + length log in
      let theirs = ((kept.each k u there).turn turn).0 in
      let all = kept.tickets s in
      let two = two-le-sum_by (λ (w : V). times s w.tickets) views id k v u other at there in
      absurd (omega (arith, once_between-le s drawn s)))

  -- If a view that is not in its turn holds the served ticket, no view is in its turn.
  pub nobody_in_turn : (log : Log) (drawn id : ℕ) (homes : Homes O C R) (views : List V) (v : V)
      → IsKept moves opening first log drawn homes views → get_elem? views id ≡ some v
      → 1 ≤ times (first + length log) v.tickets → v.in_turn ≡ false → (k : ℕ) (u : V) → get_elem? views k ≡ some u
      → u.in_turn ≡ false
  nobody_in_turn log drawn id homes views v kept at holds idle k u there =
      dite (ℕ_discrete k id) (λ e. ap (λ (w : V). w.in_turn) (one_there views id k v u e at there) ∙ idle)
      (λ ne. served_alone log drawn id homes views v kept at holds k u ne there)

  -- If no ticket is held, no view is in its turn.
  pub no_ticket_no_turn : (log : Log) (drawn : ℕ) (homes : Homes O C R) (views : List V)
      → IsKept moves opening first log drawn homes views → drawn ≤ first + length log
      → (k : ℕ) (u : V) → get_elem? views k ≡ some u → u.in_turn ≡ false
  no_ticket_no_turn log drawn homes views kept none k u there =
      not_true u.in_turn
      (λ turn.
      let s : ℕ = first + length log in
      let theirs = ((kept.each k u there).turn turn).0 in
      let all = kept.tickets s in
      let part = at-le-sum_by (λ (w : V). times s w.tickets) views k u there in
      let some_left : s < drawn = first_between s drawn (omega arith) in
      absurd (omega arith))

  -- No number occurs twice among those of a view.
  pub numbers_once : (log : Log) (drawn id : ℕ) (homes : Homes O C R) (views : List V) (v : V) →
      IsKept moves opening first log drawn homes views → get_elem? views id ≡ some v → NoneTwice v.numbers
  numbers_once log drawn id homes views v kept at x =
      let all = kept.apart x in
      let part = at-le-sum_by (λ (w : V). times x w.numbers) views id v at in
      omega arith

  -- The own turns of a view in the whole log.
  pub own_turns : (log : Log) (drawn id : ℕ) (homes : Homes O C R) (views : List V) (v : V) →
      IsKept moves opening first log drawn homes views → get_elem? views id ≡ some v → HasItsOwn v.numbers v.own log
  own_turns log drawn id homes views v kept at =
      let own = (kept.each id v at).own in (
        own,
        λ p.
            let is = own p in
            let le = made_at-le v.numbers (numbers_once log drawn id homes views v kept at) log p in
            omega arith,
      )

  -- A change of a view that keeps its numbers keeps the number of views with each number.
  pub same_bearers : (views : List V) (id : ℕ) (v w : V) → get_elem? views id ≡ some v → w.numbers ≡ v.numbers →
      (x : ℕ) → bearers x (set views id w) ≡ bearers x views
  same_bearers views id v w at same x =
      let here : times x w.numbers ≡ times x v.numbers = ap (times x) same in
      let sums = sum_by-set_at (λ (u : V). times x u.numbers) views id v w at in
      omega arith

  pub still_nameless : (views : List V) (id : ℕ) (v w : V) → get_elem? views id ≡ some v → w.numbers ≡ v.numbers
      → w.opening ≡ v.opening
      → ((i : ℕ) (u : V) → get_elem? views i ≡ some u → (o : O) → u.opening ≡ Some o → u.numbers ≡ []
      → bearers i views ≡ 0)
      → (i : ℕ) (u : V) → get_elem? (set views id w) i ≡ some u → (o : O) → u.opening ≡ Some o → u.numbers ≡ []
      → bearers i (set views id w) ≡ 0
  still_nameless views id v w at same opens before i u there o is empty =
      same_bearers views id v w at same i
      ∙ ⊎_elim
      (λ t.
      let old = before id v at o (sym opens ∙ ap (λ (a : V). a.opening) t.1 ∙ is)
      (sym same ∙ ap (λ (a : V). a.numbers) t.1 ∙ empty) in
      subst (λ (k : ℕ). bearers k views ≡ 0) (sym t.0) old)
      (λ t. before i u t.1 o is empty) (at_set views id i w u there)

  -- The facts about a view that is alone are kept.
  pub still_alone : (log : Log) (views : List V) (id : ℕ) (w : V)
      → ((k : ℕ) (u : V) → get_elem? views k ≡ some u → u.alone ≡ true → (length views ≡ 1) × (u.seen ≡ log))
      → (w.alone ≡ true → (length views ≡ 1) × (w.seen ≡ log))
      → (k : ℕ) (u : V) → get_elem? (set views id w) k ≡ some u → u.alone ≡ true
      → (length (set views id w) ≡ 1) × (u.seen ≡ log)
  still_alone log views id w before lone k u there mark =
      let is = each_set (λ (x : V). x.alone ≡ true → (length views ≡ 1) × (x.seen ≡ log))
      (λ (x : V). x.alone ≡ true → (length views ≡ 1) × (x.seen ≡ log)) views id w before (λ _ _ _ _ p. p) lone k u
      there mark in
      (length-set views id w ∙ is.0, is.1)

  -- No view is alone beside another view.
  pub not_alone : (log : Log) (views : List V) (id k : ℕ) (v u : V) →
      ((i : ℕ) (x : V) → get_elem? views i ≡ some x → x.alone ≡ true → (length views ≡ 1) × (x.seen ≡ log)) →
      get_elem? views id ≡ some v → k ≢ id → get_elem? views k ≡ some u → u.alone ≡ false
  not_alone log views id k v u before at other there =
      not_true u.alone
      (λ mark.
      let one = (before k u there mark).0 in
      let here = at_below views id v at in
      let there = at_below views k u there in
      other (omega arith))

  wider : (log : Log) (drawn drawn' : ℕ) → drawn ≤ drawn' → (v : V) → Fits opening first log drawn v →
      Fits opening first log drawn' v
  wider log drawn drawn' le v fits = record {
    start = fits.start;
    seen = fits.seen;
    also = fits.also;
    turn = fits.turn;
    own = fits.own;
    worn = λ mark. let limit = fits.worn mark in omega arith;
  }

  -- The log stays. The view may draw further tickets, and the slot stays unless a turn begins.
  pub stays : (log : Log) (drawn drawn' id : ℕ) (homes homes' : Homes O C R) (views : List V) (v w : V)
      → IsKept moves opening first log drawn homes views → get_elem? views id ≡ some v
      → drawn ≤ drawn' → drawn' ≤ 2 ^ 62
      → w.numbers ≡ v.numbers
      → w.opening ≡ v.opening
      → ((x : ℕ)
      → times x w.tickets + once_between (first + length log) drawn x
      ≡ times x v.tickets + once_between (first + length log) drawn' x)
      → (w.in_turn ≡ false → (v.in_turn ≡ false) × (homes' ≡ homes))
      → Fits opening first log drawn' w
      → (w.alone ≡ true → (length views ≡ 1) × (w.seen ≡ log))
      → IsKept moves opening first log drawn' homes' (set views id w)
  stays log drawn drawn' id homes homes' views v w kept at le limit same opens tickets idle fits lone =
      let order = kept.order in record {
        legal = kept.legal;
        tickets = λ x.
            let before = kept.tickets x in
            let here = tickets x in
            let sums = sum_by-set_at (λ (u : V). times x u.tickets) views id v w at in
            omega arith;
        order = omega arith;
        limit = limit;
        apart = λ x. let before = kept.apart x in let still = same_bearers views id v w at same x in omega arith;
        unused = λ x le.
            same_bearers views id v w at same x ∙ kept.unused x (subst (λ (n : ℕ). n ≤ x) (length-set views id w) le);
        nameless = still_nameless views id v w at same opens kept.nameless;
        known = λ x nobody. kept.known x (sym (same_bearers views id v w at same x) ∙ nobody);
        each = each_set (Fits opening first log drawn) (Fits opening first log drawn') views id w kept.each
            (λ k u _ _ fit. wider log drawn drawn' le u fit) fits;
        home = λ none.
            let stood = idle (none id w (set_at views id v w at)) in
            subst (IsHome (after_all opening log)) (sym stood.1)
            (kept.home (each_before (λ (u : V). u.in_turn ≡ false) views id v w at none stood.0));
        alone = still_alone log views id w kept.alone lone;
      }

  -- Another view still fits after the turn of the view v.
  others_fit : (log : Log) (drawn id : ℕ) (homes : Homes O C R) (views : List V) (v : V) (call : C) (reply : R)
      (after : O) → IsKept moves opening first log drawn homes views → get_elem? views id ≡ some v
      → 1 ≤ times (first + length log) v.tickets → 1 ≤ times v.number v.numbers
      → (k : ℕ) (u : V) → k ≢ id → get_elem? views k ≡ some u → Fits opening first log drawn u
      → Fits opening first (log ++ turn_of v call reply after ∷ []) drawn u
  others_fit log drawn id homes views v call reply after kept at holds named k u other there fits =
      let t : Turn O C R = turn_of v call reply after in
      let all = kept.apart v.number in
      let two = two-le-sum_by (λ (w : V). times v.number w.numbers) views id k v u other at there in
      let theirs : times v.number u.numbers ≡ 0 = omega arith in
      record {
        start = fits.start;
        seen = prefix_snoc u.seen log t fits.seen;
        also = prefix_snoc u.also log t fits.also;
        turn = λ turn.
            absurd (true≢false (sym turn ∙ served_alone log drawn id homes views v kept at holds k u other there));
        own = λ p. fits.own p ∙ sym (made_at-theirs u.numbers log t p theirs);
        worn = fits.worn;
      }

  -- The view v itself still fits.
  ended_fits : (log : Log) (drawn : ℕ) (v : V) (call : C) (reply : R) (after : O) → Fits opening first log drawn v
      → v.seen ≡ log → times v.number v.numbers ≡ 1
      → Fits opening first (log ++ turn_of v call reply after ∷ []) drawn (ended v call reply after)
  ended_fits log drawn v call reply after fits whole mine =
      let t : Turn O C R = turn_of v call reply after in record {
        start = fits.start;
        seen = subst (λ (l : Log). IsPrefixOf (l ++ t ∷ []) (log ++ t ∷ [])) (sym whole) (prefix_self (log ++ t ∷ []));
        also = prefix_snoc v.also log t fits.also;
        turn = λ turn. absurd (true≢false (sym turn));
        own = λ p.
            let before = fits.own p in
            let new = times-snoc p v.own (length log) in
            let longer = made_at-mine v.numbers log t p mine in
            let here : times p (v.own ++ length log ∷ []) ≡ made_at v.numbers (log ++ t ∷ []) p = omega arith in
            subst (λ (l : Log). times p (v.own ++ length l ∷ []) ≡ made_at v.numbers (log ++ t ∷ []) p) (sym whole)
            here;
        worn = fits.worn;
      }

  -- The log grows by the turn of the view. The turn ends, and the object returns to the table.
  pub grows : (log : Log) (drawn id ticket : ℕ) (homes homes' : Homes O C R) (views : List V) (v : V) (call : C)
      (reply : R) (after : O) (last : Option (Done C R))
      → IsKept moves opening first log drawn homes views → get_elem? views id ≡ some v
      → v.tickets ≡ ticket ∷ [] → v.in_turn ≡ true → 1 ≤ times v.number v.numbers
      → moves (after_all opening v.seen) call reply after
      → get_elem? homes' 0 ≡ some (some (put after last))
      → (first + length log < drawn)
      × IsKept moves opening first (log ++ turn_of v call reply after ∷ []) drawn homes'
      (set views id (ended v call reply after))
  grows log drawn id ticket homes homes' views v call reply after last kept at one turn named move home =
      let t : Turn O C R = turn_of v call reply after in
      let w : V = ended v call reply after in
      let s : ℕ = first + length log in
      let fits = kept.each id v at in
      let holds = (fits.turn turn).0 in
      let whole = (fits.turn turn).1 in
      let all = kept.tickets s in
      let part = at-le-sum_by (λ (u : V). times s u.tickets) views id v at in
      let less : s < drawn = first_between s drawn (omega arith) in
      let long : first + length (log ++ t ∷ []) ≡ s + 1 = omega (arith, length-append log (t ∷ [])) in
      let held : times s (ticket ∷ []) ≡ times s v.tickets = ap (times s) (sym one) in
      let is : ticket ≡ s = the-one s ticket (omega arith) in
      let once = numbers_once log drawn id homes views v kept at v.number in (
        less,
        record {
          legal = legal-snoc moves opening log t kept.legal
              (subst (λ (l : Log). moves (after_all opening l) call reply after) whole move);
          tickets = λ x.
              let before = kept.tickets x in
              let sums = sum_by-set_at (λ (u : V). times x u.tickets) views id v w at in
              let gone : times x v.tickets ≡ cond (s == x) 1 0 =
              ap (times x) one ∙ times-one x ticket ∙ ap (λ (n : ℕ). cond (n == x) 1 0) is in
              let rest = once_between-drop s drawn x less in
              let after : sum_by (λ (u : V). times x u.tickets) (set views id w) ≡ once_between (s + 1) drawn x =
              omega arith in
              subst (λ (n : ℕ). sum_by (λ (u : V). times x u.tickets) (set views id w) ≡ once_between n drawn x)
              (sym long) after;
          order = omega arith;
          limit = kept.limit;
          apart = λ x. let before = kept.apart x in let still = same_bearers views id v w at refl x in omega arith;
          unused = λ x le.
              same_bearers views id v w at refl x ∙ kept.unused x (subst (λ (n : ℕ). n ≤ x) (length-set views id w) le);
          nameless = still_nameless views id v w at refl refl kept.nameless;
          known = λ x nobody p.
              let nobody_before : bearers x views ≡ 0 = sym (same_bearers views id v w at refl x) ∙ nobody in
              made_at-theirs (x ∷ []) log t p
              (another x v.number (times-one v.number x) (λ e.
              let all = at-le-sum_by (λ (u : V). times x u.numbers) views id v at in
              let mine = subst (λ (n : ℕ). 1 ≤ times n v.numbers) (sym e) named in
              absurd (omega arith)))
              ∙ kept.known x nobody_before p;
          each = each_set (Fits opening first log drawn) (Fits opening first (log ++ t ∷ []) drawn) views id w kept.each
              (others_fit log drawn id homes views v call reply after kept at holds named)
              (ended_fits log drawn v call reply after fits whole (omega arith));
          home = λ _. (
            last,
            subst (λ (o : O). get_elem? homes' 0 ≡ some (some (put o last))) (sym (after_all-snoc opening log t)) home,
          );
          alone = λ k u there mark.
              ⊎_elim
              (λ r. (
                (length-set views id w ∙ (kept.alone id v at (ap (λ (x : V). x.alone) r.1 ∙ mark)).0),
                ap (λ (x : V). x.seen) (sym r.1) ∙ ap (λ (l : Log). l ++ t ∷ []) whole,
              ))
              (λ r. absurd (true≢false (sym mark ∙ not_alone log views id k v u kept.alone at r.0 r.1)))
              (at_set views id k w u there);
        },
      )
