-- Proves that each kind of step keeps the rule.
use Rattle.std.proofs.Common.{◌≡◌, ℕ, ◌+◌, ◌%◌, ◌^◌, ◌<◌, ◌≤◌, eqb, Bool, true, false, List, [], ◌∷◌, ◌++◌, length, set}
use Rattle.std.proofs.Common.{get_or, sym, refl, ap, ◌∙◌, subst, arith, length-set, length-append, get_or-set_same}
use Rattle.std.proofs.Common.{get_or-set_other}
use Rattle.std.specs.Prelude.{Option, Some, nat_lt}
use mathlib.Core.Bool.{true≢false}
use mathlib.Core.Logic.{dite}
use native.Mathlib.Decide.{ℕ_discrete}
use mathlib.Core.Option.{none, some}
use mathlib.Core.Option as maybe
use lib.ListN.{get_elem?}
use prog.Atomic.{either}
use Rattle.atomic_table.specs.Table.{State, step, Valid, stepped, carried_after}
use Rattle.atomic_table.proofs.Lists.{set_here, exchanged}
use Rattle.sysv_gate.specs.declared.table.view.View.{View}
use Rattle.sysv_gate.specs.declared.table.view.Turn.{Turn}
use Rattle.sysv_gate.specs.declared.table.place.Done.{Done}
use Rattle.sysv_gate.specs.declared.count.Count.{Count}
use Rattle.sysv_lists.specs.Numbers.{times, once_between}
use Rattle.sysv_lists.specs.Prefix.{IsPrefixOf}
use Rattle.sysv_gate.specs.History.{after_all, IsLegal, HasItsOwn}
use Rattle.sysv_gate.specs.Rule.{Homes, Spot, put, IsHome, Fits, IsKept, IsAnnounced, AreAnnounced, GatedBy}
use Rattle.sysv_gate.specs.Counts.{word_of, of_count}
use Rattle.sysv_gate.specs.Steps.{weighed, drew, looked, entered, turn_of, announced_by, read_to, ended, Mine, Weighs}
use Rattle.sysv_gate.specs.Steps.{Draws, Turns, Enters, Announces, Reads, Ends}
use Rattle.sysv_lists.proofs.Places.{set_at, one_there}
use Rattle.sysv_lists.proofs.Counting.{times-one, times-same, once_between-next}
use Rattle.sysv_gate.proofs.MarksAndCounts.{holds_some, marked_by, not_true}
use Rattle.sysv_lists.proofs.Prefixes.{prefix_self, prefix_whole}
use Rattle.sysv_gate.proofs.Histories.{after_all-snoc, grows_on}
use Rattle.sysv_gate.proofs.CountsStayAnnounced.{put_in, of_other, none_yet, from_48, below_80, same_count, counts_on}
use Rattle.sysv_gate.proofs.CountsStayAnnounced.{counts_stay, set_aside, exactly}
use Rattle.sysv_gate.proofs.OneSlotStep.{Touch, leaves, takes, gives, act_at, AllowsTo}
use Rattle.sysv_gate.proofs.OneViewKeepsRule.{served_alone, nobody_in_turn, no_ticket_no_turn, own_turns, stays, grows}

module _ {O C R : Type 0} (moves : O → C → R → O → Type 0) (counted : O → ℕ × ℕ) (opening : O) (first : ℕ) where
  abbrev V : Type 0
  V = View O C R

  abbrev Log : Type 0
  Log = List (Turn O C R)

  abbrev St : Type 0
  St = State (Spot O C R) V

  abbrev M : Type 0
  M = Mine O C R

  abbrev Holds : Log → St → Type 0
  Holds log = GatedBy moves counted opening first log

  abbrev Told : Log → List ℕ → List V → Type 0
  Told log words views = AreAnnounced counted (after_all opening log) words views

  -- What a step must keep at one state.
  abbrev Goes : Log → St → ℕ → ℕ → M → (ℕ → M → Type 0) → ℕ → Type 0
  Goes log s i id me then m =
      (w : V) × (a : Touch (Spot O C R)) × Valid s.homes me.1 (act_at 0 a)
      × Holds log (stepped s i m id me.1 w (act_at 0 a))
      × then (get_or s.words i 0) (w, carried_after me.1 (act_at 0 a))

  -- A step on the word with the ticket that is drawn next.
  on_ticket : (s : St) (log : Log) (drawn : ℕ) (homes : Homes O C R) (views : List V) → length s.words ≡ 80
      → length homes ≡ 1 → get_or s.words 16 0 ≡ first + length log
      → IsKept moves opening first log drawn homes views → Told log s.words views
      → Holds log record { words = set s.words 32 drawn; homes = homes; views = views }
  on_ticket s log drawn homes views wide one serves kept told = (
    length-set s.words 32 drawn ∙ wide,
    one,
    get_or-set_other s.words 32 16 drawn 0 (λ e. omega arith) ∙ serves,
    subst (λ (n : ℕ). IsKept moves opening first log n homes views)
        (sym (get_or-set_same s.words 32 drawn 0 (omega arith))) kept,
    set_aside counted (after_all opening log) s.words 32 drawn views (omega arith) told,
  )

  -- A step on the word with the ticket that is served.
  pub on_serving : (s : St) (log : Log) (served : ℕ) (homes : Homes O C R) (views : List V) → length s.words ≡ 80
      → length homes ≡ 1 → served ≡ first + length log
      → IsKept moves opening first log (get_or s.words 32 0) homes views → Told log s.words views
      → Holds log record { words = set s.words 16 served; homes = homes; views = views }
  on_serving s log served homes views wide one serves kept told = (
    length-set s.words 16 served ∙ wide,
    one,
    get_or-set_same s.words 16 served 0 (omega arith) ∙ serves,
    subst (λ (n : ℕ). IsKept moves opening first log n homes views)
        (sym (get_or-set_other s.words 16 32 served 0 (λ e. omega arith))) kept,
    set_aside counted (after_all opening log) s.words 16 served views (omega arith) told,
  )

  -- The counts stay announced if the view changes without an addition to them.
  pub told_on : (s : St) (log : Log) (id : ℕ) (v w : V) → Told log s.words s.views → get_elem? s.views id ≡ some v →
      w.announced ≡ v.announced → (w.in_turn ≡ false → v.in_turn ≡ false) → w.read ≡ v.read →
      Told log s.words (set s.views id w)
  told_on s log id v w told at = counts_stay counted (after_all opening log) s.words id s.views v w told at

  pub weighs : (log : Log) (slots id : ℕ) (me : M) →
      AllowsTo (Holds log) (Holds log) slots id me 32 (λ n. n) (Weighs (step slots 32 0 0 none) me)
  weighs log slots id me s held _ at _ =
      let n : ℕ = get_or s.words 32 0 in
      let kept = held.3 in
      let fits = kept.each id me.0 at in
      let w : V = weighed n me.0 in (
        w,
        leaves,
        tt,
        on_ticket s log n s.homes (set s.views id w) held.0 held.1 held.2
            (stays moves opening first log n n id s.homes s.homes s.views me.0 w kept at (omega arith) kept.limit refl
            refl (λ x. refl) (λ idle. (idle, refl))
            (record {
              start = fits.start;
              seen = fits.seen;
              also = fits.also;
              turn = fits.turn;
              own = fits.own;
              worn = marked_by me.0.worn n n fits.worn (omega arith);
            }) (kept.alone id me.0 at))
            (told_on s log id me.0 w held.4 at refl (λ idle. idle) refl),
        (refl, fits.worn),
      )

  -- If the tickets are below 2^62, a view is not marked.
  unmarked : (log : Log) (drawn : ℕ) (v : V) → Fits opening first log drawn v → drawn < 2 ^ 62 → v.worn ≡ false
  unmarked log drawn v fits less = not_true v.worn (λ mark. let limit = fits.worn mark in absurd (omega arith))

  -- What a new ticket changes in the tickets held.
  one_more : (s n x : ℕ) (tickets : List ℕ) → s ≤ n → tickets ≡ [] →
      times x (n ∷ []) + once_between s n x ≡ times x tickets + once_between s (n + 1) x
  one_more s n x tickets le empty =
      let gone : times x tickets ≡ 0 = ap (times x) empty in omega (arith, times-one x n, once_between-next s n x le)

  pub draws : (log : Log) (slots id : ℕ) (me : M) (ticket next : ℕ) → next ≡ ticket + 1 → ticket < 2 ^ 62
      → me.0.tickets ≡ [] → me.0.in_turn ≡ false
      → AllowsTo (Holds log) (Holds log) slots id me 32 (λ n. either (eqb n ticket) next n)
      (Draws (step slots 32 ticket next none) me)
  draws log slots id me ticket next up low empty idle s held _ at _ =
      let n : ℕ = get_or s.words 32 0 in
      let kept = held.3 in
      let fits = kept.each id me.0 at in
      let order = kept.order in
      let then = Draws (step slots 32 ticket next none) me in
      exchanged n ticket next (Goes log s 32 id me then)
      (λ hit.
      let w : V = drew n me.0 in
      let more : n + 1 ≡ next = omega arith in (
        w,
        leaves,
        tt,
        subst (λ (m : ℕ). Holds log (stepped s 32 m id me.1 w (act_at 0 leaves))) more
            (on_ticket s log (n + 1) s.homes (set s.views id w) held.0 held.1 held.2
            (stays moves opening first log n (n + 1) id s.homes s.homes s.views me.0 w kept at (omega arith)
            (omega arith) refl refl (λ x. one_more (first + length log) n x me.0.tickets order empty)
            (λ _. (idle, refl))
            (record {
              start = fits.start;
              seen = fits.seen;
              also = fits.also;
              turn = λ turn. absurd (true≢false (sym turn ∙ idle));
              own = fits.own;
              worn = λ mark. let limit = fits.worn mark in omega arith;
            }) (kept.alone id me.0 at))
            (told_on s log id me.0 w held.4 at refl (λ _. idle) refl)),
        ((λ _. (refl, unmarked log n me.0 fits (omega arith))), λ miss. absurd (miss hit)),
      ))
      (λ miss. (
        me.0,
        leaves,
        tt,
        on_ticket s log n s.homes (set s.views id me.0) held.0 held.1 held.2
            (stays moves opening first log n n id s.homes s.homes s.views me.0 me.0 kept at (omega arith) kept.limit
            refl refl (λ x. refl) (λ turn. (turn, refl)) fits (kept.alone id me.0 at))
            (told_on s log id me.0 me.0 held.4 at refl (λ turn. turn) refl),
        ((λ hit. absurd (miss hit)), λ _. refl),
      ))

  -- The object is in the table, and the seat takes it.
  taken : (s : St) (log : Log) (drawn id : ℕ) (v : V) → IsKept moves opening first log drawn s.homes s.views
      → ((k : ℕ) (u : V) → get_elem? s.views k ≡ some u → u.in_turn ≡ false) → IsHome (after_all opening log) s.homes
  taken s log drawn id v kept nobody = kept.home nobody

  -- What a seat knows of the counts when its turn begins.
  abbrev BeginsTurn : Log → V → Type 0
  BeginsTurn log v = ((count : Count) → of_count count v.read ≤ of_count count (counted (after_all opening log)))
      × ((count : Count) → of_count count v.announced ≡ 0)

  at_first : (s : St) (log : Log) (id : ℕ) (v : V) → Told log s.words s.views → get_elem? s.views id ≡ some v →
      ((k : ℕ) (u : V) → get_elem? s.views k ≡ some u → u.in_turn ≡ false) → BeginsTurn log v
  at_first s log id v told at nobody = (
    (λ count.
        let known : ℕ = of_count count (counted (after_all opening log)) in
        let value : ℕ = get_or s.words (word_of count) 0 in
        let is =
        exactly count known value s.views (told count) (λ k u there. (told count).quiet k u there (nobody k u there)) in
        let le = (told count).read id v at in
        omega arith),
    λ count. (told count).quiet id v at (nobody id v at),
  )

  -- A look, where b says whether the seat holds the served ticket.
  looks_as : (b : Bool) (log : Log) (id : ℕ) (me : M) (s : St) → Holds log s → get_elem? s.views id ≡ some me.0
      → me.0.in_turn ≡ false → me.1 ≡ []
      → nat_lt 0 (times (get_or s.words 16 0) me.0.tickets) ≡ b
      → (a : Touch (Spot O C R)) × Valid s.homes me.1 (act_at 0 a)
      × Holds log (stepped s 16 (get_or s.words 16 0) id me.1 (record me.0 { seen = log; in_turn = b }) (act_at 0 a))
      × IsPrefixOf me.0.seen log
      × (get_or s.words 16 0 ≡ first + length log) × IsLegal moves opening log
      × (b ≡ true →
      (last : Option (Done C R)) × (carried_after me.1 (act_at 0 a) ≡ (0, put (after_all opening log) last) ∷ []))
      × (b ≡ false → carried_after me.1 (act_at 0 a) ≡ me.1)
      × (b ≡ true → BeginsTurn log me.0)
      × HasItsOwn me.0.numbers me.0.own log
  looks_as true log id me s held at idle bare holds =
      let n : ℕ = get_or s.words 16 0 in
      let kept = held.3 in
      let fits = kept.each id me.0 at in
      let drawn : ℕ = get_or s.words 32 0 in
      let serves : n ≡ first + length log = held.2 in
      let has : 1 ≤ times (first + length log) me.0.tickets =
      subst (λ (m : ℕ). 1 ≤ times m me.0.tickets) serves (holds_some _ holds) in
      let home = kept.home (nobody_in_turn moves opening first log drawn id s.homes s.views me.0 kept at has idle) in
      let w : V = record me.0 { seen = log; in_turn = true } in (
        takes (put (after_all opening log) home.0),
        home.1,
        on_serving s log n (set s.homes 0 none) (set s.views id w) held.0 (length-set s.homes 0 none ∙ held.1) serves
            (stays moves opening first log drawn drawn id s.homes (set s.homes 0 none) s.views me.0 w kept at
            (omega arith) kept.limit refl refl (λ x. refl) (λ turn. absurd (true≢false turn))
            (record {
              start = fits.start;
              seen = prefix_self log;
              also = fits.also;
              turn = λ _. (has, refl);
              own = fits.own;
              worn = fits.worn;
            }) (λ mark. ((kept.alone id me.0 at mark).0, refl)))
            (told_on s log id me.0 w held.4 at refl (λ _. idle) refl),
        fits.seen,
        serves,
        kept.legal,
        (λ _. (home.0, ap (λ (xs : List (ℕ × Spot O C R)). (0, put (after_all opening log) home.0) ∷ xs) bare)),
        (λ turn. absurd (true≢false turn)),
        (λ _.
            at_first s log id me.0 held.4 at
            (nobody_in_turn moves opening first log drawn id s.homes s.views me.0 kept at has idle)),
        own_turns moves opening first log drawn id s.homes s.views me.0 kept at,
      )
  looks_as false log id me s held at idle bare holds =
      let n : ℕ = get_or s.words 16 0 in
      let kept = held.3 in
      let fits = kept.each id me.0 at in
      let drawn : ℕ = get_or s.words 32 0 in
      let serves : n ≡ first + length log = held.2 in
      let w : V = record me.0 { seen = log; in_turn = false } in (
        leaves,
        tt,
        on_serving s log n s.homes (set s.views id w) held.0 held.1 serves
            (stays moves opening first log drawn drawn id s.homes s.homes s.views me.0 w kept at (omega arith)
            kept.limit refl refl (λ x. refl) (λ _. (idle, refl))
            (record {
              start = fits.start;
              seen = prefix_self log;
              also = fits.also;
              turn = λ turn. absurd (true≢false (sym turn));
              own = fits.own;
              worn = fits.worn;
            }) (λ mark. ((kept.alone id me.0 at mark).0, refl)))
            (told_on s log id me.0 w held.4 at refl (λ _. idle) refl),
        fits.seen,
        serves,
        kept.legal,
        (λ turn. absurd (true≢false (sym turn))),
        (λ _. refl),
        (λ turn. absurd (true≢false (sym turn))),
        own_turns moves opening first log drawn id s.homes s.views me.0 kept at,
      )

  pub looks : (log : Log) (slots id : ℕ) (me : M) → me.0.in_turn ≡ false → me.1 ≡ [] →
      AllowsTo (Holds log) (Holds log) slots id me 16 (λ n. n) (Turns moves counted (step slots 16 0 0 none) me)
  looks log slots id me idle bare s held _ at _ =
      let n : ℕ = get_or s.words 16 0 in
      let kept = held.3 in
      let fits = kept.each id me.0 at in
      let b : Bool = nat_lt 0 (times n me.0.tickets) in
      let went = looks_as b log id me s held at idle bare refl in (
        looked n log me.0,
        went.0,
        went.1,
        went.2,
        λ o is.
            let start = fits.start o is in
            let same : opening ≡ o = sym start.0 in
            let due : n ≡ me.0.first + length log = went.4 ∙ ap (λ (m : ℕ). m + length log) (sym start.1) in
            let legal : IsLegal moves o log = subst (λ (p : O). IsLegal moves p log) same went.5 in (
              record { log = log; longer = went.3; count = due; view = refl; own = went.9 },
              legal,
              (λ turn.
                  let out = went.6 turn in
                  let begins = went.8 turn in
                  record {
                    legal = legal;
                    read = λ count.
                        subst (λ (p : O). of_count count me.0.read ≤ of_count count (counted (after_all p log))) same
                        (begins.0 count);
                    quiet = begins.1;
                    out = (out.0, out.1 ∙ ap (λ (p : O). (0, put (after_all p log) out.0) ∷ []) same);
                  }),
              went.7,
            ),
      )

  pub enters : (log : Log) (slots id : ℕ) (me : M) (ticket next : ℕ) (o : O) → next ≡ ticket + 1 → ticket < 2 ^ 62
      → me.0.opening ≡ Some o → ticket ≡ me.0.first + length me.0.seen → me.0.tickets ≡ [] → me.0.in_turn ≡ false
      → me.1 ≡ []
      → AllowsTo (Holds log) (Holds log) slots id me 32 (λ n. either (eqb n ticket) next n)
      (Enters moves counted (step slots 32 ticket next none) me)
  enters log slots id me ticket next o up low knows count empty idle bare s held _ at _ =
      let n : ℕ = get_or s.words 32 0 in
      let kept = held.3 in
      let fits = kept.each id me.0 at in
      let order = kept.order in
      let start = fits.start o knows in
      let same_first : me.0.first ≡ first = start.1 in
      let then = Enters moves counted (step slots 32 ticket next none) me in
      exchanged n ticket next (Goes log s 32 id me then)
      (λ hit.
      let w : V = entered n me.0 in
      let more : n + 1 ≡ next = omega arith in
      let whole : me.0.seen ≡ log = prefix_whole me.0.seen log fits.seen (omega arith) in
      let long : length me.0.seen ≡ length log = ap length whole in
      let served : n ≡ first + length log = omega arith in
      let nobody = no_ticket_no_turn moves opening first log n s.homes s.views kept (omega arith) in
      let home = kept.home nobody in
      let begins = at_first s log id me.0 held.4 at nobody in
      let out = set s.homes 0 maybe.none in
      let has : 1 ≤ times (first + length log) (n ∷ []) =
      subst (λ (m : ℕ). 1 ≤ times m (n ∷ [])) served (times-same n) in (
        w,
        takes (put (after_all opening log) home.0),
        home.1,
        subst (λ (m : ℕ). Holds log (stepped s 32 m id me.1 w (act_at 0 (takes (put (after_all opening log) home.0)))))
            more
            (on_ticket s log (n + 1) out (set s.views id w) held.0 (length-set s.homes 0 maybe.none ∙ held.1) held.2
            (stays moves opening first log n (n + 1) id s.homes out s.views me.0 w kept at (omega arith) (omega arith)
            refl refl (λ x. one_more (first + length log) n x me.0.tickets order empty)
            (λ turn. absurd (true≢false turn))
            (record {
              start = fits.start;
              seen = fits.seen;
              also = fits.also;
              turn = λ _. (has, whole);
              own = fits.own;
              worn = λ mark. let limit = fits.worn mark in omega arith;
            }) (kept.alone id me.0 at))
            (told_on s log id me.0 w held.4 at refl (λ _. idle) refl)),
        λ p is.
            let same : opening ≡ p = sym (fits.start p is).0 in (
              (λ _. (
                refl,
                record {
                  legal = subst (λ (l : Log). IsLegal moves p l) (sym whole)
                      (subst (λ (q : O). IsLegal moves q log) same kept.legal);
                  read = λ count.
                      subst (λ (q : O). of_count count me.0.read ≤ of_count count (counted (after_all q me.0.seen)))
                      same
                      (subst (λ (l : Log). of_count count me.0.read ≤ of_count count (counted (after_all opening l)))
                      (sym whole) (begins.0 count));
                  quiet = begins.1;
                  out = (
                    home.0,
                    ap (λ (xs : List (ℕ × Spot O C R)). (0, put (after_all opening log) home.0) ∷ xs) bare
                        ∙ ap (λ (l : Log). (0, put (after_all opening l) home.0) ∷ []) (sym whole)
                        ∙ ap (λ (q : O). (0, put (after_all q me.0.seen) home.0) ∷ []) same,
                  );
                },
                unmarked log n me.0 fits (omega arith),
              )),
              λ miss. absurd (miss hit),
            ),
      ))
      (λ miss. (
        me.0,
        leaves,
        tt,
        on_ticket s log n s.homes (set s.views id me.0) held.0 held.1 held.2
            (stays moves opening first log n n id s.homes s.homes s.views me.0 me.0 kept at (omega arith) kept.limit
            refl refl (λ x. refl) (λ turn. (turn, refl)) fits (kept.alone id me.0 at))
            (told_on s log id me.0 me.0 held.4 at refl (λ turn. turn) refl),
        λ p is. ((λ hit. absurd (miss hit)), λ _. refl),
      ))

  abbrev Ending : Log → Turn O C R → ℕ → ℕ → M → Type 0
  Ending log t slots id me = AllowsTo (Holds log) (Holds (log ++ t ∷ [])) slots id me 16 (λ n. (n + 1) % 2 ^ 64)
      (Ends (step slots 16 1 0 none) me)

  -- The counts have risen by what the seat has announced.
  abbrev Announced : O → V → O → Type 0
  Announced o v after = (count : Count) →
      of_count count (counted after) ≡ of_count count (counted (after_all o v.seen)) + of_count count v.announced

  -- The counts after the turn.
  told_after : (words : List ℕ) (log : Log) (id : ℕ) (views : List V) (v : V) (call : C) (reply : R) (after : O)
      → Told log words views → get_elem? views id ≡ some v → v.seen ≡ log → Announced opening v after
      → Told (log ++ turn_of v call reply after ∷ []) words (set views id (ended v call reply after))
  told_after words log id views v call reply after told at whole announced count =
      let w : V = ended v call reply after in
      let known : ℕ = of_count count (counted (after_all opening log)) in
      let later : ℕ = of_count count (counted after) in
      let value : ℕ = get_or words (word_of count) 0 in
      let rose : later ≡ known + of_count count v.announced = subst (λ (l : Log).
      later ≡ of_count count (counted (after_all opening l)) + of_count count v.announced) whole (announced count) in
      let none = none_yet count in
      let read = (told count).read id v at in
      let few = (told count).few in
      subst (λ (o : O). IsAnnounced count (of_count count (counted o)) value (set views id w))
      (sym (after_all-snoc opening log (turn_of v call reply after)))
      (counts_on count known later value value id views v w (told count) at (omega arith) (omega arith) (λ _. none)
      read (omega arith))

  ends_at : (log : Log) (slots id : ℕ) (v : V) (o : O) (ticket : ℕ) (after : O) (done : Done C R) → v.opening ≡ Some o
      → v.tickets ≡ ticket ∷ [] → v.in_turn ≡ true → 1 ≤ times v.number v.numbers
      → moves (after_all o v.seen) done.call.value done.reply.value after → Announced o v after
      → Ending log (turn_of v done.call.value done.reply.value after) slots id (v, (0, put after (Some done)) ∷ [])
  ends_at log slots id v o ticket after done knows one turn named move announced s held _ at _ =
      let n : ℕ = get_or s.words 16 0 in
      let drawn : ℕ = get_or s.words 32 0 in
      let kept = held.3 in
      let fits = kept.each id v at in
      let limit = kept.limit in
      let whole = (fits.turn turn).1 in
      let t : Turn O C R = turn_of v done.call.value done.reply.value after in
      let w : V = ended v done.call.value done.reply.value after in
      let homes : Homes O C R = set s.homes 0 (some (put after (Some done))) in
      let wide : length s.homes ≡ 1 = held.1 in
      let back : get_elem? homes 0 ≡ some (some (put after (Some done))) =
      set_here s.homes 0 (some (put after (Some done))) (omega arith) in
      let same : o ≡ opening = (fits.start o knows).0 in
      let grown = grows moves opening first log drawn id ticket s.homes homes s.views v done.call.value done.reply.value
      after (Some done) kept at one turn named
      (subst (λ (p : O). moves (after_all p v.seen) done.call.value done.reply.value after) same move) back in
      let less = grown.0 in
      let serves : n ≡ first + length log = held.2 in
      let next : n + 1 ≡ first + length (log ++ t ∷ []) = omega (arith, length-append log (t ∷ [])) in
      let small : n + 1 ≡ (n + 1) % 18446744073709551616 = omega arith in
      let here = set_at s.views id v w at in
      let own = own_turns moves opening first (log ++ t ∷ []) drawn id homes (set s.views id w) w grown.1 here in (
        w,
        gives,
        tt,
        subst (λ (m : ℕ).
            Holds (log ++ t ∷ []) record { words = set s.words 16 m; homes = homes; views = set s.views id w }) small
            (on_serving s (log ++ t ∷ []) (n + 1) homes (set s.views id w) held.0
            (length-set s.homes 0 (some (put after (Some done))) ∙ held.1) next grown.1
            (told_after s.words log id s.views v done.call.value done.reply.value after held.4 at whole
            (subst (λ (p : O). Announced p v after) same announced))),
        (refl, subst (λ (l : Log). HasItsOwn v.numbers (v.own ++ length v.seen ∷ []) (l ++ t ∷ [])) (sym whole) own),
      )

  pub ends : (log : Log) (slots id : ℕ) (me : M) (v : V) (o : O) (ticket : ℕ) (after : O) (done : Done C R)
      → me ≡ (v, (0, put after (Some done)) ∷ []) → v.opening ≡ Some o → v.tickets ≡ ticket ∷ [] → v.in_turn ≡ true
      → 1 ≤ times v.number v.numbers → moves (after_all o v.seen) done.call.value done.reply.value after
      → Announced o v after → Ending log (turn_of v done.call.value done.reply.value after) slots id me
  ends log slots id me v o ticket after done has knows one turn named move announced =
      subst (Ending log (turn_of v done.call.value done.reply.value after) slots id) (sym has)
      (ends_at log slots id v o ticket after done knows one turn named move announced)

  -- A step on the word of a count.
  on_count : (s : St) (log : Log) (count : Count) (n : ℕ) (views : List V) → Holds log s
      → get_or s.words 16 0 ≡ first + length log → IsKept moves opening first log (get_or s.words 32 0) s.homes views
      → IsAnnounced count (of_count count (counted (after_all opening log))) n views
      → ((other : Count) → ¬ (count ≡ other)
      → IsAnnounced other (of_count other (counted (after_all opening log))) (get_or s.words (word_of other) 0) views)
      → Holds log record { words = set s.words (word_of count) n; homes = s.homes; views = views }
  on_count s log count n views held serves kept here others =
      let far = from_48 count in
      let near = below_80 count in
      let wide : length s.words ≡ 80 = held.0 in (
        length-set s.words (word_of count) n ∙ wide,
        held.1,
        get_or-set_other s.words (word_of count) 16 n 0 (λ e. omega arith) ∙ serves,
        subst (λ (m : ℕ). IsKept moves opening first log m s.homes views)
            (sym (get_or-set_other s.words (word_of count) 32 n 0 (λ e. omega arith))) kept,
        λ other.
            dite (ℕ_discrete (word_of other) (word_of count))
            (λ e.
            subst (λ (c : Count).
            IsAnnounced c (of_count c (counted (after_all opening log)))
            (get_or (set s.words (word_of count) n) (word_of c) 0) views) (same_count count other (sym e))
            (subst (λ (m : ℕ). IsAnnounced count (of_count count (counted (after_all opening log))) m views)
            (sym (get_or-set_same s.words (word_of count) n 0 (omega arith))) here))
            (λ ne.
            subst (λ (m : ℕ). IsAnnounced other (of_count other (counted (after_all opening log))) m views)
            (sym (get_or-set_other s.words (word_of count) (word_of other) n 0 ne))
            (others other (λ is. ne (ap word_of (sym is))))),
      )

  -- A view changes in what it has announced or read of one count.
  told_but : (s : St) (log : Log) (count : Count) (id : ℕ) (v w : V) → Told log s.words s.views
      → get_elem? s.views id ≡ some v → (w.in_turn ≡ false → v.in_turn ≡ false)
      → ((other : Count) → ¬ (count ≡ other)
      → (of_count other w.announced ≡ of_count other v.announced) × (of_count other w.read ≡ of_count other v.read))
      → (other : Count) → ¬ (count ≡ other)
      → IsAnnounced other (of_count other (counted (after_all opening log))) (get_or s.words (word_of other) 0)
      (set s.views id w)
  told_but s log count id v w told at idle same other apart =
      let known : ℕ = of_count other (counted (after_all opening log)) in
      let value : ℕ = get_or s.words (word_of other) 0 in
      let read = (told other).read id v at in
      let stay = same other apart in
      let added = stay.0 in
      let seen = stay.1 in
      counts_on other known known value value id s.views v w (told other) at (omega arith) (omega arith)
      (λ still. added ∙ (told other).quiet id v at (idle still)) (omega arith) (told other).few

  pub announces : (log : Log) (slots id : ℕ) (me : M) (count : Count) (o : O) → me.0.opening ≡ Some o
      → me.0.in_turn ≡ true → of_count count me.0.announced ≡ 0
      → of_count count (counted (after_all o me.0.seen)) < 2 ^ 63
      → AllowsTo (Holds log) (Holds log) slots id me (word_of count) (λ n. (n + 1) % 2 ^ 64)
      (Announces (step slots (word_of count) 1 0 none) me)
  announces log slots id me count o knows turn quiet low s held _ at _ =
      let v : V = me.0 in
      let w : V = announced_by count 1 v in
      let kept = held.3 in
      let told = held.4 in
      let fits = kept.each id v at in
      let drawn : ℕ = get_or s.words 32 0 in
      let n : ℕ = get_or s.words (word_of count) 0 in
      let now = fits.turn turn in
      let whole : v.seen ≡ log = now.1 in
      let same : o ≡ opening = (fits.start o knows).0 in
      let known : ℕ = of_count count (counted (after_all opening log)) in
      let few : known < 2 ^ 63 = subst (λ (l : Log). of_count count (counted (after_all opening l)) < 2 ^ 63) whole
      (subst (λ (p : O). of_count count (counted (after_all p v.seen)) < 2 ^ 63) same low) in
      let nothing = λ (k : ℕ) (u : V) (there : get_elem? s.views k ≡ some u).
      dite (ℕ_discrete k id)
      (λ e. ap (λ (x : V). of_count count x.announced) (one_there s.views id k v u e at there) ∙ quiet)
      (λ ne.
      (told count).quiet k u there
      (served_alone moves opening first log drawn id s.homes s.views v kept at now.0 k u ne there)) in
      let is = exactly count known n s.views (told count) nothing in
      let small : n + 1 ≡ (n + 1) % 18446744073709551616 = omega arith in
      let put : of_count count w.announced ≡ 1 = put_in count 1 v.announced in
      let read = (told count).read id v at in (
        w,
        leaves,
        tt,
        subst (λ (m : ℕ).
            Holds log record { words = set s.words (word_of count) m; homes = s.homes; views = set s.views id w }) small
            (on_count s log count (n + 1) (set s.views id w) held held.2
            (stays moves opening first log drawn drawn id s.homes s.homes s.views v w kept at (omega arith) kept.limit
            refl refl (λ x. refl) (λ idle. (idle, refl))
            (record {
              start = fits.start;
              seen = fits.seen;
              also = fits.also;
              turn = fits.turn;
              own = fits.own;
              worn = fits.worn;
            }) (kept.alone id v at))
            (counts_on count known known n (n + 1) id s.views v w (told count) at (omega arith) (omega arith)
            (λ idle. absurd (true≢false (sym turn ∙ idle))) (omega arith) (omega arith))
            (told_but s log count id v w told at (λ idle. idle)
            (λ other apart. (of_other count other 1 v.announced apart, refl)))),
        λ c is.
            let m : M = (w, me.1) in
            subst (λ (x : Count). let m' : M = (announced_by x 1 v, me.1) in m ≡ m') (same_count count c is) refl,
      )

  pub reads : (log : Log) (slots id : ℕ) (me : M) (count : Count)
      → ((o : O) (c : C) (r : R) (o' : O) → moves o c r o' → of_count count (counted o) ≤ of_count count (counted o'))
      → me.0.in_turn ≡ false
      → AllowsTo (Holds log) (Holds log) slots id me (word_of count) (λ n. n)
      (Reads counted (step slots (word_of count) 0 0 none) me)
  reads log slots id me count grow idle s held _ at _ =
      let v : V = me.0 in
      let kept = held.3 in
      let told = held.4 in
      let fits = kept.each id v at in
      let drawn : ℕ = get_or s.words 32 0 in
      let n : ℕ = get_or s.words (word_of count) 0 in
      let w : V = read_to count n v in
      let known : ℕ = of_count count (counted (after_all opening log)) in
      let value = (told count).value in
      let read = (told count).read id v at in
      let put : of_count count w.read ≡ n = put_in count n v.read in
      let seen : of_count count (counted (after_all opening v.seen)) ≤ known = subst (λ (l : Log).
      of_count count (counted (after_all opening v.seen)) ≤ of_count count (counted (after_all opening l)))
      (sym fits.seen.1)
      (grows_on moves (λ (p : O). of_count count (counted p)) grow opening v.seen fits.seen.0
      (subst (IsLegal moves opening) fits.seen.1 kept.legal)) in (
        w,
        leaves,
        tt,
        on_count s log count n (set s.views id w) held held.2
            (stays moves opening first log drawn drawn id s.homes s.homes s.views v w kept at (omega arith) kept.limit
            refl refl (λ x. refl) (λ _. (idle, refl))
            (record {
              start = fits.start;
              seen = fits.seen;
              also = fits.also;
              turn = fits.turn;
              own = fits.own;
              worn = fits.worn;
            }) (kept.alone id v at))
            (counts_on count known known n n id s.views v w (told count) at (omega arith) (omega arith)
            (λ _. (told count).quiet id v at idle) (omega arith) (told count).few)
            (told_but s log count id v w told at (λ _. idle)
            (λ other apart. (refl, of_other count other n v.read apart))),
        λ c is o opens.
            let m : M = (w, me.1) in
            subst (λ (x : Count).
            let m' : M = (read_to x n v, me.1) in
            (m ≡ m') × (of_count x v.read ≤ n) × (of_count x (counted (after_all o v.seen)) ≤ n))
            (same_count count c is) (
              refl,
              read,
              subst (λ (p : O). of_count count (counted (after_all p v.seen)) ≤ n) (sym (fits.start o opens).0)
                  (omega arith),
            ),
      )
