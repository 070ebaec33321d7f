-- What is known of a table that was closed.
use Rattle.std.proofs.Common.{◌≡◌, ◌≢◌, ℕ, zero, suc, ◌+◌, ◌-◌, ◌*◌, ◌^◌, ◌<◌, ◌≤◌, true, List, [], ◌∷◌, length, get_or}
use Rattle.std.proofs.Common.{refl, sym, ap, ◌∙◌, subst, arith, lt_of_not-le}
use Rattle.std.specs.Prelude.{Option, Some, None, IfSome, IfNone}
use mathlib.Core.Logic.{dite}
use native.Mathlib.Decide.{dec_le, ℕ_discrete}
use mathlib.Core.Option.{none, some, some-injective, some-ne-none}
use Rattle.std.proofs.lemmas.Option.{none-some}
use lib.ListN.{get_elem?}
use Rattle.atomic_table.specs.Table.{State, Final, Seen}
use Rattle.atomic_table.specs.Seated.{TableId}
use Rattle.atomic_table.proofs.Lists.{at_map}
use Rattle.sysv_gate.specs.declared.gate.closing.Closing.{Closing}
use Rattle.sysv_gate.specs.declared.table.view.View.{View}
use Rattle.sysv_gate.specs.declared.table.view.Turn.{Turn}
use Rattle.sysv_gate.specs.declared.table.view.Sight.{Sight}
use Rattle.sysv_gate.specs.declared.table.view.Placed.{Placed}
use Rattle.sysv_lists.specs.Numbers.{times}
use Rattle.sysv_lists.specs.Prefix.{IsPrefixOf}
use Rattle.sysv_gate.specs.History.{IsLegal, after_all, HasItsOwn}
use Rattle.sysv_gate.specs.Rule.{Homes, Spot, put, IsKept, GatedBy}
use Rattle.sysv_gate.specs.Gates.{Holding}
use Rattle.sysv_gate.specs.Held.{holding}
use Rattle.sysv_gate.specs.Closings.{held_object, IsBack, ATurnIsDue, Closes}
use Rattle.sysv_gate.specs.Ending.{IsReadAt}
use Rattle.sysv_gate.specs.Shares.{IsWhole}
use Rattle.sysv_gate.specs.Orders.{turns_at}
use Rattle.sysv_gate.specs.Tables.{block, view_at, state_at, InOrder}
use Rattle.sysv_lists.proofs.Places.{at_below, one_there, there}
use Rattle.sysv_lists.proofs.Sums.{some_part}
use Rattle.sysv_lists.proofs.Counting.{once_between-first}
use Rattle.sysv_gate.proofs.OneViewKeepsRule.{no_ticket_no_turn, own_turns}
use Rattle.sysv_gate.proofs.Blocks.{block_read}
use Rattle.sysv_gate.proofs.StepAtPlace.{read_there}
use Rattle.sysv_gate.proofs.TableShares.{none_out}

read_at : (xs : List ℕ) (i a : ℕ) → get_elem? xs i ≡ some a → get_or xs i 0 ≡ a
read_at [] i a at = absurd (some-ne-none a (sym at))
read_at (x ∷ xs) zero a at = some-injective x a at
read_at (x ∷ xs) (suc i) a at = read_at xs i a at

module _ {O C R : Type 0} (moves : O → C → R → O → Type 0) (counted : O → ℕ × ℕ) where
  -- The view has what the seat has, and holds no ticket.
  record Resembles (h : Holding O C R) (v : View O C R) : Type 0 where
    pub numbers : v.numbers ≡ h.numbers
    pub seen : v.seen ≡ h.seen
    pub own : v.own ≡ h.own
    pub worn : v.worn ≡ h.worn
    pub alone : v.alone ≡ h.alone
    pub no_ticket : v.tickets ≡ []

  -- What the last state, with this history, shows to a seat at rest.
  record Ended (log : List (Turn O C R)) (h : Holding O C R) (served next : ℕ) (spot : Spot O C R) : Type 0 where
    pub legal : IsLegal moves h.gate.opening log
    pub longer : IsPrefixOf h.seen log
    pub own : HasItsOwn h.numbers h.own log
    pub count : served ≡ h.gate.first + length log
    pub few : h.gate.first + length log ≤ 2 ^ 62
    pub whole : served ≡ next → held_object spot ≡ Some (after_all h.gate.opening log)
    pub due : served ≢ next → ATurnIsDue moves h.gate log
    pub drawn : (h.gate.first + length log ≤ next) × (next ≤ 2 ^ 62)
    pub worn : h.worn ≡ true → next ≡ 2 ^ 62
    pub alone : h.alone ≡ true → (log ≡ h.seen) × (served ≡ next)

  -- A list of one view has no two different views.
  the_only : (views : List (View O C R)) (i k : ℕ) (v u : View O C R) → length views ≡ 1 → get_elem? views i ≡ some v →
      get_elem? views k ≡ some u → u ≡ v
  the_only views i k v u one at there =
      let here = at_below views i v at in
      let beside = at_below views k u there in
      one_there views i k v u (omega arith) at there

  -- If no view holds a ticket, all drawn tickets were served.
  all_served : (o : O) (first : ℕ) (log : List (Turn O C R)) (drawn : ℕ) (homes : Homes O C R)
      (views : List (View O C R)) → IsKept moves o first log drawn homes views
      → ((i : ℕ) (u : View O C R) → get_elem? views i ≡ some u → u.tickets ≡ []) → drawn ≤ first + length log
  all_served o first log drawn homes views kept empty =
      let s' : ℕ = first + length log in
      dite (dec_le drawn s') (λ d. d)
      (λ nd.
      let less : s' < drawn = lt_of_not-le nd in
      let all = kept.tickets s' in
      let holder =
      some_part (λ (u : View O C R). times s' u.tickets) views (omega (arith, once_between-first s' drawn less)) in
      let bare : times s' holder.1.tickets ≡ 0 = ap (times s') (empty holder.0 holder.1 holder.2) in
      let has = holder.3 in
      absurd (omega arith))

  ended_by : (h : Holding O C R) (id : ℕ) (v : View O C R) (s : State (Spot O C R) (View O C R))
      (log : List (Turn O C R)) (served next : ℕ) (spot : Spot O C R)
      → GatedBy moves counted h.gate.opening h.gate.first log s → get_elem? s.views id ≡ some v → Resembles h v
      → get_or s.words 16 0 ≡ served → get_or s.words 32 0 ≡ next
      → ((x : Spot O C R) → get_elem? s.homes 0 ≡ some (some x) → spot ≡ x) → Ended log h served next spot
  ended_by h id v s log served next spot held at same same_served same_next back =
      let kept = held.3 in
      let opening : O = h.gate.opening in
      let first : ℕ = h.gate.first in
      let drawn : ℕ = get_or s.words 32 0 in
      let count : served ≡ first + length log = sym same_served ∙ held.2 in
      let order = kept.order in
      let limit = kept.limit in
      let own = own_turns moves opening first log drawn id s.homes s.views v kept at in
      record {
        legal = kept.legal;
        longer = subst (λ (l : List (Turn O C R)). IsPrefixOf l log) same.seen (kept.each id v at).seen;
        own = subst (λ (l : List ℕ). HasItsOwn h.numbers l log) same.own
            (subst (λ (l : List ℕ). HasItsOwn l v.own log) same.numbers own);
        count = count;
        few = omega arith;
        whole = λ all.
            let home = kept.home (no_ticket_no_turn moves opening first log drawn s.homes s.views kept (omega arith)) in
            ap held_object (back (put (after_all opening log) home.0) home.1);
        due = λ more.
            let s' : ℕ = first + length log in
            let less : s' < drawn = omega arith in
            let all = kept.tickets s' in
            let holder = some_part (λ (v : View O C R). times s' v.tickets) s.views
            (omega (arith, once_between-first s' drawn less)) in
            (drawn, s.homes, s.views, kept, holder);
        drawn = (omega arith, omega arith);
        worn = λ mark. let reached = (kept.each id v at).worn (same.worn ∙ mark) in omega arith;
        alone = λ mark.
            let one = kept.alone id v at (same.alone ∙ mark) in
            let all = all_served opening first log drawn s.homes s.views kept (λ i u there.
            ap (λ (w : View O C R). w.tickets) (the_only s.views id i v u one.0 at there) ∙ same.no_ticket) in
            (sym one.1 ∙ same.seen, omega arith);
      }

  drawn_to : (log : List (Turn O C R)) (h : Holding O C R) (served next : ℕ) (spot : Spot O C R) (c : Closing O) →
      Ended log h served next spot → c.next_ticket ≡ next →
      (h.gate.first + length log ≤ c.next_ticket) × (c.next_ticket ≤ 2 ^ 62)
  drawn_to log h served next spot c end ticket =
      subst (λ n. (h.gate.first + length log ≤ n) × (n ≤ 2 ^ 62)) (sym ticket) end.drawn

  closes_whole : (log : List (Turn O C R)) (h : Holding O C R) (served next : ℕ) (spot : Spot O C R) (c : Closing O) →
      Ended log h served next spot → served ≡ next → c.object ≡ held_object spot → c.rest ≡ None →
      c.turns ≡ served - h.gate.first → c.next_ticket ≡ next → (closes : Closes moves h c) × (closes.log ≡ log)
  closes_whole log h served next spot c end all object rest turns ticket =
      let count = end.count in
      let is : c.object ≡ Some (after_all h.gate.opening log) = object ∙ end.whole all in (
        record {
          log = log;
          legal = end.legal;
          longer = end.longer;
          own = end.own;
          turns = turns ∙ (omega arith);
          few = end.few;
          object = subst (λ (x : Option O). IfSome x (λ o. (o ≡ after_all h.gate.opening log) × (c.rest ≡ None)))
              (sym is) (refl, rest);
          due = subst (λ (x : Option O). IfNone x (ATurnIsDue moves h.gate log)) (sym is) tt;
          drawn = drawn_to log h served next spot c end ticket;
          back = ((λ back. ticket ∙ sym all ∙ count), (λ same. (after_all h.gate.opening log, is)));
          worn = λ mark. ticket ∙ end.worn mark;
          alone = λ mark.
              let one = end.alone mark in
              (one.0, is ∙ ap (λ (l : List (Turn O C R)). Some (after_all h.gate.opening l)) one.0);
        },
        refl,
      )

  closes_due : (log : List (Turn O C R)) (h : Holding O C R) (served next : ℕ) (spot : Spot O C R) (c : Closing O) →
      Ended log h served next spot → served ≢ next → c.object ≡ None → c.turns ≡ served - h.gate.first →
      c.next_ticket ≡ next → (closes : Closes moves h c) × (closes.log ≡ log)
  closes_due log h served next spot c end more object turns ticket =
      let count = end.count in (
        record {
          log = log;
          legal = end.legal;
          longer = end.longer;
          own = end.own;
          turns = turns ∙ (omega arith);
          few = end.few;
          object = subst (λ (x : Option O). IfSome x (λ o. (o ≡ after_all h.gate.opening log) × (c.rest ≡ None)))
              (sym object) tt;
          due = subst (λ (x : Option O). IfNone x (ATurnIsDue moves h.gate log)) (sym object) (end.due more);
          drawn = drawn_to log h served next spot c end ticket;
          back = (
            (λ back. absurd (none-some back.0 (sym object ∙ back.1))),
            (λ same. absurd (more (count ∙ sym same ∙ ticket))),
          );
          worn = λ mark. ticket ∙ end.worn mark;
          alone = λ mark. absurd (more (end.alone mark).1);
        },
        refl,
      )

module _ {O C R : Type 0} (moves : O → C → R → O → Type 0) (counted : O → ℕ × ℕ) (openings : List O) (first : ℕ)
    (id : ℕ) (v : Sight O C R) (words : List ℕ) (slots : List (Spot O C R))
    (final : Final (Seen (InOrder moves counted openings first) id v) words slots) where
  abbrev St : State (Spot O C R) (Sight O C R)
  St = final.0

  abbrev pub Order : List (Placed O C R)
  Order = final.1.0.0

  -- At each place the rule of a gate holds.
  pub gated : (place : ℕ) (o : O) → get_elem? openings place ≡ some o →
      GatedBy moves counted o first (turns_at place Order) (state_at place St)
  gated = final.1.0.1.each

  -- What the pass knows of the place.
  pub view_there : (place : ℕ) → get_elem? (state_at place St).views id ≡ some (view_at place v)
  view_there place = at_map (view_at place) St.views id v final.1.1

  word_there : (place i n : ℕ) → i < 80 → get_elem? words (80 * place + i) ≡ some n →
      get_or (block place St.words) i 0 ≡ n
  word_there place i n low at = block_read place i 0 St.words low
      ∙ ap (λ (l : List ℕ). get_or l (80 * place + i) 0) final.2 ∙ read_at words (80 * place + i) n at

  -- The served ticket is at least the first one.
  pub served_from : (place served : ℕ) → place < length openings → get_elem? words (80 * place + 16) ≡ some served →
      first ≤ served
  served_from place served less at =
      let o = there openings place less in
      let count = (gated place o.0 o.1).2 in
      let is = word_there place 16 served (omega arith) at in
      omega arith

  -- What the place shows to a pass that has no ticket there.
  ended_there : (place : ℕ) (o : O) (table : TableId) (c : Closing O) → get_elem? openings place ≡ some o
      → (view_at place v).tickets ≡ [] → (read : IsReadAt first words slots place c)
      → Ended moves counted (turns_at place Order) (holding table first o (view_at place v)) read.served read.next
      read.spot
  ended_there place o table c opens empty read =
      let few = at_below openings place o opens in
      let many : length St.homes ≡ length openings = final.1.0.1.homes in
      ended_by moves counted (holding table first o (view_at place v)) id (view_at place v) (state_at place St)
      (turns_at place Order) read.served read.next read.spot (gated place o opens) (view_there place)
      (record { numbers = refl; seen = refl; own = refl; worn = refl; alone = refl; no_ticket = empty })
      (word_there place 16 read.served (omega arith) read.at_served)
      (word_there place 32 read.next (omega arith) read.at_next)
      (λ x there.
      some-injective read.spot x
      (sym read.at_spot
      ∙ final.4 place x (read_there St.homes place none (some x) (omega arith) (some-injective _ _ there))))

  -- What one place returns to a pass that has no ticket there.
  pub closes_at : (place : ℕ) (o : O) (table : TableId) (c : Closing O) → get_elem? openings place ≡ some o
      → (view_at place v).tickets ≡ [] → IsReadAt first words slots place c
      → (closes : Closes moves (holding table first o (view_at place v)) c) × (closes.log ≡ turns_at place Order)
  closes_at place o table c opens empty read =
      let log : List (Turn O C R) = turns_at place Order in
      let h : Holding O C R = holding table first o (view_at place v) in
      let end = ended_there place o table c opens empty read in
      dite (ℕ_discrete read.served read.next)
      (λ all.
      let w = read.whole all in
      closes_whole moves counted log h read.served read.next read.spot c end all w.0 w.1 read.turns read.ticket)
      (λ more.
      closes_due moves counted log h read.served read.next read.spot c end more (read.due more) read.turns read.ticket)

  -- If the pass has the whole table, the place returns its object.
  pub back_at : (place : ℕ) (o : O) (table : TableId) (c : Closing O) → get_elem? openings place ≡ some o →
      IsWhole v.shares → (view_at place v).tickets ≡ [] → IsReadAt first words slots place c → IsBack c
  back_at place o table c opens whole empty read =
      let few = at_below openings place o opens in
      let log : List (Turn O C R) = turns_at place Order in
      let kept = (gated place o opens).3 in
      let drawn : ℕ = get_or (block place St.words) 32 0 in
      let order = kept.order in
      let next = word_there place 32 read.next (omega arith) read.at_next in
      let end = ended_there place o table c opens empty read in
      let count = end.count in
      let all = all_served moves counted o first log drawn (state_at place St).homes (state_at place St).views kept
      (none_out moves counted openings first Order St id v final.1.0.1 final.1.1 whole place empty) in
      let same : read.served ≡ read.next = omega arith in
      (after_all o log, (read.whole same).0 ∙ end.whole same)
