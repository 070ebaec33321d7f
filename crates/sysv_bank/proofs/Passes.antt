-- What a call at one place does to a seat of a bank.
use Rattle.std.proofs.Common.{◌≡◌, ◌≢◌, ℕ, zero, suc, ◌+◌, ◌<◌, ◌≤◌, List, [], ◌∷◌, ◌++◌, map, length, set}
use Rattle.std.proofs.Common.{get_or, refl, sym, ap, ◌∙◌, subst, arith, length-append, get_or-set_other}
use Rattle.std.proofs.lemmas.List.{length-map}
use mathlib.Core.Logic.{dite}
use native.Mathlib.Decide.{ℕ_discrete}
use mathlib.Core.Option.{some, some-injective, some-ne-none}
use lib.ListN.{get_elem?}
use Rattle.atomic_table.specs.Seated.{TableId}
use Rattle.atomic_table.proofs.Lists.{at_map}
use Rattle.atomic_table.specs.declared.shared.Seat.{Seat}
use Rattle.sysv_lists.specs.Numbers.{times}
use Rattle.sysv_lists.specs.Prefix.{IsPrefixOf}
use Rattle.sysv_lists.proofs.Prefixes.{prefix_trans}
use Rattle.sysv_gate.specs.declared.table.view.View.{View}
use Rattle.sysv_gate.specs.declared.table.view.Turn.{Turn}
use Rattle.sysv_gate.specs.declared.table.view.Placed.{Placed}
use Rattle.sysv_gate.specs.declared.table.view.Sight.{Sight}
use Rattle.sysv_gate.specs.Rule.{Spot}
use Rattle.sysv_gate.specs.Steps.{spent}
use Rattle.sysv_gate.specs.History.{IsLegal, after_all}
use Rattle.sysv_gate.specs.Gates.{Gateway, Holding, KnowsItsOwn}
use Rattle.sysv_gate.specs.History.{made_at}
use Rattle.sysv_gate.specs.Orders.{turns_at, AreBelow, NoneMadeUnder}
use Rattle.sysv_gate.specs.Counts.{of_count}
use Rattle.sysv_gate.specs.Tables.{view_at, ReadsInOrder, me_at}
use Rattle.sysv_gate.specs.Locks.{LockView, IsLockOf, IsAt, IsSame, Idles, EndsOrder}
use Rattle.sysv_gate.proofs.OrderByPlace.{turns_append, turns_here, turns_longer, below_front}
use Rattle.sysv_bank.specs.declared.seat.BankSeat.TheInside.{Inside}
use Rattle.sysv_bank.specs.declared.bank.Bank.TheInside.{Inside as BankInside}
use Rattle.sysv_bank.specs.Banks.{ChangesAt, gates_of, EachKnowsItsOwn}
use Rattle.sysv_gate.specs.Held.{holding, RestsAt}
use Rattle.sysv_bank.specs.Passes.{Pass, holdings, GoesOn, AddsToOrder, SeenInOrder, IsOfPass, KnowsItsTurns}
use Rattle.sysv_bank.specs.Passes.{KnowsItsReads}
use Rattle.sysv_bank.specs.Resting.{IsNamedAs, pass_of, Rests, gateways, IsOpen}
use Rattle.sysv_lists.proofs.Places.{at_below, there}
use Rattle.sysv_bank.proofs.OwnTurns.{made_at-longer, before_last, goes_without}
use Rattle.sysv_bank.proofs.PassAfterCall.{Stays, Adds}

pub read_at : {A : Type 0} (xs : List A) (i : ℕ) (d a : A) → get_elem? xs i ≡ some a → get_or xs i d ≡ a
read_at [] i d a at = absurd (some-ne-none a (sym at))
read_at (x ∷ xs) zero d a at = some-injective x a at
read_at (x ∷ xs) (suc i) d a at = read_at xs i d a at

module _ {O C R : Type 0} (table : TableId) (first : ℕ) where
  pub holding_at : (os : List O) (vs : List (View O C R)) (place : ℕ) (o : O) → get_elem? os place ≡ some o →
      place < length vs →
      get_elem? (holdings table first os vs) place ≡ some (holding table first o (get_or vs place spent))
  holding_at [] vs place o at less = absurd (some-ne-none o (sym at))
  holding_at (p ∷ os) [] place o at less = absurd (omega arith)
  holding_at (p ∷ os) (v ∷ vs) zero o at less = ap (λ (q : O). some (holding table first q v)) (some-injective p o at)
  holding_at (p ∷ os) (v ∷ vs) (suc place) o at less = holding_at os vs place o at (omega arith)

  pub holding_set : (os : List O) (vs : List (View O C R)) (place : ℕ) (o : O) (w : View O C R) →
      get_elem? os place ≡ some o →
      holdings table first os (set vs place w) ≡ set (holdings table first os vs) place (holding table first o w)
  holding_set [] vs place o w at = absurd (some-ne-none o (sym at))
  holding_set (p ∷ os) [] place o w at = refl
  holding_set (p ∷ os) (v ∷ vs) zero o w at =
      ap (λ (q : O). holding table first q w ∷ holdings table first os vs) (some-injective p o at)
  holding_set (p ∷ os) (v ∷ vs) (suc place) o w at =
      ap (λ l. holding table first p v ∷ l) (holding_set os vs place o w at)

  pub gates_there : (os : List O) (vs : List (View O C R)) → length vs ≡ length os →
      gates_of (holdings table first os vs) ≡ gateways table first os
  gates_there [] vs same = refl
  gates_there (o ∷ os) [] same = absurd (omega arith)
  gates_there (o ∷ os) (v ∷ vs) same =
      ap (λ l. record { table = table; opening = o; first = first } ∷ l) (gates_there os vs (omega arith))

-- The gates determine the table, the first ticket and the objects.
pub same_gates : {O : Type 0} (t t' : TableId) (f f' : ℕ) (os os' : List O) → 1 ≤ length os' →
    gateways t f os ≡ gateways t' f' os' → (t ≡ t') × (f ≡ f') × (os ≡ os')
same_gates t t' f f' [] [] some_place is = absurd (omega arith)
same_gates t t' f f' (o ∷ os) [] some_place is = absurd (omega arith)
same_gates t t' f f' [] (o' ∷ os') some_place is = absurd (cc)
same_gates {O} t t' f f' (o ∷ os) (o' ∷ os') some_place is =
    let here : record { table = t; opening = o; first = f } ≡ record { table = t'; opening = o'; first = f' } =
    first_is _ _ _ _ is in
    (ap (λ (g : Gateway O). g.table) here, ap (λ (g : Gateway O). g.first) here, objects (o ∷ os) (o' ∷ os') is)
  where
    first_is : (g g' : Gateway O) (gs gs' : List (Gateway O)) → g ∷ gs ≡ g' ∷ gs' → g ≡ g'
    first_is g g' gs gs' is = cc

    back : (u : TableId) (k : ℕ) (ps : List O) → map (λ (g : Gateway O). g.opening) (gateways u k ps) ≡ ps
    back u k [] = refl
    back u k (p ∷ ps) = ap (λ l. p ∷ l) (back u k ps)

    objects : (ps qs : List O) → gateways t f ps ≡ gateways t' f' qs → ps ≡ qs
    objects ps qs is = sym (back t f ps) ∙ ap (map (λ (g : Gateway O). g.opening)) is ∙ back t' f' qs

-- Each place has a lock.
pub lock_there : {O C R : Type 0} (counted : O → ℕ × ℕ) (b : BankInside O C R) (gates : List (Gateway O)) (place : ℕ) →
    IsOpen counted b → gateways b.table.shared.table_id b.key.first b.key.openings.value.items ≡ gates →
    place < length gates → place < length b.locks.items
lock_there {O} counted b gates place opened viewed inside =
    let same : length gates ≡ length b.key.openings.value.items =
    ap length (sym viewed) ∙ length-map b.key.openings.value.items _ in
    let many = opened.locks.0 in
    omega arith

-- The own turns of a pass in the order that it has seen, under the numbers that it has everywhere.
pub own_named : {O C R : Type 0} (moves : O → C → R → O → Type 0) (s : Inside O C R) (rest : Rests moves s) (q p : ℕ)
    → q < length s.token.me.0.views
    → times p (view_at q s.token.me.0).own ≡ made_at (pass_of s).numbers (turns_at q s.token.me.0.seen) p
own_named moves s rest q p less =
    rest.owns.own q p less ∙ ap (λ (l : List ℕ). made_at l (turns_at q s.token.me.0.seen) p) (rest.named q less).1

module _ {O C R : Type 0} (moves : O → C → R → O → Type 0) (counted : O → ℕ × ℕ) (b : BankInside O C R)
    (s : Inside O C R) (gates : List (Gateway O)) (pass : Pass O C R) (opened : IsOpen counted b) (rest : Rests moves s)
    (viewed : gateways b.table.shared.table_id b.key.first b.key.openings.value.items ≡ gates)
    (shown : pass_of s ≡ pass)
    (fit : gates_of pass.seats ≡ gates) where
  abbrev Openings : List O
  Openings = b.key.openings.value.items

  pub same_table : (s.token.table_id ≡ b.table.shared.table_id) × (s.key.value.first ≡ b.key.first)
      × (s.key.value.openings.value.items ≡ Openings)
  same_table = same_gates _ _ _ _ _ _ opened.some_place
      (sym (gates_there s.token.table_id s.key.value.first s.key.value.openings.value.items s.token.me.0.views
      rest.many) ∙ ap (λ (p : Pass O C R). gates_of p.seats) shown ∙ fit ∙ sym viewed)

  pub many_gates : length gates ≡ length Openings
  many_gates = ap length (sym viewed) ∙ length-map Openings _

  module _ (place : ℕ) (lock : LockView O) (inside : place < length gates)
      (at : lock ≡ get_or b.locks.items place lock) where
    opens_at : (o : O) × (get_elem? Openings place ≡ some o)
    opens_at = there Openings place (let same = many_gates in omega arith)

    is_lock : lock ≡ record { place = place; opening = opens_at.0 }
    is_lock = at
        ∙ read_at b.locks.items place lock (record { place = place; opening = opens_at.0 })
        (opened.locks.1 place opens_at.0 (let same = many_gates in omega arith) opens_at.1)

    pub place_is : lock.place ≡ place
    place_is = ap (λ (d : LockView O). d.place) is_lock

    pub opens : get_elem? Openings lock.place ≡ some lock.opening
    opens = subst (λ (d : LockView O). get_elem? Openings d.place ≡ some d.opening) (sym is_lock) opens_at.1

    pub accepted : {D : Type 0} (made : O → C → R → O → Type 0) (accepts : O → D → Type 0) (call : D)
        → ((gate : Gateway O) → get_elem? gates place ≡ some gate → (log : List (Turn O C R))
        → IsLegal made gate.opening log → accepts (after_all gate.opening log) call)
        → (log : List (Turn O C R)) → IsLegal made lock.opening log → accepts (after_all lock.opening log) call
    accepted made accepts call fits =
        let gate : Gateway O =
        record { table = b.table.shared.table_id; opening = lock.opening; first = b.key.first } in
        let there = at_map (λ (o : O). record { table = b.table.shared.table_id; opening = o; first = b.key.first })
        Openings place lock.opening (subst (λ n. get_elem? Openings n ≡ some lock.opening) place_is opens) in
        fits gate (subst (λ gs. get_elem? gs place ≡ some gate) viewed there)

    pub lock_of : IsLockOf b.table.shared.table_id b.table.shared.key.openings.value.items lock
    lock_of = (
      subst (λ (os : List O). get_elem? os lock.place ≡ some lock.opening)
          (ap (λ k. k.openings.value.items) (sym opened.key)) opens,
      let words = opened.words in let same = many_gates in let is = place_is in omega arith,
    )

    opens_mine : get_elem? s.key.value.openings.value.items lock.place ≡ some lock.opening
    opens_mine = subst (λ (os : List O). get_elem? os lock.place ≡ some lock.opening) (sym same_table.2) opens

    pub rests_there : RestsAt moves lock.opening s.key.value.first (view_at lock.place s.token.me.0)
    rests_there = (rest.each lock.place lock.opening opens_mine).0

    known : lock.place < length s.token.me.0.views
    known =
        let few = at_below s.key.value.openings.value.items lock.place lock.opening opens_mine in
        let many = rest.many in
        omega arith

    pub is_at : IsAt b.table.shared.table_id lock s.token
    is_at = (
      same_table.0,
      known,
      rests_there.opening,
      rest.no_slot ∙ sym (ap (map (λ (x : ℕ × Spot O C R). (lock.place, x.1))) rest.no_slot),
      (rest.each lock.place lock.opening opens_mine).1,
    )

    pub idles : Idles (me_at lock.place s.token.me)
    idles = record {
      no_slot = ap (map (λ (x : ℕ × Spot O C R). (0, x.1))) rest.no_slot;
      no_ticket = rests_there.no_ticket;
      no_turn = rests_there.no_turn;
      named = rests_there.named;
    }

    -- After steps at the place.
    module _ (token : Seat (Spot O C R) (Sight O C R)) (went : IsSame lock.place s.token token) where
      abbrev Now : Inside O C R
      Now = record { token = token; key = s.key }

      abbrev Was : Holding O C R
      Was = holding s.token.table_id s.key.value.first lock.opening (view_at lock.place s.token.me.0)

      abbrev Is : Holding O C R
      Is = holding token.table_id s.key.value.first lock.opening (view_at lock.place token.me.0)

      pub gates_after : gates_of (pass_of Now).seats ≡ gates
      gates_after =
          gates_there token.table_id s.key.value.first s.key.value.openings.value.items token.me.0.views
          (went.2.many ∙ rest.many)
          ∙ ap (λ (t : TableId). gateways t s.key.value.first s.key.value.openings.value.items) went.0
          ∙ sym (gates_there s.token.table_id s.key.value.first s.key.value.openings.value.items s.token.me.0.views
          rest.many)
          ∙ ap (λ (p : Pass O C R). gates_of p.seats) shown
          ∙ fit

      pub changes : (how : Holding O C R → Holding O C R → Type 0) → how Was Is →
          ChangesAt place pass.seats (pass_of Now).seats how
      changes how is = record {
        was = Was;
        is = Is;
        at = ap (λ (p : Pass O C R). get_elem? p.seats place) (sym shown)
            ∙ ap (λ (k : ℕ). get_elem? (pass_of s).seats k) (sym place_is)
            ∙ holding_at s.token.table_id s.key.value.first s.key.value.openings.value.items s.token.me.0.views
            lock.place lock.opening opens_mine known;
        others = ap (holdings token.table_id s.key.value.first s.key.value.openings.value.items) went.2.others
            ∙ holding_set token.table_id s.key.value.first s.key.value.openings.value.items s.token.me.0.views
            lock.place lock.opening (view_at lock.place token.me.0) opens_mine
            ∙ ap (λ (t : TableId).
            set (holdings t s.key.value.first s.key.value.openings.value.items s.token.me.0.views) lock.place Is) went.0
            ∙ ap (λ (k : ℕ). set (pass_of s).seats k Is) place_is
            ∙ ap (λ (p : Pass O C R). set p.seats place Is) shown;
        change = is;
      }

      view_else : (other : ℕ) → other ≢ lock.place → view_at other token.me.0 ≡ view_at other s.token.me.0
      view_else other ne = ap (λ (vs : List (View O C R)). get_or vs other spent) went.2.others
          ∙ get_or-set_other s.token.me.0.views lock.place other (view_at lock.place token.me.0) spent ne

      module _ (names : IsNamedAs (view_at lock.place s.token.me.0) (view_at lock.place token.me.0)) where
        -- The numbers stay at each place.
        pub names_at : (other : ℕ) → IsNamedAs (view_at other s.token.me.0) (view_at other token.me.0)
        names_at other =
            dite (ℕ_discrete other lock.place)
            (λ e. subst (λ (k : ℕ). IsNamedAs (view_at k s.token.me.0) (view_at k token.me.0)) (sym e) names)
            (λ ne. (
              ap (λ (v : View O C R). v.number) (view_else other ne),
              ap (λ (v : View O C R). v.numbers) (view_else other ne),
            ))

        names_still : (other : ℕ) → other < length token.me.0.views →
            IsNamedAs (view_at 0 token.me.0) (view_at other token.me.0)
        names_still other less =
            let many = went.2.many in
            let old = rest.named other (omega arith) in
            let here = names_at other in
            let zero_here = names_at 0 in
            (here.0 ∙ old.0 ∙ sym zero_here.0, here.1 ∙ old.1 ∙ sym zero_here.1)

      -- If no turn was made, the order grows by turns of others only.
      pub goes_on : Stays (view_at lock.place s.token.me.0) (view_at lock.place token.me.0) → GoesOn pass (pass_of Now)
      goes_on stays =
          let many = went.2.many in
          let owns = went.2.owns rest.owns in
          let still : (other : ℕ) → (view_at other token.me.0).own ≡ (view_at other s.token.me.0).own = (λ other.
          dite (ℕ_discrete other lock.place)
          (λ e. subst (λ (k : ℕ). (view_at k token.me.0).own ≡ (view_at k s.token.me.0).own) (sym e) stays.own)
          (λ ne. ap (λ (v : View O C R). v.own) (view_else other ne))) in
          let goes : NoneMadeUnder (pass_of s).numbers went.2.order.0 =
          goes_without (pass_of s).numbers (length token.me.0.views) (λ q. (view_at q s.token.me.0).own)
          s.token.me.0.seen token.me.0.seen went.2.order owns.below
          (λ q p less. own_named moves s rest q p (omega arith))
          (λ q p less.
          let mine = owns.own q p less in
          let named = ap (λ (l : List ℕ). made_at l (turns_at q token.me.0.seen) p)
          ((names_at stays.names q).1 ∙ (rest.named q (omega arith)).1) in
          let same = ap (times p) (still q) in
          omega arith) in
          subst (λ (p : Pass O C R). GoesOn p (pass_of Now)) shown (record {
            order = (went.2.order, goes);
            number = (names_at stays.names 0).0;
            numbers = (names_at stays.names 0).1;
            shares = went.2.shares;
          })

      pub rests_after : token.me.1 ≡ [] → RestsAt moves lock.opening s.key.value.first (view_at lock.place token.me.0) →
          IsNamedAs (view_at lock.place s.token.me.0) (view_at lock.place token.me.0) → Rests moves Now
      rests_after none there names = record {
        no_slot = none;
        nothing_else = went.2.also ∙ rest.nothing_else;
        many = went.2.many ∙ rest.many;
        each = λ other o opens'.
            dite (ℕ_discrete other lock.place)
            (λ e.
            let same : lock.opening ≡ o = some-injective lock.opening o
            (sym opens_mine ∙ subst (λ (k : ℕ). get_elem? s.key.value.openings.value.items k ≡ some o) e opens') in
            subst (λ (k : ℕ).
            RestsAt moves o s.key.value.first (view_at k token.me.0)
            × IsPrefixOf (view_at k token.me.0).seen (turns_at k token.me.0.seen)) (sym e) (
              subst (λ (q : O). RestsAt moves q s.key.value.first (view_at lock.place token.me.0)) same there,
              went.2.within,
            ))
            (λ ne.
            let old = rest.each other o opens' in
            subst (λ (v : View O C R).
            RestsAt moves o s.key.value.first v × IsPrefixOf v.seen (turns_at other token.me.0.seen))
            (sym (view_else other ne)) (
              old.0,
              prefix_trans (view_at other s.token.me.0).seen (turns_at other s.token.me.0.seen)
                  (turns_at other token.me.0.seen) old.1
                  (turns_longer other s.token.me.0.seen token.me.0.seen went.2.order),
            ));
        named = names_still names;
        owns = went.2.owns rest.owns;
      }

      pub adds_to_order : EndsOrder lock.place s.token.me token.me →
          Adds (view_at lock.place s.token.me.0) (view_at lock.place token.me.0) → AddsToOrder place pass (pass_of Now)
      adds_to_order ends more =
          let many = went.2.many in
          let owns = went.2.owns rest.owns in
          let t : Placed O C R = record { place = lock.place; turn = ends.turn } in
          let cut : (q : ℕ) → turns_at q token.me.0.seen ≡ turns_at q ends.front ++ turns_at q (t ∷ []) =
          (λ q. ap (turns_at q) ends.order ∙ turns_append q ends.front (t ∷ [])) in
          let here : turns_at lock.place token.me.0.seen ≡ turns_at lock.place ends.front ++ ends.turn ∷ [] =
          cut lock.place
          ∙ ap (λ (l : List (Turn O C R)). turns_at lock.place ends.front ++ l)
          (turns_here lock.place (ends.turn ∷ [])) in
          let mine : (q p : ℕ) → q < length token.me.0.views →
          times p (view_at q token.me.0).own ≡ made_at (pass_of s).numbers (turns_at q token.me.0.seen) p = (λ q p less.
          owns.own q p less
          ∙ ap (λ (l : List ℕ). made_at l (turns_at q token.me.0.seen) p)
          ((names_at more.names q).1 ∙ (rest.named q (omega arith)).1)) in
          let most : (q p : ℕ) → q < length token.me.0.views →
          made_at (pass_of s).numbers (turns_at q ends.front) p ≤ times p (view_at q s.token.me.0).own = (λ q p less.
          dite (ℕ_discrete q lock.place)
          (λ e.
          let fewer : lock.place < length token.me.0.views = omega arith in
          let last : more.last ≡ length (turns_at lock.place ends.front) = (
          let a = more.seen in
          let b = ap length ends.seen in
          let c = ap length here in
          let d = length-append (turns_at lock.place ends.front) (ends.turn ∷ []) in
          omega arith) in
          subst (λ (k : ℕ).
          made_at (pass_of s).numbers (turns_at k ends.front) p ≤ times p (view_at k s.token.me.0).own) (sym e)
          (before_last (pass_of s).numbers (view_at lock.place s.token.me.0).own (turns_at lock.place ends.front)
          ends.turn more.last last
          (λ p'.
          ap (times p') (sym more.own) ∙ mine lock.place p' fewer
          ∙ ap (λ (l : List (Turn O C R)). made_at (pass_of s).numbers l p') here) p))
          (λ ne.
          let a = mine q p less in
          let same = ap (λ (v : View O C R). times p v.own) (view_else q ne) in
          let b = made_at-longer (pass_of s).numbers (turns_at q ends.front) (turns_at q (t ∷ [])) p in
          let c = ap (λ (l : List (Turn O C R)). made_at (pass_of s).numbers l p) (cut q) in
          omega arith)) in
          let reach : AreBelow (length token.me.0.views) ends.front = below_front (length token.me.0.views) ends.front
          (t ∷ []) (subst (AreBelow (length token.me.0.views)) ends.order owns.below) in
          let goes : NoneMadeUnder (pass_of s).numbers ends.longer.0 =
          goes_without (pass_of s).numbers (length token.me.0.views) (λ q. (view_at q s.token.me.0).own)
          s.token.me.0.seen ends.front ends.longer reach (λ q p less. own_named moves s rest q p (omega arith)) most in
          let number : (pass_of Now).number ≡ pass.number =
          (names_at more.names 0).0 ∙ ap (λ (p : Pass O C R). p.number) shown in
          record {
            others = ends.longer.0;
            turn = ends.turn;
            order = ends.order ∙ (λ i.
                (ends.longer.1 ∙ ap (λ (p : Pass O C R). p.order ++ ends.longer.0) shown) i
                ++ record { place = place_is i; turn = ends.turn } ∷ []);
            seen = λ h there.
                let is : Is ≡ h = some-injective Is h
                (sym (holding_at token.table_id s.key.value.first s.key.value.openings.value.items token.me.0.views
                lock.place lock.opening opens_mine (let many = went.2.many in let less = known in omega arith))
                ∙ subst (λ (k : ℕ). get_elem? (pass_of Now).seats k ≡ some h) (sym place_is) there) in
                ap (λ (x : Holding O C R). x.seen) (sym is) ∙ ends.seen
                ∙ ap (λ (k : ℕ). turns_at k token.me.0.seen) place_is;
            strangers = subst (λ (p : Pass O C R). NoneMadeUnder p.numbers ends.longer.0) shown goes;
            by = ends.by ∙ more.names.0 ∙ (rest.named lock.place known).0 ∙ ap (λ (p : Pass O C R). p.number) shown;
            number = number;
            numbers = (names_at more.names 0).1 ∙ ap (λ (p : Pass O C R). p.numbers) shown;
            shares = went.2.shares ∙ ap (λ (p : Pass O C R). p.shares) shown;
          }

module _ {O C R : Type 0} (moves : O → C → R → O → Type 0) (s : Inside O C R) (rest : Rests moves s) where
  -- What contracts see of a place comes from the view there.
  pub from_view : (place : ℕ) (h : Holding O C R) → get_elem? (pass_of s).seats place ≡ some h
      → (o : O) × (get_elem? s.key.value.openings.value.items place ≡ some o)
      × (holding s.token.table_id s.key.value.first o (view_at place s.token.me.0) ≡ h)
  from_view place h at =
      let gates =
      gates_there s.token.table_id s.key.value.first s.key.value.openings.value.items s.token.me.0.views rest.many in
      let long : length (pass_of s).seats ≡ length s.key.value.openings.value.items =
      sym (length-map (pass_of s).seats _) ∙ ap length gates ∙ length-map s.key.value.openings.value.items _ in
      let less = at_below (pass_of s).seats place h at in
      let many = rest.many in
      let o = there s.key.value.openings.value.items place (omega arith) in (
        o.0,
        o.1,
        some-injective _ h
            (sym (holding_at s.token.table_id s.key.value.first s.key.value.openings.value.items s.token.me.0.views
            place o.0 o.1 (omega arith)) ∙ at),
      )

  pub each_known : EachKnowsItsOwn moves (pass_of s).seats
  each_known place h at =
      let from = from_view place h at in
      let r = (rest.each place from.0 from.1).0 in
      subst (KnowsItsOwn moves) from.2 (record { legal = r.legal; own = r.own })

  pub seen_in_order : SeenInOrder (pass_of s)
  seen_in_order place h at =
      let from = from_view place h at in
      subst (λ (x : Holding O C R). IsPrefixOf x.seen (turns_at place s.token.me.0.seen)) from.2
      (rest.each place from.0 from.1).1

  pub knows_turns : KnowsItsTurns (pass_of s)
  knows_turns place h at =
      let from = from_view place h at in
      let r = (rest.each place from.0 from.1).0 in
      let less = at_below s.key.value.openings.value.items place from.0 from.1 in
      let many = rest.many in
      let few : place < length s.token.me.0.views = omega arith in
      let named = rest.named place few in
      subst (IsOfPass (pass_of s) place) from.2
      (record {
        number = named.0;
        numbers = named.1;
        named = subst (λ (n : ℕ). 1 ≤ times n (pass_of s).numbers) named.0
            (subst (λ (l : List ℕ). 1 ≤ times (view_at place s.token.me.0).number l) named.1 r.named);
        own = ((λ p. own_named moves s rest place p few), r.own.1);
      })

  pub knows_reads : (counted : O → ℕ × ℕ) → ReadsInOrder moves counted s.token.me.0 →
      KnowsItsReads moves counted (pass_of s)
  knows_reads counted known = record {
    legal = λ place h at.
        let from = from_view place h at in
        let less = at_below s.key.value.openings.value.items place from.0 from.1 in
        let many = rest.many in
        let opens = (rest.each place from.0 from.1).0.opening in
        subst (λ (x : Holding O C R). IsLegal moves x.gate.opening (turns_at place s.token.me.0.seen)) from.2
        (known.legal place from.0 (omega arith) opens);
    reads = λ place h at count.
        let from = from_view place h at in
        let less = at_below s.key.value.openings.value.items place from.0 from.1 in
        let many = rest.many in
        let opens = (rest.each place from.0 from.1).0.opening in
        subst (λ (x : Holding O C R).
        of_count count x.read
        ≤ of_count count (counted (after_all x.gate.opening (turns_at place s.token.me.0.seen))) + 1) from.2
        (known.reads place from.0 (omega arith) opens count);
  }

-- Two states of one seat belong to the same gates.
pub gates_same : {O C R : Type 0} (moves : O → C → R → O → Type 0) (s : Inside O C R)
    (token : Seat (Spot O C R) (Sight O C R)) → Rests moves s → Rests moves record { token = token; key = s.key }
    → token.table_id ≡ s.token.table_id
    → gates_of (pass_of (record { token = token; key = s.key })).seats ≡ gates_of (pass_of s).seats
gates_same moves s token rest rest' same =
    gates_there token.table_id s.key.value.first s.key.value.openings.value.items token.me.0.views rest'.many
    ∙ ap (λ (t : TableId). gateways t s.key.value.first s.key.value.openings.value.items) same
    ∙ sym (gates_there s.token.table_id s.key.value.first s.key.value.openings.value.items s.token.me.0.views rest.many)
