-- How seats of a bank are made, split and joined.
use Rattle.std.proofs.Common.{◌≡◌, ℕ, zero, suc, ◌+◌, ◌<◌, ◌≤◌, List, [], ◌∷◌, ◌++◌, map, length, get_or, refl, sym, ap}
use Rattle.std.proofs.Common.{◌∙◌, subst, arith}
use Rattle.std.proofs.lemmas.List.{length-map, get_or-map}
use mathlib.Core.Option.{some}
use lib.ListN.{get_elem?}
use Rattle.atomic_table.specs.Seated.{TableId}
use Rattle.atomic_table.specs.declared.shared.Seat.{Seat}
use Rattle.atomic_table.proofs.Lists.{at_map}
use Rattle.sysv_lists.specs.Prefix.{IsPrefixOf}
use Rattle.sysv_lists.specs.Numbers.{times}
use Rattle.sysv_lists.proofs.Places.{at_below, there}
use Rattle.sysv_lists.proofs.Counting.{times-same, times-append}
use Rattle.sysv_gate.specs.declared.table.view.View.{View}
use Rattle.sysv_gate.specs.declared.table.view.Turn.{Turn}
use Rattle.sysv_gate.specs.declared.table.view.Sight.{Sight}
use Rattle.sysv_gate.specs.declared.table.view.Placed.{Placed}
use Rattle.sysv_gate.specs.History.{made_at}
use Rattle.sysv_gate.specs.Rule.{Spot, start}
use Rattle.sysv_gate.specs.Steps as step
use Rattle.sysv_gate.specs.Steps.{spent, named, merged, Gathers}
use Rattle.sysv_gate.specs.Gates.{Gateway, Holding, opened, parted, IsSplit, Joins}
use Rattle.sysv_gate.specs.Orders.{turns_at, AreBelow, NoneMadeUnder}
use Rattle.sysv_gate.proofs.OrderByPlace.{turns_longer}
use Rattle.sysv_gate.proofs.Histories.{made_at-append}
use Rattle.sysv_gate.specs.Tables.{view_at, Passing, outset}
use Rattle.sysv_gate.specs.Plays.{halved, both_views, both_of, merged_from, Merges}
use Rattle.sysv_gate.specs.Locks.{IsNewcomer, KnowsAll}
use Rattle.std.specs.declared.snapshot.Snapshot.{Snapshot}
use Rattle.sysv_gate.specs.declared.table.TableKey.{TableKey}
use Rattle.sysv_gate.proofs.PassSplitKeepsRule.{both_length, merged_length}
use Rattle.sysv_bank.specs.declared.seat.BankSeat.TheInside.{Inside}
use Rattle.sysv_bank.specs.Banks.{Each2, Each3, AreOpened}
use Rattle.sysv_gate.specs.Held.{holding, RestsAt, RestsThere}
use Rattle.sysv_gate.proofs.RestingViews.{Told, none_own, parted_view, parted_there, newcomer_view, newcomer_there}
use Rattle.sysv_gate.proofs.RestingViews.{joined_one, joined_view, joined_told, joined_there}
use Rattle.sysv_bank.specs.Passes.{holdings, SplitsOff, JoinsOrders}
use Rattle.sysv_bank.specs.Resting.{pass_of, Rests, gateways}
use Rattle.sysv_bank.proofs.OwnTurns.{made_at-longer, none_made, goes_without}
use Rattle.sysv_bank.proofs.Passes.{read_at, own_named}

-- ---- the first seat

module _ {O C R : Type 0} where
  pub first_seats : (table : TableId) (first : ℕ) (os : List O) →
      holdings {C = C} {R = R} table first os (map (λ o. start o first) os) ≡ map opened (gateways table first os)
  first_seats table first [] = refl
  first_seats table first (o ∷ os) =
      ap (λ l. opened (record { table = table; opening = o; first = first }) ∷ l) (first_seats table first os)

  first_many : (s : Inside O C R) → s.token.me ≡ (outset s.key.value.openings.value.items s.key.value.first, []) →
      length s.token.me.0.views ≡ length s.key.value.openings.value.items
  first_many s is = ap (λ (m : Passing O C R). length m.0.views) is ∙ length-map s.key.value.openings.value.items _

  first_view : (s : Inside O C R) → s.token.me ≡ (outset s.key.value.openings.value.items s.key.value.first, []) →
      (place : ℕ) (o : O) → get_elem? s.key.value.openings.value.items place ≡ some o →
      view_at place s.token.me.0 ≡ start o s.key.value.first
  first_view s is place o at =
      let first : ℕ = s.key.value.first in
      ap (λ (m : Passing O C R). view_at place m.0) is
      ∙ read_at (map (λ (p : O). start p first) s.key.value.openings.value.items) place spent (start o first)
      (at_map (λ (p : O). start p first) s.key.value.openings.value.items place o at)

  pub first_rests : (moves : O → C → R → O → Type 0) (s : Inside O C R) →
      s.token.me ≡ (outset s.key.value.openings.value.items s.key.value.first, []) → Rests moves s
  first_rests moves s is = record {
    no_slot = ap (λ (m : Passing O C R). m.1) is;
    nothing_else = ap (λ (m : Passing O C R). m.0.also) is;
    many = first_many s is;
    each = λ place o at.
        let first : ℕ = s.key.value.first in
        subst (λ (v : View O C R). RestsAt moves o first v × IsPrefixOf v.seen (turns_at place s.token.me.0.seen))
        (sym (first_view s is place o at)) (
          record {
            no_ticket = refl;
            no_turn = refl;
            nothing_else = refl;
            opening = refl;
            first = refl;
            named = times-same 0;
            legal = tt;
            own = ((λ p. refl), λ x. omega arith);
          },
          (turns_at place s.token.me.0.seen, refl),
        );
    named = λ place less.
        let many = first_many s is in
        let here = there s.key.value.openings.value.items place (omega arith) in
        let zero_there = there s.key.value.openings.value.items 0 (omega arith) in
        let one = first_view s is place here.0 here.1 in
        let two = first_view s is 0 zero_there.0 zero_there.1 in (
          ap (λ (v : View O C R). v.number) one ∙ sym (ap (λ (v : View O C R). v.number) two),
          ap (λ (v : View O C R). v.numbers) one ∙ sym (ap (λ (v : View O C R). v.numbers) two),
        );
    owns = record {
      below = subst (AreBelow (length s.token.me.0.views)) (sym (ap (λ (m : Passing O C R). m.0.seen) is)) tt;
      own = λ place p less.
          let many = first_many s is in
          let here = there s.key.value.openings.value.items place (omega arith) in
          let one = first_view s is place here.0 here.1 in
          ap (λ (v : View O C R). times p v.own) one
          ∙ sym (ap (λ (l : List (Placed O C R)). made_at (view_at place s.token.me.0).numbers (turns_at place l) p)
          (ap (λ (m : Passing O C R). m.0.seen) is));
    };
  }

  -- The number of the first seat.
  pub first_named : (s : Inside O C R) → 1 ≤ length s.key.value.openings.value.items →
      s.token.me ≡ (outset s.key.value.openings.value.items s.key.value.first, []) →
      ((pass_of s).number ≡ 0) × ((pass_of s).numbers ≡ 0 ∷ [])
  first_named s some_place is =
      let zero_there = there s.key.value.openings.value.items 0 (omega arith) in
      let view = first_view s is 0 zero_there.0 zero_there.1 in
      (ap (λ (v : View O C R). v.number) view, ap (λ (v : View O C R). v.numbers) view)

pub first_opened : {O : Type 0} (table : TableId) (first : ℕ) (os : List O) →
    AreOpened os first (gateways table first os)
first_opened table first os = (objects os, λ k d less. firsts os k d less)
  where
    objects : {O : Type 0} (ps : List O) → map (λ g. g.opening) (gateways table first ps) ≡ ps
    objects [] = refl
    objects (p ∷ ps) = ap (λ l. p ∷ l) (objects ps)

    firsts : {O : Type 0} (ps : List O) (k : ℕ) (d : Gateway O) → k < length (gateways table first ps) →
        (get_or (gateways table first ps) k d).first ≡ first
    firsts [] k d less = absurd (omega arith)
    firsts (p ∷ ps) zero d less = refl
    firsts (p ∷ ps) (suc k) d less = firsts ps k d (omega arith)

-- ---- a seat that is split off

module _ {O C R : Type 0} (moves : O → C → R → O → Type 0) where
  pub knows_all : (s : Inside O C R) → Rests moves s → KnowsAll s.key.value.openings.value.items s.token.me.0
  knows_all s rest = (
    rest.many,
    λ place o at.
        let there = (rest.each place o at).0 in (there.opening, (there.no_ticket, there.no_turn, there.named)),
  )

  parted_seats : (table : TableId) (first : ℕ) (os : List O) (vs : List (View O C R)) →
      holdings table first os (map step.parted vs) ≡ map parted (holdings table first os vs)
  parted_seats table first [] vs = refl
  parted_seats table first (o ∷ os) [] = refl
  parted_seats table first (o ∷ os) (v ∷ vs) =
      ap (λ l. parted (holding table first o v) ∷ l) (parted_seats table first os vs)

  split_seats : (table : TableId) (first n : ℕ) (os : List O) (vs : List (View O C R))
      → ((place k : ℕ) → place < length vs → made_at (n ∷ []) (get_or vs place spent).seen k ≡ 0)
      → Each2 IsSplit (holdings table first os vs) (holdings table first os (map (named n) (map step.newcomer vs)))
  split_seats table first n [] vs none = tt
  split_seats table first n (o ∷ os) [] none = tt
  split_seats table first n (o ∷ os) (v ∷ vs) none = (
    (n, refl, none_own n v.seen (λ k. none 0 k (omega arith))),
    split_seats table first n os vs (λ place k less. none (suc place) k (omega arith)),
  )

  module _ (s : Inside O C R) (rest : Rests moves s) (token : Seat (Spot O C R) (Sight O C R))
      (same : token.table_id ≡ s.token.table_id) where
    abbrev Now : Inside O C R
    Now = record { token = token; key = s.key }

    abbrev Os : List O
    Os = s.key.value.openings.value.items

    pub parted_now : token.me ≡ (halved s.token.me.0, s.token.me.1) → (pass_of Now).seats ≡ map parted (pass_of s).seats
    parted_now is =
        ap (λ (m : Passing O C R). holdings token.table_id s.key.value.first Os m.0.views) is
        ∙ ap (λ (t : TableId). holdings t s.key.value.first Os (map step.parted s.token.me.0.views)) same
        ∙ parted_seats s.token.table_id s.key.value.first Os s.token.me.0.views

    parted_at : token.me ≡ (halved s.token.me.0, s.token.me.1) → (place : ℕ) → place < length s.token.me.0.views →
        view_at place token.me.0 ≡ step.parted (view_at place s.token.me.0)
    parted_at is place less =
        ap (λ (m : Passing O C R). view_at place m.0) is ∙ parted_view moves place s.token.me.0 less

    parted_many : token.me ≡ (halved s.token.me.0, s.token.me.1) → length token.me.0.views ≡ length s.token.me.0.views
    parted_many is = ap (λ (m : Passing O C R). length m.0.views) is ∙ length-map s.token.me.0.views step.parted

    pub parted_rests : token.me ≡ (halved s.token.me.0, s.token.me.1) → Rests moves Now
    parted_rests is = record {
      no_slot = ap (λ (m : Passing O C R). m.1) is ∙ rest.no_slot;
      nothing_else = ap (λ (m : Passing O C R). m.0.also) is ∙ rest.nothing_else;
      many = parted_many is ∙ rest.many;
      each = λ place o at.
          let less = at_below Os place o at in
          let many = rest.many in
          subst (λ (m : Passing O C R). RestsThere moves place o s.key.value.first m.0) (sym is)
          (parted_there moves place s.token.me.0 (omega arith) o s.key.value.first (rest.each place o at));
      named = λ place less.
          let many = parted_many is in
          let one = parted_at is place (omega arith) in
          let two = parted_at is 0 (omega arith) in
          let old = rest.named place (omega arith) in (
            ap (λ (v : View O C R). v.number) one ∙ old.0 ∙ sym (ap (λ (v : View O C R). v.number) two),
            ap (λ (v : View O C R). v.numbers) one ∙ old.1 ∙ sym (ap (λ (v : View O C R). v.numbers) two),
          );
      owns =
          let order : token.me.0.seen ≡ s.token.me.0.seen = ap (λ (m : Passing O C R). m.0.seen) is in
          let many = parted_many is in
          record {
            below = subst (λ (n : ℕ). AreBelow n token.me.0.seen) (sym many)
                (subst (AreBelow (length s.token.me.0.views)) (sym order) rest.owns.below);
            own = λ place p less.
                let view = parted_at is place (omega arith) in
                subst (λ (v : View O C R). times p v.own ≡ made_at v.numbers (turns_at place token.me.0.seen) p)
                (sym view)
                (subst (λ (l : List (Placed O C R)).
                times p (view_at place s.token.me.0).own
                ≡ made_at (view_at place s.token.me.0).numbers (turns_at place l) p)
                (sym order) (rest.owns.own place p (omega arith)));
          };
    }

    pub split_now : IsNewcomer s.token.me.0 token.me → Each2 IsSplit (pass_of s).seats (pass_of Now).seats
    split_now new =
        subst (λ (l : List (Holding O C R)). Each2 IsSplit (pass_of s).seats l)
        (sym (ap (λ (m : Passing O C R). holdings token.table_id s.key.value.first Os m.0.views) new.1
        ∙ ap (λ (t : TableId).
        holdings t s.key.value.first Os (map (named new.0) (map step.newcomer s.token.me.0.views))) same))
        (split_seats s.token.table_id s.key.value.first new.0 Os s.token.me.0.views new.2)

    split_many : IsNewcomer s.token.me.0 token.me → length token.me.0.views ≡ length s.token.me.0.views
    split_many new = ap (λ (m : Passing O C R). length m.0.views) new.1
        ∙ length-map (map step.newcomer s.token.me.0.views) (named new.0) ∙ length-map s.token.me.0.views step.newcomer

    split_at : (new : IsNewcomer s.token.me.0 token.me) (place : ℕ) → place < length s.token.me.0.views →
        view_at place token.me.0 ≡ named new.0 (step.newcomer (view_at place s.token.me.0))
    split_at new place few =
        ap (λ (m : Passing O C R). view_at place m.0) new.1 ∙ newcomer_view moves place s.token.me.0 few new.0

    pub split_rests : IsNewcomer s.token.me.0 token.me → Rests moves Now
    split_rests new =
        let is = new.1 in
        let n : ℕ = new.0 in record {
          no_slot = ap (λ (m : Passing O C R). m.1) is;
          nothing_else = ap (λ (m : Passing O C R). m.0.also) is;
          many = split_many new ∙ rest.many;
          each = λ place o at.
              let less = at_below Os place o at in
              let many = rest.many in
              let few : place < length s.token.me.0.views = omega arith in
              subst (λ (m : Passing O C R). RestsThere moves place o s.key.value.first m.0) (sym is)
              (newcomer_there moves place s.token.me.0 few n o s.key.value.first (λ k. new.2 place k few)
              (rest.each place o at));
          named = λ place less.
              let many = split_many new in
              let one = split_at new place (omega arith) in
              let two = split_at new 0 (omega arith) in (
                ap (λ (v : View O C R). v.number) one ∙ sym (ap (λ (v : View O C R). v.number) two),
                ap (λ (v : View O C R). v.numbers) one ∙ sym (ap (λ (v : View O C R). v.numbers) two),
              );
          owns =
              let order : token.me.0.seen ≡ s.token.me.0.seen = ap (λ (m : Passing O C R). m.0.seen) is in
              let many = split_many new in
              record {
                below = subst (λ (k : ℕ). AreBelow k token.me.0.seen) (sym many)
                    (subst (AreBelow (length s.token.me.0.views)) (sym order) rest.owns.below);
                own = λ place p less.
                    let view = split_at new place (omega arith) in
                    subst (λ (v : View O C R). times p v.own ≡ made_at v.numbers (turns_at place token.me.0.seen) p)
                    (sym view)
                    (subst (λ (l : List (Placed O C R)). 0 ≡ made_at (n ∷ []) (turns_at place l) p) (sym order)
                    (sym (new.3 place p (omega arith))));
              };
        }

    -- The order that the two seats have seen, and their numbers.
    pub split_order : (key : Snapshot (TableKey O)) (parent : Seat (Spot O C R) (Sight O C R)) → 1 ≤ length Os
        → parent.me ≡ (halved s.token.me.0, s.token.me.1) → IsNewcomer s.token.me.0 token.me
        → SplitsOff (pass_of s) (pass_of (record { token = parent; key = s.key }))
        (pass_of (record { token = token; key = key }))
    split_order key parent some_place is new =
        let many = rest.many in
        let some_view : 0 < length s.token.me.0.views = omega arith in
        let n : ℕ = new.0 in
        let theirs : view_at 0 parent.me.0 ≡ step.parted (view_at 0 s.token.me.0) = ap (λ (m : Passing O C R).
        view_at 0 m.0) is ∙ get_or-map step.parted s.token.me.0.views 0 spent spent some_view in
        let mine = split_at new 0 some_view in
        let order : token.me.0.seen ≡ s.token.me.0.seen = ap (λ (m : Passing O C R). m.0.seen) new.1 in
        let numbers : (pass_of Now).numbers ≡ n ∷ [] = ap (λ (v : View O C R). v.numbers) mine in
        let number : (pass_of Now).number ≡ n = ap (λ (v : View O C R). v.number) mine in
        let none : NoneMadeUnder (n ∷ []) s.token.me.0.seen =
        none_made (n ∷ []) (length s.token.me.0.views) s.token.me.0.seen rest.owns.below (λ q j less. new.3 q j less) in
        record {
          order = ap (λ (m : Passing O C R). m.0.seen) is;
          number = ap (λ (v : View O C R). v.number) theirs;
          numbers = ap (λ (v : View O C R). v.numbers) theirs;
          shares = ap (λ (m : Passing O C R). m.0.shares) is;
          new_shares = ap (λ (m : Passing O C R). m.0.shares) new.1;
          new_order = order;
          new_numbers = numbers ∙ ap (λ (k : ℕ). k ∷ []) (sym number);
          no_turn = subst (λ (l : List ℕ). NoneMadeUnder l token.me.0.seen) (sym numbers)
              (subst (NoneMadeUnder (n ∷ [])) (sym order) none);
        }

-- ---- a seat into which another is joined

module _ {O C R : Type 0} (moves : O → C → R → O → Type 0) where
  joined_seats : (table table' : TableId) (first first' : ℕ) (order : List (Placed O C R)) (os os' : List O)
      (vs ws : List (View O C R)) (from : ℕ) → length vs ≡ length os → length ws ≡ length vs → length os' ≡ length os
      → ((place : ℕ) (o : O) → get_elem? os place ≡ some o
      → Told moves order o (get_or vs place spent) (get_or ws place spent) (from + place))
      → Each3 (Joins moves) (holdings table first os vs) (holdings table' first' os' ws)
      (holdings table first os (merged_from from order (both_views vs ws)))
  joined_seats table table' first first' order [] [] vs ws from one two three each = tt
  joined_seats table table' first first' order [] (o' ∷ os') vs ws from one two three each = absurd (omega arith)
  joined_seats table table' first first' order (o ∷ os) [] vs ws from one two three each = absurd (omega arith)
  joined_seats table table' first first' order (o ∷ os) (o' ∷ os') [] ws from one two three each = absurd (omega arith)
  joined_seats table table' first first' order (o ∷ os) (o' ∷ os') (v ∷ vs) [] from one two three each =
      absurd (omega arith)
  joined_seats table table' first first' order (o ∷ os) (o' ∷ os') (v ∷ vs) (w ∷ ws) from one two three each =
      let here : from + 0 ≡ from = omega arith in (
        joined_one moves table table' first first' o o' order from v w
            (subst (λ (k : ℕ). Told moves order o v w k) here (each 0 o refl)),
        joined_seats table table' first first' order os os' vs ws (suc from) (omega arith) (omega arith) (omega arith)
            (λ place p at.
            let there : from + suc place ≡ suc from + place = omega arith in
            subst (λ (k : ℕ). Told moves order p (get_or vs place spent) (get_or ws place spent) k) there
            (each (suc place) p at)),
      )

  -- A seat at rest stays so if its key is replaced by an equal one.
  pub rests_key : (s : Inside O C R) (key : Snapshot (TableKey O)) → key.value.first ≡ s.key.value.first →
      key.value.openings.value.items ≡ s.key.value.openings.value.items → Rests moves s →
      Rests moves record { token = s.token; key = key }
  rests_key s key first os rest = record {
    no_slot = rest.no_slot;
    nothing_else = rest.nothing_else;
    many = rest.many ∙ ap length (sym os);
    each = λ place o at.
        let r = rest.each place o (subst (λ (l : List O). get_elem? l place ≡ some o) os at) in
        (subst (λ (n : ℕ). RestsAt moves o n (view_at place s.token.me.0)) (sym first) r.0, r.1);
    named = rest.named;
    owns = rest.owns;
  }

  pub seats_key : (s : Inside O C R) (key : Snapshot (TableKey O)) → key.value.first ≡ s.key.value.first
      → key.value.openings.value.items ≡ s.key.value.openings.value.items
      → (pass_of (record { token = s.token; key = key })).seats ≡ (pass_of s).seats
  seats_key s key first os = λ i. holdings s.token.table_id (first i) (os i) s.token.me.0.views

  module _ (s u : Inside O C R) (rest : Rests moves s) (rest' : Rests moves u)
      (same_os : u.key.value.openings.value.items ≡ s.key.value.openings.value.items)
      (token : Seat (Spot O C R) (Sight O C R)) (same : token.table_id ≡ s.token.table_id)
      (told : Merges moves (both_of s.token.me.0 u.token.me.0, s.token.me.1) token.me) where
    abbrev Here : Inside O C R
    Here = record { token = token; key = s.key }

    abbrev Ps : List O
    Ps = s.key.value.openings.value.items

    abbrev Vs : List (View O C R)
    Vs = s.token.me.0.views

    abbrev Ws : List (View O C R)
    Ws = u.token.me.0.views

    as_many : length Ws ≡ length Vs
    as_many = rest'.many ∙ ap length same_os ∙ sym rest.many

    few : (place : ℕ) (o : O) → get_elem? Ps place ≡ some o → place < length Vs
    few place o at = let less = at_below Ps place o at in let many = rest.many in omega arith

    told_at : (place : ℕ) (o : O) → get_elem? Ps place ≡ some o →
        Told moves told.order o (view_at place s.token.me.0) (view_at place u.token.me.0) place
    told_at place o at = joined_told moves place s.token.me.0 u.token.me.0 (few place o at) as_many s.token.me.1
        token.me told o s.key.value.first (rest.each place o at)

    pub joined_now : Each3 (Joins moves) (pass_of s).seats (pass_of u).seats (pass_of Here).seats
    joined_now =
        subst (λ (l : List (Holding O C R)). Each3 (Joins moves) (pass_of s).seats (pass_of u).seats l)
        (sym (ap (λ (m : Passing O C R). holdings token.table_id s.key.value.first Ps m.0.views) told.is
        ∙ ap (λ (t : TableId). holdings t s.key.value.first Ps (merged_from 0 told.order (both_views Vs Ws))) same))
        (joined_seats s.token.table_id u.token.table_id s.key.value.first u.key.value.first told.order Ps
        u.key.value.openings.value.items Vs Ws 0 rest.many as_many (ap length same_os)
        (λ place o at.
        let here : place ≡ 0 + place = omega arith in
        subst (λ (k : ℕ). Told moves told.order o (view_at place s.token.me.0) (view_at place u.token.me.0) k) here
        (told_at place o at)))

    joined_at : (place : ℕ) → place < length Vs →
        view_at place token.me.0
        ≡ merged (turns_at place told.order) (step.both_of (view_at place s.token.me.0) (view_at place u.token.me.0))
    joined_at place less = joined_view moves place s.token.me.0 u.token.me.0 less as_many s.token.me.1 token.me told

    joined_many : length token.me.0.views ≡ length Vs
    joined_many = ap (λ (m : Passing O C R). length m.0.views) told.is ∙ merged_length told.order (both_views Vs Ws) 0
        ∙ both_length Vs Ws as_many

    pub joined_order : 1 ≤ length Ps → JoinsOrders (pass_of s) (pass_of u) (pass_of Here)
    joined_order some_place =
        let many = rest.many in
        let some_view : 0 < length Vs = omega arith in
        let order : token.me.0.seen ≡ told.order = ap (λ (m : Passing O C R). m.0.seen) told.is in
        let one : IsPrefixOf s.token.me.0.seen token.me.0.seen =
        subst (IsPrefixOf s.token.me.0.seen) (sym order) told.one in
        let two : IsPrefixOf u.token.me.0.seen token.me.0.seen =
        subst (IsPrefixOf u.token.me.0.seen) (sym order) told.two in
        let here = joined_at 0 some_view in
        let ns : List ℕ = (pass_of s).numbers in
        let ks : List ℕ = (pass_of u).numbers in
        let own : ℕ → List ℕ = (λ q. (view_at q s.token.me.0).own) in
        let own' : ℕ → List ℕ = (λ q. (view_at q u.token.me.0).own) in
        let count : ℕ = length token.me.0.views in
        let parts : (q p : ℕ) → q < count →
        (times p (own q) ≡ made_at ns (turns_at q s.token.me.0.seen) p)
        × (times p (own' q) ≡ made_at ks (turns_at q u.token.me.0.seen) p)
        × (made_at ns (turns_at q token.me.0.seen) p ≤ times p (own q))
        × (made_at ks (turns_at q token.me.0.seen) p ≤ times p (own' q)) = (λ q p less.
        let wide = joined_many in
        let same = as_many in
        let few : q < length Vs = omega arith in
        let few' : q < length Ws = omega arith in
        let v : View O C R = view_at q s.token.me.0 in
        let w : View O C R = view_at q u.token.me.0 in
        let log : List (Turn O C R) = turns_at q token.me.0.seen in
        let a = own_named moves s rest q p few in
        let b = own_named moves u rest' q p few' in
        let long = turns_longer q s.token.me.0.seen token.me.0.seen one in
        let long' = turns_longer q u.token.me.0.seen token.me.0.seen two in
        let c = made_at-longer ns (turns_at q s.token.me.0.seen) long.0 p in
        let c' = ap (λ (l : List (Turn O C R)). made_at ns l p) long.1 in
        let d = made_at-longer ks (turns_at q u.token.me.0.seen) long'.0 p in
        let d' = ap (λ (l : List (Turn O C R)). made_at ks l p) long'.1 in
        let all : times p (v.own ++ w.own) ≡ made_at (v.numbers ++ w.numbers) log p = subst (λ (x : View O C R).
        times p x.own ≡ made_at x.numbers log p) (joined_at q few) (told.owns.own q p less) in
        let names : made_at (v.numbers ++ w.numbers) log p ≡ made_at (ns ++ ks) log p =
        (λ i. made_at ((rest.named q few).1 i ++ (rest'.named q few').1 i) log p) in
        let sum = times-append p v.own w.own in
        let made = made_at-append ns ks log p in
        (a, b, omega arith, omega arith)) in
        record {
          begins_one = (
            one,
            goes_without ns count own s.token.me.0.seen token.me.0.seen one told.owns.below
                (λ q p less. (parts q p less).0) (λ q p less. (parts q p less).2),
          );
          begins_two = (
            two,
            goes_without ks count own' u.token.me.0.seen token.me.0.seen two told.owns.below
                (λ q p less. (parts q p less).1) (λ q p less. (parts q p less).3),
          );
          number = ap (λ (v : View O C R). v.number) here;
          numbers = ap (λ (v : View O C R). v.numbers) here;
          shares = ap (λ (m : Passing O C R). m.0.shares) told.is;
        }

    pub joined_rests : Rests moves Here
    joined_rests = record {
      no_slot = ap (λ (m : Passing O C R). m.1) told.is ∙ rest.no_slot;
      nothing_else = ap (λ (m : Passing O C R). m.0.also) told.is;
      many = joined_many ∙ rest.many;
      each = λ place o at.
          joined_there moves place s.token.me.0 u.token.me.0 (few place o at) as_many s.token.me.1 token.me told o
          s.key.value.first (rest.each place o at);
      named = λ place less.
          let wide = joined_many in
          let same = as_many in
          let one = joined_at place (omega arith) in
          let two = joined_at 0 (omega arith) in
          let mine = rest.named place (omega arith) in
          let theirs = rest'.named place (omega arith) in (
            ap (λ (v : View O C R). v.number) one ∙ mine.0 ∙ sym (ap (λ (v : View O C R). v.number) two),
            ap (λ (v : View O C R). v.numbers) one ∙ (λ i. mine.1 i ++ theirs.1 i)
                ∙ sym (ap (λ (v : View O C R). v.numbers) two),
          );
      owns = told.owns;
    }
