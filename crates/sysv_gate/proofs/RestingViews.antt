-- What happens to a view at rest when its pass is split or joined.
use Rattle.std.proofs.Common.{◌≡◌, ℕ, ◌+◌, ◌<◌, List, [], ◌∷◌, ◌++◌, map, length, get_or, refl, sym, ap, ◌∙◌, subst}
use Rattle.std.proofs.Common.{arith}
use Rattle.std.proofs.lemmas.List.{length-map, get_or-map}
use Rattle.atomic_table.specs.Seated.{TableId}
use Rattle.sysv_lists.specs.Prefix.{IsPrefixOf}
use Rattle.sysv_lists.proofs.Counting.{times-same}
use Rattle.sysv_lists.proofs.Prefixes.{prefix_self}
use Rattle.sysv_gate.specs.declared.table.view.View.{View}
use Rattle.sysv_gate.specs.declared.table.view.Turn.{Turn}
use Rattle.sysv_gate.specs.declared.table.view.Sight.{Sight}
use Rattle.sysv_gate.specs.declared.table.view.Placed.{Placed}
use Rattle.sysv_gate.specs.History.{IsLegal, HasItsOwn, made_at}
use Rattle.sysv_gate.specs.Rule.{Spot}
use Rattle.sysv_gate.specs.Steps as step
use Rattle.sysv_gate.specs.Steps.{spent, named, merged, Gathers}
use Rattle.sysv_gate.specs.Gates.{Joins}
use Rattle.sysv_gate.specs.Orders.{turns_at}
use Rattle.sysv_gate.specs.Tables.{view_at, Passing, me_at}
use Rattle.sysv_gate.specs.Plays.{at_each, halved, newcomer, both_views, both_of, Merges}
use Rattle.sysv_gate.specs.Held.{holding, RestsAt, RestsThere}
use Rattle.sysv_gate.proofs.PassSplitKeepsRule.{both_there, both_length, merged_there}
use Rattle.sysv_gate.proofs.SeatSplitKeepsRule.{still_named}

-- A seat that has made no turn has no own turn.
pub none_own : {O C R : Type 0} (n : ℕ) (seen : List (Turn O C R)) → ((k : ℕ) → made_at (n ∷ []) seen k ≡ 0) →
    HasItsOwn (n ∷ []) [] seen
none_own n seen none = ((λ p. sym (none p)), λ x. omega arith)

module _ {O C R : Type 0} (moves : O → C → R → O → Type 0) (place : ℕ) (sight : Sight O C R)
    (less : place < length sight.views) where
  pub parted_view : view_at place (halved sight) ≡ step.parted (view_at place sight)
  parted_view = get_or-map step.parted sight.views place spent spent less

  pub parted_there : (o : O) (start : ℕ) → RestsThere moves place o start sight →
      RestsThere moves place o start (halved sight)
  parted_there o start rest =
      let r = rest.0 in
      subst (λ (v : View O C R). RestsAt moves o start v × IsPrefixOf v.seen (turns_at place sight.seen))
      (sym parted_view) (
        record {
          no_ticket = r.no_ticket;
          no_turn = r.no_turn;
          nothing_else = r.nothing_else;
          opening = r.opening;
          first = r.first;
          named = r.named;
          legal = r.legal;
          own = r.own;
        },
        rest.1,
      )

  pub newcomer_view : (n : ℕ) →
      view_at place (at_each (named n) (newcomer sight)) ≡ named n (step.newcomer (view_at place sight))
  newcomer_view n =
      let long : length (map step.newcomer sight.views) ≡ length sight.views = length-map sight.views step.newcomer in
      get_or-map (named n) (map step.newcomer sight.views) place spent spent (omega arith)
      ∙ ap (named n) (get_or-map step.newcomer sight.views place spent spent less)

  pub newcomer_there : (n : ℕ) (o : O) (start : ℕ) → ((k : ℕ) → made_at (n ∷ []) (view_at place sight).seen k ≡ 0) →
      RestsThere moves place o start sight → RestsThere moves place o start (at_each (named n) (newcomer sight))
  newcomer_there n o start none rest =
      let r = rest.0 in
      subst (λ (v : View O C R). RestsAt moves o start v × IsPrefixOf v.seen (turns_at place sight.seen))
      (sym (newcomer_view n)) (
        record {
          no_ticket = refl;
          no_turn = refl;
          nothing_else = refl;
          opening = r.opening;
          first = r.first;
          named = times-same n;
          legal = r.legal;
          own = none_own n (view_at place sight).seen none;
        },
        rest.1,
      )

-- ---- another pass was joined into one

module _ {O C R : Type 0} (moves : O → C → R → O → Type 0) where
  -- What the join shows of one place.
  abbrev pub Told : List (Placed O C R) → O → View O C R → View O C R → ℕ → Type 0
  Told order o v w place = (c : List (ℕ × Spot O C R))
      × Gathers moves o (step.both_of v w, c) (merged (turns_at place order) (step.both_of v w), c)

  pub joined_one : (table table' : TableId) (first first' : ℕ) (o o' : O) (order : List (Placed O C R)) (place : ℕ)
      (v w : View O C R) → Told order o v w place
      → Joins moves (holding table first o v) (holding table' first' o' w)
      (holding table first o (merged (turns_at place order) (step.both_of v w)))
  joined_one table table' first first' o o' order place v w told =
      let g = told.1 in
      let same : turns_at place order ≡ g.log = ap (λ m. m.0.seen) g.is in record {
        seen = turns_at place order;
        begins_one = subst (IsPrefixOf v.seen) (sym same) g.one;
        begins_two = subst (IsPrefixOf w.seen) (sym same) g.two;
        joined = refl;
        legal = subst (IsLegal moves o) (sym same) g.legal;
        own = subst (HasItsOwn (v.numbers ++ w.numbers) (v.own ++ w.own)) (sym same) g.own;
      }

  module _ (place : ℕ) (one two : Sight O C R) (less : place < length one.views)
      (as_many : length two.views ≡ length one.views) (c : List (ℕ × Spot O C R)) (m : Passing O C R)
      (told : Merges moves (both_of one two, c) m) where
    abbrev Log : List (Turn O C R)
    Log = turns_at place told.order

    pub joined_view : view_at place m.0 ≡ merged Log (step.both_of (view_at place one) (view_at place two))
    joined_view =
        let here : 0 + place ≡ place = omega arith in
        let long : length (both_views one.views two.views) ≡ length one.views =
        both_length one.views two.views as_many in
        ap (λ (n : Passing O C R). view_at place n.0) told.is
        ∙ merged_there told.order (both_views one.views two.views) 0 place (omega arith)
        ∙ ap (λ (k : ℕ). merged (turns_at k told.order) (get_or (both_views one.views two.views) place spent)) here
        ∙ ap (merged Log) (both_there one.views two.views place less as_many)

    pub joined_told : (o : O) (start : ℕ) → RestsThere moves place o start one →
        Told told.order o (view_at place one) (view_at place two) place
    joined_told o start rest =
        let long : length (both_views one.views two.views) ≡ length one.views =
        both_length one.views two.views as_many in
        let both = both_there one.views two.views place less as_many in
        let d = (me_at place (both_of one two, c)).1 in (
          d,
          subst (λ (v : View O C R). Gathers moves o (v, d) (merged Log v, d)) both
              (told.there place (omega arith) o (ap (λ (v : View O C R). v.opening) both ∙ rest.0.opening)),
        )

    pub joined_there : (o : O) (start : ℕ) → RestsThere moves place o start one → RestsThere moves place o start m.0
    joined_there o start rest =
        let v : View O C R = view_at place one in
        let w : View O C R = view_at place two in
        let r = rest.0 in
        let g = (joined_told o start rest).1 in
        let order : m.0.seen ≡ told.order = ap (λ (n : Passing O C R). n.0.seen) told.is in
        let is_log : Log ≡ g.log = ap (λ n. n.0.seen) g.is in
        subst (λ (x : View O C R). RestsAt moves o start x × IsPrefixOf x.seen (turns_at place m.0.seen))
        (sym joined_view) (
          record {
            no_ticket = r.no_ticket;
            no_turn = r.no_turn;
            nothing_else = refl;
            opening = r.opening;
            first = r.first;
            named = still_named v w (merged Log (step.both_of v w), []) [] Log refl r.named;
            legal = subst (IsLegal moves o) (sym is_log) g.legal;
            own = subst (HasItsOwn (v.numbers ++ w.numbers) (v.own ++ w.own)) (sym is_log) g.own;
          },
          subst (λ (l : List (Placed O C R)). IsPrefixOf Log (turns_at place l)) (sym order) (prefix_self Log),
        )
