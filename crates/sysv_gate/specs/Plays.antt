-- What the steps on a table with several places do to a pass, and what the pass learns from them.
-- This project's profile.
use Rattle.std.specs.Prelude.{◌≡◌, ℕ, suc, ◌+◌, ◌*◌, ◌<◌, true, List, [], ◌∷◌, ◌++◌, map, length, slice_set, Option}
use Rattle.std.specs.Prelude.{Some, None}
use mathlib.Core.Option.{none}
use Rattle.atomic_table.specs.Table.{step}
use Rattle.sysv_gate.specs.declared.table.view.View.{View}
use Rattle.sysv_gate.specs.declared.table.view.Turn.{Turn}
use Rattle.sysv_gate.specs.declared.table.view.Placed.{Placed}
use Rattle.sysv_gate.specs.declared.table.view.Sight.{Sight}
use Rattle.sysv_gate.specs.declared.table.place.Done.{Done}
use Rattle.sysv_lists.specs.Prefix.{IsPrefixOf}
use Rattle.sysv_gate.specs.History.{made_at}
use Rattle.sysv_gate.specs.Orders.{turns_at, placed}
use Rattle.sysv_gate.specs.Shares.{half}
use Rattle.sysv_gate.specs.Steps as gate
use Rattle.sysv_gate.specs.Steps.{Mine, At, turn_of, Ends, Gathers}
use Rattle.sysv_gate.specs.Tables.{view_at, OwnsInOrder, ReadsInOrder, Passing, me_at, Carries}

module _ {O C R : Type 0} where
  -- A step at this place, from which the pass learns `told`. Nothing changes at another place. The
  -- pass sees the order as it is then, which begins with all that it had seen; these turns at the
  -- place are appended. Afterwards the pass knows exactly its own turns in what it has seen.
  pub record StepsAt (place : ℕ) (added : List (Turn O C R)) (told : Mine O C R → Type 0)
      (m m' : Passing O C R) : Type 0 where
    pub order : List (Placed O C R)
    pub longer : IsPrefixOf m.0.seen order
    pub seen : m'.0.seen ≡ order ++ placed place added
    pub also : m'.0.also ≡ m.0.also
    pub shares : m'.0.shares ≡ m.0.shares
    pub views : m'.0.views ≡ slice_set m.0.views place (view_at place m'.0)
    pub within : IsPrefixOf (view_at place m'.0).seen (turns_at place m'.0.seen)
    pub turn : (view_at place m.0).in_turn ≡ true → (view_at place m.0).seen ≡ turns_at place order
    pub owns : OwnsInOrder m'.0
    pub carries : Carries place m'
    pub there : told (me_at place m')

  -- The step of a gate, at the place whose word it is.
  abbrev pub AtAPlace : (Mine O C R → List (Turn O C R)) → (At O C R → Mine O C R → ℕ → Mine O C R → Type 0) →
      At O C R → Passing O C R → ℕ → Passing O C R → Type 0
  AtAPlace added play st m n m' =
      (place word : ℕ) → st.word ≡ 80 * place + word → word < 80 →
      StepsAt place (added (me_at place m)) (play (step 1 word st.first st.second none) (me_at place m) n) m m'

  -- A step that adds no turn.
  abbrev pub AddsNone : (At O C R → Mine O C R → ℕ → Mine O C R → Type 0) → At O C R → Passing O C R → ℕ →
      Passing O C R → Type 0
  AddsNone play = AtAPlace (λ m. []) play

  -- The turn that the slot records as served last.
  abbrev pub turn_told : View O C R → O → Option (Done C R) → List (Turn O C R)
  turn_told v after None = []
  turn_told v after (Some done) = turn_of v done.call.value done.reply.value after ∷ []

  -- The turn that the slot held by the pass records.
  abbrev pub turns_told : Mine O C R → List (Turn O C R)
  turns_told (v, []) = []
  turns_told (v, (k, None) ∷ xs) = []
  turns_told (v, (k, Some place) ∷ xs) = turn_told v place.object place.last

  -- The addition that ends a turn. It shows the whole order, and so bounds what the pass has read.
  abbrev pub EndsInOrder : (O → C → R → O → Type 0) → (O → ℕ × ℕ) → At O C R → Passing O C R → ℕ → Passing O C R →
      Type 0
  EndsInOrder moves counted st m n m' = AtAPlace turns_told Ends st m n m' × ReadsInOrder moves counted m'.0

  -- A change of the view of each place.
  abbrev pub at_each : (View O C R → View O C R) → Sight O C R → Sight O C R
  at_each change sight = record sight { views = map change sight.views }

  -- What a split leaves: half of the share.
  abbrev pub halved : Sight O C R → Sight O C R
  halved sight = record sight { views = map gate.parted sight.views; shares = half sight.shares }

  -- What a split makes: a pass with the other half.
  abbrev pub newcomer : Sight O C R → Sight O C R
  newcomer sight =
      record { views = map gate.newcomer sight.views; seen = sight.seen; also = []; shares = half sight.shares }

  -- The views of two passes, joined place by place.
  abbrev pub both_views : List (View O C R) → List (View O C R) → List (View O C R)
  both_views [] ws = []
  both_views (v ∷ vs) [] = []
  both_views (v ∷ vs) (w ∷ ws) = gate.both_of v w ∷ both_views vs ws

  -- What a pass knows after another was joined into it.
  abbrev pub both_of : Sight O C R → Sight O C R → Sight O C R
  both_of one two = record {
    views = both_views one.views two.views;
    seen = one.seen;
    also = two.seen;
    shares = one.shares ++ two.shares;
  }

  -- What is left of a pass that was joined into another.
  abbrev pub spent : Sight O C R
  spent = record { views = []; seen = []; also = []; shares = [] }

  -- What the places from this one on have seen after a look at the whole order.
  abbrev pub merged_from : ℕ → List (Placed O C R) → List (View O C R) → List (View O C R)
  merged_from place order [] = []
  merged_from place order (v ∷ vs) = gate.merged (turns_at place order) v ∷ merged_from (suc place) order vs

  -- A load that assigns the pass its number at each place. No turn that the pass has seen was made
  -- under it.
  abbrev pub Names : At O C R → Passing O C R → ℕ → Passing O C R → Type 0
  Names st m n m' =
      (number : ℕ) × (m' ≡ (at_each (gate.named number) m.0, m.1))
      × ((place k : ℕ) → place < length m.0.views → made_at (number ∷ []) (view_at place m.0).seen k ≡ 0)
      × ((place k : ℕ) → place < length m.0.views → made_at (number ∷ []) (turns_at place m.0.seen) k ≡ 0)

  -- What a pass learns from a look after a join.
  pub record Merges (moves : O → C → R → O → Type 0) (m m' : Passing O C R) : Type 0 where
    pub order : List (Placed O C R)
    pub one : IsPrefixOf m.0.seen order
    pub two : IsPrefixOf m.0.also order
    pub is : m' ≡ (record m.0 { views = merged_from 0 order m.0.views; seen = order; also = [] }, m.1)
    pub there : (place : ℕ) → place < length m.0.views → (opening : O) → (view_at place m.0).opening ≡ Some opening →
        Gathers moves opening (me_at place m)
        (gate.merged (turns_at place order) (view_at place m.0), (me_at place m).1)
    pub owns : OwnsInOrder m'.0
