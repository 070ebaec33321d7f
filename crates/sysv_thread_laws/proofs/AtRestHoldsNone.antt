-- If no call is pending, no call holds a block or has a row to settle or to forget.
use Rattle.std.proofs.Common.{◌≡◌, ◌⊎◌, inl, inr, ℕ, ℤ, zero, suc, ◌+◌, Bool, true, false, List, [], ◌∷◌, Option, None}
use Rattle.std.proofs.Common.{Some, refl, sym, ap, subst, ◌∙◌, arith, map, slice_get}
use Rattle.std.specs.List.{range_with_len}
use Rattle.std.specs.Ordering.{int_eq}
use Rattle.std.proofs.lemmas.Bool.Decides.{Decides-int_eq}
use Rattle.std.proofs.lemmas.List.Sums.{sum_by-cons}
use Rattle.std.proofs.lemmas.Option.{slice_get_within, get_or_from_slice_get}
use Rattle.sysv_model.specs.declared.attributes.Attributes.{Attributes}
use Rattle.sysv_model.specs.Live.{live, HasId, IsLive}
use Rattle.sysv_model.specs.Waiting.{held}
use Rattle.sysv_model.specs.Turn.{Turn, slot_history, registry_history, pool_history}
use Rattle.sysv_pool.specs.State.{free_after}
use Rattle.sysv_queue.specs.Blocks.{blocks_of}
use Rattle.sysv_keys.specs.declared.identifier.TheConstants.{SLOTS}
use Rattle.sysv_keys.specs.Identifier.{slot_of_id}
use Rattle.sysv_keys.specs.Rows.{Row, IsRow}
use Rattle.sysv_steps.specs.Call.{kind_of}
use Rattle.sysv_steps.specs.State.{State, Goes, Waits, Over}
use Rattle.sysv_steps.specs.Tended.{HasToSettle, HasToForget}
use Rattle.sysv_core.specs.World.{World, Invocation, Doing, doing_in, opening}
use Rattle.sysv_core.specs.Conserved.{blocks_waiting, blocks_in_call, blocks_in_calls}
use Rattle.sysv_core.specs.Tending.{IsTended}
use Rattle.sysv_model.specs.Turns.{turns_of}
use Rattle.sysv_thread_laws.specs.Order.{Called}
use Rattle.sysv_thread_laws.specs.OrderIsRun.{opening_for, started_at, all_standing, Renamed, renamed_turn}
use Rattle.sysv_thread_laws.specs.OrderIsRun.{EveryOrderIsARun}
use Rattle.sysv_thread_laws.specs.AtRest.{Rests, OrdersAtRest}
use Rattle.sysv_thread_laws.proofs.Places.{sums_alike}
use Rattle.sysv_thread_laws.proofs.ThreadsObey.{leads_opened}
use Rattle.sysv_thread_laws.proofs.LegalWhoever.{Acts, held_alike, free_alike, rows_alike, lives_alike}

-- ---- the turns of the world are those of the order

same_acts : (rs : List Renamed) → Acts (map renamed_turn rs) (turns_of (map (λ (r : Renamed). r.turn) rs))
same_acts [] = refl
same_acts (r ∷ rs) = ap (λ ds. r.turn.op ∷ ds) (same_acts rs)

-- ---- no block is with a call

no_block : (place : ℕ) (c : Called) → Rests c.state → blocks_in_call (doing_in (started_at place c) c.state) ≡ 0
no_block place c rests = by_state c.state rests
  where
    by_state : (state : State (kind_of c.asked)) → Rests state →
        blocks_in_call (doing_in (started_at place c) state) ≡ 0
    by_state (Goes phase) r = absurd r
    by_state (Waits wait) r = refl
    by_state (Over ending) r = refl

no_blocks : (start : ℕ) (cs : List Called) → ((place : ℕ) (c : Called) → slice_get cs place ≡ Some c → Rests c.state) →
    blocks_in_calls (all_standing start cs) ≡ 0
no_blocks start [] rest = refl
no_blocks start (c ∷ cs) rest =
    omega (
      arith,
      sum_by-cons blocks_in_call (doing_in (started_at start c) c.state) (all_standing (suc start) cs),
      no_block start c (rest zero c refl),
      no_blocks (suc start) cs (λ place d there. rest (suc place) d there),
    )

-- ---- no row is tended

no_tender : (call : Invocation) (state : State (kind_of call.asked)) (d : Doing) (id : ℤ) → Rests state →
    doing_in call state ≡ Some d →
    ¬ (HasToSettle d.state id ⊎ HasToForget d.state id)
no_tender call (Goes phase) d id r is t = absurd r
no_tender call (Waits wait) d id r is (inl t) =
    let at : record { call = call; state = Waits wait } ≡ d = cc in
    subst (λ (x : Doing). HasToSettle x.state id) (sym at) t
no_tender call (Waits wait) d id r is (inr t) =
    let at : record { call = call; state = Waits wait } ≡ d = cc in
    subst (λ (x : Doing). HasToForget x.state id) (sym at) t
no_tender call (Over ending) d id r is t = absurd cc

none_tends : (start : ℕ) (cs : List Called) (place : ℕ) (d : Doing) (id : ℤ) →
    ((place : ℕ) (c : Called) → slice_get cs place ≡ Some c → Rests c.state) →
    slice_get (all_standing start cs) place ≡ Some (Some d) → ¬ (HasToSettle d.state id ⊎ HasToForget d.state id)
none_tends start [] place d id rest there t = absurd cc
none_tends start (c ∷ cs) zero d id rest there t =
    let is : doing_in (started_at start c) c.state ≡ Some d = cc in
    no_tender (started_at start c) c.state d id (rest zero c refl) is t
none_tends start (c ∷ cs) (suc place) d id rest there t =
    none_tends (suc start) cs place d id (λ p x at. rest (suc p) x at) there t

-- ---- a queue lives, or not

has_it_or_not : (a : Attributes) (id : ℤ) (b : Bool) → int_eq a.id id ≡ b → HasId (Some a) id ⊎ ¬ HasId (Some a) id
has_it_or_not a id true e = inl ((Decides-int_eq a.id id).0 e)
has_it_or_not a id false e = inr (λ h. let bad : true ≡ false = sym ((Decides-int_eq a.id id).1 h) ∙ e in cc)

has_id_or_not : (o : Option Attributes) (id : ℤ) → HasId o id ⊎ ¬ HasId o id
has_id_or_not None id = inr (λ h. h)
has_id_or_not (Some a) id = has_it_or_not a id (int_eq a.id id) refl

-- ---- the law

module _ (blocks : ℕ) (turns : List Turn) (w : World) (calls : List Called) (same : Acts w.turns turns)
    (standing : w.actors ≡ all_standing 0 calls)
    (rest : (place : ℕ) (c : Called) → slice_get calls place ≡ Some c → Rests c.state) where
  waiting_alike : blocks_waiting w.turns ≡ blocks_waiting turns
  unfolding blocks_waiting
  waiting_alike =
      sums_alike (λ slot. blocks_of (held (slot_history slot w.turns)))
      (λ slot. blocks_of (held (slot_history slot turns))) (range_with_len 0 SLOTS)
      (λ slot. ap blocks_of (held_alike slot w.turns turns same))

  all_back : free_after blocks (pool_history w.turns) + (blocks_waiting w.turns + blocks_in_calls w.actors) ≡ blocks →
      free_after blocks (pool_history turns) + blocks_waiting turns ≡ blocks
  all_back whole =
      let none : blocks_in_calls w.actors ≡ 0 = ap blocks_in_calls standing ∙ no_blocks 0 calls rest in
      omega (arith, whole, none, waiting_alike, free_alike blocks w.turns turns same)

  untended : (id : ℤ) → ¬ IsTended w id
  untended id t =
      none_tends 0 calls t.place t.doing id rest (ap (λ ds. slice_get ds t.place) (sym standing) ∙ t.there) t.tends

  settled_row : (row : Row) →
      ((row.live ≡ false) ⊎ ¬ IsLive (slot_history (slot_of_id row.id) w.turns) row.id → IsTended w row.id) →
      (row.live ≡ true) × IsLive (slot_history (slot_of_id row.id) turns) row.id
  settled_row row tends =
      (by_stage row.live refl, by_lifetime (has_id_or_not (live (slot_history (slot_of_id row.id) turns)) row.id))
    where
      by_stage : (b : Bool) → row.live ≡ b → b ≡ true
      by_stage true e = refl
      by_stage false e = absurd (untended row.id (tends (inl e)))

      by_lifetime : HasId (live (slot_history (slot_of_id row.id) turns)) row.id
          ⊎ ¬ HasId (live (slot_history (slot_of_id row.id) turns)) row.id →
          IsLive (slot_history (slot_of_id row.id) turns) row.id
      by_lifetime (inl lives) = lives
      by_lifetime (inr gone) =
          absurd (untended row.id (tends (inr (λ h.
          gone (subst (λ o. HasId o row.id) (lives_alike (slot_of_id row.id) w.turns turns same) h)))))

pub orders_at_rest : EveryOrderIsARun → OrdersAtRest
orders_at_rest law generation blocks order calls legal all rest =
    let r = law generation blocks order calls legal all in
    let same : Acts r.world.turns (turns_of order) =
    ap (map (λ (t : Turn). t.op)) (sym r.turns.in_world)
    ∙ (same_acts r.turns.renamed ∙ ap (λ ts. map (λ (t : Turn). t.op) (turns_of ts)) r.turns.in_order) in
    let at_each : (place : ℕ) (c : Called) → slice_get calls place ≡ Some c → Rests c.state =
    λ place c there.
    subst (λ (x : Called). Rests x.state) (get_or_from_slice_get calls place c c there)
    (rest place c (slice_get_within calls place c there)) in
    let opened =
    (leads_opened (opening (opening_for generation blocks calls)) r.world r.moments r.responses r.leads).0 in
    record {
      whole = all_back blocks (turns_of order) r.world calls same r.standing at_each r.obeys.objects.conserved.whole;
      rows = λ row is. settled_row blocks (turns_of order) r.world calls same r.standing at_each row
          (λ open_row. r.obeys.lives.tended row (subst (λ n. IsRow n (registry_history r.world.turns) row) (sym opened)
          (rows_alike generation (turns_of order) r.world.turns (sym same) row is)) open_row);
    }
