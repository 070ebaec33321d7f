-- A gate has one lock: what its calls require of a seat, and what they leave of it.
use Rattle.std.proofs.Common.{◌≡◌, ℕ, zero, suc, ◌<◌, ◌≤◌, false, List, [], ◌∷◌, map, length, sym, ap, ◌∙◌, subst}
use Rattle.std.proofs.Common.{arith}
use Rattle.std.proofs.lemmas.List.{length-map}
use Rattle.std.specs.Prelude.{Some, Result, Ok, Err, IfOk, IfErr, OnOk}
use Rattle.std.specs.declared.snapshot.Snapshot.{Snapshot}
use mathlib.Core.Option.{some, some-injective, some-ne-none}
use lib.ListN.{get_elem?}
use Rattle.atomic_table.specs.Seated.{TableId}
use Rattle.atomic_table.specs.Table.{Final, Seen}
use Rattle.atomic_table.specs.declared.shared.Seat.{Seat}
use Rattle.sysv_gate.specs.declared.gate.seat.Key.{Key}
use Rattle.sysv_gate.specs.declared.gate.seat.Seat.TheInside.{Inside}
use Rattle.sysv_gate.specs.declared.gate.Gate.TheInside.{Inside as GateInside}
use Rattle.sysv_gate.specs.declared.table.view.View.{View}
use Rattle.sysv_gate.specs.declared.table.view.Sight.{Sight}
use Rattle.sysv_gate.specs.declared.gate.closing.Closing.{Closing}
use Rattle.sysv_gate.specs.declared.count.Count.{Count}
use Rattle.sysv_gate.specs.declared.awaited.Awaited.{Awaited}
use Rattle.sysv_gate.specs.declared.refusals.TryRefused.{TryRefused}
use Rattle.sysv_gate.specs.declared.refusals.Worn.{Worn as WornCall}
use Rattle.sysv_gate.specs.Rule.{Spot}
use Rattle.sysv_gate.specs.History.{IsAccepted, HasItsOwn}
use Rattle.sysv_gate.specs.Gates as gate
use Rattle.sysv_gate.specs.Gates.{Gateway, Holding, Answers, Learns, IsSplit, Joins, marked, split_off}
use Rattle.sysv_gate.specs.Refusals.{Refuses}
use Rattle.sysv_gate.specs.Waits.{Waited}
use Rattle.sysv_gate.specs.Closings.{Closes}
use Rattle.sysv_gate.specs.Ending.{IsReadAt}
use Rattle.sysv_gate.specs.Held.{held, holding, RestsAt, RestsThere, IsAtRest, IsTokenOf}
use Rattle.sysv_gate.specs.Opened.{gateway, IsOpen}
use Rattle.sysv_gate.specs.Tables.{view_at, me_at, Passing, InOrder}
use Rattle.sysv_gate.specs.Plays.{halved, both_views, both_of, Merges}
use Rattle.sysv_gate.specs.Steps.{Mine, named, newcomer, parted}
use Rattle.sysv_gate.specs.Turns.{HasWorn, HasRead, HasWaited}
use Rattle.sysv_gate.specs.Locks.{LockView, IsLockOf, IsAt, IsSame, Idles, HasCalled, HasTried, KnowsAll, Idling}
use Rattle.sysv_gate.specs.Locks.{IsNewcomer}
use Rattle.sysv_gate.proofs.SeenAfterCall.{bare, answers, worn, refused, reads, waited, call_rests}
use Rattle.sysv_gate.proofs.SeenAfterCall.{try_rests, count_rests, await_rests}
use Rattle.sysv_gate.proofs.RestingViews.{none_own, parted_there, newcomer_view, newcomer_there, joined_one}
use Rattle.sysv_gate.proofs.RestingViews.{joined_view, joined_told, joined_there}
use Rattle.sysv_gate.proofs.PassSplitKeepsRule.{both_length, merged_length}
use Rattle.sysv_gate.proofs.AtTheEnd.{served_from, closes_at}

module _ {O C R : Type 0} (moves : O → C → R → O → Type 0) (g : GateInside O C R) (s : Inside O C R) (w : Gateway O)
    (h : Holding O C R) (opened : IsOpen g) (rest : IsAtRest moves s) (viewed : gateway g ≡ w) (shown : held s ≡ h)
    (fit : h.gate ≡ w) where
  abbrev Opening : O
  Opening = s.key.value.opening.value

  -- The seat is one of the gate.
  pub same_gate : (held s).gate ≡ gateway g
  same_gate = ap (λ (k : Holding O C R). k.gate) shown ∙ fit ∙ sym viewed

  pub same_table : s.token.table_id ≡ g.table.shared.table_id
  same_table = ap (λ (x : Gateway O). x.table) same_gate

  lock_is : g.lock ≡ record { place = 0; opening = Opening }
  lock_is = opened.is ∙ ap (λ (x : Gateway O). record { place = 0; opening = x.opening }) (sym same_gate)

  pub openings : g.table.shared.key.openings.value.items ≡ Opening ∷ []
  openings = opened.openings ∙ ap (λ (x : Gateway O). x.opening ∷ []) (sym same_gate)

  pub knows_all : KnowsAll g.table.shared.key.openings.value.items s.token.me.0
  knows_all = subst (λ (os : List O). KnowsAll os s.token.me.0) (sym openings) (rest.one, there)
    where
      there : (place : ℕ) (o : O) → get_elem? (Opening ∷ []) place ≡ some o →
          ((view_at place s.token.me.0).opening ≡ Some o) × Idling (view_at place s.token.me.0)
      there zero o at =
          let r = rest.rests.0 in (r.opening ∙ ap Some (some-injective Opening o at), (r.no_ticket, r.no_turn, r.named))
      there (suc place) o at = absurd (some-ne-none o (sym at))

  pub lock_of : IsLockOf g.table.shared.table_id g.table.shared.key.openings.value.items g.lock
  lock_of = subst (λ (d : LockView O). IsLockOf g.table.shared.table_id g.table.shared.key.openings.value.items d)
      (sym lock_is) (ap (λ (os : List O). get_elem? os 0) openings, let words = opened.words in omega arith)

  pub is_at : IsAt g.table.shared.table_id g.lock s.token
  is_at = subst (λ (d : LockView O). IsAt g.table.shared.table_id d s.token) (sym lock_is) (
    same_table,
    let one = rest.one in omega arith,
    rest.rests.0.opening,
    rest.no_slot ∙ sym (ap (map (λ (x : ℕ × Spot O C R). (0, x.1))) rest.no_slot),
    rest.rests.1,
  )

  pub idles : Idles (me_at g.lock.place s.token.me)
  idles =
      let r = rest.rests.0 in
      subst (λ (d : LockView O). Idles (me_at d.place s.token.me)) (sym lock_is) (record {
        no_slot = ap (map (λ (x : ℕ × Spot O C R). (0, x.1))) rest.no_slot;
        no_ticket = r.no_ticket;
        no_turn = r.no_turn;
        named = r.named;
      })

  pub accepted : (accepts : O → C → Type 0) (call : C) → IsAccepted moves accepts w.opening call →
      IsAccepted moves accepts g.lock.opening call
  accepted accepts call fits = subst (λ (o : O). IsAccepted moves accepts o call)
      (ap (λ (x : Gateway O). x.opening) (sym viewed) ∙ ap (λ (d : LockView O). d.opening) (sym opened.is)) fits

  -- After steps at the lock.
  module _ (counted : O → ℕ × ℕ) (token : Seat (Spot O C R) (Sight O C R))
      (went : IsSame g.lock.place s.token token) where
    abbrev Now : Inside O C R
    Now = record { token = token; key = s.key }

    abbrev Before : Mine O C R
    Before = me_at 0 s.token.me

    abbrev After : Mine O C R
    After = me_at 0 token.me

    here : IsSame 0 s.token token
    here = subst (λ (d : LockView O). IsSame d.place s.token token) lock_is went

    -- What holds at the lock holds at the seat's place.
    mine : (fact : O → Mine O C R → Mine O C R → Type 0) →
        fact g.lock.opening (me_at g.lock.place s.token.me) (me_at g.lock.place token.me) → fact Opening Before After
    mine fact is =
        subst (λ (d : LockView O). fact d.opening (me_at d.place s.token.me) (me_at d.place token.me)) lock_is is

    pub gate_after : (held Now).gate ≡ w
    gate_after = ap (λ (t : TableId). record { table = t; opening = Opening; first = s.key.value.first }) here.0
        ∙ ap (λ (k : Holding O C R). k.gate) shown ∙ fit

    rested : (After.1 ≡ []) × RestsAt moves Opening s.key.value.first After.0 → IsAtRest moves Now
    rested still =
        record { no_slot = bare 0 token.me still.0; one = here.2.many ∙ rest.one; rests = (still.1, here.2.within) }

    answered : (call : C) (x : R) →
        HasCalled moves counted g.lock.opening (me_at g.lock.place s.token.me) call x (me_at g.lock.place token.me) →
        IsAtRest moves Now × Answers moves counted h call x (held Now) × (h.worn ≡ false)
    answered call x is =
        let told = mine (λ o m m'. HasCalled moves counted o m call x m') is in
        let got = answers moves counted Opening s.key.value.first s.token.table_id token.table_id here.0 Before After
        rest.rests.0 call x told in (
          rested (call_rests moves counted Opening s.key.value.first Before After rest.rests.0 token.table_id call
              (Ok x) told tt),
          subst (λ (k : Holding O C R). Answers moves counted k call x (held Now)) shown got.0,
          subst (λ (k : Holding O C R). k.worn ≡ false) shown got.1,
        )

    abbrev Called : (E : Type 0) → C → (E → Type 0) → Result R E → Type 0
    Called E call refuses r = IsAtRest moves Now × IfOk r (λ x. Answers moves counted h call x (held Now))
        × OnOk r (h.worn ≡ false) × IfErr r refuses

    pub called : (call : C) (r : Result R (WornCall C))
        → IfOk r (λ x.
        HasCalled moves counted g.lock.opening (me_at g.lock.place s.token.me) call x (me_at g.lock.place token.me))
        → IfErr r (λ e. (e.call ≡ call) × HasWorn (me_at g.lock.place s.token.me) (me_at g.lock.place token.me))
        → Called (WornCall C) call (λ e. (e.call ≡ call) × (held Now ≡ marked h)) r
    called call (Ok x) ok err = let a = answered call x ok in (a.0, a.1, a.2, tt)
    called call (Err e) ok err =
        let told = mine (λ o m m'. HasWorn m m') err.1 in
        let got = worn moves counted Opening s.key.value.first s.token.table_id token.table_id here.0 Before After
        rest.rests.0 told in (
          rested (call_rests moves counted Opening s.key.value.first Before After rest.rests.0 token.table_id call
              (Err e) tt (err.0, told)),
          tt,
          tt,
          (err.0, got ∙ ap marked shown),
        )

    pub tried : (call : C) (r : Result R (TryRefused C))
        → IfOk r (λ x.
        HasCalled moves counted g.lock.opening (me_at g.lock.place s.token.me) call x (me_at g.lock.place token.me))
        → IfErr r
        (λ e. HasTried moves g.lock.opening (me_at g.lock.place s.token.me) call e (me_at g.lock.place token.me))
        → Called (TryRefused C) call (λ e. Refuses moves h call e (held Now)) r
    tried call (Ok x) ok err = let a = answered call x ok in (a.0, a.1, a.2, tt)
    tried call (Err e) ok err =
        let told = mine (λ o m m'. HasTried moves o m call e m') err in
        let got = refused moves counted Opening s.key.value.first s.token.table_id token.table_id here.0 Before After
        rest.rests.0 call e told in (
          rested (try_rests moves counted Opening s.key.value.first Before After rest.rests.0 token.table_id call
              (Err e) tt told),
          tt,
          tt,
          subst (λ (k : Holding O C R). Refuses moves k call e (held Now)) shown got,
        )

    pub has_read : (count : Count) (n : ℕ) →
        HasRead counted g.lock.opening count (me_at g.lock.place s.token.me) n (me_at g.lock.place token.me) →
        IsAtRest moves Now × (held Now ≡ gate.read_to count n h) × Learns counted count h n
    has_read count n is =
        let told = mine (λ o m m'. HasRead counted o count m n m') is in
        let got = reads moves counted Opening s.key.value.first s.token.table_id token.table_id here.0 Before After
        rest.rests.0 count n told in (
          rested (count_rests moves counted Opening s.key.value.first Before After rest.rests.0 token.table_id count n
              told),
          got.0 ∙ ap (gate.read_to count n) shown,
          subst (λ (k : Holding O C R). Learns counted count k n) shown got.1,
        )

    pub has_waited : (count : Count) (goal : ℕ) (a : Awaited) →
        HasWaited counted g.lock.opening count goal (me_at g.lock.place s.token.me) a (me_at g.lock.place token.me) →
        IsAtRest moves Now × Waited counted count goal h a (held Now)
    has_waited count goal a is =
        let told = mine (λ o m m'. HasWaited counted o count goal m a m') is in (
          rested (await_rests moves counted Opening s.key.value.first Before After rest.rests.0 token.table_id count
              goal a told),
          subst (λ (k : Holding O C R). Waited counted count goal k a (held Now)) shown
              (waited moves counted Opening s.key.value.first s.token.table_id token.table_id here.0 Before After
              rest.rests.0 count goal a told),
        )

  pub closes : (counted : O → ℕ × ℕ) (token : Seat (Spot O C R) (Sight O C R)) (words : List ℕ)
      (slots : List (Spot O C R)) (c : Closing O) → s.token ≡ token
      → Final (Seen (InOrder moves counted g.table.shared.key.openings.value.items g.table.shared.key.first) token.id
      token.me.0) words slots → IsReadAt g.key.first words slots 0 c → Closes moves h c
  closes counted token words slots c is final read =
      let shut = subst (λ (n : ℕ).
      Final (Seen (InOrder moves counted g.table.shared.key.openings.value.items n) token.id token.me.0) words slots)
      opened.first final in
      let told = closes_at moves counted g.table.shared.key.openings.value.items g.key.first token.id token.me.0 words
      slots shut 0 Opening s.token.table_id c (ap (λ (os : List O). get_elem? os 0) openings)
      (ap (λ (t : Seat (Spot O C R) (Sight O C R)). (view_at 0 t.me.0).tickets) (sym is) ∙ rest.rests.0.no_ticket)
      read in
      subst (λ (k : Holding O C R). Closes moves k c)
      ((λ i.
      holding s.token.table_id (sym (ap (λ (x : Gateway O). x.first) same_gate) i) Opening (view_at 0 (sym is i).me.0))
      ∙ shown) told.0

  -- The served ticket is at least the first one.
  pub served_first : (counted : O → ℕ × ℕ) (token : Seat (Spot O C R) (Sight O C R)) (words : List ℕ)
      (slots : List (Spot O C R)) (served : ℕ)
      → Final (Seen (InOrder moves counted g.table.shared.key.openings.value.items g.table.shared.key.first) token.id
      token.me.0) words slots → get_elem? words 16 ≡ some served → g.key.first ≤ served
  served_first counted token words slots served final at =
      let shut = subst (λ (n : ℕ).
      Final (Seen (InOrder moves counted g.table.shared.key.openings.value.items n) token.id token.me.0) words slots)
      opened.first final in
      let one = ap length openings in
      served_from moves counted g.table.shared.key.openings.value.items g.key.first token.id token.me.0 words slots shut
      0 served (omega arith) at

  -- A seat that was split off.
  module _ (token : Seat (Spot O C R) (Sight O C R)) (new : IsNewcomer s.token.me.0 token.me)
      (table_is : token.table_id ≡ s.token.table_id) (key : Snapshot (Key O)) (key_is : key.value ≡ g.key) where
    abbrev New : Inside O C R
    New = record { token = token; key = key }

    gate_is : (held New).gate ≡ (held s).gate
    gate_is = (λ i. record { table = table_is i; opening = (key_is i).opening.value; first = (key_is i).first }) ∙ (λ i.
        record { table = s.token.table_id; opening = (sym same_gate i).opening; first = (sym same_gate i).first })

    some_view : 0 < length s.token.me.0.views
    some_view = let one = rest.one in omega arith

    view_is : view_at 0 token.me.0 ≡ named new.0 (newcomer (view_at 0 s.token.me.0))
    view_is = ap (λ (m : Passing O C R). view_at 0 m.0) new.1 ∙ newcomer_view moves 0 s.token.me.0 some_view new.0

    pub split_new : IsSplit h (held New)
    split_new =
        let own = none_own new.0 (view_at 0 s.token.me.0).seen (λ k. new.2 0 k some_view) in (
          new.0,
          (λ i. holding (gate_is i).table (gate_is i).first (gate_is i).opening (view_is i))
              ∙ ap (split_off new.0) shown,
          subst (λ (v : View O C R). HasItsOwn v.numbers v.own v.seen) (sym view_is) own,
        )

    pub split_rests : IsAtRest moves New
    split_rests = record {
      no_slot = ap (λ (m : Passing O C R). m.1) new.1;
      one = ap (λ (m : Passing O C R). length m.0.views) new.1
          ∙ length-map (map newcomer s.token.me.0.views) (named new.0) ∙ length-map s.token.me.0.views newcomer
          ∙ rest.one;
      rests = subst (λ (x : Gateway O). RestsThere moves 0 x.opening x.first token.me.0) (sym gate_is)
          (subst (λ (m : Passing O C R). RestsThere moves 0 Opening s.key.value.first m.0) (sym new.1)
          (newcomer_there moves 0 s.token.me.0 some_view new.0 Opening s.key.value.first (λ k. new.2 0 k some_view)
          rest.rests));
    }

-- The seat from which another was split off.
pub parted_rests : {O C R : Type 0} (moves : O → C → R → O → Type 0) (s : Inside O C R)
    (token : Seat (Spot O C R) (Sight O C R)) → IsAtRest moves s → token.me ≡ (halved s.token.me.0, s.token.me.1) →
    IsAtRest moves record { token = token; key = s.key }
parted_rests {O} {C} {R} moves s token rest is = record {
  no_slot = ap (λ (m : Passing O C R). m.1) is ∙ rest.no_slot;
  one = ap (λ (m : Passing O C R). length m.0.views) is ∙ length-map s.token.me.0.views parted ∙ rest.one;
  rests = subst (λ (m : Passing O C R). RestsThere moves 0 s.key.value.opening.value s.key.value.first m.0) (sym is)
      (parted_there moves 0 s.token.me.0 (let one = rest.one in omega arith) s.key.value.opening.value s.key.value.first
      rest.rests);
}

-- A seat into which another was joined.
module _ {O C R : Type 0} (moves : O → C → R → O → Type 0) (s : Inside O C R) (h two : Holding O C R)
    (token other : Seat (Spot O C R) (Sight O C R)) (rest : IsAtRest moves s) (shown : held s ≡ h)
    (is : IsTokenOf moves two other) (same : token.table_id ≡ s.token.table_id)
    (joined : Merges moves (both_of s.token.me.0 other.me.0, s.token.me.1) token.me) where
  abbrev Joined : Inside O C R
  Joined = record { token = token; key = s.key }

  abbrev u : Inside O C R
  u = is.0

  told : Merges moves (both_of s.token.me.0 u.token.me.0, s.token.me.1) token.me
  told = subst (λ (t : Seat (Spot O C R) (Sight O C R)).
      Merges moves (both_of s.token.me.0 t.me.0, s.token.me.1) token.me) (sym is.3) joined

  has_view : 0 < length s.token.me.0.views
  has_view = let one = rest.one in omega arith

  as_many : length u.token.me.0.views ≡ length s.token.me.0.views
  as_many = is.2.one ∙ sym rest.one

  pub joined_rests : IsAtRest moves Joined
  joined_rests = record {
    no_slot = ap (λ (m : Passing O C R). m.1) told.is ∙ rest.no_slot;
    one = ap (λ (m : Passing O C R). length m.0.views) told.is
        ∙ merged_length told.order (both_views s.token.me.0.views u.token.me.0.views) 0
        ∙ both_length s.token.me.0.views u.token.me.0.views as_many ∙ rest.one;
    rests = joined_there moves 0 s.token.me.0 u.token.me.0 has_view as_many s.token.me.1 token.me told
        s.key.value.opening.value s.key.value.first rest.rests;
  }

  pub joins : Joins moves h two (held Joined)
  joins =
      let one = joined_told moves 0 s.token.me.0 u.token.me.0 has_view as_many s.token.me.1 token.me told
      s.key.value.opening.value s.key.value.first rest.rests in
      let view = joined_view moves 0 s.token.me.0 u.token.me.0 has_view as_many s.token.me.1 token.me told in
      subst (λ (k : Holding O C R). Joins moves h k (held Joined)) is.1
      (subst (λ (k : Holding O C R). Joins moves k (held u) (held Joined)) shown
      (subst (Joins moves (held s) (held u))
      (λ i. holding (sym same i) s.key.value.first s.key.value.opening.value (sym view i))
      (joined_one moves s.token.table_id u.token.table_id s.key.value.first u.key.value.first s.key.value.opening.value
      u.key.value.opening.value told.order 0 (view_at 0 s.token.me.0) (view_at 0 u.token.me.0) one)))
