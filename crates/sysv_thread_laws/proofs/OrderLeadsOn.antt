-- From a world in which a first part of the order was made, the rest of the order leads on.
use Rattle.std.proofs.Common.{◌≡◌, ◌≢◌, inl, inr, ℕ, zero, suc, ◌==◌, ◌&&◌, Bool, true, false, cond, not, List, [], ◌∷◌}
use Rattle.std.proofs.Common.{◌++◌, Some, refl, sym, ap, subst, ◌∙◌, arith, map, append_assoc, slice_get, slice_set}
use Rattle.std.specs.List.{All, filter}
use Rattle.std.specs.Option.{option_map}
use Rattle.std.proofs.lemmas.List.{map-append, append-nil, map-set}
use Rattle.std.proofs.lemmas.List.Elements.{All-cons}
use Rattle.std.proofs.lemmas.Grind.{flat_map-append}
use Rattle.std.proofs.lemmas.Option.{slice_get-map}
use Rattle.sysv_model.specs.History.{Who, Seat, ReadRow, Reply, Entry}
use Rattle.sysv_model.specs.Turn.{Op, AtSlot, AtRegistry, AtPool, Turn, is_same, ops_of, slot_entry, registry_entry}
use Rattle.sysv_model.specs.Turn.{pool_entry, slot_history, registry_history, pool_history}
use Rattle.sysv_objects.specs.LegalOp.{IsLegalOp, AreLegal}
use Rattle.sysv_core.specs.World.{World, Response, doing_in, with_turn}
use Rattle.sysv_thread_laws.specs.Execution.{nobody, Moment, Reads, LeadsOnThreads}
use Rattle.sysv_model.specs.Turns.{Numbered, turn_of, turns_of}
use Rattle.sysv_thread_laws.specs.Order.{shows_row, is_in_call_of, ops_by}
use Rattle.sysv_thread_laws.specs.OrderIsRun.{name_at, Renamed, turn_as, renamed_turn, turns_by}
use Rattle.sysv_thread_laws.proofs.Places.{number_same, number_other, and_false, same_or_other, get_set_same}
use Rattle.sysv_thread_laws.proofs.Places.{get_set_other, set_same, same_name, other_name, not_nobody}
use Rattle.sysv_thread_laws.proofs.LegalWhoever.{Acts, legal_alike}
use Rattle.sysv_thread_laws.proofs.PlayedCallGoesOn.{leads_more, PlaysOn, IsSettled, is_at_its_end, Makes, makes_turn}
use Rattle.sysv_thread_laws.proofs.NextCall.{PendingCall, doing_of, done_of, IsRight, left_in, ops, Picked, pick}
use Rattle.sysv_thread_laws.proofs.NextCall.{none_left}

-- ---- a turn of the order is legal after those before it

module _ (generation blocks : ℕ) (before : List Numbered) (t : Numbered) (rest : List Numbered) where
  abbrev whole : List Turn
  whole = turns_of (before ++ t ∷ rest)

  parts : whole ≡ turns_of before ++ turn_of t ∷ turns_of rest
  parts = map-append turn_of before (t ∷ rest)

  legal_next : (op : Op) → t.op ≡ op → AreLegal generation blocks whole →
      IsLegalOp generation blocks (turns_of before) op
  legal_next (AtSlot slot call reply) is l =
      let e : Entry = record { who = Seat t.by; call = call; reply = reply } in
      let here : slot_entry slot (Seat t.by) t.op ≡ e ∷ [] =
      ap (slot_entry slot (Seat t.by)) is ∙ ap (λ b. cond b (e ∷ []) []) (number_same slot) in
      l.slots slot (slot_history slot (turns_of before)) e (slot_history slot (turns_of rest))
      (ap (slot_history slot) parts
      ∙ (flat_map-append (λ (x : Turn). slot_entry slot x.who x.op) (turns_of before) (turn_of t ∷ turns_of rest)
      ∙ ap (λ es. slot_history slot (turns_of before) ++ (es ++ slot_history slot (turns_of rest))) here))
  legal_next (AtRegistry call reply) is l =
      l.registry (registry_history (turns_of before)) (record { who = Seat t.by; call = call; reply = reply })
      (registry_history (turns_of rest))
      (ap registry_history parts
      ∙ (flat_map-append (λ (x : Turn). registry_entry x.who x.op) (turns_of before) (turn_of t ∷ turns_of rest)
      ∙ ap (λ d.
      registry_history (turns_of before) ++ (registry_entry (Seat t.by) d ++ registry_history (turns_of rest))) is))
  legal_next (AtPool call reply) is l =
      l.pool (pool_history (turns_of before)) (record { who = Seat t.by; call = call; reply = reply })
      (pool_history (turns_of rest))
      (ap pool_history parts
      ∙ (flat_map-append (λ (x : Turn). pool_entry x.who x.op) (turns_of before) (turn_of t ∷ turns_of rest)
      ∙ ap (λ d. pool_history (turns_of before) ++ (pool_entry (Seat t.by) d ++ pool_history (turns_of rest))) is))

-- ---- the turns of a pass, in order

module _ (number : ℕ) (t : Numbered) (rest : List Numbered) where
  pub by_it : is_in_call_of number t ≡ true → ops_by number (t ∷ rest) ≡ t.op ∷ ops_by number rest
  by_it e = ap (λ b.
      map (λ (x : Numbered). x.op)
      (cond b (t ∷ filter (is_in_call_of number) rest) (filter (is_in_call_of number) rest))) e

  pub by_another : is_in_call_of number t ≡ false → ops_by number (t ∷ rest) ≡ ops_by number rest
  by_another e = ap (λ b.
      map (λ (x : Numbered). x.op)
      (cond b (t ∷ filter (is_in_call_of number) rest) (filter (is_in_call_of number) rest))) e

module _ (number : ℕ) (r : Renamed) (rest : List Renamed) where
  abbrev test : Renamed → Bool
  test x = is_in_call_of number x.turn

  pub turn_by_it : is_in_call_of number r.turn ≡ true →
      turns_by number (r ∷ rest) ≡ renamed_turn r ∷ turns_by number rest
  turn_by_it e = ap (λ b. map renamed_turn (cond b (r ∷ filter test rest) (filter test rest))) e

  pub turn_by_another : is_in_call_of number r.turn ≡ false → turns_by number (r ∷ rest) ≡ turns_by number rest
  turn_by_another e = ap (λ b. map renamed_turn (cond b (r ∷ filter test rest) (filter test rest))) e

row_of_no_call : (t : Numbered) (number : ℕ) → shows_row t.op ≡ true → is_in_call_of number t ≡ false
row_of_no_call t number shows = ap (λ b. (t.by == number) && not b) shows ∙ and_false (t.by == number)

in_its_call : (t : Numbered) → shows_row t.op ≡ false → is_in_call_of t.by t ≡ true
in_its_call t quiet = ap (λ b. (t.by == t.by) && not b) quiet ∙ ap (λ b. b && true) (number_same t.by)

in_no_other_call : (t : Numbered) (number : ℕ) → t.by ≢ number → is_in_call_of number t ≡ false
in_no_other_call t number apart = ap (λ b. b && not (shows_row t.op)) (number_other t.by number apart)

pub row_form : (op : Op) → shows_row op ≡ true → (slot : ℕ) × (reply : Reply) × (op ≡ AtSlot slot ReadRow reply)
row_form (AtSlot slot ReadRow reply) e = (slot, reply, refl)
row_form op e = absurd cc

-- ---- what is so of each world on the way

pub record Holds (gen size : ℕ) (before rest : List Numbered) (w : World) (us : List PendingCall) : Type 0 where
  pub legal : AreLegal gen size (turns_of (before ++ rest))
  pub generation : w.generation ≡ gen
  pub blocks : w.blocks ≡ size
  pub acts : Acts w.turns (turns_of before)
  pub actors : w.actors ≡ map doing_of us
  pub right : (place : ℕ) (u : PendingCall) → slice_get us place ≡ Some u → IsRight place u
  pub whole : (number : ℕ) → ops_by number rest ≡ ops (left_in number us)

abbrev pub IsNobodys : Renamed → Type 0
IsNobodys r = shows_row r.turn.op ≡ true → r.name ≡ nobody

-- The rest of the order was made.
pub record Went (rest : List Numbered) (w : World) (us : List PendingCall) : Type 0 where
  pub moments : List Moment
  pub responses : List Response
  pub world : World
  pub renamed : List Renamed
  pub leads : LeadsOnThreads w moments responses world
  pub before : map (λ (r : Renamed). r.turn) renamed ≡ rest
  pub after : world.turns ≡ w.turns ++ map renamed_turn renamed
  pub rows : All IsNobodys renamed
  pub whose : (number : ℕ) → turns_by number renamed ≡ left_in number us
  pub own : (place : ℕ) (u : PendingCall) → slice_get us place ≡ Some u →
      ops_of u.call.who (map renamed_turn renamed) ≡ u.rest
  pub actors : world.actors ≡ map done_of us
  pub calls : world.calls ≡ w.calls

same_all : (us : List PendingCall) →
    ((place : ℕ) (u : PendingCall) → slice_get us place ≡ Some u → doing_of u ≡ done_of u) →
    map doing_of us ≡ map done_of us
same_all [] same = refl
same_all (u ∷ us) same = ap (λ d. d ∷ map doing_of us) (same zero u refl)
    ∙ ap (λ ds. done_of u ∷ ds) (same_all us (λ place v there. same (suc place) v there))

-- The operations of a call, if one more turn precedes the other ones.
module _ (who other : Who) (op : Op) (ts : List Turn) where
  own_first : is_same who other ≡ true → ops_of who (turn_as other op ∷ ts) ≡ op ∷ ops_of who ts
  own_first e = ap (λ b.
      ops (cond b (turn_as other op ∷ filter (λ (x : Turn). is_same who x.who) ts)
      (filter (λ (x : Turn). is_same who x.who) ts))) e

  other_first : is_same who other ≡ false → ops_of who (turn_as other op ∷ ts) ≡ ops_of who ts
  other_first e = ap (λ b.
      ops (cond b (turn_as other op ∷ filter (λ (x : Turn). is_same who x.who) ts)
      (filter (λ (x : Turn). is_same who x.who) ts))) e

no_turns : (ts : List Turn) → ops ts ≡ [] → ts ≡ []
no_turns [] none = refl
no_turns (t ∷ ts) none = absurd cc

module _ (gen size : ℕ) where
  abbrev Goes : List Numbered → List Numbered → Type 0
  Goes before rest = (w : World) (us : List PendingCall) → Holds gen size before rest w us → Went rest w us

  -- The order has come to its end.
  at_end : (place : ℕ) (u : PendingCall) → IsRight place u → u.rest ≡ [] → doing_of u ≡ done_of u
  at_end place u r none =
      ap (doing_in u.call)
      (is_at_its_end (subst (PlaysOn u.to u.state) none r.plays) (subst (IsSettled u.to u.state) none r.settled))

  ends : (before : List Numbered) → Goes before []
  ends before w us h =
      let none = none_left us (λ number. sym (h.whole number)) in
      record {
        moments = [];
        responses = [];
        world = w;
        renamed = [];
        leads = (refl, refl);
        before = refl;
        after = sym (append-nil w.turns);
        rows = λ k d low. absurd (omega (arith, low));
        whose = λ number. sym (no_turns (left_in number us) (sym (h.whole number)));
        own = λ place u there. sym (none place u there);
        actors = h.actors ∙ same_all us (λ place u there. at_end place u (h.right place u there) (none place u there));
        calls = refl;
      }

  module _ (before : List Numbered) (t : Numbered) (rest : List Numbered) where
    abbrev more_before : List Numbered
    more_before = before ++ t ∷ []

    moved : more_before ++ rest ≡ before ++ t ∷ rest
    moved = append_assoc before (t ∷ []) rest

    module _ (w : World) (us : List PendingCall) (h : Holds gen size before (t ∷ rest) w us) where
      legal_here : IsLegalOp w.generation w.blocks w.turns t.op
      legal_here =
          subst (λ n. IsLegalOp n w.blocks w.turns t.op) (sym h.generation)
          (subst (λ n. IsLegalOp gen n w.turns t.op) (sym h.blocks)
          (legal_alike gen size (turns_of before) w.turns t.op (sym h.acts)
          (legal_next gen size before t rest t.op refl h.legal)))

      legal_rest : AreLegal gen size (turns_of (more_before ++ rest))
      legal_rest = subst (λ ts. AreLegal gen size (turns_of ts)) (sym moved) h.legal

      acts_more : (who : Who) → Acts (w.turns ++ turn_as who t.op ∷ []) (turns_of more_before)
      acts_more who =
          map-append (λ (x : Turn). x.op) w.turns (turn_as who t.op ∷ [])
          ∙ (ap (λ ds. ds ++ t.op ∷ []) h.acts
          ∙ sym
          (ap ops (map-append turn_of before (t ∷ []))
          ∙ map-append (λ (x : Turn). x.op) (turns_of before) (turn_of t ∷ [])))

      -- A row is read.
      module _ (shows : shows_row t.op ≡ true) (again : Goes more_before rest) where
        form : (slot : ℕ) × (reply : Reply) × (t.op ≡ AtSlot slot ReadRow reply)
        form = row_form t.op shows

        abbrev read : World
        read = with_turn w nobody t.op

        then_holds : Holds gen size more_before rest read us
        then_holds = record {
          legal = legal_rest;
          generation = h.generation;
          blocks = h.blocks;
          acts = acts_more nobody;
          actors = h.actors;
          right = h.right;
          whole = λ number. sym (by_another number t rest (row_of_no_call t number shows)) ∙ h.whole number;
        }

        row_step : Went (t ∷ rest) w us
        row_step =
            let r = again read us then_holds in
            record {
              moments = Reads form.0 ∷ r.moments;
              responses = r.responses;
              world = r.world;
              renamed = record { turn = t; name = nobody } ∷ r.renamed;
              leads = (
                read,
                [],
                r.responses,
                (
                  form.1,
                  subst (IsLegalOp w.generation w.blocks w.turns) form.2 legal_here,
                  refl,
                  ap (with_turn w nobody) form.2,
                ),
                r.leads,
                refl,
              );
              before = ap (λ ts. t ∷ ts) r.before;
              after = r.after ∙ append_assoc w.turns (turn_as nobody t.op ∷ []) (map renamed_turn r.renamed);
              rows = All-cons IsNobodys (record { turn = t; name = nobody }) r.renamed (λ e. refl) r.rows;
              whose = λ number.
                  turn_by_another number (record { turn = t; name = nobody }) r.renamed (row_of_no_call t number shows)
                  ∙ r.whose number;
              own = λ place u there.
                  other_first u.call.who nobody t.op (map renamed_turn r.renamed)
                  (not_nobody u.call.who place (h.right place u there).name) ∙ r.own place u there;
              actors = r.actors;
              calls = r.calls;
            }

      -- A call makes its turn.
      module _ (quiet : shows_row t.op ≡ false) (again : Goes more_before rest) (p : Picked t.by t.op us) where
        abbrev u : PendingCall
        u = p.u

        u_right : IsRight p.place u
        u_right = h.right p.place u p.there

        at_actor : slice_get w.actors p.place ≡ Some (doing_of u)
        at_actor = ap (λ ds. slice_get ds p.place) h.actors
            ∙ (slice_get-map doing_of us p.place ∙ ap (option_map doing_of) p.there)

        made : Makes w p.place u.call u.to t.op p.rest
        made =
            makes_turn w p.place u.call u.to t.op p.rest legal_here u.state at_actor
            (subst (PlaysOn u.to u.state) p.first u_right.plays)
            (subst (IsSettled u.to u.state) p.first u_right.settled)

        module _ (m : Makes w p.place u.call u.to t.op p.rest) where
          abbrev v : PendingCall
          v = record { by = t.by; call = u.call; state = m.state; rest = p.rest; to = u.to }

          abbrev then_us : List PendingCall
          then_us = slice_set us p.place v

          v_there : slice_get then_us p.place ≡ Some v
          v_there = get_set_same us p.place v u p.there

          left_here : left_in t.by us ≡ turn_as u.call.who t.op ∷ left_in t.by then_us
          left_here = p.next v refl refl refl

          whole_here : ops_by t.by rest ≡ ops (left_in t.by then_us)
          whole_here =
              let now : t.op ∷ ops_by t.by rest ≡ t.op ∷ ops (left_in t.by then_us) =
              sym (by_it t.by t rest (in_its_call t quiet)) ∙ (h.whole t.by ∙ ap ops left_here) in
              cc

          whole_then : (number : ℕ) → ops_by number rest ≡ ops (left_in number then_us)
          whole_then number = elim (same_or_other t.by number) [
            | inl same ↦ subst (λ n. ops_by n rest ≡ ops (left_in n then_us)) same whole_here
            | inr other ↦ sym (by_another number t rest (in_no_other_call t number other))
                ∙ (h.whole number ∙ ap ops (sym (p.others v refl number (λ e. other (sym e)))))
          ]

          right_then : (place : ℕ) (x : PendingCall) → slice_get then_us place ≡ Some x → IsRight place x
          right_then place x there = elim (same_or_other p.place place) [
            | inl same ↦
                let is : v ≡ x =
                (let both : Some v ≡ Some x = sym v_there ∙ (ap (slice_get then_us) same ∙ there) in cc) in
                subst (IsRight place) is
                (record { name = u_right.name ∙ ap name_at same; plays = m.plays; settled = m.settled })
            | inr other ↦ h.right place x (sym (get_set_other us p.place place v other) ∙ there)
          ]

          step_holds : Holds gen size more_before rest m.mid then_us
          step_holds = record {
            legal = legal_rest;
            generation = m.generation ∙ h.generation;
            blocks = m.blocks ∙ h.blocks;
            acts = ap ops m.turns ∙ acts_more u.call.who;
            actors = m.actors
                ∙ (ap (λ ds. slice_set ds p.place (doing_of v)) h.actors ∙ sym (map-set doing_of us p.place v));
            right = right_then;
            whole = whole_then;
          }

          module _ (r : Went rest m.mid then_us) where
            abbrev named : Renamed
            named = record { turn = t; name = u.call.who }

            whose_now : (number : ℕ) → turns_by number (named ∷ r.renamed) ≡ left_in number us
            whose_now number = elim (same_or_other t.by number) [
              | inl same ↦
                  subst (λ n. turns_by n (named ∷ r.renamed) ≡ left_in n us) same
                  (turn_by_it t.by named r.renamed (in_its_call t quiet)
                  ∙ (ap (λ ts. turn_as u.call.who t.op ∷ ts) (r.whose t.by) ∙ sym left_here))
              | inr other ↦ turn_by_another number named r.renamed (in_no_other_call t number other)
                  ∙ (r.whose number ∙ p.others v refl number (λ e. other (sym e)))
            ]

            own_now : (place : ℕ) (x : PendingCall) → slice_get us place ≡ Some x →
                ops_of x.call.who (map renamed_turn (named ∷ r.renamed)) ≡ x.rest
            own_now place x there = elim (same_or_other p.place place) [
              | inl same ↦
                  let is : u ≡ x =
                  (let both : Some u ≡ Some x = sym p.there ∙ (ap (slice_get us) same ∙ there) in cc) in
                  subst (λ (y : PendingCall). ops_of y.call.who (map renamed_turn (named ∷ r.renamed)) ≡ y.rest) is
                  (own_first u.call.who u.call.who t.op (map renamed_turn r.renamed)
                  (same_name u.call.who p.place u_right.name)
                  ∙ (ap (λ ds. t.op ∷ ds) (r.own p.place v v_there) ∙ sym p.first))
              | inr other ↦
                  other_first x.call.who u.call.who t.op (map renamed_turn r.renamed)
                  (other_name x.call.who u.call.who place p.place (h.right place x there).name u_right.name other)
                  ∙ r.own place x (get_set_other us p.place place v other ∙ there)
            ]

            call_step : Went (t ∷ rest) w us
            call_step = record {
              moments = m.moments ++ r.moments;
              responses = m.responses ++ r.responses;
              world = r.world;
              renamed = named ∷ r.renamed;
              leads = leads_more m.moments r.moments w m.mid r.world m.responses r.responses m.leads r.leads;
              before = ap (λ ts. t ∷ ts) r.before;
              after = r.after
                  ∙ (ap (λ ts. ts ++ map renamed_turn r.renamed) m.turns
                  ∙ append_assoc w.turns (turn_as u.call.who t.op ∷ []) (map renamed_turn r.renamed));
              rows = All-cons IsNobodys named r.renamed (λ e. absurd (let bad : true ≡ false = sym e ∙ quiet in cc))
                  r.rows;
              whose = whose_now;
              own = own_now;
              actors = r.actors
                  ∙ (map-set done_of us p.place v
                  ∙ set_same (map done_of us) p.place (done_of u)
                  (slice_get-map done_of us p.place ∙ ap (option_map done_of) p.there));
              calls = r.calls ∙ m.calls;
            }

      made_next : (quiet : shows_row t.op ≡ false) → Goes more_before rest → Went (t ∷ rest) w us
      made_next quiet again =
          let p =
          pick t.by t.op us (ops_by t.by rest) (sym (h.whole t.by) ∙ by_it t.by t rest (in_its_call t quiet)) in
          let m = made quiet again p in
          call_step quiet again p m (again m.mid (then_us quiet again p m) (step_holds quiet again p m))

      step : (b : Bool) → shows_row t.op ≡ b → Goes more_before rest → Went (t ∷ rest) w us
      step true shows again = row_step shows again
      step false quiet again = made_next quiet again

  pub goes : (before rest : List Numbered) → Goes before rest
  goes before [] w us h = ends before w us h
  goes before (t ∷ rest) w us h = step before t rest w us h (shows_row t.op) refl (goes (before ++ t ∷ []) rest)
