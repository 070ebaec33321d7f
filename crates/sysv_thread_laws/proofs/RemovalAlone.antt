-- A removal of a live queue by the superuser, while no other pass makes turns, leaves its slot
-- vacant.
use Rattle.std.proofs.Common.{◌≡◌, ◌≤◌, inl, inr, ℕ, ℤ, pos, ◌==◌, ◌||◌, Bool, true, false, cond, List, [], ◌∷◌}
use Rattle.std.proofs.Common.{◌++◌, map, Option, Some, None, refl, sym, ap, subst, ◌∙◌, arith, append_assoc, int_lt}
use Rattle.std.specs.List.{All, list_any, flat_map, fold}
use Rattle.std.proofs.lemmas.Bool.Decides.{nat_tests}
use Rattle.std.proofs.lemmas.Grind.{flat_map-append}
use Rattle.std.proofs.lemmas.List.{append-nil, map-append}
use Rattle.std.proofs.lemmas.List.Elements.{All-nil, All-cons, All-head, All-tail}
use Rattle.sysv_lists.specs.Numbers.{times}
use Rattle.sysv_model.specs.declared.attributes.Attributes.{Attributes}
use Rattle.sysv_model.specs.declared.errno.Errno.{Errno}
use Rattle.sysv_model.specs.declared.errno.Errno.TheVariants.{EINVAL, EPERM}
use Rattle.sysv_model.specs.History.{Who, Seat, Call, Install, Place, Take, Set, Remove, ReadRow, Reply, Installed}
use Rattle.sysv_model.specs.History.{Accepted, Taken, Done, Discarded, Refused as IsRefusedFor, Entry, History}
use Rattle.sysv_model.specs.Live.{live, live_after, HasId}
use Rattle.sysv_model.specs.Turn.{Op, AtSlot, AtRegistry, AtPool, asked_by, Turn, slot_entry, slot_history}
use Rattle.sysv_model.specs.Turns.{Numbered, turns_of}
use Rattle.sysv_model.specs.Turns.{turn_of as turn_at}
use Rattle.sysv_model.specs.Members.{Member, AreOwn, AreOfOthers, SeesMore, MakesTurn, Does, starts, sees, makes}
use Rattle.sysv_queue.specs.Granted.{MayControl}
use Rattle.sysv_queue.specs.LegalReply.{IsLegalReply, IsLegalHistory}
use Rattle.sysv_keys.specs.Identifier.{slot_of_id}
use Rattle.sysv_steps.specs.Call.{MsgctlRmid}
use Rattle.sysv_steps.specs.State.{Ending, Zero, Over}
use Rattle.sysv_steps.specs.Begin.{begin}
use Rattle.sysv_steps.specs.AsksFor.{AsksFor, EachOpIsAskedFor}
use Rattle.sysv_steps.specs.Answers.{is_at_slot, was_removed, refused_by, EachAnswerIsRight}
use Rattle.sysv_steps.specs.Played.{Plays}
use Rattle.sysv_core.proofs.Histories.{slot_more, live_more}
use Rattle.sysv_core.proofs.TurnInHistory.{slot_around}
use Rattle.sysv_service.specs.Stopped.{superuser}

-- The history of a slot in an order.
abbrev pub history : ℕ → List Numbered → History
history slot order = slot_history slot (turns_of order)

-- The turns that were made under the number, with these operations.
abbrev pub done_by : ℕ → List Op → List Numbered
done_by number ops = map (λ (d : Op). record { by = number; op = d }) ops

-- ---- identifiers of queues

-- If the operation made a queue, its identifier belongs to the slot and is not negative.
abbrev pub IsWellInstalled : Op → Type 0
IsWellInstalled (AtSlot slot (Install id key cred mode now) (Installed true)) =
    (slot_of_id id ≡ slot) × (int_lt id (pos 0) ≡ false)
IsWellInstalled op = Unit {0}

-- The same of a queue that is live in the slot.
abbrev pub IsWell : ℕ → Option Attributes → Type 0
IsWell slot None = Unit {0}
IsWell slot (Some a) = (slot_of_id a.id ≡ slot) × (int_lt a.id (pos 0) ≡ false)

well_after : (slot : ℕ) (o : Option Attributes) (call : Call) (reply : Reply) → IsWell slot o →
    IsWellInstalled (AtSlot slot call reply) → IsWell slot (live_after o call reply)
well_after slot o (Install id key cred mode now) (Installed true) well installed = installed
well_after slot None (Place id cred mtype bytes now) (Accepted number) well installed = tt
well_after slot (Some a) (Place id cred mtype bytes now) (Accepted number) well installed = well
well_after slot None (Take id cred selector size noerror now) (Taken m) well installed = tt
well_after slot (Some a) (Take id cred selector size noerror now) (Taken m) well installed = well
well_after slot None (Set id cred to now) Done well installed = tt
well_after slot (Some a) (Set id cred to now) Done well installed = well
well_after slot o (Remove id cred) (Discarded messages) well installed = tt
well_after slot o call reply well installed = well

abbrev then_live : Option Attributes → Entry → Option Attributes
then_live o e = live_after o e.call e.reply

module _ (slot : ℕ) (rest : History)
    (after : (o : Option Attributes) → IsWell slot o → IsWell slot (fold then_live o rest))
  where
    well_entry : (o : Option Attributes) (who : Who) (at : ℕ) (call : Call) (reply : Reply) (b : Bool) →
        (at == slot) ≡ b →
        IsWell slot o → IsWellInstalled (AtSlot at call reply) →
        IsWell slot
        (fold then_live o (cond b (record { who = who; call = call; reply = reply } ∷ []) [] ++ rest))
    well_entry o who at call reply true is well installed =
        let same : at ≡ slot = grind (arith, nat_tests, is) in
        after (live_after o call reply)
        (well_after slot o call reply well (subst (λ s. IsWellInstalled (AtSlot s call reply)) same installed))
    well_entry o who at call reply false is well installed = after o well

    well_turn : (o : Option Attributes) (who : Who) (op : Op) → IsWell slot o → IsWellInstalled op →
        IsWell slot (fold then_live o (slot_entry slot who op ++ rest))
    well_turn o who (AtSlot at call reply) well installed =
        well_entry o who at call reply (at == slot) refl well installed
    well_turn o who (AtRegistry call reply) well installed = after o well
    well_turn o who (AtPool call reply) well installed = after o well

abbrev IsWellTurn : Numbered → Type 0
IsWellTurn t = IsWellInstalled t.op

well_from : (slot : ℕ) (order : List Numbered) → All IsWellTurn order → (o : Option Attributes) → IsWell slot o →
    IsWell slot (fold then_live o (history slot order))
well_from slot [] all o well = well
well_from slot (t ∷ order) all o well =
    well_turn slot (history slot order) (well_from slot order (All-tail IsWellTurn t order all)) o (Seat t.by) t.op
    well
    (All-head IsWellTurn t order all)

pub well_live : (slot : ℕ) (order : List Numbered) → All IsWellTurn order → IsWell slot (live (history slot order))
well_live slot order all = well_from slot order all None tt

-- ---- a part of an order

-- What holds of each part of the order that is found at the close: the turns were made under these
-- numbers, with legal replies.
pub record IsFine (numbers : List ℕ) (order : List Numbered) : Type 0 where
  pub own : AreOwn numbers order
  pub legal : (slot : ℕ) → IsLegalHistory (history slot order)
  pub well : All IsWellTurn order

history_append : (slot : ℕ) (xs ys : List Numbered) → history slot (xs ++ ys) ≡ history slot xs ++ history slot ys
history_append slot xs ys =
    ap (slot_history slot) (map-append turn_at xs ys)
    ∙ flat_map-append (λ (t : Turn). slot_entry slot t.who t.op) (turns_of xs) (turns_of ys)

module _ (P : Numbered → Type 0) where
  all_front : (xs ys : List Numbered) → All P (xs ++ ys) → All P xs
  all_front [] ys all = All-nil P
  all_front (x ∷ xs) ys all =
      All-cons P x xs (All-head P x (xs ++ ys) all) (all_front xs ys (All-tail P x (xs ++ ys) all))

  all_back : (xs ys : List Numbered) → All P (xs ++ ys) → All P ys
  all_back [] ys all = all
  all_back (x ∷ xs) ys all = all_back xs ys (All-tail P x (xs ++ ys) all)

legal_front : (h more : History) → IsLegalHistory (h ++ more) → IsLegalHistory h
legal_front h more legal before e after is =
    legal before e (after ++ more) (ap (λ k. k ++ more) is ∙ append_assoc before (e ∷ after) more)

pub fine_front : (numbers : List ℕ) (xs ys : List Numbered) → IsFine numbers (xs ++ ys) → IsFine numbers xs
fine_front numbers xs ys fine = record {
  own = all_front (λ (t : Numbered). 1 ≤ times t.by numbers) xs ys fine.own;
  legal = λ slot. legal_front (history slot xs) (history slot ys)
      (subst IsLegalHistory (history_append slot xs ys) (fine.legal slot));
  well = all_front IsWellTurn xs ys fine.well;
}

-- ---- no other pass makes a turn

none_others : (numbers : List ℕ) (others : List Numbered) → AreOwn numbers others → AreOfOthers numbers others →
    others ≡ []
none_others numbers [] own apart = refl
none_others numbers (t ∷ others) own apart =
    let here = All-head (λ (x : Numbered). 1 ≤ times x.by numbers) t others own in
    let none = All-head (λ (x : Numbered). times x.by numbers ≡ 0) t others apart in
    absurd (omega (arith, here, none))

abbrev order_of : Member → List Numbered
order_of member = member.order

own_others : (numbers : List ℕ) (order others : List Numbered) → IsFine numbers (order ++ others) →
    AreOfOthers numbers others → order ++ others ≡ order
own_others numbers order others fine apart =
    ap (λ os. order ++ os)
    (none_others numbers others (all_back (λ (t : Numbered). 1 ≤ times t.by numbers) order others fine.own) apart)
    ∙ append-nil order

pub sees_none : (before after : Member) → SeesMore before after → IsFine before.numbers after.order →
    after.order ≡ before.order
sees_none before after s fine =
    let more = ap order_of s.goes_on in
    more ∙ own_others before.numbers before.order s.others (subst (IsFine before.numbers) more fine) s.apart

pub turns_alone : (before after : Member) (op : Op) → MakesTurn before op after →
    IsFine before.numbers after.order → after.order ≡ before.order ++ done_by before.number (op ∷ [])
turns_alone before after op m fine =
    let own = record { by = before.number; op = op } ∷ [] in
    let more = ap order_of m.goes_on in
    let known = fine_front before.numbers (before.order ++ m.others) own (subst (IsFine before.numbers) more fine) in
    more ∙ ap (λ os. os ++ own) (own_others before.numbers before.order m.others known m.apart)

pub number_stays : (start : Member) (ops : List Op) (after : Member) → Does start ops after →
    (after.number ≡ start.number) × (after.numbers ≡ start.numbers)
number_stays start _ _ starts = (refl, refl)
number_stays start _ _ (sees {ops} {mid} after does s) =
    let rest = number_stays start ops mid does in (
      ap (λ (m : Member). m.number) s.goes_on ∙ rest.0,
      ap (λ (m : Member). m.numbers) s.goes_on ∙ rest.1,
    )
number_stays start _ _ (makes {ops} {mid} op after does m) =
    let rest = number_stays start ops mid does in (
      ap (λ (x : Member). x.number) m.goes_on ∙ rest.0,
      ap (λ (x : Member). x.numbers) m.goes_on ∙ rest.1,
    )

pub does_alone : (start : Member) (ops : List Op) (after : Member) → Does start ops after →
    IsFine start.numbers after.order → after.order ≡ start.order ++ done_by start.number ops
does_alone start _ _ starts fine = sym (append-nil start.order)
does_alone start _ _ (sees {ops} {mid} after does s) fine =
    let same = number_stays start ops mid does in
    let seen = sees_none mid after s (subst (λ ns. IsFine ns after.order) (sym same.1) fine) in
    seen ∙ does_alone start ops mid does (subst (IsFine start.numbers) seen fine)
does_alone start _ _ (makes {ops} {mid} op after does m) fine =
    let same = number_stays start ops mid does in
    let own : List Numbered = done_by mid.number (op ∷ []) in
    let made = turns_alone mid after op m (subst (λ ns. IsFine ns after.order) (sym same.1) fine) in
    let rest =
    does_alone start ops mid does (fine_front start.numbers mid.order own (subst (IsFine start.numbers) made fine)) in
    made
    ∙ (ap (λ os. os ++ own) rest
    ∙ (ap (λ n. (start.order ++ done_by start.number ops) ++ done_by n (op ∷ [])) same.0
    ∙ (append_assoc start.order (done_by start.number ops) (done_by start.number (op ∷ []))
    ∙ ap (λ os. start.order ++ os)
    (sym (map-append (λ (d : Op). record { by = start.number; op = d }) ops (op ∷ []))))))

-- ---- one more turn

history_more : (slot : ℕ) (order : List Numbered) (t : Numbered) →
    history slot (order ++ t ∷ []) ≡ history slot order ++ slot_entry slot (Seat t.by) t.op
history_more slot order t =
    ap (slot_history slot) (map-append turn_at order (t ∷ [])) ∙ slot_more slot (turns_of order) (turn_at t)

-- A read of a row leaves each slot as it was.
pub row_leaves : (slot at number : ℕ) (order : List Numbered) (reply : Reply) →
    live (history slot (order ++ done_by number (AtSlot at ReadRow reply ∷ []))) ≡ live (history slot order)
row_leaves slot at number order reply =
    ap live (history_more slot order (record { by = number; op = AtSlot at ReadRow reply })) ∙ by_slot (at == slot)
  where
    by_slot : (b : Bool) →
        live (history slot order ++ cond b (record { who = Seat number; call = ReadRow; reply = reply } ∷ []) [])
        ≡ live (history slot order)
    by_slot true = live_more (history slot order) (record { who = Seat number; call = ReadRow; reply = reply })
    by_slot false = ap live (append-nil (history slot order))

-- ---- the turns of a removal

module _ (id : ℤ) where
  -- The operation is one that a removal of this queue by the superuser requests.
  abbrev Asks : Op → Type 0
  Asks op = AsksFor superuser (MsgctlRmid id) (asked_by op)

  abbrev removal : Reply → Op
  removal reply = AtSlot (slot_of_id id) (Remove id superuser) reply

  at_slot_is : (slot : ℕ) (call : Call) (reply : Reply) → Asks (AtSlot slot call reply) →
      AtSlot slot call reply ≡ removal reply
  at_slot_is slot call reply (inl e) =
      let there : slot ≡ slot_of_id id = cc in
      let is : call ≡ Remove id superuser = cc in
      cc
  at_slot_is slot call reply (inr (inl e)) = absurd cc
  at_slot_is slot call reply (inr (inr (blocks, e))) = absurd cc

  -- A vacant slot stays vacant.
  still_none : (reply : Reply) → live_after None (Remove id superuser) reply ≡ None
  still_none (Discarded messages) = refl
  still_none reply = refl

  removal_leaves : (slot number : ℕ) (order : List Numbered) (reply : Reply) → live (history slot order) ≡ None →
      live (history slot (order ++ done_by number (removal reply ∷ []))) ≡ None
  removal_leaves slot number order reply none =
      ap live (history_more slot order (record { by = number; op = removal reply })) ∙ by_slot (slot_of_id id == slot)
    where
      by_slot : (b : Bool) →
          live (history slot order
          ++ cond b (record { who = Seat number; call = Remove id superuser; reply = reply } ∷ []) [])
          ≡ None
      by_slot true =
          live_more (history slot order) (record { who = Seat number; call = Remove id superuser; reply = reply })
          ∙ (ap (λ o. live_after o (Remove id superuser) reply) none ∙ still_none reply)
      by_slot false = ap live (append-nil (history slot order)) ∙ none

  one_leaves : (slot number : ℕ) (order : List Numbered) (op : Op) → Asks op →
      live (history slot order) ≡ None → live (history slot (order ++ done_by number (op ∷ []))) ≡ None
  one_leaves slot number order (AtSlot at call reply) asks none =
      subst (λ (d : Op). live (history slot (order ++ done_by number (d ∷ []))) ≡ None)
      (sym (at_slot_is at call reply asks)) (removal_leaves slot number order reply none)
  one_leaves slot number order (AtRegistry call reply) asks none =
      ap live (history_more slot order (record { by = number; op = AtRegistry call reply })
      ∙ append-nil (history slot order)) ∙ none
  one_leaves slot number order (AtPool call reply) asks none =
      ap live (history_more slot order (record { by = number; op = AtPool call reply })
      ∙ append-nil (history slot order)) ∙ none

  -- The turns of an order, one of them first.
  one_first : (number : ℕ) (order : List Numbered) (op : Op) (ops : List Op) →
      (order ++ done_by number (op ∷ [])) ++ done_by number ops ≡ order ++ done_by number (op ∷ ops)
  one_first number order op ops = append_assoc order (done_by number (op ∷ [])) (done_by number ops)

  all_leave : (slot number : ℕ) (order : List Numbered) (ops : List Op) → All Asks ops →
      live (history slot order) ≡ None → live (history slot (order ++ done_by number ops)) ≡ None
  all_leave slot number order [] asks none = ap (λ os. live (history slot os)) (append-nil order) ∙ none
  all_leave slot number order (op ∷ ops) asks none =
      subst (λ os. live (history slot os) ≡ None) (one_first number order op ops)
      (all_leave slot number (order ++ done_by number (op ∷ [])) ops (All-tail Asks op ops asks)
      (one_leaves slot number order op (All-head Asks op ops asks) none))

  -- ---- the queue is removed

  may_control : (o : Option Attributes) → HasId o id → MayControl superuser o
  may_control None has = absurd has
  may_control (Some a) has = inl refl

  is_discarded : (h : History) (reply : Reply) → HasId (live h) id → IsLegalReply h (Remove id superuser) reply →
      (live_after (live h) (Remove id superuser) reply ≡ None) × (was_removed (removal reply) ≡ true)
  is_discarded h (Discarded messages) has legal = (refl, refl)
  is_discarded h (IsRefusedFor EINVAL) has legal = absurd (legal has)
  is_discarded h (IsRefusedFor EPERM) has legal = absurd (legal.1 (may_control (live h) has))
  is_discarded h (IsRefusedFor why) has legal = absurd legal
  is_discarded h reply has legal = absurd legal

  -- The queue is gone after the operations, and one of them removed it.
  record IsGone (number : ℕ) (order : List Numbered) (ops : List Op) : Type 0 where
    vacant : live (history (slot_of_id id) (order ++ done_by number ops)) ≡ None
    removed : list_any was_removed ops ≡ true

  removed_now : (numbers : List ℕ) (number : ℕ) (order : List Numbered) (reply : Reply) (ops : List Op) →
      All Asks ops → IsFine numbers (order ++ done_by number (removal reply ∷ ops)) →
      HasId (live (history (slot_of_id id) order)) id → IsGone number order (removal reply ∷ ops)
  removed_now numbers number order reply ops asks fine has =
      let slot = slot_of_id id in
      let h = history slot order in
      let e : Entry = record { who = Seat number; call = Remove id superuser; reply = reply } in
      let whole : history slot (order ++ done_by number (removal reply ∷ ops))
      ≡ h ++ e ∷ history slot (done_by number ops) =
      ap (slot_history slot) (map-append turn_at order (done_by number (removal reply ∷ ops)))
      ∙ slot_around slot (turns_of order) (turns_of (done_by number ops)) (Seat number) (Remove id superuser) reply in
      let legal = fine.legal slot h e (history slot (done_by number ops)) whole in
      let gone = is_discarded h reply has legal in
      let now : live (history slot (order ++ done_by number (removal reply ∷ []))) ≡ None =
      ap live (ap (slot_history slot) (map-append turn_at order (done_by number (removal reply ∷ [])))
      ∙ slot_around slot (turns_of order) [] (Seat number) (Remove id superuser) reply)
      ∙ (live_more h e ∙ gone.0) in
      record {
        vacant = subst (λ os. live (history slot os) ≡ None) (one_first number order (removal reply) ops)
            (all_leave slot number (order ++ done_by number (removal reply ∷ [])) ops asks now);
        removed = ap (λ b. b || list_any was_removed ops) gone.1;
      }

  later : (number : ℕ) (order : List Numbered) (op : Op) (ops : List Op) →
      was_removed op ≡ false → IsGone number (order ++ done_by number (op ∷ [])) ops →
      IsGone number order (op ∷ ops)
  later number order op ops none gone = record {
    vacant = subst (λ os. live (history (slot_of_id id) os) ≡ None) (one_first number order op ops) gone.vacant;
    removed = ap (λ b. b || list_any was_removed ops) none ∙ gone.removed;
  }

  still_has : (number : ℕ) (order : List Numbered) (op : Op) →
      slot_entry (slot_of_id id) (Seat number) op ≡ [] → HasId (live (history (slot_of_id id) order)) id →
      HasId (live (history (slot_of_id id) (order ++ done_by number (op ∷ [])))) id
  still_has number order op none has =
      let slot = slot_of_id id in
      let same : history slot (order ++ done_by number (op ∷ [])) ≡ history slot order =
      history_more slot order (record { by = number; op = op })
      ∙ (ap (λ es. history slot order ++ es) none ∙ append-nil (history slot order)) in
      subst (λ (h : History). HasId (live h) id) (sym same) has

  removes_it : (numbers : List ℕ) (number : ℕ) (order : List Numbered) (ops : List Op) → All Asks ops →
      IsFine numbers (order ++ done_by number ops) → HasId (live (history (slot_of_id id) order)) id →
      list_any is_at_slot ops ≡ true → IsGone number order ops
  removes_it numbers number order [] asks fine has some = absurd cc
  removes_it numbers number order (AtSlot slot call reply ∷ ops) asks fine has some =
      let op = AtSlot slot call reply in
      let is = at_slot_is slot call reply (All-head Asks op ops asks) in
      subst (λ (d : Op). IsGone number order (d ∷ ops)) (sym is)
      (removed_now numbers number order reply ops (All-tail Asks op ops asks)
      (subst (λ (d : Op). IsFine numbers (order ++ done_by number (d ∷ ops))) is fine) has)
  removes_it numbers number order (AtRegistry call reply ∷ ops) asks fine has some =
      let op = AtRegistry call reply in
      later number order op ops refl
      (removes_it numbers number (order ++ done_by number (op ∷ [])) ops (All-tail Asks op ops asks)
      (subst (IsFine numbers) (sym (one_first number order op ops)) fine)
      (still_has number order op refl has) some)
  removes_it numbers number order (AtPool call reply ∷ ops) asks fine has some =
      let op = AtPool call reply in
      later number order op ops refl
      (removes_it numbers number (order ++ done_by number (op ∷ [])) ops (All-tail Asks op ops asks)
      (subst (IsFine numbers) (sym (one_first number order op ops)) fine)
      (still_has number order op refl has) some)

-- ---- the call comes to the slot

removal_at_slot : (ops : List Op) → list_any was_removed ops ≡ true → list_any is_at_slot ops ≡ true
removal_at_slot [] some = some
removal_at_slot (AtSlot slot call reply ∷ ops) some = refl
removal_at_slot (AtRegistry call reply ∷ ops) some = removal_at_slot ops some
removal_at_slot (AtPool call reply ∷ ops) some = removal_at_slot ops some

refusal_at_slot : (ops : List Op) (why : Errno) → flat_map refused_by ops ≡ why ∷ [] →
    list_any is_at_slot ops ≡ true
refusal_at_slot [] why some = absurd cc
refusal_at_slot (AtSlot slot call reply ∷ ops) why some = refl
refusal_at_slot (AtRegistry call reply ∷ ops) why some = refusal_at_slot ops why some
refusal_at_slot (AtPool call reply ∷ ops) why some = refusal_at_slot ops why some

-- What a removal of a live queue does while no other pass makes turns.
pub record Removes (id : ℤ) (before after : Member) (ending : Ending) : Type 0 where
  pub ops : List Op
  pub whole : after.order ≡ before.order ++ done_by before.number ops
  pub vacant : live (history (slot_of_id id) after.order) ≡ None
  pub leaves : (slot : ℕ) → live (history slot before.order) ≡ None → live (history slot after.order) ≡ None
  pub zero : ending ≡ Zero

pub removes_alone : EachAnswerIsRight → EachOpIsAskedFor → (id : ℤ) (before after : Member) (ops : List Op)
    (ending : Ending) → int_lt id (pos 0) ≡ false → Plays (begin superuser (MsgctlRmid id) 0) ops (Over ending) →
    Does before ops after → IsFine before.numbers after.order →
    HasId (live (history (slot_of_id id) before.order)) id → Removes id before after ending
removes_alone right asked id before after ops ending whole play does fine has =
    let order = does_alone before ops after does fine in
    let asks : All (Asks id) ops = asked superuser (MsgctlRmid id) 0 ops (Over ending) play in
    let answer = right superuser (MsgctlRmid id) 0 ops ending play in
    let there : list_any is_at_slot ops ≡ true = elim answer.only [
      | inl zero ↦ removal_at_slot ops (answer.zero.0 zero)
      | inr (why, refused) ↦ elim ((answer.refused why).0 refused) [
        | inl own ↦ let bad : false ≡ true = sym whole ∙ own.1 in absurd cc
        | inr told ↦ refusal_at_slot ops why told
      ]
    ] in
    let gone = removes_it id before.numbers before.number before.order ops asks
    (subst (IsFine before.numbers) order fine) has there in
    record {
      ops = ops;
      whole = order;
      vacant = subst (λ os. live (history (slot_of_id id) os) ≡ None) (sym order) gone.vacant;
      leaves = λ slot none. subst (λ os. live (history slot os) ≡ None) (sym order)
          (all_leave id slot before.number before.order ops asks none);
      zero = answer.zero.1 gone.removed;
    }
