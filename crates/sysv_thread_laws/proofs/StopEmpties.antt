-- A stop after which the service is closed leaves each slot vacant.
use Rattle.std.proofs.Common.{◌≡◌, ◌<◌, ◌||◌, inl, inr, ℕ, suc, Bool, false, List, [], ◌∷◌}
use Rattle.std.proofs.Common.{◌++◌, map, length, Option, Some, None, Ok, Err, IfSome, refl, sym, ap, subst, ◌∙◌, arith}
use Rattle.std.proofs.Common.{append_assoc, int_lt, pos, option_map, Result}
use Rattle.std.specs.List.{All}
use Rattle.std.proofs.lemmas.List.{append-nil, length-map, map-append}
use mathlib.Core.Option.{some}
use lib.ListN.{get_elem?}
use Rattle.std.proofs.lemmas.Bool.{cases_eq}
use Rattle.sysv_lists.proofs.Places.{at_below, there}
use Rattle.sysv_model.specs.declared.attributes.Attributes.{Attributes}
use Rattle.sysv_model.specs.declared.attributes.Row.{Row}
use Rattle.sysv_model.specs.declared.errno.Errno.{Errno}
use Rattle.sysv_model.specs.declared.errno.Errno.TheVariants.{EOVERFLOW}
use Rattle.sysv_model.specs.History.{ReadRow, Shown, History}
use Rattle.sysv_model.specs.Live.{live, HasId}
use Rattle.sysv_model.specs.Message.{Message}
use Rattle.sysv_model.specs.Waiting.{waiting_on, held}
use Rattle.sysv_model.specs.Turn.{OfSlot, AtSlot, Turn, slot_history}
use Rattle.sysv_model.specs.Turns.{Numbered, turns_of}
use Rattle.sysv_model.specs.Turns.{turn_of as turn_at}
use Rattle.sysv_model.specs.Members.{Member}
use Rattle.sysv_queue.specs.LegalReply.{IsLegalReply}
use Rattle.sysv_queue.specs.Shown.{row_of}
use Rattle.sysv_queue.specs.Slot.{Slot}
use Rattle.sysv_queue.specs.Represents.{Represents as SlotRepresents}
use Rattle.sysv_keys.specs.declared.identifier.TheConstants.{SLOTS}
use Rattle.sysv_keys.specs.Identifier.{slot_of_id}
use Rattle.sysv_steps.specs.Call.{MsgctlRmid}
use Rattle.sysv_steps.specs.State.{Over}
use Rattle.sysv_steps.specs.Begin.{begin}
use Rattle.sysv_steps.specs.AsksFor.{EachOpIsAskedFor}
use Rattle.sysv_steps.specs.Answers.{EachAnswerIsRight}
use Rattle.sysv_steps.specs.Stepping.{no_moment}
use Rattle.sysv_gate.specs.declared.gate.closing.Closing.{Closing}
use Rattle.sysv_gate.specs.History.{Moves, after_all}
use Rattle.sysv_gate.specs.Gates.{Gateway}
use Rattle.sysv_gate.specs.Closings.{Closes}
use Rattle.sysv_bank.specs.Banks.{gates_of}
use Rattle.sysv_objects.specs.SlotTurns.{SlotMoves}
use Rattle.sysv_service.specs.Counts.{slot_counts}
use Rattle.sysv_service.specs.Closing.{waiting_in, all_waiting}
use Rattle.sysv_service.specs.Marks.{IsUnmarked}
use Rattle.sysv_service.specs.Ran.{Pass}
use Rattle.sysv_service.specs.SeenHistories.{SeenHistories}
use Rattle.sysv_service.specs.Seats.{SlotSeat, entries, slot_entry}
use Rattle.sysv_service.specs.Stopped as stop
use Rattle.sysv_service.specs.Stopped.{Stops, StopsAt, superuser, is_overflow}
use Rattle.sysv_service.specs.TurnsLeft.{NoMarkWithTurnsLeft}
use Rattle.sysv_service.proofs.ClosedPlaces.{as_long}
use Rattle.sysv_service.specs.Told.{TellsRow}
use Rattle.sysv_service.proofs.DoneByPass.{turn_is_made, worn_is_seen, does}
use Rattle.sysv_service.proofs.MarkStays.{finds_turns, no_mark_by_row, not_worn}
use Rattle.sysv_service.proofs.PlaysOwnTurns.{plays}
use Rattle.sysv_core.specs.World.{World, Opening, Response, opening}
use Rattle.sysv_core.proofs.Lifetime.{Facts}
use Rattle.sysv_core.proofs.TurnInHistory.{slot_around}
use Rattle.sysv_thread_laws.specs.Execution.{Moment, LeadsOnThreads}
use Rattle.sysv_thread_laws.specs.Order.{Called}
use Rattle.sysv_thread_laws.specs.OrderIsRun.{opening_for}
use Rattle.sysv_thread_laws.specs.Team.{IsServed}
use Rattle.sysv_thread_laws.specs.Lifetime.{call_of}
use Rattle.sysv_thread_laws.specs.Hiring.{all_of, EveryHiringObeys, EveryStopRemoves}
use Rattle.sysv_thread_laws.specs.Working as working
use Rattle.sysv_thread_laws.specs.Working.{Works}
use Rattle.sysv_thread_laws.specs.AfterStop.{EveryStopEmpties}
use Rattle.sysv_thread_laws.proofs.Whole.{last_is_whole}
use Rattle.sysv_thread_laws.proofs.PoolIsWhole.{vacant_seat}
use Rattle.sysv_thread_laws.proofs.RemovalAlone.{history, done_by, IsWellInstalled, IsWell, well_live, IsFine}
use Rattle.sysv_thread_laws.proofs.RemovalAlone.{fine_front, turns_alone, number_stays, does_alone, row_leaves}
use Rattle.sysv_thread_laws.proofs.RemovalAlone.{removes_alone}
use Rattle.sysv_thread_laws.proofs.WellInstalled.{all_well, all_renamed}

abbrev member : Pass → Member
member pass = pass.seats.member

abbrev order_of : Pass → List Numbered
order_of pass = pass.seats.member.order

abbrev IsVacant : ℕ → Pass → Type 0
IsVacant slot pass = live (history slot (order_of pass)) ≡ None

-- ---- a row is read

-- What a read of a row does while no other pass makes turns.
record ReadsAlone (slot : ℕ) (row : Option Row) (before after : Pass) : Type 0 where
  fine : IsFine (member before).numbers (order_of before)
  same : (k : ℕ) → live (history k (order_of after)) ≡ live (history k (order_of before))
  told : (messages : List Message) × (row ≡ option_map (row_of messages) (live (history slot (order_of before))))

reads_alone : (slot : ℕ) (row : Option Row) (before after : Pass) → TellsRow slot before (Ok row) after →
    IsFine (member before).numbers (order_of after) → ReadsAlone slot row before after
reads_alone slot row before after told fine =
    let op = AtSlot slot ReadRow (Shown row) in
    let made = turn_is_made before.seats after.seats op told.1.turn in
    let number = (member before).number in
    let numbers = (member before).numbers in
    let more = turns_alone (member before) (member after) op made fine in
    let known = subst (IsFine numbers) more fine in
    let legal : IsLegalReply (history slot (order_of before)) ReadRow (Shown row) =
    known.legal slot (history slot (order_of before)) (record { who = _; call = ReadRow; reply = Shown row }) []
    (ap (slot_history slot) (map-append turn_at (order_of before) (done_by number (op ∷ [])))
    ∙ slot_around slot (turns_of (order_of before)) [] _ ReadRow (Shown row)) in
    record {
      fine = fine_front numbers (order_of before) (done_by number (op ∷ [])) known;
      same = λ k. ap (λ os. live (history k os)) more ∙ row_leaves k slot number (order_of before) (Shown row);
      told = (held (history slot (order_of before)), legal);
    }

-- ---- one slot

-- What the stop does at one slot.
record StopsAlone (slot : ℕ) (before after : Pass) (found : Bool) : Type 0 where
  fine : IsFine (member before).numbers (order_of before)
  unmarked : IsUnmarked before.seats
  vacant : IsVacant slot after
  leaves : (k : ℕ) → IsVacant k before → IsVacant k after
  unworn : found ≡ false

no_row : (o : Option Attributes) (messages : List Message) → None ≡ option_map (row_of messages) o → o ≡ None
no_row None messages is = refl
no_row (Some a) messages is = absurd cc

-- The numbers of the pass stay the same.
numbers_by_row : (slot : ℕ) (before : Pass) (result : Result (Option Row) Errno) (after : Pass) →
    TellsRow slot before result after → (member after).numbers ≡ (member before).numbers
numbers_by_row slot before (Ok row) after told =
    ap (λ (m : Member). m.numbers)
    (turn_is_made before.seats after.seats (AtSlot slot ReadRow (Shown row)) told.1.turn).goes_on
numbers_by_row slot before (Err why) after (inl none) = ap (λ (p : Pass). (member p).numbers) none.2
numbers_by_row slot before (Err why) after (inr worn) =
    ap (λ (m : Member). m.numbers) (worn_is_seen before.seats after.seats (OfSlot slot ReadRow) worn.2).goes_on

numbers_stay : (slot here : ℕ) (found : Bool) (before after : Pass) → StopsAt slot before here found after →
    (member after).numbers ≡ (member before).numbers
numbers_stay slot _ _ before _ (stop.is_vacant after told) = numbers_by_row slot before (Ok None) after told
numbers_stay slot _ _ before _ (stop.is_worn after told) = numbers_by_row slot before (Err EOVERFLOW) after told
numbers_stay slot _ _ before _ (stop.tries row mid ending after told ran) =
    let from = begin superuser (MsgctlRmid row.id) 0 in
    (number_stays (member mid) ran.0 (member after) (does no_moment from mid ran.0 (Over ending) after ran.1)).1
    ∙ numbers_by_row slot before (Ok (Some row)) mid told

-- A row is that of the live queue.
record HasRow (slot : ℕ) (row : Row) (o : Option Attributes) : Type 0 where
  has : HasId o row.id
  here : slot_of_id row.id ≡ slot
  whole : int_lt row.id (pos 0) ≡ false

some_row : (slot : ℕ) (row : Row) (o : Option Attributes) (messages : List Message) → IsWell slot o →
    Some row ≡ option_map (row_of messages) o → HasRow slot row o
some_row slot row None messages well is = absurd cc
some_row slot row (Some a) messages well is =
    let same : row ≡ row_of messages a = cc in
    let id : row.id ≡ a.id = ap (λ (r : Row). r.id) same in
    record {
      has = sym id;
      here = ap slot_of_id id ∙ well.0;
      whole = ap (λ i. int_lt i (pos 0)) id ∙ well.1;
    }

module _ (right : EachAnswerIsRight) (asked : EachOpIsAskedFor) where
  stops_at : (slot here : ℕ) (found : Bool) (before after : Pass) → StopsAt slot before here found after →
      IsUnmarked after.seats → IsFine (member before).numbers (order_of after) → StopsAlone slot before after found
  stops_at slot _ _ before _ (stop.is_vacant after told) none fine =
      let read = reads_alone slot None before after told fine in
      record {
        fine = read.fine;
        unmarked = no_mark_by_row slot before (Ok None) after none told;
        vacant = read.same slot ∙ no_row (live (history slot (order_of before))) read.told.0 read.told.1;
        leaves = λ k vacant. read.same k ∙ vacant;
        unworn = refl;
      }
  stops_at slot _ _ before _ (stop.is_worn after (inl told)) none fine = absurd cc
  stops_at slot _ _ before _ (stop.is_worn after (inr told)) none fine =
      absurd (not_worn before.seats after.seats none (OfSlot slot ReadRow) told.2)
  stops_at slot _ _ before _ (stop.tries row mid ending after told ran) none fine =
      let from = begin superuser (MsgctlRmid row.id) 0 in
      let found = finds_turns no_moment from mid ran.0 (Over ending) after ran.1 none in
      let play = plays no_moment from mid ran.0 (Over ending) after ran.1 found.0 in
      let made = turn_is_made before.seats mid.seats (AtSlot slot ReadRow (Shown (Some row))) told.1.turn in
      let same : (member mid).numbers ≡ (member before).numbers = ap (λ (m : Member). m.numbers) made.goes_on in
      let did = does no_moment from mid ran.0 (Over ending) after ran.1 in
      let later = subst (λ ns. IsFine ns (order_of after)) (sym same) fine in
      let more = does_alone (member mid) ran.0 (member after) did later in
      let known = fine_front (member mid).numbers (order_of mid) _ (subst (IsFine (member mid).numbers) more later) in
      let read =
      reads_alone slot (Some row) before mid told (subst (λ ns. IsFine ns (order_of mid)) same known) in
      let its = some_row slot row (live (history slot (order_of before))) read.told.0
      (well_live slot (order_of before) read.fine.well) read.told.1 in
      let has : HasId (live (history (slot_of_id row.id) (order_of mid))) row.id =
      subst (λ k. HasId (live (history k (order_of mid))) row.id) (sym its.here)
      (subst (λ o. HasId o row.id) (sym (read.same slot)) its.has) in
      let gone =
      removes_alone right asked row.id (member mid) (member after) ran.0 ending its.whole play did later has in
      record {
        fine = read.fine;
        unmarked = no_mark_by_row slot before (Ok (Some row)) mid found.1 told;
        vacant = subst (λ k. IsVacant k after) its.here gone.vacant;
        leaves = λ k vacant. gone.leaves k (read.same k ∙ vacant);
        unworn = ap is_overflow gone.zero;
      }

  -- ---- all slots

  record StopsAll (new : Pass) (slots : ℕ) (worn : Bool) : Type 0 where
    vacant : (k : ℕ) → k < slots → IsVacant k new
    unworn : worn ≡ false

  one_more : (slot : ℕ) (worn found : Bool) (mid new : Pass) → StopsAll mid slot worn → StopsAlone slot mid new found →
      StopsAll new (suc slot) (worn || found)
  one_more slot worn found mid new rest here = record {
    vacant = λ k low. elim (cases_eq k slot) [
      | inl same ↦ subst (λ n. IsVacant n new) (sym same) here.vacant
      | inr apart ↦ here.leaves k (rest.vacant k (omega (arith, low, apart)))
    ];
    unworn = ap (λ b. b || found) rest.unworn ∙ here.unworn;
  }

  stops_all : (old : Pass) (slots removed : ℕ) (worn : Bool) (new : Pass) → Stops old slots removed worn new →
      IsUnmarked new.seats → IsFine (member new).numbers (order_of new) → StopsAll new slots worn
  stops_all old _ _ _ _ stop.begins none fine = record { vacant = λ k low. absurd (omega (arith, low)); unworn = refl }
  stops_all old _ _ _ _ (stop.goes_on {slot} {removed} {worn} {mid} here found new stops at) none fine =
      let same = numbers_stay slot here found mid new at in
      let alone = stops_at slot here found mid new at none (subst (λ ns. IsFine ns (order_of new)) same fine) in
      one_more slot worn found mid new (stops_all old slot removed worn mid stops alone.unmarked alone.fine) alone

-- ---- what is queued

empty_slot : SeenHistories → (seat : SlotSeat) (c : Closing Slot) (h : History) → SlotRepresents [] seat.gate.opening →
    (closes : Closes (Moves SlotMoves slot_counts) seat c) → entries slot_entry seat.gate.opening closes.log ≡ h →
    live h ≡ None → waiting_in c.object ≡ 0
empty_slot histories seat c h fresh closes part none = by_object c.object closes.object
  where
    by_object : (o : Option Slot) →
        IfSome o (λ s. (s ≡ after_all seat.gate.opening closes.log) × (c.rest ≡ None)) → waiting_in o ≡ 0
    by_object None is = refl
    by_object (Some s) is =
        let stands = histories.slots (record seat { seen = closes.log }) fresh closes.legal in
        ap (λ (x : Slot). length x.messages) (is.0 ∙ sym stands.seen)
        ∙ (ap (λ k. length (held k)) part ∙ ap (λ o. length (waiting_on o h)) none)

all_empty : (cs : List (Closing Slot)) →
    ((k : ℕ) (c : Closing Slot) → get_elem? cs k ≡ some c → waiting_in c.object ≡ 0) → all_waiting cs ≡ 0
all_empty [] each = refl
all_empty (c ∷ cs) each =
    let here = each 0 c refl in
    let rest = all_empty cs (λ k x at. each (suc k) x at) in
    omega (arith, here, rest)

-- ---- the calls of the stop, after those before it

works_more : (old : Pass) (made : List Called) (mid : Pass) (more : List Called) (new : Pass) → Works old made mid →
    Works mid more new → Works old (made ++ more) new
works_more old made mid _ _ first working.begins = subst (λ cs. Works old cs mid) (sym (append-nil made)) first
works_more old made mid _ _ first
    (working.calls {made = more} {mid = last} cred asked released ops state new works ran)
    =
    let call = call_of last cred asked released ops state in
    subst (λ cs. Works old cs new) (append_assoc made more (call ∷ []))
    (working.calls cred asked released ops state new (works_more old made mid more last first works) ran)
works_more old made mid _ _ first (working.reads_count {made = more} {mid = last} count value new works r same) =
    working.reads_count count value new (works_more old made mid more last first works) r same
works_more old made mid _ _ first (working.asks_row {made = more} {mid = last} slot result new works told) =
    working.asks_row slot result new (works_more old made mid more last first works) told

-- ---- the law

-- What the turns of every execution say of the identifiers.
abbrev HasFacts : Type 0
HasFacts = (o : Opening) (list : List Moment) (responses : List Response) (w : World) →
    LeadsOnThreads (opening o) list responses w → Facts w.turns

well_order : HasFacts → (generation blocks : ℕ) (order : List Numbered) (calls : List Called) →
    IsServed generation blocks order calls → All (λ (t : Numbered). IsWellInstalled t.op) order
well_order facts generation blocks order calls served =
    let run = served.run in
    let known = facts (opening_for generation blocks calls) run.moments run.responses run.world run.leads in
    let all = all_well generation run.world.turns known run.obeys.objects.registry in
    subst (All (λ (t : Numbered). IsWellInstalled t.op)) run.turns.in_order
    (all_renamed run.turns.renamed (subst (All (λ (t : Turn). IsWellInstalled t.op)) (sym run.turns.in_world) all))

pub stop_empties : SeenHistories → EveryHiringObeys → EveryStopRemoves → NoMarkWithTurnsLeft → EachAnswerIsRight →
    EachOpIsAskedFor → HasFacts → EveryStopEmpties
stop_empties histories hiring stopping no_mark right asked facts generation blocks first gates theirs left home before
    last each calls removed worn closed opened hires works more stops fits end turns_left =
    let removals = stopping SLOTS removed worn before last stops in
    let all_calls = calls ++ removals.0 in
    let at_home = works_more home calls before removals.0 last more removals.1 in
    let served = hiring generation blocks first gates theirs left home last each all_calls closed opened hires works
    at_home fits end turns_left in
    let whole = last_is_whole gates theirs left home last each all_calls hires works at_home in
    let none = no_mark generation blocks first gates last.seats end.parts opened fits end.all whole turns_left in
    let order = end.all.order in
    let at_close = end.all.member.all whole in
    let legal = end.all.legal generation blocks first gates opened fits in
    let known : IsFine (member last).numbers order = record {
      own = at_close.1;
      legal = legal.slots;
      well = well_order facts generation blocks order (all_of each ++ all_calls) served;
    } in
    let emptied = stops_all right asked before SLOTS removed worn last stops none
    (subst (IsFine (member last).numbers) at_close.0 known) in
    let vacant : (slot : ℕ) → slot < SLOTS → live (history slot order) ≡ None =
    λ slot low. ap (λ os. live (history slot os)) at_close.0 ∙ emptied.vacant slot low in
    let parts = end.all.parts in
    let seats = last.seats in
    let items = end.parts.slots.items in
    let fresh : All (SlotRepresents []) (map (λ (g : Gateway Slot). g.opening) (gates_of seats.slots)) =
    subst (λ (gs : List (Gateway Slot)). All (SlotRepresents []) (map (λ (g : Gateway Slot). g.opening) gs))
    (sym fits.slots) opened.slots.1 in
    let same_long : length seats.slots ≡ length items =
    as_long (Closes (Moves SlotMoves slot_counts)) seats.slots items end.all.slots in
    let many : length items ≡ SLOTS = sym same_long
    ∙ (sym (length-map seats.slots (λ (s : SlotSeat). s.gate)) ∙ (ap length fits.slots ∙ opened.slots.0)) in
    let each_slot : (k : ℕ) (c : Closing Slot) → get_elem? items k ≡ some c → waiting_in c.object ≡ 0 =
    λ k c at.
    let less = at_below items k c at in
    let s = there seats.slots k (omega (arith, less, same_long)) in
    let part = parts.slots k s.0 c s.1 at in
    empty_slot histories s.0 c (history k order) (vacant_seat seats.slots k s.0 fresh s.1) part.0 part.1
    (vacant k (omega (arith, less, many))) in (
      record { vacant = vacant; waiting = end.waiting ∙ all_empty items each_slot },
      emptied.unworn,
    )
