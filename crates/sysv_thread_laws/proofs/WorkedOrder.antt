-- The worked order, turn by turn and call by call.
use Rattle.std.proofs.Common.{◌≡◌, ◌≢◌, inl, inr, ℕ, zero, suc, ◌<◌, ◌==◌, ◌&&◌, Bool, true, false, cond, not, pos}
use Rattle.std.proofs.Common.{List, [], ◌∷◌, ◌++◌, refl, sym, ap, ◌∙◌, arith, take}
use Rattle.sysv_model.specs.declared.errno.Errno.TheVariants.{ENOMSG}
use Rattle.sysv_model.specs.declared.selector.Selector.TheVariants.{Any}
use Rattle.sysv_model.specs.Message.{Message}
use Rattle.std.specs.List.{All, list_all}
use Rattle.std.proofs.lemmas.List.Elements.{All-cons, All-nil}
use Rattle.sysv_steps.specs.Answers.{EachAnswerIsRight}
use Rattle.sysv_model.specs.History.{Who, Seat, Take, Taken}
use Rattle.sysv_model.specs.Turn.{Op, Turn, slot_history}
use Rattle.sysv_queue.specs.Named.{IsNamed}
use Rattle.sysv_objects.specs.LegalOp.{IsLegalOp, AreLegal}
use Rattle.sysv_steps.specs.State.{Goes, Waits, Over, Id, Zero, Got, Refused, OnArrived, AtInstall, AtSettle, AtReserve}
use Rattle.sysv_steps.specs.State.{AtPlace, AtReceiveGiveback, AtForget, AtRemoveGiveback}
use Rattle.sysv_steps.specs.Played.{begins, steps, resumes}
use Rattle.sysv_model.specs.Turns.{Numbered, turns_of}
use Rattle.sysv_thread_laws.specs.Order.{Called, IsPlayed, AreAll, shows_row, ops_by, ops_in}
use Rattle.sysv_thread_laws.specs.OrderIsRun.{EveryOrderIsARun}
use Rattle.sysv_thread_laws.specs.AtRest.{Rests, OrdersAtRest}
use Rattle.sysv_thread_laws.proofs.Places.{number_other}
use Rattle.sysv_thread_laws.proofs.OrderLeadsOn.{by_another}
use Rattle.sysv_thread_laws.specs.WorkedOrder.{sender, receiver, hello, hello_message, creating, makes, installs}
use Rattle.sysv_thread_laws.specs.WorkedOrder.{settles, finds_none, looks, reserves, reads_row, places, takes}
use Rattle.sysv_thread_laws.specs.WorkedOrder.{finds_no_other, gives_back, discards, forgets, gives_back_none, by}
use Rattle.sysv_thread_laws.specs.WorkedOrder.{the_order, the_get, the_send, the_receive, left_at, the_left}
use Rattle.sysv_thread_laws.specs.WorkedOrder.{the_refused, the_removal, calls_with, the_calls, WorkedOrder}

-- ---- legal

abbrev after : ℕ → List Turn
after count = turns_of (take count the_order)

legal_makes : IsLegalOp 0 128 (after 0) makes
legal_makes = (
  inl refl,
  (
    0,
    (
      record { there = omega arith; empty = refl; usable = omega arith },
      λ lower below. absurd (omega arith),
    ),
    refl,
  ),
)

legal_installs : IsLegalOp 0 128 (after 1) installs
legal_installs = refl

legal_settles : IsLegalOp 0 128 (after 2) settles
legal_settles = (pos 0, refl)

first_is_named : (m : Message) (ms : List Message) → IsNamed Any (m ∷ ms) 0
first_is_named m ms = ((omega arith, tt), λ earlier below q. omega arith)

none_is_named : (place : ℕ) → ¬ IsNamed Any [] place
none_is_named place named = let below : place < 0 = named.0.0 in omega arith

legal_none : IsLegalOp 0 128 (after 3) finds_none
legal_none = (refl, inr (inl (inl refl, λ none. cc)), none_is_named, refl)

legal_looks : IsLegalOp 0 128 (after 4) looks
legal_looks = (refl, inr (inl (inl refl, λ none. cc)), (omega arith, omega arith))

legal_reserves : IsLegalOp 0 128 (after 5) reserves
legal_reserves = (omega arith, refl)

legal_row : IsLegalOp 0 128 (after 6) reads_row
legal_row = refl

legal_places : IsLegalOp 0 128 (after 7) places
legal_places = (refl, inr (inl (inl refl, λ none. cc)), (omega arith, omega arith), refl)

legal_takes : IsLegalOp 0 128 (after 8) takes
legal_takes = (refl, inr (inl (inl refl, λ none. cc)), (0, first_is_named hello_message [], refl), inl (omega arith))

legal_no_other : IsLegalOp 0 128 (after 9) finds_no_other
legal_no_other = (refl, inr (inl (inl refl, λ none. cc)), none_is_named, refl)

legal_last_row : IsLegalOp 0 128 (after 10) reads_row
legal_last_row = refl

legal_back : IsLegalOp 0 128 (after 11) gives_back
legal_back = omega arith

legal_discards : IsLegalOp 0 128 (after 12) discards
legal_discards = (refl, inl refl, refl)

legal_forgets : IsLegalOp 0 128 (after 13) forgets
legal_forgets = (record { id = pos 0; key = pos 0; live = true }, refl, refl)

legal_back_none : IsLegalOp 0 128 (after 14) gives_back_none
legal_back_none = omega arith

module _ (none : AreLegal 0 128 [])
    (more : (generation blocks : ℕ) (turns : List Turn) (who : Who) (op : Op) → AreLegal generation blocks turns →
    IsLegalOp generation blocks turns op →
    AreLegal generation blocks (turns ++ record { who = who; op = op } ∷ [])) where
  with_more : (turns : List Turn) (number : ℕ) (op : Op) → AreLegal 0 128 turns → IsLegalOp 0 128 turns op →
      AreLegal 0 128 (turns ++ record { who = Seat number; op = op } ∷ [])
  with_more turns number op = more 0 128 turns (Seat number) op

  legal_queue : AreLegal 0 128 (after 3)
  legal_queue =
      with_more (after 2) 0 settles
      (with_more (after 1) 0 installs
      (with_more (after 0) 0 makes none legal_makes) legal_installs) legal_settles

  legal_sent : AreLegal 0 128 (after 8)
  legal_sent =
      with_more (after 7) 0 places
      (with_more (after 6) 2 reads_row
      (with_more (after 5) 0 reserves
      (with_more (after 4) 0 looks
      (with_more (after 3) 1 finds_none legal_queue legal_none) legal_looks) legal_reserves) legal_row) legal_places

  legal_taken : AreLegal 0 128 (after 12)
  legal_taken =
      with_more (after 11) 1 gives_back
      (with_more (after 10) 0 reads_row
      (with_more (after 9) 0 finds_no_other
      (with_more (after 8) 1 takes legal_sent legal_takes) legal_no_other) legal_last_row) legal_back

  legal_order : AreLegal 0 128 (turns_of the_order)
  legal_order =
      with_more (after 14) 0 gives_back_none
      (with_more (after 13) 0 forgets
      (with_more (after 12) 0 discards legal_taken legal_discards) legal_forgets) legal_back_none

-- ---- the calls

pub plays_get : IsPlayed the_get
plays_get =
    steps settles 0 (Over (Id (pos 0)))
    (steps installs 10 (Goes (AtSettle (pos 0)))
    (steps makes 0 (Goes (AtInstall (record { cred = sender; key = pos 0; flags = creating }) (pos 0))) begins refl
    refl) refl refl) refl refl

pub plays_receive : IsPlayed (the_receive (Over (Got (pos 5) hello)))
plays_receive =
    steps gives_back 0 (Over (Got (pos 5) hello))
    (steps takes 13 (Goes (AtReceiveGiveback 1 (pos 5) hello))
    (resumes 1
    (steps finds_none 11
    (Waits (OnArrived 1
    (record { cred = receiver; id = pos 0; selector = Any; size = 100; noerror = true; nowait = false; seen = true })))
    begins refl refl) (omega arith)) refl refl) refl refl

pub plays_send : IsPlayed the_send
plays_send =
    steps places 12 (Over Zero)
    (steps reserves 0
    (Goes (AtPlace (record {
      cred = sender;
      id = pos 0;
      mtype = pos 5;
      text = hello;
      nowait = true;
      released = 0;
      seen = true;
    }) 1))
    (steps looks 0 (Goes (AtReserve (record {
      cred = sender;
      id = pos 0;
      mtype = pos 5;
      text = hello;
      nowait = true;
      released = 0;
      seen = true;
    }))) begins refl refl) refl refl) refl refl

pub plays_left : IsPlayed the_left
plays_left = steps finds_no_other 14 (Waits (OnArrived 2 left_at)) begins refl refl

pub plays_removal : IsPlayed the_removal
plays_removal =
    steps gives_back_none 0 (Over Zero)
    (steps forgets 0 (Goes (AtRemoveGiveback 0))
    (steps discards 0 (Goes (AtForget (pos 0) 0)) begins refl refl) refl refl) refl refl

abbrev with_answer : Called
with_answer = the_receive (Over (Got (pos 5) hello))

all_played : All IsPlayed the_calls
all_played =
    All-cons IsPlayed the_get (with_answer ∷ the_send ∷ the_left ∷ the_removal ∷ the_refused ∷ []) plays_get
    (All-cons IsPlayed with_answer (the_send ∷ the_left ∷ the_removal ∷ the_refused ∷ []) plays_receive
    (All-cons IsPlayed the_send (the_left ∷ the_removal ∷ the_refused ∷ []) plays_send
    (All-cons IsPlayed the_left (the_removal ∷ the_refused ∷ []) plays_left
    (All-cons IsPlayed the_removal (the_refused ∷ []) plays_removal
    (All-cons IsPlayed the_refused [] begins (All-nil IsPlayed))))))

abbrev Rested : Called → Type 0
Rested c = Rests c.state

all_rest : All Rested the_calls
all_rest =
    All-cons Rested the_get (with_answer ∷ the_send ∷ the_left ∷ the_removal ∷ the_refused ∷ []) tt
    (All-cons Rested with_answer (the_send ∷ the_left ∷ the_removal ∷ the_refused ∷ []) tt
    (All-cons Rested the_send (the_left ∷ the_removal ∷ the_refused ∷ []) tt
    (All-cons Rested the_left (the_removal ∷ the_refused ∷ []) tt
    (All-cons Rested the_removal (the_refused ∷ []) tt (All-cons Rested the_refused [] tt (All-nil Rested))))))

-- Only the passes 0, 1 and 2 have made turns.
low : ℕ → Bool
low zero = true
low (suc zero) = true
low (suc (suc zero)) = true
low (suc (suc (suc n))) = false

low_apart : (n m : ℕ) → low n ≡ true → n ≢ suc (suc (suc m))
unfolding low
low_apart n m is same = let bad : true ≡ false = sym is ∙ ap low same in cc

both_true : (a b : Bool) → (a && b) ≡ true → (a ≡ true) × (b ≡ true)
both_true true true e = (refl, refl)
both_true true false e = absurd cc
both_true false b e = absurd cc

none_by : (m : ℕ) (order : List Numbered) → list_all (λ (t : Numbered). low t.by) order ≡ true →
    ops_by (suc (suc (suc m))) order ≡ []
none_by m [] e = refl
none_by m (t ∷ order) e =
    let both = both_true (low t.by) (list_all (λ (x : Numbered). low x.by) order) e in
    let apart : (t.by == suc (suc (suc m))) ≡ false = number_other t.by (suc (suc (suc m))) (low_apart t.by m both.0) in
    by_another (suc (suc (suc m))) t order (ap (λ b. b && not (shows_row t.op)) apart) ∙ none_by m order both.1

none_in : (m : ℕ) (calls : List Called) → list_all (λ (c : Called). low c.by) calls ≡ true →
    ops_in (suc (suc (suc m))) calls ≡ []
none_in m [] e = refl
none_in m (c ∷ calls) e =
    let both = both_true (low c.by) (list_all (λ (x : Called). low x.by) calls) e in
    let apart : (c.by == suc (suc (suc m))) ≡ false = number_other c.by (suc (suc (suc m))) (low_apart c.by m both.0) in
    ap (λ b. cond b c.ops [] ++ ops_in (suc (suc (suc m))) calls) apart ∙ none_in m calls both.1

all_whole : (number : ℕ) → ops_by number the_order ≡ ops_in number the_calls
unfolding low
all_whole zero = refl
all_whole (suc zero) = refl
all_whole (suc (suc zero)) = refl
all_whole (suc (suc (suc n))) = none_by n the_order refl ∙ sym (none_in n the_calls refl)

all_calls : AreAll the_order the_calls
all_calls = record { played = all_played; whole = all_whole }

-- ---- what is refused

no_other_answer : EachAnswerIsRight → ¬ AreAll the_order (calls_with (Over (Refused ENOMSG)))
no_other_answer right a =
    let p : IsPlayed (the_receive (Over (Refused ENOMSG))) = a.played 1 the_get (omega arith) in
    let r =
    (right receiver (the_receive (Over Zero)).asked 0 (the_receive (Over Zero)).ops (Refused ENOMSG) p).none in
    let bad = (r.0 refl).0 in
    absurd cc

none_left_out : ¬ AreAll the_order
    (the_get ∷ the_receive (Over (Got (pos 5) hello)) ∷ the_left ∷ the_removal ∷ the_refused ∷ [])
none_left_out a = let bad = a.whole 0 in absurd cc

in_turn : ¬ AreAll the_order
    (the_send ∷ the_get ∷ the_receive (Over (Got (pos 5) hello)) ∷ the_left ∷ the_removal ∷ the_refused ∷ [])
in_turn a = let bad = a.whole 0 in absurd cc

not_early : ¬ AreLegal 0 128 (turns_of (take 4 the_order ++ by 1 takes ∷ []))
not_early l =
    let t = l.slots 0 (slot_history 0 (after 4))
    (record { who = Seat 1; call = Take (pos 0) receiver Any 100 true 13; reply = Taken hello_message }) [] refl in
    none_is_named t.2.0 t.2.1

pub worked_order : AreLegal 0 128 [] →
    ((generation blocks : ℕ) (turns : List Turn) (who : Who) (op : Op) → AreLegal generation blocks turns →
    IsLegalOp generation blocks turns op →
    AreLegal generation blocks (turns ++ record { who = who; op = op } ∷ [])) →
    EachAnswerIsRight → EveryOrderIsARun → OrdersAtRest → WorkedOrder
worked_order none more right law rest = record {
  legal = legal_order none more;
  all = all_calls;
  run = law 0 128 the_order the_calls (legal_order none more) all_calls;
  at_rest = rest 0 128 the_order the_calls (legal_order none more) all_calls all_rest;
  answered_otherwise = no_other_answer right;
  left_out = none_left_out;
  out_of_turn = in_turn;
  taken_early = not_early;
}
