-- The worked run, one transition after the other, and the replies that are not legal at its turns.
use Rattle.std.proofs.Common.{◌≡◌, ℕ, zero, suc, ◌+◌, ◌<◌, ◌≤◌, ◌||◌, inl, inr, true, false, List, [], ◌∷◌, ◌++◌}
use Rattle.std.proofs.Common.{length, None, Some, refl, sym, ap, subst, ◌∙◌, arith, slice_get, nat_lt, take}
use Rattle.std.proofs.Math.Dec.{ltb}
use Rattle.std.proofs.lemmas.Bool.{ltb-true}
use Rattle.sysv_model.specs.declared.cred.Cred.{Cred}
use Rattle.sysv_model.specs.declared.selector.Selector.TheVariants.{Any}
use Rattle.sysv_model.specs.Message.{Message}
use Rattle.sysv_model.specs.History.{Fits, Accepted, NoMatch, Taken}
use Rattle.sysv_model.specs.Live.{live}
use Rattle.sysv_model.specs.Pool.{Reserve, Release, Reserved, Released, PoolCall, PoolReply}
use Rattle.sysv_model.specs.declared.limits.TheConstants.{WORN, MESSAGE_BYTES, QBYTES_AT_CREATION}
use Rattle.sysv_model.specs.Turn.{Op, AtSlot, AtPool, asked_by}
use Rattle.sysv_objects.specs.LegalOp.{IsLegalOp}
use Rattle.sysv_queue.specs.Granted.{MayRead, MayWrite}
use Rattle.sysv_queue.specs.Named.{IsNamed}
use Rattle.sysv_queue.specs.LegalReply.{IsLegalReply}
use Rattle.sysv_steps.specs.Call.{SystemCall, kind_of}
use Rattle.sysv_steps.specs.State.{Phase, State, Goes}
use Rattle.sysv_steps.specs.Asks.{asks}
use Rattle.sysv_steps.specs.Next.{next}
use Rattle.sysv_core.specs.World.{World, Invocation, Response, Transition, Preset, opening, actor_at, response_in}
use Rattle.sysv_core.specs.World.{in_state, with_turn, StepsAt, StartsAt, with_call, starting, begun, with_preset}
use Rattle.sysv_core.specs.World.{Start}
use Rattle.sysv_core.specs.Run.{Leads}
use Rattle.sysv_core.specs.WorkedRun.{sender, receiver, receive_up_to_100, send_hello, send_nothing, steps}
use Rattle.sysv_core.specs.WorkedRun.{the_transitions, send_typeless, the_calls, the_answers, the_turns, of_16}
use Rattle.sysv_core.specs.WorkedRun.{hello_message, empty_message, take_by, look_for, place_hello, place_nothing}
use Rattle.sysv_core.specs.WorkedRun.{WorkedRun, after_turns, NoWrongReply, ExactFit}
use Rattle.sysv_core.proofs.Runs.{leads_more}

-- ---- the legal replies of the run

-- The owner of the preset queue may read and write it.
may_write : MayWrite sender (live (after_turns 1))
may_write = inr (inl (inl refl, λ none. cc))

may_read : MayRead sender (live (after_turns 1))
may_read = inr (inl (inl refl, λ none. cc))

-- Any message is named at the first place.
first_is_named : (m : Message) (ms : List Message) → IsNamed Any (m ∷ ms) 0
first_is_named m ms = ((omega arith, tt), λ earlier below q. omega arith)

pub none_is_named : (place : ℕ) → ¬ IsNamed Any [] place
none_is_named place named = let below : place < 0 = named.0.0 in omega arith

legal_none : IsLegalReply (after_turns 1) (take_by sender) (NoMatch 0)
legal_none = (refl, may_read, none_is_named, refl)

legal_look : IsLegalReply (after_turns 2) (look_for 5) Fits
legal_look = (refl, may_write, (omega arith, omega arith))

legal_place : IsLegalReply (after_turns 3) place_hello (Accepted 0)
legal_place = (refl, may_write, (omega arith, omega arith), refl)

legal_second_look : IsLegalReply (after_turns 4) (look_for 0) Fits
legal_second_look = (refl, may_write, (omega arith, omega arith))

legal_second_place : IsLegalReply (after_turns 5) place_nothing (Accepted 1)
legal_second_place = (refl, may_write, (omega arith, omega arith), refl)

legal_take : IsLegalReply (after_turns 6) (take_by receiver) (Taken hello_message)
legal_take = (refl, may_read, (0, first_is_named hello_message (empty_message ∷ []), refl), inl (omega arith))

legal_second_take : IsLegalReply (after_turns 7) (take_by receiver) (Taken empty_message)
legal_second_take = (refl, may_read, (0, first_is_named empty_message [], refl), inl (omega arith))

legal_third_take : IsLegalReply (after_turns 8) (take_by receiver) (NoMatch 2)
legal_third_take = (refl, may_read, none_is_named, refl)

-- The replies of the pool, after this number of turns of the run.
abbrev IsLegalAtPool : ℕ → PoolCall → PoolReply → Type 0
IsLegalAtPool count call reply = IsLegalOp 0 128 (take count the_turns) (AtPool call reply)

legal_reserve : IsLegalAtPool 5 (Reserve 5) (Reserved 1)
legal_reserve = (omega arith, refl)

legal_second_reserve : IsLegalAtPool 8 (Reserve 0) (Reserved 0)
legal_second_reserve = (omega arith, refl)

legal_giveback : IsLegalAtPool 11 (Release 1) Released
legal_giveback = omega arith

legal_second_giveback : IsLegalAtPool 13 (Release 0) Released
legal_second_giveback = omega arith

-- ---- the run

-- The run so far. As a record, so that what it is about is inferred from it.
record Ran (xs : List Transition) (responses : List Response) (w : World) : Type 0 where
  pub leads : Leads (opening of_16) xs responses w

presets : Ran (Preset ∷ []) [] (with_preset (opening of_16))
presets = record {
  leads = leads_more (opening of_16) [] Preset [] [] (opening of_16) (with_preset (opening of_16)) (refl, refl)
      (refl, (true, inl (record { empty = refl; first = refl }, refl, refl)));
}

-- Then an idle actor starts a call.
starts : {xs : List Transition} {responses : List Response} {w : World} → Ran xs responses w → (actor : ℕ) (cred : Cred)
    (asked : SystemCall) → actor_at w.actors actor ≡ Some None → ltb w.steps WORN ≡ true →
    let call = starting w actor cred asked in
    Ran (xs ++ Start actor cred asked ∷ []) (responses ++ response_in call (begun call))
    (in_state (with_call w call) actor call (begun call))
starts {xs} {responses} {w} ran actor cred asked idle young =
    let call = starting w actor cred asked in
    let after = in_state (with_call w call) actor call (begun call) in
    record {
      leads = leads_more (opening of_16) xs (Start actor cred asked) responses (response_in call (begun call)) w after
          ran.leads
          (inr (
            ltb-true w.steps WORN young,
            subst (λ o. StartsAt w actor cred asked o (response_in call (begun call)) after) (sym idle) (refl, refl),
          ));
    }

-- Then the call of an actor makes a turn.
turns : {xs : List Transition} {responses : List Response} {w : World} → Ran xs responses w → (actor : ℕ) (op : Op)
    {call : Invocation} {phase : Phase (kind_of call.asked)} {state : State (kind_of call.asked)} →
    actor_at w.actors actor ≡ Some (Some record { call = call; state = Goes phase }) → ltb w.steps WORN ≡ true →
    asked_by op ≡ asks phase 0 → IsLegalOp w.generation w.blocks w.turns op → next phase op ≡ Some state →
    Ran (xs ++ steps actor ∷ []) (responses ++ response_in call state)
    (in_state (with_turn w call.who op) actor call state)
turns {xs} {responses} {w} ran actor op {call} {phase} {state} there young asked legal goes =
    let after = in_state (with_turn w call.who op) actor call state in
    record {
      leads = leads_more (opening of_16) xs (steps actor) responses (response_in call state) w after ran.leads
          (inr (
            ltb-true w.steps WORN young,
            subst (λ o. StepsAt w actor 0 o (response_in call state) after) (sym there)
                (op, state, asked, legal, goes, refl, refl),
          ));
    }

is_worked : {w : World} → Ran the_transitions the_answers w → w.calls ≡ the_calls → w.turns ≡ the_turns → WorkedRun
is_worked {w} ran calls made = (w, ran.leads, calls, made)

pub worked_run : WorkedRun
worked_run =
    let r = starts presets 1 sender receive_up_to_100 refl refl in
    let r = turns r 1 (AtSlot 0 (take_by sender) (NoMatch 0)) refl refl refl legal_none refl in
    let r = starts r 1 sender send_hello refl refl in
    let r = turns r 1 (AtSlot 0 (look_for 5) Fits) refl refl refl legal_look refl in
    let r = turns r 1 (AtPool (Reserve 5) (Reserved 1)) refl refl refl legal_reserve refl in
    let r = turns r 1 (AtSlot 0 place_hello (Accepted 0)) refl refl refl legal_place refl in
    let r = starts r 1 sender send_nothing refl refl in
    let r = turns r 1 (AtSlot 0 (look_for 0) Fits) refl refl refl legal_second_look refl in
    let r = turns r 1 (AtPool (Reserve 0) (Reserved 0)) refl refl refl legal_second_reserve refl in
    let r = turns r 1 (AtSlot 0 place_nothing (Accepted 1)) refl refl refl legal_second_place refl in
    let r = starts r 2 receiver receive_up_to_100 refl refl in
    let r = turns r 2 (AtSlot 0 (take_by receiver) (Taken hello_message)) refl refl refl legal_take refl in
    let r = turns r 2 (AtPool (Release 1) Released) refl refl refl legal_giveback refl in
    let r = starts r 2 receiver receive_up_to_100 refl refl in
    let r = turns r 2 (AtSlot 0 (take_by receiver) (Taken empty_message)) refl refl refl legal_second_take refl in
    let r = turns r 2 (AtPool (Release 0) Released) refl refl refl legal_second_giveback refl in
    let r = starts r 2 receiver receive_up_to_100 refl refl in
    let r = turns r 2 (AtSlot 0 (take_by receiver) (NoMatch 2)) refl refl refl legal_third_take refl in
    is_worked (starts r 1 sender send_typeless refl refl) refl refl

-- ---- replies that are not legal

-- Only the first place is named.
named_is_first : (ms : List Message) (place : ℕ) → IsNamed Any ms place → place ≡ 0
named_is_first ms zero named = refl
named_is_first ms (suc place) named = let within = named.0.0 in absurd (named.1 0 (omega arith) (omega arith, tt))

-- A message that is named is the first one.
named_is : (m first : Message) (ms : List Message) (place : ℕ) → IsNamed Any (first ∷ ms) place →
    slice_get (first ∷ ms) place ≡ Some m → m ≡ first
named_is m first ms place named there =
    let here : slice_get (first ∷ ms) 0 ≡ Some m =
    ap (slice_get (first ∷ ms)) (sym (named_is_first (first ∷ ms) place named)) ∙ there in
    let same : Some first ≡ Some m = here in
    cc

pub not_again : ¬ (hello_message ≡ empty_message)
not_again same = let numbers : 0 ≡ 1 = ap (λ (m : Message). m.number) same in omega (arith, numbers)

pub no_wrong_reply : NoWrongReply
no_wrong_reply = record {
  first_take_gone = λ legal. legal refl;
  look_gone = λ legal. legal refl;
  place_gone = λ legal. legal refl;
  take_gone = λ legal. legal refl;
  taken_early = λ m legal. none_is_named legal.2.0 legal.2.1;
  look_full = λ freed legal. legal.2 (omega arith, omega arith);
  place_full = λ freed legal. legal.2 (omega arith, omega arith);
  place_numbered = λ number other legal. other legal.3;
  take_none = λ arrived legal. legal.2 0 (first_is_named hello_message (empty_message ∷ []));
  take_another = λ m other legal. other (named_is m hello_message (empty_message ∷ []) legal.2.0 legal.2.1 legal.2.2);
  take_again = λ legal. not_again (named_is hello_message empty_message [] legal.2.0 legal.2.1 legal.2.2);
  take_third = λ m legal. none_is_named legal.2.0 legal.2.1;
}

-- ---- two messages that fill the queue

pub exact_fit : ExactFit
exact_fit first second h k = record {
  starts = ap (λ n. nat_lt MESSAGE_BYTES n || false) h;
  longer_is_refused = λ text longer. ap (λ n. nat_lt MESSAGE_BYTES n || false) longer;
  first_fits = (refl, may_write, (omega arith, omega arith), refl);
  second_looks = (refl, may_write, (omega arith, omega arith));
  second_fits = (refl, may_write, (omega arith, omega arith), refl);
  byte_is_too_much = λ text one. (
    refl,
    may_write,
    λ room. let over : 0 + length first + length second + length text ≤ QBYTES_AT_CREATION = room.0 in omega arith,
    refl,
  );
  byte_is_not_placed = λ text number one legal.
      let over : 0 + length first + length second + length text ≤ QBYTES_AT_CREATION = legal.2.0 in omega arith;
  nothing_fits = (refl, may_write, (omega arith, omega arith), refl);
}
