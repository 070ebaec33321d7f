-- What the events of a client keep: it stops for what the reads of its connection have said.
use Rattle.std.proofs.Common.{◌≡◌, ◌≢◌, ◌⊎◌, ℕ, Bool, List, [], ◌∷◌, Option, Result, Err, None, Some}
use Rattle.std.proofs.Common.{refl, sym, ap, subst, ◌∙◌, inl, inr}
use Rattle.std.specs.Prelude.{MatchBool, false, true, is_some, unwrap_or}
use Rattle.sysv_session.specs.declared.handler.RequestOutcome.{RequestOutcome}
use Rattle.sysv_session.specs.declared.served.End.{End}
use Rattle.sysv_session.specs.declared.served.End.TheVariants.{Fault, Left, NoHello, NoMemory, Reset, Write}
use Rattle.sysv_session.specs.declared.session.Session.{Session}
use Rattle.sysv_session.specs.declared.session.TakenUp.{TakenUp}
use Rattle.sysv_session.specs.Answers.{IsReplied}
use Rattle.sysv_session.specs.Conversation.{Dialogue, Puts, reported}
use Rattle.sysv_session.specs.TakenUp.{TakesUp}
use Rattle.sysv_wire.specs.declared.fault.Fault.TheVariants.{Read}
use Rattle.sysv_wire.specs.declared.frame.Version.{Version}
use Rattle.sysv_seats.specs.declared.non_blocking.Over.{Over}
use Rattle.sysv_seats.specs.declared.non_blocking.Over.TheVariants as over
use Rattle.sysv_seats.specs.declared.parked.Parked.{Parked}
use Rattle.sysv_seats.specs.declared.callers.Callers.TheVariants.{Anyone}
use Rattle.sysv_seats.specs.Breaking.{Breaks, MayEnd}
use Rattle.sysv_seats.specs.Said.{EndsAsSaid, IsAsSaid, KeepsAsSaid, StopsAsSaid}
use Rattle.sysv_seats.specs.Sits.{Arrives, Denies, GreetsAs, IsFree, Sitting, broken_off_for, conversing, end_at_close}
use Rattle.sysv_seats.specs.Sits.{is_early, stopped_for}
use Rattle.sysv_seats.specs.Untold.{Closing}
use Rattle.sysv_seats.proofs.ClientLemmas.{put_cause, taken_cause}

-- Nothing may happen to the connection.
abbrev unbroken : Breaks
unbroken = record {
  reading = false;
  resetting = false;
  writing = false;
  leaving = false;
  limits = record { idle = false; stall = false; drain = false };
  callers = Anyone;
}

-- What stops a client of such a connection is no reset.
no_reset : (why : End) → MayEnd unbroken why → why ≢ Reset
no_reset why may is = let no : false ≡ true = subst (MayEnd unbroken) is may in absurd (cc no)

-- What is read of the input is no reset.
pub taken_no_reset : (old new : Session) (result : Result TakenUp End) (why : End) (left rest : Option (List ℕ))
    (text : List ℕ) (is_end : Bool) → result ≡ Err why → is_early why is_end ≡ false →
    TakesUp old new result left rest text → why ≢ Reset
taken_no_reset old new result why left rest text is_end is late takes =
    no_reset why (taken_cause unbroken old new result why left rest text is_end is late takes)

-- Nor is a reply that could not be gathered.
pub put_no_reset : (version : Version) (outcome : RequestOutcome) (given : List ℕ) (old new : Dialogue) (why : End) →
    IsReplied outcome → Puts (Err why) version outcome given old new → why ≢ Reset
put_no_reset version outcome given old new why replied put =
    no_reset why (put_cause unbroken version outcome given old new why replied put)

-- ---- the reasons

some_other : (why : End) → why ≢ Reset → Some why ≢ Some Reset
some_other why other is = other (ap (λ (o : Option End). unwrap_or o why) is)

-- A client that has not stopped stops for a reason that no read says.
stops : (said : Option Over) (parked now : Option Parked) (stopped : Option End) (why : End) → why ≢ Reset →
    (stopped ≡ None) ⊎ (is_some parked ≡ true) → StopsAsSaid said parked stopped → StopsAsSaid said now (Some why)
stops None parked now stopped why other going has = some_other why other
stops (Some over.End) parked now stopped why other going has = some_other why other
stops (Some over.Reset) parked now stopped why other (inl none) has =
    let no : None ≡ Some Reset = sym none ∙ has.1 in absurd (cc no)
stops (Some over.Reset) parked now stopped why other (inr some) has =
    let no : false ≡ true = sym (ap (λ (p : Option Parked). is_some p) has.0) ∙ some in absurd (cc no)
stops (Some over.Failed) parked now stopped why other (inl none) has =
    let no : None ≡ Some (Fault Read) = sym none ∙ has.1 in absurd (cc no)
stops (Some over.Failed) parked now stopped why other (inr some) has =
    let no : false ≡ true = sym (ap (λ (p : Option Parked). is_some p) has.0) ∙ some in absurd (cc no)

-- Such a client may have another call that is parked, or none.
parks : (said : Option Over) (parked now : Option Parked) (stopped : Option End) →
    (stopped ≡ None) ⊎ (is_some parked ≡ true) → StopsAsSaid said parked stopped → StopsAsSaid said now stopped
parks None parked now stopped going has = has
parks (Some over.End) parked now stopped going has = has
parks (Some over.Reset) parked now stopped (inl none) has =
    let no : None ≡ Some Reset = sym none ∙ has.1 in absurd (cc no)
parks (Some over.Reset) parked now stopped (inr some) has =
    let no : false ≡ true = sym (ap (λ (p : Option Parked). is_some p) has.0) ∙ some in absurd (cc no)
parks (Some over.Failed) parked now stopped (inl none) has =
    let no : None ≡ Some (Fault Read) = sym none ∙ has.1 in absurd (cc no)
parks (Some over.Failed) parked now stopped (inr some) has =
    let no : false ≡ true = sym (ap (λ (p : Option Parked). is_some p) has.0) ∙ some in absurd (cc no)

-- A client that is broken off stops for this reason, unless it has stopped.
broken : (said : Option Over) (parked : Option Parked) (stopped : Option End) (why : End) → why ≢ Reset →
    StopsAsSaid said parked stopped → StopsAsSaid said parked (Some (unwrap_or stopped why))
broken None parked None why other has = some_other why other
broken None parked (Some before) why other has = has
broken (Some over.End) parked None why other has = some_other why other
broken (Some over.End) parked (Some before) why other has = has
broken (Some over.Reset) parked stopped why other has =
    (has.0, ap (λ (o : Option End). let p : Option End = Some (unwrap_or o why) in p) has.1)
broken (Some over.Failed) parked stopped why other has =
    (has.0, ap (λ (o : Option End). let p : Option End = Some (unwrap_or o why) in p) has.1)

-- Why the session ends of a client that is closed.
reports : (said : Option Over) (why : End) (bytes : List ℕ) → EndsAsSaid said why → EndsAsSaid said (reported why bytes)
reports said why [] ends = ends
reports None why (byte ∷ bytes) ends = λ (is : Write ≡ Reset). absurd (cc is)
reports (Some over.End) why (byte ∷ bytes) ends = λ (is : Write ≡ Reset). absurd (cc is)
reports (Some over.Reset) why (byte ∷ bytes) ends = inr refl
reports (Some over.Failed) why (byte ∷ bytes) ends = inr refl

no_reset_at_close : (parked : Option Parked) (stopped : Option End) → stopped ≢ Some Reset →
    end_at_close parked stopped ≢ Reset
no_reset_at_close None None other = λ (is : Fault Read ≡ Reset). absurd (cc is)
no_reset_at_close (Some parked) None other = λ (is : Left ≡ Reset). absurd (cc is)
no_reset_at_close parked (Some why) other = λ is. other (ap (λ (e : End). let o : Option End = Some e in o) is)

ends : (said : Option Over) (parked : Option Parked) (stopped : Option End) → StopsAsSaid said parked stopped →
    EndsAsSaid said (end_at_close parked stopped)
ends None parked stopped has = no_reset_at_close parked stopped has
ends (Some over.End) parked stopped has = no_reset_at_close parked stopped has
ends (Some over.Reset) parked stopped has = inl (ap (λ (o : Option End). end_at_close parked o) has.1)
ends (Some over.Failed) parked stopped has = inl (ap (λ (o : Option End). end_at_close parked o) has.1)

-- ---- the events

module _ {T B : Type 0} (closes : Closing T B) where
  -- The client with this connection.
  abbrev pub on : T → Sitting T → Sitting T
  on connection client = record {
    connection = connection;
    dialogue = client.dialogue;
    input = client.input;
    parked = client.parked;
    stopped = client.stopped;
    broken = client.broken;
  }

  pub said_from : (old client new : Sitting T) → client ≡ old → KeepsAsSaid closes client new →
      KeepsAsSaid closes old new
  said_from old client new is keeps = subst (λ (c : Sitting T). KeepsAsSaid closes c new) is keeps

  free_from : (old client : Sitting T) → client ≡ old → IsFree old → IsFree client
  free_from old client view free =
      (ap (λ (c : Sitting T). c.parked) view ∙ free.0, ap (λ (c : Sitting T). c.stopped) view ∙ free.1)

  -- The reads have said the same, and the client has stopped for the same reason.
  pub said_same : (old new : Sitting T) → closes.said new.connection ≡ closes.said old.connection →
      new.parked ≡ old.parked → new.stopped ≡ old.stopped → KeepsAsSaid closes old new
  said_same old new same parked stopped has = record {
    stops = subst (λ (o : Option Over). StopsAsSaid o new.parked new.stopped) (sym same)
        (subst (λ (p : Option Parked). StopsAsSaid (closes.said old.connection) p new.stopped) (sym parked)
        (subst (λ (o : Option End). StopsAsSaid (closes.said old.connection) old.parked o) (sym stopped) has.stops));
  }

  -- A client that goes on stops for a reason that no read says, or parks another call, or none.
  pub said_stops : (old new : Sitting T) (why : End) → why ≢ Reset →
      (old.stopped ≡ None) ⊎ (is_some old.parked ≡ true) →
      new.connection ≡ old.connection → new.stopped ≡ Some why → KeepsAsSaid closes old new
  said_stops old new why other going same stopped has = record {
    stops = subst (λ (o : Option End). StopsAsSaid (closes.said new.connection) new.parked o) (sym stopped)
        (subst (λ (o : Option Over). StopsAsSaid o new.parked (Some why)) (sym (ap closes.said same))
        (stops (closes.said old.connection) old.parked new.parked old.stopped why other going has.stops));
  }

  pub said_parks : (old new : Sitting T) → (old.stopped ≡ None) ⊎ (is_some old.parked ≡ true) →
      new.connection ≡ old.connection → new.stopped ≡ old.stopped → KeepsAsSaid closes old new
  said_parks old new going same still has = record {
    stops = subst (λ (o : Option End). StopsAsSaid (closes.said new.connection) new.parked o) (sym still)
        (subst (λ (o : Option Over). StopsAsSaid o new.parked old.stopped) (sym (ap closes.said same))
        (parks (closes.said old.connection) old.parked new.parked old.stopped going has.stops));
  }

  stops_for : (client new : Sitting T) (why : End) → why ≢ Reset → client.stopped ≡ None →
      new ≡ stopped_for why client → KeepsAsSaid closes client new
  stops_for client new why other going is =
      said_stops client new why other (inl going) (ap (λ (c : Sitting T). c.connection) is)
      (ap (λ (c : Sitting T). c.stopped) is)

  -- A new client.
  pub said_first : (connection : T) (client : Sitting T) → client.connection ≡ connection → IsFree client →
      closes.said connection ≡ None → IsAsSaid closes client
  said_first connection client is free none =
      let said : closes.said client.connection ≡ None = ap closes.said is ∙ none in
      record {
        stops = subst (λ (o : Option Over). StopsAsSaid o client.parked client.stopped) (sym said)
            (λ stopped. let no : None ≡ Some Reset = sym free.1 ∙ stopped in absurd (cc no));
      }

  -- The call is left.
  pub said_left : (old new : Sitting T) (parked : Parked) → old.parked ≡ Some parked →
      new.connection ≡ old.connection → new.stopped ≡ Some Left → KeepsAsSaid closes old new
  said_left old new parked is same left =
      said_stops old new Left (λ (no : Left ≡ Reset). absurd (cc no))
      (inr (ap (λ (p : Option Parked). is_some p) is)) same left

  -- The client is broken off, once it has left its call.
  pub said_broken : (old mid new : Sitting T) (why : End) → why ≢ Reset → KeepsAsSaid closes old mid →
      new ≡ broken_off_for why mid → KeepsAsSaid closes old new
  said_broken old mid new why other keeps is has =
      subst (IsAsSaid closes) (sym is)
      (record { stops = broken (closes.said mid.connection) mid.parked mid.stopped why other (keeps has).stops })

  -- The reply to a hello was gathered, or memory for it was refused.
  said_greeted : (client new : Sitting T) (version : Version) → client.stopped ≡ None →
      GreetsAs version client new → KeepsAsSaid closes client new
  said_greeted client new version going (inl is) =
      said_same client new (ap (λ (c : Sitting T). closes.said c.connection) is) (ap (λ (c : Sitting T). c.parked) is)
      (ap (λ (c : Sitting T). c.stopped) is)
  said_greeted client new version going (inr is) =
      stops_for client new NoMemory (λ (no : NoMemory ≡ Reset). absurd (cc no)) going is

  -- The answer to a hello that is not let in was gathered, or memory for it was refused.
  said_denied : (client new : Sitting T) (version : Version) → client.stopped ≡ None →
      Denies version client new → KeepsAsSaid closes client new
  said_denied client new version going (inl is) =
      said_stops client new NoHello (λ (no : NoHello ≡ Reset). absurd (cc no)) (inl going)
      (ap (λ (c : Sitting T). c.connection) is) (ap (λ (c : Sitting T). c.stopped) is)
  said_denied client new version going (inr is) =
      stops_for client new NoMemory (λ (no : NoMemory ≡ Reset). absurd (cc no)) going is

  pub said_answered : (client new : Sitting T) (version : Version) (is_let_in : Bool) → client.stopped ≡ None →
      MatchBool is_let_in (GreetsAs version client new) (Denies version client new) → KeepsAsSaid closes client new
  said_answered client new version true going answers = said_greeted client new version going answers
  said_answered client new version false going answers = said_denied client new version going answers

  -- Bytes were read, or memory for them was refused.
  arrived : (client new : Sitting T) (bytes : List ℕ) → client.stopped ≡ None → Arrives bytes client new →
      KeepsAsSaid closes client new
  arrived client new bytes going (inl is) =
      said_same client new (ap (λ (c : Sitting T). closes.said c.connection) is) (ap (λ (c : Sitting T). c.parked) is)
      (ap (λ (c : Sitting T). c.stopped) is)
  arrived client new bytes going (inr is) =
      stops_for client new NoMemory (λ (no : NoMemory ≡ Reset). absurd (cc no)) going is

  -- A read returned nothing, and has said nothing.
  pub said_nothing : (old client : Sitting T) (connection : T) → client ≡ old →
      closes.said connection ≡ closes.said client.connection → KeepsAsSaid closes old (on connection client)
  said_nothing old client connection view same =
      said_from old client (on connection client) view (said_same client (on connection client) same refl refl)

  -- One read, and then what is taken up.
  pub said_filled : (old client mid new : Sitting T) (connection : T) (bytes : List ℕ) → client ≡ old → IsFree old →
      closes.said connection ≡ closes.said client.connection → Arrives bytes (on connection client) mid →
      KeepsAsSaid closes mid new → KeepsAsSaid closes old new
  said_filled old client mid new connection bytes view free same arrives taken has =
      taken (arrived (on connection client) mid bytes (free_from old client view free).1 arrives
      (said_nothing old client connection view same has))

  -- Nothing more can be read, and then what is taken up.
  pub said_end : (old client new : Sitting T) (connection : T) → client ≡ old → IsFree old →
      closes.said connection ≡ Some over.End → KeepsAsSaid closes (on connection client) new →
      KeepsAsSaid closes old new
  said_end old client new connection view free said taken has =
      taken (record {
        stops = subst (λ (o : Option Over). StopsAsSaid o client.parked client.stopped) (sym said)
            (λ stopped.
            let no : None ≡ Some Reset = sym (free_from old client view free).1 ∙ stopped in absurd (cc no));
      })

  -- A read said that the connection was reset, or that it failed.
  pub said_reset : (old client new : Sitting T) (connection : T) → client ≡ old → IsFree old →
      closes.said connection ≡ Some over.Reset → new ≡ stopped_for Reset (on connection client) →
      KeepsAsSaid closes old new
  said_reset old client new connection view free said is has =
      subst (IsAsSaid closes) (sym is) (record {
        stops = subst (λ (o : Option Over). StopsAsSaid o client.parked (Some Reset)) (sym said)
            ((free_from old client view free).0, refl);
      })

  pub said_failed : (old client new : Sitting T) (connection : T) → client ≡ old → IsFree old →
      closes.said connection ≡ Some over.Failed → new ≡ stopped_for (Fault Read) (on connection client) →
      KeepsAsSaid closes old new
  said_failed old client new connection view free said is has =
      subst (IsAsSaid closes) (sym is) (record {
        stops = subst (λ (o : Option Over). StopsAsSaid o client.parked (Some (Fault Read))) (sym said)
            ((free_from old client view free).0, refl);
      })

  -- What was taken up of the input.
  pub said_read : (old mid : Sitting T) (dialogue : Dialogue) → mid ≡ conversing dialogue old →
      KeepsAsSaid closes old mid
  said_read old mid dialogue is =
      said_same old mid (ap (λ (c : Sitting T). closes.said c.connection) is) (ap (λ (c : Sitting T). c.parked) is)
      (ap (λ (c : Sitting T). c.stopped) is)

  -- A client is closed.
  pub said_last : (client : Sitting T) → IsAsSaid closes client →
      EndsAsSaid (closes.said client.connection)
      (reported (end_at_close client.parked client.stopped) client.dialogue.unsent.bytes)
  said_last client has =
      reports (closes.said client.connection) (end_at_close client.parked client.stopped)
      client.dialogue.unsent.bytes (ends (closes.said client.connection) client.parked client.stopped has.stops)
