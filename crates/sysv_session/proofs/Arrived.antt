-- What a session takes up from the bytes that have arrived, it takes up from the whole input, which
-- goes on with what the connection still has.
use Rattle.std.proofs.Common.{◌≡◌, ◌≢◌, ℕ, ◌⊎◌, List, [], ◌++◌, Option, None, Some, Result, Ok, Err, sym, ap, ap₂}
use Rattle.std.proofs.Common.{subst}
use Rattle.std.proofs.Common.{◌∙◌, arith, inl, inr, append_assoc, append-nil}
use Rattle.std.specs.Prelude.{⊤}
use Rattle.std.specs.Io.KnownBytes.{Consumes, IsAtEnd, prepend_known}
use Rattle.sysv_model.specs.declared.cred.Cred.{Cred}
use Rattle.sysv_session.specs.declared.served.End.{End}
use Rattle.sysv_session.specs.declared.served.End.TheVariants.{Ended, NoMemory, NoHello, Fault, Write, Bound, Left}
use Rattle.sysv_session.specs.declared.served.End.TheVariants.{Reset}
use Rattle.sysv_session.specs.declared.session.Session.{Session}
use Rattle.sysv_session.specs.declared.session.TakenUp.{TakenUp}
use Rattle.sysv_session.specs.declared.session.TakenUp.TheVariants.{Hello, Request as Asked}
use Rattle.sysv_session.specs.Input.{EndsBefore, LaterFault}
use Rattle.sysv_session.specs.TakenUp.{EndsHere, TakesRequest, TakesUp}
use Rattle.sysv_wire.specs.declared.arrived.FrameIn.{FrameIn}
use Rattle.sysv_wire.specs.declared.arrived.FrameIn.TheVariants.{Whole, Refused, More}
use Rattle.sysv_wire.specs.declared.fault.Fault.{Fault as WireFault}
use Rattle.sysv_wire.specs.declared.fault.Fault.TheVariants.{Truncated, TooLong, BadOp, BadField, Read}
use Rattle.sysv_wire.specs.declared.frame.Version.{Version}
use Rattle.sysv_wire.specs.declared.request.Request.{Request}
use Rattle.sysv_wire.specs.Arrived.{FrameAt, ReadsAs}
use Rattle.sysv_wire.specs.Faults.{Faults, RequestFault}
use Rattle.sysv_wire.specs.OneAnswer.{OneAnswerToRequests, RequestAt}

-- This fault does not depend on what follows, or nothing follows.
abbrev pub IsSettledFault : WireFault → Option (List ℕ) → Type 0
IsSettledFault Truncated more = IsAtEnd more
IsSettledFault TooLong more = ⊤
IsSettledFault BadOp more = ⊤
IsSettledFault BadField more = ⊤
IsSettledFault Read more = ⊤

abbrev pub IsSettledEnd : End → Option (List ℕ) → Type 0
IsSettledEnd Ended more = IsAtEnd more
IsSettledEnd NoMemory more = ⊤
IsSettledEnd NoHello more = ⊤
IsSettledEnd (Fault fault) more = IsSettledFault fault more
IsSettledEnd Write more = ⊤
IsSettledEnd Bound more = ⊤
IsSettledEnd Left more = ⊤
IsSettledEnd Reset more = ⊤

-- What was taken up does not depend on what follows, or nothing follows.
abbrev pub IsSettled : Result TakenUp End → Option (List ℕ) → Type 0
IsSettled (Ok taken_up) more = ⊤
IsSettled (Err why) more = IsSettledEnd why more

-- The known bytes, and then what follows.
abbrev known_before : Option (List ℕ) → Option (List ℕ) → Option (List ℕ)
known_before None more = None
known_before (Some bytes) more = prepend_known bytes more

consumes_more : (bytes rest taken : List ℕ) (more : Option (List ℕ)) → Consumes (Some bytes) (Some rest) taken →
    Consumes (prepend_known bytes more) (prepend_known rest more) taken
consumes_more bytes rest taken None took = tt
consumes_more bytes rest taken (Some xs) took = ap (λ (l : List ℕ). l ++ xs) took ∙ append_assoc taken rest xs

at_end_more : (rest : List ℕ) (more : Option (List ℕ)) → rest ≡ [] → IsAtEnd more → IsAtEnd (prepend_known rest more)
at_end_more rest None none last = tt
at_end_more rest (Some xs) none last = ap₂ (λ (a b : List ℕ). a ++ b) none last

faults_more : (IsWhy : WireFault → List ℕ → Type 0) (fault : WireFault) (bytes rest : List ℕ) (more : Option (List ℕ))
    → IsSettledFault fault more → Faults IsWhy fault (Some bytes) (Some rest) →
    Faults IsWhy fault (prepend_known bytes more) (prepend_known rest more)
faults_more IsWhy Truncated bytes rest more last why =
    (why.0, consumes_more bytes rest why.0 more why.1, why.2, at_end_more rest more why.3 last)
faults_more IsWhy TooLong bytes rest more last why = (why.0, consumes_more bytes rest why.0 more why.1, why.2, tt)
faults_more IsWhy BadOp bytes rest more last why = (why.0, consumes_more bytes rest why.0 more why.1, why.2, tt)
faults_more IsWhy BadField bytes rest more last why = (why.0, consumes_more bytes rest why.0 more why.1, why.2, tt)
faults_more IsWhy Read bytes rest more last why = (why.0, consumes_more bytes rest why.0 more why.1, why.2, tt)

-- The bytes hold a whole request, or one that is refused.
abbrev pub IsDecided : FrameIn → Type 0
IsDecided (Whole length) = ⊤
IsDecided (Refused fault) = ⊤
IsDecided (More least) = ⊥

-- At the end of the input each result is settled.
pub settled_at_end : (result : Result TakenUp End) (more : Option (List ℕ)) → IsAtEnd more → IsSettled result more
settled_at_end (Ok taken_up) more last = tt
settled_at_end (Err Ended) more last = last
settled_at_end (Err NoMemory) more last = tt
settled_at_end (Err NoHello) more last = tt
settled_at_end (Err (Fault Truncated)) more last = last
settled_at_end (Err (Fault TooLong)) more last = tt
settled_at_end (Err (Fault BadOp)) more last = tt
settled_at_end (Err (Fault BadField)) more last = tt
settled_at_end (Err (Fault Read)) more last = tt
settled_at_end (Err Write) more last = tt
settled_at_end (Err Bound) more last = tt
settled_at_end (Err Left) more last = tt
settled_at_end (Err Reset) more last = tt

-- What a session with this newest version takes up.
module _ (newest : Version) where
  before_more : (why : End) (bytes rest : List ℕ) (more : Option (List ℕ)) → IsSettledEnd why more →
      EndsBefore newest why (Some bytes) (Some rest) →
      EndsBefore newest why (prepend_known bytes more) (prepend_known rest more)
  before_more Ended bytes rest more last here =
      (consumes_more bytes rest [] more here.0, at_end_more rest more here.1 last)
  before_more NoMemory bytes rest more last here = ap (λ (o : Option (List ℕ)). known_before o more) here
  before_more NoHello bytes rest more last here =
      (here.0, here.1, here.2, consumes_more bytes rest _ more here.3, here.4)
  before_more (Fault fault) bytes rest more last here =
      faults_more (RequestFault newest) fault bytes rest more last here
  before_more Write bytes rest more last here = absurd here
  before_more Bound bytes rest more last here = absurd here
  before_more Left bytes rest more last here = absurd here
  before_more Reset bytes rest more last here = absurd here

  request_more : (version : Version) (why : End) (bytes rest text : List ℕ) (more : Option (List ℕ)) →
      IsSettledEnd why more → TakesRequest newest version (Err why) (Some bytes) (Some rest) text →
      TakesRequest newest version (Err why) (prepend_known bytes more) (prepend_known rest more) text
  request_more version Ended bytes rest text more last here =
      (consumes_more bytes rest [] more here.0, at_end_more rest more here.1 last)
  request_more version NoMemory bytes rest text more last here = absurd here
  request_more version NoHello bytes rest text more last here = absurd here
  request_more version (Fault fault) bytes rest text more last here =
      faults_more (LaterFault newest version) fault bytes rest more last here
  request_more version Write bytes rest text more last here = absurd here
  request_more version Bound bytes rest text more last here = absurd here
  request_more version Left bytes rest text more last here = absurd here
  request_more version Reset bytes rest text more last here = absurd here

  here_more : (caller : Option (Version × Cred)) (requests : ℕ) (why : End) (bytes rest text : List ℕ)
      (more : Option (List ℕ)) → IsSettledEnd why more →
      EndsHere newest caller requests why (Some bytes) (Some rest) text →
      EndsHere newest caller requests why (prepend_known bytes more) (prepend_known rest more) text
  here_more None requests why bytes rest text more last here = (before_more why bytes rest more last here.0, here.1)
  here_more (Some caller) requests why bytes rest text more last (inl bound) =
      inl (bound.0, bound.1, ap (λ (o : Option (List ℕ)). known_before o more) bound.2)
  here_more (Some caller) requests why bytes rest text more last (inr read) =
      inr (read.0, request_more caller.0 why bytes rest text more last read.1)

  -- The bytes are no request, or end within one: what ends a session only at the end of the input.
  abbrev IsUnfinished : List ℕ → Type 0
  IsUnfinished bytes = RequestAt newest bytes (Ok None) ⊎ RequestAt newest bytes (Err Truncated)

  alone : (bytes : List ℕ) (answer : Result (Option Request) WireFault) → RequestAt newest (bytes ++ []) answer →
      RequestAt newest bytes answer
  alone bytes answer at = subst (λ (l : List ℕ). RequestAt newest l answer) (append-nil bytes) at

  decided_by : OneAnswerToRequests newest → (bytes : List ℕ) (answer : Result (Option Request) WireFault) →
      RequestAt newest bytes answer → answer ≢ Ok None → answer ≢ Err Truncated → IsUnfinished bytes → ⊥
  decided_by one bytes answer at some whole (inl none) = some (one bytes answer (Ok None) at none)
  decided_by one bytes answer at some whole (inr cut) = whole (one bytes answer (Err Truncated) at cut)

  decided : OneAnswerToRequests newest → (bytes : List ℕ) (found : FrameIn) → FrameAt newest bytes found →
      ReadsAs newest bytes found →
      IsDecided found → IsUnfinished bytes → ⊥
  decided one bytes (Whole n) holds reads is unfinished =
      decided_by one bytes (Ok (Some reads.0)) (alone bytes (Ok (Some reads.0)) (reads.2 [])) (λ e. grind (arith, e))
      (λ e. grind (arith, e)) unfinished
  decided one bytes (Refused Truncated) holds reads is unfinished = absurd holds
  decided one bytes (Refused TooLong) holds reads is unfinished =
      decided_by one bytes (Err TooLong) holds (λ e. grind (arith, e)) (λ e. grind (arith, e)) unfinished
  decided one bytes (Refused BadOp) holds reads is unfinished =
      decided_by one bytes (Err BadOp) holds (λ e. grind (arith, e)) (λ e. grind (arith, e)) unfinished
  decided one bytes (Refused BadField) holds reads is unfinished =
      decided_by one bytes (Err BadField) holds (λ e. grind (arith, e)) (λ e. grind (arith, e)) unfinished
  decided one bytes (Refused Read) holds reads is unfinished = absurd holds
  decided one bytes (More least) holds reads is unfinished = absurd is

  -- An end of these bytes alone: they are unfinished.
  unfinished_fault : (bytes rest taken : List ℕ) → Consumes (Some bytes) (Some rest) taken → rest ≡ [] →
      RequestFault newest Truncated taken → IsUnfinished bytes
  unfinished_fault bytes rest taken took none cut =
      let all : bytes ≡ taken = took ∙ ap (λ (l : List ℕ). taken ++ l) none ∙ append-nil taken in
      inr (subst (RequestFault newest Truncated) (sym all) cut)

  unfinished_end : (bytes rest : List ℕ) → Consumes (Some bytes) (Some rest) [] → rest ≡ [] → IsUnfinished bytes
  unfinished_end bytes rest took none = inl (took ∙ none)

  settled_before : (why : End) (bytes rest : List ℕ) (more : Option (List ℕ)) → (IsUnfinished bytes → ⊥) →
      EndsBefore newest why (Some bytes) (Some rest) → IsSettledEnd why more
  settled_before Ended bytes rest more never here = absurd (never (unfinished_end bytes rest here.0 here.1))
  settled_before NoMemory bytes rest more never here = tt
  settled_before NoHello bytes rest more never here = tt
  settled_before (Fault Truncated) bytes rest more never here =
      absurd (never (unfinished_fault bytes rest here.0 here.1 here.3 here.2))
  settled_before (Fault TooLong) bytes rest more never here = tt
  settled_before (Fault BadOp) bytes rest more never here = tt
  settled_before (Fault BadField) bytes rest more never here = tt
  settled_before (Fault Read) bytes rest more never here = tt
  settled_before Write bytes rest more never here = tt
  settled_before Bound bytes rest more never here = tt
  settled_before Left bytes rest more never here = tt
  settled_before Reset bytes rest more never here = tt

  settled_request : (version : Version) (why : End) (bytes rest text : List ℕ) (more : Option (List ℕ)) →
      (IsUnfinished bytes → ⊥) → TakesRequest newest version (Err why) (Some bytes) (Some rest) text →
      IsSettledEnd why more
  settled_request version Ended bytes rest text more never here =
      absurd (never (unfinished_end bytes rest here.0 here.1))
  settled_request version NoMemory bytes rest text more never here = tt
  settled_request version NoHello bytes rest text more never here = tt
  settled_request version (Fault Truncated) bytes rest text more never here =
      absurd (never (unfinished_fault bytes rest here.0 here.1 here.3 here.2))
  settled_request version (Fault TooLong) bytes rest text more never here = tt
  settled_request version (Fault BadOp) bytes rest text more never here = tt
  settled_request version (Fault BadField) bytes rest text more never here = tt
  settled_request version (Fault Read) bytes rest text more never here = tt
  settled_request version Write bytes rest text more never here = tt
  settled_request version Bound bytes rest text more never here = tt
  settled_request version Left bytes rest text more never here = tt
  settled_request version Reset bytes rest text more never here = tt

  settled_here : (caller : Option (Version × Cred)) (requests : ℕ) (why : End) (bytes rest text : List ℕ)
      (more : Option (List ℕ)) → (IsUnfinished bytes → ⊥) →
      EndsHere newest caller requests why (Some bytes) (Some rest) text → IsSettledEnd why more
  settled_here None requests why bytes rest text more never here = settled_before why bytes rest more never here.0
  settled_here (Some caller) requests why bytes rest text more never (inl bound) =
      subst (λ (w : End). IsSettledEnd w more) (sym bound.1) tt
  settled_here (Some caller) requests why bytes rest text more never (inr read) =
      settled_request caller.0 why bytes rest text more never read.1

-- What is taken up from the bytes that have arrived is taken up from all that is unread.
pub takes_up_more : (old new : Session) (result : Result TakenUp End) (bytes rest text : List ℕ)
    (more : Option (List ℕ)) → IsSettled result more → TakesUp old new result (Some bytes) (Some rest) text →
    TakesUp old new result (prepend_known bytes more) (prepend_known rest more) text
takes_up_more old new (Ok (Hello version)) bytes rest text more last takes =
    (takes.0, takes.1, (takes.2.0, consumes_more bytes rest _ more takes.2.1), takes.3)
takes_up_more old new (Ok (Asked cred request)) bytes rest text more last takes =
    (takes.0, takes.1, takes.2, (consumes_more bytes rest _ more takes.3.0, takes.3.1), takes.4)
takes_up_more old new (Err why) bytes rest text more last takes =
    (takes.0, here_more old.newest old.caller old.requests why bytes rest text more last takes.1)

-- What is taken up from bytes that hold a whole request, or one that is refused, is settled.
pub settled_by_frame : (newest : Version) → OneAnswerToRequests newest →
    (old new : Session) (result : Result TakenUp End)
    (bytes rest text : List ℕ) (more : Option (List ℕ)) (found : FrameIn) → old.newest ≡ newest →
    FrameAt newest bytes found →
    ReadsAs newest bytes found →
    IsDecided found → TakesUp old new result (Some bytes) (Some rest) text → IsSettled result more
settled_by_frame newest one old new (Ok taken_up) bytes rest text more found limit holds reads is takes = tt
settled_by_frame newest one old new (Err why) bytes rest text more found limit holds reads is takes =
    settled_here newest old.caller old.requests why bytes rest text more (decided newest one bytes found holds reads is)
    (subst (λ (n : Version). EndsHere n old.caller old.requests why (Some bytes) (Some rest) text) limit takes.1)
