-- The end of a session follows the one parse of its input.
use Rattle.std.proofs.Common.{◌≡◌, ◌≢◌, ℕ, ◌+◌, List, [], ◌∷◌, ◌++◌, length, Option, None, Some, Result, Ok, Err, Bool}
use Rattle.std.proofs.Common.{true, false, refl, sym, ap, subst, ◌∙◌, arith, inl, inr, ◌⊎◌, append_assoc, append-nil}
use Rattle.std.proofs.Common.{zero-add}
use Rattle.std.specs.Prelude.{if◌then◌else◌}
use Rattle.std.specs.Io.KnownBytes.{Consumes, IsAtEnd}
use Rattle.std.specs.List.{AllByRecursion}
use Rattle.sysv_model.specs.declared.cred.Cred.{Cred}
use Rattle.sysv_queue.specs.Tally.{Tallied}
use Rattle.sysv_session.specs.declared.served.End.{End}
use Rattle.sysv_session.specs.declared.served.End.TheVariants as «end»
use Rattle.sysv_session.specs.Calls.{Call, IsCall, Meaning}
use Rattle.sysv_session.specs.Parse.{Asked, Asks, Parse, EndsAsTold, IsCutShort, LaterAt, Takes, is_hello, is_version}
use Rattle.sysv_session.specs.Parse.{later, or_hello, stop_answer}
use Rattle.sysv_session.specs.Parse.Parse.{NoRequest, NoHello, BadFirst, Greeted}
use Rattle.sysv_session.specs.Input.{EndsAfter, EndsBefore, FitsHello, IsOfAnother, LaterFault, asked_encoding}
use Rattle.sysv_session.specs.Input.{hello_of}
use Rattle.sysv_session.specs.Input.{hello_encoding}
use Rattle.sysv_session.specs.Session.{ServesBy}
use Rattle.sysv_wire.specs.declared.fault.Fault.{Fault}
use Rattle.sysv_wire.specs.declared.fault.Fault.TheVariants.{Truncated, TooLong, BadOp, BadField, Read}
use Rattle.sysv_wire.specs.declared.frame.Op.TheVariants as op
use Rattle.sysv_wire.specs.declared.frame.Version.{Version}
use Rattle.sysv_wire.specs.declared.frame.Version.TheVariants.{One, Two, Three}
use Rattle.sysv_wire.specs.declared.request.Ask.{Ask}
use Rattle.sysv_wire.specs.declared.request.Ask.TheVariants.{Hello, Get, Snd, Rcv, Stat, Set, Rm, Row, Hold, Done, Back}
use Rattle.sysv_wire.specs.declared.request.Request.{Request}
use Rattle.sysv_wire.specs.Faults.{Faults, RequestFault}
use Rattle.sysv_wire.specs.Frames.{IsUpTo}
use Rattle.sysv_wire.specs.OneAnswer.{OneAnswerToRequests, RequestAt}
use Rattle.sysv_wire.specs.OneEncoding.{OneRequest}
use Rattle.sysv_wire.specs.Requests.{op_of, request_encoding}

no_hello : (ask : Ask) → op_of ask ≢ op.Hello → is_hello ask ≡ false
no_hello (Hello cred) other = absurd (other refl)
no_hello (Get key flags) other = refl
no_hello (Snd id mtype flags) other = refl
no_hello (Rcv id size mtype flags) other = refl
no_hello (Stat id) other = refl
no_hello (Set id to) other = refl
no_hello (Rm id) other = refl
no_hello (Row slot) other = refl
no_hello (Hold id size mtype flags seconds) other = refl
no_hello Done other = refl
no_hello Back other = refl

same_version : (version : Version) → is_version version version ≡ true
same_version One = refl
same_version Two = refl
same_version Three = refl

other_version : (version other : Version) → other ≢ version → is_version version other ≡ false
other_version One One apart = absurd (apart refl)
other_version Two Two apart = absurd (apart refl)
other_version Three Three apart = absurd (apart refl)
other_version One Two apart = refl
other_version One Three apart = refl
other_version Two One apart = refl
other_version Two Three apart = refl
other_version Three One apart = refl
other_version Three Two apart = refl

-- What is read after a hello, for a request of the same version or of another one.
later_by : (version : Version) (request : Request) (b : Bool) → is_version version request.version ≡ b
    → later version (Ok (Some request))
    ≡ (let r : Result (Option Request) Fault = if b then or_hello request else Err BadField in r)
later_by version request b e =
    ap (λ (b : Bool). let r : Result (Option Request) Fault = if b then or_hello request else Err BadField in r) e

later_same : (version : Version) (request : Request) → request.version ≡ version →
    later version (Ok (Some request)) ≡ or_hello request
later_same version request same = later_by version request true (ap (is_version version) same ∙ same_version version)

later_other : (version : Version) (request : Request) → request.version ≢ version →
    later version (Ok (Some request)) ≡ Err BadField
later_other version request apart = later_by version request false (other_version version request.version apart)

later_asked : (version : Version) (request : Request) → request.version ≡ version → is_hello request.ask ≡ false →
    later version (Ok (Some request)) ≡ Ok (Some request)
later_asked version request same other =
    later_same version request same
    ∙ ap (λ (b : Bool). let r : Result (Option Request) Fault = if b then Err BadOp else Ok (Some request) in r) other

-- What is read next if these requests, and then this stop, are next.
next_of : List Asked → Option Fault → Result (Option Request) Fault
next_of [] stop = stop_answer stop
next_of (asked ∷ more) stop = Ok (Some asked.request)

none_stops : (stop : Option Fault) (request : Request) → stop_answer stop ≡ Ok (Some request) → ⊥
none_stops None request same = cc
none_stops (Some fault) request same = cc

-- What is read first in an input with this parse.
TellsFirst : Parse → Result (Option Request) Fault → Type 0
TellsFirst NoRequest answer = answer ≡ Ok None
TellsFirst NoHello answer = (request : Request) × (is_hello request.ask ≡ false) × (answer ≡ Ok (Some request))
TellsFirst (BadFirst fault) answer = answer ≡ Err fault
TellsFirst (Greeted version cred asked stop) answer = answer ≡ Ok (Some (hello_of version cred))

-- A session whose input is at its end at once has the parse of an input without requests.
told_nothing : (parse : Parse) (requests : ℕ) → requests ≡ 0 → TellsFirst parse (Ok None) →
    EndsAsTold parse «end».Ended requests
unfolding TellsFirst
told_nothing NoRequest requests none first = (refl, none)
told_nothing NoHello requests none first = let e = first.2 in cc
told_nothing (BadFirst fault) requests none first = cc
told_nothing (Greeted version cred asked stop) requests none first = cc

told_other : (parse : Parse) (request : Request) (requests : ℕ) → requests ≡ 0 → is_hello request.ask ≡ false →
    TellsFirst parse (Ok (Some request)) → EndsAsTold parse «end».NoHello requests
unfolding TellsFirst
told_other NoRequest request requests none other first = cc
told_other NoHello request requests none other first = (refl, none)
told_other (BadFirst fault) request requests none other first = cc
told_other (Greeted version cred asked stop) request requests none other first =
    let same : request ≡ hello_of version cred = cc in
    let yes : is_hello request.ask ≡ true = ap (λ (r : Request). is_hello r.ask) same in
    cc

told_bad : (parse : Parse) (fault : Fault) (requests : ℕ) → requests ≡ 0 → TellsFirst parse (Err fault) →
    EndsAsTold parse («end».Fault fault) requests
unfolding TellsFirst
told_bad NoRequest fault requests none first = cc
told_bad NoHello fault requests none first = let e = first.2 in cc
told_bad (BadFirst other) fault requests none first =
    let same : fault ≡ other = cc in (ap (λ (f : Fault). let e : End = «end».Fault f in e) same, none)
told_bad (Greeted version cred asked stop) fault requests none first = cc

-- An input at whose end nothing was taken is empty.
none_at : (input : List ℕ) (rest : Option (List ℕ)) → Consumes (Some input) rest [] → IsAtEnd rest → input ≡ []
none_at input None took ended = absurd took
none_at input (Some left) took ended = took ∙ ended

-- All requests of the parse were made if nothing more is read.
told_none : (version : Version) (cred : Cred) (asked more : List Asked) (stop : Option Fault) (n requests : ℕ)
    → next_of more stop ≡ Ok None → length asked ≡ n + length more → requests ≡ 1 + n
    → EndsAsTold (Greeted version cred asked stop) «end».Ended requests
unfolding next_of
told_none version cred asked [] None n requests next len counts = (refl, omega (arith, len, counts))
told_none version cred asked [] (Some fault) n requests next len counts = cc
told_none version cred asked (one ∷ more) stop n requests next len counts = cc

told_fault : (version : Version) (cred : Cred) (asked more : List Asked) (stop : Option Fault) (fault : Fault)
    (n requests : ℕ) → next_of more stop ≡ Err fault → length asked ≡ n + length more → requests ≡ 1 + n
    → EndsAsTold (Greeted version cred asked stop) («end».Fault fault) requests
unfolding next_of
told_fault version cred asked [] None fault n requests next len counts = cc
told_fault version cred asked [] (Some other) fault n requests next len counts =
    let same : fault ≡ other = cc in
    (ap (λ (f : Fault). let e : End = «end».Fault f in e) same, omega (arith, len, counts))
told_fault version cred asked (one ∷ more) stop fault n requests next len counts = cc

-- A session with this newest version.
module _ (newest : Version) where
  one_later : OneAnswerToRequests newest → (version : Version) (input : List ℕ) (a b : Result (Option Request) Fault) →
      LaterAt newest version input a → LaterAt newest version input b → a ≡ b
  one_later one version input a b x y = x.2 ∙ ap (later version) (one input x.0 y.0 x.1 y.1) ∙ sym y.2

  reads_next : (version : Version) → IsUpTo newest version → (input : List ℕ) (asked : List Asked) (stop : Option Fault)
      → Asks newest version input asked stop → LaterAt newest version input (next_of asked stop)
  unfolding next_of
  reads_next version known input [] stop asks = asks
  reads_next version known input (asked ∷ more) stop asks = (
    Ok (Some asked.request),
    (asked.text, asks.0, asks.1.1.1, asks.2, subst (IsUpTo newest) (sym asks.1.0) known),
    sym (later_asked version asked.request asks.1.0 (no_hello asked.request.ask asks.1.1.0)),
  )

  -- The calls that were made are the first requests of the input.
  past : OneAnswerToRequests newest → OneRequest → (version : Version) → IsUpTo newest version
      → (calls : List Call) (behind : List ℕ) (asked : List Asked) (stop : Option Fault)
      → AllByRecursion (IsCall version) calls
      → Asks newest version (asked_encoding calls ++ behind) asked stop
      → (more : List Asked) × (length asked ≡ length calls + length more) × Asks newest version behind more stop
  past oneA oneR version known [] behind asked stop are asks = (asked, sym (zero-add (length asked)), asks)
  past oneA oneR version known (call ∷ calls) behind [] stop are asks =
      let here : LaterAt newest version (asked_encoding (call ∷ calls) ++ behind) (Ok (Some call.request)) = (
        Ok (Some call.request),
        (
          call.text,
          asked_encoding calls ++ behind,
          are.0.0.1.1,
          append_assoc (request_encoding call.request call.text) (asked_encoding calls) behind,
          subst (IsUpTo newest) (sym are.0.0.0) known,
        ),
        sym (later_asked version call.request are.0.0.0 (no_hello call.request.ask are.0.0.1.0)),
      ) in
      absurd (none_stops stop call.request (one_later oneA version _ _ _ asks here))
  past oneA oneR version known (call ∷ calls) behind (asked ∷ more) stop are asks =
      let same =
      oneR call.request asked.request call.text asked.text (asked_encoding calls ++ behind) asks.0 are.0.0.1.1
      asks.1.1.1
      (sym (append_assoc (request_encoding call.request call.text) (asked_encoding calls) behind) ∙ asks.2) in
      let rest = past oneA oneR version known calls behind more stop are.1
      (subst (λ (l : List ℕ). Asks newest version l more stop) (sym same.2) asks.3) in
      (rest.0, omega (arith, rest.1), rest.2)

  reads_first : OneAnswerToRequests newest → (input : List ℕ) (answer : Result (Option Request) Fault) →
      RequestAt newest input answer →
      (parse : Parse) → Takes newest input parse → TellsFirst parse answer
  unfolding TellsFirst
  reads_first oneA input answer here NoRequest takes = oneA input answer (Ok None) here takes
  reads_first oneA input answer here NoHello takes =
      (takes.0, takes.1, oneA input answer (Ok (Some takes.0)) here takes.2)
  reads_first oneA input answer here (BadFirst fault) takes = oneA input answer (Err fault) here takes
  reads_first oneA input answer here (Greeted version cred asked stop) takes =
      oneA input answer (Ok (Some (hello_of version cred))) here ([], takes.0, takes.1.0, takes.2, takes.1.1)

  -- The first bytes of the input cause the fault, unless the reader failed.
  fault_at : (fault : Fault) (input : List ℕ) (rest : Option (List ℕ)) →
      Faults (RequestFault newest) fault (Some input) rest →
      RequestAt newest input (Err fault) ⊎ IsCutShort («end».Fault fault)
  fault_at fault input None found = absurd found.1
  fault_at Truncated input (Some left) found =
      let whole : input ≡ found.0 = found.1 ∙ ap (λ (l : List ℕ). found.0 ++ l) found.3 ∙ append-nil found.0 in
      inl (subst (λ (l : List ℕ). RequestFault newest Truncated l) (sym whole) found.2)
  fault_at TooLong input (Some left) found = inl (found.0, left, found.2, found.1)
  fault_at BadOp input (Some left) found = inl (found.0, left, found.2, found.1)
  fault_at BadField input (Some left) found = inl (found.0, left, found.2, found.1)
  fault_at Read input (Some left) found = inr tt

  as_later : (version : Version) (fault : Fault) (input : List ℕ) →
      RequestAt newest input (Err fault) ⊎ IsCutShort («end».Fault fault) →
      LaterAt newest version input (Err fault) ⊎ IsCutShort («end».Fault fault)
  as_later version fault input (inl here) = inl (Err fault, here, refl)
  as_later version fault input (inr cut) = inr cut

  -- A request of another version is refused.
  other_at : (version : Version) (input left taken : List ℕ) → IsOfAnother newest version taken →
      input ≡ taken ++ left →
      LaterAt newest version input (Err BadField)
  other_at version input left taken another parts = (
    Ok (Some another.0),
    (another.1, left, another.3, parts ∙ ap (λ (l : List ℕ). l ++ left) another.4, another.5),
    sym (later_other version another.0 another.2),
  )

  later_fault_at : (version : Version) (fault : Fault) (input : List ℕ) (rest : Option (List ℕ)) →
      Faults (LaterFault newest version) fault (Some input) rest →
      LaterAt newest version input (Err fault) ⊎ IsCutShort («end».Fault fault)
  later_fault_at version Truncated input rest found =
      as_later version Truncated input (fault_at Truncated input rest found)
  later_fault_at version TooLong input rest found = as_later version TooLong input (fault_at TooLong input rest found)
  later_fault_at version BadOp input None found = absurd found.1
  later_fault_at version BadOp input (Some left) found = elim found.2 [
    | inl why ↦ inl (Err BadOp, (found.0, left, why, found.1), refl)
    | inr hello ↦ inl (
      Ok (Some (hello_of version hello.0)),
      ([], left, hello.1.0, found.1 ∙ ap (λ (l : List ℕ). l ++ left) hello.2, hello.1.1),
      sym (later_same version (hello_of version hello.0) refl),
    )
  ]
  later_fault_at version BadField input None found = absurd found.1
  later_fault_at version BadField input (Some left) found = elim found.2 [
    | inl why ↦ inl (Err BadField, (found.0, left, why, found.1), refl)
    | inr another ↦ inl (other_at version input left found.0 another found.1)
  ]
  later_fault_at version Read input rest found = inr tt

  no_bad : OneAnswerToRequests newest → (parse : Parse) (fault : Fault) (input : List ℕ) (requests : ℕ) → requests ≡ 0
      → Takes newest input parse → RequestAt newest input (Err fault) ⊎ IsCutShort («end».Fault fault)
      → EndsAsTold parse («end».Fault fault) requests ⊎ IsCutShort («end».Fault fault)
  no_bad oneA parse fault input requests none takes (inl here) =
      inl (told_bad parse fault requests none (reads_first oneA input (Err fault) here parse takes))
  no_bad oneA parse fault input requests none takes (inr cut) = inr cut

  -- A session without a hello.
  before : OneAnswerToRequests newest → (why : End) (input : List ℕ) (rest : Option (List ℕ)) (requests : ℕ)
      → requests ≡ 0
      → EndsBefore newest why (Some input) rest → (parse : Parse) → Takes newest input parse
      → EndsAsTold parse why requests ⊎ IsCutShort why
  before oneA «end».Ended input rest requests none ends parse takes =
      inl (told_nothing parse requests none
      (reads_first oneA input (Ok None) (none_at input rest ends.0 ends.1) parse takes))
  before oneA «end».NoMemory input rest requests none ends parse takes = inr tt
  before oneA «end».NoHello input None requests none ends parse takes = absurd ends.3
  before oneA «end».NoHello input (Some left) requests none ends parse takes =
      inl (told_other parse ends.0 requests none (no_hello ends.0.ask ends.2.0)
      (reads_first oneA input (Ok (Some ends.0)) (ends.1, left, ends.2.1, ends.3, ends.4) parse takes))
  before oneA («end».Fault fault) input rest requests none ends parse takes =
      no_bad oneA parse fault input requests none takes (fault_at fault input rest ends)
  before oneA «end».Write input rest requests none ends parse takes = absurd ends
  before oneA «end».Bound input rest requests none ends parse takes = absurd ends
  before oneA «end».Left input rest requests none ends parse takes = absurd ends
  before oneA «end».Reset input rest requests none ends parse takes = absurd ends

  later_bad : OneAnswerToRequests newest → (version : Version) → IsUpTo newest version
      → (cred : Cred) (asked more : List Asked) (stop : Option Fault) (fault : Fault) (n requests : ℕ)
      (left : List ℕ) → Asks newest version left more stop → length asked ≡ n + length more → requests ≡ 1 + n
      → LaterAt newest version left (Err fault) ⊎ IsCutShort («end».Fault fault)
      → EndsAsTold (Greeted version cred asked stop) («end».Fault fault) requests ⊎ IsCutShort («end».Fault fault)
  later_bad oneA version known cred asked more stop fault n requests left asks len counts (inl here) =
      inl (told_fault version cred asked more stop fault n requests
      (one_later oneA version left _ _ (reads_next version known left more stop asks) here) len counts)
  later_bad oneA version known cred asked more stop fault n requests left asks len counts (inr cut) = inr cut

  finishes : OneAnswerToRequests newest → (version : Version) → IsUpTo newest version
      → (cred : Cred) (asked more : List Asked) (stop : Option Fault) (why : End) (n requests : ℕ)
      (left : List ℕ) (rest : Option (List ℕ)) → Asks newest version left more stop
      → length asked ≡ n + length more → requests ≡ 1 + n → EndsAfter newest version why (Some left) rest
      → EndsAsTold (Greeted version cred asked stop) why requests ⊎ IsCutShort why
  finishes oneA version known cred asked more stop «end».Ended n requests left rest asks len counts ends =
      inl (told_none version cred asked more stop n requests (one_later oneA version left _ _
      (reads_next version known left more stop asks) (Ok None, none_at left rest ends.0 ends.1, refl)) len counts)
  finishes oneA version known cred asked more stop «end».NoMemory n requests left rest asks len counts ends =
      absurd ends
  finishes oneA version known cred asked more stop «end».NoHello n requests left rest asks len counts ends = absurd ends
  finishes oneA version known cred asked more stop («end».Fault fault) n requests left rest asks len counts ends =
      later_bad oneA version known cred asked more stop fault n requests left asks len counts
      (later_fault_at version fault left rest ends)
  finishes oneA version known cred asked more stop «end».Write n requests left rest asks len counts ends = inr tt
  finishes oneA version known cred asked more stop «end».Bound n requests left rest asks len counts ends = inr tt
  finishes oneA version known cred asked more stop «end».Left n requests left rest asks len counts ends = inr tt
  finishes oneA version known cred asked more stop «end».Reset n requests left rest asks len counts ends = absurd ends

  -- A session with a hello.
  after : OneAnswerToRequests newest → OneRequest
      → (version : Version) (cred : Cred) (calls : List Call) (why : End) (requests : ℕ) (input : List ℕ)
      (behind rest : Option (List ℕ)) → FitsHello newest version cred
      → AllByRecursion (IsCall version) calls
      → Consumes (Some input) behind (hello_encoding version cred ++ asked_encoding calls)
      → EndsAfter newest version why behind rest → requests ≡ 1 + length calls
      → (parse : Parse) → Takes newest input parse → EndsAsTold parse why requests ⊎ IsCutShort why
  unfolding TellsFirst
  after oneA oneR version cred calls why requests input None rest known are reads ends counts parse takes = absurd reads
  after oneA oneR version cred calls why requests input (Some left) rest known are reads ends counts parse takes =
      let whole : input ≡ hello_encoding version cred ++ (asked_encoding calls ++ left) =
      reads ∙ append_assoc (hello_encoding version cred) (asked_encoding calls) left in
      greeted parse takes whole
      (reads_first oneA input (Ok (Some (hello_of version cred)))
      ([], asked_encoding calls ++ left, known.0, whole, known.1) parse
      takes)
    where
      greeted : (parse : Parse) → Takes newest input parse →
          input ≡ hello_encoding version cred ++ (asked_encoding calls ++ left) →
          TellsFirst parse (Ok (Some (hello_of version cred))) → EndsAsTold parse why requests ⊎ IsCutShort why
      greeted NoRequest takes whole first = cc
      greeted NoHello takes whole first =
          let same : hello_of version cred ≡ first.0 = let e = first.2 in cc in
          let yes : is_hello first.0.ask ≡ true = sym (ap (λ (r : Request). is_hello r.ask) same) in
          let no = first.1 in cc
      greeted (BadFirst fault) takes whole first = cc
      greeted (Greeted second other asked stop) takes whole first =
          let same = oneR (hello_of version cred) (hello_of second other) [] [] (asked_encoding calls ++ left) takes.0
          known.0 takes.1.0 (sym whole ∙ takes.2) in
          let versions : second ≡ version = sym (ap (λ (r : Request). r.version) same.0) in
          let next : Asks newest version (asked_encoding calls ++ left) asked stop =
          subst (λ (v : Version). Asks newest v (asked_encoding calls ++ left) asked stop) versions
          (subst (λ (l : List ℕ). Asks newest second l asked stop) (sym same.2) takes.3) in
          let rest_of = past oneA oneR version known.1 calls left asked stop are next in
          subst (λ (v : Version). EndsAsTold (Greeted v other asked stop) why requests ⊎ IsCutShort why) (sym versions)
          (finishes oneA version known.1 other asked rest_of.0 stop why (length calls) requests left rest rest_of.2
          rest_of.1
          counts ends)

  pub follows : {K : Type 0} → OneAnswerToRequests newest → OneRequest
      → (Means : Meaning K) (slots : ℕ) (why : End) (tally : Tallied) (requests : ℕ) (old new : K) (input : List ℕ)
      (left rest taken more : Option (List ℕ))
      → left ≡ Some input → ServesBy newest Means slots why tally requests old new left rest taken more
      → (parse : Parse)
      → Takes newest input parse → EndsAsTold parse why requests ⊎ IsCutShort why
  follows oneA oneR Means slots why tally requests old new input left rest taken more known (inl stays) parse takes =
      before oneA why input rest requests stays.counts
      (subst (λ (l : Option (List ℕ)). EndsBefore newest why l rest) known stays.ends) parse takes
  follows oneA oneR Means slots why tally requests old new input left rest taken more known (inr converses) parse
      takes =
      after oneA oneR converses.version converses.cred converses.calls why requests input converses.unread rest
      converses.known
      converses.are_calls
      (subst (λ (l : Option (List ℕ)).
      Consumes l converses.unread (hello_encoding converses.version converses.cred ++ asked_encoding converses.calls))
      known converses.reads)
      converses.ends converses.counts parse takes
