-- What a session takes up next (this project's profile): its hello, and then one request after
-- another for the handler, until what it reads ends it or it has had the maximum number of
-- requests.
use Rattle.std.specs.Prelude.{◌≡◌, ◌<◌, ◌≤◌, ◌+◌, ◌⊎◌, ℕ, List, [], Option, None, Some, Result, Ok, Err}
use Rattle.std.specs.Io.KnownBytes.{Consumes, IsAtEnd}
use Rattle.sysv_model.specs.declared.cred.Cred.{Cred}
use Rattle.sysv_session.specs.declared.served.End.{End}
use Rattle.sysv_session.specs.declared.served.End.TheVariants.{Ended, NoMemory, NoHello, Fault, Write, Bound, Left}
use Rattle.sysv_session.specs.declared.served.End.TheVariants.{Reset}
use Rattle.sysv_session.specs.declared.served.TheConstants.{SESSION_REQUESTS}
use Rattle.sysv_session.specs.declared.session.Session.{Session}
use Rattle.sysv_session.specs.declared.session.TakenUp.{TakenUp}
use Rattle.sysv_session.specs.declared.session.TakenUp.TheVariants.{Hello, Request as Asked}
use Rattle.sysv_session.specs.Answers.{IsAskedIn}
use Rattle.sysv_session.specs.Input.{Greets, LaterFault}
use Rattle.sysv_wire.specs.declared.frame.Version.{Version}
use Rattle.sysv_wire.specs.declared.request.Request.{Request}
use Rattle.sysv_wire.specs.Faults.{Faults}
use Rattle.sysv_wire.specs.Requests.{request_encoding}

-- What a session with this newest version reads.
module _ (newest : Version) where
  -- A request of this version is read for the handler; or the input is at its end; or there is a
  -- fault.
  abbrev pub TakesRequest : Version → Result Request End → (left rest : Option (List ℕ)) → List ℕ → Type 0
  TakesRequest version (Ok request) left rest text =
      Consumes left rest (request_encoding request text) × IsAskedIn version request text
  TakesRequest version (Err Ended) left rest text = Consumes left rest [] × IsAtEnd rest
  TakesRequest version (Err (Fault fault)) left rest text = Faults (LaterFault newest version) fault left rest
  TakesRequest version (Err NoMemory) left rest text = ⊥
  TakesRequest version (Err NoHello) left rest text = ⊥
  TakesRequest version (Err Write) left rest text = ⊥
  TakesRequest version (Err Bound) left rest text = ⊥
  TakesRequest version (Err Left) left rest text = ⊥
  TakesRequest version (Err Reset) left rest text = ⊥

  -- What a session read ends it: no hello; or no request, after its hello; or nothing was read, since
  -- it has had the maximum number of requests.
  abbrev pub EndsHere : Option (Version × Cred) → ℕ → End → (left rest : Option (List ℕ)) → List ℕ → Type 0
  EndsHere None requests why left rest text = Greets newest (Err why) left rest
  EndsHere (Some caller) requests why left rest text =
      ((SESSION_REQUESTS ≤ requests) × (why ≡ Bound) × (rest ≡ left))
      ⊎ ((requests < SESSION_REQUESTS) × TakesRequest caller.0 (Err why) left rest text)

-- A session takes up its hello if it has read none, and else a request of the hello's version for
-- the handler, with the hello's credentials. Or it ends here, and is unchanged.
abbrev pub TakesUp : Session → Session → Result TakenUp End → (left rest : Option (List ℕ)) → List ℕ → Type 0
TakesUp old new (Ok (Hello version)) left rest text = (cred : Cred) × (old.caller ≡ None)
    × Greets old.newest (Ok (version, cred)) left rest
    × (new ≡ record { newest = old.newest; caller = Some (version, cred); tally = old.tally; requests = 1 })
TakesUp old new (Ok (Asked cred request)) left rest text = (version : Version) × (old.caller ≡ Some (version, cred))
    × (old.requests < SESSION_REQUESTS) × TakesRequest old.newest version (Ok request) left rest text
    × (new ≡ record { newest = old.newest; caller = old.caller; tally = old.tally; requests = old.requests + 1 })
TakesUp old new (Err why) left rest text = (new ≡ old) × EndsHere old.newest old.caller old.requests why left rest text
