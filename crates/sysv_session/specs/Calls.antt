-- The calls that a session makes of a handler, and the handler that they lead to (this project's
-- profile).
use Rattle.std.specs.Prelude.{◌≡◌, ℕ, List, [], ◌∷◌, count_by}
use Rattle.sysv_model.specs.declared.cred.Cred.{Cred}
use Rattle.sysv_session.specs.declared.handler.RequestOutcome.{RequestOutcome}
use Rattle.sysv_session.specs.Answers.{IsAskedIn, MayAnswer, is_message}
use Rattle.sysv_wire.specs.declared.frame.Version.{Version}
use Rattle.sysv_wire.specs.declared.request.Request.{Request}

-- One call: the request and the outcome, each with its body.
pub record Call : Type 0 where
  pub request : Request
  pub text : List ℕ
  pub outcome : RequestOutcome
  pub given : List ℕ

-- In a session of this version, the handler may receive the request, and may return the outcome.
abbrev pub IsCall : Version → Call → Type 0
IsCall version call =
    IsAskedIn version call.request call.text × MayAnswer call.request.version call.request.ask call.outcome call.given

-- What a handler's calls mean: a relation between the handler before, the caller's credentials, the
-- request with its body, the outcome with its body, and the handler after.
abbrev pub Meaning : Type 0 → Type 1
Meaning K = K → Cred → Request → List ℕ → RequestOutcome → List ℕ → K → Type 0

-- The calls were made in this order, all with these credentials, and lead from the old handler to
-- the new one by what the handler's calls mean.
abbrev pub Leads : {K : Type 0} → Meaning K → Cred → K → List Call → K → Type 0
Leads Means cred old [] new = new ≡ old
Leads {K} Means cred old (call ∷ calls) new =
    (mid : K) × Means old cred call.request call.text call.outcome call.given mid × Leads Means cred mid calls new

-- The number of calls whose outcome is a message.
abbrev pub messages_of : List Call → ℕ
messages_of calls = count_by (λ call. is_message call.outcome) calls
