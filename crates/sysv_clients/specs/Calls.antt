-- The calls of a session (this project's programs): its requests with their replies, and a plan
-- that states what is requested next. A session that holds messages has version 3 of the frames, and any
-- other one version 2: that is the version where none is named.
use Rattle.std.specs.Prelude.{◌≡◌, ⊤, ℕ, ℤ, pos, List, [], ◌∷◌, ◌++◌, Option, Some, Err, flat_map, fold}
use Rattle.std.specs.Io.KnownBytes.{Appends, Consumes}
use Rattle.sysv_clients.specs.declared.fault.ClientFault.{ClientFault}
use Rattle.sysv_clients.specs.Asks.{request_in}
use Rattle.sysv_clients.specs.Dialogue.{ExchangesIn, IsDoneIn, id_after, reply_in}
use Rattle.sysv_wire.specs.declared.frame.Version.{Version}
use Rattle.sysv_wire.specs.declared.frame.Version.TheVariants.{Two}
use Rattle.sysv_wire.specs.declared.reply.ReplyContent.{ReplyContent}
use Rattle.sysv_wire.specs.declared.request.Ask.{Ask}
use Rattle.sysv_wire.specs.Replies.{reply_encoding}
use Rattle.sysv_wire.specs.Requests.{request_encoding}

-- A request with the body that it sends, and the result in its reply with the body.
pub record Call : Type 0 where
  pub ask : Ask
  pub text : List ℕ
  pub answer : ReplyContent
  pub given : List ℕ

-- The frames of the requests in this version, in order.
abbrev pub written_in : Version → List Call → List ℕ
written_in version calls = flat_map (λ call. request_encoding (request_in version call.ask) call.text) calls

abbrev pub written_by : List Call → List ℕ
written_by calls = written_in Two calls

-- The frames of the replies in this version, in order.
abbrev pub read_in : Version → List Call → List ℕ
read_in version calls = flat_map (λ call. reply_encoding (reply_in version call.ask call.answer) call.given) calls

abbrev pub read_by : List Call → List ℕ
read_by calls = read_in Two calls

-- The identifier that the msgget returned, 0 before it.
abbrev pub id_in : List Call → ℤ
id_in calls = fold (λ found call. id_after found call.answer) (pos 0) calls

-- The request of a call in this version was done.
abbrev pub IsCallDoneIn : Version → Call → Type 0
IsCallDoneIn version call = IsDoneIn version call.ask call.answer call.given

abbrev pub IsCallDone : Call → Type 0
IsCallDone call = IsCallDoneIn Two call

-- Each of these calls passes.
abbrev pub Each : (Call → Type 0) → List Call → Type 0
Each Passes [] = ⊤
Each Passes (call ∷ more) = Passes call × Each Passes more

-- A plan of requests: what is requested after these calls. Nothing if all requests were made.
abbrev pub Plan : Type 0
Plan = List Call → Option Ask

-- After some calls, these follow: each request is the next of the plan, and each call may pass.
abbrev pub FollowsPlan : (Call → Type 0) → Plan → List Call → List Call → Type 0
FollowsPlan Passes plan before [] = ⊤
FollowsPlan Passes plan before (call ∷ more) =
    (plan before ≡ Some call.ask) × Passes call × FollowsPlan Passes plan (before ++ call ∷ []) more

-- The next request in this version, with this body, ends the session with a fault.
abbrev pub BreaksPlanIn : Version → Plan → List Call → List ℕ → ClientFault →
    (left rest taken more : Option (List ℕ)) → Type 0
BreaksPlanIn version plan calls text why left rest taken more =
    (ask : Ask) × (plan calls ≡ Some ask)
    × ExchangesIn version (request_encoding (request_in version ask) text) ask (Err why) left rest taken more []

abbrev pub BreaksPlan : Plan → List Call → List ℕ → ClientFault → (left rest taken more : Option (List ℕ)) → Type 0
BreaksPlan plan calls text why left rest taken more = BreaksPlanIn Two plan calls text why left rest taken more

-- These calls of a plan were made. What was written is their requests in this version, and what was read
-- is their replies.
pub record MadeIn (version : Version) (Passes : Call → Type 0) (plan : Plan) (calls : List Call)
    (left rest taken more : Option (List ℕ)) : Type 0 where
  pub follows : FollowsPlan Passes plan [] calls
  pub reads : Consumes left rest (read_in version calls)
  pub writes : Appends taken more (written_in version calls)

abbrev pub Made : (Call → Type 0) → Plan → List Call → (left rest taken more : Option (List ℕ)) → Type 0
Made Passes plan calls left rest taken more = MadeIn Two Passes plan calls left rest taken more
