-- What a book keeps of connections that are closed, and connections that do not tell their bytes
-- (this project's profile).
use Rattle.std.specs.Prelude.{ℕ, ⊤, List, Option, None}
use Rattle.sysv_seats.specs.declared.callers.Callers.{Callers}
use Rattle.sysv_seats.specs.declared.limits.Limits.{Limits}
use Rattle.sysv_seats.specs.declared.non_blocking.Over.{Over}
use Rattle.sysv_seats.specs.declared.socket_stream.SocketStream.{SocketStream}
use Rattle.sysv_seats.specs.Breaking.{Breaks, any_under}

-- How connections end: what may break off a session on one; why nothing more can be read from it, if a
-- read has said so; and how its close changes a book, by what was still to be read and what was written.
pub record Closing (T B : Type 0) : Type 1 where
  pub breaks : T → Breaks
  pub said : T → Option Over
  pub leaves : B → Option (List ℕ) → Option (List ℕ) → B → Type 0

-- The callers that a connection lets in.
abbrev pub lets_in : {T B : Type 0} → Closing T B → T → Callers
lets_in closes connection = (closes.breaks connection).callers

-- A connection that does not tell its bytes.
abbrev pub untold : {T : Type 0} → T → Option (List ℕ)
untold connection = None

-- The limits under which a server may cut off the client of a socket.
abbrev pub limits_of : SocketStream → Limits
limits_of socket = socket.limits

-- The callers that a socket lets in.
abbrev pub callers_of : SocketStream → Callers
callers_of socket = socket.callers

-- Sockets: everything may happen to one, except for a cut under another limit than its own. A socket keeps
-- what its reads have said, and its close leaves nothing.
abbrev pub closing_sockets : Closing SocketStream ⊤
closing_sockets = record {
  breaks = λ socket. any_under (limits_of socket) (callers_of socket);
  said = λ socket. socket.over;
  leaves = λ book rest more book'. ⊤;
}
