-- Which callers the connections of sockets let in (this project's profile).
use Rattle.std.specs.Prelude.{◌≡◌, ℕ, List, Option, Contains, IfSome, map}
use Rattle.std.specs.List.{AllByRecursion}
use Rattle.sysv_seats.specs.declared.callers.Callers.{Callers}
use Rattle.sysv_seats.specs.declared.socket_stream.SocketStream.{SocketStream}
use Rattle.sysv_seats.specs.Untold.{callers_of}
use Rattle.sysv_server.specs.declared.doors.Doors.{Doors}
use Rattle.sysv_server.specs.declared.listening.Hosted.{Hosted}
use Rattle.sysv_server.specs.Doors.{Came, OneCame}

-- The callers that a socket lets in.
abbrev pub callers_at : {H : Type 0} → Hosted H → Callers
callers_at hosted = hosted.callers

-- The number by which the host knows a socket.
abbrev pub number_at : {H : Type 0} → Hosted H → ℕ
number_at hosted = hosted.number

-- The sockets of doors, in order.
abbrev pub sockets_at : {L H : Type 0} → Doors L H → List L
sockets_at doors = doors.sockets.items

-- Each of these connections lets in the callers of one of several sockets, which let in these.
abbrev pub EachLetsInOneOf : List Callers → List SocketStream → Type 0
EachLetsInOneOf callers connections =
    AllByRecursion (λ (connection : SocketStream). Contains callers (callers_of connection)) connections

-- A step of a socket that a host opens. It keeps its number and its callers, and the connection that it accepts, if
-- any, lets in these.
abbrev pub HostedSteps : {H : Type 0} → Hosted H → Option SocketStream → Hosted H → Type 0
HostedSteps old step new =
    (number_at new ≡ number_at old) × (callers_at new ≡ callers_at old)
    × IfSome step (λ stream. callers_of stream ≡ callers_at old)

-- A step of doors with such sockets.
abbrev pub DoorsSteps : {H : Type 0} → Doors (Hosted H) H → Option SocketStream → Doors (Hosted H) H → Type 0
DoorsSteps old step new = OneCame HostedSteps (sockets_at old) step (sockets_at new)

-- Whatever steps doors with such sockets made, each connection that they accepted lets in the callers of one of the
-- sockets.
abbrev pub EachConnectionIsLetIn : Type 0 → Type 0
EachConnectionIsLetIn H =
    (before after : Doors (Hosted H) H) (accepted : List SocketStream) → Came DoorsSteps before accepted after →
    EachLetsInOneOf (map callers_at (sockets_at before)) accepted
