-- The sockets of a server before they are opened (this project's programs).
use Rattle.std.specs.Prelude.{◌≡◌, ℕ, List, false, map}
use Rattle.std.specs.List.{AllByRecursion, enumerate_from}
use Rattle.sysv_seats.specs.declared.callers.Callers.{Callers}
use Rattle.sysv_server.specs.declared.listening.Hosted.{Hosted}
use Rattle.sysv_server.specs.LetIn.{callers_at, number_at}
use Rattle.sysv_server.specs.Listening.{has_opened}

-- The number of a socket, and the callers that it lets in.
abbrev pub numbered : {H : Type 0} → Hosted H → ℕ × Callers
numbered hosted = (number_at hosted, callers_at hosted)

-- None of these sockets is open.
abbrev pub AreClosed : {H : Type 0} → List (Hosted H) → Type 0
AreClosed {H} sockets = AllByRecursion (λ (hosted : Hosted H). has_opened hosted ≡ false) sockets

-- These sockets, of which none is open, let in these callers, one each, in order. Each has the number of its place.
abbrev pub AreSocketsFor : {H : Type 0} → List Callers → List (Hosted H) → Type 0
AreSocketsFor callers sockets = AreClosed sockets × (map numbered sockets ≡ enumerate_from 0 callers)
