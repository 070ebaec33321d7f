-- The sockets of a server (this project's programs).
use Rattle.std.specs.Prelude.{List, [], ◌∷◌, ◌++◌, cond, is_some, map, take}
use Rattle.sysv_seats.specs.declared.callers.Callers.{Callers}
use Rattle.sysv_seats.specs.declared.callers.Callers.TheVariants.{Anyone, Only}
use Rattle.sysv_options.specs.declared.asked.Serving.{Serving}
use Rattle.sysv_options.specs.declared.sockets.Entrance.{Entrance}
use Rattle.sysv_options.specs.declared.sockets.Entrances.{Entrances}

-- These sockets, in order.
abbrev pub listed : Entrances → List Entrance
listed entrances = take entrances.count entrances.sockets

-- The sockets of a server that are opened together, in order. The first one lets in anyone, unless the server does
-- without it.
abbrev pub sockets_of : Serving → List Entrance
sockets_of serving =
    cond serving.no_main (listed serving.others)
    (record { file = serving.file; callers = Anyone } ∷ listed serving.others)

-- The callers that these sockets let in, in order.
abbrev pub common_let_in : Serving → List Callers
common_let_in serving = map (λ (socket : Entrance). socket.callers) (sockets_of serving)

-- The callers that all sockets of a server let in, in order. If sessions are served alone, they are so at one more
-- socket, the last one, which lets in only user 0 with group 0.
abbrev pub callers_let_in : Serving → List Callers
callers_let_in serving = common_let_in serving ++ cond (is_some serving.alone) (Only 0 0 ∷ []) []
