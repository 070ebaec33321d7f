-- What is kept of connections in memory (this project's profile).
use Rattle.std.specs.Prelude.{◌≡◌, ◌<◌, ◌≤◌, ℕ, List, [], ◌∷◌, ◌++◌, map, Option, None, Some, vec_len, vec_capacity}
use Rattle.sysv_seats.specs.declared.book.Replies.{Replies}
use Rattle.sysv_seats.specs.PacedStreams.{PacedStream, breaks_of}
use Rattle.sysv_seats.specs.Untold.{Closing}

-- The replies of the closed connections, connection by connection, in the order in which they were
-- closed.
abbrev pub replies_in : Replies → List (List ℕ)
replies_in book = map (λ page. page.items) book.kept.items

-- This was written to one more connection. It is added at the end of the book if there is room.
abbrev pub KeepsMore : Replies → List ℕ → Replies → Type 0
KeepsMore book written book' =
    (vec_capacity book'.kept ≡ vec_capacity book.kept)
    × (vec_len book.kept < vec_capacity book.kept → replies_in book' ≡ replies_in book ++ written ∷ [])
    × (vec_capacity book.kept ≤ vec_len book.kept → book' ≡ book)

-- One more connection was closed, whatever it had still to be read.
abbrev pub Keeps : Replies → Option (List ℕ) → Option (List ℕ) → Replies → Type 0
Keeps book rest None book' = ⊥
Keeps book rest (Some written) book' = KeepsMore book written book'

-- How connections in memory end.
abbrev pub closing_in_memory : Closing PacedStream Replies
closing_in_memory = record { breaks = breaks_of; said = λ stream. stream.said; leaves = Keeps }
