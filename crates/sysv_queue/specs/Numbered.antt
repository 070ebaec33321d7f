-- The acceptance numbers of the queued messages (this profile's). Each is below the arrived count,
-- which is the number of the next message.
use Rattle.std.specs.Prelude.{ℕ, ◌<◌, List}
use Rattle.std.specs.List.{All}
use Rattle.sysv_model.specs.Message.{Message}

-- Each message's number is below this count.
abbrev pub AreNumberedBelow : ℕ → List Message → Type 0
AreNumberedBelow count messages = All (λ (m : Message). m.number < count) messages
