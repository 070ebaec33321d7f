-- What is known of the lines of an input that is sent line by line (this project's programs). All lines that
-- earlier reads returned were sent before the input was read again.
use Rattle.std.specs.Prelude.{◌≡◌, ℕ, ◌+◌, ◌-◌, ◌^◌, ◌==◌, min, not, Bool, false, List, [], ◌∷◌, length, count_by}
use Rattle.std.specs.Prelude.{get_or, if◌then◌else◌}
use Rattle.sysv_connect.specs.declared.progress.Lines.{Lines}

-- The number of lines that end in these bytes.
abbrev pub lines_in : List ℕ → ℕ
lines_in bytes = count_by (λ byte. byte == 10) bytes

-- The number of lines that may be sent after a read that returned these bytes: those that end in them, or at the
-- end of the input the last line, if one has begun.
abbrev pub lines_to_send : (is_open : Bool) → List ℕ → ℕ
lines_to_send is_open [] = if is_open then 1 else 0
lines_to_send is_open (first ∷ more) = lines_in (first ∷ more)

-- Whether a line has begun and not ended after a read that returned these bytes.
abbrev pub has_begun : List ℕ → Bool
has_begun [] = false
has_begun (first ∷ more) = not (get_or (first ∷ more) (length more) 0 == 10)

-- What is known after a read that returned these bytes, by what was known before: the lines that could be sent then
-- were sent.
pub record Knows (before : Lines) (bytes : List ℕ) (after : Lines) : Type 0 where
  pub sent : after.sent ≡ min (before.sent + before.unknown) (2 ^ 64 - 1)
  pub unknown : after.unknown ≡ lines_to_send before.is_open bytes
  pub is_open : after.is_open ≡ has_begun bytes
