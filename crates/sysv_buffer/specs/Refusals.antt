-- What the refusals of a put and of a take mean at a `OneBuffer`. They describe the buffer by the
-- counts that were loaded. This project's profile.
use Rattle.std.specs.Prelude.{◌≡◌, ◌+◌, ◌^◌, ◌<◌, ◌≤◌, length}
use Rattle.sysv_buffer.specs.Ends.{Putting, Taking}
use Rattle.sysv_buffer.specs.declared.refusals.PutRefused.{PutRefused}
use Rattle.sysv_buffer.specs.declared.refusals.PutRefused.TheVariants as put
use Rattle.sysv_buffer.specs.declared.refusals.TakeRefused.{TakeRefused}
use Rattle.sysv_buffer.specs.declared.refusals.TakeRefused.TheVariants as taken

-- A refused put hands the item back. It is `Full` only if every cell had an item, as far as the end
-- has seen items taken, and fewer than 2^62 items were put. It is `Worn` only if 2^62 items were
-- put.
abbrev pub HandsBack : {T : Type 0} → T → Putting T → PutRefused T → Type 0
HandsBack item after (put.Full back) =
    (back ≡ item) × (after.gone + after.buffer.room ≤ length after.put) × (length after.put < 2 ^ 62)
HandsBack item after (put.Worn back) = (back ≡ item) × (2 ^ 62 ≤ length after.put)

-- A refused take is `Empty` only if all items put, as far as the end has seen them, were taken, and
-- fewer than 2^62 were taken. It is `Worn` only if 2^62 items were taken.
abbrev pub FindsNone : {T : Type 0} → Taking T → TakeRefused → Type 0
FindsNone after taken.Empty = (length after.seen ≤ length after.taken) × (length after.taken < 2 ^ 62)
FindsNone after taken.Worn = 2 ^ 62 ≤ length after.taken
