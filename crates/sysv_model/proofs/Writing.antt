-- Prefixes that are written one after the other.
use Rattle.std.proofs.Common.{◌≡◌, ℕ, ◌+◌, ◌-◌, ◌≤◌, List, ◌++◌, length, take, drop, Option, sym, ap, ◌∙◌}
use lib.Seq.{take-add, take-take}
use Rattle.std.specs.Io.KnownBytes.{Appends}
use Rattle.sysv_lists.proofs.Prefixes.{prefix_take}
use Rattle.sysv_model.specs.Writing.{AppendsPrefix}

-- Appending the first `count` bytes appends a prefix.
pub AppendsPrefix-take : (a b : Option (List ℕ)) (count : ℕ) (bytes : List ℕ) → Appends a b (take count bytes) →
    AppendsPrefix a b bytes
AppendsPrefix-take a b count bytes so_far = (take count bytes, prefix_take count bytes, so_far)

-- The bytes written so far, followed by a prefix of the remaining bytes, are a prefix of all bytes.
pub went : (bytes : List ℕ) (written count : ℕ) → count ≤ length bytes - written
    → take written bytes ++ take count (take (length bytes - written) (drop written bytes))
    ≡ take (written + count) bytes
went bytes written count fits =
    ap (λ more. take written bytes ++ more) (take-take count (length bytes - written) (drop written bytes) fits)
    ∙ sym (take-add written count bytes)
