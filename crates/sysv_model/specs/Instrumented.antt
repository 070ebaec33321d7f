-- An instrumented stream (this project's word): a borrowed reader or writer that counts how often it has
-- failed since it was borrowed.
use Rattle.std.specs.Prelude.{◌≡◌, ◌≢◌, ℕ, Bool, true, false, not, ◌&&◌, ◌==◌, ◌+◌, ◌%◌, ◌^◌, List, length, Result, Ok}
use Rattle.std.specs.Prelude.{Err}
use Rattle.std.specs.Borrow.{GName}
use Rattle.std.proofs.lemmas.Bool.{and_left, ne_eqb}
use Rattle.sysv_model.specs.declared.instrumented.Instrumented.{Instrumented}

module _ {S : Type 0} where
  -- The stream.
  abbrev pub stream_of : Instrumented S → S
  stream_of instrumented = instrumented.stream.now

  -- The identity of the stream: two instrumented streams with the same name are the same stream.
  abbrev pub stream_name : Instrumented S → GName
  stream_name instrumented = instrumented.stream.ghost_name

  -- The number of its reads, writes and flushes that have failed, modulo 2 ^ 64.
  abbrev pub failures_of : Instrumented S → ℕ
  failures_of instrumented = instrumented.failures

-- The count after a call that failed (true) or did not fail (false). A failure changes the count.
abbrev pub failures_after : Bool → ℕ → ℕ
failures_after true failures = (failures + 1) % 2 ^ 64
failures_after false failures = failures

-- It is the same stream after a call that failed (true) or did not fail (false), and that failure
-- was counted.
pub record KeepsStream {S : Type 0} (before after : Instrumented S) (fails : Bool) : Type 0 where
  pub same : stream_name after ≡ stream_name before
  pub failed : failures_of after ≡ failures_after fails (failures_of before)

-- A write was given some bytes and took none of them.
abbrev pub takes_none : ℕ → List ℕ → Bool
takes_none count bytes = (count == 0) && not (length bytes == 0)

-- A write failed: it returned an error, or it was given some bytes and took none of them.
abbrev pub write_failed : {E : Type 0} → Result ℕ E → List ℕ → Bool
write_failed (Ok count) bytes = takes_none count bytes
write_failed (Err error) bytes = true

-- A write that took some bytes did not take none.
pub takes_none-some : (count : ℕ) (bytes : List ℕ) → count ≢ 0 → takes_none count bytes ≡ false
takes_none-some count bytes took = and_left (count == 0) (not (length bytes == 0)) (ne_eqb count 0 took)
