-- A journal (this project's word): a borrowed screen whose lines can be made durable, and that counts how often it has
-- failed.
use Rattle.std.specs.Prelude.{◌≡◌, ℕ, Bool}
use Rattle.std.specs.Borrow.{GName}
use Rattle.sysv_clients.specs.declared.journal.Journal.{Journal}
use Rattle.sysv_model.specs.Instrumented.{failures_after}

module _ {S : Type 0} where
  -- The screen.
  abbrev pub journal_stream : Journal S → S
  journal_stream journal = journal.stream.now

  -- The identity of the screen: two journals with the same name borrow the same screen.
  abbrev pub journal_name : Journal S → GName
  journal_name journal = journal.stream.ghost_name

  -- The number of lines at which it has failed, modulo 2 ^ 64.
  abbrev pub journal_failures : Journal S → ℕ
  journal_failures journal = journal.failures

-- It is the same screen after a line at which it failed (true) or did not fail (false), and that failure was counted.
pub record KeepsJournal {S : Type 0} (before after : Journal S) (fails : Bool) : Type 0 where
  pub same : journal_name after ≡ journal_name before
  pub failed : journal_failures after ≡ failures_after fails (journal_failures before)
