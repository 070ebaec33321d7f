-- How a program ends: its exit status (this project's programs).
use Rattle.std.specs.Prelude.{◌≡◌, ◌↔◌}
use Rattle.std.specs.Process.{exit_status}
use Rattle.std.specs.declared.process.ExitCode.{ExitCode}

-- The program succeeds.
abbrev pub Succeeds : ExitCode → Type 0
Succeeds exit = exit_status exit ≡ 0

-- The program fails.
abbrev pub Fails : ExitCode → Type 0
Fails exit = Succeeds exit → ⊥

-- The program succeeds exactly if this holds.
abbrev pub SucceedsIf : Type 0 → ExitCode → Type 0
SucceedsIf Done exit = Succeeds exit ↔ Done

-- The program succeeds only if this holds.
abbrev pub SucceedsOnlyIf : Type 0 → ExitCode → Type 0
SucceedsOnlyIf Done exit = Succeeds exit → Done
